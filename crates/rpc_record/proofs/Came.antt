-- What feeding says of all that has come since the last record.
use Rattle.std.proofs.Common.{◌≡◌, ℕ, ◌+◌, ◌<◌, ◌≤◌, List, [], ◌++◌, length, get_or, take, refl, sym, subst, ◌∙◌, arith, Option, Some, None}
use Rattle.rpc_record.specs.Records.{IsRecord, IsAtFault}
use Rattle.rpc_record.specs.Machine.{State, start, More, Made, Fault, scan}
use Rattle.rpc_record.specs.Stream.{AreBytes}
use Rattle.rpc_record.specs.declared.reassembler.Step.{Step}
use Rattle.rpc_record.specs.declared.reassembler.Step.TheVariants as steps
use Rattle.rpc_record.specs.Feeds.{Feeds, HasCome, Says}
use Rattle.rpc_record.proofs.Bytes.{are_bytes, AreBytes-append}
use Rattle.rpc_record.proofs.Runs.{none_yet, no_fault_yet}
use Rattle.rpc_record.proofs.Scans.{scan-append, more_any}
use Rattle.rpc_record.proofs.Standing.{Stands, scan_says}
use Rattle.rpc_record.proofs.Standing as standing

-- where what came stands
pub come_stands : (came : List ℕ) (s : State) → HasCome came (Some s) → Stands came s
come_stands came s h =
    subst (standing.Says 0 [] came) h.1 (scan_says 0 [] start came h.0
    (record { parts = []; joined_is = refl; came_is = refl; short = omega arith; bytes = tt; small = omega arith }))

-- more bytes, without a record or a fault
come_more : (came bytes : List ℕ) (s u : State) → HasCome came (Some s) → AreBytes bytes → scan 0 s bytes ≡ More u → HasCome (came ++ bytes) (Some u)
come_more came bytes s u h b e =
    (AreBytes-append came bytes h.0 b, scan-append 0 start came bytes s h.1 ∙ more_any 0 (0 + length came) s bytes u e)

-- a record's end
come_made : (came bytes made : List ℕ) (s : State) (n : ℕ) → HasCome came (Some s) → AreBytes bytes → scan 0 s bytes ≡ Made n made
    → (n ≤ length bytes) × IsRecord made (came ++ take n bytes)
come_made came bytes made s n h b e =
    let says : standing.Says 0 came bytes (Made n made) = subst (standing.Says 0 came bytes) e (scan_says 0 came s bytes b (come_stands came s h)) in
    let same : says.0 ≡ n = omega (arith, says.1) in
    (omega (arith, says.2), subst (λ (k : ℕ). IsRecord made (came ++ take k bytes)) same says.3)

-- a header at fault
come_fault : (came bytes : List ℕ) (s : State) (n : ℕ) → HasCome came (Some s) → AreBytes bytes → scan 0 s bytes ≡ Fault n
    → (n ≤ length bytes) × IsAtFault (came ++ take n bytes)
come_fault came bytes s n h b e =
    let says : standing.Says 0 came bytes (Fault n) = subst (standing.Says 0 came bytes) e (scan_says 0 came s bytes b (come_stands came s h)) in
    let same : says.0 ≡ n = omega (arith, says.1) in
    (omega (arith, says.2), subst (λ (k : ℕ). IsAtFault (came ++ take k bytes)) same says.3)

-- What a feed by the machine says in the words of whole streams.
pub feeds_say : (came bytes : List ℕ) (old new : Option State) (taken : ℕ) (step : Step) → ((i : ℕ) → get_or bytes i 0 < 256)
    → Feeds old bytes taken step new → HasCome came old → Says came bytes taken step new
feeds_say came bytes None new taken step b f h = absurd h
feeds_say came bytes (Some s) new taken (steps.Record made) b f h =
    let m = come_made came bytes made.items s taken h (are_bytes bytes b) f.2 in
    (m.0, m.1, f.3)
feeds_say came bytes (Some s) new taken steps.More b f h =
    let more = come_more came bytes s f.1.0 h (are_bytes bytes b) f.1.1 in
    (f.0, none_yet (came ++ bytes) f.1.0 more.1, no_fault_yet (came ++ bytes) f.1.0 more.1, subst (HasCome (came ++ bytes)) (sym f.1.2) more)
feeds_say came bytes (Some s) new taken steps.Fault b f h =
    let m = come_fault came bytes s taken h (are_bytes bytes b) f.1 in
    (m.0, m.1, f.2)
feeds_say came bytes (Some s) new taken steps.NoMemory b f h = (f.0, subst (HasCome came) (sym f.2) h)
