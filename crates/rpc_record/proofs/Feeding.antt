-- What feeding and looking say of a stream that the caller keeps.
use Rattle.std.proofs.Common.{Bool, true, false, cond, ◌≡◌, ℕ, ◌<◌, ◌≤◌, List, [], ◌∷◌, ◌++◌, length, take, refl, sym, ap, subst, ◌∙◌, arith}
use Rattle.std.proofs.Common.{Option, Some, None, IsSome}
use Rattle.std.proofs.lemmas.List.{append-nil}
use Rattle.std.proofs.Math.Seq.{take-length}
use Rattle.rpc_record.specs.Machine.{State, Outcome, More, Made, Fault, scan, outcome, IsMore}
use Rattle.rpc_record.specs.Stream.{Reading, read_stream}
use Rattle.rpc_record.specs.declared.reassembler.Step.{Step}
use Rattle.rpc_record.specs.declared.reassembler.Step.TheVariants as steps
use Rattle.rpc_record.specs.declared.reassembler.Look.TheVariants as looks
use Rattle.rpc_record.specs.Feeds.{Feeds, GivesNothing, given, look_at, LookAgrees, Foresees, GoesOn}
use Rattle.rpc_record.proofs.Scans.{IsBefore, scan-take}
use Rattle.rpc_record.proofs.Streams.{ReadsTo, reads_to, more_read, made_read, fault_read}

-- an answer to bytes that lead to no record and no fault
pub feeds_more : (failed : Bool) (s new : State) (now : Option State) (bytes : List ℕ) (taken : ℕ) → IsSome now → cond failed None (Some s) ≡ now
    → scan 0 s bytes ≡ More new → taken ≡ length bytes
    → Feeds now bytes taken steps.More (cond failed None (Some new))
feeds_more true s new now bytes taken some v e all = let none : IsSome {T = State} None = subst (λ (o : Option State). IsSome o) (sym v) some in absurd cc
feeds_more false s new now bytes taken some v e all = (all, (new, ap (λ (o : Option State). outcome o bytes) (sym v) ∙ e, refl))

-- the same, by the answer alone
pub more_gives_nothing : (bytes : List ℕ) (old new : Option State) (taken : ℕ) (step : Step) → IsMore (outcome old bytes) → Feeds old bytes taken step new
    → GivesNothing step
more_gives_nothing bytes old new taken (steps.Record made) more f = let wrong : Made taken made.items ≡ More more.0 = sym f.2 ∙ more.1 in absurd cc
more_gives_nothing bytes old new taken steps.More more f = tt
more_gives_nothing bytes old new taken steps.Fault more f = let wrong : Fault taken ≡ More more.0 = sym f.1 ∙ more.1 in absurd cc
more_gives_nothing bytes old new taken steps.NoMemory more f = tt

-- Fewer bytes

-- the count is in the outcome
fault_at : (n m : ℕ) → Fault n ≡ Fault m → n ≡ m
fault_at n m e = cc

-- bytes before the end of a record or a fault
fewer_scanned : (bytes : List ℕ) (s : State) (o : Outcome) (n : ℕ) → scan 0 s bytes ≡ o → IsBefore n o → IsMore (scan 0 s (take n bytes))
fewer_scanned bytes s o n e h = scan-take 0 n s bytes o e (subst (λ (k : ℕ). IsBefore k o) (omega arith) h)

-- Fewer bytes than a feed takes lead to no record and no fault.
pub feeds_fewer : (bytes : List ℕ) (old new : Option State) (taken n : ℕ) (step : Step) → Feeds old bytes taken step new → n < taken
    → IsMore (outcome old (take n bytes))
feeds_fewer bytes None new taken n (steps.Record made) f h = let wrong : Fault 0 ≡ Made taken made.items = f.2 in absurd cc
feeds_fewer bytes None new taken n steps.More f h = let wrong : Fault 0 ≡ More f.1.0 = f.1.1 in absurd cc
feeds_fewer bytes None new taken n steps.Fault f h = absurd (omega (arith, h, fault_at 0 taken f.1))
feeds_fewer bytes None new taken n steps.NoMemory f h = absurd (omega (arith, h, f.0))
feeds_fewer bytes (Some s) new taken n (steps.Record made) f h = fewer_scanned bytes s (Made taken made.items) n f.2 h
feeds_fewer bytes (Some s) new taken n steps.More f h = fewer_scanned bytes s (More f.1.0) n f.1.1 tt
feeds_fewer bytes (Some s) new taken n steps.Fault f h = fewer_scanned bytes s (Fault taken) n f.1 h
feeds_fewer bytes (Some s) new taken n steps.NoMemory f h = absurd (omega (arith, h, f.0))

-- the same, by the look
outcome_fewer : (bytes : List ℕ) (s : State) (n : ℕ) (o : Outcome) → scan 0 s bytes ≡ o → n < (look_at bytes o).0 → IsMore (scan 0 s (take n bytes))
outcome_fewer bytes s n (More u) e h = fewer_scanned bytes s (More u) n e tt
outcome_fewer bytes s n (Made k made) e h = fewer_scanned bytes s (Made k made) n e h
outcome_fewer bytes s n (Fault k) e h = fewer_scanned bytes s (Fault k) n e h

-- Fewer bytes than a look tells lead to no record and no fault.
pub look_fewer : (bytes : List ℕ) (old : Option State) (n : ℕ) → n < (look_at bytes (outcome old bytes)).0 → IsMore (outcome old (take n bytes))
look_fewer bytes None n h = absurd (omega (arith, h))
look_fewer bytes (Some s) n h = outcome_fewer bytes s n (scan 0 s bytes) refl h

-- Whole streams

-- what leads to no record and no fault goes on
pub more_goes_on : (stream bytes : List ℕ) (old : Option State) → (read_stream stream).at ≡ old → IsMore (outcome old bytes) → GoesOn stream bytes
more_goes_on stream bytes None at more = let wrong : Fault 0 ≡ More more.0 = more.1 in absurd cc
more_goes_on stream bytes (Some s) at more = (more.0, more_read stream bytes s more.0 at more.1)

-- where nothing was taken, the stream stays
none_taken : (stream bytes : List ℕ) (n : ℕ) → n ≡ 0 → stream ++ take n bytes ≡ stream
none_taken stream bytes n e = ap (λ (k : ℕ). stream ++ take k bytes) e ∙ append-nil stream

-- no record more
no_more_records : (r : Reading) (records : List (List ℕ)) (new at : Option State) → r ≡ record { records = records; at = at } → new ≡ at
    → r ≡ record { records = records ++ []; at = new }
no_more_records r records new at e same =
    e ∙ ap (λ (o : Option State). record { records = records; at = o }) (sym same)
    ∙ ap (λ (all : List (List ℕ)). record { records = all; at = new }) (sym (append-nil records))

-- where nothing was taken, nothing is read
nothing_read : (stream bytes : List ℕ) (n : ℕ) (old new : Option State) → (read_stream stream).at ≡ old → n ≡ 0 → new ≡ old
    → read_stream (stream ++ take n bytes) ≡ record { records = (read_stream stream).records ++ []; at = new }
nothing_read stream bytes n old new at none same =
    no_more_records (read_stream (stream ++ take n bytes)) (read_stream stream).records new old
    (ap read_stream (none_taken stream bytes n none) ∙ ap (λ (o : Option State). record { records = (read_stream stream).records; at = o }) at) same

-- A feed reads on in the stream: the records are those before and the one given.
pub feeds_read : (stream bytes : List ℕ) (old new : Option State) (taken : ℕ) (step : Step) → (read_stream stream).at ≡ old → Feeds old bytes taken step new
    → read_stream (stream ++ take taken bytes) ≡ record { records = (read_stream stream).records ++ given step; at = new }
feeds_read stream bytes None new taken (steps.Record made) at f = let wrong : Fault 0 ≡ Made taken made.items = f.2 in absurd cc
feeds_read stream bytes None new taken steps.More at f = let wrong : Fault 0 ≡ More f.1.0 = f.1.1 in absurd cc
feeds_read stream bytes None new taken steps.Fault at f = nothing_read stream bytes taken None new at (sym (fault_at 0 taken f.1)) f.2
feeds_read stream bytes None new taken steps.NoMemory at f = nothing_read stream bytes taken None new at f.0 f.2
feeds_read stream bytes (Some s) new taken (steps.Record made) at f =
    (made_read stream bytes made.items s taken at f.2).2
    ∙ ap (λ (o : Option State). record { records = (read_stream stream).records ++ made.items ∷ []; at = o }) (sym f.3)
feeds_read stream bytes (Some s) new taken steps.More at f =
    ap (λ (k : ℕ). read_stream (stream ++ take k bytes)) f.0
    ∙ ap (λ (x : List ℕ). read_stream (stream ++ x)) (take-length bytes)
    ∙ no_more_records (read_stream (stream ++ bytes)) (read_stream stream).records new (Some f.1.0) (more_read stream bytes s f.1.0 at f.1.1) f.1.2
feeds_read stream bytes (Some s) new taken steps.Fault at f =
    no_more_records (read_stream (stream ++ take taken bytes)) (read_stream stream).records new None (fault_read stream bytes s taken at f.1).2 f.2
feeds_read stream bytes (Some s) new taken steps.NoMemory at f = nothing_read stream bytes taken (Some s) new at f.0 f.2

-- Looking

-- no more is looked at than is there
outcome_within : (bytes : List ℕ) (s : State) (o : Outcome) → ReadsTo 0 s bytes o → (look_at bytes o).0 ≤ length bytes
outcome_within bytes s (More u) h = omega arith
outcome_within bytes s (Made n made) h = omega (arith, h.1, h.3)
outcome_within bytes s (Fault n) h = omega (arith, h.1, h.3)

-- A look tells no more than is there.
pub look_within : (bytes : List ℕ) (old : Option State) → (look_at bytes (outcome old bytes)).0 ≤ length bytes
look_within bytes None = omega arith
look_within bytes (Some s) = outcome_within bytes s (scan 0 s bytes) (reads_to 0 s bytes)

-- A look tells what a feed takes and answers.
pub feeds_tell : (old new : Option State) (bytes : List ℕ) (taken : ℕ) (step : Step) → Feeds old bytes taken step new
    → LookAgrees (look_at bytes (outcome old bytes)) taken step
feeds_tell old new bytes taken (steps.Record made) f = ap (look_at bytes) f.2
feeds_tell old new bytes taken steps.More f = ap (look_at bytes) f.1.1 ∙ ap (λ (k : ℕ). (k, looks.More)) (sym f.0)
feeds_tell old new bytes taken steps.Fault f = ap (look_at bytes) f.1
feeds_tell old new bytes taken steps.NoMemory f = tt

-- what an outcome says of the stream
outcome_foreseen : (stream bytes : List ℕ) (s : State) (o : Outcome) → (read_stream stream).at ≡ Some s → scan 0 s bytes ≡ o
    → Foresees stream bytes (look_at bytes o).0 (look_at bytes o).1
outcome_foreseen stream bytes s (More u) at e = (refl, (u, more_read stream bytes s u at e))
outcome_foreseen stream bytes s (Made n made) at e = let r = made_read stream bytes made s n at e in (r.0, r.1, (made, r.2))
outcome_foreseen stream bytes s (Fault n) at e = let r = fault_read stream bytes s n at e in (r.1, r.2)

-- what a look says of the stream
pub look_foresees : (stream bytes : List ℕ) (old : Option State) → (read_stream stream).at ≡ old
    → Foresees stream bytes (look_at bytes (outcome old bytes)).0 (look_at bytes (outcome old bytes)).1
look_foresees stream bytes None at =
    (omega arith, ap read_stream (none_taken stream bytes 0 refl) ∙ ap (λ (o : Option State). record { records = (read_stream stream).records; at = o }) at)
look_foresees stream bytes (Some s) at = outcome_foreseen stream bytes s (scan 0 s bytes) at refl
