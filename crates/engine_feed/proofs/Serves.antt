-- What a codec owes that cuts streams into records, whatever they are heard as.
use Rattle.std.proofs.Common.{◌≡◌, ℕ, ◌≤◌, List, [], ◌∷◌, ◌++◌, length, Option, Some, None, Result, Ok, Err, refl, sym, ap, subst, ◌∙◌, arith}
use Rattle.std.specs.Prelude.{map, IfSome}
use Rattle.std.specs.List.{AllByRecursion}
use Rattle.std.proofs.lemmas.List.{append-nil, map_push}
use Rattle.rpc_record.specs.Machine.{State, Next, Goes, Ends, Faults, after}
use Rattle.rpc_record.specs.Stream.{Reading, reading_at, byte_read, read_stream}
use Rattle.nfs_model.specs.Types.{Reply}
use Rattle.nfs_model.specs.World.{Heard, Scanned, IsScan, IsDecoded}
use Rattle.rpc_msg.specs.declared.offer.Offer.{Offer}
use Rattle.engine_feed.specs.Codec.{heard, reply_record_by}
use Rattle.engine_feed.specs.Streams.{served_of, fault_at, codec}
use Rattle.engine_feed.proofs.Scanning.{joined, read_stream-push, served_of-append}
use Rattle.engine_feed.proofs.Records.{heard-decoded}

-- ---- one more byte

-- what a byte adds to a scan
abbrev Adds : Scanned → Scanned → Type 0
Adds old new = (more : List Heard) × (new.served ≡ old.served ++ more) × (length more ≤ 1) × IfSome new.fault (λ number. more ≡ [])

nothing_told : (xs : List Heard) (o : Option ℕ) → IfSome o (λ number. xs ≡ xs)
nothing_told xs None = tt
nothing_told xs (Some n) = refl

adds_none : (scanned : Scanned) → Adds scanned scanned
adds_none scanned = ([], sym (append-nil scanned.served), omega arith, nothing_told [] scanned.fault)

adds_read : (old : Scanned) (r : Result Heard ℕ) → Adds old (joined old.served (served_of (r ∷ []) None))
adds_read old (Ok h) = (h ∷ [], refl, omega arith, tt)
adds_read old (Err n) = ([], refl, omega arith, refl)

adds_fault : (old : Scanned) → Adds old (joined old.served (record { served = []; fault = Some 11 }))
adds_fault old = ([], refl, omega arith, refl)

-- after a header at fault there is a fault
faulty : (rs : List (Result Heard ℕ)) (number : ℕ) → (served_of rs (Some number)).fault ≡ None → ⊥
faulty [] number e = absurd cc
faulty (Ok h ∷ rs) number e = faulty rs number e
faulty (Err n ∷ rs) number e = absurd cc

all_from : (P : Heard → Type 0) (r : Result Heard ℕ) (others : List (Result Heard ℕ)) (fault : Option ℕ) → ((h : Heard) → r ≡ Ok h → P h)
    → AllByRecursion P (served_of others fault).served → AllByRecursion P (served_of (r ∷ others) fault).served
all_from P (Ok h) others fault f rest = (f h refl, rest)
all_from P (Err n) others fault f rest = tt

-- ---- by what each record is heard as

module _ (hear : List ℕ → Result Heard ℕ) where
  abbrev scanned_as : List (List ℕ) → Option State → Scanned
  scanned_as made at = served_of (map hear made) (fault_at at)

  abbrev scan_as : List ℕ → Scanned
  scan_as stream = scanned_as (read_stream stream).records (read_stream stream).at

  -- a record more, or a header at fault
  adds_more : (made more : List (List ℕ)) (fault : Option ℕ) → (served_of (map hear made) None).fault ≡ None
      → Adds (served_of (map hear made) None) (joined (served_of (map hear made) None).served (served_of (map hear more) fault))
      → map hear (made ++ more) ≡ map hear made ++ map hear more
      → Adds (served_of (map hear made) None) (served_of (map hear (made ++ more)) fault)
  adds_more made more fault sound adds parts =
      subst (Adds (served_of (map hear made) None)) (sym (ap (λ (rs : List (Result Heard ℕ)). served_of rs fault) parts
      ∙ served_of-append (map hear made) (map hear more) fault sound)) adds

  adds_next : (made : List (List ℕ)) (state : State) (n : Next) → (scanned_as made (Some state)).fault ≡ None
      → Adds (scanned_as made (Some state)) (scanned_as (reading_at made n).records (reading_at made n).at)
  adds_next made state (Goes to) sound = adds_none (scanned_as made (Some state))
  adds_next made state (Ends last) sound =
      adds_more made (last ∷ []) None sound (adds_read (scanned_as made (Some state)) (hear last)) (map_push hear made last)
  adds_next made state Faults sound =
      subst (λ (rs : List (Result Heard ℕ)). Adds (scanned_as made (Some state)) (served_of rs (Some 11))) (append-nil (map hear made))
      (subst (Adds (scanned_as made (Some state))) (sym (served_of-append (map hear made) [] (Some 11) sound)) (adds_fault (scanned_as made (Some state))))

  adds_at : (made : List (List ℕ)) (at : Option State) (b : ℕ) → (scanned_as made at).fault ≡ None
      → Adds (scanned_as made at) (scanned_as (byte_read made at b).records (byte_read made at b).at)
  adds_at made None b sound = absurd (faulty (map hear made) 11 sound)
  adds_at made (Some state) b sound = adds_next made state (after state b) sound

  further_at : (stream : List ℕ) (b : ℕ) → (scan_as stream).fault ≡ None → Adds (scan_as stream) (scan_as (stream ++ b ∷ []))
  further_at stream b sound =
      let r = read_stream stream in
      subst (λ (next : Reading). Adds (scan_as stream) (scanned_as next.records next.at)) (sym (read_stream-push stream b))
      (adds_at r.records r.at b sound)

  all_served : (P : Heard → Type 0) → ((bytes : List ℕ) (h : Heard) → hear bytes ≡ Ok h → P h) → (made : List (List ℕ)) (fault : Option ℕ)
      → AllByRecursion P (served_of (map hear made) fault).served
  all_served P f [] fault = tt
  all_served P f (bytes ∷ made) fault = all_from P (hear bytes) (map hear made) fault (λ h e. f bytes h e) (all_served P f made fault)

  scans : ((bytes : List ℕ) (h : Heard) → hear bytes ≡ Ok h → IsDecoded h.asked) → (spell : ℕ → Reply → List ℕ)
      → IsScan (record { scan = scan_as; reply_record = spell })
  scans decoded spell = record {
    nothing = refl;
    further = further_at;
    decoded = λ came. all_served (λ h. IsDecoded h.asked) decoded (read_stream came).records (fault_at (read_stream came).at);
  }

-- ---- with an offer

pub is-scan : (offer : Offer) → IsScan (codec offer)
is-scan offer = scans (heard offer) (heard-decoded offer) (reply_record_by offer)
