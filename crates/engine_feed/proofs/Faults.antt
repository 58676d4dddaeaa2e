-- What a record adds to the fault and the count of a scan, whatever is offered.
use Rattle.std.proofs.Common.{◌≡◌, ◌+◌, ℕ, List, [], ◌∷◌, length, Option, Some, None, Result, Ok, Err, refl, sym, ap, ◌∙◌, arith, length-append}
use Rattle.nfs_model.specs.World.{Heard, Scanned}
use Rattle.rpc_msg.specs.declared.offer.Offer.{Offer}
use Rattle.engine_feed.specs.Codec.{heard}
use Rattle.engine_feed.specs.Streams.{served_of}
use Rattle.engine_feed.specs.lemmas.Codec.{heard_is}
use Rattle.engine_feed.proofs.Heads.{fault_in, fault-same}
use Rattle.engine_feed.proofs.Scanning.{joined}

heard-same : (one other : Offer) (bytes : List ℕ) → fault_in (heard one bytes) ≡ fault_in (heard other bytes)
heard-same one other bytes = ap fault_in (heard_is one bytes) ∙ fault-same one other bytes ∙ ap fault_in (sym (heard_is other bytes))

-- its fault, and how many are served then
pub record Adds (old : Scanned) (r : Result Heard ℕ) (fault : Option ℕ) (served : ℕ) : Type 0 where
  pub fault_is : (joined old.served (served_of (r ∷ []) None)).fault ≡ fault
  pub served_is : length (joined old.served (served_of (r ∷ []) None)).served ≡ served

adds_call : (old : Scanned) (n : ℕ) (r : Result Heard ℕ) → length old.served ≡ n → fault_in r ≡ None → Adds old r None (n + 1)
adds_call old n (Ok h) e f = record { fault_is = refl; served_is = omega (arith, e, length-append old.served (h ∷ [])) }
adds_call old n (Err number) e f = absurd cc

adds_fault : (old : Scanned) (n number : ℕ) (r : Result Heard ℕ) → length old.served ≡ n → fault_in r ≡ Some number → Adds old r (Some number) n
adds_fault old n number (Ok h) e f = absurd cc
adds_fault old n number (Err m) e f = record { fault_is = f; served_is = omega (arith, e, length-append old.served []) }

module _ (told any : Offer) (made : List ℕ) (old : Scanned) (n : ℕ) (served : length old.served ≡ n) where
  -- the same with any offer
  pub call-anyway : (h : Heard) → heard told made ≡ Ok h → Adds old (heard any made) None (n + 1)
  call-anyway h e = adds_call old n (heard any made) served (heard-same any told made ∙ ap fault_in e)

  pub fault-anyway : (number : ℕ) → heard told made ≡ Err number → Adds old (heard any made) (Some number) n
  fault-anyway number e = adds_fault old n number (heard any made) served (heard-same any told made ∙ ap fault_in e)
