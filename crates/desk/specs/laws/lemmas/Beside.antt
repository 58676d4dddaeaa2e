-- What a worker's call leaves to it and to the others, in the words of the books alone.
use Rattle.std.proofs.Common.{◌≡◌, ◌≢◌, ◌<◌, ℕ, length, Option, Some, None, sym, ap, ◌∙◌, subst}
use mathlib.Core.Option.{some, some-injective}
use lib.ListN.{get_elem?}
use Rattle.atomic_table.proofs.Lists.{set_here, set_else}
use Rattle.nfs_model.specs.Tree.{Affinity}
use Rattle.affinity.specs.Numbers.{number_of, parents}
use Rattle.depot_rule.specs.History.{Behaviour}
use Rattle.desk.specs.laws.Books.{Lent, Books, HasLent, IsIdle, IsUnchanged, IsWorked}
use Rattle.desk.specs.laws.Calls.{DoesTask, with_lent, HasBegun, HasWorked, MayPutBack, AreIdle}
use Rattle.desk.specs.laws.lemmas.Seats.{at-length}

module _ {P C R : Type 0} (b : Books P C R) (i : ℕ) where
  -- what a worker has is another thing
  module _ (x : Option (Lent P)) (c : Books P C R) (changed : c ≡ with_lent b i x) where
    pub lent-here : (o : Option (Lent P)) → get_elem? b.lent i ≡ some o → get_elem? c.lent i ≡ some x
    lent-here o at = ap (λ (d : Books P C R). get_elem? d.lent i) changed ∙ set_here b.lent i x (at-length b.lent i o at)

    pub lent-else : (j : ℕ) (o : Option (Lent P)) → j ≢ i → get_elem? b.lent j ≡ some o → get_elem? c.lent j ≡ some o
    lent-else j o ne at = ap (λ (d : Books P C R). get_elem? d.lent j) changed ∙ set_else b.lent i j x ne ∙ at

    unchanged-still : (l : Lent P) → IsUnchanged b l → IsUnchanged c l
    unchanged-still l un = subst (λ (d : Books P C R). IsUnchanged d l) (sym changed) un

    pub fresh-still : (j : ℕ) → j ≢ i → MayPutBack b j → MayPutBack c j
    fresh-still j ne may = record {
      lent = may.lent;
      is_lent = lent-else j (Some may.lent) ne may.is_lent;
      unchanged = unchanged-still may.lent may.unchanged;
    }

    worked-still : {B : Type 0} (m : Behaviour P C R B) (l : Lent P) (call : C) (reply : R) → IsWorked m b l call reply → IsWorked m c l call reply
    worked-still m l call reply w = subst (λ (d : Books P C R). IsWorked m d l call reply) (sym changed) w

  -- ---- a call that began

  pub begun-fresh : (a : Affinity) (c : Books P C R) → IsIdle b i → HasBegun b i a c → MayPutBack c i
  begun-fresh a c idle h = record {
    lent = record { affinity = a; parcels = h.parcels };
    is_lent = lent-here (Some (record { affinity = a; parcels = h.parcels })) c h.books None idle;
    unchanged = unchanged-still (Some (record { affinity = a; parcels = h.parcels })) c h.books (record { affinity = a; parcels = h.parcels }) h.unchanged;
  }

  -- ---- work on what was lent

  module _ {O : Type 0} (does : DoesTask P O) (outcome : O) (c : Books P C R) (fresh : MayPutBack b i) (h : HasWorked does b i outcome c) where
    abbrev lent : Lent P
    lent = record { affinity = h.lent.affinity; parcels = h.parcels }

    same : fresh.lent ≡ h.lent
    same = let e = some-injective (Some fresh.lent) (Some h.lent) (sym fresh.is_lent ∙ h.is_lent) in cc

    as-left : IsUnchanged b h.lent
    as-left = subst (λ (l : Lent P). IsUnchanged b l) same fresh.unchanged

    -- a task that changes nothing
    pub still-fresh : ((k : ℕ) → h.parcels k ≡ h.lent.parcels k) → MayPutBack c i
    still-fresh equal = record {
      lent = lent;
      is_lent = lent-here (Some lent) c h.books (Some h.lent) h.is_lent;
      unchanged = unchanged-still (Some lent) c h.books lent (λ k pos lt cover. equal k ∙ as-left k pos lt cover);
    }

    -- a task that takes the step of a call
    pub work-lent : HasLent c i lent
    work-lent = lent-here (Some lent) c h.books (Some h.lent) h.is_lent

    pub work-done : {B : Type 0} (m : Behaviour P C R B) (call : C) (reply : R)
        → m.steps (parents b.layout) (number_of b.layout h.lent.affinity) call h.lent.parcels reply h.parcels → IsWorked m c lent call reply
    work-done m call reply step = worked-still (Some lent) c h.books m lent call reply (h.lent.parcels, as-left, step)

-- each worker is idle
pub all-idle : {P C R : Type 0} (b : Books P C R) → ((i : ℕ) → i < length b.lent → IsIdle b i) → AreIdle b
all-idle b idle i l at = let e = some-injective None (Some l) (sym (idle i (at-length b.lent i (Some l) at)) ∙ at) in let no_way : ⊥ = cc in no_way
