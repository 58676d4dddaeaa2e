-- A filer at the start.
use Rattle.std.proofs.Common.{◌≡◌, ℕ, ◌+◌, zero, suc, List, [], length, replicate, Option, Some, None, sym, ap, ◌∙◌, subst, arith}
use mathlib.Core.Option.{some, some-injective, some-ne-none}
use lib.ListN.{get_elem?}
use Rattle.nfs_model.specs.Tree.{Layout}
use Rattle.affinity.specs.Numbers.{number_of, parents, node_count}
use Rattle.affinity.specs.lemmas.Smaller.{length-parents}
use Rattle.affinity.specs.lemmas.Standing.{number-place}
use Rattle.depot_rule.specs.History.{entries_of}
use Rattle.depot_rule.specs.Seats.{fresh}
use Rattle.depot_rule.specs.Shares.{Has}
use Rattle.depot_rule.specs.Sums.{total}
use Rattle.depot_rule.specs.lemmas.Listed.{by-number-at}
use Rattle.depot.specs.Words.{first_view}
use Rattle.filer_state.specs.state.Opening.{AreOpening}
use Rattle.filer_state.specs.state.Parcels.{FilerParcel}
use Rattle.filer_state.specs.declared.files.Files.{Files}
use Rattle.granted_calls.specs.Balance.{FilerView, Passed, by_key, by_entry, IsEven}
use Rattle.granted_calls.specs.Filers.{HasOpened, IsReady}

none-held : {A : Type 0} (n b : ℕ) (g : A) → get_elem? (replicate n None) b ≡ some (Some g) → ⊥
none-held zero b g e = some-ne-none (Some g) (sym e)
none-held (suc n) zero g e = let bad : None ≡ Some g = some-injective None (Some g) e in let no : ⊥ = cc in no
none-held (suc n) (suc b) g e = none-held n b g e

-- a seat that was split off has no grant
pub fresh-none : (v w : FilerView) → w ≡ fresh v → (b : ℕ) (g : List (Option (FilerParcel Files))) → Has w b g → ⊥
fresh-none v w is b g has = none-held (length v.tree) b g (subst (λ (x : FilerView). Has x b g) is has)

-- and finished nothing: with a pass that has put and picked nothing it keeps the balance
pub fresh-even : (v w : FilerView) (pass : Passed) → w ≡ fresh v → pass.put ≡ [] → pass.picked ≡ [] → IsEven pass (entries_of w) None
fresh-even v w pass is put picked h =
    let a = ap (total (by_key h)) put in
    let b = ap (total (by_key h)) picked in
    let e = ap (λ (x : FilerView). total (by_entry h) (entries_of x)) is in
    omega (arith, a, b, e)

module _ (layout : Layout) (verifier : List ℕ) (f : ℕ → Option (FilerParcel Files)) (v : FilerView) (is : v ≡ first_view layout f) where
  -- the first seat's view is that of a run that begins
  pub started-ready : AreOpening layout verifier f → IsReady layout verifier v
  started-ready opening = record {
    opened = subst (λ (x : FilerView). HasOpened layout verifier x) (sym is) (λ node there.
        let place = number-place layout node there in
        let size = length-parents layout in
        by-number-at f (1 + node_count layout) (number_of layout node) (omega (arith, place.1, size)) ∙ opening node there);
    none_open = λ b g has. none-held (length (parents layout)) b g (subst (λ (x : FilerView). Has x b g) is has);
  }
