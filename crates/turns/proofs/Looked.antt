-- A look at what was granted: what it tells of a stock, and that it leaves all as it was.
use Rattle.std.proofs.Common.{◌≡◌, ℕ, ◌+◌, Bool, Option, Some, None, refl, sym, ap, ◌∙◌, subst, arith}
use Rattle.nfs_model.specs.Tree.{Layout, Affinity, Serial, Aggregate, Volume, Logical, Stripe, Vbn, Range}
use Rattle.affinity.specs.declared.affinity.Kind.TheVariants as kinds
use Rattle.affinity.specs.Affinity.{kind_of}
use Rattle.affinity.specs.Numbers.{number_of, node_count}
use Rattle.affinity.specs.Tree.{IsNode}
use Rattle.affinity.specs.lemmas.Smaller.{length-parents}
use Rattle.affinity.specs.lemmas.Standing.{number-place}
use Rattle.parcels.specs.Sets.{logical_parcels}
use Rattle.parcels.specs.lemmas.At.{logical-own}
use Rattle.depot_rule.specs.History.{by_number, listed}
use Rattle.depot_rule.specs.lemmas.Listed.{by-number-at}
use Rattle.desk.specs.laws.Books.{Lent}
use Rattle.desk.specs.laws.Calls.{DoesTask}
use Rattle.desk.specs.laws.Backing.{IsDone}
use Rattle.filer_state.specs.state.Parcels.{FilerParcel}
use Rattle.filer_state.specs.state.Contents.{logical_in}
use Rattle.filer_state.specs.state.Sets.{FilerLogical}
use Rattle.turns.specs.Stocks.{has_enough, stock_told, HasLooked}

module _ {P : Type 0} (layout : Layout) where
  -- under a node of another kind nothing is told
  pub looked-elsewhere : (a : Affinity) → (kind_of a ≡ kinds.VolumeLogical → ⊥) → (f : ℕ → Option (FilerParcel P)) → HasLooked layout a f None f
  looked-elsewhere (Logical v) other f = absurd (other refl)
  looked-elsewhere a other f = ((λ k. refl), refl)

  -- under Logical whether the stock has enough
  pub looked-logical : (a : Affinity) → kind_of a ≡ kinds.VolumeLogical → (held : FilerLogical P) (enough : Bool) → enough ≡ has_enough held.own.stock
      → HasLooked layout a (logical_parcels layout a held) (Some enough) (logical_parcels layout a held)
  looked-logical (Logical v) is held enough e = (
    (λ k. refl),
    ap (λ (b : Bool). Some b) (e ∙ ap (λ (o : Option (FilerParcel P)). has_enough (logical_in o).stock) (sym (logical-own layout (Logical v) held))),
  )
  looked-logical Serial is held enough e = absurd cc
  looked-logical (Aggregate n) is held enough e = absurd cc
  looked-logical (Volume v) is held enough e = absurd cc
  looked-logical (Stripe v i) is held enough e = absurd cc
  looked-logical (Vbn v) is held enough e = absurd cc
  looked-logical (Range v r) is held enough e = absurd cc

  -- an entry leaves what it was told of
  pub told-left : (a : Affinity) → IsNode layout a → (f : ℕ → Option (FilerParcel P))
      → stock_told layout a f ≡ stock_told layout a (listed (by_number f (1 + node_count layout)))
  told-left (Logical v) there f =
      let place = (number-place layout (Logical v) there).1 in
      let size = length-parents layout in
      ap (λ (o : Option (FilerParcel P)). Some (has_enough (logical_in o).stock))
      (sym (by-number-at f (1 + node_count layout) (number_of layout (Logical v)) (omega (arith, place, size))))
  told-left a there f = refl

module _ {P O : Type 0} (layout : Layout) (does : DoesTask (FilerParcel P) O) (outcome : O) (told : Option Bool) (before l m : Lent (FilerParcel P))
    (done : IsDone does layout before outcome l) (looked : IsDone (HasLooked {P = P}) layout l told m) where
  same : l.parcels ≡ m.parcels
  same = λ j k. sym (looked.did.0 k) j

  -- what was done before a look is so after it
  pub done-still : IsDone does layout before outcome m
  done-still = record {
    affinity = looked.affinity ∙ done.affinity;
    did = subst (λ (f : ℕ → Option (FilerParcel P)). does layout before.affinity before.parcels outcome f) same done.did;
  }

  -- and so is what was told
  pub told-still : told ≡ stock_told layout m.affinity m.parcels
  told-still = looked.did.1 ∙ (λ j. stock_told layout (sym looked.affinity j) (same j))
