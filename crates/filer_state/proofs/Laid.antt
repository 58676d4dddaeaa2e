-- The parcels of a layout as a run begins, laid out node by node.
use Rattle.std.proofs.Common.{◌≡◌, ℕ, ◌+◌, ◌<◌, ◌≤◌, List, length, set, get_or, sym, refl, ap, ◌∙◌, subst, arith, Option, Some, None, inl, inr}
use Rattle.std.specs.Prelude.{slice_index_or}
use Rattle.std.proofs.Math.Arith.{lt_of_le-ne}
use Rattle.std.proofs.lemmas.List.{get_or-set_same, get_or-set_other}
use mathlib.Core.Logic.{dite}
use native.Mathlib.Decide.{ℕ_discrete}
use Rattle.nfs_model.specs.Tree as trees
use Rattle.nfs_model.specs.Tree.{Layout, Affinity}
use Rattle.affinity.specs.Affinity.{kind_of}
use Rattle.affinity.specs.Tree.{IsNode}
use Rattle.affinity.specs.Under.{IsUnder}
use Rattle.affinity.specs.Numbers.{number_of, node_count}
use Rattle.affinity.specs.lemmas.Places.{number_within}
use Rattle.affinity.specs.lemmas.Numbered.{own_number}
use Rattle.parcels.specs.Exact.{kind_in, HasExactly, IsPlaced}
use Rattle.parcels.specs.Moved.{Moved}
use Rattle.filer_state.specs.state.Parcels.{FilerParcel}
use Rattle.filer_state.specs.state.Opening.{opening_parcel, AreOpening}

opening-kind : (P : Type 0) (layout : Layout) (verifier : List ℕ) (a : Affinity) → kind_in (opening_parcel {P = P} layout verifier a) ≡ kind_of a
opening-kind P layout verifier trees.Serial = refl
opening-kind P layout verifier (trees.Aggregate a) = refl
opening-kind P layout verifier (trees.Volume v) = refl
opening-kind P layout verifier (trees.Logical v) = refl
opening-kind P layout verifier (trees.Stripe v i) = refl
opening-kind P layout verifier (trees.Vbn v) = refl
opening-kind P layout verifier (trees.Range v r) = refl

-- every node is under the root
under-root : (layout : Layout) (a : Affinity) → IsNode layout a → IsUnder layout trees.Serial a
under-root layout trees.Serial on = (on, inl refl)
under-root layout (trees.Aggregate a) on = (on, inr refl)
under-root layout (trees.Volume v) on = (on, inr refl)
under-root layout (trees.Logical v) on = (on, inr refl)
under-root layout (trees.Stripe v i) on = (on, inr refl)
under-root layout (trees.Vbn v) on = (on, inr refl)
under-root layout (trees.Range v r) on = (on, inr refl)

module _ {P : Type 0} (layout : Layout) (verifier : List ℕ) where
  -- the nodes of numbers below n have their parcels
  abbrev pub LaidBelow : ℕ → List (Option (FilerParcel P)) → Type 0
  LaidBelow n xs = (a : Affinity) → IsNode layout a → number_of layout a < n
      → slice_index_or xs (number_of layout a) None ≡ Some (opening_parcel layout verifier a)

  pub laid-more : (xs : List (Option (FilerParcel P))) (n : ℕ) (b : Affinity) (p : FilerParcel P) → IsNode layout b → number_of layout b ≡ n
      → p ≡ opening_parcel layout verifier b → n < length xs → LaidBelow n xs → LaidBelow (n + 1) (set xs n (Some p))
  laid-more xs n b p on is parcel less before a on_a below =
      dite (ℕ_discrete (number_of layout a) n)
      (λ e.
      let same : b ≡ a = own_number layout b a on on_a (is ∙ sym e) in
      ap (λ (k : ℕ). get_or (set xs n (Some p)) k None) e ∙ get_or-set_same xs n (Some p) None less
      ∙ ap Some parcel ∙ ap (λ (x : Affinity). Some (opening_parcel layout verifier x)) same)
      (λ ne.
      get_or-set_other xs n (number_of layout a) (Some p) None ne
      ∙ before a on_a (lt_of_le-ne (let l : number_of layout a ≤ n = omega arith in l) ne))

  -- each node under the root has a parcel of its kind
  pub laid-placed : (xs : List (Option (FilerParcel P))) (n : ℕ) → node_count layout < n → LaidBelow n xs → (node : Affinity)
      → IsUnder layout trees.Serial node → IsPlaced kind_in layout (λ k. slice_index_or xs k None) node
  laid-placed xs n many laid node under =
      let within = number_within layout node under.0 in
      (opening_parcel layout verifier node, laid node under.0 (omega arith), opening-kind P layout verifier node)

  -- what was taken is what was laid
  taken-is : (before taken after : Option (FilerParcel P)) (q p : FilerParcel P) → Moved before taken after → taken ≡ Some q → before ≡ Some p
      → taken ≡ Some p
  taken-is before taken after q p moved is was =
      let found = subst (λ (t : Option (FilerParcel P)). Moved before t after) is moved in
      is ∙ sym found.0 ∙ was

  pub laid-taken : (xs : List (Option (FilerParcel P))) (n : ℕ) → node_count layout < n → LaidBelow n xs
      → (taken after : ℕ → Option (FilerParcel P)) → ((k : ℕ) → Moved (slice_index_or xs k None) (taken k) (after k))
      → HasExactly kind_in layout trees.Serial taken → AreOpening layout verifier taken
  laid-taken xs n many laid taken after moved exact a on =
      let within = number_within layout a on in
      let k = number_of layout a in
      let placed = exact.each a (under-root layout a on) in
      taken-is (slice_index_or xs k None) (taken k) (after k) placed.0 _ (moved k) placed.1 (laid a on (omega arith))
