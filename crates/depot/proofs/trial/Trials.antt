-- What the tests' calls rest on.
use Rattle.std.proofs.Common.{◌≡◌, ℕ, zero, suc, ◌+◌, ◌<◌, ◌≤◌, List, length, replicate, set}
use Rattle.std.proofs.Common.{get_or, sym, refl, ap, ◌∙◌, subst, arith, Option, Some, None}
use Rattle.std.proofs.Math.Arith.{lt_of_le-ne}
use Rattle.std.proofs.lemmas.List.{get_or-set_same, get_or-set_other}
use mathlib.Core.Logic.{dite}
use native.Mathlib.Decide.{ℕ_discrete}
use Rattle.nfs_model.specs.Tree.{Layout, Affinity, Serial}
use Rattle.affinity.specs.declared.affinity.Kind.{Kind}
use Rattle.affinity.specs.Affinity.{kind_of}
use Rattle.affinity.specs.Tree.{IsNode}
use Rattle.affinity.specs.Under.{IsUnder}
use Rattle.affinity.specs.lemmas.Places.{number_positive, number_within}
use Rattle.affinity.specs.lemmas.Numbered.{own_number}
use Rattle.parcels.specs.Exact.{IsPlaced}
use Rattle.affinity.specs.Numbers.{number_of, node_count}
use Rattle.depot.specs.trial.Adding.{AreEach}
use Rattle.parcels.specs.Moved.{Moved}
use Rattle.parcels.specs.NumberIn.{number_in}
use Rattle.parcels.specs.declared.family.Parcel.{Parcel}

-- ---- parcels laid out node by node

module _ {T : Type 0} (kind : T → Kind) (layout : Layout) where
  -- the nodes of numbers below n have their parcels
  abbrev pub LaidBelow : ℕ → List (Option T) → Type 0
  LaidBelow n xs = (a : Affinity) → IsNode layout a → number_of layout a < n → IsPlaced kind layout (λ k. get_or xs k None) a

  pub none-below : (xs : List (Option T)) → LaidBelow 1 xs
  none-below xs a m lt = let pos = number_positive layout a in absurd (omega arith)

  pub laid-more : (xs : List (Option T)) (n : ℕ) (p : T) (b : Affinity) → IsNode layout b → number_of layout b ≡ n → kind p ≡ kind_of b
      → n < length xs → LaidBelow n xs → LaidBelow (n + 1) (set xs n (Some p))
  laid-more xs n p b mb is same lt before a m below =
      dite (ℕ_discrete (number_of layout a) n)
      (λ e.
      let ab : b ≡ a = own_number layout b a mb m (is ∙ sym e) in
      (p, ap (λ (k : ℕ). get_or (set xs n (Some p)) k None) e ∙ get_or-set_same xs n (Some p) None lt, same ∙ ap kind_of ab))
      (λ ne. let q = before a m (lt_of_le-ne (let l : number_of layout a ≤ n = omega arith in l) ne) in (
        q.0,
        get_or-set_other xs n
            (number_of layout a) (Some p) None ne ∙ q.1,
        q.2,
      ))

  pub laid-all : (xs : List (Option T)) (n : ℕ) → node_count layout < n → LaidBelow n xs → (node : Affinity) → IsUnder layout Serial node
      → IsPlaced kind layout (λ k. get_or xs k None) node
  laid-all xs n many laid node under = let within = number_within layout node under.0 in laid node under.0 (omega arith)

-- ---- parcels of one number

nothing-at : {P : Type 0} (n k : ℕ) → get_or {A = Option P} (replicate n None) k None ≡ None
nothing-at zero k = refl
nothing-at (suc n) zero = refl
nothing-at (suc n) (suc k) = nothing-at n k

module _ {P : Type 0} (n : ℕ) where
  pub none-each : (count : ℕ) (xs : List (Option (Parcel P ℕ ℕ ℕ ℕ ℕ ℕ ℕ))) → xs ≡ replicate count None → AreEach n (λ k. get_or xs k None)
  none-each count xs is k p e = absurd (let none : get_or xs k None ≡ None = ap (λ (ys : List (Option _)). get_or ys k None) is ∙ nothing-at count k in cc)

  pub more-each : (xs : List (Option (Parcel P ℕ ℕ ℕ ℕ ℕ ℕ ℕ))) (i : ℕ) (q : Parcel P ℕ ℕ ℕ ℕ ℕ ℕ ℕ) → number_in q ≡ n → i < length xs
      → AreEach n (λ k. get_or xs k None) → AreEach n (λ k. get_or (set xs i (Some q)) k None)
  more-each xs i q is lt before k p e = dite (ℕ_discrete k i)
      (λ here. let there : Some q ≡ Some p = sym (ap (λ (j : ℕ). get_or (set xs i (Some q)) j None) here ∙ get_or-set_same xs i (Some q) None lt)
      ∙ e in let same : p ≡ q = cc in ap number_in same ∙ is)
      (λ else. before k p (sym (get_or-set_other xs i k (Some q) None else) ∙ e))

  -- parcels that were taken are as they were
  pub taken-each : (before taken after : ℕ → Option (Parcel P ℕ ℕ ℕ ℕ ℕ ℕ ℕ)) → ((k : ℕ) → Moved (before k) (taken k) (after k)) → AreEach n before
      → AreEach n taken
  taken-each before taken after moved each k p e = each k p (subst (λ (t : Option (Parcel P ℕ ℕ ℕ ℕ ℕ ℕ ℕ)). Moved (before k) t (after k)) e (moved k)).0
