-- What a depot grants, as a run of a call needs it.
use Rattle.std.proofs.Common.{◌≡◌, ℕ, ◌<◌, List, [], length, Option, sym, subst}
use Rattle.nfs_model.specs.Tree.{Layout, Affinity}
use Rattle.affinity.specs.Ancestors.{Covers}
use Rattle.affinity.specs.Numbers.{number_of, parents}
use Rattle.affinity.specs.Tree.{IsNode}
use Rattle.affinity.specs.lemmas.Standing.{number-place}
use Rattle.depot_rule.specs.History.{after, listed}
use Rattle.depot.specs.Grants.{IsAfter}
use Rattle.filer_state.specs.laws.lemmas.Granted.{filer-has}
use Rattle.filer_state.specs.state.Parcels.{FilerParcel}
use Rattle.filer_state.specs.state.Running.{HasFiler}
use Rattle.filer_state.specs.state.Sound.{IsFiler}
use Rattle.filer_state.specs.declared.files.Files.{Files}
use Rattle.granted_calls.specs.Balance.{FilerView}
use Rattle.granted_calls.specs.Served.{filer_behaviour}
use Rattle.granted_calls.specs.lemmas.Covered.{covers-place}

module _ (layout : Layout) (node : Affinity) (there : IsNode layout node) (v : FilerView) (of : v.tree ≡ parents layout)
    (f : ℕ → Option (FilerParcel Files)) (seen : IsAfter filer_behaviour v (number_of layout node) f) where
  -- the parcels that were granted are as a history left them
  pub as-left : (k : ℕ) → Covers (parents layout) (number_of layout node) k → after (parents layout) (listed v.first) seen.0 k ≡ f k
  as-left k cover =
      let place = number-place layout node there in
      let inside = covers-place (parents layout) (number_of layout node) k place.0 place.1 cover in
      let same : f k ≡ after v.tree (listed v.first) seen.0 k = seen.4 k inside.0 (subst (λ (ps : List ℕ). k < length ps) (sym of) inside.1)
      (subst (λ (ps : List ℕ). Covers ps (number_of layout node) k) (sym of) cover) in
      sym (subst (λ (ps : List ℕ). f k ≡ after ps (listed v.first) seen.0 k) of same)

  -- and are some sound filer's
  pub granted : HasFiler layout node [] f
  granted =
      filer-has layout node f (after (parents layout) (listed v.first) seen.0) seen.1.hands (length seen.0)
      (subst (λ (ps : List ℕ). IsFiler ps (after ps (listed v.first) seen.0) seen.1.hands (length seen.0)) of seen.1.sound) seen.2
      as-left
