-- Steps that do right whatever the other parcels are: such steps are local, and keep what has to hold.
use Rattle.std.proofs.Common.{◌≡◌, ℕ, ◌+◌, List, Option, refl, sym, ◌∙◌, subst}
use Rattle.depot_rule.specs.Sums.{total}
use Rattle.depot_rule.specs.Machine.{IsLocal, Keeps}
use Rattle.depot_rule.specs.Completions.{Whole, Deed, StepsRight, IsGood}
use Rattle.depot_rule.specs.lemmas.Covering.{patched-out, patched-twice, patched-itself}

module _ {W P C R B : Type 0} (HasTree : W → List ℕ → Type 0) (good : Whole W P B) (takes gives : C → R → List B) (deed : Deed W P C R) where
  -- what a step did, on the very parcels that it found
  pub step-does : (ps : List ℕ) (a : ℕ) (call : C) (f : ℕ → Option P) (reply : R) (f' : ℕ → Option P) (hands hands' : List B) (n : ℕ) (tree : W)
      → StepsRight HasTree good takes gives deed ps a call f reply f' → HasTree tree ps → good tree f hands n
      → ((weigh : B → ℕ) → total weigh (gives call reply) + total weigh hands' ≡ total weigh (takes call reply) + total weigh hands)
      → deed tree a call f reply f' × good tree f' hands' (n + 1)
  step-does ps a call f reply f' hands hands' n tree step of sound moved =
      subst (λ (w : ℕ → Option P). deed tree a call f reply w × good tree w hands' (n + 1)) (patched-itself ps a f f' step.others)
      (step.right tree of f hands hands' n (λ k cover. refl) sound moved)

  pub right-local : IsLocal (StepsRight HasTree good takes gives deed)
  right-local ps a call f g reply f' step = (
    step.others,
    λ same. record {
      others = λ k out. patched-out ps a f' g k out;
      right = λ tree of h hands hands' n agree sound moved.
          subst (λ (w : ℕ → Option P). deed tree a call h reply w × good tree w hands' (n + 1)) (sym (patched-twice ps a f' g h))
          (step.right tree of h hands hands' n (λ k cover. agree k cover ∙ same k cover) sound moved);
    },
  )

  pub right-keeps : Keeps (StepsRight HasTree good takes gives deed) takes gives (IsGood HasTree good)
  right-keeps ps a call f reply f' hands hands' n sound step moved =
      (sound.0, sound.1, (step-does ps a call f reply f' hands hands' n sound.0 step sound.1 sound.2 moved).1)
