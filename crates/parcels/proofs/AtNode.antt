-- A node told in two ways.
use Rattle.std.proofs.Common.{◌≡◌, ℕ, Option, sym, subst}
use Rattle.std.specs.Prelude.{IfSome}
use Rattle.nfs_model.specs.Tree.{Layout, Affinity}
use Rattle.affinity.specs.declared.affinity.Kind.{Kind}
use Rattle.affinity.specs.Tree.{IsNode}
use Rattle.parcels.specs.Exact.{Under, HasExactly}
use Rattle.parcels.specs.Moved.{Moved}

module _ (layout : Layout) (a b : Affinity) (e : a ≡ b) where
  pub at-node : IsNode layout a → IsNode layout b
  at-node = subst (λ n. IsNode layout n) e

  pub at-under : (Q : Affinity → Type 0) → Under layout a Q → Under layout b Q
  at-under Q = subst (λ n. Under layout n Q) e

  module _ {T H : Type 0} (p : Layout → Affinity → H → ℕ → Option T) (held : H) where
    pub at-allowed : (Q : ℕ → T → Type 0) → ((k : ℕ) → IfSome (p layout a held k) (Q k)) → (k : ℕ) → IfSome (p layout b held k) (Q k)
    at-allowed Q = subst (λ n. (k : ℕ) → IfSome (p layout n held k) (Q k)) e

    pub at-taken : (f g : ℕ → Option T) → ((k : ℕ) → Moved (f k) (p layout b held k) (g k)) → (k : ℕ) → Moved (f k) (p layout a held k) (g k)
    at-taken f g = subst (λ n. (k : ℕ) → Moved (f k) (p layout n held k) (g k)) (sym e)

    pub at-exact : (kind : T → Kind) → HasExactly kind layout b (p layout b held) → HasExactly kind layout a (p layout a held)
    at-exact kind = subst (λ n. HasExactly kind layout n (p layout n held)) (sym e)
