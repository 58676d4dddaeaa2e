-- What calls on a stripe's number are to its parcels.
use Rattle.std.proofs.Common.{◌≡◌, ◌≢◌, ℕ, ◌+◌, ◌%◌, ◌==◌, Bool, true, false, cond, List, refl, sym, ap, ◌∙◌, eq-eqb, ne_eqb, Option, Some, None}
use Rattle.nfs_model.specs.Tree.{Layout, Affinity}
use Rattle.affinity.specs.declared.affinity.Kind.{Kind}
use Rattle.affinity.specs.Numbers.{number_of}
use Rattle.parcels.specs.Exact.{kind_in, HasExactly}
use Rattle.parcels.specs.Slots.{alone}
use Rattle.parcels.specs.Sets.{stripe_parcels}
use Rattle.parcels.specs.declared.sets.StripeHeld.{StripeHeld}
use Rattle.parcels.specs.declared.family.Parcel.TheVariants.{Stripe}
use Rattle.depot.specs.trial.Adding.{Changes}
use Rattle.depot.specs.declared.trial.adding.Change.TheVariants.{Read, Add}

module _ {T : Type 0} (kind : T → Kind) where
  either-way : (x y p : T) (b : Bool) → cond b (Some x) None ≡ Some p → (cond b (Some y) None ≡ Some y) × (kind p ≡ kind x)
  either-way x y p true e = (refl, cc)
  either-way x y p false e = absurd cc

  neither-way : (x y : T) (b : Bool) → cond b (Some x) None ≡ None → cond {A = Option T} b (Some y) None ≡ None
  neither-way x y true e = absurd cc
  neither-way x y false e = refl

  alone-swap : (layout : Layout) (a : Affinity) (n : ℕ) (x y : T) → kind x ≡ kind y → HasExactly kind layout a (alone n x)
      → HasExactly kind layout a (alone n y)
  unfolding alone
  alone-swap layout a n x y same exact = record {
    each = λ node under. (let t = exact.each node under in let q = either-way x y t.0 (number_of layout node == n) t.1 in (y, q.0, sym same ∙ (sym q.1 ∙ t.2)));
    no_other = λ k under. neither-way x y (k == n) (exact.no_other k under);
  }

-- a stripe's parcel was changed
pub stripe-changed : {P R B S L V A X : Type 0} (layout : Layout) (a : Affinity) (held held' : StripeHeld P R B S L V A X)
    → HasExactly kind_in layout a (stripe_parcels layout a held) → HasExactly kind_in layout a (stripe_parcels layout a held')
unfolding stripe_parcels
stripe-changed layout a held held' exact = alone-swap kind_in layout a (number_of layout a) (Stripe held.own) (Stripe held'.own) refl exact

pub alone-here : {T : Type 0} (n : ℕ) (x : T) → alone n x n ≡ Some x
unfolding alone
alone-here n x = ap (λ b. cond b (Some x) None) (eq-eqb n n refl)

pub alone-else : {T : Type 0} (n : ℕ) (x : T) (k : ℕ) → k ≢ n → alone n x k ≡ None
unfolding alone
alone-else n x k ne = ap (λ b. cond b (Some x) None) (ne_eqb k n ne)

-- a call read a stripe's number
pub stripe-read : {P : Type 0} (layout : Layout) (a : Affinity) (held held' : StripeHeld P ℕ ℕ ℕ ℕ ℕ ℕ ℕ) (tree : List ℕ) (found : ℕ) → held' ≡ held
    → found ≡ held.own
    → Changes tree (number_of layout a) Read (stripe_parcels layout a held) found (stripe_parcels layout a held')
unfolding stripe_parcels
stripe-read layout a held held' tree found same is = (
  (Stripe held.own, alone-here (number_of layout a) (Stripe held.own), is),
  λ k. ap (λ (h : StripeHeld _ ℕ ℕ ℕ ℕ ℕ ℕ ℕ). stripe_parcels layout a h k) same,
)

-- a call added to a stripe's number
pub stripe-added : {P : Type 0} (layout : Layout) (a : Affinity) (held held' : StripeHeld P ℕ ℕ ℕ ℕ ℕ ℕ ℕ) (tree : List ℕ) (n sum : ℕ)
    → held'.own ≡ sum → (held.own + n) % 18446744073709551616 ≡ sum
    → Changes tree (number_of layout a) (Add n) (stripe_parcels layout a held) sum (stripe_parcels layout a held')
unfolding stripe_parcels
stripe-added layout a held held' tree n sum is added = (
  (Stripe held.own, Stripe held'.own, alone-here (number_of layout a) (Stripe held.own), alone-here (number_of layout a) (Stripe held'.own), refl, is, added),
  λ k ne. alone-else (number_of layout a) (Stripe held'.own) k ne ∙ sym (alone-else (number_of layout a) (Stripe held.own) k ne),
)
