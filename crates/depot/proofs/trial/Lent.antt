-- What calls that move tokens rest on.
use Rattle.std.proofs.Common.{◌≡◌, ℕ, zero, suc, ◌+◌, ◌*◌, ◌<◌, ◌≤◌, List, [], ◌∷◌, ◌++◌, length, refl, sym, ap, ◌∙◌, subst, arith, inl, Option, Some, None}
use mathlib.Core.Logic.{dite}
use native.Mathlib.Decide.{ℕ_discrete}
use Rattle.nfs_model.specs.Tree.{Layout, Affinity}
use Rattle.affinity.specs.Tree.{IsNode}
use Rattle.affinity.specs.Numbers.{number_of, node_count, parents}
use Rattle.affinity.specs.lemmas.Places.{number_positive, number_within}
use Rattle.affinity.specs.lemmas.Smaller.{length-parents}
use Rattle.parcels.specs.declared.family.Parcel.{Parcel}
use Rattle.parcels.specs.declared.family.Parcel.TheVariants.{Stripe}
use Rattle.parcels.specs.declared.sets.StripeHeld.{StripeHeld}
use Rattle.parcels.specs.Sets.{stripe_parcels}
use Rattle.parcels.specs.NumberIn.{number_in}
use Rattle.depot_rule.specs.Shares.{opening_view}
use Rattle.depot.specs.trial.Adding.{AreEach}
use Rattle.depot_rule.specs.declared.view.View.{View}
use Rattle.depot_rule.specs.declared.view.Entry.{Entry}
use Rattle.depot_rule.specs.Sums.{total}
use Rattle.depot_rule.specs.History.{behaviour, AreHands, entries_of, listed, after}
use Rattle.depot_rule.specs.lemmas.Histories.{moved-snoc}
use Rattle.depot.specs.declared.trial.lending.Move.{Move}
use Rattle.depot.specs.Grants.{IsAfter}
use Rattle.depot.specs.trial.Lending.{sum_below, size, tokens_in, taken_by, given_by, Becomes, Moves, FewTokens, IsHand}
use Rattle.depot.specs.trial.lemmas.Stripes.{alone-here, alone-else}

-- ---- a seat's hand after an entry more

module _ {P : Type 0} (v w : View P (Entry P Move (Unit {0}))) (e : Entry P Move (Unit {0})) (more : entries_of w ≡ entries_of v ++ e ∷ []) (n : ℕ)
    (hand : List ℕ) where
  pub hand-took : taken_by e.call e.reply ≡ n ∷ [] → given_by e.call e.reply ≡ [] → IsHand v hand → IsHand w (n ∷ hand)
  hand-took takes gives own = subst (λ es. AreHands taken_by given_by es (n ∷ hand)) (sym more) (λ weigh.
      let t = moved-snoc taken_by weigh (entries_of v) e in let g = moved-snoc given_by weigh (entries_of v) e in
      let tn : total weigh (taken_by e.call e.reply) ≡ weigh n + 0 = ap (total weigh) takes in
      let gn : total weigh (given_by e.call e.reply) ≡ 0 = ap (total weigh) gives in
      let o = own weigh in omega arith)

  pub hand-gave : taken_by e.call e.reply ≡ [] → given_by e.call e.reply ≡ n ∷ [] → IsHand v (n ∷ hand) → IsHand w hand
  hand-gave takes gives own = subst (λ es. AreHands taken_by given_by es hand) (sym more) (λ weigh.
      let t = moved-snoc taken_by weigh (entries_of v) e in let g = moved-snoc given_by weigh (entries_of v) e in
      let tn : total weigh (taken_by e.call e.reply) ≡ 0 = ap (total weigh) takes in
      let gn : total weigh (given_by e.call e.reply) ≡ weigh n + 0 = ap (total weigh) gives in
      let o = own weigh in omega arith)

-- ---- the step of a stripe's call

pub number-in-tree : (layout : Layout) (a : Affinity) (tree : List ℕ) → tree ≡ parents layout → IsNode layout a → number_of layout a < length tree
number-in-tree layout a tree is node = let within = number_within layout a node in let all = length-parents layout in let same : length tree ≡ length
    (parents layout) = ap length is in omega arith

pub stripe-becomes : {P : Type 0} (Q : ℕ → ℕ → Type 0) (layout : Layout) (a : Affinity) (held held' : StripeHeld P ℕ ℕ ℕ ℕ ℕ ℕ ℕ) (tree : List ℕ)
    → number_of layout a < length tree → Q held.own held'.own
    → Becomes Q tree (number_of layout a) (stripe_parcels layout a held) (stripe_parcels layout a held')
unfolding stripe_parcels
stripe-becomes Q layout a held held' tree there is = (
  (Stripe held.own, Stripe held'.own, alone-here (number_of layout a) (Stripe held.own), alone-here (number_of layout a) (Stripe held'.own), refl, is),
  there,
  λ k ne. alone-else (number_of layout a) (Stripe held'.own) k ne ∙ sym (alone-else (number_of layout a) (Stripe held.own) k ne),
)

-- ---- what a seat has in its hand fits beside a node's tokens

sum-at : (f : ℕ → ℕ) (a n : ℕ) → a < n → f a ≤ sum_below f n
sum-at f a zero lt = absurd (omega arith)
sum-at f a (suc n) lt = dite (ℕ_discrete n a)
    (λ e. let same : f n ≡ f a = ap f e in let fits : f a ≤ sum_below f n + f n = omega arith in fits)
    (λ ne. let r = sum-at f a n (omega arith) in let fits : f a ≤ sum_below f n + f n = omega arith in fits)

pub hand-fits : {P : Type 0} (layout : Layout) (a : Affinity) (v : View (Parcel P ℕ ℕ ℕ ℕ ℕ ℕ ℕ) (Entry (Parcel P ℕ ℕ ℕ ℕ ℕ ℕ ℕ) Move (Unit {0})))
    (held : StripeHeld P ℕ ℕ ℕ ℕ ℕ ℕ ℕ) (n : ℕ) (rest : List ℕ) → v.tree ≡ parents layout → IsNode layout a
    → IsHand v (n ∷ rest) → IsAfter (behaviour Moves taken_by given_by FewTokens) v (number_of layout a) (stripe_parcels layout a held)
    → held.own + n < 18446744073709551616
unfolding stripe_parcels
hand-fits layout a v held n rest is node own seen =
    let there = number-in-tree layout a v.tree is node in
    let now = seen.4 (number_of layout a) (number_positive layout a) there (inl refl) in
    let tokens : held.own ≡ tokens_in (after v.tree (listed v.first) seen.0 (number_of layout a)) = ap tokens_in
    (sym (alone-here (number_of layout a) (Stripe held.own)) ∙ now) in
    let part = sum-at (λ k. tokens_in (after v.tree (listed v.first) seen.0 k)) (number_of layout a) (length v.tree) there in
    let mine = own size in let hand = seen.1.own_hand size in let all = seen.1.together size in let few = seen.1.sound in omega arith

-- ---- a depot in which each node has this many tokens

sum-most : (f : ℕ → ℕ) (n : ℕ) → ((k : ℕ) → f k ≤ 1000) → sum_below f n ≤ 1000 * n
sum-most f zero most = omega arith
sum-most f (suc n) most = let r = sum-most f n most in let e = most n in omega arith

tokens-most : {P : Type 0} (n : ℕ) (parcel : Option (Parcel P ℕ ℕ ℕ ℕ ℕ ℕ ℕ)) → ((p : Parcel P ℕ ℕ ℕ ℕ ℕ ℕ ℕ) → parcel ≡ Some p → number_in p ≡ n)
    → tokens_in parcel ≤ n
tokens-most n None is = omega arith
tokens-most n (Some p) is = let e = is p refl in omega arith

pub each-few : {P : Type 0} (layout : Layout) (n : ℕ) (f : ℕ → Option (Parcel P ℕ ℕ ℕ ℕ ℕ ℕ ℕ)) → node_count layout ≤ 283 → n ≤ 1000 → AreEach n f
    → FewTokens (parents layout) f [] 0
each-few layout n f nodes small each =
    let all = sum-most (λ k. tokens_in (f k)) (length (parents layout)) (λ k. let t = tokens-most n (f k) (each k) in let most : tokens_in
    (f k) ≤ 1000 = omega arith in most) in
    let many = length-parents layout in omega arith

-- nothing is in a seat's hand at the opening
pub hand-opened : {P : Type 0} (tree : List ℕ) (first : List (Option P)) (v : View P (Entry P Move (Unit {0}))) → v ≡ opening_view tree first → IsHand v []
hand-opened tree first v is = subst (λ (u : View _ (Entry _ Move (Unit {0}))). IsHand u []) (sym is) (λ weigh. refl)
