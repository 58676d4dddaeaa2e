-- The beginning and the end of a depot.
use Rattle.std.proofs.Common.{◌≡◌, ℕ, zero, suc, ◌<◌, ◌≤◌, ltb, List, [], ◌∷◌, ◌++◌, map, length, replicate, get_or, sym, refl, ap, ◌∙◌}
use Rattle.std.proofs.Common.{subst, arith, Option, Some, None}
use Rattle.std.proofs.lemmas.List.{length-replicate}
use Rattle.std.proofs.lemmas.Bool.{le-ltb}
use mathlib.Core.Option.{some, some-injective, some-ne-none}
use lib.ListN.{get_elem?}
use Rattle.atomic_table.specs.Table.{State, opening}
use Rattle.depot_rule.specs.declared.view.View.{View}
use Rattle.depot_rule.specs.declared.view.Entry.{Entry}
use Rattle.affinity.specs.Ancestors.{one_if, tally, IsTree}
use Rattle.depot_rule.specs.Sums.{total}
use Rattle.depot_rule.specs.History.{Behaviour, Legal, SoundThroughout, AreHands, StartsWith, listed, after, batches_of, chosen, entries_of}
use Rattle.depot_rule.specs.Shares.{opening_view, claims, entered, shares, IsWellFormed}
use Rattle.depot_rule.specs.Parcels.{has_out, IsParcel, Carries}
use Rattle.depot_rule.specs.Rule.{Base, Rule}
use Rattle.depot_rule.proofs.Views.{all-one, only-view}
use Rattle.depot_rule.specs.lemmas.Sums.{over-none}
use Rattle.depot_rule.proofs.Dealing.{bare-counts}
use Rattle.depot_rule.proofs.Joining.{none-held}
use Rattle.depot_rule.proofs.Current.{ListsCurrent}
use Rattle.depot_rule.proofs.Remembering.{Own, HasHand}
use Rattle.depot_rule.proofs.Chosen.{moved-weigh}
use Rattle.depot_rule.proofs.Whole.{only-mine, only-log}
use Rattle.affinity.specs.declared.affinity.Kind.{Kind}

zero-word : (n a : ℕ) → get_or (replicate {A = ℕ} n 0) a 0 ≡ 0
zero-word zero a = refl
zero-word (suc n) zero = refl
zero-word (suc n) (suc a) = zero-word n a

at-home : {A : Type 0} (xs : List A) (k : ℕ) (d : A) → k < length xs → get_elem? (map some xs) k ≡ some (some (get_or xs k d))
at-home [] k d h = absurd (omega arith)
at-home (x ∷ xs) zero d h = refl
at-home (x ∷ xs) (suc k) d h = at-home xs k d (omega arith)

length-map : {A B : Type 0} (f : A → B) (xs : List A) → length (map f xs) ≡ length xs
length-map f [] = refl
length-map f (x ∷ xs) = let r = length-map f xs in omega arith

each-one : {V : Type 0} (Q : V → Type 0) (v : V) → Q v → (j : ℕ) (vs : List V) → get_elem? ((v ∷ []) ∷ []) j ≡ some vs → (i : ℕ) (u : V)
    → get_elem? vs i ≡ some u → Q u
each-one Q v q zero vs e = subst (λ (zs : List _). (i : ℕ) (u : _) → get_elem? zs i ≡ some u → Q u) (some-injective (v ∷ []) vs e) (all-one Q v q)
each-one Q v q (suc j) vs e = absurd (some-ne-none vs (sym e))

none-before : {A : Type 0} (xs ys : List A) → xs ++ ys ≡ [] → xs ≡ []
none-before [] ys e = refl
none-before (x ∷ xs) ys e = absurd cc

none-then : (n : ℕ) → (0 < n → ⊥) → n ≡ 0
none-then zero z = refl
none-then (suc n) z = absurd (z (omega arith))

module _ (P E : Type 0) (kind_of : P → Kind) where
  -- all words are 0, each node's parcel is in its slot, and the first seat has nothing
  pub opens : (ps : List ℕ) (first : List (Option P)) → IsTree ps → length ps ≤ 1024 → length first ≡ length ps
      → ((k : ℕ) → 0 < k → k < length ps → (p : P) × (get_or first k None ≡ Some p))
      → Base {E = E} kind_of ps first (opening (replicate (length ps) 0) first (opening_view ps first ∷ []))
  opens ps first tree few wide there =
      let v : View P E = opening_view ps first in
      let bare : (a : ℕ) → 0 < a → (shares a v ≡ 0) × (claims a v ≡ 0) × (entered a v ≡ 0) × (has_out a v ≡ 0) = λ a p. bare-counts P E kind_of v a p
      refl refl refl refl (length ps) refl in
      record {
        shares = record {
          tree = tree;
          few = few;
          as_many = length-replicate (length ps) 0;
          seats = omega arith;
          counted = λ a p l. let z = zero-word (length ps) a in let q = bare a p in let q0 = q.0 in omega arith;
          ticket = zero-word (length ps) 0;
          bounded = let o = over-none (List (Option P)) (λ b. 1) 0 (length ps) in omega arith;
          alone = λ a p l h. let q = bare a p in let q1 = q.1 in absurd (omega arith);
          sound = each-one (IsWellFormed ps) v (record {
            some_part = omega arith;
            tree = refl;
            wide = length-replicate (length ps) None;
            once = λ a. omega arith;
            looked = omega arith;
          });
        };
        parcels = record {
          slots = length-map some first ∙ wide;
          home = λ k p l z. let y = there k p l in (get_or first k None, at-home first k None (omega arith), (y.0, y.1, (y.0, y.1, refl)));
          carries = each-one (Carries kind_of ps first (map some first)) v (record {
            opened = refl;
            nodes = λ b g e. absurd (none-held (length ps) b g e);
            single = λ k p. let z = bare k p in let q = z.3 in omega arith;
            cover = λ k p h. let z = bare k p in let q = z.3 in absurd (omega arith);
            whole = λ b k g e. absurd (none-held (length ps) b g e);
            there = λ b k g e. absurd (none-held (length ps) b g e);
            empty = λ k p h. absurd (omega arith);
          });
        };
      }

  -- where the only seat has no grant, each parcel is in its slot
  pub closes : (ps : List ℕ) (first : List (Option P)) (s : State (Option P) (List (View P E))) (r : Base kind_of ps first s) (id : ℕ) (v : View P E)
      → get_elem? s.views id ≡ some (v ∷ []) → v.parts ≡ 64
      → ((b : ℕ) (g : List (Option P)) → get_elem? v.held b ≡ some (Some g) → ⊥)
      → (k : ℕ) → 0 < k → k < length ps → (y : Option P) × (get_elem? s.homes k ≡ some (some y)) × IsParcel kind_of first k y
  closes ps first s r id v at all none_open k p l =
      let ca = r.parcels.carries id (v ∷ []) at 0 v refl in
      r.parcels.home k p l (only-view P E ps s.words s.views r.shares id v at all (has_out k)
      ∙ (let z : (0 < has_out k v → ⊥) = (λ h. let c = ca.cover k p h in none_open c.0 c.1 c.2) in none-then (has_out k v) z))

-- with nothing in the history
module _ (P C R B : Type 0) (kind_of : P → Kind) (m : Behaviour P C R B) where
  abbrev E : Type 0
  E = Entry P C R

  pub opens-whole : (ps : List ℕ) (first : List (Option P)) → IsTree ps → length ps ≤ 1024 → length first ≡ length ps
      → ((k : ℕ) → 0 < k → k < length ps → (p : P) × (get_or first k None ≡ Some p))
      → m.invariant ps (listed first) [] 0
      → Rule kind_of m ps first (opening (replicate (length ps) 0) first (opening_view ps first ∷ []))
  opens-whole ps first tree few wide there sound =
      let v : View P E = opening_view ps first in record {
        base = opens P E kind_of ps first tree few wide there;
        history = record {
          log = [];
          legal = tt;
          current = record {
            now = λ k pk lk z. at-home first k None (omega arith);
            granted = each-one (ListsCurrent ps (listed first)) v (λ b k g e. absurd (none-held (length ps) b g e));
          };
          seen = each-one (λ (u : View P E). StartsWith [] u.seen) v ([], refl);
          mine = λ p. let z : one_if (ltb p 0) ≡ 0 = ap one_if (le-ltb p 0 (omega arith)) in sym z;
          own = each-one (Own P C R B m ps first) v (tt, (λ p some_p. absurd (omega arith)));
          shared = λ weigh. refl;
          hand = each-one (HasHand P C R B m ps first) v ([], λ weigh. refl);
          hands = [];
          all_hands = λ weigh. refl;
          sound = sound;
          throughout = λ earlier later e. subst (λ (l : List E). (hands : List B) × AreHands m.takes m.gives l hands
              × m.invariant ps (after ps (listed first) l) hands (length l)) (sym (none-before earlier later e)) ([], (λ weigh. refl), sound);
        };
      }

  -- the only seat, which has no grant: all parcels are at home as its history left them, and that history is the whole one, each entry of it the seat's
  module _ (ps : List ℕ) (first : List (Option P)) (s : State (Option P) (List (View P E))) (r : Rule kind_of m ps first s) (id : ℕ) (v : View P E)
      (at : get_elem? s.views id ≡ some (v ∷ [])) (all : v.parts ≡ 64) where
    all_seen : r.history.log ≡ v.seen
    all_seen = only-log P C R B kind_of m ps first s r.base r.history id v at all

    -- the seat's entries weigh as much as all
    own-weigh : (weigh : E → ℕ) → total weigh (chosen v.seen v.mine) ≡ total weigh v.seen
    own-weigh weigh = sym (only-view P E ps s.words s.views r.base.shares id v at all (λ (u : View P E). total weigh (chosen u.seen u.mine)))
        ∙ (r.history.shared weigh ∙ ap (total weigh) all_seen)

    own-hands : AreHands m.takes m.gives (chosen v.seen v.mine) r.history.hands
    own-hands weigh =
        let q = r.history.all_hands weigh in
        let g = own-weigh (λ (d : E). total weigh (m.gives d.call d.reply)) in let t = own-weigh (λ (d : E). total weigh (m.takes d.call d.reply)) in
        let g_own = moved-weigh m.gives weigh (chosen v.seen v.mine) in let t_own = moved-weigh m.takes weigh (chosen v.seen v.mine) in
        let g_all = moved-weigh m.gives weigh v.seen in let t_all = moved-weigh m.takes weigh v.seen in
        let g_log : total weigh (batches_of m.gives r.history.log) ≡ total weigh (batches_of m.gives v.seen) = ap
        (λ (l : List E). total weigh (batches_of m.gives l)) all_seen in
        let t_log : total weigh (batches_of m.takes r.history.log) ≡ total weigh (batches_of m.takes v.seen) = ap
        (λ (l : List E). total weigh (batches_of m.takes l)) all_seen in omega arith

    pub closes-history : Legal m.steps ps (listed first) v.seen × SoundThroughout m ps (listed first) v.seen
        × ((hands : List B) × AreHands m.takes m.gives (entries_of v) hands × m.invariant ps (after ps (listed first) v.seen) hands (length v.seen))
        × ((p : ℕ) → tally p v.mine ≡ one_if (ltb p (length v.seen)))
    closes-history = (
      subst (λ (l : List E). Legal m.steps ps (listed first) l) all_seen r.history.legal,
      subst (λ (l : List E). SoundThroughout m ps (listed first) l) all_seen r.history.throughout,
      (r.history.hands, own-hands, subst (λ (l : List E). m.invariant ps (after ps (listed first) l) r.history.hands (length l)) all_seen r.history.sound),
      (λ p. only-mine P C R B kind_of m ps first s r.base r.history id v at all p ∙ ap (λ (l : List E). one_if (ltb p (length l))) all_seen),
    )

    pub closes-parcels : ((b : ℕ) (g : List (Option P)) → get_elem? v.held b ≡ some (Some g) → ⊥) → (k : ℕ) → 0 < k → k < length ps
        → get_elem? s.homes k ≡ some (some (after ps (listed first) v.seen k))
    closes-parcels none_open k pk lk =
        let ca = r.base.parcels.carries id (v ∷ []) at 0 v refl in
        r.history.current.now k pk lk (only-view P E ps s.words s.views r.base.shares id v at all (has_out k)
        ∙ none-then (has_out k v) (λ h. let c = ca.cover k pk h in none_open c.0 c.1 c.2))
        ∙ ap (λ (l : List E). some (some (after ps (listed first) l k))) all_seen
