-- The stamp adds an entry to the history.
use Rattle.std.proofs.Common.{◌≡◌, ◌≢◌, ◌⊎◌, ℕ, ◌+◌, ◌<◌, eqb, ltb, Bool, true, false, ◌||◌, List, [], ◌∷◌, ◌++◌, length, get_or, set, sym}
use Rattle.std.proofs.Common.{refl, ap, ◌∙◌, subst, arith, length-append, eq-eqb, inl, inr, ⊎_elim, Option, Some, None}
use Rattle.std.proofs.lemmas.Bool.{lt-ltb, le-ltb, ltb-true, eqb-true}
use mathlib.Core.Option.{some}
use mathlib.Core.Logic.{dite}
use native.Mathlib.Decide.{ℕ_discrete, dec_lt}
use lib.ListN.{get_elem?}
use Rattle.atomic_table.specs.Table.{State}
use Rattle.depot_rule.specs.declared.view.View.{View}
use Rattle.depot_rule.specs.declared.view.Entry.{Entry}
use Rattle.depot_rule.specs.declared.view.Read.{Read}
use Rattle.affinity.specs.Ancestors.{one_if, tally, IsTree, ancestors, Covers}
use Rattle.depot_rule.specs.Sums.{total}
use Rattle.depot_rule.specs.Shares.{Has}
use Rattle.depot_rule.specs.Parcels.{has_out}
use Rattle.depot_rule.specs.Rule.{Base}
use Rattle.depot_rule.specs.Seats.{if_less}
use Rattle.depot_rule.specs.Machine.{IsLocal, Keeps}
use Rattle.depot_rule.specs.History.{Behaviour, Current, History, covers, patched, listed, put_in, after, Legal, SoundThroughout, chosen, AreHands, StartsWith}
use Rattle.depot_rule.specs.lemmas.Sums.{one-same, one-other, total-set, total-at, total-append, tally-append}
use Rattle.depot_rule.specs.lemmas.Trees.{above-smaller, covers-below}
use Rattle.depot_rule.proofs.Views.{all-one, each-set, each-moved}
use Rattle.depot_rule.proofs.Grants.{covers-one}
use Rattle.depot_rule.specs.lemmas.Histories.{after-snoc, legal-snoc, moved-snoc, starts-itself, starts-more}
use Rattle.depot_rule.proofs.Current.{current-granted}
use Rattle.depot_rule.proofs.Chosen.{chosen-within, chosen-snoc, ascends-snoc}
use Rattle.depot_rule.proofs.Remembering.{Own, HasHand}
use Rattle.depot_rule.proofs.Hands.{other-hands}
use Rattle.affinity.specs.declared.affinity.Kind.{Kind}

-- covering, decided
either-true : (b c : Bool) → b || c ≡ true → (b ≡ true) ⊎ (c ≡ true)
either-true true c e = inl refl
either-true false c e = inr e

or-right : (b c : Bool) → c ≡ true → b || c ≡ true
or-right true c e = refl
or-right false c e = e

or-left : (b c : Bool) → b ≡ true → b || c ≡ true
or-left true c e = refl
or-left false c e = absurd cc

covers-so : (ps : List ℕ) (a k : ℕ) → covers ps a k ≡ true → Covers ps a k
covers-so ps a k e = ⊎_elim
    (λ (here : eqb a k ≡ true). inl (eqb-true a k here))
    (λ (above : ltb 0 (tally a (ancestors ps k)) ≡ true). inr (ltb-true 0 (tally a (ancestors ps k)) above))
    (either-true (eqb a k) (ltb 0 (tally a (ancestors ps k))) e)

so-covers : (ps : List ℕ) (a k : ℕ) → Covers ps a k → covers ps a k ≡ true
so-covers ps a k c = ⊎_elim
    (λ (e : a ≡ k). or-left (eqb a k) (ltb 0 (tally a (ancestors ps k))) (eq-eqb a k e))
    (λ (h : 0 < tally a (ancestors ps k)). or-right (eqb a k) (ltb 0 (tally a (ancestors ps k))) (lt-ltb 0 (tally a (ancestors ps k)) h)) c

if-less : {A : Type 0} (b : Bool) (x y : A) → b ≡ true → if_less b x y ≡ x
if-less true x y e = refl
if-less false x y e = absurd cc

if-others : {A : Type 0} (b : Bool) (x y z : A) → (b ≡ true → x ≡ z) → (b ≡ false → y ≡ z) → if_less b x y ≡ z
if-others true x y z e f = e refl
if-others false x y z e f = f refl

-- a beginning of a list and one more is the whole, or a beginning of the list
last-or-before : {A : Type 0} (xs ys zs : List A) (z : A) → xs ++ ys ≡ zs ++ z ∷ [] → (xs ≡ zs ++ z ∷ []) ⊎ ((more : List A) × (xs ++ more ≡ zs))
last-or-before [] ys zs z e = inr (zs, refl)
last-or-before (x ∷ xs) ys [] z e = inl (let none : xs ++ ys ≡ [] = cc in let first : x ≡ z = cc in λ i. first i ∷ nothing xs ys none i)
  where
    nothing : {A : Type 0} (us vs : List A) → us ++ vs ≡ [] → us ≡ []
    nothing [] vs n = refl
    nothing (u ∷ us) vs n = absurd cc
last-or-before (x ∷ xs) ys (w ∷ zs) z e =
    let first : x ≡ w = cc in let further : xs ++ ys ≡ zs ++ z ∷ [] = cc in ⊎_elim
    (λ (t : xs ≡ zs ++ z ∷ []). inl (λ i. first i ∷ t i))
    (λ (t : (more : List _) × (xs ++ more ≡ zs)). inr (t.0, λ i. first i ∷ t.1 i))
    (last-or-before xs ys zs z further)

module _ {P : Type 0} where
  -- what is patched in, and what stays outside
  patched-in : (ps : List ℕ) (a k : ℕ) (inner outer : ℕ → Option P) → Covers ps a k → patched ps a inner outer k ≡ inner k
  patched-in ps a k inner outer c = if-less (covers ps a k) (inner k) (outer k) (so-covers ps a k c)

  patched-out : (ps : List ℕ) (a k : ℕ) (inner outer : ℕ → Option P) → (Covers ps a k → ⊥) → patched ps a inner outer k ≡ outer k
  patched-out ps a k inner outer apart = if-others (covers ps a k) (inner k) (outer k) (outer k) (λ e. absurd (apart (covers-so ps a k e))) (λ e. refl)

  patched-alike : (ps : List ℕ) (a : ℕ) (one other outer : ℕ → Option P) → ((k : ℕ) → Covers ps a k → one k ≡ other k)
      → patched ps a one outer ≡ patched ps a other outer
  patched-alike ps a one other outer same = λ i k. at k i
    where
      pick : (b : Bool) (x y z : Option P) → (b ≡ true → x ≡ y) → if_less b x z ≡ if_less b y z
      pick true x y z e = e refl
      pick false x y z e = refl

      at : (k : ℕ) → patched ps a one outer k ≡ patched ps a other outer k
      at k = pick (covers ps a k) (one k) (other k) (outer k) (λ e. same k (covers-so ps a k e))

-- a node covers nodes alone
covered-node : (ps : List ℕ) → IsTree ps → (a k : ℕ) → 0 < a → a < length ps → Covers ps a k → (0 < k) × (k < length ps)
covered-node ps t a k pos lt c = (positive, covers-below ps a k positive lt c)
  where
    positive : 0 < k
    positive = ⊎_elim (λ (e : a ≡ k). let p : 0 < k = omega arith in p) (λ (h : 0 < tally a (ancestors ps k)).
        let s = above-smaller ps t a k h in let s1 = s.1 in let p : 0 < k = omega arith in p) c

-- one place more
one-below : (p n : ℕ) → one_if (ltb p n) + one_if (eqb n p) ≡ one_if (ltb p (n + 1))
one-below p n = dite (ℕ_discrete n p)
    (λ e. let a = one-same n p e in let b : one_if (ltb p n) ≡ 0 = ap one_if (le-ltb p n (omega arith)) in let c : one_if (ltb p (n + 1)) ≡ 1 = ap
    one_if (lt-ltb p (n + 1) (omega arith)) in omega arith)
    (λ ne. let a = one-other n p ne in dite (dec_lt p n)
    (λ lt. let b : one_if (ltb p n) ≡ 1 = ap one_if (lt-ltb p n lt) in let c : one_if (ltb p (n + 1)) ≡ 1 = ap one_if
    (lt-ltb p (n + 1) (omega arith)) in omega arith)
    (λ ge. let b : one_if (ltb p n) ≡ 0 = ap one_if (le-ltb p n (omega arith)) in let c : one_if (ltb p (n + 1)) ≡ 0 = ap one_if
    (le-ltb p (n + 1) (omega arith)) in omega arith))

module _ (P C R B : Type 0) (kind_of : P → Kind) (m : Behaviour P C R B) where
  abbrev E : Type 0
  E = Entry P C R

  abbrev G : Type 0
  G = List (Option P)

  -- the call's step, from the parcels as the history left them
  steps-on : IsLocal m.steps → (ps : List ℕ) → IsTree ps → (e : E) (f f' F : ℕ → Option P) → 0 < e.node → e.node < length ps
      → m.steps ps e.node e.call f e.reply f'
      → ((k : ℕ) → 0 < k → k < length ps → Covers ps e.node k → F k ≡ f k)
      → ((k : ℕ) → 0 < k → k < length ps → Covers ps e.node k → f' k ≡ get_or e.left k None)
      → m.steps ps e.node e.call F e.reply (put_in ps e F)
  steps-on local ps tree e f f' F pos lt step before left =
      let node : (k : ℕ) → Covers ps e.node k → (0 < k) × (k < length ps) = λ k c. covered-node ps tree e.node k pos lt c in
      let there = (local ps e.node e.call f F e.reply f' step).1 (λ k c. before k (node k c).0 (node k c).1 c) in
      subst (λ g. m.steps ps e.node e.call F e.reply g) (patched-alike ps e.node f' (listed e.left) F (λ k c. left k (node k c).0 (node k c).1 c)) there

  module _ (local : IsLocal m.steps) (keeps : Keeps m.steps m.takes m.gives m.invariant) (ps : List ℕ) (first : G)
      (s : State (Option P) (List (View P E))) (r : Base kind_of ps first s) (h : History m ps first s)
      (id : ℕ) (v : View P E) (at : get_elem? s.views id ≡ some (v ∷ [])) (e : E) (g : G) (here : Has v e.node g)
      (once : (k : ℕ) → 0 < k → k < length ps → Covers ps e.node k → has_out k v ≡ 1)
      (f f' : ℕ → Option P) (step : m.steps ps e.node e.call f e.reply f')
      (before : (k : ℕ) → 0 < k → k < length ps → Covers ps e.node k → get_or g k None ≡ f k)
      (left : (k : ℕ) → 0 < k → k < length ps → Covers ps e.node k → f' k ≡ get_or e.left k None)
      (own own' : List B) (mine : AreHands m.takes m.gives (chosen v.seen v.mine) own)
      (change : (weigh : B → ℕ) → total weigh (m.gives e.call e.reply) + total weigh own' ≡ total weigh (m.takes e.call e.reply) + total weigh own)
      (words : List ℕ) (rs : List Read) where
    abbrev F : ℕ → Option P
    F = after ps (listed first) h.log

    abbrev log : List E
    log = h.log ++ e ∷ []

    abbrev stamped : View P E
    stamped = record v { stamped = e.node; held = set v.held e.node (Some e.left); reads = rs; seen = log; mine = v.mine ++ length h.log ∷ [] }

    node : (0 < e.node) × (e.node < length ps)
    node = (r.parcels.carries id (v ∷ []) at 0 v refl).nodes e.node g here

    -- the grant lists the parcels as the history left them
    found : (k : ℕ) → 0 < k → k < length ps → Covers ps e.node k → F k ≡ f k
    found k pk lk c = sym (h.current.granted id (v ∷ []) at 0 v refl e.node k g here c pk lk) ∙ before k pk lk c

    stepped : m.steps ps e.node e.call F e.reply (put_in ps e F)
    stepped = steps-on local ps r.shares.tree e f f' F node.0 node.1 step found left

    longer : length log ≡ length h.log + 1
    longer = length-append h.log (e ∷ [])

    -- the seat's places lie in what it had seen, which is a beginning of the log
    seen_before : StartsWith h.log v.seen
    seen_before = h.seen id (v ∷ []) at 0 v refl

    within : (p : ℕ) → 0 < tally p v.mine → p < length h.log
    within p some_p =
        let o = (h.own id (v ∷ []) at 0 v refl).1 p some_p in
        let n = length-append v.seen seen_before.0 in
        let size : length (v.seen ++ seen_before.0) ≡ length h.log = ap (λ (l : List E). length l) seen_before.1 in omega arith

    pub chosen_now : chosen log (v.mine ++ length h.log ∷ []) ≡ chosen v.seen v.mine ++ e ∷ []
    chosen_now = chosen-snoc h.log e v.mine within ∙ ap (λ l. l ++ e ∷ []) (chosen-within h.log v.seen v.mine seen_before (h.own id (v ∷ []) at 0 v refl).1)

    -- the parcels of other grants aren't the call's
    apart : (j i c k : ℕ) (us : List (View P E)) (u : View P E) (l : G) → get_elem? s.views j ≡ some us → get_elem? us i ≡ some u → Has u c l
        → (j ≡ id → c ≢ e.node) → Covers ps c k → Covers ps e.node k → ⊥
    apart j i c k us u l aj ai has other cover covered =
        let q = covers-one P E ps s.words s.views r.shares j id i 0 c e.node k us (v ∷ []) u v l g
        ((r.parcels.carries j us aj i u ai).nodes c l has).0 node.0 aj ai has at refl here cover covered in
        other q.0 q.2

    now : Current ps (put_in ps e F) record { words = words; homes = s.homes; views = set s.views id (stamped ∷ []) }
    now = current-granted ps (put_in ps e F) s words id e.node v stamped e.left at (λ k. refl) refl
        (λ k pk lk z. h.current.now k pk lk z
        ∙ ap (λ y. some (some y)) (sym (patched-out ps e.node k (listed e.left) F (λ c. let o = once k pk lk c in let t = total-at
        (total (has_out k)) s.views id (v ∷ []) at in absurd (omega arith)))))
        (λ j us aj i u ai c k l has other cover pk lk. h.current.granted j us aj i u ai c k l has cover pk lk
        ∙ sym (patched-out ps e.node k (listed e.left) F (λ covered. apart j i c k us u l aj ai has other cover covered)))
        (λ k c pk lk. sym (patched-in ps e.node k (listed e.left) F c))

    -- the hands of the other seats, and this one's as it is now
    others : (others : List B) × ((weigh : B → ℕ) → total weigh own + total weigh others ≡ total weigh h.hands)
    others = other-hands P C R B m ps first s h id v at own mine

    abbrev hands : List B
    hands = own' ++ others.0

    balance : (weigh : B → ℕ) → total weigh (m.gives e.call e.reply) + total weigh hands ≡ total weigh (m.takes e.call e.reply) + total weigh h.hands
    balance weigh = let c = change weigh in let o = others.1 weigh in let a = total-append weigh own' others.0 in omega arith

    pub stamp-legal : Legal m.steps ps (listed first) log
    stamp-legal = legal-snoc m.steps ps (listed first) h.log e h.legal stepped

    sound_now : m.invariant ps (after ps (listed first) log) hands (length log)
    sound_now = subst (λ (x : (ℕ → Option P) × ℕ). m.invariant ps x.0 hands x.1) (λ i. (sym (after-snoc ps (listed first) h.log e) i, sym longer i))
        (keeps ps e.node e.call F e.reply (put_in ps e F) h.hands hands (length h.log) h.sound stepped balance)

    hands_now : AreHands m.takes m.gives log hands
    hands_now weigh = let a = moved-snoc m.gives weigh h.log e in let b = moved-snoc m.takes weigh h.log e in let c = balance weigh
        in let q = h.all_hands weigh in omega arith

    pub stamp-throughout : SoundThroughout m ps (listed first) log
    stamp-throughout earlier later is = ⊎_elim
        (λ (t : earlier ≡ log). subst (λ (l : List E). (some_hands : List B) × AreHands m.takes m.gives l some_hands
        × m.invariant ps (after ps (listed first) l) some_hands (length l)) (sym t) (hands, hands_now, sound_now))
        (λ (t : (more : List E) × (earlier ++ more ≡ h.log)). h.throughout earlier t.0 t.1)
        (last-or-before earlier later h.log e is)

    pub stamp-remembers : History m ps first record { words = words; homes = s.homes; views = set s.views id (stamped ∷ []) }
    stamp-remembers = record {
      log = log;
      legal = stamp-legal;
      current = subst (λ z. Current ps z record { words = words; homes = s.homes; views = set s.views id (stamped ∷ []) })
          (sym (after-snoc ps (listed first) h.log e)) now;
      seen = each-moved (λ (u : View P E). StartsWith h.log u.seen) (λ (u : View P E). StartsWith log u.seen) s.views id (stamped ∷ [])
          (λ j us ne aj i u ai old. starts-more h.log (e ∷ []) u.seen old) h.seen
          (all-one (λ (u : View P E). StartsWith log u.seen) stamped (starts-itself log));
      mine = λ p. let t = total-set (total (λ (u : View P E). tally p u.mine)) s.views id (v ∷ []) (stamped ∷ []) at in let q = h.mine p
          in let a = tally-append p v.mine (length h.log ∷ []) in
          let b = one-below p (length h.log) in let n : one_if (ltb p (length log)) ≡ one_if (ltb p (length h.log + 1)) = ap (λ z. one_if (ltb p z))
          longer in omega arith;
      own = each-set (Own P C R B m ps first) s.views id (stamped ∷ []) h.own (all-one (Own P C R B m ps first) stamped (
        ascends-snoc v.mine (length h.log) (h.own id (v ∷ []) at 0 v refl).0 within,
        (λ p some_p. let a = tally-append p v.mine (length h.log ∷ []) in dite (ℕ_discrete (length h.log) p) (λ is. let n = longer in omega arith)
            (λ ne. let z = one-other (length h.log) p ne in let w = within p (omega arith) in let n = longer in omega arith)),
      ));
      shared = λ weigh. let t = total-set (total (λ (u : View P E). total weigh (chosen u.seen u.mine))) s.views id (v ∷ []) (stamped ∷ []) at
          in let q = h.shared weigh in
          let c : total weigh (chosen log (v.mine ++ length h.log ∷ [])) ≡ total weigh (chosen v.seen v.mine ++ e ∷ []) = ap (total weigh) chosen_now in
          let a = total-append weigh (chosen v.seen v.mine) (e ∷ []) in let b = total-append weigh h.log (e ∷ []) in omega arith;
      hand = each-set (HasHand P C R B m ps first) s.views id (stamped ∷ []) h.hand (all-one (HasHand P C R B m ps first) stamped (
        own',
        subst (λ l. AreHands m.takes m.gives l own') (sym chosen_now) (λ weigh. let a = moved-snoc m.gives weigh (chosen v.seen v.mine) e
            in let b = moved-snoc m.takes weigh (chosen v.seen v.mine) e in
            let c = change weigh in let i = mine weigh in omega arith),
      ));
      hands = hands;
      all_hands = hands_now;
      sound = sound_now;
      throughout = stamp-throughout;
    }
