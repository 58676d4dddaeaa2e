-- Views that are dealt out anew: seats that meet, part and are joined keep the rule.
use Rattle.std.proofs.Common.{◌≡◌, ◌≢◌, ℕ, ◌+◌, ◌<◌, ◌≤◌, eqb, List, [], ◌∷◌, ◌++◌, length, replicate, set, sym, refl, ap, ◌∙◌, arith, Option, None}
use mathlib.Core.Option.{some}
use mathlib.Core.Option as maybe
use lib.ListN.{get_elem?}
use Rattle.atomic_table.specs.Table.{State, Joins, Splits}
use Rattle.atomic_table.proofs.Lists.{set_else}
use Rattle.depot_rule.specs.declared.view.View.{View}
use Rattle.depot_rule.specs.declared.view.Entry.{Entry}
use Rattle.depot_rule.specs.History.{Behaviour, listed, after, chosen, StartsWith}
use Rattle.affinity.specs.Ancestors.{one_if, tally, ancestors}
use Rattle.depot_rule.specs.Sums.{total, over_taken}
use Rattle.depot_rule.specs.Shares.{Each, parts, made, due, unsettled, claims, entered, shares, IsWellFormed}
use Rattle.depot_rule.specs.Parcels.{has_out, Carries}
use Rattle.depot_rule.specs.Rule.{Rule}
use Rattle.depot_rule.specs.Seats.{longer, having_seen, first_of, others_of}
use Rattle.depot_rule.specs.lemmas.Sums.{one-other, total-set, total-append, over-none}
use Rattle.depot_rule.proofs.Views.{All, all-none, all-one, all-append, each-set, each-more}
use Rattle.depot_rule.proofs.Current.{ListsCurrent}
use Rattle.depot_rule.proofs.Remembering.{Own, HasHand, dealt}
use Rattle.depot_rule.proofs.Meeting.{both-begin, first-chosen, second-chosen, first-met, second-met}
use Rattle.affinity.specs.declared.affinity.Kind.{Kind}

module _ {V : Type 0} where
  -- one seat has what two had
  total-joined : (f : V → ℕ) (views : List (List V)) (id other : ℕ) (vs ws both : List V) → get_elem? views id ≡ some vs
      → get_elem? (set views id both) other ≡ some ws
      → total f both ≡ total f vs + total f ws → total (total f) (set (set views id both) other []) ≡ total (total f) views
  total-joined f views id other vs ws both at at' e =
      let a = total-set (total f) views id vs both at in let b = total-set (total f) (set views id both) other ws [] at' in omega arith

  joined-less : (f : V → ℕ) (views : List (List V)) (id other : ℕ) (vs ws both : List V) → get_elem? views id ≡ some vs
      → get_elem? (set views id both) other ≡ some ws
      → total f both ≤ total f vs + total f ws → total (total f) (set (set views id both) other []) ≤ total (total f) views
  joined-less f views id other vs ws both at at' e =
      let a = total-set (total f) views id vs both at in let b = total-set (total f) (set views id both) other ws [] at' in omega arith

  parted-less : (f : V → ℕ) (views : List (List V)) (id : ℕ) (vs left right : List V) → get_elem? views id ≡ some vs
      → total f left + total f right ≤ total f vs → total (total f) (set views id left ++ right ∷ []) ≤ total (total f) views
  parted-less f views id vs left right at e =
      let a = total-set (total f) views id vs left at in let b = total-append (total f) (set views id left) (right ∷ []) in omega arith

  -- two have what one had
  total-parted : (f : V → ℕ) (views : List (List V)) (id : ℕ) (vs left right : List V) → get_elem? views id ≡ some vs
      → total f left + total f right ≡ total f vs → total (total f) (set views id left ++ right ∷ []) ≡ total (total f) views
  total-parted f views id vs left right at e =
      let a = total-set (total f) views id vs left at in let b = total-append (total f) (set views id left) (right ∷ []) in omega arith

module _ (P C R B : Type 0) (kind_of : P → Kind) (m : Behaviour P C R B) where
  abbrev E : Type 0
  E = Entry P C R

  abbrev St : Type 0
  St = State (Option P) (List (View P E))

  -- f adds up to as much as before, for each f that the rule speaks of, or to no more
  abbrev Agree : ((View P E → ℕ) → Type 0) → ((View P E → ℕ) → Type 0) → Type 0
  Agree same less = same parts × ((a : ℕ) → 0 < a → same (shares a)) × ((a : ℕ) → 0 < a → same (claims a)) × ((a : ℕ) → 0 < a → same (entered a))
      × ((k : ℕ) → 0 < k → same (has_out k)) × same made
      × ((p : ℕ) → same (λ (v : View P E). tally p v.mine)) × ((weigh : E → ℕ) → same (λ (v : View P E). total weigh (chosen v.seen v.mine)))
      × same unsettled × less due

  -- what the rule says of each view alone
  abbrev Sound : (ps : List ℕ) (first : List (Option P)) (s : St) → Rule kind_of m ps first s → View P E → Type 0
  Sound ps first s r v = IsWellFormed ps v × Carries kind_of ps first s.homes v × ListsCurrent ps (after ps (listed first) r.history.log) v
      × StartsWith r.history.log v.seen × Own P C R B m ps first v × HasHand P C R B m ps first v

  -- of the views of all seats
  abbrev AreSound : (ps : List ℕ) (first : List (Option P)) (s : St) → Rule kind_of m ps first s → List (List (View P E)) → Type 0
  AreSound ps first s r views = Each (Sound ps first s r) views

  sound-views : (ps : List ℕ) (first : List (Option P)) (s : St) (r : Rule kind_of m ps first s) → AreSound ps first s r s.views
  sound-views ps first s r j vs at i v in_vs = (
    r.base.shares.sound j vs at i v in_vs,
    r.base.parcels.carries j vs at i v in_vs,
    r.history.current.granted j vs at i v in_vs,
    r.history.seen j vs at i v in_vs,
    r.history.own j vs at i v in_vs,
    r.history.hand j vs at i v in_vs,
  )

  -- the rule sees the views added up, and each alone
  redealt : (ps : List ℕ) (first : List (Option P)) (s : St) (r : Rule kind_of m ps first s) (views : List (List (View P E)))
      → Agree (λ f. total (total f) views ≡ total (total f) s.views) (λ f. total (total f) views ≤ total (total f) s.views)
      → AreSound ps first s r views
      → Rule kind_of m ps first record { words = s.words; homes = s.homes; views = views }
  redealt ps first s whole views same sound = let r = whole.base in record {
    base = record {
      shares = record {
        tree = r.shares.tree;
        few = r.shares.few;
        as_many = r.shares.as_many;
        seats = same.0 ∙ r.shares.seats;
        counted = λ a p l. r.shares.counted a p l ∙ sym (same.1 a p);
        ticket = r.shares.ticket ∙ sym same.5;
        bounded = let q = r.shares.bounded in let d = same.9 in let t = same.8 in omega arith;
        alone = λ a p l h. let c = same.2 a p in let e = same.3 a p in let q = r.shares.alone a p l (omega arith) in let q0 = q.0 in let q1 = q.1
            in (omega arith, omega arith);
        sound = λ j vs at i v in_vs. (sound j vs at i v in_vs).0;
      };
      parcels = record {
        slots = r.parcels.slots;
        home = λ k p l z. let t = same.4 k p in r.parcels.home k p l (omega arith);
        carries = λ j vs at i v in_vs. (sound j vs at i v in_vs).1;
      };
    };
    history = dealt P C R B m ps first s whole.history views same.4 (λ j vs at i v in_vs. (sound j vs at i v in_vs).2)
        (λ j vs at i v in_vs. (sound j vs at i v in_vs).3) same.6
        (λ j vs at i v in_vs. (sound j vs at i v in_vs).4) same.7 (λ j vs at i v in_vs. (sound j vs at i v in_vs).5);
  }

  pub joined : (ps : List ℕ) (first : List (Option P)) (id : ℕ) (vs : List (View P E)) (other : ℕ) (ws both : List (View P E))
      → ((s : St) (r : Rule kind_of m ps first s) → get_elem? s.views id ≡ some vs → get_elem? s.views other ≡ some ws → id ≢ other
      → Agree (λ f. total f both ≡ total f vs + total f ws) (λ f. total f both ≤ total f vs + total f ws) × All (Sound ps first s r) both)
      → Joins (Rule kind_of m ps first) id vs other ws both []
  joined ps first id vs other ws both go s r at ne at' =
      let there : get_elem? s.views other ≡ some ws = sym (set_else s.views id other both ne) ∙ at' in
      let q = go s r at there (λ e. ne (sym e)) in
      redealt ps first s r (set (set s.views id both) other []) (
        total-joined parts s.views id other vs ws both at at' q.0.0,
        (λ a p. total-joined (shares a) s.views id other vs ws both at at' (q.0.1 a p)),
        (λ a p. total-joined (claims a) s.views id other vs ws both at at' (q.0.2 a p)),
        (λ a p. total-joined (entered a) s.views id other vs ws both at at' (q.0.3 a p)),
        (λ k p. total-joined (has_out k) s.views id other vs ws both at at' (q.0.4 k p)),
        total-joined made s.views id other vs ws both at at' q.0.5,
        (λ p. total-joined (λ (v : View P E). tally p v.mine) s.views id other vs ws both at at' (q.0.6 p)),
        (λ weigh. total-joined (λ (v : View P E). total weigh (chosen v.seen v.mine)) s.views id other vs ws both at at' (q.0.7 weigh)),
        total-joined unsettled s.views id other vs ws both at at' q.0.8,
        joined-less due s.views id other vs ws both at at' q.0.9,
      )
      (each-set (Sound ps first s r) (set s.views id both) other [] (each-set (Sound ps first s r) s.views id both (sound-views ps first s r) q.1)
      (all-none (Sound ps first s r)))

  pub parted_in : (ps : List ℕ) (first : List (Option P)) (id : ℕ) (vs left right : List (View P E))
      → ((s : St) (r : Rule kind_of m ps first s) → get_elem? s.views id ≡ some vs
      → Agree (λ f. total f left + total f right ≡ total f vs) (λ f. total f left + total f right ≤ total f vs) × All (Sound ps first s r) left
      × All (Sound ps first s r) right)
      → Splits (Rule kind_of m ps first) id vs left right
  parted_in ps first id vs left right go s r at =
      let q = go s r at in
      redealt ps first s r (set s.views id left ++ right ∷ []) (
        total-parted parts s.views id vs left right at q.0.0,
        (λ a p. total-parted (shares a) s.views id vs left right at (q.0.1 a p)),
        (λ a p. total-parted (claims a) s.views id vs left right at (q.0.2 a p)),
        (λ a p. total-parted (entered a) s.views id vs left right at (q.0.3 a p)),
        (λ k p. total-parted (has_out k) s.views id vs left right at (q.0.4 k p)),
        total-parted made s.views id vs left right at q.0.5,
        (λ p. total-parted (λ (v : View P E). tally p v.mine) s.views id vs left right at (q.0.6 p)),
        (λ weigh. total-parted (λ (v : View P E). total weigh (chosen v.seen v.mine)) s.views id vs left right at (q.0.7 weigh)),
        total-parted unsettled s.views id vs left right at q.0.8,
        parted-less due s.views id vs left right at q.0.9,
      )
      (each-more (Sound ps first s r) (set s.views id left) right (each-set (Sound ps first s r) s.views id left (sound-views ps first s r) q.1) q.2)

  -- a view that has seen more
  seen-sound : (ps : List ℕ) (es : List E) (v : View P E) → IsWellFormed ps v → IsWellFormed ps (having_seen es v)
  seen-sound ps es v s = record { some_part = s.some_part; tree = s.tree; wide = s.wide; once = s.once; looked = s.looked }

  seen-carries : (ps : List ℕ) (first : List (Option P)) (homes : List (maybe.Option (Option P))) (es : List E) (v : View P E)
      → Carries kind_of ps first homes v → Carries kind_of ps first homes (having_seen es v)
  seen-carries ps first homes es v c = record {
    opened = c.opened;
    nodes = c.nodes;
    single = c.single;
    cover = c.cover;
    whole = c.whole;
    there = c.there;
    empty = c.empty;
  }

  -- two seats meet: their views lie side by side
  pub meets : (ps : List ℕ) (first : List (Option P)) (id : ℕ) (vs : List (View P E)) (other : ℕ) (ws : List (View P E))
      → Joins (Rule kind_of m ps first) id vs other ws (vs ++ ws) []
  meets ps first id vs other ws = joined ps first id vs other ws (vs ++ ws) (λ s r at at' ne.
      let adds : (f : View P E → ℕ) → total f (vs ++ ws) ≡ total f vs + total f ws = λ f. total-append f vs ws in (
        (
          adds parts,
          (λ a p. adds (shares a)),
          (λ a p. adds (claims a)),
          (λ a p. adds (entered a)),
          (λ k p. adds (has_out k)),
          adds made,
          (λ p. adds (λ (v : View P E). tally p v.mine)),
          (λ weigh. adds (λ (v : View P E). total weigh (chosen v.seen v.mine))),
          adds unsettled,
          (let a = adds due in omega arith),
        ),
        all-append (Sound ps first s r) vs ws (sound-views ps first s r id vs at) (sound-views ps first s r other ws at'),
      ))

  -- and part again, each with the longer history
  pub parts-again : (ps : List ℕ) (first : List (Option P)) (id : ℕ) (vs : List (View P E)) → length vs ≡ 2 → Splits (Rule kind_of m ps first) id vs
      (first_of vs) (others_of vs)
  parts-again ps first id [] two = absurd (omega arith)
  parts-again ps first id (v ∷ []) two = absurd (omega arith)
  parts-again ps first id (v ∷ w ∷ u ∷ us) two = absurd (omega arith)
  parts-again ps first id (v ∷ w ∷ []) two = parted_in ps first id (v ∷ w ∷ []) (first_of (v ∷ w ∷ [])) (others_of (v ∷ w ∷ [])) (λ s r at.
      let es : List E = longer v.seen w.seen in
      let h = r.history in
      let begins = both-begin P C R B m ps first s h id (v ∷ w ∷ []) 0 v at refl id (v ∷ w ∷ []) 1 w at refl in
      let one = first-met P C R B m ps first s h id (v ∷ w ∷ []) 0 v at refl id (v ∷ w ∷ []) 1 w at refl in
      let two = second-met P C R B m ps first s h id (v ∷ w ∷ []) 0 v at refl id (v ∷ w ∷ []) 1 w at refl in
      let a = sound-views ps first s r id (v ∷ w ∷ []) at 0 v refl in let b = sound-views ps first s r id (v ∷ w ∷ []) at 1 w refl in (
        (
          omega arith,
          (λ a p. omega arith),
          (λ a p. omega arith),
          (λ a p. omega arith),
          (λ k p. omega arith),
          omega arith,
          (λ p. omega arith),
          (λ weigh.
              let x : total weigh (chosen es v.mine) ≡ total weigh (chosen v.seen v.mine) = ap (total weigh)
              (first-chosen P C R B m ps first s h id (v ∷ w ∷ []) 0 v at refl id (v ∷ w ∷ []) 1 w at refl) in
              let y : total weigh (chosen es w.mine) ≡ total weigh (chosen w.seen w.mine) = ap (total weigh)
              (second-chosen P C R B m ps first s h id (v ∷ w ∷ []) 0 v at refl id (v ∷ w ∷ []) 1 w at refl) in omega arith),
          omega arith,
          omega arith,
        ),
        all-one (Sound ps first s r) (having_seen es v) (seen-sound ps es v a.0, seen-carries ps first s.homes es v a.1, a.2, begins, one.0, one.1),
        all-one (Sound ps first s r) (having_seen es w) (seen-sound ps es w b.0, seen-carries ps first s.homes es w b.1, b.2, begins, two.0, two.1),
      ))

module _ (P E : Type 0) (kind_of : P → Kind) where
  -- a view with nothing entered, granted or taken
  pub bare-counts : (v : View P E) (a : ℕ) → 0 < a → v.unsure ≡ 0 → v.path ≡ [] → v.out ≡ 0 → v.gone ≡ [] → (n : ℕ) → v.held ≡ replicate n None
      → (shares a v ≡ 0) × (claims a v ≡ 0) × (entered a v ≡ 0) × (has_out a v ≡ 0)
  bare-counts v a pos u p h g n e =
      let z = one-other v.unsure a (λ q. omega arith) in let z' = one-other v.out a (λ q. omega arith) in
      let no_path : tally a v.path ≡ 0 = ap (tally a) p in let none_gone : tally a v.gone ≡ 0 = ap (tally a) g in
      let c : claims a v ≡ 0 = ap (λ (l : List (Option (List (Option P)))). over_taken (λ b. one_if (eqb b a)) 0 l) e ∙ over-none (List (Option P))
      (λ b. one_if (eqb b a)) 0 n in
      let l : over_taken (λ b. tally a (ancestors v.tree b)) 0 v.held ≡ 0 = ap (λ (l : List (Option (List (Option P)))). over_taken
      (λ b. tally a (ancestors v.tree b)) 0 l) e ∙ over-none (List (Option P)) (λ b. tally a (ancestors v.tree b)) 0 n in
      (omega arith, omega arith, omega arith, omega arith)
