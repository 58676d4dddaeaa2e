-- What the calls on a depot's only seat do to the books.
use Rattle.std.proofs.Common.{◌≡◌, ◌≢◌, ℕ, zero, suc, ◌+◌, ◌<◌, Bool, true, false, ◌||◌, List, [], ◌∷◌, ◌++◌, length, set, slice_index_or, arith}
use Rattle.std.proofs.Common.{Option, Some, None, refl, sym, ap, ◌∙◌, subst, inl, ⊎_elim}
use mathlib.Core.Option.{some, some-injective, some-ne-none}
use lib.ListN.{get_elem?}
use Rattle.atomic_table.proofs.Lists.{at_set, set_here, set_else}
use Rattle.nfs_model.specs.Tree.{Layout, Affinity, excludes, path, begins}
use Rattle.affinity.specs.declared.affinity.Kind.{Kind}
use Rattle.affinity.specs.Fault.{fault_of}
use Rattle.affinity.specs.Tree.{IsNode}
use Rattle.affinity.specs.Numbers.{number_of, node_count, parents}
use Rattle.affinity.specs.Ancestors.{IsTree, Covers, Excludes}
use Rattle.affinity.specs.lemmas.Smaller.{length-parents}
use Rattle.affinity.specs.lemmas.Standing.{parents-tree, number-place, excludes-number, number-excludes}
use Rattle.parcels.specs.Exact.{HasExactly}
use Rattle.depot_rule.specs.declared.view.View.{View}
use Rattle.depot_rule.specs.declared.view.Entry.{Entry}
use Rattle.depot_rule.specs.Shares.{worn, Has}
use Rattle.depot_rule.specs.History.{Behaviour, AreHands, patched, listed, after, entries_of}
use Rattle.depot_rule.specs.Plays.{with_entry}
use Rattle.depot_rule.specs.lemmas.Trees.{cover-excludes, covers-below, above-smaller}
use Rattle.depot_rule.specs.lemmas.Histories.{after-snoc}
use Rattle.depot_rule.specs.lemmas.Listed.{by-number-at}
use Rattle.depot_rule.specs.lemmas.Covering.{patched-in, patched-out}
use Rattle.depot.specs.Calls.{IsExcluded}
use Rattle.depot.specs.Grants.{entry_of, IsSeatOf, IsBegun, IsEnded, IsFinished}
use Rattle.desk.specs.laws.Books.{Lent, Books, overlaid, settled, now, stamps, HasLent, IsIdle, IsTaken, UnderLent, IsUnchanged, IsSame, IsSettled}
use Rattle.desk.specs.laws.Backing.{IsBacked, IsBook}
use Rattle.desk.specs.laws.lemmas.Overlays.{covers-or-not, overlaid-free, overlaid-below, overlaid-set, overlaid-here}

pub at-length : {A : Type 0} (l : List A) (i : ℕ) (x : A) → get_elem? l i ≡ some x → i < length l
at-length [] i x e = absurd (some-ne-none x (sym e))
at-length (y ∷ ys) zero x e = omega arith
at-length (y ∷ ys) (suc i) x e = let r = at-length ys i x e in omega arith

append-nil : {A : Type 0} (xs : List A) → xs ++ [] ≡ xs
append-nil [] = refl
append-nil (x ∷ xs) = ap (λ ys. x ∷ ys) (append-nil xs)

or-turned : (s t : Bool) → s || t ≡ t || s
or-turned true true = refl
or-turned true false = refl
or-turned false true = refl
or-turned false false = refl

excludes-turned : (layout : Layout) (a b : Affinity) → excludes layout a b ≡ excludes layout b a
excludes-turned layout a b = or-turned (begins (path layout a) (path layout b)) (begins (path layout b) (path layout a))

not-true : (t : Bool) → (t ≡ true → ⊥) → t ≡ false
not-true true h = absurd (h refl)
not-true false h = refl

false-true : (t : Bool) → t ≡ false → t ≡ true → ⊥
false-true true f e = absurd (let bad : true ≡ false = f in cc)
false-true false f e = absurd (let bad : false ≡ true = e in cc)

some-same : {A : Type 0} (x y : A) → some x ≡ some y → x ≡ y
some-same x y e = some-injective x y e

inner-same : {A : Type 0} (x y : A) → Some x ≡ Some y → x ≡ y
inner-same x y e = cc

none-some : {A : Type 0} (x : A) → None ≡ Some x → ⊥
none-some x e = absurd (cc)

module _ {P C R : Type 0} (kind : P → Kind) (b : Books P C R) (lawful : fault_of b.layout ≡ None) (v : View P (Entry P C R)) (h : IsBook kind b v) where
  abbrev ps : List ℕ
  ps = parents b.layout

  abbrev number : Affinity → ℕ
  number a = number_of b.layout a

  is-tree : IsTree ps
  is-tree = parents-tree b.layout lawful

  the-settled : (k : ℕ) → settled b k ≡ after v.tree (listed v.first) v.seen k
  the-settled k = ap (λ (x : List ℕ × (ℕ → Option P) × List (Entry P C R)). after x.0 x.1 x.2 k) (λ i. (sym h.seat.0 i, h.first i, h.entries i))

  -- what two workers were lent covers no node twice
  pub covered-once : (i j : ℕ) (l m : Lent P) → HasLent b i l → HasLent b j m → j ≢ i → (k : ℕ) → Covers ps (number l.affinity) k
      → Covers ps (number m.affinity) k → ⊥
  covered-once i j l m at there ne k c d =
      false-true (excludes b.layout l.affinity m.affinity) (h.apart i j l m at there (λ e. ne (sym e)))
      (number-excludes b.layout lawful l.affinity m.affinity (h.backed i l at).node (h.backed j m there).node
      (cover-excludes ps is-tree (number l.affinity) (number m.affinity) k c d))

  -- the same worker was lent one thing
  one-lent : (i : ℕ) (l m : Lent P) → HasLent b i l → HasLent b i m → l ≡ m
  one-lent i l m at there = inner-same l m (some-same (Some l) (Some m) (sym at ∙ there))

  positive : (l : Lent P) (i : ℕ) → HasLent b i l → (k : ℕ) → Covers ps (number l.affinity) k → (0 < k) × (k < length ps)
  positive l i at k c =
      let slot = number-place b.layout l.affinity (h.backed i l at).node in
      let pos : 0 < k = ⊎_elim
      (λ (e : number l.affinity ≡ k). subst (λ (n : ℕ). 0 < n) e slot.0)
      (λ u. let s = above-smaller ps is-tree (number l.affinity) k u in (let p : 0 < k = omega arith in p))
      c in
      (pos, covers-below ps (number l.affinity) k pos slot.1 c)

  -- what is lent is what is now, under its affinity
  lent-now : (i : ℕ) (l : Lent P) → HasLent b i l → (k : ℕ) → Covers ps (number l.affinity) k → now b k ≡ l.parcels k
  lent-now i l at k c = overlaid-here b.layout b.lent i l (settled b) k at c (λ j m there ne d. covered-once i j l m at there ne k c d)

  -- ---- a call begins

  module _ (i : ℕ) (idle : IsIdle b i) (a : Affinity) (node : IsNode b.layout a) (f : ℕ → Option P) (exact : HasExactly kind b.layout a f)
      (w : View P (Entry P C R)) (begun : IsBegun v (number a) f w)
      (same : (k : ℕ) → 0 < k → k < length v.tree → Covers v.tree (number a) k → f k ≡ after v.tree (listed v.first) v.seen k) where
    abbrev l : Lent P
    l = record { affinity = a; parcels = f }

    abbrev pub begun_books : Books P C R
    begun_books = record b { lent = set b.lent i (Some l) }

    -- nothing that is lent excludes it
    pub begun-free : IsTaken b a → ⊥
    begun-free taken =
        let back = h.backed taken.0 taken.1 taken.2 in
        begun.6 (
          number taken.1.affinity,
          back.granted.0,
          back.granted.1,
          subst (λ (t : List ℕ). Excludes t (number a) (number taken.1.affinity)) (sym h.seat.0)
              (excludes-number b.layout lawful a taken.1.affinity node back.node taken.3),
        )

    pub begun-low : stamps b < worn
    begun-low =
        let low = begun.7.1.0 in let count = begun.7.1.1 h.only in let n = count.1 in
        let s : stamps b ≡ length v.seen = ap (λ (es : List (Entry P C R)). length es) h.entries in omega arith

    apart-new : (j : ℕ) (m : Lent P) → HasLent b j m → excludes b.layout a m.affinity ≡ false
    apart-new j m at = not-true (excludes b.layout a m.affinity) (λ e. begun-free (j, m, at, e))

    uncovered : (j : ℕ) (m : Lent P) → HasLent b j m → (k : ℕ) → Covers ps (number a) k → Covers ps (number m.affinity) k → ⊥
    uncovered j m at k c d =
        false-true (excludes b.layout a m.affinity) (apart-new j m at)
        (number-excludes b.layout lawful a m.affinity node (h.backed j m at).node (cover-excludes ps is-tree (number a) (number m.affinity) k c d))

    room : i < length b.lent
    room = at-length b.lent i None idle

    not-idle : (j : ℕ) (m : Lent P) → HasLent b j m → j ≢ i
    not-idle j m at e = none-some m (some-same None (Some m) (sym idle ∙ subst (λ (x : ℕ). get_elem? b.lent x ≡ some (Some m)) e at))

    pub begun-same : IsSame b begun_books
    begun-same k = covers-or-not ps (number a) k
        (λ c.
        let slot = number-place b.layout a node in
        let pos : 0 < k = ⊎_elim (λ (e : number a ≡ k). subst (λ (n : ℕ). 0 < n) e slot.0)
        (λ u. let s = above-smaller ps is-tree (number a) k u in (let p : 0 < k = omega arith in p)) c in
        let lt : k < length ps = covers-below ps (number a) k pos slot.1 c in
        overlaid-here b.layout (set b.lent i (Some l)) i l (settled b) k (set_here b.lent i (Some l) room) c
        (λ j m there ne d. ⊎_elim
        (λ (t : (j ≡ i) × (Some l ≡ Some m)). ne t.0)
        (λ (t : (j ≢ i) × (get_elem? b.lent j ≡ some (Some m))). uncovered j m t.1 k c d)
        (at_set b.lent i j (Some l) (Some m) there))
        ∙ same k pos (subst (λ (t : List ℕ). k < length t) (sym h.seat.0) lt) (subst (λ (t : List ℕ). Covers t (number a) k) (sym h.seat.0) c)
        ∙ sym (the-settled k)
        ∙ sym (overlaid-free b.layout b.lent (settled b) k (λ j m at d. uncovered j m at k c d)))
        (λ out. overlaid-set b.layout b.lent i (Some l) None (settled b) k idle (λ m e d. none-some m e)
        (λ m e d. out (subst (λ (x : Lent P). Covers ps (number x.affinity) k) (sym (inner-same l m e)) d)))

    abbrev u : View P (Entry P C R)
    u = record v { looked = 0; held = set v.held (number a) (Some begun.0); gone = begun.1; reads = begun.2 ++ v.reads }

    still-has : (n : ℕ) (g : List (Option P)) → Has v n g → Has u n g
    still-has n g has =
        let ne : n ≢ number a = λ e. none-some g (some-same None (Some g) (sym begun.5 ∙ subst (λ (x : ℕ). get_elem? v.held x ≡ some (Some g)) e has)) in
        set_else v.held (number a) n (Some begun.0) ne ∙ has

    begun-backed : (j : ℕ) (m : Lent P) → HasLent begun_books j m → IsBacked kind b.layout u m
    begun-backed j m there = ⊎_elim
        (λ (t : (j ≡ i) × (Some l ≡ Some m)). subst (λ (x : Lent P). IsBacked kind b.layout u x) (inner-same l m t.1) (record {
          node = node;
          exact = exact;
          granted = (
            begun.0,
            set_here v.held (number a) (Some begun.0) (at-length v.held (number a) None begun.5),
            λ k pos lt c. begun.4 k pos lt c
                ∙ same k pos lt c,
          );
        }))
        (λ (t : (j ≢ i) × (get_elem? b.lent j ≡ some (Some m))). let back = h.backed j m t.1 in record {
          node = back.node;
          exact = back.exact;
          granted = (back.granted.0, still-has (number m.affinity) back.granted.0 back.granted.1, back.granted.2);
        })
        (at_set b.lent i j (Some l) (Some m) there)

    begun-all : (n : ℕ) (g : List (Option P)) → Has u n g → (j : ℕ) × (m : Lent P) × HasLent begun_books j m × (number m.affinity ≡ n)
    begun-all n g has = ⊎_elim
        (λ (t : (n ≡ number a) × (Some begun.0 ≡ Some g)). (i, l, set_here b.lent i (Some l) room, sym t.0))
        (λ (t : (n ≢ number a) × (get_elem? v.held n ≡ some (Some g))).
        let old = h.all n g t.1 in
        (old.0, old.1, set_else b.lent i old.0 (Some l) (not-idle old.0 old.1 old.2) ∙ old.2, old.3))
        (at_set v.held (number a) n (Some begun.0) (Some g) has)

    begun-apart : (j k : ℕ) (x y : Lent P) → HasLent begun_books j x → HasLent begun_books k y → j ≢ k → excludes b.layout x.affinity y.affinity ≡ false
    begun-apart j k x y at there ne = ⊎_elim
        (λ (s : (j ≡ i) × (Some l ≡ Some x)). ⊎_elim
        (λ (t : (k ≡ i) × (Some l ≡ Some y)). absurd (ne (s.0 ∙ sym t.0)))
        (λ (t : (k ≢ i) × (get_elem? b.lent k ≡ some (Some y))). subst (λ (z : Lent P). excludes b.layout z.affinity y.affinity ≡ false) (inner-same l x s.1)
        (apart-new k y t.1))
        (at_set b.lent i k (Some l) (Some y) there))
        (λ (s : (j ≢ i) × (get_elem? b.lent j ≡ some (Some x))). ⊎_elim
        (λ (t : (k ≡ i) × (Some l ≡ Some y)). excludes-turned b.layout x.affinity y.affinity
        ∙ subst (λ (z : Lent P). excludes b.layout z.affinity x.affinity ≡ false) (inner-same l y t.1) (apart-new j x s.1))
        (λ (t : (k ≢ i) × (get_elem? b.lent k ≡ some (Some y))). h.apart j k x y s.1 t.1 ne)
        (at_set b.lent i k (Some l) (Some y) there))
        (at_set b.lent i j (Some l) (Some x) at)

    pub begun-book : IsBook kind begun_books w
    begun-book = subst (λ (x : View P (Entry P C R)). IsBook kind begun_books x) (sym begun.3) (record {
      seat = h.seat;
      only = h.only;
      first = h.first;
      entries = h.entries;
      own = h.own;
      backed = begun-backed;
      all = begun-all;
      apart = begun-apart;
    })

  -- a call that is refused: something that is lent excludes it
  pub refused-taken : (a : Affinity) → IsNode b.layout a → IsExcluded v (number a) → IsTaken b a
  refused-taken a node e =
      let old = h.all e.0 e.1 e.2 in (
        old.0,
        old.1,
        old.2,
        number-excludes b.layout lawful a old.1.affinity node (h.backed old.0 old.1 old.2).node
            (subst (λ (x : List ℕ × ℕ). Excludes x.0 (number a) x.1) (λ k. (h.seat.0 k, sym old.3 k)) e.3),
      )

  -- ---- a call ends: what it was lent is home again, and the finished calls left it as it is

  module _ (i : ℕ) (l : Lent P) (lent : HasLent b i l) (c : Books P C R) (w : View P (Entry P C R))
      (layout : c.layout ≡ b.layout) (idle : c.lent ≡ set b.lent i None) (tree : w.tree ≡ v.tree) (first : w.first ≡ v.first) (first_same : c.first ≡ b.first)
      (parts : w.parts ≡ v.parts)
      (held : w.held ≡ set v.held (number l.affinity) None) (entries : c.entries ≡ w.seen) (own : entries_of w ≡ w.seen)
      (there : (k : ℕ) → Covers ps (number l.affinity) k → after ps b.first c.entries k ≡ l.parcels k)
      (others : (k : ℕ) → (Covers ps (number l.affinity) k → ⊥) → after ps b.first c.entries k ≡ settled b k) where
    settled-new : (k : ℕ) → settled c k ≡ after ps b.first c.entries k
    settled-new k = ap (λ (x : Layout × (ℕ → Option P)). after (parents x.0) x.1 c.entries k) (λ j. (layout j, first_same j))

    now-new : (k : ℕ) → now c k ≡ overlaid b.layout (set b.lent i None) (settled c) k
    now-new k = ap (λ (x : Layout × List (Option (Lent P))). overlaid x.0 x.1 (settled c) k) (λ j. (layout j, idle j))

    left : (j : ℕ) (m : Lent P) → get_elem? (set b.lent i None) j ≡ some (Some m) → (j ≢ i) × HasLent b j m
    left j m at = ⊎_elim
        (λ (t : (j ≡ i) × (None ≡ Some m)). absurd (none-some m t.1))
        (λ (t : (j ≢ i) × (get_elem? b.lent j ≡ some (Some m))). t)
        (at_set b.lent i j None (Some m) at)

    ended-same : IsSame b c
    ended-same k = covers-or-not ps (number l.affinity) k
        (λ d. now-new k
        ∙ overlaid-free b.layout (set b.lent i None) (settled c) k (λ j m at e. let t = left j m at in covered-once i j l m lent t.1 t.0 k d e)
        ∙ settled-new k ∙ there k d ∙ sym (lent-now i l lent k d))
        (λ out. now-new k
        ∙ overlaid-set b.layout b.lent i None (Some l) (settled c) k lent
        (λ m e d. out (subst (λ (x : Lent P). Covers ps (number x.affinity) k) (sym (inner-same l m e)) d)) (λ m e d. none-some m e)
        ∙ overlaid-below b.layout b.lent (settled c) (settled b) k (settled-new k ∙ others k out))

    other-number : (j : ℕ) (m : Lent P) → HasLent b j m → j ≢ i → number m.affinity ≢ number l.affinity
    other-number j m at ne e = let slot = number-place b.layout m.affinity (h.backed j m at).node in
        covered-once i j l m lent at ne (number m.affinity) (inl (sym e)) (inl refl)

    ended-backed : (j : ℕ) (m : Lent P) → HasLent c j m → IsBacked kind b.layout w m
    ended-backed j m at =
        let t = left j m (subst (λ (ls : List (Option (Lent P))). get_elem? ls j ≡ some (Some m)) idle at) in
        let back = h.backed j m t.1 in record {
          node = back.node;
          exact = back.exact;
          granted = (
            back.granted.0,
            ap (λ (hs : List (Option (List (Option P)))). get_elem? hs (number m.affinity)) held
                ∙ set_else v.held (number l.affinity) (number m.affinity) None (other-number j m t.1 t.0) ∙ back.granted.1,
            λ k pos lt d.
                let lt' : k < length v.tree = subst (λ (x : List ℕ). k < length x) tree lt in
                let d' : Covers v.tree (number m.affinity) k = subst (λ (x : List ℕ). Covers x (number m.affinity) k) tree d in
                let cover : Covers ps (number m.affinity) k = subst (λ (x : List ℕ). Covers x (number m.affinity) k) h.seat.0 d' in
                back.granted.2 k pos lt' d'
                ∙ sym (the-settled k)
                ∙ sym (others k (λ e. covered-once i j l m lent t.1 t.0 k e cover))
                ∙ ap (λ (x : List ℕ × (ℕ → Option P) × List (Entry P C R)). after x.0 x.1 x.2 k)
                (λ n. ((sym h.seat.0 ∙ sym tree) n, (h.first ∙ ap (λ (xs : List (Option P)). listed xs) (sym first)) n, entries n)),
          );
        }

    ended-all : (n : ℕ) (g : List (Option P)) → Has w n g → (j : ℕ) × (m : Lent P) × HasLent c j m × (number m.affinity ≡ n)
    ended-all n g has = ⊎_elim
        (λ (t : (n ≡ number l.affinity) × (None ≡ Some g)). absurd (none-some g t.1))
        (λ (t : (n ≢ number l.affinity) × (get_elem? v.held n ≡ some (Some g))).
        let old = h.all n g t.1 in
        let ne : old.0 ≢ i = λ e. t.0 (sym old.3 ∙ ap (λ (x : Lent P). number x.affinity)
        (one-lent i old.1 l (subst (λ (j : ℕ). get_elem? b.lent j ≡ some (Some old.1)) e old.2) lent)) in
        (old.0, old.1, ap (λ (ls : List (Option (Lent P))). get_elem? ls old.0) idle ∙ set_else b.lent i old.0 None ne ∙ old.2, old.3))
        (at_set v.held (number l.affinity) n None (Some g) (ap (λ (hs : List (Option (List (Option P)))). get_elem? hs n) (sym held) ∙ has))

    ended-book : IsBook kind c w
    ended-book = record {
      seat = subst (λ (y : Layout). IsSeatOf kind y w) (sym layout) (
        tree ∙ h.seat.0,
        λ node parcel m at. h.seat.1 node parcel m
            (ap (λ (xs : List (Option P)). slice_index_or xs (number_of b.layout node) None) (sym first) ∙ at),
      );
      only = parts ∙ h.only;
      first = first_same ∙ h.first ∙ ap (λ (xs : List (Option P)). listed xs) (sym first);
      entries = entries;
      own = own;
      backed = λ j m at. subst (λ (y : Layout). IsBacked kind y w m) (sym layout) (ended-backed j m at);
      all = λ n g has. let t = ended-all n g has in (t.0, t.1, t.2, ap (λ (y : Layout). number_of y t.1.affinity) layout ∙ t.3);
      apart = λ j k x y at there ne.
          let s = left j x (subst (λ (ls : List (Option (Lent P))). get_elem? ls j ≡ some (Some x)) idle at) in
          let t = left k y (subst (λ (ls : List (Option (Lent P))). get_elem? ls k ≡ some (Some y)) idle there) in
          ap (λ (z : Layout). excludes z x.affinity y.affinity) layout ∙ h.apart j k x y s.1 t.1 ne;
    }

  -- the grant is given back as it was
  module _ (i : ℕ) (l : Lent P) (lent : HasLent b i l) (w : View P (Entry P C R)) (ended : IsEnded v (number l.affinity) w) (unchanged : IsUnchanged b l) where
    abbrev pub back_books : Books P C R
    back_books = record b { lent = set b.lent i None }

    back-there : (k : ℕ) → Covers ps (number l.affinity) k → settled b k ≡ l.parcels k
    back-there k d = let p = positive l i lent k d in sym (unchanged k p.0 p.1 d)

    pub back-same : IsSame b back_books
    back-same = ended-same i l lent back_books w refl refl (ap (λ (x : View P (Entry P C R)). x.tree) ended.2)
        (ap (λ (x : View P (Entry P C R)). x.first) ended.2) refl (ap (λ (x : View P (Entry P C R)). x.parts) ended.2)
        (ap (λ (x : View P (Entry P C R)). x.held) ended.2) (h.entries ∙ ap (λ (x : View P (Entry P C R)). x.seen) (sym ended.2))
        (ap (λ (x : View P (Entry P C R)). entries_of x) ended.2 ∙ h.own ∙ ap (λ (x : View P (Entry P C R)). x.seen) (sym ended.2))
        back-there (λ k out. refl)

    pub back-book : IsBook kind back_books w
    back-book = ended-book i l lent back_books w refl refl (ap (λ (x : View P (Entry P C R)). x.tree) ended.2)
        (ap (λ (x : View P (Entry P C R)). x.first) ended.2) refl (ap (λ (x : View P (Entry P C R)). x.parts) ended.2)
        (ap (λ (x : View P (Entry P C R)). x.held) ended.2) (h.entries ∙ ap (λ (x : View P (Entry P C R)). x.seen) (sym ended.2))
        (ap (λ (x : View P (Entry P C R)). entries_of x) ended.2 ∙ h.own ∙ ap (λ (x : View P (Entry P C R)). x.seen) (sym ended.2))
        back-there (λ k out. refl)

  -- the call takes effect
  module _ {B : Type 0} (m : Behaviour P C R B) (i : ℕ) (l : Lent P) (lent : HasLent b i l) (call : C) (reply : R) (w : View P (Entry P C R))
      (finished : IsFinished m v (number l.affinity) (entry_of b.layout l.affinity l.parcels call reply) w) where
    abbrev pub e : Entry P C R
    e = entry_of b.layout l.affinity l.parcels call reply

    abbrev pub finished_books : Books P C R
    finished_books = record b { entries = b.entries ++ e ∷ []; lent = set b.lent i None }

    abbrev at_end : List (Entry P C R) → View P (Entry P C R)
    at_end seen = record v {
      stamped = 0;
      held = set v.held (number l.affinity) None;
      gone = finished.0;
      reads = finished.1 ++ v.reads;
      seen = seen ++ e ∷ [];
      mine = v.mine ++ length seen ∷ [];
    }

    between-none : v.seen ++ finished.2 ≡ v.seen
    between-none = ap (λ (es : List (Entry P C R)). v.seen ++ es) (finished.4.3 h.only) ∙ append-nil v.seen

    w-is : w ≡ at_end v.seen
    w-is = finished.3 ∙ ap at_end between-none

    seen-is : w.seen ≡ v.seen ++ e ∷ []
    seen-is = ap (λ (x : View P (Entry P C R)). x.seen) w-is

    own-is : entries_of w ≡ w.seen
    own-is = ap (λ (x : View P (Entry P C R)). entries_of x) finished.3 ∙ finished.4.2 ∙ ap (λ (es : List (Entry P C R)). es ++ e ∷ []) h.own ∙ sym seen-is

    put : (k : ℕ) → after ps b.first (b.entries ++ e ∷ []) k ≡ patched ps (number l.affinity) (listed e.left) (settled b) k
    put k = ap (λ (g : ℕ → Option P). g k) (after-snoc ps b.first b.entries e)

    put-there : (k : ℕ) → Covers ps (number l.affinity) k → after ps b.first (b.entries ++ e ∷ []) k ≡ l.parcels k
    put-there k d =
        let p = positive l i lent k d in let size = length-parents b.layout in
        put k ∙ patched-in ps (number l.affinity) (listed e.left) (settled b) k d ∙ by-number-at l.parcels (1 + node_count b.layout) k (omega arith)

    put-others : (k : ℕ) → (Covers ps (number l.affinity) k → ⊥) → after ps b.first (b.entries ++ e ∷ []) k ≡ settled b k
    put-others k out = put k ∙ patched-out ps (number l.affinity) (listed e.left) (settled b) k out

    entries-is : b.entries ++ e ∷ [] ≡ w.seen
    entries-is = ap (λ (es : List (Entry P C R)). es ++ e ∷ []) h.entries ∙ sym seen-is

    pub finished-same : IsSame b finished_books
    finished-same = ended-same i l lent finished_books w refl refl (ap (λ (x : View P (Entry P C R)). x.tree) w-is)
        (ap (λ (x : View P (Entry P C R)). x.first) w-is) refl (ap (λ (x : View P (Entry P C R)). x.parts) w-is)
        (ap (λ (x : View P (Entry P C R)). x.held) w-is) entries-is own-is put-there put-others

    pub finished-book : IsBook kind finished_books w
    finished-book = ended-book i l lent finished_books w refl refl (ap (λ (x : View P (Entry P C R)). x.tree) w-is)
        (ap (λ (x : View P (Entry P C R)). x.first) w-is) refl (ap (λ (x : View P (Entry P C R)). x.parts) w-is)
        (ap (λ (x : View P (Entry P C R)). x.held) w-is) entries-is own-is put-there put-others

    -- under what other workers have, all is as it was
    pub finished-others : (j : ℕ) (x : Lent P) → HasLent b j x → j ≢ i → UnderLent b x (λ k. settled finished_books k ≡ settled b k)
    finished-others j x at ne k pos lt d = put-others k (λ c. covered-once i j l x lent at ne k c d)

    -- the machine's invariant holds of what the call left
    pub finished-settled : IsSettled m finished_books
    finished-settled =
        let t = finished.4.1 (with_entry v finished.2 e).seen [] (append-nil (with_entry v finished.2 e).seen) in
        let is : (with_entry v finished.2 e).seen ≡ b.entries ++ e ∷ [] = ap (λ (es : List (Entry P C R)). es ++ e ∷ []) between-none
        ∙ ap (λ (es : List (Entry P C R)). es ++ e ∷ []) (sym h.entries) in
        subst (λ (x : List ℕ × (ℕ → Option P) × List (Entry P C R)). (hands : List B) × AreHands m.takes m.gives x.2 hands
        × m.invariant x.0 (after x.0 x.1 x.2) hands (length x.2))
        (λ j. (h.seat.0 j, sym h.first j, is j)) t
