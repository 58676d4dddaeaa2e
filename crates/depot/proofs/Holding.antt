-- What a grant's shelf has, as its parcels are taken and given.
use Rattle.std.proofs.Common.{◌≡◌, ◌≢◌, ℕ, zero, suc, ◌<◌, eqb, Bool, true, false, ◌&&◌, List, [], ◌∷◌, ◌++◌, length, slice_index_or, sym}
use Rattle.std.proofs.Common.{refl, ap, ◌∙◌, subst, arith, Option, Some, None}
use Rattle.std.specs.Prelude.{if◌then◌else◌, nat_lt}
use Rattle.std.proofs.lemmas.Bool.{and_parts, and_from, eqb-true, eq-eqb, ltb-true, lt-ltb}
use mathlib.Core.Option.{some, some-injective, some-ne-none}
use mathlib.Core.Logic.{dite}
use native.Mathlib.Decide.{ℕ_discrete}
use lib.ListN.{get_elem?}
use Rattle.depot_rule.specs.declared.view.View.{View}
use Rattle.depot_rule.specs.declared.view.Read.{Read}
use Rattle.affinity.specs.Ancestors.{tally, Covers}
use Rattle.depot_rule.specs.Sums.{without}
use Rattle.depot_rule.specs.Shares.{Has}
use Rattle.depot_rule.specs.History.{covers}
use Rattle.depot_rule.specs.Seats.{view_of}
use Rattle.depot_rule.specs.lemmas.Covering.{covers-true, true-covers}
use Rattle.depot_rule.specs.lemmas.Sums.{one-same, one-other, tally-without}
use Rattle.depot.specs.Holds.{listed_by, is_untaken, untaken, Lists}

-- ---- small cases

pub nothing : {A : Type 0} (xs : List A) → length xs ≡ 0 → xs ≡ []
nothing [] e = refl
nothing (x ∷ xs) e = absurd (omega arith)

if-is : {A : Type 0} (t : Bool) (x y : A) → t ≡ true → (if t then x else y) ≡ x
if-is true x y e = refl
if-is false x y e = cc

if-some : {A : Type 0} (t : Bool) (y : Option A) (x : A) → (if t then y else None) ≡ Some x → (t ≡ true) × (y ≡ Some x)
if-some true y x e = (refl, e)
if-some false y x e = cc

none-if : {A : Type 0} (y : Option A) → ((x : A) → y ≡ Some x → ⊥) → y ≡ None
none-if None h = refl
none-if (Some x) h = absurd (h x refl)

in-place : {A : Type 0} (xs : List (Option A)) (b : ℕ) (x : A) → slice_index_or xs b None ≡ Some x → get_elem? xs b ≡ some (Some x)
in-place [] b x e = cc
in-place (y ∷ ys) zero x e = ap some e
in-place (y ∷ ys) (suc b) x e = in-place ys b x e

of-place : {A : Type 0} (xs : List (Option A)) (b : ℕ) (x : A) → get_elem? xs b ≡ some (Some x) → slice_index_or xs b None ≡ Some x
of-place [] b x e = absurd (some-ne-none (Some x) (sym e))
of-place (y ∷ ys) zero x e = some-injective y (Some x) e
of-place (y ∷ ys) (suc b) x e = of-place ys b x e

listed-some : {P : Type 0} (o : Option (List (Option P))) (k : ℕ) (p : P) → listed_by o k ≡ Some p → (g : List (Option P)) × (o ≡ Some g)
    × (slice_index_or g k None ≡ Some p)
listed-some None k p e = cc
listed-some (Some g) k p e = (g, refl, e)

module _ {P E : Type 0} where
  -- ---- what is untaken

  pub record IsUntaken (v : View P E) (b k : ℕ) (p : P) : Type 0 where
    pub pos : 0 < k
    pub place : k < length v.tree
    pub cover : Covers v.tree b k
    pub home : tally k v.gone ≡ 0
    pub grant : List (Option P)
    pub has : Has v b grant
    pub lists : slice_index_or grant k None ≡ Some p

  pub untaken-is : (v : View P E) (b k : ℕ) (p : P) → untaken v b k ≡ Some p → IsUntaken v b k p
  untaken-is v b k p e =
      let i = if-some (is_untaken v b k) (listed_by (slice_index_or v.held b None) k) p e in
      let l = listed-some (slice_index_or v.held b None) k p i.1 in
      let a = and_parts (nat_lt 0 k && nat_lt k (length v.tree)) (covers v.tree b k && eqb (tally k v.gone) 0) i.0 in
      let n = and_parts (nat_lt 0 k) (nat_lt k (length v.tree)) a.0 in
      let m = and_parts (covers v.tree b k) (eqb (tally k v.gone) 0) a.1 in
      record {
        pos = ltb-true 0 k n.0;
        place = ltb-true k (length v.tree) n.1;
        cover = covers-true v.tree b k m.0;
        home = eqb-true (tally k v.gone) 0 m.1;
        grant = l.0;
        has = in-place v.held b l.0 l.1;
        lists = l.2;
      }

  pub is-untaken : (v : View P E) (b k : ℕ) (g : List (Option P)) (p : P) → 0 < k → k < length v.tree → Covers v.tree b k → tally k v.gone ≡ 0
      → Has v b g → slice_index_or g k None ≡ Some p → untaken v b k ≡ Some p
  is-untaken v b k g p pos lt cover home has lists =
      let low = and_from (nat_lt 0 k) (nat_lt k (length v.tree)) (lt-ltb 0 k pos) (lt-ltb k (length v.tree) lt) in
      let high = and_from (covers v.tree b k) (eqb (tally k v.gone) 0) (true-covers v.tree b k cover) (eq-eqb (tally k v.gone) 0 home) in
      let all = and_from (nat_lt 0 k && nat_lt k (length v.tree)) (covers v.tree b k && eqb (tally k v.gone) 0) low high in
      if-is (is_untaken v b k) (listed_by (slice_index_or v.held b None) k) None all ∙ (ap (λ o. listed_by o k) (of-place v.held b g has) ∙ lists)

  none-untaken : (v : View P E) (b k : ℕ) → 0 < tally k v.gone → untaken v b k ≡ None
  none-untaken v b k away = none-if (untaken v b k) (λ p e. let u = untaken-is v b k p e in let h = u.home in absurd (omega arith))

  same-untaken : (v : View P E) (b k : ℕ) (gone : List ℕ) (rs : List Read) → tally k gone ≡ tally k v.gone
      → untaken (record v { gone = gone; reads = rs }) b k ≡ untaken v b k
  same-untaken v b k gone rs e = ap (λ (t : ℕ). if (nat_lt 0 k && nat_lt k (length v.tree)) && (covers v.tree b k && eqb t 0) then listed_by
      (slice_index_or v.held b None) k else None) e

  -- ---- one parcel is taken

  module _ (v : View P E) (b node : ℕ) (more : List Read) (ws : List (View P E))
      (is : ws ≡ record v { gone = node ∷ v.gone; reads = more ++ v.reads } ∷ []) where
    pub taken-gone : untaken (view_of ws) b node ≡ None
    taken-gone = let o = one-same node node refl in ap (λ xs. untaken (view_of xs) b node) is
        ∙ none-untaken (record v { gone = node ∷ v.gone; reads = more ++ v.reads }) b node (omega arith)

    pub taken-others : (k : ℕ) → k ≢ node → untaken (view_of ws) b k ≡ untaken v b k
    taken-others k ne = let o = one-other node k (λ e. ne (sym e)) in ap (λ xs. untaken (view_of xs) b k) is ∙ same-untaken v b k (node ∷ v.gone)
        (more ++ v.reads) (omega arith)

    pub taken-else : Covers v.tree b node → (k : ℕ) → (Covers v.tree b k → ⊥) → tally k (node ∷ v.gone) ≡ tally k v.gone
    taken-else cover k out = let o = one-other node k (λ e. out (subst (Covers v.tree b) e cover)) in omega arith

  pub taken-there : (v : View P E) (b node : ℕ) (p q : P) (e : untaken v b node ≡ Some p) → ((b : ℕ) (g : List (Option P)) → Has v b g
      → Covers v.tree b node → slice_index_or g node None ≡ Some q) → untaken v b node ≡ Some q
  taken-there v b node p q e found = let u = untaken-is v b node p e in is-untaken v b node u.grant q u.pos u.place u.cover u.home u.has
      (found b u.grant u.has u.cover)

  -- ---- one parcel is given

  pub given-away : (v : View P E) (b node : ℕ) (p : P) → Lists v b node p → untaken v b node ≡ None → 0 < tally node v.gone
  given-away v b node p l none = dite (ℕ_discrete (tally node v.gone) 0)
      (λ z. let some_there = is-untaken v b node l.3.0 p l.0 l.1 l.2 z l.3.1 l.3.2 in absurd (let bad : None ≡ Some p = sym none ∙ some_there in cc))
      (λ nz. omega arith)

  module _ (v : View P E) (b node : ℕ) (more : List Read) (ws : List (View P E))
      (is : ws ≡ record v { gone = without node v.gone; reads = more ++ v.reads } ∷ []) (once : tally node v.gone ≡ 1) where
    pub given-there : (p : P) → Lists v b node p → untaken (view_of ws) b node ≡ Some p
    given-there p l =
        let o = one-same node node refl in let t = tally-without node node v.gone (omega arith) in
        ap (λ xs. untaken (view_of xs) b node) is ∙ is-untaken (record v { gone = without node v.gone; reads = more ++ v.reads }) b node l.3.0 p l.0
        l.1 l.2 (omega arith) l.3.1 l.3.2

    pub given-others : (k : ℕ) → k ≢ node → untaken (view_of ws) b k ≡ untaken v b k
    given-others k ne =
        let o = one-other node k (λ e. ne (sym e)) in let t = tally-without node k v.gone (omega arith) in
        ap (λ xs. untaken (view_of xs) b k) is ∙ same-untaken v b k (without node v.gone) (more ++ v.reads) (omega arith)

    pub given-else : Covers v.tree b node → (k : ℕ) → (Covers v.tree b k → ⊥) → tally k (without node v.gone) ≡ tally k v.gone
    given-else cover k out = let o = one-other node k (λ e. out (subst (Covers v.tree b) e cover)) in let t = tally-without node k v.gone
        (omega arith) in omega arith
