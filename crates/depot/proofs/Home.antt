-- A grant's parcels are given home.
use Rattle.std.proofs.Common.{◌≡◌, ℕ, ◌<◌, List, [], ◌∷◌, ◌++◌, length, set, slice_index_or, refl, sym, ap, ◌∙◌, subst, arith, append_assoc, Option, Some, None}
use mathlib.Core.Option.{some, some-injective}
use lib.ListN.{get_elem?}
use Rattle.parcels.specs.Moved.{Moved}
use Rattle.depot_rule.specs.declared.view.View.{View}
use Rattle.depot_rule.specs.declared.view.Read.{Read}
use Rattle.affinity.specs.Ancestors.{tally, Covers, Excludes}
use Rattle.depot_rule.specs.Shares.{Has}
use Rattle.depot_rule.specs.Parcels.{has_out}
use Rattle.depot_rule.specs.Seats.{view_of}
use Rattle.depot_rule.specs.lemmas.Sums.{one-other}
use Rattle.depot.specs.Holds.{untaken, Handled}
use Rattle.depot.specs.Grants.{HasWith, IsEnded}
use Rattle.depot.proofs.Holding.{untaken-is}

-- a list of no length
pub none-left : {A : Type 0} (xs : List A) → length xs ≡ 0 → xs ≡ []
none-left [] e = refl
none-left (x ∷ xs) e = absurd (omega arith)

module _ {P E : Type 0} where
  -- once they are given, none of them is with the seat
  pub set-home : (f : ℕ → Option P) (b n : ℕ) (vs ws : List (View P E)) → n ≡ b → HasWith (view_of vs) b f → (view_of vs).out ≡ 0 → Handled n vs ws
      → ((k : ℕ) → Moved (untaken (view_of ws) n k) (f k) (untaken (view_of vs) n k))
      → (k : ℕ) (g : List (Option P)) (p : P) → Has (view_of ws) n g → 0 < k → k < length (view_of vs).tree → Covers (view_of vs).tree n k
      → slice_index_or g k None ≡ Some p → has_out k (view_of ws) ≡ 0
  set-home f b n vs ws is with free handled moved k g p has pos lt cover lists =
      let v : View P E = view_of vs in
      let w : View P E = record v { gone = handled.0; reads = handled.1 ++ v.reads } in
      let now : view_of ws ≡ w = ap view_of handled.2 in
      let here : get_elem? v.held n ≡ some (Some g) = sym (ap (λ (u : View P E). get_elem? u.held n) now) ∙ has in
      let there : get_elem? v.held n ≡ some (Some with.0) = ap (get_elem? v.held) is ∙ with.1 in
      let same : with.0 ≡ g = (let e : Some with.0 ≡ Some g = some-injective (Some with.0) (Some g) (sym there ∙ here) in cc) in
      let inside : Covers v.tree b k = subst (λ (j : ℕ). Covers v.tree j k) is cover in
      let has_it : f k ≡ Some p = sym (with.2 k pos lt inside) ∙ (ap (λ xs. slice_index_or xs k None) same ∙ lists) in
      let u = untaken-is (view_of ws) n k p (subst (λ (o : Option P). Moved (untaken (view_of ws) n k) o (untaken v n k)) has_it (moved k)).0 in
      let home = u.home in
      let out : (view_of ws).out ≡ 0 = ap (λ (x : View P E). x.out) now ∙ free in
      let out = one-other (view_of ws).out k (λ e. omega (arith, e, out, pos)) in
      omega arith

  -- and the grant is ended
  pub home-ended : (b n : ℕ) (vs ws us : List (View P E)) → n ≡ b → Handled n vs ws → (more : List Read)
      × (us ≡ record (view_of ws) { stamped = 0; held = set (view_of ws).held n None; reads = more ++ (view_of ws).reads } ∷ [])
      → (length us ≡ 1) × IsEnded (view_of vs) b (view_of us)
  home-ended b n vs ws us is handled ended =
      let v : View P E = view_of vs in
      let w : View P E = record v { gone = handled.0; reads = handled.1 ++ v.reads } in
      let now : view_of ws ≡ w = ap view_of handled.2 in (
        ap length ended.1,
        (
          handled.0,
          ended.0 ++ handled.1,
          ap view_of ended.1
              ∙ (ap (λ (x : View P E). let z : View P E = record x { stamped = 0; held = set x.held n None; reads = ended.0 ++ x.reads } in z) now
              ∙ ap (λ (x : ℕ × List Read). let z : View P E = record v { stamped = 0; held = set v.held x.0 None; gone = handled.0; reads = x.1 }
              in z) (λ i. (is i, sym (append_assoc ended.0 handled.1 v.reads) i))),
        ),
      )

  -- what other grants have taken is still with the seat
  pub home-else : (n : ℕ) (vs ws us : List (View P E)) → Handled n vs ws → (more : List Read)
      × (us ≡ record (view_of ws) { stamped = 0; held = set (view_of ws).held n None; reads = more ++ (view_of ws).reads } ∷ [])
      → (k : ℕ) → (Covers (view_of vs).tree n k → ⊥) → tally k (view_of us).gone ≡ tally k (view_of vs).gone
  home-else n vs ws us handled ended k out = ap (λ xs. tally k (view_of xs).gone) ended.1 ∙ (ap (λ xs. tally k (view_of xs).gone) handled.2 ∙ handled.3 k out)

  pub home-apart : (b n : ℕ) (vs ws : List (View P E)) → n ≡ b → Handled n vs ws → ((c : ℕ) (h : List (Option P)) → Has (view_of ws) c h
      → Excludes (view_of ws).tree n c → c ≡ n)
      → (c : ℕ) (h : List (Option P)) → Has (view_of vs) c h → Excludes (view_of vs).tree b c → c ≡ b
  home-apart b n vs ws is handled apart c h has ex =
      let v : View P E = view_of vs in
      let w : View P E = record v { gone = handled.0; reads = handled.1 ++ v.reads } in
      let now : w ≡ view_of ws = sym (ap view_of handled.2) in
      apart c h (subst (λ (x : View P E). Has x c h) now has) (subst (λ (x : View P E). Excludes x.tree n c) now
      (subst (λ (j : ℕ). Excludes v.tree j c) (sym is) ex)) ∙ is

  -- what was taken is not untaken
  pub gone-untaken : (v : View P E) (b k : ℕ) → (0 < k → k < length v.tree → Covers v.tree b k → 0 < tally k v.gone) → (o : Option P) → untaken v b k ≡ o
      → o ≡ None
  gone-untaken v b k taken None e = refl
  gone-untaken v b k taken (Some p) e =
      let u = untaken-is v b k p e in
      let some : 0 < tally k v.gone = taken u.pos u.place u.cover in
      let none : tally k v.gone ≡ 0 = u.home in
      absurd (omega arith)
