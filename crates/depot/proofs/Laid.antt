-- The parcels of a new depot, laid out by the numbers of their nodes.
use Rattle.std.proofs.Common.{◌≡◌, ℕ, zero, suc, ◌<◌, ◌≤◌, List, [], ◌∷◌, length, replicate, get_or, sym, refl, ap, ◌∙◌, arith, Option}
use Rattle.std.proofs.Common.{Some, None, IfSome, ⊎_elim}
use Rattle.std.proofs.lemmas.List.{ext_get_or, length-replicate}
use Rattle.std.proofs.lemmas.Bool.{cases_lt}
use Rattle.nfs_model.specs.Tree.{Layout, Serial}
use Rattle.affinity.specs.declared.affinity.Kind.{Kind}
use Rattle.affinity.specs.Numbers.{number_of, parents}
use Rattle.parcels.specs.Exact.{Under, HasExactly, IsPlaced}
use Rattle.parcels.specs.Moved.{Moved}
use Rattle.depot_rule.specs.declared.view.View.{View}
use Rattle.depot_rule.specs.Shares.{opening_view}
use Rattle.depot_rule.specs.History.{by_number}
use Rattle.depot_rule.specs.lemmas.Listed.{by-number-length, by-number-at}
use Rattle.depot.specs.Kinds.{AreOfKind}
use Rattle.affinity.specs.lemmas.Standing.{place-node, under-place}
use Rattle.depot.proofs.Emptied.{under-serial}

pub nothing-at : {P : Type 0} (n k : ℕ) → get_or {A = Option P} (replicate n None) k None ≡ None
nothing-at zero k = refl
nothing-at (suc n) zero = refl
nothing-at (suc n) (suc k) = nothing-at n k

module _ {P : Type 0} where
  given-at : (now put before : Option P) → Moved now put before → before ≡ None → now ≡ put
  given-at now None before m none = sym m ∙ none
  given-at now (Some p) before m none = m.0

  -- all that was given stands in the list, and nothing else
  laid-so : (f : ℕ → Option P) (n : ℕ) (xs : List (Option P)) → length xs ≡ n → ((k : ℕ) → get_or xs k None ≡ f k) → xs ≡ by_number f n
  laid-so f n xs size are =
      let many = by-number-length f n in
      ext_get_or None xs (by_number f n) (size ∙ sym many) (λ k h. are k ∙ sym (by-number-at f n k (omega arith)))

  pub given-so : (f : ℕ → Option P) (n : ℕ) (xs before : List (Option P)) → before ≡ replicate n None
      → ((k : ℕ) → Moved (get_or xs k None) (f k) (get_or before k None)) → (k : ℕ) → get_or xs k None ≡ f k
  given-so f n xs before is moved k = given-at (get_or xs k None) (f k) (get_or before k None) (moved k)
      (ap (λ (l : List (Option P)). get_or l k None) is ∙ nothing-at n k)

  pub given-all : (f : ℕ → Option P) (n m : ℕ) (xs before : List (Option P)) → before ≡ replicate n None → length xs ≡ length before → n ≡ m
      → ((k : ℕ) → Moved (get_or xs k None) (f k) (get_or before k None)) → xs ≡ by_number f m
  given-all f n m xs before is size same moved =
      let many : length before ≡ n = ap length is ∙ length-replicate n None in
      laid-so f m xs (size ∙ (many ∙ same)) (given-so f n xs before is moved)

  if-some : (y : Option P) (Q : P → Type 0) → ((p : P) → y ≡ Some p → Q p) → IfSome y Q
  if-some None Q h = tt
  if-some (Some p) Q h = h p refl

  not-both : (p : P) {y : Option P} → y ≡ None → y ≡ Some p → ⊥
  not-both p none some = no (sym none ∙ some)
    where
      no : None ≡ Some p → ⊥
      no e = cc

  -- ---- the parcels of a whole tree

  -- past the last number there is none
  past-nodes : (kind : P → Kind) (layout : Layout) (f : ℕ → Option P) → HasExactly kind layout Serial f → (k : ℕ) → length (parents layout) ≤ k → f k ≡ None
  past-nodes kind layout f exact k le = exact.no_other k (λ node under e. let q = under-place layout Serial node under in let q1 = q.1
      in (let no : ⊥ = omega arith in no))

  none-at-zero : (kind : P → Kind) (layout : Layout) (f : ℕ → Option P) → HasExactly kind layout Serial f → f 0 ≡ None
  none-at-zero kind layout f exact = exact.no_other 0 (λ node under e. let q = under-place layout Serial node under in let q0 = q.0
      in (let no : ⊥ = omega arith in no))

  -- each number below the list's length but 0 has one
  pub some-at : (kind : P → Kind) (layout : Layout) (f : ℕ → Option P) → HasExactly kind layout Serial f → (k : ℕ) → 0 < k
      → k < length (parents layout) → (p : P) × (f k ≡ Some p)
  some-at kind layout f exact k pos lt =
      let c = place-node layout k pos lt in
      let t = exact.each c.0 (under-serial layout c.0 c.1) in
      (t.0, ap f (sym c.2) ∙ t.1)

  pub room-for : (kind : P → Kind) (layout : Layout) (f : ℕ → Option P) → HasExactly kind layout Serial f → (n : ℕ) → n ≡ length (parents layout)
      → (k : ℕ) → IfSome (f k) (λ p. k < n)
  room-for kind layout f exact n is k = if-some (f k) (λ p. k < n)
      (λ p e. ⊎_elim (λ (lt : k < n). lt) (λ (le : n ≤ k). absurd (not-both p (past-nodes kind layout f exact k (omega arith)) e)) (cases_lt k n))

  -- the parcels are of their nodes' kinds
  pub are-of-kind : (kind : P → Kind) (layout : Layout) (f : ℕ → Option P) (first : List (Option P)) → HasExactly kind layout Serial f
      → ((k : ℕ) → get_or first k None ≡ f k) → AreOfKind kind layout first
  are-of-kind kind layout f first exact are node parcel m e =
      let t = exact.each node (under-serial layout node m) in
      same-kind parcel t.0 (f (number_of layout node)) (sym (are (number_of layout node)) ∙ e) t.1 ∙ t.2
    where
      same-kind : (p q : P) (y : Option P) → y ≡ Some p → y ≡ Some q → kind p ≡ kind q
      same-kind p q None ep eq = cc
      same-kind p q (Some r) ep eq = cc

  pub still-placed : (kind : P → Kind) (layout : Layout) (f at : ℕ → Option P) → HasExactly kind layout Serial f → ((k : ℕ) → at k ≡ f k)
      → Under layout Serial (IsPlaced kind layout at)
  still-placed kind layout f at exact are node under = let t = exact.each node under in (t.0, are (number_of layout node) ∙ t.1, t.2)

  taken-at : (before taken after : Option P) → Moved before taken after → (taken ≡ None → before ≡ None) → taken ≡ before
  taken-at before None after m none = sym (none refl)
  taken-at before (Some p) after m none = sym m.0

  -- what was gathered is what was scattered
  pub back-so : (kind : P → Kind) (layout : Layout) (f at back after : ℕ → Option P) → HasExactly kind layout Serial f
      → HasExactly kind layout Serial back → ((k : ℕ) → at k ≡ f k) → ((k : ℕ) → Moved (at k) (back k) (after k))
      → (k : ℕ) → back k ≡ f k
  back-so kind layout f at back after exact again are moved k = taken-at (at k) (back k) (after k) (moved k) (λ e. are k ∙ none k e) ∙ are k
    where
      none : (k : ℕ) → back k ≡ None → f k ≡ None
      none zero e = none-at-zero kind layout f exact
      none (suc k) e = ⊎_elim
          (λ (lt : suc k < length (parents layout)). let s = some-at kind layout back again (suc k) (omega arith) lt in absurd (not-both s.0 e s.1))
          (λ (le : length (parents layout) ≤ suc k). past-nodes kind layout f exact (suc k) le)
          (cases_lt (suc k) (length (parents layout)))

-- ---- the first seat

module _ {P E : Type 0} where
  -- its view
  pub opened-view : {views : List (List (View P E))} {vs : List (View P E)} {ps qs : List ℕ} {xs ys : List (Option P)} → views ≡ vs ∷ []
      → vs ≡ opening_view qs ys ∷ [] → qs ≡ ps → ys ≡ xs → views ≡ (opening_view ps xs ∷ []) ∷ []
  opened-view is first e f = is ∙ (ap (λ l. l ∷ []) first ∙ ap (λ (x : List ℕ × List (Option P)). (opening_view {P = P} {E = E} x.0 x.1 ∷ []) ∷ [])
      (λ i. (e i, f i)))
