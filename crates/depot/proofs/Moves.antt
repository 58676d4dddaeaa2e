-- A view from one step to the next.
use Rattle.std.proofs.Common.{◌≡◌, ◌≢◌, ℕ, ◌<◌, ◌≤◌, ◌+◌, suc, List, [], ◌∷◌, ◌++◌, length, set, eqb, slice_index, sym, refl, ap, ◌∙◌}
use Rattle.std.proofs.Common.{subst, arith, append_assoc, inr, Option, Some, None, IfSome}
use mathlib.Core.Option.{some}
use Rattle.depot_rule.specs.declared.view.View.{View}
use Rattle.depot_rule.specs.declared.view.Read.{Read}
use Rattle.affinity.specs.Ancestors.{tally, one_if, IsTree, ancestors, Excludes}
use Rattle.depot_rule.specs.Shares.{exclusive, shares, grant_shares, Has}
use Rattle.depot_rule.specs.Seats.{OnOne, view_of}
use Rattle.depot_rule.specs.Plays.{IsOnly}
use Rattle.depot_rule.specs.lemmas.Sums.{one-same, one-other}
use Rattle.depot_rule.specs.lemmas.Trees.{ancestors-parent, not-above}
use Rattle.depot_rule.proofs.Places.{one-view, of-one}
use Rattle.depot.specs.Calls.{IsAmong, read_of, Moved, MovedTo, IsExcluded, FoundClaimed, WasRefused, IsGranted, own_views, known}
use Rattle.affinity.specs.declared.affinity.Kind.{Kind}

pub among-later : {A : Type 0} (x : A) (ys xs : List A) → IsAmong x xs → IsAmong x (ys ++ xs)
among-later x [] xs a = a
among-later x (y ∷ ys) xs a = let r = among-later x ys xs a in (suc r.0, r.1)

module _ {P E : Type 0} where
  -- a word entered in vain was left: the view is as before
  pub calm-again : (v : View P E) {rs : List Read} {vs : List (View P E)} → v.unsure ≡ 0 → vs ≡ record v { unsure = 0; reads = rs } ∷ []
      → vs ≡ record v { path = v.path; reads = rs } ∷ []
  calm-again v {rs = rs} calm is = is ∙ ap (λ (u : ℕ). let z : View P E = record v { unsure = u; reads = rs } in z ∷ []) (sym calm)

  pub with-path : (v : View P E) {rs : List Read} {vs : List (View P E)} {p q : List ℕ} → p ≡ q → vs ≡ record v { path = p; reads = rs } ∷ []
      → vs ≡ record v { path = q; reads = rs } ∷ []
  with-path v {rs = rs} e is = is ∙ ap (λ (u : List ℕ). let z : View P E = record v { path = u; reads = rs } in z ∷ []) e

  -- the word that was claimed was found at 0
  pub granted-now : (v : View P E) (node : ℕ) (g : List (Option P)) {found : ℕ} {vs : List (View P E)} → found ≡ 0
      → vs ≡ record v { path = []; looked = 0; held = set v.held node (Some g); reads = read_of node found v ∷ v.reads } ∷ []
      → vs ≡ record v { path = []; looked = 0; held = set v.held node (Some g); reads = read_of node 0 v ∷ v.reads } ∷ []
  granted-now v node g free is = is ∙ ap (λ (n : ℕ). let z : View P E = record v {
    path = [];
    looked = 0;
    held = set v.held node (Some g);
    reads = read_of node n v ∷ v.reads;
  } in z ∷ []) free

  pub not-excluded : (v : View P E) (node : ℕ) → ((c : ℕ) (h : List (Option P)) → Has v c h → Excludes v.tree node c → ⊥) → IsExcluded v node → ⊥
  not-excluded v node none x = none x.0 x.1 x.2 x.3

  moved-again : (v : View P E) (more again : List Read) {p q : List ℕ} {vs ws : List (View P E)} → Moved v p more vs
      → Moved (view_of vs) q again ws → Moved v q (again ++ more) ws
  moved-again v more again {q = q} is then =
      then ∙ (ap (λ us. let z : View P E = record (view_of us) { path = q; reads = again ++ (view_of us).reads } in z ∷ []) is
      ∙ ap (λ rs. let z : View P E = record v { path = q; reads = rs } in z ∷ []) (sym (append_assoc again more v.reads)))

  pub same-path : {vs : List (View P E)} {p : List ℕ} → length vs ≡ 1 → (view_of vs).path ≡ p → Moved (view_of vs) p [] vs
  same-path {vs = vs} one e = with-path (view_of vs) {rs = (view_of vs).reads} e (one-view vs one)

  -- a word that isn't on the path has the shares of grants alone
  pub only-grants : (v : View P E) (node : ℕ) → 0 < node → v.unsure ≡ 0 → tally node v.path ≡ 0 → shares node v ≡ grant_shares node v
  only-grants v node pos calm clear = let u : one_if (eqb v.unsure node) ≡ 0 = one-other v.unsure node (λ e. omega arith) in omega arith

  -- where a word above is found claimed
  pub found-claimed : (ps : List ℕ) → IsTree ps → (v : View P E) (b p found : ℕ) {vs ws us : List (View P E)} → 0 < b → slice_index ps b ≡ p → 0 < p
      → v.unsure ≡ 0
      → MovedTo v (ancestors ps p) vs → exclusive ≤ found → (last : Read) × Moved (view_of vs) (view_of vs).path (last ∷ read_of p found (view_of vs) ∷ []) ws
      → (IsOnly (view_of vs) → (g : List (Option P)) × Has (view_of vs) p g) → MovedTo (view_of ws) [] us
      → FoundClaimed ps v b p found us
  found-claimed ps t v b p found {vs = vs} {ws = ws} {us = us} pb parent pp calm climbed full entered own left =
      let w : View P E = record v { path = ancestors ps p; reads = climbed.0 ++ v.reads } in
      let is : view_of vs ≡ w = ap view_of climbed.1 in
      let up : ancestors ps b ≡ p ∷ ancestors ps p = ancestors-parent ps t b p pb parent pp in
      let here : 0 < tally p (ancestors ps b) = (let e : tally p (ancestors ps b) ≡ one_if (eqb p p) + tally p (ancestors ps p) = ap
      (tally p) up in let o = one-same p p refl in omega arith) in
      let bare : shares p (view_of vs) ≡ grant_shares p v = ap (shares p) is ∙ only-grants w p pp calm (not-above ps t p) in
      let seen : IsAmong (record { word = p; value = found; shares = grant_shares p v }) (entered.0 ∷ read_of p found (view_of vs) ∷ climbed.0)
      = (1, ap (λ (n : ℕ). let r : Read = record { word = p; value = found; shares = n } in some r) bare) in (
        left.0 ++ (entered.0 ∷ read_of p found (view_of vs) ∷ climbed.0),
        moved-again v (entered.0 ∷ read_of p found (view_of vs) ∷ climbed.0) left.0
            (moved-again v climbed.0 (entered.0 ∷ read_of p found (view_of vs) ∷ []) climbed.1 entered.1) left.1,
        among-later (record { word = p; value = found; shares = grant_shares p v }) left.0 (entered.0 ∷ read_of p found (view_of vs) ∷ climbed.0) seen,
        here,
        full,
        subst (λ (u : View P E). IsOnly u → (g : List (Option P)) × Has u p g) is own,
      )

  -- where a word above the parent is found claimed
  pub claimed-higher : (ps : List ℕ) → IsTree ps → (v : View P E) (b p node found : ℕ) {vs : List (View P E)} → 0 < b → slice_index ps b ≡ p → 0 < p
      → FoundClaimed ps v p node found vs → FoundClaimed ps v b node found vs
  claimed-higher ps t v b p node found pb parent pp f =
      let up : tally node (ancestors ps b) ≡ one_if (eqb p node) + tally node (ancestors ps p) = ap (tally node) (ancestors-parent ps t b p pb parent pp) in
      let h = f.3 in (f.0, f.1, f.2, (let q : 0 < tally node (ancestors ps b) = omega arith in q), f.4, f.5)

  -- the parent's word was entered too
  pub entered-parent : (ps : List ℕ) → IsTree ps → (v : View P E) (b p : ℕ) {vs ws : List (View P E)} → 0 < b → slice_index ps b ≡ p → 0 < p
      → MovedTo v (ancestors ps p) vs
      → (found : ℕ) × Moved (view_of vs) (p ∷ (view_of vs).path) (read_of p found (view_of vs) ∷ []) ws → MovedTo v (ancestors ps b) ws
  entered-parent ps t v b p {vs = vs} pb parent pp climbed entered =
      let path : p ∷ (view_of vs).path ≡ ancestors ps b = ap (λ us. p ∷ (view_of us).path) climbed.1 ∙ sym (ancestors-parent ps t b p pb parent pp) in
      let now = with-path (view_of vs) {rs = read_of p entered.0 (view_of vs) ∷ (view_of vs).reads} path entered.1 in
      (read_of p entered.0 (view_of vs) ∷ climbed.0, moved-again v climbed.0 (read_of p entered.0 (view_of vs) ∷ []) climbed.1 now)

  pub moved-on : (v : View P E) {p q : List ℕ} {vs ws : List (View P E)} → MovedTo v p vs → MovedTo (view_of vs) q ws → MovedTo v q ws
  moved-on v is then = (then.0 ++ is.0, moved-again v is.0 then.0 is.1 then.1)

  pub moved-one : (v : View P E) {p : List ℕ} {vs : List (View P E)} → MovedTo v p vs → length vs ≡ 1
  moved-one v is = ap length is.1

  pub moved-path : (v : View P E) {p : List ℕ} {vs : List (View P E)} → MovedTo v p vs → (view_of vs).path ≡ p
  moved-path v is = ap (λ us. (view_of us).path) is.1

  pub moved-unsure : (v : View P E) {p : List ℕ} {vs : List (View P E)} → MovedTo v p vs → (view_of vs).unsure ≡ v.unsure
  moved-unsure v is = ap (λ us. (view_of us).unsure) is.1

  pub left-one : (v : View P E) (node : ℕ) {p : List ℕ} {vs : List (View P E)} → (found : ℕ) × Moved v p (read_of node found v ∷ []) vs → MovedTo v p vs
  left-one v node is = (read_of node is.0 v ∷ [], is.1)

  -- refused by the node's own word
  pub refused-here : (ps : List ℕ) → IsTree ps → (v : View P E) (b found : ℕ) {vs ws us : List (View P E)} → 0 < b → v.unsure ≡ 0 → found ≢ 0
      → MovedTo v (ancestors ps b) vs → Moved (view_of vs) (view_of vs).path (read_of b found (view_of vs) ∷ []) ws
      → (IsOnly (view_of vs) → IsExcluded (view_of vs) b) → MovedTo (view_of ws) [] us
      → WasRefused ps v b b found us
  refused-here ps t v b found {vs = vs} pb calm busy climbed tried excluded left =
      let w : View P E = record v { path = ancestors ps b; reads = climbed.0 ++ v.reads } in
      let is : view_of vs ≡ w = ap view_of climbed.1 in
      let bare : shares b (view_of vs) ≡ grant_shares b v = ap (shares b) is ∙ only-grants w b pb calm (not-above ps t b) in
      let here : IsAmong (record { word = b; value = found; shares = grant_shares b v }) (read_of b found (view_of vs) ∷ climbed.0)
      = (0, ap (λ (n : ℕ). let r : Read = record { word = b; value = found; shares = n } in some r) bare) in (
        left.0 ++ (read_of b found (view_of vs) ∷ climbed.0),
        moved-again v (read_of b found (view_of vs) ∷ climbed.0) left.0 (moved-again v climbed.0 (read_of b found (view_of vs) ∷ []) climbed.1 tried) left.1,
        among-later (record { word = b; value = found; shares = grant_shares b v }) left.0 (read_of b found (view_of vs) ∷ climbed.0) here,
        inr (refl, busy),
        subst (λ (u : View P E). IsOnly u → IsExcluded u b) is excluded,
      )

  -- the claim took the shares over
  pub granted-from : (kind_of : P → Kind) (ps : List ℕ) (v : View P E) (b : ℕ) (Q : View P E → List (Option P) → Type 0)
      → ((path : List ℕ) (rs : List Read) (g : List (Option P)) → Q (record v { path = path; reads = rs }) g → Q v g)
      → {vs ws : List (View P E)} → v.path ≡ [] → MovedTo v (ancestors ps b) vs
      → (g : List (Option P)) × IsGranted kind_of (record (view_of vs) { path = [] }) b g (read_of b 0 (view_of vs) ∷ []) ws × Q (view_of vs) g
      → (g : List (Option P)) × (more : List Read) × IsGranted kind_of v b g more ws × Q v g
  granted-from kind_of ps v b Q still {vs = vs} {ws = ws} none climbed q =
      let w : View P E = record v { path = ancestors ps b; reads = climbed.0 ++ v.reads } in
      let is : view_of vs ≡ w = ap view_of climbed.1 in
      let r = subst (λ (u : View P E). IsGranted kind_of (record u { path = [] }) b q.0 (read_of b 0 u ∷ []) ws) is q.1 in (
        q.0,
        read_of b 0 w ∷ climbed.0,
        (
          r.0 ∙ ap (λ (p : List ℕ). let z : View P E = record v {
            path = p;
            looked = 0;
            held = set v.held b (Some q.0);
            reads = read_of b 0 w ∷ (climbed.0 ++ v.reads);
          } in z ∷ []) (sym none),
          r.1,
          r.2,
          r.3,
        ),
        still (ancestors ps b) (climbed.0 ++ v.reads) q.0 (subst (λ (u : View P E). Q u q.0) is q.2),
      )

  pub none-excluded : (ps : List ℕ) (v : View P E) (b : ℕ) {vs : List (View P E)} → MovedTo v (ancestors ps b) vs → (IsExcluded (view_of vs) b → ⊥)
      → IsExcluded v b → ⊥
  none-excluded ps v b climbed none = subst (λ (u : View P E). IsExcluded u b → ⊥) (ap view_of climbed.1) none

  -- a grant that was released, once the words above are left
  pub ended-from : (v : View P E) (b found : ℕ) (path : List ℕ) {vs ws : List (View P E)} → v.path ≡ []
      → vs ≡ record v { path = path; stamped = 0; held = set v.held b None; reads = read_of b found v ∷ v.reads } ∷ [] → MovedTo (view_of vs) [] ws
      → (more : List Read) × (ws ≡ record v { stamped = 0; held = set v.held b None; reads = more ++ v.reads } ∷ [])
  ended-from v b found path none is left = (
    left.0 ++ (read_of b found v ∷ []),
    left.1
        ∙ (ap (λ us. let z : View P E = record (view_of us) { path = []; reads = left.0 ++ (view_of us).reads } in z ∷ []) is
        ∙ ap (λ (x : List ℕ × List Read). let z : View P E = record v { path = x.0; stamped = 0; held = set v.held b None; reads = x.1 } in z ∷ [])
        (λ i. (sym none i, sym (append_assoc left.0 (read_of b found v ∷ []) v.reads) i))),
  )

  -- a slot went out and came home
  pub hand-free : (v : View P E) {gone : List ℕ} {one two : Read} {vs : List (View P E)} → v.out ≡ 0
      → vs ≡ record v { out = 0; gone = gone; reads = two ∷ one ∷ v.reads } ∷ []
      → (more : List Read) × (vs ≡ record v { gone = gone; reads = more ++ v.reads } ∷ [])
  hand-free v {gone = gone} {one = one} {two = two} calm is =
      (two ∷ one ∷ [], is ∙ ap (λ (h : ℕ). let z : View P E = record v { out = h; gone = gone; reads = two ∷ one ∷ v.reads } in z ∷ []) (sym calm))

  -- a seat between calls, and its place in the table
  pub placed-one : {views : List (List (View P E))} {vs : List (View P E)} → views ≡ vs ∷ [] → length (own_views views) ≡ 1 → length vs ≡ 1
  placed-one is one = sym (ap (λ l. length (own_views l)) is) ∙ one

  pub no-path : {views : List (List (View P E))} {vs : List (View P E)} → views ≡ vs ∷ [] → length (known views).path ≡ 0 → (view_of vs).path ≡ []
  no-path {vs = vs} is none = nothing (view_of vs).path (sym (ap (λ l. length (known l).path) is) ∙ none)
    where
      nothing : (xs : List ℕ) → length xs ≡ 0 → xs ≡ []
      nothing [] e = refl
      nothing (x ∷ xs) e = absurd (omega arith)

-- the entry that was picked was stamped
pub stamped-so : {P E : Type 0} (Q : E → View P E → Type 0) {item : Option E} {e : E} {vs : List (View P E)} → item ≡ Some e → vs ≡ view_of vs ∷ []
    → IfSome item (λ x. OnOne (Q x) vs) → Q e (view_of vs)
stamped-so Q {e = e} {vs = vs} is one did = of-one (Q e) vs (view_of vs) one (subst (λ j. IfSome j (λ x. OnOne (Q x) vs)) is did)

pub one-of : {A : Type 0} (xs : List A) → length xs ≡ 1 → (x : A) × (xs ≡ x ∷ [])
one-of [] e = absurd (omega arith)
one-of (x ∷ []) e = (x, refl)
one-of (x ∷ y ∷ ys) e = absurd (omega arith)
