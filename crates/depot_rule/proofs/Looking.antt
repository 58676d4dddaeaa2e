-- A look at the ticket, as the table asks for it.
use Rattle.std.proofs.Common.{◌≡◌, ◌⊎◌, ◌++◌, inl, inr, ⊎_elim, ℕ, ◌+◌, ◌≤◌, List, [], ◌∷◌, length, get_or, set, sym, refl, ap, ◌∙◌, subst, arith}
use Rattle.std.proofs.Common.{Option, length-set, get_or-set_other}
use mathlib.Core.Option.{none, some}
use mathlib.Core.Logic.{dite}
use native.Mathlib.Decide.{dec_lt}
use lib.ListN.{get_elem?}
use Rattle.atomic_table.specs.Table.{State, step, keeps, Allows}
use Rattle.atomic_table.proofs.Lists.{set_again}
use Rattle.depot_rule.specs.declared.view.View.{View}
use Rattle.depot_rule.specs.declared.view.Entry.{Entry}
use Rattle.depot_rule.specs.declared.view.Read.{Read}
use Rattle.depot_rule.specs.History.{Behaviour, StartsWith}
use Rattle.depot_rule.specs.Sums.{total}
use Rattle.depot_rule.specs.Shares.{worn, parts, made, due, unsettled, open_grants, claims, entered, shares, IsWellFormed, Shares}
use Rattle.depot_rule.specs.Rule.{Rule}
use Rattle.depot_rule.specs.Plays.{Place, IsOnly, Counts, LookSays, AlikeSays}
use Rattle.depot_rule.specs.lemmas.Sums.{total-set, total-at, total-plus}
use Rattle.depot_rule.proofs.Views.{all-one, each-set, only-view, due-most}
use Rattle.depot_rule.proofs.Parcels.{stay-keeps}
use Rattle.depot_rule.proofs.Counting.{history-length}
use Rattle.depot_rule.proofs.Whole.{only-log}
use Rattle.depot_rule.proofs.Following.{are-apart}
use Rattle.affinity.specs.Ancestors.{Excludes}
use Rattle.depot_rule.proofs.Places.{on-one}
use Rattle.depot_rule.proofs.Meeting.{first-chosen, second-chosen, merged-weigh}
use Rattle.depot_rule.proofs.Remembering.{still}
use Rattle.affinity.specs.declared.affinity.Kind.{Kind}

pub same-word : (ws : List ℕ) → set ws 0 (get_or ws 0 0) ≡ ws
same-word [] = refl
same-word (w ∷ ws) = refl

-- of two beginnings of a list, one begins the other
began : {A : Type 0} (xs ys rest rest' : List A) → xs ++ rest ≡ ys ++ rest' → StartsWith ys xs ⊎ StartsWith xs ys
began [] ys rest rest' e = inl (ys, refl)
began (x ∷ xs) [] rest rest' e = inr (x ∷ xs, refl)
began (x ∷ xs) (y ∷ ys) rest rest' e =
    let same : x ≡ y = cc in let further : xs ++ rest ≡ ys ++ rest' = cc in ⊎_elim
    (λ (s : StartsWith ys xs). inl (s.0, λ i. same i ∷ s.1 i))
    (λ (s : StartsWith xs ys). inr (s.0, λ i. sym same i ∷ s.1 i))
    (began xs ys rest rest' further)

one-began : {A : Type 0} (xs ys log : List A) → StartsWith log xs → StartsWith log ys → StartsWith ys xs ⊎ StartsWith xs ys
one-began xs ys log a b = began xs ys a.0 b.0 (a.1 ∙ sym b.1)

module _ (P E : Type 0) where
  -- the ticket is no node's word
  pub ticket-keeps : (ps ws : List ℕ) (views : List (List (View P E))) (r : Shares ps ws views) (x id : ℕ) (v w : View P E) → get_elem? views id ≡ some (v ∷ [])
      → w.parts ≡ v.parts → get_or (set ws 0 x) 0 0 ≡ total (total made) (set views id (w ∷ [])) → total (total due) (set views id (w ∷ []))
      ≤ 4611686018427515904 + total (total unsettled) (set views id (w ∷ [])) → IsWellFormed ps w
      → ((a : ℕ) → (shares a w ≡ shares a v) × (claims a w ≡ claims a v) × (entered a w ≡ entered a v))
      → Shares ps (set ws 0 x) (set views id (w ∷ []))
  ticket-keeps ps ws views r x id v w at same next few_due sound others = record {
    tree = r.tree;
    few = r.few;
    as_many = length-set ws 0 x ∙ r.as_many;
    seats = let t = total-set (total parts) views id (v ∷ []) (w ∷ []) at in let q = r.seats in omega arith;
    counted = λ a p l. let t = total-set (total (shares a)) views id (v ∷ []) (w ∷ []) at in let o = others a in let o0 = o.0 in let q = r.counted a
        p l in let g = get_or-set_other ws 0 a x 0 (λ e. omega arith) in omega arith;
    ticket = next;
    bounded = few_due;
    alone = λ a p l some_claim. let t = total-set (total (entered a)) views id (v ∷ []) (w ∷ []) at in let u = total-set (total (claims a)) views id
        (v ∷ []) (w ∷ []) at in
        let o = others a in let o1 = o.1 in let o2 = o.2 in let q = r.alone a p l (omega arith) in let q0 = q.0 in let q1 = q.1 in (omega arith, omega arith);
    sound = each-set (IsWellFormed ps) views id (w ∷ []) r.sound (all-one (IsWellFormed ps) w sound);
  }

module _ (P C R B : Type 0) (kind_of : P → Kind) (m : Behaviour P C R B) where
  abbrev E : Type 0
  E = Entry P C R

  -- the view may be allowed one call more
  look-keeps : (ps : List ℕ) (first : List (Option P)) (s : State (Option P) (List (View P E))) (whole : Rule kind_of m ps first s) (id : ℕ)
      (v : View P E) (looked : ℕ) → get_elem? s.views id ≡ some (v ∷ []) → looked ≤ 1
      → total (total due) (set s.views id (record v {
        looked = looked;
        reads = record { word = 0; value = get_or s.words 0 0; shares = 0 } ∷ v.reads;
      } ∷ [])) ≤ 4611686018427515904 + total (total unsettled)
      (set s.views id (record v { looked = looked; reads = record { word = 0; value = get_or s.words 0 0; shares = 0 } ∷ v.reads } ∷ []))
      → Rule kind_of m ps first record {
        words = set s.words 0 (get_or s.words 0 0);
        homes = s.homes;
        views = set s.views id
            (record v { looked = looked; reads = record { word = 0; value = get_or s.words 0 0; shares = 0 } ∷ v.reads } ∷ []);
      }
  look-keeps ps first s whole id v looked at one few_due =
      let r = whole.base in
      let rs : List Read = record { word = 0; value = get_or s.words 0 0; shares = 0 } ∷ v.reads in
      let w : View P E = record v { looked = looked; reads = rs } in
      let ca = r.parcels.carries id (v ∷ []) at 0 v refl in let so = r.shares.sound id (v ∷ []) at 0 v refl in
      let count = total-set (total made) s.views id (v ∷ []) (w ∷ []) at in
      let as_many : total (total made) (set s.views id (w ∷ [])) ≡ total (total made) s.views = omega arith in
      record {
        base = record {
          shares = ticket-keeps P E ps s.words s.views r.shares (get_or s.words 0 0) id v w at refl (ap (λ l. get_or l 0 0) (same-word s.words)
              ∙ r.shares.ticket ∙ sym as_many) few_due
              (record { some_part = so.some_part; tree = so.tree; wide = so.wide; once = so.once; looked = one }) (λ a. (refl, refl, refl));
          parcels = stay-keeps P E kind_of ps first s r id v w at (λ k. refl)
              (record { opened = ca.opened; nodes = ca.nodes; single = ca.single; cover = ca.cover; whole = ca.whole; there = ca.there; empty = ca.empty });
        };
        history = still P C R B m ps first s whole.history _ id v looked v.path v.unsure rs at;
      }

  -- the ticket counts the only seat's entries
  pub only-counts : (ps : List ℕ) (first : List (Option P)) (s : State (Option P) (List (View P E))) (whole : Rule kind_of m ps first s) (id : ℕ) (v : View P E)
      → get_elem? s.views id ≡ some (v ∷ []) → IsOnly v → Counts v (get_or s.words 0 0)
  only-counts ps first s whole id v at all = (
    whole.base.shares.ticket ∙ only-view P E ps s.words s.views whole.base.shares id v at all made,
    whole.base.shares.ticket ∙ (history-length P C R B kind_of m ps first s whole
        ∙ ap (λ (l : List E). length l) (only-log P C R B kind_of m ps first s whole.base whole.history id v at all)),
  )

  pub looks : (ps : List ℕ) (first : List (Option P)) (slots id : ℕ) (me : Place P E) (v : View P E) → me.0 ≡ v ∷ []
      → Allows (Rule kind_of m ps first) slots id me 0 (λ x. x) (LookSays (step slots 0 0 0 none) me)
  looks ps first slots id me v one s whole _ at' small =
      let r = whole.base in
      let at : get_elem? s.views id ≡ some (v ∷ []) = at' ∙ ap some one in
      let x : ℕ = get_or s.words 0 0 in
      let ticket = r.shares.ticket in
      dite (dec_lt x worn)
      (λ low. (
        record v { looked = 1; reads = record { word = 0; value = x; shares = 0 } ∷ v.reads } ∷ [],
        keeps,
        tt,
        look-keeps ps first s whole id v 1 at (omega arith)
            (let most = due-most P E ps s.words s.views r.shares in
            let d = total-plus (total (λ (u : View P E). made u)) (total (λ (u : View P E). u.looked + open_grants u)) (total due)
            (λ us. total-plus (λ (u : View P E). made u) (λ (u : View P E). u.looked + open_grants u) due (λ u. omega arith) us) s.views in
            let rest = total-set (total (λ (u : View P E). u.looked + open_grants u)) s.views id (v ∷ []) (record v { looked = 1 } ∷ []) at in
            let here = total-set (total due) s.views id (v ∷ [])
            (record v { looked = 1; reads = record { word = 0; value = x; shares = 0 } ∷ v.reads } ∷ []) at in
            let so = r.shares.sound id (v ∷ []) at 0 v refl in let l = so.looked in omega arith),
        (
          on-one _ me.0 v one (
            refl,
            (λ _. refl),
            (λ high. absurd (omega arith)),
            only-counts ps first s whole id v at,
          ),
          refl,
        ),
      ))
      (λ high. (
        record v { reads = record { word = 0; value = x; shares = 0 } ∷ v.reads } ∷ [],
        keeps,
        tt,
        look-keeps ps first s whole id v v.looked at (let so = r.shares.sound id (v ∷ []) at 0 v refl in so.looked)
            (let here = total-set (total due) s.views id (v ∷ []) (record v { reads = record { word = 0; value = x; shares = 0 } ∷ v.reads } ∷ []) at in
            let same = total-set (total unsettled) s.views id (v ∷ []) (record v { reads = record { word = 0; value = x; shares = 0 } ∷ v.reads } ∷ []) at in
            let q = r.shares.bounded in omega arith),
        (on-one _ me.0 v one (refl, (λ low. absurd (high low)), (λ _. refl), only-counts ps first s whole id v at), refl),
      ))

  -- two seats that met are of the table's tree
  pub alikes : (ps : List ℕ) (first : List (Option P)) (slots id : ℕ) (me : Place P E)
      → Allows (Rule kind_of m ps first) slots id me 0 (λ x. x) (AlikeSays (step slots 0 0 0 none) me)
  alikes ps first slots id me s whole _ at small = let r = whole.base in (
    me.0,
    keeps,
    tt,
    subst (λ (z : List ℕ × List (List (View P E))). Rule kind_of m ps first record { words = z.0; homes = s.homes; views = z.1 })
        (λ i. (sym (same-word s.words) i, sym (set_again s.views id me.0 at) i)) whole,
    (
      refl,
      λ v w is.
          let at' : get_elem? s.views id ≡ some (v ∷ w ∷ []) = at ∙ ap some is in
          let so = r.shares.sound id (v ∷ w ∷ []) at' 0 v refl in
          let so' = r.shares.sound id (v ∷ w ∷ []) at' 1 w refl in
          let most = total-at (total parts) s.views id (v ∷ w ∷ []) at' in let seats = r.shares.seats in (
            so.tree ∙ sym so'.tree,
            (let fit : v.parts + w.parts ≤ 64 = omega arith in fit),
            (λ b c g h has has' ex.
                let same = are-apart P E kind_of ps first s r id 0 b id 1 c (v ∷ w ∷ [], v, g, at', refl, has) (v ∷ w ∷ [], w, h, at', refl, has')
                (subst (λ (q : List ℕ). Excludes q b c) so.tree ex) in
                let bad = same.1 in absurd (omega arith)),
            one-began v.seen w.seen whole.history.log (whole.history.seen id (v ∷ w ∷ []) at' 0 v refl) (whole.history.seen id (v ∷ w ∷ []) at' 1 w refl),
            (
              first-chosen P C R B m ps first s whole.history id (v ∷ w ∷ []) 0 v at' refl id (v ∷ w ∷ []) 1 w at' refl,
              second-chosen P C R B m ps first s whole.history id (v ∷ w ∷ []) 0 v at' refl id (v ∷ w ∷ []) 1 w at' refl,
              merged-weigh P C R B m ps first s whole.history id (v ∷ w ∷ []) 0 v at' refl id (v ∷ w ∷ []) 1 w at' refl,
            ),
          ),
    ),
  )
