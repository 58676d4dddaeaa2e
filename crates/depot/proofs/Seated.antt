-- Seats between two calls: what becomes of their grants' parcels as they part, join and meet.
use Rattle.std.proofs.Common.{◌≡◌, ℕ, ◌+◌, ◌≤◌, ◌<◌, Bool, true, false, ltb, List, [], ◌∷◌, ◌++◌, length, sym, refl, ap, ◌∙◌, subst, arith}
use Rattle.std.proofs.Common.{Some, ⊎_elim}
use mathlib.Core.Option.{some}
use lib.ListN.{get_elem?}
use Rattle.depot_rule.specs.declared.view.View.{View}
use Rattle.depot_rule.specs.declared.view.Read.{Read}
use Rattle.affinity.specs.Ancestors.{tally, Covers}
use Rattle.depot_rule.specs.Seats.{if_less, longer, fresh, merge, merged, having_seen, view_of}
use Rattle.depot_rule.specs.lemmas.Sums.{tally-append}
use Rattle.depot_rule.proofs.Joining.{none-held, held-of}
use Rattle.depot_rule.proofs.Places.{one-view}
use Rattle.depot_rule.specs.Plays.{AreApart, HaveSeenOne, KeepEntries}
use Rattle.depot.specs.Calls.{own_views, known}
use Rattle.depot.proofs.Moves.{placed-one}
use Rattle.depot.specs.Holds.{IsGathered}

if-same : {A : Type 0} (t : Bool) (x : A) → if_less t x x ≡ x
if-same true x = refl
if-same false x = refl

longer-same : {A : Type 0} (xs : List A) → longer xs xs ≡ xs
longer-same xs = if-same (ltb (length xs) (length xs)) xs

module _ {P E : Type 0} where
  pub fresh-gathered : (v : View P E) → IsGathered (fresh v)
  fresh-gathered v b k g has = absurd (none-held (length v.tree) b g has)

  pub merge-gathered : (v w : View P E) (rs : List Read) → v.tree ≡ w.tree → IsGathered v → IsGathered w → IsGathered (record (merge v w) { reads = rs })
  merge-gathered v w rs same mine others b k g has pos lt cover =
      let both = tally-append k v.gone w.gone in ⊎_elim
      (λ (h : get_elem? v.held b ≡ some (Some g)). let t = mine b k g h pos lt cover in (let r : 0 < tally k (v.gone ++ w.gone) = omega arith in r))
      (λ (h : get_elem? w.held b ≡ some (Some g)).
      let t = others b k g h pos (subst (λ (ps : List ℕ). k < length ps) same lt) (subst (λ (ps : List ℕ). Covers ps b k) same cover)
      in (let r : 0 < tally k (v.gone ++ w.gone) = omega arith in r))
      (held-of v.held w.held b g has)

  -- two seats that met
  met-two : (vs ws : List (View P E)) → length vs ≡ 1 → length ws ≡ 1 → vs ++ ws ≡ view_of vs ∷ view_of ws ∷ []
  met-two [] ws one other = absurd (omega arith)
  met-two (v ∷ u ∷ us) ws one other = absurd (omega arith)
  met-two (v ∷ []) [] one other = absurd (omega arith)
  met-two (v ∷ []) (w ∷ []) one other = refl
  met-two (v ∷ []) (w ∷ u ∷ us) one other = absurd (omega arith)

  -- and are merged as if they hadn't met
  pub merged-view : (v w : View P E) (fs os us : List (View P E)) → fs ≡ having_seen (longer v.seen w.seen) v ∷ []
      → os ≡ having_seen (longer v.seen w.seen) w ∷ [] → us ≡ merged fs os → us ≡ merge v w ∷ []
  merged-view v w fs os us f o is =
      is ∙ (ap (λ (x : List (View P E) × List (View P E)). merged x.0 x.1) (λ i. (f i, o i))
      ∙ ap (λ (s : List E). let z : View P E = record (merge v w) { seen = s } in z ∷ []) (longer-same (longer v.seen w.seen)))

  pub known-known : {views : List (List (View P E))} {vs : List (View P E)} {u : View P E} → views ≡ vs ∷ [] → vs ≡ u ∷ [] → views ≡ (u ∷ []) ∷ []
  known-known is one = is ∙ ap (λ us. us ∷ []) one

  pub gathered-of : {views : List (List (View P E))} (u : View P E) → views ≡ (u ∷ []) ∷ [] → IsGathered u → IsGathered (known views)
  gathered-of u is h = subst (λ l. IsGathered (known l)) (sym is) h

-- ---- what the goals of two seats that meet share

module _ {P E : Type 0} where
  -- each of the two seats has one view, and the views lie side by side
  pub record HasMet (first second : List (List (View P E))) (vs ws us : List (View P E)) : Type 0 where
    pub is : first ≡ vs ∷ []
    pub other_is : second ≡ ws ∷ []
    pub one : length vs ≡ 1
    pub other_one : length ws ≡ 1
    pub both : us ≡ view_of vs ∷ view_of ws ∷ []

  pub met-so : (first second : List (List (View P E))) (vs ws us : List (View P E)) → first ≡ vs ∷ [] → second ≡ ws ∷ []
      → length (own_views first) ≡ 1 → length (own_views second) ≡ 1 → us ≡ vs ++ ws → HasMet first second vs ws us
  met-so first second vs ws us is other_is one other_one joined =
      let o = placed-one is one in let p = placed-one other_is other_one in
      record { is = is; other_is = other_is; one = o; other_one = p; both = joined ∙ met-two vs ws o p }

  -- what a load says of two views that lie side by side
  abbrev pub AreAlike : View P E → View P E → Type 0
  AreAlike v w = (v.tree ≡ w.tree) × (v.parts + w.parts ≤ 64) × AreApart v w × HaveSeenOne v w × KeepEntries v w

  -- the same of what the seats know
  pub alike-known : (first second : List (List (View P E))) (vs ws us : List (View P E)) → HasMet first second vs ws us
      → AreAlike (view_of vs) (view_of ws) → AreAlike (known first) (known second)
  alike-known first second vs ws us met alike =
      subst (λ (x : View P E × View P E). AreAlike x.0 x.1) (λ i. (sym (ap known met.is) i, sym (ap known met.other_is) i)) alike

  -- both have seen the longer history
  abbrev pub told : View P E → View P E → View P E → View P E
  told v w u = having_seen (longer v.seen w.seen) u

  pub told-known : (first second : List (List (View P E))) (vs ws us : List (View P E)) → HasMet first second vs ws us
      → (told (view_of vs) (view_of ws) (view_of vs) ≡ told (known first) (known second) (known first))
      × (told (view_of vs) (view_of ws) (view_of ws) ≡ told (known first) (known second) (known second))
  told-known first second vs ws us met = (
    λ i. told (sym (ap known met.is) i) (sym (ap known met.other_is) i) (sym (ap known met.is) i),
    λ i. told (sym (ap known met.is) i) (sym (ap known met.other_is) i) (sym (ap known met.other_is) i),
  )

  -- what a seat's place has, of which the one view is known
  pub told-of : {views : List (List (View P E))} {vs : List (View P E)} {u : View P E} → views ≡ vs ∷ [] → length (own_views views) ≡ 1
      → known views ≡ u → vs ≡ u ∷ []
  told-of {vs = vs} is one now = one-view vs (placed-one is one) ∙ ap (λ u. u ∷ []) (sym (ap known is) ∙ now)
