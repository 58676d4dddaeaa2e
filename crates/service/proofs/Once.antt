-- Where block numbers are in what a depot grants: each parcel of a grant is as a history left it, and what isn't granted counts as empty.
use Rattle.std.proofs.Common.{◌≡◌, ℕ, zero, suc, ◌+◌, ◌*◌, ◌<◌, ◌≤◌, Bool, true, false, List, [], ◌∷◌, length, map, Option, None}
use Rattle.std.proofs.Common.{refl, sym, ap, ◌∙◌, subst, arith, nat_lt, ◌⊎◌, inl, inr, ⊎_elim}
use Rattle.std.specs.Ordering.{nat_cmp}
use Rattle.std.specs.FinMap as maps
use Rattle.std.specs.FinMap.{entries}
use Rattle.std.specs.FinSet.{contains, contains-empty}
use Rattle.nfs_model.specs.Tree.{Layout, Affinity, Serial, Aggregate, Volume, Logical, Stripe, Vbn, Range, stripes_of, aggregate_of}
use Rattle.nfs_model.specs.Parts.{Hand, one_if, times_listed, most_ranges}
use Rattle.nfs_model.specs.volume.Stripes.{FileBlock, Block}
use Rattle.nfs_model.specs.volume.Ranges.{RangeValue}
use Rattle.affinity.specs.Ancestors.{Covers}
use Rattle.affinity.specs.Numbers.{number_of, parents}
use Rattle.affinity.specs.Tree.{IsNode}
use Rattle.affinity.specs.Under.{IsUnder}
use Rattle.affinity.specs.Alike.{AreAlike}
use Rattle.affinity.specs.lemmas.Alike.{alike}
use Rattle.affinity.specs.lemmas.Standing.{number-place, covers-under}
use Rattle.parcels.specs.Exact.{kind_in, HasExactly}
use Rattle.depot_rule.specs.History.{after, covers, listed, entries_of}
use Rattle.depot_rule.specs.Sums.{total}
use Rattle.depot_rule.specs.lemmas.Covering.{covers-true, true-covers}
use Rattle.depot.specs.Grants.{IsAfter}
use Rattle.filer_state.specs.state.Contents.{VolumeContents, FilerContents, each, logical_in, stripe_in, range_in, contents_of, filer_contents}
use Rattle.filer_state.specs.state.Partition.{times_in, times_in_hand, times_in_stripe, StandOnce}
use Rattle.filer_state.specs.state.Sound.{IsFiler, AreSound}
use Rattle.filer_state.specs.state.Tree.{ranges_used}
use Rattle.filer_state.specs.laws.lemmas.Alike.{filer-same}
use Rattle.filer_state.specs.laws.lemmas.Each.{each-get, each-same}
use Rattle.service.specs.Laws.{service_behaviour, ServiceEntry, ServiceView, ServiceParcels, AreHandsOf}
use Rattle.service.specs.Laws.{GrantsHaveEachBlockOnce, WholeGrantsHaveAllBlocks, ClosedDepotsHaveAllBlocks}
use Rattle.filer_state.specs.state.Parcels.{FilerParcel}
use Rattle.filer_state.specs.declared.files.Files.{Files}

-- ---- counts

abbrev One : Type 0
One = Option (FilerParcel Files)

-- the first is nothing, or the second
abbrev IsOrNothing : One → One → Type 0
IsOrNothing x y = (x ≡ None) ⊎ (x ≡ y)

none-listed : (n : ℕ) (es : List (FileBlock × Block)) → length es ≡ 0 → times_listed n (map (λ (e : FileBlock × Block). e.1.number) es) ≡ 0
none-listed n [] e = refl
none-listed n (x ∷ es) e = absurd (omega arith)

-- what stands in no parcel
no-stripe : (n : ℕ) → times_in_stripe n (stripe_in {P = Files} None) ≡ 0
no-stripe n = none-listed n (entries (stripe_in {P = Files} None).blocks) (sym (maps.len-entries (stripe_in {P = Files} None).blocks) ∙ maps.len-empty _ _)

abbrev times_stock : ℕ → One → ℕ
times_stock n x = one_if (contains (logical_in x).stock n)

abbrev times_dead : ℕ → One → ℕ
times_dead n x = one_if (contains (logical_in x).dead.blocks n)

abbrev times_free : ℕ → One → ℕ
times_free n x = one_if (contains (range_in x).free n)

-- a count of one parcel, which is 0 where there is none, is no greater where the parcel is this one or none
less-one : (h : One → ℕ) → h None ≡ 0 → (x y : One) → IsOrNothing x y → h x ≤ h y
less-one h none x y = ⊎_elim
    (λ (e : x ≡ None). let here : h x ≡ 0 = ap h e ∙ none in omega arith)
    (λ (e : x ≡ y). let here : h x ≡ h y = ap h e in omega arith)

less-each : {A : Type 0} (h : A → ℕ) (p q : ℕ → A) (from n : ℕ) → ((i : ℕ) → from ≤ i → i < from + n → h (p i) ≤ h (q i))
    → total h (each p from n) ≤ total h (each q from n)
less-each h p q from zero less = omega arith
less-each h p q from (suc n) less =
    let here = less from (omega arith) (omega arith) in
    let others = less-each h p q (from + 1) n (λ i a b. less i (omega arith) (omega arith)) in
    omega arith

at-most-one : (b : Bool) → one_if b ≤ 1
at-most-one true = omega arith
at-most-one false = omega arith

-- hands of the same entries weigh the same
same-weight : (es : List ServiceEntry) (hands others : List Hand) → AreHandsOf es hands → AreHandsOf es others → (weigh : Hand → ℕ)
    → total weigh hands ≡ total weigh others
same-weight es hands others a b weigh = let x = a weigh in let y = b weigh in omega (arith, x, y)

-- ---- parcels of a volume

module _ (layout : Layout) (f g : ServiceParcels) where
  -- of each node the parcel of g, or nothing
  abbrev AreOrNothing : Type 0
  AreOrNothing = (c : Affinity) → IsNode layout c → IsOrNothing (f (number_of layout c)) (g (number_of layout c))

  less-times : AreOrNothing → (v n : ℕ) → v < length layout.volumes → times_in n (contents_of layout f v) ≤ times_in n (contents_of layout g v)
  less-times some v n on =
      let stripes = less-each (times_in_stripe n) (λ i. stripe_in (f (number_of layout (Stripe v i)))) (λ i. stripe_in (g (number_of layout (Stripe v i))))
      0 (stripes_of layout v)
      (λ i low less. less-one (λ x. times_in_stripe n (stripe_in x)) (no-stripe n) (f (number_of layout (Stripe v i))) (g (number_of layout (Stripe v i)))
      (some (Stripe v i) (on, omega arith))) in
      let ranges = less-each (λ (r : RangeValue). one_if (contains r.free n)) (λ r. range_in (f (number_of layout (Range v r))))
      (λ r. range_in (g (number_of layout (Range v r)))) 0 most_ranges
      (λ r low less. less-one (times_free n) (ap one_if (contains-empty nat_cmp n)) (f (number_of layout (Range v r))) (g (number_of layout (Range v r)))
      (some (Range v r) (on, omega arith))) in
      let stock = less-one (times_stock n) (ap one_if (contains-empty nat_cmp n)) (f (number_of layout (Logical v))) (g (number_of layout (Logical v)))
      (some (Logical v) on) in
      let dead = less-one (times_dead n) (ap one_if (contains-empty nat_cmp n)) (f (number_of layout (Logical v))) (g (number_of layout (Logical v)))
      (some (Logical v) on) in
      omega (arith, stripes, ranges, stock, dead)

  -- the same parcel at each node
  same-contents : ((c : Affinity) → IsNode layout c → f (number_of layout c) ≡ g (number_of layout c)) → (v : ℕ) → v < length layout.volumes
      → contents_of layout f v ≡ contents_of layout g v
  same-contents same v on = λ j. record {
    number = v;
    aggregate = aggregate_of layout v;
    logical = logical_in (same (Logical v) on j);
    stripes = each-same (λ i. stripe_in (f (number_of layout (Stripe v i)))) (λ i. stripe_in (g (number_of layout (Stripe v i)))) 0 (stripes_of layout v)
        (λ i low less. ap stripe_in (same (Stripe v i) (on, omega arith))) j;
    ranges = each-same (λ r. range_in (f (number_of layout (Range v r)))) (λ r. range_in (g (number_of layout (Range v r)))) 0 most_ranges
        (λ r low less. ap range_in (same (Range v r) (on, omega arith))) j;
  }

-- ---- what a history left

module _ (layout : Layout) (g : ServiceParcels) (hands : List Hand) (made : ℕ) (good : IsFiler (parents layout) g hands made) where
  abbrev other : Layout
  other = good.0

  numbered-alike : AreAlike other layout
  numbered-alike = alike good.0 layout good.1.1

  -- each number below total stands once, in a place or in a hand
  left-once : (v : ℕ) → v < length layout.volumes → StandOnce (contents_of layout g v) hands
  left-once v on =
      let sound : AreSound (filer_contents layout g) hands made =
      subst (λ (c : FilerContents). AreSound c hands made) (filer-same good.0 layout numbered-alike g) good.2 in
      (sound v (contents_of layout g v) (each-get (contents_of layout g) (length layout.volumes) v on)).1.partition

  -- what is under a node, its number covers
  cover-under : (a c : Affinity) → IsNode layout a → IsUnder layout a c → Covers (parents layout) (number_of layout a) (number_of layout c)
  cover-under a c there under =
      let s = numbered-alike in
      subst (λ (n : ℕ). Covers (parents layout) n (number_of layout c)) (s.number a)
      (subst (λ (n : ℕ). Covers (parents layout) (number_of other a) n) (s.number c)
      (subst (λ (ps : List ℕ). Covers ps (number_of other a) (number_of other c)) good.1.1
      (covers-under other good.1.0 a c ((s.node a).1 there) ((s.under a c).1 under))))

-- each node is under Serial
under-serial : (layout : Layout) (c : Affinity) → IsNode layout c → IsUnder layout Serial c
under-serial layout Serial m = (m, inl refl)
under-serial layout (Aggregate a) m = (m, inr refl)
under-serial layout (Volume v) m = (m, inr refl)
under-serial layout (Logical v) m = (m, inr refl)
under-serial layout (Stripe v i) m = (m, inr refl)
under-serial layout (Vbn v) m = (m, inr refl)
under-serial layout (Range v r) m = (m, inr refl)

-- ---- grants

module _ (layout : Layout) (seat : ServiceView) (of : seat.tree ≡ parents layout) (node : Affinity) (f : ServiceParcels)
    (left : IsAfter service_behaviour seat (number_of layout node) f) where
  abbrev as_left : ServiceParcels
  as_left = after (parents layout) (listed seat.first) left.0

  left-good : IsFiler (parents layout) as_left left.1.hands (length left.0)
  left-good = subst (λ (ps : List ℕ). IsFiler ps (after ps (listed seat.first) left.0) left.1.hands (length left.0)) of left.1.sound

  -- what the node covers is as the history left it
  left-there : (c : Affinity) → IsNode layout c → Covers (parents layout) (number_of layout node) (number_of layout c)
      → f (number_of layout c) ≡ as_left (number_of layout c)
  left-there c on cover =
      let place = number-place layout c on in
      let k : ℕ = number_of layout c in
      let same : f k ≡ after seat.tree (listed seat.first) left.0 k = left.4 k place.0 (subst (λ (ps : List ℕ). k < length ps) (sym of) place.1)
      (subst (λ (ps : List ℕ). Covers ps (number_of layout node) k) (sym of) cover) in
      subst (λ (ps : List ℕ). f k ≡ after ps (listed seat.first) left.0 k) of same

  -- and of what it doesn't cover nothing is granted
  left-or-nothing : IsNode layout node → HasExactly kind_in layout node f → AreOrNothing layout f as_left
  left-or-nothing there exact c on =
      let k : ℕ = number_of layout c in
      ⊎_elim
      (λ (e : covers (parents layout) (number_of layout node) k ≡ true).
      inr (left-there c on (covers-true (parents layout) (number_of layout node) k e)))
      (λ (e : covers (parents layout) (number_of layout node) k ≡ false).
      inl (exact.no_other k (λ d under same.
      let cover = cover-under layout as_left left.1.hands (length left.0) left-good node d there under in
      let here = true-covers (parents layout) (number_of layout node) k
      (subst (λ (n : ℕ). Covers (parents layout) (number_of layout node) n) (sym same) cover) in
      cc)))
      (cases_bool (covers (parents layout) (number_of layout node) k))
    where
      cases_bool : (b : Bool) → (b ≡ true) ⊎ (b ≡ false)
      cases_bool true = inl refl
      cases_bool false = inr refl

pub grants-once : GrantsHaveEachBlockOnce
grants-once layout seat node f hand of there exact left own v on n =
    let less = less-times layout f (as_left layout seat of node f left) (left-or-nothing layout seat of node f left there exact) v n on in
    let once = left-once layout (as_left layout seat of node f left) left.1.hands (length left.0) (left-good layout seat of node f left) v on n in
    let total_n = nat_lt n ((contents_of layout (as_left layout seat of node f left) v).logical.dead.range_blocks
    * ranges_used (contents_of layout (as_left layout seat of node f left) v).ranges) in
    let most = at-most-one total_n in
    let mine = same-weight (entries_of seat) hand left.1.hand own left.1.own_hand (times_in_hand v n) in
    let all = left.1.together (times_in_hand v n) in
    omega (arith, less, once, most, mine, all)

pub whole-grants : WholeGrantsHaveAllBlocks
whole-grants layout seat f hands of left are v on n =
    let g : ServiceParcels = as_left layout seat of Serial f left in
    let good = left-good layout seat of Serial f left in
    let same = same-contents layout f g (λ c node. left-there layout seat of Serial f left c node
    (cover-under layout g left.1.hands (length left.0) good Serial c tt (under-serial layout c node))) v on in
    let once = left-once layout g left.1.hands (length left.0) good v on n in
    let weight = same-weight left.0 hands left.1.hands are left.1.all_hands (times_in_hand v n) in
    let left_so : times_in n (contents_of layout g v) + total (times_in_hand v n) hands
    ≡ one_if (nat_lt n ((contents_of layout g v).logical.dead.range_blocks * ranges_used (contents_of layout g v).ranges)) = omega (arith, once, weight) in
    subst (λ (p : VolumeContents). times_in n p + total (times_in_hand v n) hands
    ≡ one_if (nat_lt n (p.logical.dead.range_blocks * ranges_used p.ranges))) (sym same) left_so

pub closed-depots : ClosedDepotsHaveAllBlocks
closed-depots layout seat f hands of closed are v on n =
    let g : ServiceParcels = after (parents layout) (listed seat.first) seat.seen in
    let good : IsFiler (parents layout) g closed.2.0 (length seat.seen) =
    subst (λ (ps : List ℕ). IsFiler ps (after ps (listed seat.first) seat.seen) closed.2.0 (length seat.seen)) of closed.2.2 in
    let left : (k : ℕ) → 0 < k → k < length (parents layout) → f k ≡ g k =
    subst (λ (ps : List ℕ). (k : ℕ) → 0 < k → k < length ps → f k ≡ after ps (listed seat.first) seat.seen k) of closed.4 in
    let same = same-contents layout f g (λ c node. let place = number-place layout c node in left (number_of layout c) place.0 place.1) v on in
    let once = left-once layout g closed.2.0 (length seat.seen) good v on n in
    let weight = same-weight (entries_of seat) hands closed.2.0 are closed.2.1 (times_in_hand v n) in
    let left_so : times_in n (contents_of layout g v) + total (times_in_hand v n) hands
    ≡ one_if (nat_lt n ((contents_of layout g v).logical.dead.range_blocks * ranges_used (contents_of layout g v).ranges)) = omega (arith, once, weight) in
    subst (λ (p : VolumeContents). times_in n p + total (times_in_hand v n) hands
    ≡ one_if (nat_lt n (p.logical.dead.range_blocks * ranges_used p.ranges))) (sym same) left_so
