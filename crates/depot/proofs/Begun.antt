-- A call that begins: what is there to be gathered, and what is known once it is.
use Rattle.std.proofs.Common.{◌≡◌, ◌≢◌, ℕ, ◌<◌, ◌≤◌, List, [], ◌∷◌, ◌++◌, length, set, slice_index_or, refl, sym, ap, ◌∙◌, subst, arith}
use Rattle.std.proofs.Common.{append_assoc, ⊎_elim, Option, Some, None}
use mathlib.Core.Option.{some}
use mathlib.Core.Logic.{dite}
use native.Mathlib.Decide.{ℕ_discrete}
use lib.ListN.{get_elem?}
use Rattle.atomic_table.proofs.Lists.{at_set, set_here, at_longer}
use Rattle.nfs_model.specs.Tree.{Layout, Affinity}
use Rattle.affinity.specs.declared.affinity.Kind.{Kind}
use Rattle.affinity.specs.Affinity.{kind_of}
use Rattle.affinity.specs.Fault.{fault_of}
use Rattle.affinity.specs.Tree.{IsNode}
use Rattle.affinity.specs.Under.{IsUnder}
use Rattle.affinity.specs.Numbers.{number_of, node_count, parents}
use Rattle.affinity.specs.lemmas.Smaller.{length-parents}
use Rattle.parcels.specs.Exact.{HasExactly}
use Rattle.parcels.specs.Moved as moving
use Rattle.depot_rule.specs.declared.view.View.{View}
use Rattle.depot_rule.specs.declared.view.Read.{Read}
use Rattle.affinity.specs.Ancestors.{tally, IsTree, ancestors, Covers}
use Rattle.depot_rule.specs.Shares.{worn, Has, made, grant_shares}
use Rattle.depot_rule.specs.Seats.{OnOne, view_of}
use Rattle.depot_rule.specs.Plays.{IsOnly, Counts}
use Rattle.depot_rule.proofs.Grants.{at-length}
use Rattle.depot_rule.proofs.Places.{one-view, of-one}
use Rattle.depot_rule.specs.lemmas.Trees.{cover-excludes, above-smaller}
use Rattle.depot.specs.Calls.{IsAmong, IsRead, Refuses, IsExcluded, IsGranted, WasRefused, own_views, known}
use Rattle.depot.specs.Holds.{untaken, Handled, IsGathered, IsApart}
use Rattle.depot.proofs.Apart.{more-apart}
use Rattle.depot.specs.Grants.{IsSeatOf, ListsAs, IsBegun, IsBusy, IsWorn}
use Rattle.depot.proofs.Moves.{among-later, placed-one}
use Rattle.depot.proofs.Holding.{is-untaken}
use Rattle.affinity.specs.lemmas.Standing.{parents-tree, number-place, under-place, covers-under, under-covers}

-- what a taking took was there, and isn't any more
moved-some : {T : Type 0} (before taken after : Option T) (p : T) → taken ≡ Some p → moving.Moved before taken after → (before ≡ Some p) × (after ≡ None)
moved-some before taken after p e m = subst (λ (t : Option _). moving.Moved before t after) e m

pub some-parents : (layout : Layout) → 0 < length (parents layout)
some-parents layout = omega arith

-- what refused a claim is a node
pub refuses-node : (layout : Layout) (a : Affinity) (ps : List ℕ) (b node found : ℕ) → fault_of layout ≡ None → IsNode layout a → ps ≡ parents layout
    → b ≡ number_of layout a → Refuses ps b node found → (0 < node) × (node ≤ node_count layout)
refuses-node layout a ps b node found lawful m parent number r =
    let size = length-parents layout in
    let place = number-place layout a m in let pos = place.0 in let lt = place.1 in
    let t : IsTree ps = subst IsTree (sym parent) (parents-tree layout lawful) in ⊎_elim
    (λ (h : (0 < tally node (ancestors ps b)) × (4294967296 ≤ found)). let s = above-smaller ps t node b h.0 in let s0 = s.0 in let s1 = s.1
    in (let p : 0 < node = omega arith in p, let q : node ≤ node_count layout = omega arith in q))
    (λ (h : (node ≡ b) × (found ≢ 0)). let e = h.0 in (let p : 0 < node = omega arith in p, let q : node ≤ node_count layout = omega arith in q))
    r

module _ {P E : Type 0} where
  -- what a look at the ticket says of the view before it and the views after it
  abbrev pub HasLookedAt : View P E → ℕ → List (View P E) → Type 0
  HasLookedAt v found ws = (found < worn → ws ≡ record v { looked = 1; reads = record { word = 0; value = found; shares = 0 } ∷ v.reads } ∷ [])
      × (worn ≤ found → ws ≡ record v { reads = record { word = 0; value = found; shares = 0 } ∷ v.reads } ∷ [])
      × (IsOnly v → Counts v found)

  -- the ticket was looked at
  pub looked-at : (Z : Type 0) (views : List (List (View P E))) (vs ws : List (View P E)) (found : ℕ) → views ≡ vs ∷ [] → length (own_views views) ≡ 1
      → OnOne (λ v. Z × (found < worn → ws ≡ record v { looked = 1; reads = record { word = 0; value = found; shares = 0 } ∷ v.reads } ∷ [])
      × (worn ≤ found → ws ≡ record v { reads = record { word = 0; value = found; shares = 0 } ∷ v.reads } ∷ []) × (IsOnly v → Counts v found)) vs
      → HasLookedAt (known views) found ws
  looked-at Z views vs ws found is one did =
      let q = of-one _ vs (view_of vs) (one-view vs (placed-one is one)) did in
      subst (λ (v : View P E). HasLookedAt v found ws) (sym (ap known is)) (q.1, q.2, q.3)

  -- and found at 2^62 or more
  pub worn-so : (v : View P E) (found : ℕ) (views : List (List (View P E))) (ws : List (View P E)) → views ≡ ws ∷ [] → worn ≤ found
      → ws ≡ record v { reads = record { word = 0; value = found; shares = 0 } ∷ v.reads } ∷ [] → (IsOnly v → Counts v found)
      → IsWorn v (known views)
  worn-so v found views ws is high looked own = (
    record { word = 0; value = found; shares = 0 } ∷ [],
    ap known is ∙ ap view_of looked,
    (found, high, (0, refl)),
    λ only. let count = own only in let made_so = count.0 in let seen_so = count.1 in
        (let enough : worn ≤ made v = omega arith in enough, let enough : worn ≤ length v.seen = omega arith in enough),
  )

  -- a seat whose tree and first parcels are as before is of the same depot
  pub seat-still : (kind : P → Kind) (layout : Layout) (v w : View P E) → w.tree ≡ v.tree → w.first ≡ v.first → IsSeatOf kind layout v → IsSeatOf kind layout w
  seat-still kind layout v w tree first h =
      (tree ∙ h.0, λ node parcel m at. h.1 node parcel m (ap (λ (f : List (Option P)). slice_index_or f (number_of layout node) None) (sym first) ∙ at))

  -- a grant of b, of which Q holds, after a read
  abbrev pub GrantedAfter : (P → Kind) → View P E → ℕ → (View P E → List (Option P) → Type 0) → Read → List (View P E) → Type 0
  GrantedAfter kind v b Q r ws = (q : (g : List (Option P)) × (more : List Read) × IsGranted kind v b g more ws × Q v g) × (IsExcluded v b → ⊥) × IsAmong r q.1

  -- b was refused, after a read
  abbrev pub RefusedAfter : View P E → List ℕ → ℕ → ℕ → ℕ → Read → List (View P E) → Type 0
  RefusedAfter v ps b node found r ws = (more : List Read) × (ws ≡ record v { looked = 1; reads = more ++ v.reads } ∷ [])
      × IsRead v node found more × Refuses ps b node found × IsAmong r more × (IsOnly v → IsExcluded v b)

  -- the view has entered nothing but for its grants, and has nothing out and nothing stamped, as before
  abbrev pub IsAsIdle : View P E → View P E → Type 0
  IsAsIdle v w = (w.unsure ≡ v.unsure) × (w.out ≡ v.out) × (w.path ≡ v.path) × (w.stamped ≡ v.stamped) × (w.parts ≡ v.parts) × (w.tree ≡ v.tree)
      × (w.first ≡ v.first)

  pub idle-as : (v w : View P E) → IsAsIdle v w → (v.unsure ≡ 0) × (v.out ≡ 0) × (length v.path ≡ 0) × (v.stamped ≡ 0)
      → (w.unsure ≡ 0) × (w.out ≡ 0) × (length w.path ≡ 0) × (w.stamped ≡ 0)
  idle-as v w still idle = (still.0 ∙ idle.0, still.1 ∙ idle.1, ap length still.2 ∙ idle.2, still.3 ∙ idle.3)

  -- what is known of the seat once its grant's parcels are gathered
  pub record HasBegun (v : View P E) (b : ℕ) (f : ℕ → Option P) (g : List (Option P)) (views : List (List (View P E))) : Type 0 where
    pub now : View P E
    pub full : views ≡ (now ∷ []) ∷ []
    pub idle : IsAsIdle v now
    pub begun : IsBegun v b f (known views)
    pub lists : ListsAs v b g f
    pub gathered : IsGathered now
    pub apart : IsApart now

  -- a claim after a look
  pub granted-after : (kind : P → Kind) (v : View P E) (b : ℕ) (Q : View P E → List (Option P) → Type 0) → ((rs : List Read) (g : List (Option P))
      → Q (record v { looked = 1; reads = rs }) g → Q v g)
      → (r : Read) (vs ws : List (View P E)) → vs ≡ record v { looked = 1; reads = r ∷ v.reads } ∷ []
      → ((g : List (Option P)) × (more : List Read) × IsGranted kind (view_of vs) b g more ws × Q (view_of vs) g) × (IsExcluded (view_of vs) b → ⊥)
      → GrantedAfter kind v b Q r ws
  granted-after kind v b Q still r vs ws is q =
      let t = subst (λ us. ((g : List (Option P)) × (more : List Read) × IsGranted kind (view_of us) b g more ws × Q (view_of us) g)
      × (IsExcluded (view_of us) b → ⊥)) is q in
      let g = t.0.0 in let more = t.0.1 in let i = t.0.2 in (
        (
          g,
          more ++ r ∷ [],
          (
            i.0 ∙ ap (λ (rs : List Read). let z : View P E = record v { looked = 0; held = set v.held b (Some g); reads = rs } in z ∷ [])
                (sym (append_assoc more (r ∷ []) v.reads)),
            i.1,
            i.2,
            i.3,
          ),
          still (r ∷ v.reads) g t.0.3,
        ),
        t.1,
        among-later r more (r ∷ []) (0, refl),
      )

  module _ (kind : P → Kind) (layout : Layout) (lawful : fault_of layout ≡ None) (a : Affinity) (m : IsNode layout a) (v : View P E)
      (seat : IsSeatOf kind layout v) (b : ℕ) (number : b ≡ number_of layout a)
      (g : List (Option P)) (more : List Read) (vs : List (View P E)) (granted : IsGranted kind v b g more vs) where
    abbrev with : View P E
    with = record v { looked = 0; held = set v.held b (Some g); reads = more ++ v.reads }

    -- the parcel of each node under the call's is there to be taken
    found-there : (c : Affinity) → IsUnder layout a c → (p : P) × (untaken with b (number_of layout c) ≡ Some p)
        × (slice_index_or g (number_of layout c) None ≡ Some p) × (kind p ≡ kind_of c)
    found-there c under =
        let k : ℕ = number_of layout c in
        let place = under-place layout a c under in
        let lt : k < length v.tree = subst (λ (ps : List ℕ). k < length ps) (sym seat.0) place.1 in
        let cover : Covers v.tree b k = subst (λ (x : List ℕ × ℕ). Covers x.0 x.1 k) (λ i. (sym seat.0 i, sym number i))
        (covers-under layout lawful a c m under) in
        let parcel = granted.1 k place.0 lt cover in
        let home = granted.2 k place.0 cover in
        let has : Has with b g = set_here v.held b (Some g) (at-length v.held b None granted.3) in
        let same = seat.1 c parcel.2.0 under.0 parcel.2.1 in
        (parcel.0, is-untaken with b k g parcel.0 place.0 lt cover (omega arith) has parcel.1, parcel.1, parcel.2.2 ∙ same)

    pub all-there : (c : Affinity) → IsUnder layout a c → (p : P) × (untaken (view_of vs) b (number_of layout c) ≡ Some p) × (kind p ≡ kind_of c)
    all-there c under = let f = found-there c under in (f.0, ap (λ xs. untaken (view_of xs) b (number_of layout c)) granted.0 ∙ f.1, f.3)

    module _ (f : ℕ → Option P) (exact : HasExactly kind layout a f) (b' : ℕ) (same_node : b' ≡ b) (ws : List (View P E)) (moved : (k : ℕ)
        → moving.Moved (untaken (view_of vs) b k) (f k) (untaken (view_of ws) b' k)) (handled : Handled b vs ws) where
      -- the shelf was the grant's
      abbrev by_hand : Handled b (with ∷ []) ws
      by_hand = subst (λ us. Handled b us ws) granted.0 handled

      abbrev begun_view : View P E
      begun_view = record v { looked = 0; held = set v.held b (Some g); gone = by_hand.0; reads = (by_hand.1 ++ more) ++ v.reads }

      begun-is : ws ≡ begun_view ∷ []
      begun-is = by_hand.2 ∙ ap (λ (rs : List Read). let z : View P E = record v {
        looked = 0;
        held = set v.held b (Some g);
        gone = by_hand.0;
        reads = rs;
      } in z ∷ []) (sym (append_assoc by_hand.1 more v.reads))

      -- at each node that b covers the grant lists what was taken, and nothing is there any more
      taken-at : (k : ℕ) → 0 < k → k < length v.tree → Covers v.tree b k → (p : P) × (slice_index_or g k None ≡ Some p) × (f k ≡ Some p)
          × (untaken begun_view b k ≡ None)
      taken-at k pos lt cover =
          let u = under-covers layout lawful a k m pos (subst (λ (ps : List ℕ). k < length ps) seat.0 lt)
          (subst (λ (x : List ℕ × ℕ). Covers x.0 x.1 k) (λ i. (seat.0 i, number i)) cover) in
          let there = found-there u.0 u.1 in
          let was : untaken (view_of vs) b k ≡ Some there.0 = ap (λ xs. untaken (view_of xs) b k) granted.0 ∙ (ap (untaken with b) (sym u.2) ∙ there.1) in
          let each = exact.each u.0 u.1 in
          let mv = moved-some (untaken (view_of vs) b k) (f k) (untaken (view_of ws) b' k) each.0 (ap f (sym u.2) ∙ each.1) (moved k) in
          let both : Some each.0 ≡ Some there.0 = sym mv.0 ∙ was in (
            there.0,
            ap (λ n. slice_index_or g n None) (sym u.2) ∙ there.2,
            (ap f (sym u.2) ∙ each.1) ∙ both,
            ap (λ us. untaken (view_of us) b k) (sym begun-is) ∙ (ap (λ n. untaken (view_of ws) n k) (sym same_node) ∙ mv.1),
          )

      -- the grant lists what was taken
      begun-lists : ListsAs v b g f
      begun-lists k pos lt cover = let t = taken-at k pos lt cover in t.1 ∙ sym t.2

      begun-so : (IsExcluded v b → ⊥) → (found : ℕ) → found < worn → (IsOnly v → Counts v found)
          → IsAmong (record { word = 0; value = found; shares = 0 }) more → (views : List (List (View P E))) → views ≡ ws ∷ [] → IsBegun v b f (known views)
      begun-so apart found low own looked views is = (
        g,
        by_hand.0,
        by_hand.1 ++ more,
        ap known is ∙ ap view_of begun-is,
        begun-lists,
        granted.3,
        apart,
        (found, (low, own), among-later (record { word = 0; value = found; shares = 0 }) by_hand.1 more looked),
      )

      begun-gathered : (IsExcluded v b → ⊥) → IsGathered v → IsGathered begun_view
      begun-gathered apart before c k h has pos lt cover =
          ⊎_elim
          (λ (t : (c ≡ b) × (Some g ≡ Some h)).
          let here : Covers v.tree b k = subst (λ (n : ℕ). Covers v.tree n k) t.0 cover in
          let at = taken-at k pos lt here in
          dite (ℕ_discrete (tally k by_hand.0) 0)
          (λ z. let there = is-untaken begun_view b k g at.0 pos lt here z (set_here v.held b (Some g) (at-length v.held b None granted.3)) at.1
          in absurd (let bad : None ≡ Some at.0 = sym at.3 ∙ there in cc))
          (λ nz. let some_gone : 0 < tally k by_hand.0 = omega arith in some_gone))
          (λ (t : (c ≢ b) × (get_elem? v.held c ≡ some (Some h))).
          let old = before c k h t.1 pos lt cover in
          let tree : IsTree v.tree = subst IsTree (sym seat.0) (parents-tree layout lawful) in
          let same = by_hand.3 k (λ both. apart (c, h, t.1, cover-excludes v.tree tree b c k both cover)) in
          let some_gone : 0 < tally k by_hand.0 = omega arith in some_gone)
          (at_set v.held b c (Some g) (Some h) has)

      pub begun-all : (IsExcluded v b → ⊥) → (found : ℕ) → found < worn → (IsOnly v → Counts v found)
          → IsAmong (record { word = 0; value = found; shares = 0 }) more
          → IsGathered v → IsApart v → (views : List (List (View P E))) → views ≡ ws ∷ [] → HasBegun v b f g views
      begun-all apart found low own looked before apart_before views is = record {
        now = begun_view;
        full = is ∙ ap (λ us. us ∷ []) begun-is;
        idle = (refl, refl, refl, refl, refl, refl, refl);
        begun = begun-so apart found low own looked views is;
        lists = begun-lists;
        gathered = begun-gathered apart before;
        apart = more-apart v.tree v.held b g (λ c h has ex. apart (c, h, has, ex)) apart_before;
      }

  -- a claim that was refused after a look: nothing but reads was added
  pub refused-after : (v : View P E) (ps : List ℕ) (b node found : ℕ) (r : Read) (vs ws : List (View P E)) → v.path ≡ []
      → vs ≡ record v { looked = 1; reads = r ∷ v.reads } ∷ [] → WasRefused ps (view_of vs) b node found ws
      → RefusedAfter v ps b node found r ws
  refused-after v ps b node found r vs ws none is q =
      let t = subst (λ us. WasRefused ps (view_of us) b node found ws) is q in (
        t.0 ++ r ∷ [],
        t.1 ∙ ap (λ (x : List ℕ × List Read). let z : View P E = record v { looked = 1; path = x.0; reads = x.1 } in z ∷ [])
            (λ i. (sym none i, sym (append_assoc t.0 (r ∷ []) v.reads) i)),
        (t.2.0, at_longer t.0 (r ∷ []) t.2.0 (record { word = node; value = found; shares = grant_shares node v }) t.2.1),
        t.3,
        among-later r t.0 (r ∷ []) (0, refl),
        t.4,
      )

  pub busy-so : (layout : Layout) (v : View P E) (ps : List ℕ) (b node found k c : ℕ) (ws : List (View P E)) (views : List (List (View P E)))
      (ticket : ℕ) → ticket < worn → (IsOnly v → Counts v ticket) → ps ≡ parents layout → b ≡ k → c ≡ node → views ≡ ws ∷ []
      → RefusedAfter v ps b node found (record { word = 0; value = ticket; shares = 0 }) ws
      → IsBusy (parents layout) v k c found (known views)
  busy-so layout v ps b node found k c ws views ticket low own parent number at is q =
      subst (λ (x : List ℕ × ℕ × ℕ). IsBusy x.0 v x.1 x.2 found (known views)) (λ i. (parent i, number i, sym at i))
      (q.0, ap known is ∙ ap view_of q.1, q.2, q.3, (ticket, (low, own), q.4), q.5)
