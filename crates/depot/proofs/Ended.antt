-- A call that ends: what may be given home, what it stamps, and what its seat has afterwards.
use Rattle.std.proofs.Common.{◌≡◌, ◌≢◌, ℕ, zero, suc, ◌+◌, ◌<◌, true, false, List, [], ◌∷◌, ◌++◌, length, set, slice_index_or, sym, refl}
use Rattle.std.proofs.Common.{ap, ◌∙◌, subst, arith, append_assoc, ⊎_elim, Option, Some, None, IfSome}
use Rattle.std.proofs.lemmas.Bool.{cases_Bool}
use mathlib.Core.Option.{some}
use native.Mathlib.Decide.{dec_lt}
use lib.ListN.{get_elem?}
use Rattle.atomic_table.proofs.Lists.{at_set, set_here}
use Rattle.nfs_model.specs.Tree.{Layout, Affinity}
use Rattle.affinity.specs.declared.affinity.Kind.{Kind}
use Rattle.affinity.specs.Fault.{fault_of}
use Rattle.affinity.specs.Tree.{IsNode}
use Rattle.affinity.specs.Under.{IsUnder}
use Rattle.affinity.specs.Numbers.{number_of, node_count, parents}
use Rattle.affinity.specs.lemmas.Smaller.{length-parents}
use Rattle.parcels.specs.Exact.{Under, HasExactly}
use Rattle.depot_rule.specs.declared.view.View.{View}
use Rattle.depot_rule.specs.declared.view.Read.{Read}
use Rattle.affinity.specs.Ancestors.{tally, IsTree, Covers, Excludes}
use Rattle.depot_rule.specs.Shares.{Has}
use Rattle.depot_rule.specs.declared.view.Entry.{Entry}
use Rattle.depot_rule.specs.History.{Behaviour, by_number, covers}
use Rattle.depot_rule.specs.Seats.{view_of}
use Rattle.depot_rule.proofs.Places.{one-view}
use Rattle.depot_rule.proofs.Grants.{at-length}
use Rattle.depot_rule.specs.lemmas.Trees.{cover-excludes}
use Rattle.depot.specs.Calls.{known}
use Rattle.depot.proofs.Moves.{no-path}
use Rattle.depot.specs.Holds.{Lists, IsGathered}
use Rattle.depot.specs.Grants.{entry_of, IsSeatOf, HasWith, IsStep, HasInHand, IsStamped, IsEnded, IsFinished}
use Rattle.depot_rule.specs.lemmas.Covering.{covers-true, true-covers}
use Rattle.depot_rule.specs.lemmas.Listed.{by-number-at}
use Rattle.affinity.specs.lemmas.Standing.{under-place, covers-under, under-covers}

some-same : {T : Type 0} (x y : T) → Some x ≡ Some y → x ≡ y
some-same x y e = cc

all-some : {T : Type 0} (y : Option T) (Q : T → Type 0) → ((p : T) → y ≡ Some p → Q p) → IfSome y Q
all-some None Q h = tt
all-some (Some p) Q h = h p refl

pub set-again : {T : Type 0} (xs : List T) (i : ℕ) (x y : T) → set (set xs i x) i y ≡ set xs i y
set-again [] i x y = refl
set-again (z ∷ zs) zero x y = refl
set-again (z ∷ zs) (suc i) x y = ap (λ l. z ∷ l) (set-again zs i x y)

module _ {P E : Type 0} where
  -- ---- what may be given home

  module _ (layout : Layout) (lawful : fault_of layout ≡ None) (a : Affinity) (m : IsNode layout a) (v : View P E) (tree : v.tree ≡ parents layout)
      (b : ℕ) (number : b ≡ number_of layout a)
      (f : ℕ → Option P) (listed : HasWith v b f) where
    covered : (c : Affinity) → IsUnder layout a c → Covers v.tree b (number_of layout c)
    covered c under = subst (λ (x : List ℕ × ℕ). Covers x.0 x.1 (number_of layout c)) (λ i. (sym tree i, sym number i)) (covers-under layout lawful a c m under)

    -- what has a number that has no other parcel than those under the node is a number that its own covers
    within-covers : (k : ℕ) → (Under layout a (λ c. k ≢ number_of layout c) → ⊥) → (0 < k) × (k < length v.tree) × Covers v.tree b k
    within-covers k some_under = (
      elim (dec_lt 0 k) [ yes l ↦ l | no n ↦ absurd (some_under (λ c under e. n (subst (λ (x : ℕ). 0 < x) (sym e) (under-place layout a c under).0))) ],
      elim (dec_lt k (length v.tree)) [
        | yes l ↦ l
        | no n ↦ absurd (some_under (λ c under e. n (subst (λ (x : ℕ × List ℕ). x.0 < length x.1) (λ i. (sym e i, sym tree i))
            (under-place layout a c under).1)))
      ],
      ⊎_elim
          (λ (t : covers v.tree b k ≡ true). covers-true v.tree b k t)
          (λ (t : covers v.tree b k ≡ false). absurd (some_under (λ c under e.
          let is : covers v.tree b k ≡ true = true-covers v.tree b k (subst (λ (x : ℕ). Covers v.tree b x) (sym e) (covered c under)) in
          let bad : false ≡ true = sym t ∙ is in let no_way : ⊥ = cc in no_way)))
          (cases_Bool (covers v.tree b k)),
    )

    pub given-allowed : ((k : ℕ) → Under layout a (λ c. k ≢ number_of layout c) → f k ≡ None) → (k : ℕ) → IfSome (f k) (Lists v b k)
    given-allowed within k = all-some (f k) (Lists v b k) (λ p e.
        let t = within-covers k (λ outside. let bad : None ≡ Some p = sym (within k outside) ∙ e in let no_way : ⊥ = cc in no_way) in
        (t.0, t.1, t.2, (listed.0, listed.1, listed.2 k t.0 t.1 t.2 ∙ e)))

  -- ---- what a seat has afterwards

  pub ended-gathered : (v w : View P E) (b : ℕ) → IsTree v.tree → IsGathered v → IsEnded v b w
      → ((c : ℕ) (h : List (Option P)) → Has v c h → Excludes v.tree b c → c ≡ b)
      → ((k : ℕ) → (Covers v.tree b k → ⊥) → tally k w.gone ≡ tally k v.gone) → IsGathered w
  ended-gathered v w b tree before ended apart others =
      let u : View P E = record v { stamped = 0; held = set v.held b None; gone = ended.0; reads = ended.1 ++ v.reads } in
      let same : (k : ℕ) → (Covers v.tree b k → ⊥) → tally k ended.0 ≡ tally k v.gone = λ k out. ap (λ (x : View P E). tally k x.gone) (sym ended.2)
      ∙ others k out in
      let all : IsGathered u = (λ c k h has pos lt cover. ⊎_elim
      (λ (t : (c ≡ b) × (None ≡ Some h)). absurd (let bad : None ≡ Some h = t.1 in let no_way : ⊥ = cc in no_way))
      (λ (t : (c ≢ b) × (get_elem? v.held c ≡ some (Some h))).
      let old = before c k h t.1 pos lt cover in
      let still = same k (λ both. t.0 (apart c h t.1 (cover-excludes v.tree tree b c k both cover))) in
      (let some_gone : 0 < tally k ended.0 = omega arith in some_gone))
      (at_set v.held b c None (Some h) has)) in
      subst IsGathered (sym ended.2) all

  pub stamped-gathered : (v : View P E) (b : ℕ) (g left : List (Option P)) (rs : List Read) (seen : List E) (mine : List ℕ) → IsGathered v
      → Has v b g → IsGathered (record v { stamped = b; held = set v.held b (Some left); reads = rs; seen = seen; mine = mine })
  stamped-gathered v b g left rs seen mine before has c k h now pos lt cover = ⊎_elim
      (λ (t : (c ≡ b) × (Some left ≡ Some h)). before b k g has pos lt (subst (λ (n : ℕ). Covers v.tree n k) t.0 cover))
      (λ (t : (c ≢ b) × (get_elem? v.held c ≡ some (Some h))). before c k h t.1 pos lt cover)
      (at_set v.held b c (Some left) (Some h) now)

  pub put-gathered : (views : List (List (View P E))) (vs us : List (View P E)) (b : ℕ) → views ≡ vs ∷ [] → IsTree (known views).tree
      → IsGathered (known views) → IsEnded (view_of vs) b (view_of us)
      → ((c : ℕ) (h : List (Option P)) → Has (view_of vs) c h → Excludes (view_of vs).tree b c → c ≡ b)
      → ((k : ℕ) → (Covers (view_of vs).tree b k → ⊥) → tally k (view_of us).gone ≡ tally k (view_of vs).gone) → IsGathered (view_of us)
  put-gathered views vs us b is tree before ended apart others =
      ended-gathered (view_of vs) (view_of us) b (subst (λ l. IsTree (known l).tree) is tree) (subst (λ l. IsGathered (known l)) is before) ended apart others

  -- the views of a seat whose grant was ended
  pub ended-views : (v : View P E) (b : ℕ) (us : List (View P E)) (views : List (List (View P E))) → views ≡ us ∷ [] → length us ≡ 1
      → (e : IsEnded v b (view_of us))
      → views ≡ (record v { stamped = 0; held = set v.held b None; gone = e.0; reads = e.1 ++ v.reads } ∷ []) ∷ []
  ended-views v b us views is one e = is ∙ ap (λ (x : List (View P E)). x ∷ []) (one-view us one ∙ ap (λ (w : View P E). w ∷ []) e.2)

  -- ---- the stamp

  module _ (kind : P → Kind) (layout : Layout) (lawful : fault_of layout ≡ None) (a : Affinity) (m : IsNode layout a) (v : View P E)
      (seat : IsSeatOf kind layout v)
      (f : ℕ → Option P) (exact : HasExactly kind layout a f) where
    abbrev left : List (Option P)
    left = by_number f (1 + node_count layout)

    pub left-at : (k : ℕ) → k < length (parents layout) → slice_index_or left k None ≡ f k
    left-at k lt = let size = length-parents layout in by-number-at f (1 + node_count layout) k (omega arith)

    -- it leaves a parcel of the node's kind at each node that the call's covers
    pub stamp-fits : (ps : List ℕ) → ps ≡ parents layout → (k : ℕ) → 0 < k → k < length ps → Covers ps (number_of layout a) k
        → (p : P) × (slice_index_or left k None ≡ Some p) × ((q : P) → slice_index_or v.first k None ≡ Some q → kind p ≡ kind q)
    stamp-fits ps is k pos lt cover =
        let low : k < length (parents layout) = subst (λ (t : List ℕ). k < length t) is lt in
        let u = under-covers layout lawful a k m pos low (subst (λ (t : List ℕ). Covers t (number_of layout a) k) is cover) in
        let each = exact.each u.0 u.1 in (
          each.0,
          left-at k low ∙ (ap f (sym u.2) ∙ each.1),
          (λ q at. each.2 ∙ sym (seat.1 u.0 q u.1.0 (ap (λ n. slice_index_or v.first n None) u.2 ∙ at))),
        )

    stamped-listed : (g : List (Option P)) → Has v (number_of layout a) g → (rs : List Read) (seen : List E) (mine : List ℕ)
        → HasWith (record v {
          stamped = number_of layout a;
          held = set v.held (number_of layout a) (Some left);
          reads = rs;
          seen = seen;
          mine = mine;
        }) (number_of layout a) f
    stamped-listed g has rs seen mine = (
      left,
      set_here v.held (number_of layout a) (Some left) (at-length v.held (number_of layout a) (Some g) has),
      (λ k pos lt cover. left-at k (subst (λ (t : List ℕ). k < length t) seat.0 lt)),
    )

module _ {P C R B : Type 0} (m : Behaviour P C R B) where
  -- the grant was stamped, and then ended
  finished-so : (v : View P (Entry P C R)) (e : Entry P C R) (ticket : ℕ) (vs : List (View P (Entry P C R))) (w : View P (Entry P C R))
      → IsStamped m v e ticket vs → IsEnded (view_of vs) e.node w → IsFinished m v e.node e w
  finished-so v e ticket vs w stamped ended =
      let r : Read = record { word = 0; value = ticket; shares = 0 } in
      let t = subst (λ us. IsEnded (view_of us) e.node w) stamped.1 ended in (
        t.0,
        t.1 ++ r ∷ [],
        stamped.0,
        t.2 ∙ ap (λ (x : List (Option (List (Option P))) × List Read).
            let z : View P (Entry P C R) = record v {
              stamped = 0;
              held = x.0;
              gone = t.0;
              reads = x.1;
              seen = (v.seen ++ stamped.0) ++ e ∷ [];
              mine = v.mine ++ length (v.seen ++ stamped.0) ∷ [];
            } in z)
            (λ i. (set-again v.held e.node (Some e.left) None i, sym (append_assoc t.1 (r ∷ []) v.reads) i)),
        stamped.2,
      )

  pub finished-known : (views : List (List (View P (Entry P C R)))) (vs ws us : List (View P (Entry P C R)))
      (news : List (List (View P (Entry P C R)))) (e : Entry P C R) (ticket : ℕ) → views ≡ vs ∷ [] → news ≡ us ∷ []
      → IsStamped m (view_of vs) e ticket ws → IsEnded (view_of ws) e.node (view_of us) → IsFinished m (known views) e.node e (known news)
  finished-known views vs ws us news e ticket is now stamped ended =
      subst (λ l. IsFinished m (known l) e.node e (known news)) (sym is) (subst (λ l. IsFinished m (view_of vs) e.node e (known l)) (sym now)
      (finished-so (view_of vs) e ticket ws (view_of us) stamped ended))

  pub finished-views : (v : View P (Entry P C R)) (b : ℕ) (e : Entry P C R) (us : List (View P (Entry P C R)))
      (views : List (List (View P (Entry P C R)))) → views ≡ us ∷ [] → length us ≡ 1 → (d : IsFinished m v b e (known views))
      → views ≡ (record v {
        stamped = 0;
        held = set v.held b None;
        gone = d.0;
        reads = d.1 ++ v.reads;
        seen = (v.seen ++ d.2) ++ e ∷ [];
        mine = v.mine ++ length (v.seen ++ d.2) ∷ [];
      } ∷ []) ∷ []
  finished-views v b e us views is one d = is ∙ ap (λ (x : List (View P (Entry P C R))). x ∷ []) (one-view us one
      ∙ ap (λ (w : View P (Entry P C R)). w ∷ []) (sym (ap known is) ∙ d.3))

  -- the step of a call, as its stamp asks for it: the entry lists what the call left
  pub stamp-step : (layout : Layout) (a : Affinity) (v : View P (Entry P C R)) (call : C) (reply : R) (f : ℕ → Option P)
      (item : Option (Entry P C R)) → v.tree ≡ parents layout → item ≡ Some (entry_of layout a f call reply)
      → IsStep m v (number_of layout a) call reply f
      → (e : Entry P C R) → item ≡ Some e → (f' : ℕ → Option P) × IsStep m v e.node e.call e.reply f'
      × ((k : ℕ) → 0 < k → k < length v.tree → Covers v.tree e.node k → f' k ≡ slice_index_or e.left k None)
  stamp-step layout a v call reply f item tree said step e is =
      let same : entry_of layout a f call reply ≡ e = some-same (entry_of layout a f call reply) e (sym said ∙ is) in
      let size = length-parents layout in let many : length v.tree ≡ length (parents layout) = ap (λ (l : List ℕ). length l) tree in
      subst (λ (d : Entry P C R). (f' : ℕ → Option P) × IsStep m v d.node d.call d.reply f'
      × ((k : ℕ) → 0 < k → k < length v.tree → Covers v.tree d.node k → f' k ≡ slice_index_or d.left k None)) same
      (f, step, λ k pos lt cover. sym (by-number-at f (1 + node_count layout) k (omega arith)))

  pub stamp-hand : (layout : Layout) (a : Affinity) (v : View P (Entry P C R)) (call : C) (reply : R) (f : ℕ → Option P)
      (item : Option (Entry P C R)) → item ≡ Some (entry_of layout a f call reply)
      → HasInHand m v call reply → (e : Entry P C R) → item ≡ Some e → HasInHand m v e.call e.reply
  stamp-hand layout a v call reply f item said hand e is =
      subst (λ (d : Entry P C R). HasInHand m v d.call d.reply) (some-same (entry_of layout a f call reply) e (sym said ∙ is)) hand

-- ---- what the goals of a call that ends share

module _ {P E : Type 0} where
  -- a seat that has a grant of b, with the parcels f, and its views while the call runs
  pub record HasOpen (kind : P → Kind) (layout : Layout) (b : ℕ) (f : ℕ → Option P) (views : List (List (View P E))) (vs : List (View P E)) : Type 0 where
    pub is : views ≡ vs ∷ []
    pub listed : HasWith (view_of vs) b f
    pub still : IsSeatOf kind layout (view_of vs)
    pub gathered : IsGathered (view_of vs)
    pub out : (view_of vs).out ≡ 0
    pub path : (view_of vs).path ≡ []

  pub open-so : (kind : P → Kind) (layout : Layout) (b : ℕ) (f : ℕ → Option P) (views : List (List (View P E))) (vs : List (View P E)) → views ≡ vs ∷ []
      → HasWith (known views) b f → IsSeatOf kind layout (known views) → IsGathered (known views) → (known views).out ≡ 0
      → length (known views).path ≡ 0 → HasOpen kind layout b f views vs
  open-so kind layout b f views vs is listed still gathered out path = record {
    is = is;
    listed = subst (λ l. HasWith (known l) b f) is listed;
    still = subst (λ l. IsSeatOf kind layout (known l)) is still;
    gathered = subst (λ l. IsGathered (known l)) is gathered;
    out = sym (ap (λ l. (known l).out) is) ∙ out;
    path = no-path is path;
  }

  -- all that the grant covers is out with the seat
  pub open-taken : (kind : P → Kind) (layout : Layout) (b : ℕ) (f : ℕ → Option P) (views : List (List (View P E))) (vs : List (View P E))
      → HasOpen kind layout b f views vs
      → (k : ℕ) → 0 < k → k < length (view_of vs).tree → Covers (view_of vs).tree b k → 0 < tally k (view_of vs).gone
  open-taken kind layout b f views vs o k pos lt cover = o.gathered b k o.listed.0 o.listed.1 pos lt cover

  -- the views once the entry is stamped
  pub record HasStamped (kind : P → Kind) (layout : Layout) (b : ℕ) (f : ℕ → Option P) (ws : List (View P E)) : Type 0 where
    pub one : length ws ≡ 1
    pub out : (view_of ws).out ≡ 0
    pub path : (view_of ws).path ≡ []
    pub tree : (view_of ws).tree ≡ parents layout
    pub listed : HasWith (view_of ws) b f
    pub gathered : IsGathered (view_of ws)

module _ {P C R B : Type 0} (m : Behaviour P C R B) where
  pub has-stamped : (kind : P → Kind) (layout : Layout) (lawful : fault_of layout ≡ None) (a : Affinity) → IsNode layout a
      → (before f : ℕ → Option P) → HasExactly kind layout a f
      → (call : C) (reply : R) (views : List (List (View P (Entry P C R)))) (vs ws : List (View P (Entry P C R)))
      → HasOpen kind layout (number_of layout a) before views vs
      → (ticket : ℕ) → IsStamped m (view_of vs) (entry_of layout a f call reply) ticket ws → HasStamped kind layout (number_of layout a) f ws
  has-stamped kind layout lawful a node before f exact call reply views vs ws o ticket stamped =
      let v = view_of vs in
      let n : ℕ = number_of layout a in
      let e = entry_of layout a f call reply in
      let rs : List Read = record { word = 0; value = ticket; shares = 0 } ∷ v.reads in
      let seen = (v.seen ++ stamped.0) ++ e ∷ [] in let mine = v.mine ++ length (v.seen ++ stamped.0) ∷ [] in
      record {
        one = ap length stamped.1;
        out = ap (λ us. (view_of us).out) stamped.1 ∙ o.out;
        path = ap (λ us. (view_of us).path) stamped.1 ∙ o.path;
        tree = ap (λ us. (view_of us).tree) stamped.1 ∙ o.still.0;
        listed = subst (λ us. HasWith (view_of us) n f) (sym stamped.1)
            (stamped-listed kind layout lawful a node v o.still f exact o.listed.0 o.listed.1 rs seen mine);
        gathered = subst (λ us. IsGathered (view_of us)) (sym stamped.1)
            (stamped-gathered v n o.listed.0 (by_number f (1 + node_count layout)) rs seen mine o.gathered o.listed.1);
      }
