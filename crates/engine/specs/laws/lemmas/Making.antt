-- An inner call is made on a desk: it begins, runs on what was lent, and is finished or put back.
use Rattle.std.proofs.Common.{◌≡◌, ◌≢◌, ℕ, zero, suc, ◌<◌, List, [], ◌∷◌, ◌++◌, Some, None, refl, sym, ap, ◌∙◌}
use Rattle.std.proofs.Common.{subst, arith}
use Rattle.std.specs.Prelude.{slice_set}
use mathlib.Core.Option.{some, some-injective}
use lib.ListN.{get_elem?}
use Rattle.atomic_table.proofs.Lists.{set_here, set_else, set_again}
use Rattle.nfs_model.specs.Tree.{Layout}
use Rattle.nfs_model.specs.Parts.{Hand}
use Rattle.nfs_laws.specs.Sizes.{HaveSizes}
use Rattle.affinity.specs.Fault.{fault_of}
use Rattle.affinity.specs.Tree.{IsNode}
use Rattle.affinity.specs.Ancestors.{Covers}
use Rattle.affinity.specs.Numbers.{number_of, parents}
use Rattle.affinity.specs.lemmas.Alike.{alike}
use Rattle.affinity.specs.lemmas.Standing.{parents-tree, number-excludes}
use Rattle.depot_rule.specs.Shares.{too_many}
use Rattle.depot_rule.specs.Sums.{total}
use Rattle.depot_rule.specs.lemmas.Sums.{total-append}
use Rattle.depot_rule.specs.History.{patched}
use Rattle.depot_rule.specs.lemmas.Trees.{cover-excludes}
use Rattle.depot.specs.Grants.{entry_of}
use Rattle.desk.specs.laws.Books.{Lent, settled, now, stamps, HasLent, IsIdle, UnderLent, HasHands, IsSettled}
use Rattle.desk.specs.laws.Calls.{DoesTask, with_lent, HasBegun, HasWorked, MayFinish, HasFinished, MayPutBack, HasPutBack}
use Rattle.desk.specs.laws.lemmas.Overlays.{overlaid-here}
use Rattle.desk.specs.laws.lemmas.Seats.{at-length}
use Rattle.desk.specs.laws.lemmas.Beside.{lent-here, begun-fresh, still-fresh, work-lent, work-done}
use Rattle.filer_state.specs.state.Parcels.{FilerParcel}
use Rattle.filer_state.specs.state.Contents.{filer_contents}
use Rattle.filer_state.specs.state.Sound.{AreSound, AllSound}
use Rattle.filer_state.specs.state.Jobs.{InnerCall, Inner, Job, JobReply, takes, gives, batches_in, inner_node}
use Rattle.filer_state.specs.state.Deeds.{FilerSteps}
use Rattle.filer_state.specs.state.Running.{HasSizedFiler}
use Rattle.filer_state.specs.state.Tree.{tree}
use Rattle.filer_state.specs.laws.lemmas.Alike.{filer-same}
use Rattle.filer_state.specs.laws.lemmas.Lawful.{steps-local}
use Rattle.filer_state.specs.laws.lemmas.Steps.{sound-by-weight}
use Rattle.engine.specs.laws.Store.{FilerBooks, filer, IsApart}
use Rattle.engine.specs.laws.Inner.{IsFree, HasMade}
use Rattle.engine.specs.laws.lemmas.Served.{covered-node}

-- ---- a place that is set

set-twice : {X : Type 0} (xs : List X) (i : ℕ) (x y : X) → slice_set (slice_set xs i x) i y ≡ slice_set xs i y
set-twice [] i x y = refl
set-twice (z ∷ xs) zero x y = refl
set-twice (z ∷ xs) (suc i) x y = ap (λ zs. z ∷ zs) (set-twice xs i x y)

set-back : {X : Type 0} (xs : List X) (i : ℕ) (x y : X) → get_elem? xs i ≡ some y → slice_set (slice_set xs i x) i y ≡ xs
set-back xs i x y at = set-twice xs i x y ∙ set_again xs i y at

none-some : {X : Type 0} (x : X) → None ≡ Some x → ⊥
none-some x e = absurd cc

-- ---- what is lent is apart

module _ {P C R : Type 0} (b : FilerBooks P C R) (lawful : fault_of b.layout ≡ None) where
  -- no two that are lent reach one node
  apart-once : IsApart b → (i j : ℕ) (l m : Lent (FilerParcel P)) → HasLent b i l → HasLent b j m → j ≢ i
      → (k : ℕ) → Covers (parents b.layout) (number_of b.layout l.affinity) k → Covers (parents b.layout) (number_of b.layout m.affinity) k → ⊥
  apart-once apart i j l m at there ne k c d =
      let free = apart.apart i j l m at there (λ e. ne (sym e)) in
      let taken = number-excludes b.layout lawful l.affinity m.affinity (apart.node i l at) (apart.node j m there)
      (cover-excludes (parents b.layout) (parents-tree b.layout lawful) (number_of b.layout l.affinity) (number_of b.layout m.affinity) k c d) in
      let no : ⊥ = absurd cc in no

  -- all is sound with these hands
  pub settled-sound : (job : C → Job) (told : R → JobReply) (hands : List Hand) → HasHands (filer job told) b hands → IsSettled (filer job told) b
      → AllSound b.layout (settled b) hands (stamps b)
  settled-sound job told hands are sound =
      let good = sound.2 in
      let same : AllSound b.layout (settled b) sound.0 (stamps b) =
      subst (λ c. AreSound c sound.0 (stamps b)) (filer-same good.0 b.layout (alike good.0 b.layout good.1.1) (settled b)) good.2 in
      sound-by-weight (filer_contents b.layout (settled b)) sound.0 hands (stamps b)
      (λ weigh. let one = sound.1 weigh in let other = are weigh in omega (arith, one, other)) same

-- ---- it begins

module _ {P C R : Type 0} (job : C → Job) (told : R → JobReply) (b : FilerBooks P C R) (lawful : fault_of b.layout ≡ None) (call : InnerCall)
    (node : IsNode b.layout (inner_node call)) (i : ℕ) (idle : IsIdle b i) (c : FilerBooks P C R) (begins : HasBegun b i (inner_node call) c)
    (apart : IsApart c) where
  abbrev L : Layout
  L = b.layout

  abbrev ps : List ℕ
  ps = parents L

  abbrev here : ℕ
  here = number_of L (inner_node call)

  abbrev l : Lent (FilerParcel P)
  l = record { affinity = inner_node call; parcels = begins.parcels }

  abbrev first_books : FilerBooks P C R
  first_books = with_lent b i (Some l)

  pub lent : HasLent c i l
  lent = lent-here b i (Some l) c begins.books None idle

  lent-first : HasLent first_books i l
  lent-first = set_here b.lent i (Some l) (at-length b.lent i None idle)

  -- what was lent is as the finished calls left it
  pub granted : (k : ℕ) → Covers ps here k → begins.parcels k ≡ settled b k
  granted k cover = let p = covered-node L lawful (inner_node call) node k cover in begins.unchanged k p.0 p.1 cover

  pub is-free : IsFree b call
  is-free = record {
    free = begins.free;
    low = begins.low;
    same = λ k cover.
        let alone = apart-once first_books lawful (subst (λ (x : FilerBooks P C R). IsApart x) begins.books apart) i in
        sym (begins.same k) ∙ ap (λ (x : FilerBooks P C R). now x k) begins.books
        ∙ overlaid-here L first_books.lent i l (settled b) k lent-first cover (λ j m at ne d. alone j l m lent-first at ne k cover d)
        ∙ granted k cover;
  }

  -- what is lent is some sound filer's, whose sizes are the layout's, where what is in the hand is one of all hands
  pub some-filer : (hand : Hand) (others : List Hand) → HasHands (filer job told) b (batches_in hand ++ others) → IsSettled (filer job told) b
      → stamps b < too_many → HaveSizes b.layout (tree b.layout (settled b))
      → HasSizedFiler c.layout (inner_node call) (batches_in hand) begins.parcels
  some-filer hand others carried sound few sized =
      subst (λ (x : FilerBooks P C R). HasSizedFiler x.layout (inner_node call) (batches_in hand) begins.parcels) (sym begins.books) (
        (
          settled b,
          batches_in hand ++ others,
          others,
          stamps b,
          (λ k cover. sym (granted k cover)),
          few,
          (λ weigh. let joined = total-append weigh (batches_in hand) others in omega (arith, joined)),
          settled-sound b lawful job told (batches_in hand ++ others) carried sound,
        ),
        sized,
      )

  -- ---- it runs

  module _ {O : Type 0} (does : DoesTask (FilerParcel P) O) (o : O) (d : FilerBooks P C R) (works : HasWorked does c i o d) where
    pub ran-on : works.lent ≡ l
    ran-on = let e = some-injective (Some works.lent) (Some l) (sym works.is_lent ∙ lent) in cc

    -- what its worker has then
    abbrev left : Lent (FilerParcel P)
    left = record { affinity = inner_node call; parcels = works.parcels }

    left-is : record { affinity = works.lent.affinity; parcels = works.parcels } ≡ left
    left-is = ap (λ (x : Lent (FilerParcel P)). record { affinity = x.affinity; parcels = works.parcels }) ran-on

    abbrev next_books : FilerBooks P C R
    next_books = with_lent b i (Some left)

    next-is : d ≡ next_books
    next-is = works.books ∙ ap (λ (x : Lent (FilerParcel P)). with_lent c i (Some x)) left-is
        ∙ ap (λ (x : FilerBooks P C R). with_lent x i (Some left)) begins.books
        ∙ ap (λ xs. record b { lent = xs }) (set-twice b.lent i (Some l) (Some left))

    -- ---- it did nothing

    -- it may be put back
    pub may-put-back : ((k : ℕ) → works.parcels k ≡ works.lent.parcels k) → MayPutBack d i
    may-put-back equal = still-fresh c i does o d (begun-fresh b i (inner_node call) c idle begins) works equal

    -- and then all is as it was
    pub put-back : (e : FilerBooks P C R) → HasPutBack d i e → e ≡ b
    put-back e back = back.books ∙ ap (λ (x : FilerBooks P C R). with_lent x i None) next-is
        ∙ ap (λ xs. record b { lent = xs }) (set-back b.lent i (Some left) None idle)

    -- ---- it is done

    module _ (entry : C) (reply : R) (is_entry : job entry ≡ Inner call)
        (did : FilerSteps (parents c.layout) (number_of c.layout works.lent.affinity) (Inner call) works.lent.parcels (told reply) works.parcels)
        (hand : Hand) (gave : gives (Inner call) (told reply) ≡ batches_in hand) where
      -- it may be finished
      pub may-finish : (others : List Hand) → HasHands (filer job told) b (batches_in hand ++ others) → MayFinish (filer job told) d i entry reply
      may-finish others carried = record {
        lent = record { affinity = works.lent.affinity; parcels = works.parcels };
        is_lent = work-lent c i does o d (begun-fresh b i (inner_node call) c idle begins) works;
        worked = work-done c i does o d (begun-fresh b i (inner_node call) c idle begins) works (filer job told) entry reply
            (subst (λ x. FilerSteps (parents c.layout) (number_of c.layout works.lent.affinity) x works.lent.parcels (told reply) works.parcels)
            (sym is_entry) did);
        hands = batches_in hand ++ others;
        next = takes (Inner call) (told reply) ++ others;
        are_hands = subst (λ (x : FilerBooks P C R). HasHands (filer job told) x (batches_in hand ++ others)) (sym next-is) carried;
        moves = λ weigh.
            let before = total-append weigh (batches_in hand) others in
            let after = total-append weigh (takes (Inner call) (told reply)) others in
            let from : total weigh (gives (job entry) (told reply)) ≡ total weigh (batches_in hand) =
            ap (λ x. total weigh (gives x (told reply))) is_entry ∙ ap (λ hs. total weigh hs) gave in
            let to : total weigh (takes (job entry) (told reply)) ≡ total weigh (takes (Inner call) (told reply)) =
            ap (λ x. total weigh (takes x (told reply))) is_entry in
            omega (arith, before, after, from, to);
      }

      -- and then it is made
      pub made : (e : FilerBooks P C R) → HasFinished (filer job told) d i entry reply e → HasMade job told b call hand reply e
      made e done =
          let finished : done.lent ≡ left =
          (let same = some-injective (Some done.lent) (Some left)
          (sym done.is_lent ∙ ap (λ (x : FilerBooks P C R). get_elem? x.lent i) next-is ∙ set_here b.lent i (Some left) (at-length b.lent i None idle)) in
          cc) in record {
            free = is-free;
            parcels = works.parcels;
            did = λ f agrees. (steps-local ps here (Inner call) begins.parcels f (told reply) works.parcels
                (subst (λ (x : Lent (FilerParcel P)). FilerSteps ps (number_of L x.affinity) (Inner call) x.parcels (told reply) works.parcels) ran-on
                (subst (λ (x : FilerBooks P C R). FilerSteps (parents x.layout) (number_of x.layout works.lent.affinity) (Inner call) works.lent.parcels
                (told reply) works.parcels) begins.books did))).1 (λ k cover. agrees k cover ∙ sym (granted k cover));
            gave = gave;
            entry = entry;
            is_entry = is_entry;
            books = done.books
                ∙ ap (λ (x : Lent (FilerParcel P)). record (with_lent d i None) {
                  entries = d.entries ++ entry_of d.layout x.affinity x.parcels entry reply ∷ [];
                }) finished
                ∙ ap (λ (x : FilerBooks P C R). record (with_lent x i None) {
                  entries = x.entries ++ entry_of x.layout (inner_node call) works.parcels entry reply ∷ [];
                }) next-is
                ∙ ap (λ xs. record b { lent = xs; entries = b.entries ++ entry_of L (inner_node call) works.parcels entry reply ∷ [] })
                (set-back b.lent i (Some left) None idle);
            now_is = λ k. done.same k ∙ works.now_is k
                ∙ ap (λ (x : Lent (FilerParcel P)). patched (parents c.layout) (number_of c.layout x.affinity) works.parcels (now c) k) ran-on
                ∙ ap (λ (x : FilerBooks P C R). patched (parents x.layout) (number_of x.layout (inner_node call)) works.parcels (now c) k) begins.books
                ∙ ap (λ f. patched ps here works.parcels f k) (λ j n. begins.same n j);
            others = λ j m at.
                let other : j ≢ i = λ same.
                (let both : some None ≡ some (Some m) = sym idle ∙ ap (λ n. get_elem? b.lent n) (sym same) ∙ at in
                none-some m (some-injective None (Some m) both)) in
                subst (λ (x : FilerBooks P C R). HasLent x j m → UnderLent x m (λ k. settled e k ≡ settled x k)) next-is
                (λ there. done.others j m there other) (set_else b.lent i j (Some left) other ∙ at);
            keeps = done.keeps;
          }
