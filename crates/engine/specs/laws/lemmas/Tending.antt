-- An inner call that was made: the books stand for the world after it, and it did what the model says.
use Rattle.std.proofs.Common.{◌≡◌, ℕ, zero, suc, ◌+◌, ◌*◌, ◌/◌, ◌<◌, ◌≤◌, false, List, [], ◌∷◌, ◌++◌, length, Option, Some, None}
use Rattle.std.proofs.Common.{refl, sym, ap, ◌∙◌, subst, arith}
use Rattle.std.proofs.Math.Nat.{mul_comm, mul-div_cancel}
use Rattle.std.proofs.lemmas.Bool.Decides.{nat_tests}
use Rattle.std.specs.Prelude.{slice_get, slice_set, option_map, nat_lt}
use Rattle.std.proofs.lemmas.List.{length-append, append-nil}
use Rattle.std.proofs.lemmas.Option.{slice_get-map}
use Rattle.nfs_model.specs.Tree.{Layout, range_blocks_of}
use Rattle.nfs_model.specs.Server.{Server}
use Rattle.nfs_model.specs.Parts.{Hand, Empty}
use Rattle.nfs_model.specs.World.{Setup, World, Worker, changed_at, with_hand}
use Rattle.nfs_model.specs.Events.Refusals.{excluded, is_range_in_use}
use Rattle.affinity.specs.Fault.{fault_of}
use Rattle.affinity.specs.Tree.{IsNode}
use Rattle.affinity.specs.Ancestors.{Covers}
use Rattle.affinity.specs.Numbers.{number_of, parents}
use Rattle.depot_rule.specs.declared.view.Entry.{Entry}
use Rattle.depot_rule.specs.Sums.{total}
use Rattle.depot_rule.specs.lemmas.Sums.{total-append}
use Rattle.depot_rule.specs.History.{patched, put_in, Legal}
use Rattle.depot_rule.specs.lemmas.Histories.{after-snoc, legal-snoc, moved-snoc}
use Rattle.depot.specs.Grants.{entry_of}
use Rattle.desk.specs.laws.Books.{Lent, settled, now, stamps, HasHands}
use Rattle.filer_state.specs.state.Parcels.{FilerParcel}
use Rattle.filer_state.specs.state.Contents.{VolumeContents, volume_at, contents_of, filer_contents}
use Rattle.filer_state.specs.state.Tree.{tree, server_of, volume_of, ranges_used}
use Rattle.filer_state.specs.state.Partition.{all_parts, parts_of}
use Rattle.filer_state.specs.state.Sound.{AllSound}
use Rattle.filer_state.specs.state.Opening.{AreOpening}
use Rattle.filer_state.specs.state.Jobs.{InnerCall, Fetch, Deliver, Cull, Free, Survey, Inner, Job, JobReply, Took, Gave, Surveyed, Replied}
use Rattle.filer_state.specs.state.Jobs.{takes, gives, batches_in, inner_node, inner_volume, InnerMoves}
use Rattle.filer_state.specs.state.Deeds.{DoesInner, FilerSteps}
use Rattle.filer_state.specs.state.Running.{IsRefusedIn, IsRefusedOn}
use Rattle.filer_state.specs.laws.lemmas.Each.{each-get}
use Rattle.filer_state.specs.laws.lemmas.Lawful.{entry-does}
use Rattle.filer_state.specs.laws.lemmas.LayoutSizes.{contents-sized}
use Rattle.filer_state.specs.laws.lemmas.Sizes.{size-some}
use Rattle.engine.specs.laws.Store.{FilerBooks, filer, RunOn, IsApart, StandsFor, batches_carried, calls_served, with_served}
use Rattle.engine.specs.laws.Inner.{IsFree, HasMade, HasMoved, hand_after}
use Rattle.engine.specs.laws.lemmas.Agreeing.{sound-settled, now-served}
use Rattle.engine.specs.laws.lemmas.Beginning.{told-free}
use Rattle.engine.specs.laws.lemmas.Changing.{all-kept}
use Rattle.engine.specs.laws.lemmas.Finishing.{left-is}
use Rattle.engine.specs.laws.lemmas.Recorded.{served-snoc}
use Rattle.engine.specs.laws.lemmas.Sized.{now-sized}

-- ---- what workers carry

-- what is carried, weighed, where a worker carries another thing
carried-changed : (weigh : Hand → ℕ) (ks : List Worker) (i : ℕ) (k : Worker) (hand : Hand) → slice_get ks i ≡ Some k
    → total weigh (batches_carried (changed_at (with_hand hand) ks i)) + total weigh (batches_in k.hand)
    ≡ total weigh (batches_carried ks) + total weigh (batches_in hand)
carried-changed weigh [] i k hand there = absurd (none-some k there)
  where
    none-some : (k : Worker) → None ≡ Some k → ⊥
    none-some k e = absurd cc
carried-changed weigh (j ∷ ks) zero k hand there =
    let left = total-append weigh (batches_in hand) (batches_carried ks) in
    let right = total-append weigh (batches_in j.hand) (batches_carried ks) in
    let same : total weigh (batches_in j.hand) ≡ total weigh (batches_in k.hand) = ap (λ (x : Worker). total weigh (batches_in x.hand)) (inner j k there) in
    omega (arith, left, right, same)
  where
    inner : (j k : Worker) → Some j ≡ Some k → j ≡ k
    inner j k e = cc
carried-changed weigh (j ∷ ks) (suc i) k hand there =
    let left = total-append weigh (batches_in j.hand) (batches_carried (changed_at (with_hand hand) ks i)) in
    let right = total-append weigh (batches_in j.hand) (batches_carried ks) in
    let others = carried-changed weigh ks i k hand there in
    omega (arith, left, right, others)

-- one of all that is carried
carried-one : (ks : List Worker) (i : ℕ) (k : Worker) → slice_get ks i ≡ Some k
    → (others : List Hand) × ((weigh : Hand → ℕ) → total weigh (batches_in k.hand ++ others) ≡ total weigh (batches_carried ks))
carried-one ks i k there = (
  batches_carried (changed_at (with_hand Empty) ks i),
  λ weigh.
      let joined = total-append weigh (batches_in k.hand) (batches_carried (changed_at (with_hand Empty) ks i)) in
      let changed = carried-changed weigh ks i k Empty there in
      omega (arith, joined, changed),
)

module _ {P C R : Type 0} (setup : Setup) (b : FilerBooks P C R) where
  -- what workers run stays
  runs-still : (ks : List Worker) (ls : List (Option (Lent (FilerParcel P)))) (i : ℕ) (hand : Hand) → RunOn setup b ks ls
      → RunOn setup b (changed_at (with_hand hand) ks i) ls
  runs-still [] ls i hand run = run
  runs-still (k ∷ ks) [] i hand run = absurd run
  runs-still (k ∷ ks) (x ∷ ls) zero hand run = run
  runs-still (k ∷ ks) (x ∷ ls) (suc i) hand run = (run.0, runs-still ks ls i hand run.1)

-- the hand after a call has what the call took
after-takes : (call : InnerCall) (reply : JobReply) → batches_in (hand_after reply) ≡ takes (Inner call) reply
after-takes call (Took hand) = refl
after-takes call (Gave hand) = refl
after-takes call (Surveyed counts) = refl
after-takes call (Replied reply) = refl

-- a volume's ranges by its total
ranges-of-total : (size n : ℕ) → 0 < size → size * n / size ≡ n
ranges-of-total size n some = ap (λ (m : ℕ). m / size) (mul_comm size n) ∙ mul-div_cancel n some

-- ---- it was made

module _ {P C R : Type 0} (job : C → Job) (told : R → JobReply) (setup : Setup) (w : World) (b : FilerBooks P C R) (s : StandsFor job told setup w b)
    (i : ℕ) (k : Worker) (there : slice_get w.workers i ≡ Some k) (call : InnerCall) (node : IsNode b.layout (inner_node call)) where
  abbrev L : Layout
  L = b.layout

  abbrev ps : List ℕ
  ps = parents L

  abbrev here : ℕ
  here = number_of L (inner_node call)

  abbrev v : ℕ
  v = inner_volume call

  -- a worker's hand is one of all hands
  pub one-carried : (others : List Hand) × HasHands (filer job told) b (batches_in k.hand ++ others)
  one-carried =
      let one = carried-one w.workers i k there in
      (one.0, λ weigh. let joined = one.1 weigh in let hands = s.hands weigh in omega (arith, joined, hands))

  module _ (reply : R) (c : FilerBooks P C R) (made : HasMade job told b call k.hand reply c) (apart : IsApart c) where
    abbrev put : (ℕ → Option (FilerParcel P)) → ℕ → Option (FilerParcel P)
    put f = patched ps here made.parcels f

    abbrev hand : Hand
    hand = hand_after (told reply)

    abbrev ks : List Worker
    ks = changed_at (with_hand hand) w.workers i

    abbrev Did : (ℕ → Option (FilerParcel P)) → Type 0
    Did f = DoesInner (inner_node call) call (filer_contents L f) (told reply) (filer_contents L (put f))

    hands-move : (weigh : Hand → ℕ)
        → total weigh (gives (Inner call) (told reply)) + total weigh (batches_carried ks)
        ≡ total weigh (takes (Inner call) (told reply)) + total weigh (batches_carried w.workers)
    hands-move weigh =
        let changed = carried-changed weigh w.workers i k hand there in
        let gave : total weigh (gives (Inner call) (told reply)) ≡ total weigh (batches_in k.hand) = ap (λ hs. total weigh hs) made.gave in
        let took : total weigh (batches_in hand) ≡ total weigh (takes (Inner call) (told reply)) =
        ap (λ hs. total weigh hs) (after-takes call (told reply)) in
        omega (arith, changed, gave, took)

    -- it did its deed on whatever agrees with what the finished calls left
    does-there : (f : ℕ → Option (FilerParcel P)) → ((n : ℕ) → Covers ps here n → f n ≡ settled b n) → (n : ℕ)
        → AllSound L f (batches_carried w.workers) n → Did f
    does-there f agrees n sound =
        (entry-does L s.lawful (inner_node call) node (Inner call) (told reply) f (put f) (batches_carried w.workers) (batches_carried ks) n
        (made.did f agrees) sound hands-move).0

    pub did-now : Did (now b)
    did-now = does-there (now b) made.free.same (now-served job told setup w b s).0.0 (now-served job told setup w b s).0.1

    did-settled : Did (settled b)
    did-settled = does-there (settled b) (λ n cover. refl) (stamps b) (sound-settled job told setup w b s)

    -- ---- what the model says

    -- the world after it
    abbrev pub next : World
    next = record w {
      workers = ks;
      parts = slice_set w.parts v (parts_of did-now.after);
      stamps = w.stamps + 1;
    }

    -- the blocks of a range of its volume are as many as the layout says
    abbrev own_size : ℕ
    own_size = did-now.before.logical.dead.range_blocks

    sized-here : own_size ≡ range_blocks_of L v
    sized-here = contents-sized L (filer_contents L (now b)) (now-sized job told setup w b s) v did-now.before did-now.volume_before

    some-here : 0 < own_size
    some-here = size-some own_size ((now-served job told setup w b s).0.1 v did-now.before did-now.volume_before).1.well_formed.size

    pub has-moved : HasMoved L w i call (told reply) next
    has-moved = record {
      mover = k;
      at = there;
      gave = made.gave;
      volume = volume_of did-now.before;
      there = ap (λ (x : Server). slice_get x.volumes v) s.server ∙ slice_get-map volume_of (filer_contents L (now b)).volumes v
          ∙ ap (λ o. option_map volume_of o) did-now.volume_before;
      before = parts_of did-now.before;
      parts = ap (λ xs. slice_get xs v) s.parts ∙ slice_get-map parts_of (filer_contents L (now b)).volumes v
          ∙ ap (λ o. option_map parts_of o) did-now.volume_before;
      after = parts_of did-now.after;
      moves = subst (λ m. InnerMoves m call (own_size * ranges_used did-now.before.ranges / own_size) (parts_of did-now.before) (told reply)
          (parts_of did-now.after)) sized-here
          (subst (λ n. InnerMoves own_size call n (parts_of did-now.before) (told reply) (parts_of did-now.after))
          (sym (ranges-of-total own_size (ranges_used did-now.before.ranges) some-here)) did-now.moves);
      world = refl;
    }

    -- nothing excluded it
    pub none-excluded : excluded setup w (inner_node call) ≡ None
    none-excluded = told-free setup job told w b s (inner_node call) made.free.free made.free.low

    -- ---- what the books stand for then

    abbrev e : Entry (FilerParcel P) C R
    e = entry_of L (inner_node call) made.parcels made.entry reply

    abbrev es : List (Entry (FilerParcel P) C R)
    es = b.entries ++ e ∷ []

    abbrev new_books : FilerBooks P C R
    new_books = record b { entries = es }

    layout-is : c.layout ≡ L
    layout-is = ap (λ (x : FilerBooks P C R). x.layout) made.books

    now-is : now c ≡ put (now b)
    now-is = λ j n. made.now_is n j

    settled-is : settled new_books ≡ put (settled b)
    settled-is = after-snoc ps b.first b.entries e
        ∙ left-is L s.lawful (record { affinity = inner_node call; parcels = made.parcels }) node made.entry reply (settled b)

    contents-is : filer_contents c.layout (now c) ≡ filer_contents L (put (now b))
    contents-is = λ j. filer_contents (layout-is j) (now-is j)

    hands-are : HasHands (filer job told) new_books (batches_carried ks)
    hands-are weigh =
        let old = s.hands weigh in
        let taken = moved-snoc (λ call reply. takes (job call) (told reply)) weigh b.entries e in
        let given = moved-snoc (λ call reply. gives (job call) (told reply)) weigh b.entries e in
        let takes_are : total weigh (takes (job made.entry) (told reply)) ≡ total weigh (takes (Inner call) (told reply)) =
        ap (λ x. total weigh (takes x (told reply))) made.is_entry in
        let gives_are : total weigh (gives (job made.entry) (told reply)) ≡ total weigh (gives (Inner call) (told reply)) =
        ap (λ x. total weigh (gives x (told reply))) made.is_entry in
        let move = hands-move weigh in
        omega (arith, old, taken, given, takes_are, gives_are, move)

    -- the call is a step from what the calls before it left
    stepped : FilerSteps ps here (job made.entry) (settled b) (told reply) (put_in ps e (settled b))
    stepped =
        subst (λ (f' : ℕ → Option (FilerParcel P)). FilerSteps ps here (job made.entry) (settled b) (told reply) f')
        (sym (left-is L s.lawful (record { affinity = inner_node call; parcels = made.parcels }) node made.entry reply (settled b)))
        (subst (λ (x : Job). FilerSteps ps here x (settled b) (told reply) (put (settled b))) (sym made.is_entry) (made.did (settled b) (λ n cover. refl)))

    legal-is : Legal (filer job told).steps ps b.first es
    legal-is = legal-snoc (filer job told).steps ps b.first b.entries e s.legal stepped

    -- an inner call is no finished one
    calls-are : calls_served job es ≡ calls_served job b.entries
    calls-are = served-snoc job b.entries e ∙ ap (λ (x : Job). calls_served job b.entries ++ with_served x []) made.is_entry
        ∙ append-nil (calls_served job b.entries)

    pub made-stands : StandsFor job told setup next c
    made-stands = record {
      layout = layout-is ∙ s.layout;
      lawful = subst (λ (x : FilerBooks P C R). fault_of x.layout ≡ None) (sym made.books) s.lawful;
      lent = apart;
      server = s.server ∙ sym did-now.server ∙ sym (ap server_of contents-is);
      parts = ap (λ xs. slice_set xs v (parts_of did-now.after)) s.parts ∙ sym did-now.others ∙ sym (ap all_parts contents-is);
      finished = s.finished ∙ sym did-settled.server ∙ ap (λ f. tree L f) (sym settled-is)
          ∙ sym (ap (λ (x : FilerBooks P C R). tree x.layout (settled x)) made.books);
      stamps = ap (λ n. n + 1) s.stamps ∙ sym (length-append b.entries (e ∷ [])) ∙ sym (ap (λ (x : FilerBooks P C R). stamps x) made.books);
      workers = runs-still setup c w.workers c.lent i hand
          (subst (λ (x : FilerBooks P C R). RunOn setup x w.workers x.lent) (sym made.books)
          (all-kept setup b es b.lent w.workers b.lent
          (λ j l at n pos lt cover. ap (λ (x : FilerBooks P C R). settled x n) (sym made.books) ∙ made.others j l at n pos lt cover) s.workers));
      hands = subst (λ (x : FilerBooks P C R). HasHands (filer job told) x (batches_carried ks)) (sym made.books) hands-are;
      sound = made.keeps;
      opening = subst (λ (x : FilerBooks P C R). AreOpening x.layout setup.verifier x.first) (sym made.books) s.opening;
      legal = subst (λ (x : FilerBooks P C R). Legal (filer job told).steps (parents x.layout) x.first x.entries) (sym made.books) legal-is;
      calls = ap (λ (x : FilerBooks P C R). calls_served job x.entries) made.books ∙ calls-are ∙ s.calls;
    }

  -- ---- it is refused

  -- what is stored of its volume, as it is
  volume-there : (v : ℕ) → v < length L.volumes → slice_get w.server.volumes v ≡ Some (volume_of (contents_of L (now b) v))
  volume-there v less = ap (λ (x : Server). slice_get x.volumes v) s.server ∙ slice_get-map volume_of (filer_contents L (now b)).volumes v
      ∙ ap (λ o. option_map volume_of o) (each-get (contents_of L (now b)) (length L.volumes) v less)

  beyond : (size n r : ℕ) → 0 < size → n ≤ r → nat_lt r (size * n / size) ≡ false
  beyond size n r some most = ap (λ (m : ℕ). nat_lt r m) (ranges-of-total size n some) ∙ grind (arith, nat_tests, most)

  -- the range that it would fetch from isn't in use
  abbrev pub IsOutOfUse : InnerCall → Type 0
  IsOutOfUse (Fetch volume range) = is_range_in_use (slice_get w.server.volumes volume) range ≡ false
  IsOutOfUse other = ⊥

  pub out-of-use : IsFree b call → IsRefusedIn L (inner_node call) call (settled b) → (x : InnerCall) → x ≡ call → IsOutOfUse x
  out-of-use free refused x is = by x (subst (λ y. IsNode L (inner_node y)) (sym is) node)
      (subst (λ y. (p : VolumeContents) → volume_at (filer_contents L (now b)) (inner_volume y) ≡ Some p → IsRefusedOn y p) (sym is)
      (refused (now b) (batches_carried w.workers) (now-served job told setup w b s).0.0 free.same (now-served job told setup w b s).0.1))
    where
      at : (v : ℕ) → v < length L.volumes → volume_at (filer_contents L (now b)) v ≡ Some (contents_of L (now b) v)
      at v less = each-get (contents_of L (now b)) (length L.volumes) v less

      by : (x : InnerCall) → IsNode L (inner_node x) → ((p : VolumeContents) → volume_at (filer_contents L (now b)) (inner_volume x) ≡ Some p → IsRefusedOn x p)
          → IsOutOfUse x
      by (Fetch v r) is why = ap (λ o. is_range_in_use o r) (volume-there v is.0)
          ∙ beyond (contents_of L (now b) v).logical.dead.range_blocks (ranges_used (contents_of L (now b) v).ranges) r
          (size-some (contents_of L (now b) v).logical.dead.range_blocks
          ((now-served job told setup w b s).0.1 v (contents_of L (now b) v) (at v is.0)).1.well_formed.size)
          (why (contents_of L (now b) v) (at v is.0))
      by (Deliver v) is why = why (contents_of L (now b) v) (at v is)
      by (Cull v) is why = why (contents_of L (now b) v) (at v is)
      by (Free v r) is why = why (contents_of L (now b) v) (at v is.0)
      by (Survey v) is why = why (contents_of L (now b) v) (at v is)
