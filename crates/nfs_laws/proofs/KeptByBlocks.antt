-- Fetch, Cull, PutDown and Survey keep the headline: block numbers go between parts and hands.
use Rattle.std.proofs.Common.{◌≡◌, ℕ, zero, suc, ◌+◌, ◌≤◌, Bool, true, false, List, [], ◌∷◌, Some, refl, sym, ap, subst, ◌∙◌, arith, inl, inr}
use Rattle.std.specs.Prelude.{slice_get, slice_set, ◌==◌, nat_lt, if◌then◌else◌}
use Rattle.std.specs.List.{AllByRecursion}
use Rattle.std.specs.FinSet.{contains, len}
use Rattle.std.proofs.lemmas.Bool.{eq-eqb}
use Rattle.std.proofs.lemmas.Bool.Decides.{eqb_tells}
use Rattle.nfs_model.specs.Server.{VolumeState}
use Rattle.nfs_model.specs.World.{Setup, World, Running, Worker, all_running, affinities, hands_blocks, with_held, with_hand, changed_at}
use Rattle.nfs_model.specs.Parts.{Hand, Empty, Fresh, Dead, Parts, hand_blocks}
use Rattle.nfs_model.specs.Moves.{Carrying, batch, lowest_batch, fresh_hand, dead_hand, without_free, without_dead, with_stock, with_free, put_down, Fetches}
use Rattle.nfs_model.specs.Moves.{Culls, PutsDown}
use Rattle.nfs_model.specs.Events.Step.{stamp_added, Carries, carried, hand_volume}
use Rattle.nfs_model.specs.Headline.{Kept, messages, tally_finished, tally_messages, server_worked, IsOwnMessage, IsOutcome, IsTried, Apart}
use Rattle.nfs_model.specs.Parts.{IsPartition, one_if, times_listed, places}
use Rattle.nfs_laws.proofs.Lists.{Some_same, slice_get-changed_at, slice_get-changed_elsewhere}
use Rattle.nfs_laws.specs.lemmas.Counting.{times_listed-append, batch_within, lowest_within, batch_leaves, batch_comes}
use Rattle.nfs_model.specs.Agreed.{done}

-- ---- one hand among the others

same_running : (hand : Hand) (workers : List Worker) (i : ℕ) → all_running (changed_at (with_hand hand) workers i) ≡ all_running workers
same_running hand [] i = refl
same_running hand (x ∷ workers) zero = refl
same_running hand (x ∷ workers) (suc i) = ap (λ (rs : List Running). with_held x.running rs) (same_running hand workers i)

hands_replaced : (u n : ℕ) (hand : Hand) (workers : List Worker) (i : ℕ) (k : Worker) → slice_get workers i ≡ Some k
    → times_listed n (hands_blocks u (changed_at (with_hand hand) workers i)) + times_listed n (hand_blocks u k.hand) ≡ times_listed n
    (hands_blocks u workers) + times_listed n (hand_blocks u hand)
hands_replaced u n hand [] i k e = absurd cc
hands_replaced u n hand (x ∷ workers) zero k e =
    let one : times_listed n (hand_blocks u x.hand) ≡ times_listed n (hand_blocks u k.hand) = ap (λ (y : Worker). times_listed n (hand_blocks u y.hand))
    (Some_same x k e) in
    omega (
      arith,
      times_listed-append n (hand_blocks u hand) (hands_blocks u workers),
      times_listed-append n (hand_blocks u x.hand) (hands_blocks u workers),
      one,
    )
hands_replaced u n hand (x ∷ workers) (suc i) k e =
    omega (
      arith,
      hands_replaced u n hand workers i k e,
      times_listed-append n (hand_blocks u x.hand) (hands_blocks u (changed_at (with_hand hand) workers i)),
      times_listed-append n (hand_blocks u x.hand) (hands_blocks u workers),
    )

hand_among : (u n : ℕ) (workers : List Worker) (i : ℕ) (k : Worker) → slice_get workers i ≡ Some k
    → times_listed n (hand_blocks u k.hand) ≤ times_listed n (hands_blocks u workers)
hand_among u n workers i k e = omega (arith, hands_replaced u n Empty workers i k e)

-- ---- an inner call

-- a hand and the parts of a volume change, under one stamp
abbrev in_hand : World → ℕ → ℕ → Hand → (Parts → Parts) → World
in_hand w worker volume hand change = record (stamp_added w) {
  workers = changed_at (with_hand hand) w.workers worker;
  parts = changed_at change w.parts volume;
}

set_changed : {X : Type 0} (f : X → X) (xs : List X) (i : ℕ) (x : X) → slice_get xs i ≡ Some x → slice_set xs i (f x) ≡ changed_at f xs i
set_changed f [] i x e = refl
set_changed f (y ∷ xs) zero x e = ap (λ (z : _). f z ∷ xs) (sym (Some_same y x e))
set_changed f (y ∷ xs) (suc i) x e = ap (λ (zs : List _). y ∷ zs) (set_changed f xs i x e)

carried_is : (w : World) (i v : ℕ) (hand : Hand) (change : Parts → Parts) (p : Parts) → slice_get w.parts v ≡ Some p
    → carried w i v (record { parts = change p; hand = hand }) ≡ in_hand w i v hand change
carried_is w i v hand change p e =
    ap (λ (ps : List Parts). record (stamp_added w) { workers = changed_at (with_hand hand) w.workers i; parts = ps }) (set_changed change w.parts v p e)

-- what it has to keep: the files, and in how many places a number stands, with the worker's hand
record IsBalanced (w : World) (i v : ℕ) (k : Worker) (hand : Hand) (change : Parts → Parts) : Type 0 where
  files : (p : Parts) → (change p).files ≡ p.files
  here : (p : Parts) → slice_get w.parts v ≡ Some p → (n : ℕ) → places n p (hands_blocks v w.workers) ≤ 1
      → places n (change p) [] + times_listed n (hand_blocks v hand) ≡ places n p [] + times_listed n (hand_blocks v k.hand)
  elsewhere : (u n : ℕ) → (u == v) ≡ false → times_listed n (hand_blocks u hand) ≡ times_listed n (hand_blocks u k.hand)

one_if_most : (b : Bool) → one_if b ≤ 1
one_if_most true = omega arith
one_if_most false = omega arith

-- the parts of a volume, after it
parts_in_order : (setup : Setup) (w : World) (i v : ℕ) (k : Worker) (hand : Hand) (change : Parts → Parts) → slice_get w.workers i ≡ Some k
    → IsBalanced w i v k hand change → Kept setup w
    → (u : ℕ) (volume : VolumeState) → slice_get w.server.volumes u ≡ Some volume
    → (p : Parts) × (slice_get (changed_at change w.parts v) u ≡ Some p) × IsPartition volume p (hands_blocks u (changed_at (with_hand hand) w.workers i))
parts_in_order setup w i v k hand change there balanced h u volume e =
    let found = h.headline.partition u volume e in
    let p : Parts = found.0 in
    elim (eqb_tells u v) [
      | inl same ↦
          let at : slice_get w.parts v ≡ Some p = subst (λ (j : ℕ). slice_get w.parts j ≡ Some p) same.1 found.1 in (
            change p,
            subst (λ (j : ℕ). slice_get (changed_at change w.parts v) j ≡ Some (change p)) (sym same.1) (slice_get-changed_at change w.parts v p at),
            record {
              once = λ n.
                  let most : places n p (hands_blocks u w.workers) ≤ 1 = omega (arith, found.2.once n, one_if_most (nat_lt n volume.total)) in
                  let most_here : places n p (hands_blocks v w.workers) ≤ 1 = subst (λ (j : ℕ). places n p (hands_blocks j w.workers) ≤ 1) same.1 most in
                  let here : places n (change p) [] + times_listed n (hand_blocks u hand) ≡ places n p [] + times_listed n (hand_blocks u k.hand) =
                  subst (λ (j : ℕ). places n (change p) [] + times_listed n (hand_blocks j hand) ≡ places n p [] + times_listed n (hand_blocks j k.hand))
                  (sym same.1) (balanced.here p at n most_here) in
                  omega (arith, here, hands_replaced u n hand w.workers i k there) ∙ found.2.once n;
              in_files = ap (λ s. len s) (balanced.files p) ∙ found.2.in_files;
            },
          )
      | inr other ↦ (
        p,
        slice_get-changed_elsewhere change w.parts v u other.1 ∙ found.1,
        record {
          once = λ n. omega (arith, hands_replaced u n hand w.workers i k there, balanced.elsewhere u n other.0) ∙ found.2.once n;
          in_files = found.2.in_files;
        },
      )
    ]

hand_kept : (setup : Setup) (w : World) (i v : ℕ) (k : Worker) (hand : Hand) (change : Parts → Parts) → slice_get w.workers i ≡ Some k
    → IsBalanced w i v k hand change → Kept setup w → Kept setup (in_hand w i v hand change)
hand_kept setup w i v k hand change there balanced h =
    let same : all_running (changed_at (with_hand hand) w.workers i) ≡ all_running w.workers = same_running hand w.workers i in
    record {
      headline = record {
        output = h.headline.output;
        each_once = λ c x e n. ap (λ (rs : List Running). tally_finished c n w.finished + tally_messages c n w.waiting + tally_messages c n
            (messages rs)) same ∙ h.headline.each_once c x e n;
        own_finished = h.headline.own_finished;
        own_waiting = h.headline.own_waiting;
        own_running = subst (λ (rs : List Running). AllByRecursion (IsOwnMessage setup w) (messages rs)) (sym same) h.headline.own_running;
        lawful = h.headline.lawful;
        state = h.headline.state ∙ ap (λ (rs : List Running). server_worked (done setup w) rs) (sym same);
        partition = parts_in_order setup w i v k hand change there balanced h;
        apart = subst (λ (rs : List Running). Apart setup.layout (affinities rs)) (sym same) h.headline.apart;
      };
      outcomes = subst (λ (rs : List Running). AllByRecursion (λ r. IsOutcome setup (done setup w) r r.outcome) rs) (sym same) h.outcomes;
      tried_waiting = h.tried_waiting;
      tried_running = subst (λ (rs : List Running). AllByRecursion (IsTried setup) (messages rs)) (sym same) h.tried_running;
      tried_finished = h.tried_finished;
      until = h.until;
    }

-- ---- each inner call

listed_if : (n : ℕ) (b : Bool) (blocks : List ℕ) → b ≡ true → times_listed n (if b then blocks else []) ≡ times_listed n blocks
listed_if n true blocks e = refl
listed_if n false blocks e = absurd cc

unlisted_if : (n : ℕ) (b : Bool) (blocks : List ℕ) → b ≡ false → times_listed n (if b then blocks else []) ≡ 0
unlisted_if n true blocks e = absurd cc
unlisted_if n false blocks e = refl

fresh_here : (v n : ℕ) (blocks : List ℕ) → times_listed n (hand_blocks v (fresh_hand v blocks)) ≡ times_listed n blocks
fresh_here v n [] = refl
fresh_here v n (b ∷ bs) = listed_if n (v == v) (b ∷ bs) (eq-eqb v v refl)

fresh_elsewhere : (u v n : ℕ) (blocks : List ℕ) → (u == v) ≡ false → times_listed n (hand_blocks u (fresh_hand v blocks)) ≡ 0
fresh_elsewhere u v n [] e = refl
fresh_elsewhere u v n (b ∷ bs) e = unlisted_if n (u == v) (b ∷ bs) e

dead_here : (v n : ℕ) (blocks : List ℕ) → times_listed n (hand_blocks v (dead_hand v blocks)) ≡ times_listed n blocks
dead_here v n [] = refl
dead_here v n (b ∷ bs) = listed_if n (v == v) (b ∷ bs) (eq-eqb v v refl)

dead_elsewhere : (u v n : ℕ) (blocks : List ℕ) → (u == v) ≡ false → times_listed n (hand_blocks u (dead_hand v blocks)) ≡ 0
dead_elsewhere u v n [] e = refl
dead_elsewhere u v n (b ∷ bs) e = unlisted_if n (u == v) (b ∷ bs) e

empty_lists : (u n : ℕ) (hand : Hand) → hand ≡ Empty → times_listed n (hand_blocks u hand) ≡ 0
empty_lists u n hand e = ap (λ (x : Hand). times_listed n (hand_blocks u x)) e

-- free blocks come into an empty hand
keeps_fetch : (setup : Setup) (w : World) (i v size range : ℕ) (k : Worker) (p : Parts) → slice_get w.workers i ≡ Some k → k.hand ≡ Empty
    → slice_get w.parts v ≡ Some p → Kept setup w
    → Kept setup (in_hand w i v (fresh_hand v (batch size range p.free)) (without_free (batch size range p.free)))
keeps_fetch setup w i v size range k p there empty at h =
    let blocks : List ℕ = batch size range p.free in
    hand_kept setup w i v k (fresh_hand v blocks) (without_free blocks) there
    (record {
      files = λ q. refl;
      here = λ q at_q n most.
          let same : p ≡ q = Some_same p q (sym at ∙ at_q) in
          subst (λ (x : Parts). places n (without_free blocks x) [] + times_listed n (hand_blocks v (fresh_hand v blocks)) ≡ places n x [] + times_listed n
          (hand_blocks v k.hand)) same
          (omega (arith, batch_leaves p.free blocks n (batch_within size range n p.free), fresh_here v n blocks, empty_lists v n k.hand empty));
      elsewhere = λ u n ne. fresh_elsewhere u v n blocks ne ∙ sym (empty_lists u n k.hand empty);
    }) h

-- dead blocks come into an empty hand
keeps_cull : (setup : Setup) (w : World) (i v size : ℕ) (k : Worker) (p : Parts)
    → slice_get w.workers i ≡ Some k → k.hand ≡ Empty → slice_get w.parts v ≡ Some p
    → Kept setup w
    → Kept setup (in_hand w i v (dead_hand v (lowest_batch size p.dead)) (without_dead (lowest_batch size p.dead)))
keeps_cull setup w i v size k p there empty at h =
    let blocks : List ℕ = lowest_batch size p.dead in
    hand_kept setup w i v k (dead_hand v blocks) (without_dead blocks) there
    (record {
      files = λ q. refl;
      here = λ q at_q n most.
          let same : p ≡ q = Some_same p q (sym at ∙ at_q) in
          subst (λ (x : Parts). places n (without_dead blocks x) [] + times_listed n (hand_blocks v (dead_hand v blocks)) ≡ places n x [] + times_listed n
          (hand_blocks v k.hand)) same
          (omega (arith, batch_leaves p.dead blocks n (lowest_within size n p.dead), dead_here v n blocks, empty_lists v n k.hand empty));
      elsewhere = λ u n ne. dead_elsewhere u v n blocks ne ∙ sym (empty_lists u n k.hand empty);
    }) h

-- a batch is put down
put_kept : (setup : Setup) (w : World) (i : ℕ) (k : Worker) (hand : Hand) → slice_get w.workers i ≡ Some k → k.hand ≡ hand → Kept setup w
    → Kept setup (in_hand w i (hand_volume hand) Empty (put_down hand))
put_kept setup w i k Empty there holds h =
    hand_kept setup w i 0 k Empty (λ q. q) there
    (record {
      files = λ q. refl;
      here = λ q at n most. omega (arith, empty_lists 0 n k.hand holds);
      elsewhere = λ u n ne. sym (empty_lists u n k.hand holds);
    }) h
put_kept setup w i k (Fresh v blocks) there holds h =
    hand_kept setup w i v k Empty (with_stock blocks) there
    (record {
      files = λ q. refl;
      here = λ q at n most.
          let held : times_listed n (hand_blocks v k.hand) ≡ times_listed n blocks = ap (λ (x : Hand). times_listed n (hand_blocks v x)) holds
          ∙ listed_if n (v == v) blocks (eq-eqb v v refl) in
          let fits : one_if (contains q.stock n) + times_listed n blocks ≤ 1 = omega (arith, most, held, hand_among v n w.workers i k there) in
          omega (arith, batch_comes q.stock blocks n fits, held);
      elsewhere = λ u n ne. sym (ap (λ (x : Hand). times_listed n (hand_blocks u x)) holds ∙ unlisted_if n (u == v) blocks ne);
    }) h
put_kept setup w i k (Dead v blocks) there holds h =
    hand_kept setup w i v k Empty (with_free blocks) there
    (record {
      files = λ q. refl;
      here = λ q at n most.
          let held : times_listed n (hand_blocks v k.hand) ≡ times_listed n blocks = ap (λ (x : Hand). times_listed n (hand_blocks v x)) holds
          ∙ listed_if n (v == v) blocks (eq-eqb v v refl) in
          let fits : one_if (contains q.free n) + times_listed n blocks ≤ 1 = omega (arith, most, held, hand_among v n w.workers i k there) in
          omega (arith, batch_comes q.free blocks n fits, held);
      elsewhere = λ u n ne. sym (ap (λ (x : Hand). times_listed n (hand_blocks u x)) holds ∙ unlisted_if n (u == v) blocks ne);
    }) h

-- ---- as events tell it

-- a fetch
pub keeps_fetched : (setup : Setup) (w : World) (i v size range count : ℕ) (k : Worker) (before after : Carrying) (new : World) → slice_get w.workers i ≡ Some k
    → k.hand ≡ Empty
    → slice_get w.parts v ≡ Some before.parts → Fetches size v range count before after → new ≡ carried w i v after → Kept setup w → Kept setup new
keeps_fetched setup w i v size range count k before after new there empty at fetches is h =
    let blocks : List ℕ = batch size range before.parts.free in
    subst (λ (x : World). Kept setup x)
    (sym (is ∙ ap (λ (c : Carrying). carried w i v c) fetches.1 ∙ carried_is w i v (fresh_hand v blocks) (without_free blocks) before.parts at))
    (keeps_fetch setup w i v size range k before.parts there empty at h)

-- a cull
pub keeps_culled : (setup : Setup) (w : World) (i v size count : ℕ) (k : Worker) (before after : Carrying) (new : World) → slice_get w.workers i ≡ Some k
    → k.hand ≡ Empty
    → slice_get w.parts v ≡ Some before.parts → Culls size v count before after → new ≡ carried w i v after → Kept setup w → Kept setup new
keeps_culled setup w i v size count k before after new there empty at culls is h =
    let blocks : List ℕ = lowest_batch size before.parts.dead in
    subst (λ (x : World). Kept setup x)
    (sym (is ∙ ap (λ (c : Carrying). carried w i v c) culls.1 ∙ carried_is w i v (dead_hand v blocks) (without_dead blocks) before.parts at))
    (keeps_cull setup w i v size k before.parts there empty at h)

-- a batch put down
pub keeps_put_down : (setup : Setup) (w : World) (i count : ℕ) (before after : Carrying) (new : World) → Carries w i (hand_volume before.hand) before
    → PutsDown count before after
    → new ≡ carried w i (hand_volume before.hand) after → Kept setup w → Kept setup new
keeps_put_down setup w i count before after new carries puts is h =
    subst (λ (x : World). Kept setup x)
    (sym (is ∙ ap (λ (c : Carrying). carried w i (hand_volume before.hand) c) puts.1
    ∙ carried_is w i (hand_volume before.hand) Empty (put_down before.hand) before.parts carries.3))
    (put_kept setup w i carries.0 before.hand carries.1 carries.2 h)

-- a survey changes nothing but the count of stamps
pub keeps_survey : (setup : Setup) (w : World) → Kept setup w → Kept setup (stamp_added w)
keeps_survey setup w h = record {
  headline = record {
    output = h.headline.output;
    each_once = h.headline.each_once;
    own_finished = h.headline.own_finished;
    own_waiting = h.headline.own_waiting;
    own_running = h.headline.own_running;
    lawful = h.headline.lawful;
    state = h.headline.state;
    partition = h.headline.partition;
    apart = h.headline.apart;
  };
  outcomes = h.outcomes;
  tried_waiting = h.tried_waiting;
  tried_running = h.tried_running;
  tried_finished = h.tried_finished;
  until = h.until;
}
