-- What events do to the counts that are seen: all but Work, whose calls are counted by parcels.
use Rattle.std.proofs.Common.{◌≡◌, ℕ, zero, suc, ◌+◌, ◌-◌, ◌<◌, Bool, true, false, ◌&&◌, List, [], ◌∷◌, length, Option, Some, None}
use Rattle.std.proofs.Common.{Result, Ok, Err, refl, sym, ap, ◌∙◌, subst, arith, eq-eqb, length-append}
use Rattle.std.specs.Prelude.{slice_get, slice_set, if◌then◌else◌, min}
use Rattle.std.specs.Option.{option_map}
use Rattle.std.specs.FinSet as sets
use Rattle.nfs_model.specs.Tree.{range_blocks_of}
use Rattle.nfs_model.specs.Server.{VolumeState}
use Rattle.nfs_model.specs.Home.{home_of_asked}
use Rattle.nfs_model.specs.Parts.{Parts, Hand, Empty, Fresh, Dead, hand_blocks, IsPartition, counts}
use Rattle.nfs_model.specs.Moves.{Carrying, PutsDown, lowest_batch, dead_hand}
use Rattle.nfs_model.specs.Work.{Replied, Starved, Moved}
use Rattle.nfs_model.specs.World.{Heard, Setup, World, Worker, hands_blocks, counts_if, counts_of, changed_at, with_hand}
use Rattle.nfs_model.specs.Events.Refusals.{Event, Open, Feed, Close, Begin, Work, Finish, Fetch, Cull, PutDown, Survey, Done, HandHas, HasPut}
use Rattle.nfs_model.specs.Events.Refusals.{is_idle, has_empty_hand, is_empty_hand, hand_of}
use Rattle.nfs_model.specs.Events.Feed.{Hears, admit, heard_in}
use Rattle.nfs_model.specs.Events.Step.{Events, Happens, finished_by, Carries, carried, hand_volume}
use Rattle.engine.specs.declared.counts.counts.VolumeCounts.{VolumeCounts}
use Rattle.engine.specs.counts.Counts.{counts_seen, all_seen, seen_if, world_counts, told_of, with_culled, with_put, fresh_volume, put_counted, moved_count}
use Rattle.engine.specs.counts.Counts.{culled_by, put_by}
use Rattle.engine.specs.counts.lemmas.Sums.{parts-size}

-- ---- lists

inner : {A : Type 0} (x y : A) → Some x ≡ Some y → x ≡ y
inner x y e = cc

-- parts of one volume that change, where its counts don't
at-same : (p q : Parts) → ((volume : VolumeState) → counts_seen volume q ≡ counts_seen volume p) → (volumes : List VolumeState) (ps : List Parts) (v : ℕ)
    → slice_get ps v ≡ Some p → all_seen volumes (slice_set ps v q) ≡ all_seen volumes ps
at-same p q same [] ps v there = refl
at-same p q same (volume ∷ volumes) [] v there = refl
at-same p q same (volume ∷ volumes) (r ∷ ps) zero there =
    ap (λ c. c ∷ all_seen volumes ps) (same volume ∙ ap (counts_seen volume) (sym (inner r p there)))
at-same p q same (volume ∷ volumes) (r ∷ ps) (suc v) there = ap (λ rest. counts_seen volume r ∷ rest) (at-same p q same volumes ps v there)

-- and where they do
at-changed : (k : VolumeCounts → VolumeCounts) (p q : Parts) (there : VolumeState) → counts_seen there q ≡ k (counts_seen there p)
    → (volumes : List VolumeState) (ps : List Parts) (v : ℕ) → slice_get volumes v ≡ Some there → slice_get ps v ≡ Some p
    → all_seen volumes (slice_set ps v q) ≡ changed_at k (all_seen volumes ps) v
at-changed k p q there same [] ps v at is = refl
at-changed k p q there same (volume ∷ volumes) [] v at is = refl
at-changed k p q there same (volume ∷ volumes) (r ∷ ps) zero at is =
    let a = inner volume there at in
    let b = inner r p is in
    ap (λ c. c ∷ all_seen volumes ps)
    (ap (λ (x : VolumeState). counts_seen x q) a ∙ same ∙ (λ j. k (counts_seen (sym a j) (sym b j))))
at-changed k p q there same (volume ∷ volumes) (r ∷ ps) (suc v) at is =
    ap (λ rest. counts_seen volume r ∷ rest) (at-changed k p q there same volumes ps v at is)

-- what workers carry of a volume, where one hand changes
carried-size : (v : ℕ) (ks : List Worker) (i : ℕ) (k : Worker) (hand : Hand) → slice_get ks i ≡ Some k
    → length (hands_blocks v (changed_at (with_hand hand) ks i)) + length (hand_blocks v k.hand) ≡ length (hands_blocks v ks) + length (hand_blocks v hand)
carried-size v [] i k hand there = absurd cc
carried-size v (x ∷ ks) zero k hand there =
    let old = length-append (hand_blocks v x.hand) (hands_blocks v ks) in
    let new = length-append (hand_blocks v hand) (hands_blocks v ks) in
    let same : length (hand_blocks v x.hand) ≡ length (hand_blocks v k.hand) = ap (λ (y : Worker). length (hand_blocks v y.hand)) (inner x k there) in
    omega (arith, old, new, same)
carried-size v (x ∷ ks) (suc i) k hand there =
    let old = length-append (hand_blocks v x.hand) (hands_blocks v ks) in
    let new = length-append (hand_blocks v x.hand) (hands_blocks v (changed_at (with_hand hand) ks i)) in
    let others = carried-size v ks i k hand there in
    omega (arith, old, new, others)

-- ---- events that change no count

heard-stays : (setup : Setup) (c : ℕ) (w : World) (number : ℕ) (hs : List Heard) (new : World) → Hears setup c w number hs new
    → world_counts new ≡ world_counts w
heard-stays setup c w number [] new is = ap world_counts is
heard-stays setup c w number (h ∷ hs) new is =
    let starved = is.1.0 in
    heard-stays setup c (heard_in setup w c number h starved) (number + 1) hs new is.1.2 ∙ by starved
  where
    admitted : (o : Option _) → world_counts (admit setup w c number h o) ≡ world_counts w
    admitted None = refl
    admitted (Some a) = refl

    by : (b : Bool) → world_counts (heard_in setup w c number h b) ≡ world_counts w
    by true = refl
    by false = admitted (home_of_asked setup.layout h.asked)

-- events that aren't counted otherwise
abbrev pub IsQuiet : Event → Type 0
IsQuiet (Work worker) = ⊥
IsQuiet (Cull worker volume) = ⊥
IsQuiet (PutDown worker) = ⊥
IsQuiet event = Unit {0}

module _ (setup : Setup) (w new : World) where
  happens-stays : (event : Event) (done : Done) → IsQuiet event → Happens setup w event done new → world_counts new ≡ world_counts w
  happens-stays Open done quiet h = ap world_counts h.1
  happens-stays (Feed connection bytes) done quiet h = heard-stays setup connection _ _ h.3.heard new h.3.hears
  happens-stays (Close connection) done quiet h = ap world_counts h.1
  happens-stays (Begin worker place moment) done quiet h = ap world_counts h.3
  happens-stays (Finish worker) done quiet h = ap world_counts h.7 ∙ by h.2
    where
      by : (o : _) → world_counts (finished_by setup w worker h.1 o) ≡ world_counts w
      by (Replied reply) = refl
      by Starved = refl
      by (Moved a) = refl
  happens-stays (Fetch worker volume range) done quiet h =
      ap world_counts h.6
      ∙ at-same h.0.parts h.1.parts (λ x. ap (λ (c : Carrying). counts_seen x c.parts) h.4.1) w.server.volumes w.parts volume h.3.3
  happens-stays (Survey worker volume) done quiet h = ap world_counts h.7
  happens-stays (Work worker) done quiet h = absurd quiet
  happens-stays (Cull worker volume) done quiet h = absurd quiet
  happens-stays (PutDown worker) done quiet h = absurd quiet

  pub event-stays : (event : Event) (answer : Result Done ℕ) → IsQuiet event → Events setup w event answer new → world_counts new ≡ world_counts w
  event-stays event (Ok done) quiet e = happens-stays event done quiet e.1
  event-stays event (Err number) quiet e = ap world_counts e.1

-- ---- events that change what workers carry

-- the parts of each volume that there is partition it, and there are as many
pub record IsParted (w : World) : Type 0 where
  pub long : length w.parts ≡ length w.server.volumes
  pub each : (v : ℕ) (volume : VolumeState) → slice_get w.server.volumes v ≡ Some volume
      → (p : Parts) × (slice_get w.parts v ≡ Some p) × IsPartition volume p (hands_blocks v w.workers)

get-there : {A : Type 0} (xs : List A) (i : ℕ) (x : A) → slice_get xs i ≡ Some x → i < length xs
get-there [] i x e = absurd cc
get-there (y ∷ xs) zero x e = omega arith
get-there (y ∷ xs) (suc i) x e = let less = get-there xs i x e in omega (arith, less)

found : {A : Type 0} (xs : List A) (i : ℕ) → i < length xs → (x : A) × (slice_get xs i ≡ Some x)
found [] i less = absurd (omega (arith, less))
found (y ∷ xs) zero less = (y, refl)
found (y ∷ xs) (suc i) less = found xs i (omega (arith, less))

pub set-there : {A : Type 0} (xs : List A) (i : ℕ) (x y : A) → slice_get xs i ≡ Some y → slice_get (slice_set xs i x) i ≡ Some x
set-there [] i x y e = absurd cc
set-there (z ∷ xs) zero x y e = refl
set-there (z ∷ xs) (suc i) x y e = set-there xs i x y e

-- a volume with parts, and that they are as many as its numbers
module _ (w : World) (parted : IsParted w) (v : ℕ) (p : Parts) (there : slice_get w.parts v ≡ Some p) where
  volume-there : (volume : VolumeState) × (slice_get w.server.volumes v ≡ Some volume)
  volume-there =
      let less = get-there w.parts v p there in
      let long = parted.long in
      found w.server.volumes v (omega (arith, less, long))

  size-there : (volume : VolumeState) → slice_get w.server.volumes v ≡ Some volume
      → sets.len p.files + sets.len p.stock + sets.len p.dead + sets.len p.free + length (hands_blocks v w.workers) ≡ volume.total
  size-there volume at =
      let here = parted.each v volume at in
      let same = inner here.0 p (sym here.1 ∙ there) in
      subst (λ (q : Parts).
      sets.len q.files + sets.len q.stock + sets.len q.dead + sets.len q.free + length (hands_blocks v w.workers) ≡ volume.total) same
      (parts-size volume here.0 (hands_blocks v w.workers) here.2)

-- a hand that changes with the parts of one volume
module _ (w : World) (parted : IsParted w) (worker v : ℕ) (before after : Carrying) (k : Worker) (at : slice_get w.workers worker ≡ Some k)
    (held : k.hand ≡ before.hand) (there : slice_get w.parts v ≡ Some before.parts) (parted-then : IsParted (carried w worker v after)) where
  sizes : (volume : VolumeState) → slice_get w.server.volumes v ≡ Some volume
      → (sets.len before.parts.files + sets.len before.parts.stock + sets.len before.parts.dead + sets.len before.parts.free
      + length (hands_blocks v w.workers) ≡ volume.total)
      × (sets.len after.parts.files + sets.len after.parts.stock + sets.len after.parts.dead + sets.len after.parts.free
      + length (hands_blocks v (changed_at (with_hand after.hand) w.workers worker)) ≡ volume.total)
      × (length (hands_blocks v (changed_at (with_hand after.hand) w.workers worker)) + length (hand_blocks v before.hand)
      ≡ length (hands_blocks v w.workers) + length (hand_blocks v after.hand))
  sizes volume found = (
    size-there w parted v before.parts there volume found,
    size-there (carried w worker v after) parted-then v after.parts (set-there w.parts v after.parts before.parts there) volume found,
    subst (λ (h : Hand). length (hands_blocks v (changed_at (with_hand after.hand) w.workers worker)) + length (hand_blocks v h)
        ≡ length (hands_blocks v w.workers) + length (hand_blocks v after.hand)) held (carried-size v w.workers worker k after.hand at),
  )

  -- dead blocks come into it
  culled-seen : (count : ℕ) → after.parts.files ≡ before.parts.files → after.parts.stock ≡ before.parts.stock → after.parts.free ≡ before.parts.free
      → length (hand_blocks v before.hand) ≡ 0 → length (hand_blocks v after.hand) ≡ count
      → world_counts (carried w worker v after) ≡ changed_at (with_culled count) (world_counts w) v
  culled-seen count files stock free none some =
      let volume = volume-there w parted v before.parts there in
      let all = sizes volume.0 volume.1 in
      let old = all.0 in
      let new = all.1 in
      let hands = all.2 in
      let f = ap (λ s. sets.len s) files in
      let s = ap (λ s. sets.len s) stock in
      let r = ap (λ s. sets.len s) free in
      let fewer : sets.len after.parts.dead ≡ sets.len before.parts.dead - count = omega (arith, old, new, hands, f, s, r, none, some) in
      at-changed (with_culled count) before.parts after.parts volume.0
      (λ j. record { files = f j; stock = s j; dead = fewer j; total = volume.0.total }) w.server.volumes w.parts v volume.1 there

  -- blocks for the stock leave it
  put-seen : (count : ℕ) → after.parts.files ≡ before.parts.files → after.parts.dead ≡ before.parts.dead → after.parts.free ≡ before.parts.free
      → length (hand_blocks v before.hand) ≡ count → length (hand_blocks v after.hand) ≡ 0
      → world_counts (carried w worker v after) ≡ changed_at (with_put count) (world_counts w) v
  put-seen count files dead free some none =
      let volume = volume-there w parted v before.parts there in
      let all = sizes volume.0 volume.1 in
      let old = all.0 in
      let new = all.1 in
      let hands = all.2 in
      let f = ap (λ s. sets.len s) files in
      let d = ap (λ s. sets.len s) dead in
      let r = ap (λ s. sets.len s) free in
      let more : sets.len after.parts.stock ≡ min (sets.len before.parts.stock + count) volume.0.total =
      omega (arith, old, new, hands, f, d, r, none, some) in
      at-changed (with_put count) before.parts after.parts volume.0
      (λ j. record { files = f j; stock = more j; dead = d j; total = volume.0.total }) w.server.volumes w.parts v volume.1 there

-- ---- Cull and PutDown

dead-length : (v : ℕ) (blocks : List ℕ) → length (hand_blocks v (dead_hand v blocks)) ≡ length blocks
dead-length v [] = refl
dead-length v (b ∷ bs) = ap (λ (x : Bool). length (if x then b ∷ bs else [])) (eq-eqb v v refl)

fresh-length : (v : ℕ) (blocks : List ℕ) → length (hand_blocks v (Fresh v blocks)) ≡ length blocks
fresh-length v blocks = ap (λ (x : Bool). length (if x then blocks else [])) (eq-eqb v v refl)

-- a worker whose hand has to be empty carries nothing
nothing-carried : (v : ℕ) (o : Option Worker) (others : Option ℕ) (k : Worker) (hand : Hand)
    → (if is_idle o && has_empty_hand o then others else Some 33) ≡ None → o ≡ Some k → k.hand ≡ hand → length (hand_blocks v hand) ≡ 0
nothing-carried v o others k hand passes is held =
    subst (λ (h : Hand). length (hand_blocks v h) ≡ 0) held (by k.hand (tested (is_idle o) (has_empty_hand o) passes ∙ ap has_empty_hand is))
  where
    tested : (a b : Bool) → (if a && b then others else Some 33) ≡ None → true ≡ b
    tested true true e = refl
    tested true false e = absurd cc
    tested false b e = absurd cc

    by : (h : Hand) → true ≡ is_empty_hand h → length (hand_blocks v h) ≡ 0
    by Empty e = refl
    by (Fresh u blocks) e = absurd cc
    by (Dead u blocks) e = absurd cc

module _ (setup : Setup) (w new : World) (parted : IsParted w) (parted-then : IsParted new) where
  cull-happens : (worker volume : ℕ) (done : Done) → Events setup w (Cull worker volume) (Ok done) new
      → (count : ℕ) × (done ≡ HandHas count) × (world_counts new ≡ changed_at (with_culled count) (world_counts w) volume)
  cull-happens worker volume done e =
      let h = e.1 in
      let carries = h.3 in
      let culls = h.4 in
      let after = culls.1 in (
        h.2,
        h.5,
        ap world_counts h.6
            ∙ culled-seen w parted worker volume h.0 h.1 carries.0 carries.1 carries.2 carries.3 (subst IsParted h.6 parted-then) h.2
            (ap (λ (c : Carrying). c.parts.files) after) (ap (λ (c : Carrying). c.parts.stock) after) (ap (λ (c : Carrying). c.parts.free) after)
            (nothing-carried volume (slice_get w.workers worker) _ carries.0 h.0.hand e.0 carries.1 carries.2)
            (ap (λ (c : Carrying). length (hand_blocks volume c.hand)) after
            ∙ dead-length volume (lowest_batch (range_blocks_of setup.layout volume) h.0.parts.dead) ∙ sym culls.0),
      )

  puts : (worker count : ℕ) (p : Parts) (hand : Hand) (after : Carrying)
      → Carries w worker (hand_volume hand) (record { parts = p; hand = hand }) → PutsDown count (record { parts = p; hand = hand }) after
      → new ≡ carried w worker (hand_volume hand) after
      → world_counts new ≡ put_counted (fresh_volume hand) count (world_counts w)
  puts worker count p Empty after carries did is =
      ap world_counts is
      ∙ at-same p after.parts (λ x. ap (λ (c : Carrying). counts_seen x c.parts) did.1) w.server.volumes w.parts 0 carries.3
  puts worker count p (Dead v blocks) after carries did is =
      ap world_counts is
      ∙ at-same p after.parts (λ x. ap (λ (c : Carrying). counts_seen x c.parts) did.1) w.server.volumes w.parts v carries.3
  puts worker count p (Fresh v blocks) after carries did is =
      ap world_counts is
      ∙ put-seen w parted worker v (record { parts = p; hand = Fresh v blocks }) after carries.0 carries.1 carries.2 carries.3
      (subst IsParted is parted-then) count
      (ap (λ (c : Carrying). c.parts.files) did.1) (ap (λ (c : Carrying). c.parts.dead) did.1) (ap (λ (c : Carrying). c.parts.free) did.1)
      (fresh-length v blocks ∙ sym did.0) (ap (λ (c : Carrying). length (hand_blocks v c.hand)) did.1)

  put-happens : (worker : ℕ) (done : Done) → Events setup w (PutDown worker) (Ok done) new
      → (count : ℕ) × (done ≡ HasPut count)
      × (world_counts new ≡ put_counted (fresh_volume (hand_of (slice_get w.workers worker))) count (world_counts w))
  put-happens worker done e =
      let h = e.1 in
      let carries = h.3 in
      let hand : hand_of (slice_get w.workers worker) ≡ h.0.hand = ap hand_of carries.1 ∙ carries.2 in (
        h.2,
        h.5,
        puts worker h.2 h.0.parts h.0.hand h.1 carries h.4 h.6
            ∙ ap (λ (x : Hand). put_counted (fresh_volume x) h.2 (world_counts w)) (sym hand),
      )

  -- whatever it answers
  pub cull-counts : (worker volume : ℕ) (answer : Result Done ℕ) → Events setup w (Cull worker volume) answer new
      → world_counts new ≡ culled_by volume answer (world_counts w)
  cull-counts worker volume (Err number) e = ap world_counts e.1
  cull-counts worker volume (Ok done) e =
      let h = cull-happens worker volume done e in
      h.2 ∙ ap (λ (n : ℕ). changed_at (with_culled n) (world_counts w) volume) (sym (ap moved_count h.1))

  pub put-counts : (worker : ℕ) (answer : Result Done ℕ) → Events setup w (PutDown worker) answer new
      → world_counts new ≡ put_by (fresh_volume (hand_of (slice_get w.workers worker))) answer (world_counts w)
  put-counts worker (Err number) e = ap world_counts e.1
  put-counts worker (Ok done) e =
      let h = put-happens worker done e in
      h.2 ∙ ap (λ (n : ℕ). put_counted (fresh_volume (hand_of (slice_get w.workers worker))) n (world_counts w)) (sym (ap moved_count h.1))

-- ---- what is told

module _ (w : World) (parted : IsParted w) (v : ℕ) where
  told-there : (o : Option VolumeState) (q : Option Parts) → slice_get w.server.volumes v ≡ o → slice_get w.parts v ≡ q
      → option_map (told_of (length (hands_blocks v w.workers))) (seen_if o q) ≡ counts_if o q (hands_blocks v w.workers)
  told-there None q at is = refl
  told-there (Some volume) None at is = refl
  told-there (Some volume) (Some p) at is =
      let size = size-there w parted v p is volume at in
      let left : volume.total - sets.len p.files - sets.len p.stock - sets.len p.dead - length (hands_blocks v w.workers) ≡ sets.len p.free =
      omega (arith, size) in
      λ j. Some (record (counts volume p (hands_blocks v w.workers)) { free = left j })

  get-seen : (volumes : List VolumeState) (ps : List Parts) (i : ℕ) → slice_get (all_seen volumes ps) i ≡ seen_if (slice_get volumes i) (slice_get ps i)
  get-seen [] ps i = refl
  get-seen (volume ∷ volumes) [] zero = refl
  get-seen (volume ∷ volumes) [] (suc i) = by (slice_get volumes i)
    where
      by : (o : Option VolumeState) → None ≡ seen_if o None
      by None = refl
      by (Some x) = refl
  get-seen (volume ∷ volumes) (p ∷ ps) zero = refl
  get-seen (volume ∷ volumes) (p ∷ ps) (suc i) = get-seen volumes ps i

  -- the counts of a volume, with what workers carry of it, are the model's
  pub told-is : option_map (told_of (length (hands_blocks v w.workers))) (slice_get (world_counts w) v) ≡ counts_of w v
  told-is =
      ap (option_map (told_of (length (hands_blocks v w.workers)))) (get-seen w.server.volumes w.parts v)
      ∙ told-there (slice_get w.server.volumes v) (slice_get w.parts v) refl refl
