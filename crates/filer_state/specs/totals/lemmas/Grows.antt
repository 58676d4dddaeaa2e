-- GROW by what is under an Aggregate is the serial server's.
use Rattle.std.proofs.Common.{◌≡◌, ◌≢◌, ℕ, zero, suc, ◌+◌, ◌-◌, ◌*◌, ◌<◌, ◌≤◌, ◌==◌, Bool, true, false, List, [], ◌∷◌, length, map, Option, Some, None}
use Rattle.std.proofs.Common.{refl, sym, ap, ◌∙◌, subst, arith, nat_lt, ⊎_elim}
use Rattle.std.proofs.lemmas.Bool.{cases_lt, lt-ltb, le-ltb}
use Rattle.std.specs.Prelude.{slice_get, slice_set, slice_index_or, if◌then◌else◌}
use Rattle.std.proofs.Math.Nat.{mul-add, mul-le-mul_left, mul-lt-mul_of_pos_left}
use Rattle.std.specs.List.{range_with_len}
use Rattle.std.specs.FinSet.{union, from_list}
use Rattle.nfs_model.specs.Types.{Status, Invalid, TooBig, NoSpace, GrowDone, Failed, Ask, Grow, Caller, Moment, Success}
use Rattle.nfs_model.specs.Tree.{Layout, Aggregate, aggregate_of}
use Rattle.nfs_model.specs.Server.{VolumeState, Server}
use Rattle.nfs_model.specs.Serial.Grow.{Grown, grown, grow_volume, grow}
use Rattle.nfs_model.specs.Parts.{Hand, most_ranges}
use Rattle.nfs_model.specs.Work.{Replied}
use Rattle.depot_rule.specs.Sums.{total}
use Rattle.filer_state.specs.state.Contents.{VolumeContents, FilerContents, volume_at}
use Rattle.filer_state.specs.state.Tree.{ranges_used, volume_of, server_of}
use Rattle.filer_state.specs.state.Partition.{parts_of, all_parts, stored, times_in_hand}
use Rattle.filer_state.specs.state.Sound.{IsSound, AreSound}
use Rattle.filer_state.specs.state.Lenses.{AggregateSet, volume_lens, aggregate_lens}
use Rattle.filer_state.specs.state.Running.{task_under}
use Rattle.filer_state.specs.laws.lemmas.Sizes.{size-some}
use Rattle.filer_state.specs.laws.lemmas.Steps.{get-some, get-set, sound-later}
use Rattle.filer_state.specs.laws.lemmas.Each.{get-there}
use Rattle.filer_state.specs.totals.Running.{WorksOnAll, RunsOnAll}
use Rattle.filer_state.specs.totals.Growing.{grow_refusal, AggregateAnswer, grow_checked, grow_there, grow_aggregate, with_ranges}
use Rattle.filer_state.specs.totals.lemmas.Sets.{put-one, set-there, all-back}
use Rattle.filer_state.specs.totals.lemmas.Grown.{union-none, after, sound-after, volume-after, parts-after}

-- ---- the checks are the serial server's

-- what the serial server comes to, by the check that fails
abbrev serial_checked : Server → ℕ → VolumeState → ℕ → Option Status → Grown
serial_checked server v volume more (Some status) = record { answer = Failed status 0; server = server }
serial_checked server v volume more None = record { answer = GrowDone (volume.total + volume.range_blocks * more); server = grown server v volume more }

abbrev first_failed : Bool → Bool → Bool → Option Status
first_failed none big short = if none then Some Invalid else if big then Some TooBig else if short then Some NoSpace else None

serial-by : (server : Server) (v : ℕ) (volume : VolumeState) (more : ℕ)
    → grow_volume server v (Some volume) more ≡ serial_checked server v volume more
    (first_failed (more == 0) (nat_lt (volume.range_blocks * most_ranges) (volume.total + volume.range_blocks * more))
    (nat_lt (slice_index_or server.spare volume.aggregate 0) more))
serial-by server v volume more =
    by (more == 0) (nat_lt (volume.range_blocks * most_ranges) (volume.total + volume.range_blocks * more))
    (nat_lt (slice_index_or server.spare volume.aggregate 0) more)
  where
    by : (none big short : Bool)
        → (if none then record { answer = Failed Invalid 0; server = server }
        else if big then record { answer = Failed TooBig 0; server = server }
        else if short then record { answer = Failed NoSpace 0; server = server }
        else record { answer = GrowDone (volume.total + volume.range_blocks * more); server = grown server v volume more })
        ≡ serial_checked server v volume more (first_failed none big short)
    by true big short = refl
    by false true short = refl
    by false false true = refl
    by false false false = refl

-- a total of blocks is too great where the ranges are too many
too-big : (size used more : ℕ) → 0 < size → nat_lt (size * most_ranges) (size * used + size * more) ≡ nat_lt most_ranges (used + more)
too-big size used more some =
    ap (λ (n : ℕ). nat_lt (size * most_ranges) n) (sym (mul-add size used more))
    ∙ ⊎_elim
    (λ (less : most_ranges < used + more).
    lt-ltb (size * most_ranges) (size * (used + more)) (mul-lt-mul_of_pos_left less some) ∙ sym (lt-ltb most_ranges (used + more) less))
    (λ (few : used + more ≤ most_ranges).
    le-ltb (size * most_ranges) (size * (used + more)) (mul-le-mul_left size few) ∙ sym (le-ltb most_ranges (used + more) few))
    (cases_lt most_ranges (used + more))

-- where no check fails, there is room
has-room : (used spare more : ℕ) → grow_refusal used spare more ≡ None → used + more ≤ most_ranges
has-room used spare more e = ⊎_elim
    (λ (less : most_ranges < used + more). by (more == 0) (nat_lt most_ranges (used + more)) (nat_lt spare more) (lt-ltb most_ranges (used + more) less) e)
    (λ (few : used + more ≤ most_ranges). few)
    (cases_lt most_ranges (used + more))
  where
    by : (none big short : Bool) → big ≡ true → first_failed none big short ≡ None → used + more ≤ most_ranges
    by true big short is h = absurd cc
    by false true short is h = absurd cc
    by false false short is h = absurd cc

-- ---- a list that is mapped

map-get : {A B : Type 0} (f : A → B) (xs : List A) (i : ℕ) (x : A) → slice_get xs i ≡ Some x → slice_get (map f xs) i ≡ Some (f x)
map-get f [] i x e = absurd cc
map-get f (y ∷ xs) zero x e = let same : y ≡ x = cc in ap (λ z. Some (f z)) same
map-get f (y ∷ xs) (suc i) x e = map-get f xs i x e

map-set : {A B : Type 0} (f : A → B) (xs : List A) (i : ℕ) (x : A) → map f (slice_set xs i x) ≡ slice_set (map f xs) i (f x)
map-set f [] i x = refl
map-set f (y ∷ xs) zero x = refl
map-set f (y ∷ xs) (suc i) x = ap (λ rest. f y ∷ rest) (map-set f xs i x)

set-here : {A : Type 0} (xs : List A) (i : ℕ) (x : A) → i < length xs → slice_get (slice_set xs i x) i ≡ Some x
set-here [] i x less = absurd (omega arith)
set-here (y ∷ xs) zero x less = refl
set-here (y ∷ xs) (suc i) x less = set-here xs i x (omega arith)

set-same : {A : Type 0} (xs : List A) (i : ℕ) (x : A) → slice_get xs i ≡ Some x → slice_set xs i x ≡ xs
set-same [] i x e = refl
set-same (y ∷ xs) zero x e = let same : y ≡ x = cc in ap (λ z. z ∷ xs) (sym same)
set-same (y ∷ xs) (suc i) x e = ap (λ rest. y ∷ rest) (set-same xs i x e)

-- ---- on all that is stored

module _ (a v more : ℕ) (caller : Caller) (moment : Moment) (c : FilerContents) (p : VolumeContents) (there : volume_at c v ≡ Some p)
    (on : p.aggregate ≡ a) (hands hands' : List Hand) (made : ℕ) (sound : AreSound c hands made)
    (weigh : (u n : ℕ) → total (times_in_hand u n) hands' ≡ total (times_in_hand u n) hands) where
  abbrev used : ℕ
  used = ranges_used p.ranges

  abbrev blocks : ℕ
  blocks = p.logical.dead.range_blocks

  blocks-some : 0 < blocks
  blocks-some = size-some blocks (sound v p there).1.well_formed.size

  abbrev spare : ℕ
  spare = slice_index_or c.spare a 0

  server-there : slice_get (server_of c).volumes v ≡ Some (volume_of p)
  server-there = map-get volume_of c.volumes v p there

  parts-there : slice_get (all_parts c) v ≡ Some (parts_of p)
  parts-there = map-get parts_of c.volumes v p there

  serial-is : grow (server_of c) v more ≡ serial_checked (server_of c) v (volume_of p) more (grow_refusal used spare more)
  serial-is =
      ap (λ o. grow_volume (server_of c) v o more) server-there
      ∙ serial-by (server_of c) v (volume_of p) more
      ∙ (λ j. serial_checked (server_of c) v (volume_of p) more
      (first_failed (more == 0) (too-big blocks used more blocks-some j) (nat_lt (slice_index_or c.spare (on j) 0) more)))

  -- with new contents, the run is right and all is sound
  abbrev IsDone : AggregateAnswer → Type 0
  IsDone told =
      WorksOnAll (task_under (Aggregate a) (Ask (Grow v more) caller) moment) c (Replied (Success told.answer)) ((aggregate_lens a).put told.set c)
      × AreSound ((aggregate_lens a).put told.set c) hands' (made + 1)

  abbrev held : AggregateSet
  held = (aggregate_lens a).of c

  all-later : AreSound c hands' (made + 1)
  all-later u q e = let s = sound u q e in (s.0, sound-later q hands hands' made (λ n. weigh q.number n) s.1)

  -- no number is new
  none-new : (stored p).parts ≡ record (parts_of p) {
    free = union (parts_of p).free (from_list (range_with_len (volume_of p).total ((volume_of p).total
        - (volume_of p).total)));
  }
  none-new = λ j. record (parts_of p) {
    free = (sym (union-none (parts_of p).free)
        ∙ ap (λ (n : ℕ). union (parts_of p).free (from_list (range_with_len (volume_of p).total n)))
        (let gone : 0 ≡ (volume_of p).total - (volume_of p).total = omega arith in gone)) j;
  }

  refused : (status : Status) → grow_refusal used spare more ≡ Some status → IsDone (record { answer = Failed status 0; set = held })
  refused status e =
      let is = serial-is ∙ ap (serial_checked (server_of c) v (volume_of p) more) e in
      subst (λ (x : FilerContents). WorksOnAll (task_under (Aggregate a) (Ask (Grow v more) caller) moment) c (Replied (Success (Failed status 0))) x
      × AreSound x hands' (made + 1)) (sym (all-back a c)) (
        (
          (
            refl,
            ap (λ (g : Grown). Success g.answer) (sym is),
            ap (λ (g : Grown). g.server) (sym is),
            record {
              before = stored p;
              after = stored p;
              volume_before = server-there;
              volume_after = server-there;
              parts_before = parts-there;
              change = none-new;
              parts = sym (set-same (all_parts c) v (parts_of p) parts-there);
            },
          ),
          tt,
        ),
        all-later,
      )

  module _ (e : grow_refusal used spare more ≡ None) where
    own : (p.number ≡ v) × IsSound p hands made
    own = sound v p there

    fits : used + more ≤ most_ranges
    fits = has-room used spare more e

    abbrev next : VolumeContents
    next = after p hands made own.1 more fits

    abbrev later : FilerContents
    later = record { spare = slice_set c.spare a (spare - more); volumes = slice_set c.volumes v next }

    volumes-later : (server_of later).volumes ≡ slice_set (server_of c).volumes v (record (volume_of p) { total = (volume_of p).total + blocks * more })
    volumes-later = map-set volume_of c.volumes v next
        ∙ ap (λ (x : VolumeState). slice_set (server_of c).volumes v x) (volume-after p hands made own.1 more fits)

    server-later : server_of later ≡ grown (server_of c) v (volume_of p) more
    server-later = λ j. record {
      spare = slice_set c.spare (sym on j) (slice_index_or c.spare (sym on j) 0 - more);
      volumes = volumes-later j;
    }

    put-later : (aggregate_lens a).put (record {
      spare = spare - more;
      volumes = slice_set held.volumes v (Some (with_ranges (used + more) (volume_lens.of p)));
    }) c
        ≡ later
    put-later = λ j. record {
      spare = slice_set c.spare a (spare - more);
      volumes = put-one a c.volumes v p (with_ranges (used + more) (volume_lens.of p)) there j;
    }

    sound-all : AreSound later hands' (made + 1)
    sound-all u q is = ⊎_elim
        (λ (here : (u ≡ v) × (q ≡ next)). subst (λ (x : VolumeContents). (x.number ≡ u) × IsSound x hands' (made + 1)) (sym here.1)
        (own.0 ∙ sym here.0, sound-after p hands made own.1 more fits hands' (λ n. weigh p.number n)))
        (λ (other : (u ≢ v) × (slice_get c.volumes u ≡ Some q)). all-later u q other.1)
        (get-set c.volumes v next u q is)

    done : IsDone (grow_checked v more (volume_lens.of p) None held)
    done =
        let is = serial-is ∙ ap (serial_checked (server_of c) v (volume_of p) more) e in
        let count : blocks * (used + more) ≡ (volume_of p).total + blocks * more = mul-add blocks used more in
        subst (λ (x : FilerContents). WorksOnAll (task_under (Aggregate a) (Ask (Grow v more) caller) moment) c
        (Replied (Success (GrowDone (blocks * (used + more))))) x × AreSound x hands' (made + 1)) (sym put-later) (
          (
            (
              refl,
              ap (λ (n : ℕ). Success (GrowDone n)) count ∙ ap (λ (g : Grown). Success g.answer) (sym is),
              server-later ∙ ap (λ (g : Grown). g.server) (sym is),
              record {
                before = stored p;
                after = stored next;
                volume_before = server-there;
                volume_after = map-get volume_of later.volumes v next (set-here c.volumes v next (get-there c.volumes v p there));
                parts_before = parts-there;
                change = parts-after p hands made own.1 more fits;
                parts = map-set parts_of c.volumes v next;
              },
            ),
            tt,
          ),
          sound-all,
        )

  grow-done : IsDone (grow_aggregate v more held)
  grow-done = subst IsDone (sym (ap (λ o. grow_there v more o held) (set-there a c.volumes v p there on))) (by (grow_refusal used spare more) refl)
    where
      by : (r : Option Status) → grow_refusal used spare more ≡ r → IsDone (grow_checked v more (volume_lens.of p) r held)
      by (Some status) e = refused status e
      by None e = done e

-- ---- for every whole that has what is held

pub grow-right : (layout : Layout) (a v more : ℕ) (caller : Caller) (moment : Moment) (s : AggregateSet)
    → v < length layout.volumes → aggregate_of layout v ≡ a
    → RunsOnAll layout (aggregate_lens a) (task_under (Aggregate a) (Ask (Grow v more) caller) moment) s
    (Replied (Success (grow_aggregate v more s).answer)) (grow_aggregate v more s).set
grow-right layout a v more caller moment s on home c hands hands' made has laid sound moved =
    let found = get-some c.volumes v (let count = laid.volumes in omega (arith, on, count)) in
    subst (λ (t : AggregateSet).
    WorksOnAll (task_under (Aggregate a) (Ask (Grow v more) caller) moment) c (Replied (Success (grow_aggregate v more t).answer))
    ((aggregate_lens a).put (grow_aggregate v more t).set c) × AreSound ((aggregate_lens a).put (grow_aggregate v more t).set c) hands' (made + 1)) has
    (grow-done a v more caller moment c found.0 found.1 ((laid.volume v found.0 found.1).0 ∙ home) hands hands' made sound
    (λ u n. let w = moved (times_in_hand u n) in omega (arith, w)))
