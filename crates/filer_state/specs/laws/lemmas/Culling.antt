-- What inner calls do to the dead, and a survey.
use Rattle.std.proofs.Common.{◌≡◌, ℕ, ◌+◌, Bool, List, [], ◌∷◌, length, map, Some, refl, sym, ap, subst, arith, eq-eqb}
use Rattle.std.specs.Prelude.{◌==◌, if◌then◌else◌}
use Rattle.std.specs.List.{range_with_len}
use Rattle.nfs_model.specs.Parts.{batch_in, times_listed}
use Rattle.nfs_model.specs.Moves.{in_range, lowest_batch, dead_hand}
use Rattle.nfs_laws.specs.lemmas.Counting.{lowest_within, batch_leaves}
use Rattle.depot_rule.specs.Sums.{total}
use Rattle.nfs_model.specs.volume.Ranges.{RangeValue, DeadValue, without_numbers, dead_taken}
use Rattle.filer_state.specs.state.Tree.{ranges_used}
use Rattle.filer_state.specs.state.WellFormed.{range_at}
use Rattle.filer_state.specs.state.Partition.{free_in, times_in_hand}
use Rattle.filer_state.specs.state.Sound.{IsSound}
use Rattle.filer_state.specs.state.Jobs.{Cull, Survey, Took, Surveyed, batches_in}
use Rattle.filer_state.specs.state.Lenses.{LogicalSet, logical_lens, vbn_lens}
use Rattle.filer_state.specs.state.Promises.{HandsMove}
use Rattle.filer_state.specs.state.Calls.{DoesInnerOn}
use Rattle.filer_state.specs.state.Running.{InnerRunsOn}
use Rattle.filer_state.specs.laws.lemmas.Delivering.{well-restocked}
use Rattle.filer_state.specs.laws.lemmas.Steps.{sound-later}

-- ---- cull

-- what is in a batch's hand, if it has a block
carried : (v : ℕ) (blocks : List ℕ) → length (batch_in (dead_hand v blocks)) ≡ length blocks
carried v [] = refl
carried v (b ∷ blocks) = refl

times-carried : (u v n : ℕ) (blocks : List ℕ) → u ≡ v → total (times_in_hand u n) (batches_in (dead_hand v blocks)) ≡ times_listed n blocks
times-carried u v n [] e = refl
times-carried u v n (b ∷ blocks) e =
    let mine : times_listed n (if u == v then b ∷ blocks else []) ≡ times_listed n (b ∷ blocks) =
    ap (λ (c : Bool). times_listed n (if c then b ∷ blocks else [])) (eq-eqb u v e) in
    omega (arith, mine)

-- the batch of the lowest dead
abbrev pub lowest_of : DeadValue → List ℕ
lowest_of d = lowest_batch d.range_blocks d.blocks

-- it is gone
abbrev pub culled_from : LogicalSet → LogicalSet
culled_from set = record set { own = record set.own { dead = dead_taken (lowest_of set.own.dead) set.own.dead } }

pub cull-right : (v : ℕ) (set : LogicalSet)
    → InnerRunsOn v logical_lens (Cull v) set (Some (Took (dead_hand v (lowest_of set.own.dead)))) (culled_from set)
cull-right v set p hands hands' made has numbered sound moved =
    let moves = subst (λ (s : LogicalSet). HandsMove (batches_in (dead_hand v (lowest_of s.own.dead))) [] hands hands') (sym has) moved in
    subst (λ (s : LogicalSet). DoesInnerOn (Cull v) p (Took (dead_hand v (lowest_of s.own.dead))) (logical_lens.put (culled_from s) p)
    × IsSound (logical_lens.put (culled_from s) p) hands' (made + 1)) has (
      (refl, (carried v (lowest_of p.logical.dead), refl)),
      record {
        well_formed = well-restocked p p.logical.stock (without_numbers (lowest_of p.logical.dead) p.logical.dead.blocks) sound.well_formed;
        young = record {
          fileids = (let y = sound.young.fileids in omega arith);
          cookies = λ fileid d e. let y = sound.young.cookies fileid d e in omega arith;
        };
        partition = λ n.
            let once = sound.partition n in
            let weighed = moves (times_in_hand p.number n) in
            let taken = times-carried p.number v n (lowest_of p.logical.dead) numbered in
            let left = batch_leaves p.logical.dead.blocks (lowest_of p.logical.dead) n
            (lowest_within p.logical.dead.range_blocks n p.logical.dead.blocks) in
            omega (arith, once, weighed, taken, left);
      },
    )

-- ---- survey

-- how many numbers of each range in use are free, where a range has this many blocks
abbrev pub counts_by : ℕ → List RangeValue → List ℕ
counts_by size ranges = map (λ r. length (in_range size r (free_in ranges))) (range_with_len 0 (ranges_used ranges))

-- as many as the first has
abbrev pub free_counts : List RangeValue → List ℕ
free_counts ranges = counts_by (range_at ranges 0).range_blocks ranges

pub survey-right : (v : ℕ) (set : List RangeValue) → InnerRunsOn v vbn_lens (Survey v) set (Some (Surveyed (free_counts set))) set
survey-right v set p hands hands' made has numbered sound moved =
    subst (λ (s : List RangeValue). DoesInnerOn (Survey v) p (Surveyed (free_counts s)) (vbn_lens.put s p) × IsSound (vbn_lens.put s p) hands' (made + 1)) has (
      (
        refl,
        (
          ap (λ (size : ℕ). counts_by size p.ranges)
              (sound.well_formed.ranges 0 (let long = sound.well_formed.sixteen in omega (arith, long))).blocks,
          refl,
        ),
      ),
      sound-later p hands hands' made (λ n. let e = moved (times_in_hand p.number n) in omega (arith, e)) sound,
    )
