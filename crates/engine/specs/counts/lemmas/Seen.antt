-- The counts by parcels are those that are seen, where all is sound.
use Rattle.std.proofs.Common.{◌≡◌, ℕ, suc, ◌≤◌, Bool, true, false, List, [], ◌∷◌, map, Some, refl, sym, ◌∙◌, arith, nat_lt}
use Rattle.std.specs.Prelude.{slice_get, ◌*◌}
use Rattle.std.specs.FinSet as sets
use Rattle.nfs_model.specs.Parts.{Hand, one_if, times_listed}
use Rattle.filer_state.specs.state.Contents.{VolumeContents, FilerContents}
use Rattle.filer_state.specs.state.Tree.{volume_of, ranges_used}
use Rattle.filer_state.specs.state.Partition.{all_numbers, files_in, parts_of}
use Rattle.filer_state.specs.state.Sound.{IsSound, AreSound}
use Rattle.filer_state.specs.laws.lemmas.Counted.{all-times, all-length, len-listed}
use Rattle.engine.specs.counts.Counts.{counted, counts_seen, all_seen}

at-most-one : (b : Bool) → one_if b ≤ 1
at-most-one true = omega arith
at-most-one false = omega arith

module _ (hands : List Hand) (made : ℕ) where
  -- as many numbers are in files as blocks are used
  files-used : (p : VolumeContents) → IsSound p hands made → sets.len (files_in p.stripes) ≡ p.logical.inodes.used
  files-used p sound =
      len-listed (all_numbers p.stripes)
      (λ n.
      let o = sound.partition n in
      let most = at-most-one (nat_lt n (p.logical.dead.range_blocks * ranges_used p.ranges)) in
      let listed = all-times n p.stripes in
      let l : times_listed n (all_numbers p.stripes) ≤ 1 = omega (arith, o, most, listed) in l)
      ∙ all-length p.stripes ∙ sym sound.well_formed.used

  volume-seen : (p : VolumeContents) → IsSound p hands made → counts_seen (volume_of p) (parts_of p) ≡ counted p
  volume-seen p sound = λ j. record (counted p) { files = files-used p sound j }

  volumes-seen : (volumes : List VolumeContents) → ((v : ℕ) (p : VolumeContents) → slice_get volumes v ≡ Some p → IsSound p hands made)
      → all_seen (map volume_of volumes) (map parts_of volumes) ≡ map counted volumes
  volumes-seen [] sound = refl
  volumes-seen (p ∷ volumes) sound = λ j. volume-seen p (sound 0 p refl) j ∷ volumes-seen volumes (λ v q there. sound (suc v) q there) j

  pub contents-seen : (c : FilerContents) → AreSound c hands made → all_seen (map volume_of c.volumes) (map parts_of c.volumes) ≡ map counted c.volumes
  contents-seen c sound = volumes-seen c.volumes (λ v p there. (sound v p there).1)
