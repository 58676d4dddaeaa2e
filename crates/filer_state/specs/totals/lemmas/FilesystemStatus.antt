-- FSSTAT by what is under Volume.
use Rattle.std.proofs.Common.{◌≡◌, ℕ, ◌-◌, ◌*◌, List, Some, None, Option, refl, sym, ap, ◌∙◌}
use Rattle.std.specs.Option.{option_map}
use Rattle.std.specs.Cmp.{nat_cmp_total}
use Rattle.std.specs.FinMap.{get, nat_cmp-IsAntisymmetric}
use Rattle.nfs_model.specs.Types.{Success, FsstatDone}
use Rattle.nfs_model.specs.Tree.{Affinity}
use Rattle.nfs_model.specs.Server.{Node, VolumeState, block_size}
use Rattle.nfs_model.specs.Shown.{shown}
use Rattle.nfs_model.specs.Serial.Fsstat.{space}
use Rattle.nfs_model.specs.Locate.{on_node, Tells}
use Rattle.nfs_model.specs.Work.{Replied}
use Rattle.nfs_model.specs.volume.Inodes.{Inode}
use Rattle.filer_state.specs.state.Contents.{VolumeContents}
use Rattle.filer_state.specs.state.Tree.{node_of, ranges_used, volume_of}
use Rattle.filer_state.specs.state.WellFormed.{WellFormed}
use Rattle.filer_state.specs.state.Lenses.{VolumeSet, volume_lens}
use Rattle.filer_state.specs.state.Calls.{WorksOn, answer_of, answer_on, volume_left}
use Rattle.filer_state.specs.state.Running.{RunsOn}
use Rattle.filer_state.specs.laws.lemmas.Mapped.{len-map_values}
use Rattle.filer_state.specs.laws.lemmas.Counted.{used-is}
use Rattle.filer_state.specs.attributes.lemmas.Getting.{node-at, node-shown, reads-right}
use Rattle.filer_state.specs.totals.FilesystemStatus.{space_held, filesystem_status_told, filesystem_status_answer}
use Rattle.filer_state.specs.totals.FilesystemStatusLaws.{fsstat_call}

-- the volume that is told of stays
told-stays : (volume : VolumeState) (fileid : ℕ) (o : Option Node)
    → volume ≡ volume_left volume (on_node o (λ node. Tells (FsstatDone (shown volume fileid node) (space volume))))
told-stays volume fileid None = refl
told-stays volume fileid (Some node) = refl

module _ (p : VolumeContents) (well : WellFormed p) where
  -- the model's space is that of the volume's own counts
  space-is : space_held (volume_lens.of p) ≡ space (volume_of p)
  space-is =
      let used = sym (used-is p well) in
      let inodes = sym (len-map_values (node_of p.stripes p.logical.directories p.logical.texts) nat_cmp_total nat_cmp-IsAntisymmetric p.logical.inodes.inodes) in
      λ j. record (space_held (volume_lens.of p)) {
        free_bytes = block_size * (p.logical.dead.range_blocks * ranges_used p.ranges - used j);
        free_inodes = p.logical.most_inodes - inodes j;
      }

  by_inode : (fileid : ℕ) (o : Option Inode) → get p.logical.inodes.inodes fileid ≡ o
      → filesystem_status_told p.number fileid (volume_lens.of p) o
      ≡ answer_of 1 (on_node (option_map (node_of p.stripes p.logical.directories p.logical.texts fileid) o)
      (λ node. Tells (FsstatDone (shown (volume_of p) fileid node) (space (volume_of p)))))
  by_inode fileid None e = refl
  by_inode fileid (Some inode) e =
      let shows = sym (node-shown p well fileid inode e) in
      λ j. FsstatDone (shows j) (space-is j)

  space-told : (handle : List ℕ) (node : Affinity) (fileid : ℕ)
      → filesystem_status_answer p.number fileid (volume_lens.of p) ≡ answer_on (fsstat_call handle node fileid) p
  space-told handle node fileid =
      by_inode fileid (get p.logical.inodes.inodes fileid) refl
      ∙ ap (λ (o : Option Node). answer_of 1 (on_node o (λ node. Tells (FsstatDone (shown (volume_of p) fileid node) (space (volume_of p))))))
      (sym (node-at p fileid))

pub fsstat-right : (v fileid : ℕ) (handle : List ℕ) (node : Affinity) (set : VolumeSet)
    → RunsOn v volume_lens (fsstat_call handle node fileid) set (Replied (Success (filesystem_status_answer v fileid set))) set
fsstat-right v fileid handle node set =
    reads-right v volume_lens (WorksOn (fsstat_call handle node fileid)) set (Replied (Success (filesystem_status_answer v fileid set))) (λ p. refl)
    (λ p hands made numbered has sound.
    let told : filesystem_status_answer v fileid set ≡ answer_on (fsstat_call handle node fileid) p =
    sym (ap (λ (n : ℕ). filesystem_status_answer n fileid (volume_lens.of p)) numbered ∙ ap (filesystem_status_answer v fileid) has)
    ∙ space-told p sound.well_formed handle node fileid in
    (refl, ap Success told, told-stays (volume_of p) fileid (get (volume_of p).nodes fileid), refl))
