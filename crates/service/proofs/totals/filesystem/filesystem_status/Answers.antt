use Rattle.std.proofs.Common.{◌≡◌, ◌*◌, ◌-◌, sym, ap, ◌∙◌, Ok, Err, Some}
use Rattle.std.specs.FinMap.{get, len}
use Rattle.nfs_model.specs.Types.{Space, FsstatDone}
use Rattle.nfs_model.specs.Server.{block_size}
use Rattle.nfs_values.specs.declared.status.Status.TheVariants.{Stale}
use Rattle.nfs_model.specs.volume.Inodes.{inode_of}
use Rattle.nfs_model.specs.volume.Logical.{LogicalValue}
use Rattle.inodes.specs.Inode.{inode_value}
use Rattle.filer_state.specs.state.Sets.{volume_before}
use Rattle.filer_state.specs.totals.FilesystemStatus.{space_held, filesystem_status_told}
use Rattle.service_names.specs.lemmas.Whole.{whole-links}
use Rattle.service.proofs.totals.Spaces.{whole-logical, tells-filesystem-status}
use Rattle.service.proofs.totals.filesystem.filesystem_status.Goals as goal

pub returns-in-None : goal.returns-in-None
returns-in-None c =
    let v = c.args.volume.0 in
    let fileid = c.args.fileid.0 in
    let set = volume_before c.args.held.now in
    record {
      right = tells-filesystem-status v fileid set (Err Stale)
          (ap (filesystem_status_told v fileid set) (c.in-None.ensures ∙ ap (λ (l : LogicalValue). inode_of l.inodes fileid) c.get-own.ensures));
    }

pub shown_now-requires-clause-links : goal.shown_now-requires-clause-links
shown_now-requires-clause-links c =
    let set = volume_before c.args.held.now in
    whole-links c.args.volume.0 set.logical (whole-logical c.args.volume.0 set c.requires.whole) c.args.fileid.0 (inode_value c.in-Some.inode)
    (ap (λ (l : LogicalValue). inode_of l.inodes c.args.fileid.0) (sym c.get-own.ensures) ∙ sym c.in-Some.ensures)

pub returns : goal.returns
returns c =
    let v = c.args.volume.0 in
    let fileid = c.args.fileid.0 in
    let set = volume_before c.args.held.now in
    let inode = inode_value c.in-Some.inode in
    let there : Some inode ≡ get set.logical.own.inodes.inodes fileid =
    c.in-Some.ensures ∙ ap (λ (l : LogicalValue). inode_of l.inodes fileid) c.get-own.ensures in
    let counted = c.volume_count-count.ensures.value in
    let free : c.saturating_sub.result ≡ c.volume_count-count.result.total - c.volume_count-count.result.used = c.saturating_sub.ensures in
    let most = ap (λ (l : LogicalValue). l.most_inodes) c.get-own.ensures in
    let all : c.from.result ≡ set.logical.own.most_inodes = c.from.ensures ∙ most in
    let still : c.from-2.result ≡ set.logical.own.most_inodes = c.from-2.ensures ∙ most in
    let many : c.len.result ≡ len set.logical.own.inodes.inodes = c.len.ensures ∙ ap (λ (l : LogicalValue). len l.inodes.inodes) c.get-own.ensures in
    let rest : c.saturating_sub-2.result ≡ set.logical.own.most_inodes - len set.logical.own.inodes.inodes =
    c.saturating_sub-2.ensures ∙ (λ j. still j - many j) in
    let space : Space = record {
      total_bytes = block_size * c.volume_count-count.result.total;
      free_bytes = block_size * c.saturating_sub.result;
      inodes = c.from.result;
      free_inodes = c.saturating_sub-2.result;
    } in
    let spaces : space ≡ space_held set = λ j. record {
      total_bytes = block_size * (counted j).total;
      free_bytes = block_size * (free ∙ (λ i. (counted i).total - (counted i).used)) j;
      inodes = all j;
      free_inodes = rest j;
    } in
    record {
      right = tells-filesystem-status v fileid set
          (Ok (record {
            root = c.shown_now.result;
            total_bytes = block_size * c.volume_count-count.result.total;
            free_bytes = block_size * c.saturating_sub.result;
            inodes = c.from.result;
            free_inodes = c.saturating_sub-2.result;
          }))
          ((λ j. FsstatDone (c.shown_now.ensures j) (spaces j)) ∙ ap (filesystem_status_told v fileid set) there);
    }
