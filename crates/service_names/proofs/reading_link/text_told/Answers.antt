use Rattle.std.proofs.Common.{ap, sym, ◌∙◌}
use Rattle.std.specs.FinMap.{get}
use Rattle.nfs_model.specs.volume.Logical.{LogicalValue}
use Rattle.inodes.specs.Inode.{inode_value}
use Rattle.filer_state.specs.state.Sets.{logical_before}
use Rattle.service_names.proofs.LinkRead.{a-link}
use Rattle.service_names.proofs.Tying.{on-err}
use Rattle.service_names.proofs.reading_link.text_told.Goals as goal

pub returns-in_err-text-clause-would : goal.returns-in_err-text-clause-would
returns-in_err-text-clause-would c =
    on-err c.from_residual.result (
      _,
      _,
      a-link c.args.volume.0 c.args.fileid.0 (logical_before c.args.held.now) (inode_value c.in-Some.inode)
          (ap (λ (l : LogicalValue). get l.inodes.inodes c.args.fileid.0) (sym c.get-own.ensures) ∙ sym c.in-Some.ensures)
          (sym c.is_symbolic_link.ensures ∙ c.if-not-is_symbolic_link.false),
    )
