use Rattle.nfs_model.specs.Tree.{Logical}
use Rattle.nfs_values.specs.Answer.{answer_of}
use Rattle.nfs_values.specs.Moment.{moment_of}
use Rattle.nfs_values.specs.declared.answer.Answer.TheVariants as answers
use Rattle.filer_state.specs.changes.Laws.{remove_call, remove_done}
use Rattle.filer_state.specs.state.Sets.{logical_before}
use Rattle.service_names.proofs.Laws.{right-by}
use Rattle.service_names.proofs.removing.remove.Goals as goal

pub returns-clause-right : goal.returns-clause-right
returns-clause-right c handle =
    right-by c.args.volume.0 (remove_call handle (Logical c.args.volume.0) c.args.directory.0 c.args.name.now (moment_of c.args.moment))
    (logical_before c.args.held.now) _ (answer_of (answers.Remove c.file_removed.result))
    (remove_done c.args.volume.0 c.args.directory.0 c.args.name.now (moment_of c.args.moment) (logical_before c.args.held.now))
    (c.dropping_calls_are_right.ensures.remove c.args.volume.0 c.args.directory.0 handle c.args.name.now (Logical c.args.volume.0)
    (moment_of c.args.moment) (logical_before c.args.held.now))
    c.file_removed.ensures.answer c.file_removed.ensures.set
