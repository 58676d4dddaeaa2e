use Rattle.std.specs.Option.{option_map}
use Rattle.nfs_model.specs.Tree.{Logical}
use Rattle.nfs_values.specs.Answer.{answer_of}
use Rattle.nfs_values.specs.Caller.{caller_of}
use Rattle.nfs_values.specs.Moment.{moment_of}
use Rattle.nfs_values.specs.Set.{set_of}
use Rattle.nfs_values.specs.declared.answer.Answer.TheVariants as answers
use Rattle.filer_state.specs.changes.AttributeLaws.{setattr_call}
use Rattle.filer_state.specs.changes.Attributes.{held_setattr}
use Rattle.filer_state.specs.state.Sets.{logical_before}
use Rattle.service_names.proofs.Laws.{right-by}
use Rattle.service_names.proofs.setting.set_attributes.Goals as goal

pub returns-clause-right : goal.returns-clause-right
returns-clause-right c handle =
    right-by c.args.volume.0
    (setattr_call handle (Logical c.args.volume.0) c.args.fileid.0 (set_of c.args.set.now) (option_map moment_of c.args.guard)
    (caller_of c.args.caller.now) (moment_of c.args.moment))
    (logical_before c.args.held.now) _ (answer_of (answers.SetAttributes c.attributes_set.result))
    (held_setattr c.args.volume.0 c.args.fileid.0 (set_of c.args.set.now) (option_map moment_of c.args.guard) (caller_of c.args.caller.now)
    (moment_of c.args.moment)
    (logical_before c.args.held.now))
    (c.setting_calls_are_right.ensures c.args.volume.0 c.args.fileid.0 handle (Logical c.args.volume.0) (set_of c.args.set.now)
    (option_map moment_of c.args.guard) (caller_of c.args.caller.now) (moment_of c.args.moment) (logical_before c.args.held.now))
    c.attributes_set.ensures.answer c.attributes_set.ensures.set
