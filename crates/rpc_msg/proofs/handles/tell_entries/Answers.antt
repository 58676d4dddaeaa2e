use Rattle.std.proofs.Common.{refl, option_map}
use Rattle.nfs_values.specs.declared.answer.DirectoryEntryPlus.{DirectoryEntryPlus}
use Rattle.nfs_values.specs.Answer.{entry_plus_of}
use Rattle.rpc_msg.specs.HandleForm.{told_in_run}
use Rattle.rpc_msg.specs.Handles.{listed_with}
use Rattle.rpc_msg.proofs.Entries.{one_more}
use Rattle.rpc_msg.proofs.handles.tell_entries.Goals as goal

pub loop-entry-preserved : goal.loop-entry-preserved
loop-entry-preserved c =
    let l = c.loop-entry in
    let told : DirectoryEntryPlus → DirectoryEntryPlus = λ e. record e { handle = option_map (told_in_run c.args.run) e.handle } in
    rw c.tell_optional.ensures (one_more entry_plus_of (listed_with (told_in_run c.args.run)) told l.entry-index l.entries c.args.entries.now
    c.entry-item.result (λ e. refl) c.loop-entry-test.true l.invariant.0 l.invariant.1)
