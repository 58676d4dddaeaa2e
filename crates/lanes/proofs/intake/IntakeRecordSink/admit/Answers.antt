use Rattle.std.proofs.Common.{◌<◌, sym, subst, rules}
use Rattle.granted_calls.specs.Balance.{Passed}
use Rattle.granted_calls.specs.shared_waiting.Balance.{FitsIn}
use Rattle.scheduler.specs.Messages.{message_at}
use Rattle.granted_calls.specs.Messages.{Fits, Message}
use Rattle.granted_calls.specs.shared_waiting.Passes.{known}
use Rattle.granted_calls.specs.Filers.{layout_in}
use Rattle.lanes.proofs.Counted.{not-full}
use Rattle.granted_calls.specs.lemmas.Fitting.{fits-by}
use Rattle.lanes.proofs.Fitting.{placed}
use Rattle.lanes.proofs.intake.IntakeRecordSink.admit.Goals as goal

pub put_last-requires-clause-key : goal.put_last-requires-clause-key
put_last-requires-clause-key g c = sym c.args.self.now.both.1

pub put_last-requires-clause-fits : goal.put_last-requires-clause-fits
put_last-requires-clause-fits g c =
    let layout = layout_in c.args.self.now.filer.value in
    let v : Passed = known c.args.self.now.pass in
    let asked = c.args.asked.now in
    let m : Message = message_at c.args.origin asked.call asked.caller c.args.affinity c.args.reply_bound in
    subst (λ (x : Message). FitsIn Fits v.key x) (sym c.in_ok-message.ensures.message)
    (fits-by layout v m c.args.self.now.layout (placed layout m c.requires.admitted c.requires.at_home))

pub put_last-requires-clause-place : goal.put_last-requires-clause-place
put_last-requires-clause-place g c =
    let s = c.args.self.now in
    let less : s.waiting < s.most = search rules in
    not-full s.pass s.worker s.waiting s.most s.both s.counted less s.few
