use Rattle.std.proofs.Common.{◌≡◌, ◌<◌, ◌++◌, ℕ, List, length, drop, rules, sym, ap, subst, ◌∙◌}
use Rattle.tcp_front.specs.Writing.{records_of}
use Rattle.connections.specs.Rests.{list_of}
use Rattle.connections.specs.Writing.{IsOutcome}
use Rattle.connections.proofs.OneWrite.{sent-by}
use Rattle.connections.proofs.writing.write_buffer.Goals as goal

pub returns-clause-sent : goal.returns-clause-sent
returns-clause-sent g c =
    let piece = c.deref.result.now in
    let behind = records_of (list_of c.args.alone) in
    let same : piece ≡ c.args.buffer.now.items = c.deref.ensures.value in
    let asked = c.outcome_of-moved.ensures in
    let told = c.write_once.ensures in
    let size : c.len-size.result ≡ length piece = search rules in
    sent-by g.D.Device.unread g.D.Device.written c.args.device.now c.write_once.new.self (c.args.buffer.now.items ++ behind) piece behind
    (ap (λ (l : List ℕ). l ++ behind) (sym same)) told.apart
    (subst (λ (l : List ℕ). 0 < length l) (sym same) c.requires) c.outcome_of-moved.result.0 c.of.result
    (c.of.ensures ∙ ap (λ (l : List ℕ). drop c.outcome_of-moved.result.0 l ++ behind) (sym same)) c.write_once.result
    c.outcome_of-moved.result.1
    (subst (λ (n : ℕ). IsOutcome c.write_once.result n c.outcome_of-moved.result.0 c.outcome_of-moved.result.1) size asked.is)
    told.bound told.bytes told.called
