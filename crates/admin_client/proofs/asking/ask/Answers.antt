use Rattle.std.proofs.Common.{List, ℕ, true, subst, ◌∙◌}
use Rattle.std.specs.Io.KnownBytes.{Appends}
use Rattle.rpc_record.specs.Records.{fragment}
use Rattle.admin_client.specs.declared.asking.TheConstants.{XID}
use Rattle.admin_client.specs.Asking.{call_bytes}
use Rattle.admin_client.proofs.Over.{reply_next}
use Rattle.admin_client.proofs.asking.ask.Goals as goal

pub returns-in-Ok-clause-reply : goal.returns-in-Ok-clause-reply
returns-in-Ok-clause-reply g c =
    let Written : List ℕ → Type 0 = λ bytes. Appends (g.S.Write.contents c.args.stream.now) (g.S.Write.contents c.write_all.new.self) bytes in
    reply_next g.S.Write.contents g.S.Read.remaining (λ made. made.items) c.args.stream.now c.write_all.new.self (fragment true (call_bytes XID c.args.user c.args.call))
    c.next_record.result (subst Written (c.deref.ensures.value ∙ c.in_ok-message.ensures) c.in-Ok.ensures.bytes) c.next_record.ensures.next
