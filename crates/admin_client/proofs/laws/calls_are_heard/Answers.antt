use Rattle.admin_client.proofs.Heard.{call_is_heard}
use Rattle.admin_client.proofs.laws.calls_are_heard.Goals as goal

pub returns : goal.returns
returns c = call_is_heard c.call_heads_are_exact.ensures.any_again
