use Rattle.std.proofs.Common.{rules, arith, ap, take, ◌∙◌}
use Rattle.std.specs.Int.{w64, from_be_bytes}
use Rattle.std.proofs.lemmas.List.{take_all}
use Rattle.rpc_msg.proofs.Eight.{spelled}
use Rattle.rpc_msg.proofs.handle_form.spell.Goals as goal

pub returns : goal.returns
returns c =
    let bytes = c.args.bytes.now in
    spelled bytes c.from_be_bytes-spelled.result c.args.number c.requires (λ i. omega (arith, c.type_inv.bytes i))
    (search rules) (search rules)
