use Rattle.std.proofs.Common.{ℕ, List, ◌++◌, ◌∙◌, ap, append_assoc}
use Rattle.std.specs.List.{flat_map}
use Rattle.xdr.specs.Shape.{word}
use Rattle.rpc_msg.proofs.reply.write_accepted.Goals as goal

pub returns-clause-items : goal.returns-clause-items
returns-clause-items c =
    let out : List ℕ = c.args.out.now.items in
    let arm : List ℕ = flat_map word c.args.arm.now in
    let head : List ℕ = c.accepted_head.result in
    c.write_words.ensures.items ∙ ap (λ (l : List ℕ). l ++ arm) c.write_bytes.ensures.items
    ∙ append_assoc out head arm ∙ ap (λ (l : List ℕ). out ++ l) (c.accepted_head.ensures arm)
