use Rattle.std.proofs.Common.{◌++◌, ap, ◌∙◌, append_assoc, arith}
use Rattle.xdr.specs.Shape.{word, hyper, counted, spelling}
use Rattle.nfs_values.specs.Answer.{entry_of}
use Rattle.nfs_types.specs.Results.{entry_shape, entry_value}
use Rattle.nfs_types.proofs.Item.{item-kept, length-entry}
use Rattle.nfs_types.proofs.lists.write_item.Goals as goal

pub returns-then-is_short-clause-items : goal.returns-then-is_short-clause-items
returns-then-is_short-clause-items c =
    let fileid = c.args.entry.now.fileid.0 in
    let cookie = c.args.entry.now.cookie.0 in
    let name = c.as_bytes-name.result.now in
    item-kept c.args.out.now.items c.put_item.new.bytes (hyper fileid ++ (counted name ++ hyper cookie)) _ c.append_first.new.out.items _ c.put_item.ensures
    c.append_first.ensures.items (omega (arith, length-entry fileid cookie name, c.size_of_fixed.ensures))
    ∙ ap (λ bytes. c.args.out.now.items ++ (word 1 ++ (hyper fileid ++ (counted bytes ++ hyper cookie)))) c.as_bytes-name.ensures

pub returns-clause-items : goal.returns-clause-items
returns-clause-items c =
    let spelled = spelling entry_shape (entry_value (entry_of c.args.entry.now)) in
    c.write-2.ensures.items ∙ ap (λ out. out ++ spelled) c.write.ensures.items ∙ append_assoc c.args.out.now.items (word 1) spelled
