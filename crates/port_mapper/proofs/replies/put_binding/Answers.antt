use Rattle.std.proofs.Common.{◌++◌, ap, ◌∙◌}
use Rattle.std.proofs.lemmas.Result.{on_ok_weaker}
use Rattle.xdr.specs.Shape.{counted}
use Rattle.port_mapper.proofs.Appends.{joined_four}
use Rattle.port_mapper.proofs.replies.put_binding.Goals as goal

pub returns : goal.returns
returns c =
    let netid = c.in_ok-put_opaque.ensures.ok ∙ ap (λ bytes. c.put_words.new.out.items ++ counted bytes) c.netid_of.ensures in
    on_ok_weaker c.put_opaque-2.result
    (λ owner. joined_four c.args.out.now.items c.put_words.new.out.items c.put_opaque.new.out.items c.put_address.new.out.items
    c.put_opaque-2.new.out.items _ _ _ _ c.in_ok-put_words.ensures netid c.in_ok-put_address.ensures owner)
    c.put_opaque-2.ensures.ok
