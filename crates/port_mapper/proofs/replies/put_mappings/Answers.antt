use Rattle.xdr.specs.Shape.{spelling}
use Rattle.port_mapper.specs.Asking.{mapping_shape}
use Rattle.port_mapper.specs.Replies.{mapping_of}
use Rattle.port_mapper.proofs.Appends.{linked_goes_on}
use Rattle.port_mapper.proofs.replies.put_mappings.Goals as goal

pub loop-each-preserved : goal.loop-each-preserved
loop-each-preserved c =
    linked_goes_on (λ v. spelling mapping_shape v) mapping_of c.args.registered.now c.loop-each.each-index _ c.loop-each.out.items
    c.put_bool.new.out.items c.put_mapping.new.out.items _ c.loop-each-test.true c.in_ok-put_bool.ensures.ok c.in_ok-put_mapping.ensures
    c.loop-each.invariant
