use Rattle.xdr.specs.Shape.{spelling}
use Rattle.port_mapper.specs.Asking.{binding_shape}
use Rattle.port_mapper.specs.Replies.{binding_of}
use Rattle.port_mapper.proofs.Appends.{linked_goes_on}
use Rattle.port_mapper.proofs.replies.put_bindings.Goals as goal

pub loop-each-preserved : goal.loop-each-preserved
loop-each-preserved c =
    linked_goes_on (λ v. spelling binding_shape v) (binding_of c.args.reached.now) c.args.registered.now c.loop-each.each-index _
    c.loop-each.out.items c.put_bool.new.out.items c.put_binding.new.out.items _ c.loop-each-test.true c.in_ok-put_bool.ensures.ok
    c.in_ok-put_binding.ensures c.loop-each.invariant
