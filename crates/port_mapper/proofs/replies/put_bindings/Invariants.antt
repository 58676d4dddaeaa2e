use Rattle.std.proofs.Common.{◌≡◌, ◌++◌, drop, map}
use Rattle.xdr.specs.Shape.{linked, spelling}
use Rattle.port_mapper.specs.Asking.{binding_shape}
use Rattle.port_mapper.specs.Replies.{binding_of}
use Rattle.port_mapper.proofs.replies.put_bindings.Given as goal

-- With what is left to be written, it is what shall be written.
abbrev pub invariant-loop-each : goal.invariant-loop-each
invariant-loop-each l =
    l.out.items ++ linked (λ v. spelling binding_shape v) (map (binding_of l.reached) (drop l.each-index l.registered))
    ≡ l.initial.out.items ++ linked (λ v. spelling binding_shape v) (map (binding_of l.reached) l.registered)
