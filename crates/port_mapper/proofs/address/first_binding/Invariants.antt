use Rattle.std.proofs.Common.{◌≡◌, drop, find}
use Rattle.port_mapper.specs.Addresses.{is_binding}
use Rattle.port_mapper.proofs.address.first_binding.Given as goal

-- The first of all is the first of what is left.
abbrev pub invariant-loop-each : goal.invariant-loop-each
invariant-loop-each l =
    find (is_binding l.reached l.program l.version l.netid) (drop l.each-index l.registered)
    ≡ find (is_binding l.reached l.program l.version l.netid) l.registered
