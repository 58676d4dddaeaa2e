use Rattle.std.proofs.Common.{◌≡◌, drop, find}
use Rattle.port_mapper.specs.Registered.{is_mapping}
use Rattle.port_mapper.proofs.registration.first_mapping.Given as goal

-- The first of all is the first of what is left.
abbrev pub invariant-loop-each : goal.invariant-loop-each
invariant-loop-each l =
    find (is_mapping l.program l.version l.protocol) (drop l.each-index l.registered)
    ≡ find (is_mapping l.program l.version l.protocol) l.registered
