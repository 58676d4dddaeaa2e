use Rattle.std.proofs.Common.{◌≡◌, ◌==◌, map, take, drop, if◌then◌else◌}
use Rattle.nfs_values.proofs.credential.put_for_zero.Given as goal

abbrev pub invariant-loop-gid : goal.invariant-loop-gid
invariant-loop-gid l =
    (take l.gid-index l.gids ≡ map (λ g. if g == 0 then l.other else g) (take l.gid-index l.initial.gids))
    × (drop l.gid-index l.gids ≡ drop l.gid-index l.initial.gids)
