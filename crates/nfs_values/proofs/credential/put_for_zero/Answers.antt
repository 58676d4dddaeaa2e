use Rattle.std.proofs.Common.{◌==◌, if◌then◌else◌}
use Rattle.nfs_values.proofs.Groups.{one_mapped}
use Rattle.nfs_values.proofs.credential.put_for_zero.Goals as goal

pub loop-gid-preserved : goal.loop-gid-preserved
loop-gid-preserved c =
    let l = c.loop-gid in
    rw c.unless_zero.ensures (one_mapped (λ g. if g == 0 then c.args.other else g) l.gid-index l.gids c.args.gids.now 0
    c.loop-gid-test.true l.invariant.0 l.invariant.1)
