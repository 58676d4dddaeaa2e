use Rattle.std.proofs.Common.{◌≡◌, ◌-◌, ◌^◌, take}
use Rattle.std.specs.Prelude.{min, sum_by}
use Rattle.admin_client.proofs.volumes.Census.totals.Given as goal

abbrev pub invariant-loop-volume : goal.invariant-loop-volume
invariant-loop-volume l =
    (l.totals.total ≡ min (sum_by (λ v. v.total) (take l.volume-index l.self.volumes.items)) (2 ^ 64 - 1))
    × (l.totals.used ≡ min (sum_by (λ v. v.used) (take l.volume-index l.self.volumes.items)) (2 ^ 64 - 1))
