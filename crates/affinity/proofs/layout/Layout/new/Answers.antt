use Rattle.std.proofs.Common.{◌≡◌, rules}
use Rattle.affinity.proofs.Tested.{lawful-by}
use Rattle.affinity.proofs.layout.Layout.new.Goals as goal

pub invariant_of-result : goal.invariant_of-result
invariant_of-result c =
    let spare : c.in_ok-to_vec.field-0.items ≡ c.args.aggregates.now = search rules in
    record {
      lawful = lawful-by c.args.aggregates.now c.in_ok-to_vec.field-0.items c.args.volumes.now c.in_ok-with_sizes.field-0.items spare
          c.in_ok-with_sizes.ensures c.in_ok-check.ensures.ok;
    }
