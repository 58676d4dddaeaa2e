use Rattle.std.proofs.Common.{◌<◌, rules, append_assoc}
use Rattle.nfs_types.proofs.Exported.{exports_more}
use Rattle.nfs_types.proofs.mounting.+write_exports.Goals as goal

pub returns-clause-items : goal.returns-clause-items
returns-clause-items n c =
    let some : 0 < c.args.count = search rules in
    rw (c.write_exports.ensures.items, c.write_export.ensures.items, c.write.ensures.items, exports_more c.args.first c.args.count some)
    (simp append_assoc)
