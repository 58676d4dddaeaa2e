use Rattle.nfs_types.proofs.mounting.+write_exports.Given as goal

abbrev pub decreases-write_exports : goal.decreases-write_exports
decreases-write_exports l = l.count
