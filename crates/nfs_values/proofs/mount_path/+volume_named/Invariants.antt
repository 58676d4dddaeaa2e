use Rattle.nfs_values.proofs.mount_path.+volume_named.Given as goal

abbrev pub decreases-volume_named : goal.decreases-volume_named
decreases-volume_named l = l.count
