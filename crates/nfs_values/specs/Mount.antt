use Rattle.nfs_model.specs.Types as model
use Rattle.nfs_values.specs.declared.mount.MountCall.{MountCall}
use Rattle.nfs_values.specs.declared.mount.MountCall.TheVariants.{Mount, ListMounts, ListExports, Unmount}

-- a call of MOUNT, as the model has it
abbrev pub mount_call_of : MountCall → model.MountCall
mount_call_of (Mount path) = model.Mnt path
mount_call_of ListMounts = model.Dump
mount_call_of ListExports = model.Exports
mount_call_of Unmount = model.Unmount
