-- What a MKNOD is to make (RFC 1813 section 3.3.11).
use Rattle.std.proofs.Common.{inl, inr}
use Rattle.xdr.specs.Shape.{Value}
use Rattle.nfs_values.specs.Set.{set_of}
use Rattle.nfs_types.specs.Shapes.{set_value, mknod_shape}
use Rattle.nfs_types.specs.declared.decode.DeviceToMake.{DeviceToMake}
use Rattle.nfs_types.specs.declared.decode.DeviceToMake.TheVariants.{Character, Block, Socket, Fifo, Regular, Directory, SymbolicLink}

-- as its type has it
abbrev pub mknod_value : DeviceToMake → Value mknod_shape
mknod_value (Character set numbers) = inl (set_value (set_of set), numbers)
mknod_value (Block set numbers) = inr (inl (set_value (set_of set), numbers))
mknod_value (Socket set) = inr (inr (inl (set_value (set_of set))))
mknod_value (Fifo set) = inr (inr (inr (inl (set_value (set_of set)))))
mknod_value Regular = inr (inr (inr (inr (inl tt))))
mknod_value Directory = inr (inr (inr (inr (inr (inl tt)))))
mknod_value SymbolicLink = inr (inr (inr (inr (inr (inr (inl tt))))))
