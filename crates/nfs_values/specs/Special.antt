use Rattle.std.specs.Prelude.{ℕ}
use Rattle.nfs_model.specs.Types as model
use Rattle.nfs_values.specs.declared.special.Device.{Device}
use Rattle.nfs_values.specs.declared.special.SpecialType.{SpecialType}
use Rattle.nfs_values.specs.declared.special.SpecialType.TheVariants.{SymbolicLink, Fifo, Socket, BlockDevice, CharacterDevice}

-- the numbers of a device, as the model has them
abbrev pub device_of : Device → model.Device
device_of d = record { major = d.major; minor = d.minor }

-- what is neither a regular file nor a directory, as the model has it
abbrev pub special_of : SpecialType → model.SpecialType
special_of SymbolicLink = model.SymbolicLink
special_of Fifo = model.Fifo
special_of Socket = model.Socket
special_of (BlockDevice device) = model.BlockDevice (device_of device)
special_of (CharacterDevice device) = model.CharacterDevice (device_of device)

-- NF3BLK, NF3CHR, NF3LNK, NF3SOCK and NF3FIFO (RFC 1813 section 2.6)
abbrev pub special_word : model.SpecialType → ℕ
special_word (model.BlockDevice device) = 3
special_word (model.CharacterDevice device) = 4
special_word model.SymbolicLink = 5
special_word model.Socket = 6
special_word model.Fifo = 7

-- what rdev shows of all but devices: zero (RFC 1813 section 2.6)
abbrev pub no_device : model.Device
no_device = record { major = 0; minor = 0 }

-- rdev
abbrev pub special_device : model.SpecialType → model.Device
special_device model.SymbolicLink = no_device
special_device model.Fifo = no_device
special_device model.Socket = no_device
special_device (model.BlockDevice device) = device
special_device (model.CharacterDevice device) = device
