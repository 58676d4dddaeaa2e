-- What a volume's layout says by its number: the size of its largest file, how many inodes and steps it has at most, when
-- it began, and how many replies it remembers.
use Rattle.std.specs.Prelude.{ℕ, ◌*◌, Option, Some, None, slice_get}
use Rattle.nfs_model.specs.Types.{Moment, Ownership}
use Rattle.nfs_model.specs.Server.{start_of_times, root_of_root}
use Rattle.nfs_model.specs.Tree.{Layout, VolumeLayout}

-- the mebibytes of the largest file of a volume, if there is one
abbrev pub mebibytes_in : Option VolumeLayout → ℕ
mebibytes_in None = 16
mebibytes_in (Some v) = v.mebibytes

-- the bytes of a mebibyte
abbrev pub mebibyte : ℕ
mebibyte = 1048576

-- the largest size, in bytes, of the files of a volume by its number
abbrev pub largest_of : Layout → ℕ → ℕ
largest_of layout volume = mebibyte * mebibytes_in (slice_get layout.volumes volume)

-- the most inodes of a volume, if there is one
abbrev pub inodes_in : Option VolumeLayout → ℕ
inodes_in None = 65536
inodes_in (Some v) = v.inodes

-- the most inodes of a volume by its number
abbrev pub inodes_of : Layout → ℕ → ℕ
inodes_of layout volume = inodes_in (slice_get layout.volumes volume)

-- the most steps of a RENAME of a directory of a volume, if there is one
abbrev pub steps_in : Option VolumeLayout → ℕ
steps_in None = 4294967295
steps_in (Some v) = v.most_steps

-- the most steps of a RENAME of a directory of a volume by its number
abbrev pub steps_of : Layout → ℕ → ℕ
steps_of layout volume = steps_in (slice_get layout.volumes volume)

-- the times of the root of a volume, if there is one
abbrev pub begun_in : Option VolumeLayout → Moment
begun_in None = start_of_times
begun_in (Some v) = v.begun

-- the times of the root of a volume by its number
abbrev pub begun_of : Layout → ℕ → Moment
begun_of layout volume = begun_in (slice_get layout.volumes volume)

-- who owns the root of a volume as it begins, if there is one
abbrev pub root_in : Option VolumeLayout → Ownership
root_in None = root_of_root
root_in (Some v) = v.root

-- who owns the root of a volume as it begins, by its number
abbrev pub root_of : Layout → ℕ → Ownership
root_of layout volume = root_in (slice_get layout.volumes volume)

-- the most replies that a volume remembers, if there is one
abbrev pub remembered_in : Option VolumeLayout → ℕ
remembered_in None = 0
remembered_in (Some v) = v.remembered

-- the most replies that a volume remembers by its number
abbrev pub remembered_of : Layout → ℕ → ℕ
remembered_of layout volume = remembered_in (slice_get layout.volumes volume)
