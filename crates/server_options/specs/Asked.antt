-- What a server may be asked for.
use Rattle.std.specs.Prelude.{◌≡◌, ℕ, ◌+◌, ◌*◌, ◌/◌, ◌<◌, ◌≤◌, ◌⊎◌, max}
use Rattle.nfs_model.specs.Server.{block_size, root_of_root}
use Rattle.nfs_model.specs.volume.Inodes.{inodes_of_a_volume}
use Rattle.nfs_model.specs.volume.Ranges.{IsRangeSize}
use Rattle.nfs_values.specs.Ownership.{ownership_of}
use Rattle.affinity.specs.Largest.{mebibyte}
use Rattle.server_options.specs.declared.admission.Admission.{Admission}
use Rattle.server_options.specs.declared.admission.WhenFull.TheVariants.{Waits}
use Rattle.server_options.specs.declared.plan.VolumePlan.{VolumePlan}

-- this many volumes and workers
abbrev pub IsInRange : ℕ → ℕ → Type 0
IsInRange volumes workers = (0 < volumes × volumes ≤ 8) × (0 < workers × workers ≤ 64)

-- this many ranges of a volume
abbrev pub AreRanges : ℕ → Type 0
AreRanges ranges = 0 < ranges × ranges ≤ 16

-- the most bytes of a volume, and of a file: 1 TiB
abbrev pub most_size : ℕ
most_size = 1099511627776

-- the inodes of a volume whose sizes aren't given, and the fewest of any
abbrev pub fewest_inodes : ℕ
fewest_inodes = 65536

-- the most steps of a RENAME of a directory of `serve`, and of `export`
abbrev pub usual_steps : ℕ
usual_steps = 4294967295

abbrev pub exported_steps : ℕ
exported_steps = 4096

-- the replies that a volume of `export` remembers, where nothing else is said
abbrev pub exported_replies : ℕ
exported_replies = 4096

-- this many replies that a volume remembers
abbrev pub AreReplies : ℕ → Type 0
AreReplies replies = replies ≤ 65536

-- this many bytes of a volume, from 4 MiB to 1 TiB
abbrev pub IsVolumeSize : ℕ → Type 0
IsVolumeSize bytes = 4 * mebibyte ≤ bytes × bytes ≤ most_size

-- this many bytes of a file, from 16 MiB to 1 TiB
abbrev pub IsFileSize : ℕ → Type 0
IsFileSize bytes = 16 * mebibyte ≤ bytes × bytes ≤ most_size

-- this many inodes of a volume
abbrev pub AreInodes : ℕ → Type 0
AreInodes inodes = fewest_inodes ≤ inodes × inodes ≤ inodes_of_a_volume

-- the plan of `serve`: 4 ranges of 1,024 blocks, 8 stripes, files of 16 MiB, 65,536 inodes, more steps than these, no reply
-- remembered, 16 spare ranges, and roots of uid 0
pub record IsBasic (plan : VolumePlan) : Type 0 where
  pub ranges : plan.ranges ≡ 4
  pub range_blocks : plan.range_blocks ≡ 1024
  pub stripes : plan.stripes ≡ 8
  pub mib : plan.mib ≡ 16
  pub inodes : plan.inodes ≡ fewest_inodes
  pub steps : plan.most_steps ≡ usual_steps
  pub remembered : plan.remembered ≡ 0
  pub spare : plan.spare ≡ 16
  pub root : ownership_of plan.root ≡ root_of_root

-- volumes of this many ranges of 1,024 blocks, with files of 64 MiB and 65,536 inodes, which may grow
pub record HasRanges (ranges : ℕ) (plan : VolumePlan) : Type 0 where
  pub given : plan.ranges ≡ ranges
  pub range_blocks : plan.range_blocks ≡ 1024
  pub stripes : plan.stripes ≡ 8
  pub mib : plan.mib ≡ 64
  pub inodes : plan.inodes ≡ fewest_inodes
  pub steps : plan.most_steps ≡ exported_steps
  pub remembered : plan.remembered ≡ exported_replies
  pub spare : plan.spare ≡ 128
  pub root : ownership_of plan.root ≡ root_of_root

-- the bytes of a range of a volume, and of the volume at the start
abbrev pub range_bytes_of : VolumePlan → ℕ
range_bytes_of plan = block_size * plan.range_blocks

abbrev pub bytes_of : VolumePlan → ℕ
bytes_of plan = plan.ranges * range_bytes_of plan

-- Volumes of at most this many bytes, which may not grow: one more range would be too many, and 16 ranges of half as many blocks too few, unless
-- they have 1,024. Files are as large as the volume, at least 16 MiB, and there is an inode for 16 KiB, but at least 65,536.
pub record HasSize (bytes : ℕ) (plan : VolumePlan) : Type 0 where
  pub size : IsRangeSize plan.range_blocks
  pub most : bytes_of plan ≤ bytes
  pub whole : bytes < bytes_of plan + range_bytes_of plan
  pub fewest : (plan.range_blocks ≡ 1024) ⊎ (8 * range_bytes_of plan < bytes)
  pub stripes : plan.stripes ≡ 8
  pub files : plan.mib ≡ max (bytes_of plan / mebibyte) 16
  pub inodes : plan.inodes ≡ max (bytes_of plan / 16384) fewest_inodes
  pub steps : plan.most_steps ≡ exported_steps
  pub remembered : plan.remembered ≡ exported_replies
  pub spare : plan.spare ≡ 0
  pub root : ownership_of plan.root ≡ root_of_root

-- another plan with files of at most this many bytes, in whole mebibytes, and else the same
pub record HasFiles (bytes : ℕ) (old new : VolumePlan) : Type 0 where
  pub given : new.mib ≡ bytes / mebibyte
  pub ranges : new.ranges ≡ old.ranges
  pub range_blocks : new.range_blocks ≡ old.range_blocks
  pub stripes : new.stripes ≡ old.stripes
  pub inodes : new.inodes ≡ old.inodes
  pub steps : new.most_steps ≡ old.most_steps
  pub remembered : new.remembered ≡ old.remembered
  pub spare : new.spare ≡ old.spare
  pub root : new.root ≡ old.root

-- another plan with this many inodes at most, and else the same
pub record HasInodes (inodes : ℕ) (old new : VolumePlan) : Type 0 where
  pub given : new.inodes ≡ inodes
  pub ranges : new.ranges ≡ old.ranges
  pub range_blocks : new.range_blocks ≡ old.range_blocks
  pub stripes : new.stripes ≡ old.stripes
  pub mib : new.mib ≡ old.mib
  pub steps : new.most_steps ≡ old.most_steps
  pub remembered : new.remembered ≡ old.remembered
  pub spare : new.spare ≡ old.spare
  pub root : new.root ≡ old.root

-- another plan with this many replies remembered, and else the same
pub record RemembersReplies (replies : ℕ) (old new : VolumePlan) : Type 0 where
  pub given : new.remembered ≡ replies
  pub ranges : new.ranges ≡ old.ranges
  pub range_blocks : new.range_blocks ≡ old.range_blocks
  pub stripes : new.stripes ≡ old.stripes
  pub mib : new.mib ≡ old.mib
  pub inodes : new.inodes ≡ old.inodes
  pub steps : new.most_steps ≡ old.most_steps
  pub spare : new.spare ≡ old.spare
  pub root : new.root ≡ old.root

-- how `replay` and `serve` let connections in: 64 are open at most, and others wait
abbrev pub IsUsual : Admission → Type 0
IsUsual admission = (admission.most_open ≡ 64) × (admission.when_full ≡ Waits)

-- this many seconds after which a connection is idle
abbrev pub AreIdleSeconds : ℕ → Type 0
AreIdleSeconds seconds = 0 < seconds × seconds ≤ 86400
