-- What a layout is made from, as the model has it.
use Rattle.std.specs.Prelude.{ℕ, List, map}
use Rattle.nfs_model.specs.Types.{Moment, Ownership}
use Rattle.nfs_model.specs.Server.{start_of_times, root_of_root}
use Rattle.nfs_model.specs.Tree as trees
use Rattle.nfs_values.specs.Moment.{moment_of}
use Rattle.nfs_values.specs.Ownership.{ownership_of}
use Rattle.affinity.specs.declared.specification.AggregateSpec.{AggregateSpec}
use Rattle.affinity.specs.declared.specification.VolumeSpec.{VolumeSpec}
use Rattle.affinity.specs.declared.specification.SizedVolumeSpec.{SizedVolumeSpec}

abbrev pub spare_of : AggregateSpec → ℕ
spare_of a = a.spare

-- a volume with ranges of this many blocks, this many inodes and steps of a RENAME at most, a root of this time and ownership, and
-- this many replies remembered
abbrev pub volume_with : (range_blocks inodes most_steps : ℕ) → Moment → Ownership → (remembered : ℕ) → VolumeSpec → trees.VolumeLayout
volume_with range_blocks inodes most_steps begun root remembered v = record {
  aggregate = v.aggregate;
  ranges = v.ranges;
  stripes = v.stripes;
  mebibytes = v.mib;
  range_blocks = range_blocks;
  inodes = inodes;
  most_steps = most_steps;
  begun = begun;
  root = root;
  remembered = remembered;
}

-- a volume whose sizes aren't given: with ranges of 1,024 blocks, and 65,536 inodes at most; its steps are more than
-- these, its root has the start of all times and is of uid 0, and no reply is remembered
abbrev pub volume_asked : VolumeSpec → trees.VolumeLayout
volume_asked v = volume_with 1024 65536 4294967295 start_of_times root_of_root 0 v

-- a volume with its sizes
abbrev pub volume_sized : SizedVolumeSpec → trees.VolumeLayout
volume_sized v = volume_with v.range_blocks v.inodes v.most_steps (moment_of v.begun) (ownership_of v.root) v.remembered v.volume

-- a volume of 8 stripes, with files of at most 16 mebibytes
abbrev pub ordinary : ℕ → ℕ → trees.VolumeLayout
ordinary aggregate ranges =
    volume_asked (record { aggregate = aggregate; ranges = ranges; stripes = 8; mib = 16 })

abbrev pub layout_in : List AggregateSpec → List VolumeSpec → trees.Layout
layout_in aggregates volumes = record { spare = map spare_of aggregates; volumes = map volume_asked volumes }

abbrev pub sized_layout_in : List AggregateSpec → List SizedVolumeSpec → trees.Layout
sized_layout_in aggregates volumes = record { spare = map spare_of aggregates; volumes = map volume_sized volumes }
