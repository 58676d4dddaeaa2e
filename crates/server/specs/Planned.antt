-- The layout of a server's volumes.
use Rattle.std.specs.Prelude.{◌≡◌, ℕ, [], ◌∷◌, replicate}
use Rattle.nfs_model.specs.Types.{Moment}
use Rattle.nfs_model.specs.Tree as trees
use Rattle.nfs_values.specs.Ownership.{ownership_of}
use Rattle.server_options.specs.declared.plan.VolumePlan.{VolumePlan}

-- a volume of a plan that begins at a moment, on the first aggregate
abbrev pub volume_planned : VolumePlan → Moment → trees.VolumeLayout
volume_planned plan begun = record {
  aggregate = 0;
  ranges = plan.ranges;
  stripes = plan.stripes;
  mebibytes = plan.mib;
  range_blocks = plan.range_blocks;
  inodes = plan.inodes;
  most_steps = plan.most_steps;
  begun = begun;
  root = ownership_of plan.root;
  remembered = plan.remembered;
}

-- this many volumes of a plan that begin at a moment, on one aggregate with its spare ranges
pub record IsLaidOut (volumes : ℕ) (plan : VolumePlan) (begun : Moment) (layout : trees.Layout) : Type 0 where
  pub spare : layout.spare ≡ plan.spare ∷ []
  pub volumes_are : layout.volumes ≡ replicate volumes (volume_planned plan begun)
