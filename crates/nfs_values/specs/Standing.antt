use Rattle.nfs_model.specs.Standing as model
use Rattle.nfs_values.specs.declared.standing.Squash.{Squash}
use Rattle.nfs_values.specs.declared.standing.Squash.TheVariants.{NoOne, Root, Everyone}
use Rattle.nfs_values.specs.declared.standing.Standing.{Standing}

abbrev pub squash_of : Squash → model.Squash
squash_of NoOne = model.NoOne
squash_of Root = model.Root
squash_of Everyone = model.Everyone

-- how callers stand, as the model has it
abbrev pub standing_of : Standing → model.Standing
standing_of s = record {
  checked = s.is_checked;
  reads_only = s.reads_only;
  squash = squash_of s.squash;
  anonymous_uid = s.anonymous_uid;
  anonymous_gid = s.anonymous_gid;
}
