-- What stands under Volume Logical but its stripes, and the stock and the dead of a volume (our profile).
use Rattle.std.specs.Prelude.{ℕ, List, Option}
use Rattle.std.specs.Ordering.{nat_cmp}
use Rattle.std.specs.FinMap.{FinMap}
use Rattle.std.specs.FinSet.{FinSet}
use Rattle.nfs_model.specs.volume.Directories.{DirectoryValue}
use Rattle.nfs_model.specs.volume.Inodes.{InodesValue}
use Rattle.nfs_model.specs.volume.Ranges.{DeadValue}
use Rattle.nfs_model.specs.Memo.{Memo}

-- the part of a volume that Volume Logical has
pub record LogicalValue : Type 0 where
  pub verifier : List ℕ  -- of writes, fixed for the run
  pub stripes : ℕ  -- of the volume
  pub largest : ℕ  -- size of a file of the volume
  pub most_inodes : ℕ  -- of the volume, the root with them
  pub most_steps : ℕ  -- of directories whose parents a RENAME looks at
  pub inodes : InodesValue
  pub directories : FinMap nat_cmp DirectoryValue  -- by fileid
  pub texts : FinMap nat_cmp (List ℕ)  -- of symbolic links, by fileid
  pub stock : FinSet nat_cmp  -- block numbers for files
  pub dead : DeadValue  -- block numbers left by files, not yet free
  pub memos : List (Option Memo)  -- the places for what is remembered of calls
