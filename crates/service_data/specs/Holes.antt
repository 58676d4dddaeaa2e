-- Holes of a file on their way to be filled: first with blocks of zeros under number 0, which takes memory, then under numbers of their
-- own.
use Rattle.std.specs.Prelude.{◌≡◌, ℕ, ◌+◌, ◌<◌, ◌≤◌, Bool, true, false, nat_lt, List, [], ◌∷◌, ◌++◌, length, Some, Result, Ok, Err, if◌then◌else◌}
use Rattle.std.specs.FinMap.{get}
use Rattle.std.specs.FinSet.{FinSet, len}
use Rattle.std.specs.Ordering.{nat_cmp}
use Rattle.std.specs.declared.alloc.AllocError.{AllocError}
use Rattle.nfs_model.specs.Types.{Moment}
use Rattle.parcels.specs.Filled.{logical_alike}
use Rattle.nfs_model.specs.volume.Inodes.{Inode, InodesValue, filled_blocks}
use Rattle.nfs_model.specs.volume.Stripes.{StripeValue, is_filled, block_inserted, block_numbered}
use Rattle.nfs_model.specs.volume.Logical.{LogicalValue}
use Rattle.filer_state.specs.state.Lenses.{LogicalSet}
use Rattle.filer_state.specs.state.Sets.{FilerLogical, logical_before}
use Rattle.filer_state.specs.state.Tree.{home_stripe}
use Rattle.filer_state.specs.bytes.Extending.{Extending, holes, home_changed, inodes_extended, file_extended}
use Rattle.filer_state.specs.bytes.WritingUp.{Leave, with_stock}
use Rattle.service_data.specs.Stripes.{HasStripes}

-- ---- lists of blocks

-- numbers rise from one on
abbrev pub Rise : ℕ → List ℕ → Type 0
Rise low [] = Unit {0}
Rise low (b ∷ blocks) = (low ≤ b) × Rise (b + 1) blocks

-- blocks of a file are holes
abbrev pub AreHoles : ℕ → List StripeValue → List ℕ → Type 0
AreHoles fileid stripes [] = Unit {0}
AreHoles fileid stripes (b ∷ blocks) = (is_filled (home_stripe stripes fileid b) fileid b ≡ false) × AreHoles fileid stripes blocks

-- a block after others, where it is a hole
abbrev pub with_hole : Bool → ℕ → List ℕ → List ℕ
with_hole filled block found = if filled then found else found ++ block ∷ []

-- ---- the stripes

-- holes filled with zeros, all under number 0
abbrev pub zeroed : ℕ → List ℕ → List StripeValue → List StripeValue
zeroed fileid [] stripes = stripes
zeroed fileid (b ∷ blocks) stripes = zeroed fileid blocks (home_changed fileid b (block_inserted fileid b 0) stripes)

-- blocks under other numbers
abbrev pub renumbered : ℕ → List ℕ → List ℕ → List StripeValue → List StripeValue
renumbered fileid [] numbers stripes = stripes
renumbered fileid (b ∷ blocks) [] stripes = stripes
renumbered fileid (b ∷ blocks) (n ∷ numbers) stripes =
    renumbered fileid blocks numbers (home_changed fileid b (block_numbered fileid b n) stripes)

-- ---- what is held

-- with another stock
abbrev pub stock_held : FinSet nat_cmp → LogicalValue → LogicalValue
stock_held stock l = record l { stock = stock }

-- blocks have numbers of the stock
pub record TakesNumbers {P : Type 0} (fileid : ℕ) (blocks : List ℕ) (old new : FilerLogical P) : Type 0 where
  pub numbers : List ℕ
  pub as_many : length numbers ≡ length blocks
  pub leave : Leave numbers old.own.stock new.own.stock
  pub own : new.own ≡ stock_held new.own.stock old.own
  pub stripes : (logical_before new).stripes ≡ renumbered fileid blocks numbers (logical_before old).stripes
  pub alike : logical_alike old new
  pub there : HasStripes new

-- with the inode of a file extended, if it is there
abbrev pub inode_extended_in : ℕ → ℕ → ℕ → LogicalValue → LogicalValue
inode_extended_in fileid end more l = record l { inodes = inodes_extended fileid end more (get l.inodes.inodes fileid) l.inodes }

-- Counts of blocks leave room for more.
pub record HasRoom (fileid : ℕ) (v : InodesValue) : Type 0 where
  pub used : v.used < 9223372036854775808
  pub filled : (inode : Inode) → get v.inodes fileid ≡ Some inode → filled_blocks inode.kind < 2147483648

-- ---- all of it

-- bytes to be written at an offset, at a moment
abbrev pub extending_by : ℕ → ℕ → List ℕ → Moment → List ℕ → Extending
extending_by fileid offset written moment numbers =
    record { fileid = fileid; offset = offset; written = written; moment = moment; numbers = numbers }

-- a file is extended, its holes filled from the stock
pub record ExtendsFile (fileid offset : ℕ) (written : List ℕ) (moment : Moment) (old new : LogicalSet) : Type 0 where
  pub numbers : List ℕ
  pub stock : FinSet nat_cmp
  pub as_many : length numbers ≡ length (holes old.stripes fileid offset (length written))
  pub leave : Leave numbers old.own.stock stock
  pub set : new ≡ file_extended (extending_by fileid offset written moment numbers) (with_stock stock old)

-- what it comes to: done, left to a move where the stock is short, or memory ran out
abbrev pub Extends : ℕ → ℕ → List ℕ → Moment → LogicalSet → Result Bool AllocError → LogicalSet → Type 0
Extends fileid offset written moment old (Ok true) new =
    (nat_lt (len old.own.stock) (length (holes old.stripes fileid offset (length written))) ≡ false)
    × ExtendsFile fileid offset written moment old new
Extends fileid offset written moment old (Ok false) new =
    (nat_lt (len old.own.stock) (length (holes old.stripes fileid offset (length written))) ≡ true) × (new ≡ old)
Extends fileid offset written moment old (Err e) new =
    (nat_lt (len old.own.stock) (length (holes old.stripes fileid offset (length written))) ≡ false)
    × (0 < length (holes old.stripes fileid offset (length written))) × (new ≡ old)
