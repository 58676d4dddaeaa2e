-- What is under Volume Logical after bytes are written to a file that grows for it, or whose holes are filled (WRITE, RFC 1813 section
-- 3.3.7): the file reaches at least to the end of the bytes, each hole that they meet is filled with a block of zeros, and the bytes are
-- written over what is there then.
use Rattle.std.specs.Prelude.{ℕ, ◌+◌, ◌-◌, ◌/◌, ◌%◌, max, not, List, [], ◌∷◌, map, length, take, drop, Option, Some, None, slice_set}
use Rattle.std.specs.List.{filter}
use Rattle.std.specs.FinMap.{get}
use Rattle.nfs_model.specs.Types.{Moment}
use Rattle.nfs_model.specs.Server.{block_size}
use Rattle.nfs_model.specs.Home.{span_bytes}
use Rattle.nfs_model.specs.Serial.Write.{blocks_met}
use Rattle.nfs_model.specs.volume.Maps.{changed_at}
use Rattle.nfs_model.specs.volume.Inodes.{InodeKind, Inode, InodesValue, inode_set}
use Rattle.nfs_model.specs.volume.Stripes.{Card, OfFile, OfDirectory, StripeValue, stripe_of, is_filled, block_inserted, overwritten}
use Rattle.filer_state.specs.state.Tree.{home_stripe}
use Rattle.filer_state.specs.state.Kinds.{file_changed}
use Rattle.filer_state.specs.state.Lenses.{LogicalSet}

-- ---- holes

-- the holes of a file that n bytes at an offset meet, in their order
abbrev pub holes : List StripeValue → ℕ → ℕ → ℕ → List ℕ
holes stripes fileid offset n = filter (λ b. not (is_filled (home_stripe stripes fileid b) fileid b)) (blocks_met offset n)

-- ---- the stripes

-- the stripe of a file's block changed
abbrev pub home_changed : ℕ → ℕ → (StripeValue → StripeValue) → List StripeValue → List StripeValue
home_changed fileid block change stripes =
    slice_set stripes (stripe_of (length stripes) fileid block) (change (home_stripe stripes fileid block))

-- blocks of zeros put at places of a file, each under its number
abbrev pub filled_with : ℕ → List ℕ → List ℕ → List StripeValue → List StripeValue
filled_with fileid [] numbers stripes = stripes
filled_with fileid (b ∷ blocks) [] stripes = stripes
filled_with fileid (b ∷ blocks) (n ∷ numbers) stripes = filled_with fileid blocks numbers (home_changed fileid b (block_inserted fileid b n) stripes)

-- a file's card that shows at least a size
abbrev pub card_grown : ℕ → Card → Card
card_grown end (OfFile size touch owner) = OfFile (max size end) touch owner
card_grown end OfDirectory = OfDirectory

abbrev pub stripe_grown : ℕ → ℕ → StripeValue → StripeValue
stripe_grown fileid end s = record s { cards = changed_at (card_grown end) fileid s.cards }

-- bytes of one span, if there are any, written in its stripe
abbrev pub span_written : ℕ → ℕ → List ℕ → Moment → List StripeValue → List StripeValue
span_written fileid offset [] moment stripes = stripes
span_written fileid offset (x ∷ written) moment stripes =
    home_changed fileid (offset / block_size) (overwritten fileid offset (x ∷ written) moment) stripes

-- how many bytes there are from an offset to the end of its span
abbrev pub left_of_span : ℕ → ℕ
left_of_span offset = span_bytes - offset % span_bytes

-- bytes of one span or of two, each span's in its stripe
abbrev pub spans_written : ℕ → ℕ → List ℕ → Moment → List StripeValue → List StripeValue
spans_written fileid offset written moment stripes =
    span_written fileid (offset + left_of_span offset) (drop (left_of_span offset) written) moment
    (span_written fileid offset (take (left_of_span offset) written) moment stripes)

-- ---- the inode

-- a file of at least a size, with this many blocks more
abbrev pub kind_extended : ℕ → ℕ → InodeKind → InodeKind
kind_extended end more kind = file_changed (λ size. max size end) (λ filled. filled + more) kind

abbrev pub inode_extended : ℕ → ℕ → Inode → Inode
inode_extended end more inode = record inode { kind = kind_extended end more inode.kind }

-- an inode extended, where it is there
abbrev pub inodes_extended : ℕ → ℕ → ℕ → Option Inode → InodesValue → InodesValue
inodes_extended fileid end more None v = v
inodes_extended fileid end more (Some inode) v = inode_set fileid (inode_extended end more inode) v

-- ---- all of it

-- what is written, and the numbers of the blocks that fill its holes, in their order
pub record Extending : Type 0 where
  pub fileid : ℕ
  pub offset : ℕ
  pub written : List ℕ
  pub moment : Moment
  pub numbers : List ℕ

-- the end of the bytes
abbrev pub end_of : Extending → ℕ
end_of m = m.offset + length m.written

-- the stripes after it
abbrev pub stripes_extended : Extending → List StripeValue → List StripeValue
stripes_extended m stripes =
    spans_written m.fileid m.offset m.written m.moment
    (map (stripe_grown m.fileid (end_of m)) (filled_with m.fileid (holes stripes m.fileid m.offset (length m.written)) m.numbers stripes))

-- what is under Logical after it; the numbers left their part of the volume before
abbrev pub file_extended : Extending → LogicalSet → LogicalSet
file_extended m set = record {
  own = record set.own {
    inodes = inodes_extended m.fileid (end_of m) (length m.numbers) (get set.own.inodes.inodes m.fileid) set.own.inodes;
  };
  stripes = stripes_extended m set.stripes;
}
