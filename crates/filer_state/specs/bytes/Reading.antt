-- What READ answers by a stripe, and by what is under Logical (RFC 1813 section 3.3.6).
use Rattle.std.specs.Prelude.{ℕ, ◌+◌, ◌-◌, min, true, nat_le, List, [], map, Option, Some, None, if◌then◌else◌}
use Rattle.std.specs.List.{range_with_len}
use Rattle.std.specs.FinMap.{get}
use Rattle.nfs_model.specs.Types.{Answer, ReadDone, Failed, Stale, Invalid}
use Rattle.nfs_model.specs.Server.{most_bytes}
use Rattle.nfs_model.specs.volume.Inodes.{Inode}
use Rattle.nfs_model.specs.volume.Stripes.{Card, StripeValue, bytes_read}
use Rattle.filer_state.specs.state.Names.{size_in}
use Rattle.filer_state.specs.state.Tree.{file_byte}
use Rattle.filer_state.specs.state.WellFormed.{size_shown}
use Rattle.filer_state.specs.state.Lenses.{LogicalSet}

-- ---- what is told of a file

-- n bytes, and whether they reach the end of a file of a size
abbrev pub some_told : (ℕ → List ℕ) → ℕ → ℕ → ℕ → Answer
some_told bytes offset size n = ReadDone n (nat_le size (offset + n)) (bytes n)

-- at most this many bytes of a file of a size; at or past its end none. `bytes n` are its n bytes from the offset on
abbrev pub read_told : (ℕ → List ℕ) → ℕ → ℕ → ℕ → Answer
read_told bytes offset most size = if nat_le size offset then ReadDone 0 true [] else some_told bytes offset size (min most (size - offset))

-- a directory has no size: INVAL. A failure has one absent part, attributes, which READ never gives
abbrev pub on_size : Option ℕ → (ℕ → Answer) → Answer
on_size None told = Failed Invalid 1
on_size (Some size) told = told size

-- ---- by a stripe: each has a card of every inode

-- STALE where there is no card
abbrev pub on_card : Option Card → (ℕ → Answer) → Answer
on_card None told = Failed Stale 1
on_card (Some card) told = on_size (size_shown card) told

abbrev pub stripe_read : ℕ → ℕ → ℕ → StripeValue → Answer
stripe_read fileid offset count s = on_card (get s.cards fileid) (read_told (bytes_read s fileid offset) offset (min count most_bytes))

-- ---- by what is under Logical

-- STALE where there is no inode
abbrev pub on_inode : Option Inode → (ℕ → Answer) → Answer
on_inode None told = Failed Stale 1
on_inode (Some inode) told = on_size (size_in inode.kind) told

-- n bytes of a file from an offset on, each from its stripe
abbrev pub bytes_under : List StripeValue → ℕ → ℕ → ℕ → List ℕ
bytes_under stripes fileid offset n = map (file_byte stripes fileid) (range_with_len offset n)

abbrev pub logical_read : ℕ → ℕ → ℕ → LogicalSet → Answer
logical_read fileid offset count s =
    on_inode (get s.own.inodes.inodes fileid) (read_told (bytes_under s.stripes fileid offset) offset (min count most_bytes))
