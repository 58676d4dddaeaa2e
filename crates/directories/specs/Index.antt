-- The index of a directory: the cookies of its entries in the order of their names' hashes.
use Rattle.std.specs.Prelude.{◌≡◌, ℕ, ◌-◌, ◌/◌, ◌<◌, ◌≤◌, Bool, List, [], ◌==◌, Option, Some, None, map, take, drop, length}
use Rattle.std.specs.List.{AllByRecursion, list_any, slice_get}
use Rattle.std.specs.Option.{option_map}
use Rattle.std.specs.List.Sorted.{IsStrictlySortedBy}
use Rattle.std.specs.Ordering.{nat_cmp, on, ordering_then}
use Rattle.std.specs.declared.cmp.Ordering.{Ordering}
use Rattle.std.specs.declared.cmp.Ordering.TheVariants.{Less, Greater}
use Rattle.std.specs.Cmp.Lexicographic.{slice_cmp}
use Rattle.nfs_model.specs.Types.{Listed}
use Rattle.nfs_values.specs.declared.number.Cookie.{Cookie}
use Rattle.nfs_values.specs.declared.number.Fileid.{Fileid}
use Rattle.nfs_model.specs.volume.Directories.{DirectoryValue, IsDirectory}
use Rattle.directories.specs.declared.spot.Spot.{Spot}
use Rattle.directories.specs.Entries.{under, has}
use Rattle.directories.specs.Hash.{name_hash}

-- the cookies of spots
abbrev pub cookies : List Spot → List Cookie
cookies spots = map (λ (s : Spot). s.cookie) spots

-- the order of names: by their hashes, and by their bytes where these are the same
abbrev pub name_cmp : List ℕ → List ℕ → Ordering
name_cmp x y = ordering_then (nat_cmp (name_hash x) (name_hash y)) (slice_cmp nat_cmp x y)

abbrev pub name_in : Option Listed → List ℕ
name_in None = []
name_in (Some e) = e.name

-- the name of the entry under a cookie
abbrev pub name_under : List Listed → Cookie → List ℕ
name_under es cookie = name_in (under cookie.0 es)

-- the names of these cookies rise
abbrev pub NamesRise : List Listed → List Cookie → Type 0
NamesRise es index = IsStrictlySortedBy (on (name_under es) name_cmp) index

-- each name compares so with a name
abbrev pub AllCompare : List Listed → List ℕ → Ordering → List Cookie → Type 0
AllCompare es name order index = AllByRecursion (λ c. name_cmp (name_under es c) name ≡ order) index

-- whether a cookie is one of these
abbrev pub is_listed : List Cookie → ℕ → Bool
is_listed index cookie = list_any (λ (c : Cookie). c.0 == cookie) index

-- the name at a position of an index
abbrev pub name_at : List Listed → List Cookie → ℕ → Option (List ℕ)
name_at es index position = option_map (name_under es) (slice_get index position)

-- An index has the cookies of all entries and no others, and their names rise.
pub record IsIndex (es : List Listed) (index : List Cookie) : Type 0 where
  pub count : length index ≡ length es
  pub same : (cookie : ℕ) → has es cookie ≡ is_listed index cookie
  pub sorted : NamesRise es index

-- A directory with its index.
pub record IsIndexed (d : DirectoryValue) (by_name : List Cookie) : Type 0 where
  pub directory : IsDirectory d
  pub index : IsIndex d.list by_name

-- each spot has the hash of its entry's name
abbrev pub AreHashed : List Listed → List Spot → Type 0
AreHashed es spots = AllByRecursion (λ (s : Spot). s.hash ≡ name_hash (name_under es s.cookie)) spots

-- a name is at a position of an index
abbrev pub IsAt : DirectoryValue → List Cookie → List ℕ → ℕ → Type 0
IsAt d index name position = name_at d.list index position ≡ Some name

-- A name isn't in an index, and belongs at a position of it.
pub record IsPosition (d : DirectoryValue) (index : List Cookie) (name : List ℕ) (position : ℕ) : Type 0 where
  pub before : AllCompare d.list name Less (take position index)
  pub after : AllCompare d.list name Greater (drop position index)

-- a fileid as a number
abbrev pub fileid_number : Option Fileid → Option ℕ
fileid_number fileid = option_map (λ (f : Fileid). f.0) fileid

-- Names of a hash aren't before the first of these positions of an index, nor at the second or behind it.
pub record IsAround (spots : List Spot) (hash : ℕ) (low : ℕ) (high : ℕ) : Type 0 where
  pub ordered : low ≤ high
  pub within : high ≤ length spots
  pub before : (es : List Listed) (name : List ℕ) → NamesRise es (cookies spots) → AreHashed es spots → name_hash name ≡ hash
      → AllCompare es name Less (take low (cookies spots))
  pub after : (es : List Listed) (name : List ℕ) → NamesRise es (cookies spots) → AreHashed es spots → name_hash name ≡ hash
      → AllCompare es name Greater (drop high (cookies spots))

-- Names of a hash are in one half of an index, between these positions.
pub record IsHalf (spots : List Spot) (hash : ℕ) (low : ℕ) (high : ℕ) : Type 0 where
  pub around : IsAround spots hash low high
  pub half : high - low ≤ length spots / 2
  pub some : 0 < length spots
