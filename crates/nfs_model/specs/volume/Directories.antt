-- A directory: its entries, but `.` and `..`, by rising cookies (RFC 1813 section 3.3.16).
use Rattle.std.specs.Prelude.{◌≡◌, ◌≤◌, ℕ, ◌+◌, Bool, false, ◌==◌, List, [], ◌∷◌, ◌++◌, length, Option}
use Rattle.std.specs.List.{AllByRecursion}
use Rattle.std.specs.Option.{option_map}
use Rattle.nfs_model.specs.Types.{Listed}
use Rattle.nfs_model.specs.Names.{same_name, find_name, without_name}
use Rattle.nfs_model.specs.Serial.Readdir.{above_cookie, fitting}

pub record DirectoryValue : Type 0 where
  pub next : ℕ  -- the next cookie
  pub list : List Listed

-- as it is made: `.` and `..` have the cookies 1 and 2
abbrev pub empty_directory : DirectoryValue
empty_directory = record { next = 3; list = [] }

-- ---- what is asked

-- the entry of a name
abbrev pub found : DirectoryValue → List ℕ → Option Listed
found d name = find_name name d.list

-- the fileid of a name
abbrev pub fileid_found : DirectoryValue → List ℕ → Option ℕ
fileid_found d name = option_map (λ (e : Listed). e.fileid) (found d name)

-- a page of entries
pub record Page : Type 0 where
  pub entries : List Listed
  pub is_last : Bool  -- no entry remains after it

-- of the entries that remain, those that fit into this many bytes
abbrev pub page_of : ℕ → List Listed → Page
page_of room remaining = record { entries = fitting room remaining; is_last = length (fitting room remaining) == length remaining }

-- those after a cookie
abbrev pub page : DirectoryValue → ℕ → ℕ → Page
page d cookie room = page_of room (above_cookie cookie d.list)

-- ---- what changes it

-- the entry that a name gets: under the next cookie
abbrev pub entry_added : List ℕ → ℕ → DirectoryValue → Listed
entry_added name fileid d = record { cookie = d.next; name = name; fileid = fileid }

-- one more entry
abbrev pub added : List ℕ → ℕ → DirectoryValue → DirectoryValue
added name fileid d = record { next = d.next + 1; list = d.list ++ (entry_added name fileid d) ∷ [] }

-- the entry of a name gone; its cookie isn't given again
abbrev pub removed : List ℕ → DirectoryValue → DirectoryValue
removed name d = record d { list = without_name name d.list }

-- ---- what holds of it

-- cookies rise from a number on, and are below the next one
abbrev pub Rises : ℕ → List Listed → ℕ → Type 0
Rises low [] next = low ≤ next
Rises low (e ∷ es) next = (low ≤ e.cookie) × Rises (e.cookie + 1) es next

-- no other entry of a list has this one's name
abbrev pub IsOnlyOne : Listed → List Listed → Type 0
IsOnlyOne e es = AllByRecursion (λ x. same_name x.name e.name ≡ false) es

-- names differ
abbrev pub NamesDiffer : List Listed → Type 0
NamesDiffer [] = Unit {0}
NamesDiffer (e ∷ es) = IsOnlyOne e es × NamesDiffer es

-- The cookies rise, from 3 on, and the names differ.
pub record IsDirectory (d : DirectoryValue) : Type 0 where
  pub cookies : Rises 3 d.list d.next
  pub names : NamesDiffer d.list
