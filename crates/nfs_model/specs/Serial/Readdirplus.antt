-- READDIRPLUS (RFC 1813 section 3.3.17): a page of READDIR's entries, with attributes and handles.
use Rattle.std.specs.Prelude.{ℕ, ◌+◌, ◌-◌, min, not, ◌&&◌, ◌==◌, nat_lt, nat_le, List, [], ◌∷◌, map}
use Rattle.std.specs.Prelude.{length, replicate, Option, Some, None, if◌then◌else◌}
use Rattle.std.specs.FinMap.{get}
use Rattle.nfs_model.specs.Types.{Caller, Listed, ListedPlus, Shown, ReaddirplusDone, BadCookie, TooSmall}
use Rattle.nfs_model.specs.Server.{DirectoryNode, Node, Directory, VolumeState, most_bytes, handle_bytes}
use Rattle.nfs_model.specs.Shown.{shown}
use Rattle.nfs_model.specs.Names.{same_name}
use Rattle.nfs_model.specs.Locate.{Effect, Fails, Tells, on_directory}
use Rattle.nfs_model.specs.Serial.Rights.{protection, may_search}
use Rattle.nfs_model.specs.Serial.Readdir.{all_listed, above_cookie, entry_size, fitting}

-- ---- what is told of an entry

-- the attributes of a node that is there
abbrev pub shown_at : VolumeState → ℕ → Option Node → Option Shown
shown_at volume fileid None = None
shown_at volume fileid (Some node) = Some (shown volume fileid node)

-- an entry with the attributes and the handle of its node
abbrev pub listed_plus : VolumeState → Listed → ListedPlus
listed_plus volume e = record {
  entry = e;
  attributes = shown_at volume e.fileid (get volume.nodes e.fileid);
  handle = Some (handle_bytes volume.number e.fileid);
}

-- an entry alone
abbrev pub listed_bare : Listed → ListedPlus
listed_bare e = record { entry = e; attributes = None; handle = None }

-- what a caller is told of an entry: more than its name where it may search the directory
abbrev pub listed_for : Caller → VolumeState → DirectoryNode → Listed → ListedPlus
listed_for caller volume d e =
    if caller.checked && not (may_search caller.credential (protection (Directory d))) then listed_bare e
    else listed_plus volume e

-- ---- which entries are told

-- The bytes of an entry in a page: 88 more for the attributes, and 28 for a handle of at most 20 bytes
-- (our profile).
abbrev pub entry_plus_size : Listed → ℕ
entry_plus_size e = entry_size e + 116

-- the longest beginning that fits into this many bytes with attributes and handles
abbrev pub fitting_plus : ℕ → List Listed → List Listed
fitting_plus room [] = []
fitting_plus room (e ∷ es) =
    if nat_le (entry_plus_size e) room then e ∷ fitting_plus (room - entry_plus_size e) es else []

-- The entries of a page: of the longest beginning whose names fit into the first count, with fileids and
-- cookies as READDIR has them, the longest one that fits whole into the second. 104 bytes of this are
-- for the attributes, the verifier, the end of the list and eof.
abbrev pub page_plus : ℕ → ℕ → List Listed → List Listed
page_plus names_count count remaining = fitting_plus (count - 104) (fitting names_count remaining)

-- ---- the answer, by what is told of an entry

-- a page, and whether it is the end
abbrev pub page_plus_of : (Listed → ListedPlus) → Shown → List Listed → List Listed → Effect
page_plus_of told directory remaining page =
    Tells (ReaddirplusDone directory (map told page) (length page == length remaining))

-- a page that tells something: an entry, or that none remain
abbrev pub paged_plus : ℕ → (Listed → ListedPlus) → Shown → List Listed → List Listed → Effect
paged_plus count told directory [] page =
    if nat_lt count 104 then Fails TooSmall else page_plus_of told directory [] page
paged_plus count told directory (e ∷ es) [] = Fails TooSmall
paged_plus count told directory (e ∷ es) (x ∷ xs) = page_plus_of told directory (e ∷ es) (x ∷ xs)

-- the page that fits
abbrev pub readdirplus_from : ℕ → ℕ → (Listed → ListedPlus) → Shown → List Listed → Effect
readdirplus_from names_count count told directory remaining =
    paged_plus count told directory remaining (page_plus names_count count remaining)

-- STALE, NOTDIR, BAD_COOKIE, TOOSMALL
abbrev pub readdirplus : ℕ → List ℕ → ℕ → ℕ → Caller → VolumeState → ℕ → Effect
readdirplus cookie verifier names_count count caller volume fileid = on_directory (get volume.nodes fileid) (λ d.
    if not (cookie == 0) && not (same_name verifier (replicate 8 0)) then Fails BadCookie
    else readdirplus_from (min names_count most_bytes) (min count most_bytes) (listed_for caller volume d)
    (shown volume fileid (Directory d)) (above_cookie cookie (all_listed fileid d)))
