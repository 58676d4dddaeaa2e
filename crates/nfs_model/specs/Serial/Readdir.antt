-- READDIR (RFC 1813 section 3.3.16).
use Rattle.std.specs.Prelude.{ℕ, ◌+◌, ◌-◌, ◌*◌, ◌/◌, min, not, ◌&&◌, ◌==◌, nat_lt, nat_le, List, [], ◌∷◌}
use Rattle.std.specs.Prelude.{length, replicate, if◌then◌else◌}
use Rattle.std.specs.List.{filter}
use Rattle.std.specs.FinMap.{get}
use Rattle.nfs_model.specs.Types.{Listed, Shown, ReaddirDone, BadCookie, TooSmall}
use Rattle.nfs_model.specs.Server.{DirectoryNode, Directory, VolumeState, most_bytes}
use Rattle.nfs_model.specs.Shown.{shown}
use Rattle.nfs_model.specs.Names.{same_name, dot, dot_dot}
use Rattle.nfs_model.specs.Locate.{Effect, Fails, Tells, on_directory}

-- all entries of a directory: `.` has cookie 1, `..` has cookie 2
abbrev pub all_listed : ℕ → DirectoryNode → List Listed
all_listed fileid d =
    record { cookie = 1; name = dot; fileid = fileid } ∷
    (record { cookie = 2; name = dot_dot; fileid = d.parent } ∷ d.list)

-- the entries after a cookie
abbrev pub above_cookie : ℕ → List Listed → List Listed
above_cookie cookie es = filter (λ e. nat_lt cookie e.cookie) es

-- the bytes of an entry in a page
abbrev pub entry_size : Listed → ℕ
entry_size e = 24 + 4 * ((length e.name + 3) / 4)

-- the longest beginning that fits into this many bytes
abbrev pub fitting : ℕ → List Listed → List Listed
fitting room [] = []
fitting room (e ∷ es) = if nat_le (entry_size e) room then e ∷ fitting (room - entry_size e) es else []

-- a page, and whether it is the end
abbrev pub page_of : Shown → List Listed → List Listed → Effect
page_of directory remaining page = Tells (ReaddirDone directory page (length page == length remaining))

-- a page that tells something: an entry, or that none remain
abbrev pub paged : ℕ → Shown → List Listed → List Listed → Effect
paged count directory [] page = if nat_lt count 104 then Fails TooSmall else page_of directory [] page
paged count directory (e ∷ es) [] = Fails TooSmall
paged count directory (e ∷ es) (x ∷ xs) = page_of directory (e ∷ es) (x ∷ xs)

-- the page that fits: 104 bytes are for the attributes, the verifier, the end of the list and eof
abbrev pub readdir_from : ℕ → Shown → List Listed → Effect
readdir_from count directory remaining = paged count directory remaining (fitting (count - 104) remaining)

-- STALE, NOTDIR, BAD_COOKIE, TOOSMALL
abbrev pub readdir : ℕ → List ℕ → ℕ → VolumeState → ℕ → Effect
readdir cookie verifier count volume fileid = on_directory (get volume.nodes fileid) (λ d.
    if not (cookie == 0) && not (same_name verifier (replicate 8 0)) then Fails BadCookie
    else readdir_from (min count most_bytes) (shown volume fileid (Directory d))
    (above_cookie cookie (all_listed fileid d)))
