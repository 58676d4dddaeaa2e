-- How many names a node has, beside what it says (nlink of fattr3, RFC 1813 section 2.6).
use Rattle.std.specs.Prelude.{◌≡◌, ℕ, ◌+◌, ◌==◌, List, [], ◌∷◌, Option, Some, None, if◌then◌else◌}
use Rattle.std.specs.FinMap.{get, entries}
use Rattle.nfs_model.specs.Types.{Listed}
use Rattle.nfs_model.specs.Server.{Node, File, Directory, Special, VolumeState}
use Rattle.nfs_model.specs.Parts.{count}

-- the entries of a node; only a directory has some
abbrev pub list_in : Node → List Listed
list_in (File f) = []
list_in (Directory d) = d.list
list_in (Special s) = []

-- how often a fileid is named in a node
abbrev pub names_in : ℕ → Node → ℕ
names_in fileid node = count (λ (e : Listed). e.fileid == fileid) (list_in node)

-- how often it is named in nodes
abbrev pub names_among : ℕ → List (ℕ × Node) → ℕ
names_among fileid [] = 0
names_among fileid (e ∷ es) = names_in fileid e.1 + names_among fileid es

-- how many names a node says that it has: a directory has one, but the root, of fileid 1, has none
abbrev pub names_said : ℕ → Option Node → ℕ
names_said fileid None = 0
names_said fileid (Some (File f)) = f.links
names_said fileid (Some (Directory d)) = if fileid == 1 then 0 else 1
names_said fileid (Some (Special s)) = s.links

-- Each node has just as many names as it says, and what is named is there.
abbrev pub NamesAgree : VolumeState → Type 0
NamesAgree volume = (fileid : ℕ) → names_among fileid (entries volume.nodes) ≡ names_said fileid (get volume.nodes fileid)
