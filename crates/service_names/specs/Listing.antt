-- Pages of a directory with `.` and `..` (RFC 1813 sections 3.3.16 and 3.3.17).
use Rattle.std.specs.Prelude.{ℕ, Bool, not, ◌&&◌, ◌==◌, List, ◌∷◌, length, map, if◌then◌else◌}
use Rattle.nfs_model.specs.Types.{Listed, ListedPlus}
use Rattle.nfs_model.specs.Names.{dot, dot_dot}
use Rattle.nfs_model.specs.Serial.Readdir.{fitting}
use Rattle.nfs_model.specs.Serial.Readdirplus.{fitting_plus, listed_bare}
use Rattle.nfs_model.specs.volume.Directories.{Page}
use Rattle.nfs_model.specs.volume.Logical.{LogicalValue}
use Rattle.filer_state.specs.state.Lenses.{LogicalSet}
use Rattle.filer_state.specs.changes.NameAnswers.{entries_of, entry_told}
use Rattle.nfs_values.specs.Answer.{entry_plus_of}
use Rattle.service_names.specs.declared.listing_plus.PagePlus.{PagePlus}

abbrev pub entry_here : ℕ → List ℕ → ℕ → Listed
entry_here cookie name fileid = record { cookie = cookie; name = name; fileid = fileid }

abbrev pub dot_entry : ℕ → Listed
dot_entry fileid = entry_here 1 dot fileid

abbrev pub dot_dot_entry : ℕ → Listed
dot_dot_entry parent = entry_here 2 dot_dot parent

-- all entries of a directory with this parent
abbrev pub all_under : LogicalValue → ℕ → ℕ → List Listed
all_under own fileid parent = dot_entry fileid ∷ (dot_dot_entry parent ∷ (entries_of own fileid).list)

-- whether a page has no entry though some remain
abbrev pub tells_nothing : Page → Bool
tells_nothing p = (length p.entries == 0) && not p.is_last

-- ---- with attributes and handles

-- what is told of an entry: its name alone, or its node too
abbrev pub entry_if : Bool → ℕ → LogicalSet → Listed → ListedPlus
entry_if is_bare v s e = if is_bare then listed_bare e else entry_told v s e

-- a page with them
pub record PageWithNodes : Type 0 where
  pub entries : List ListedPlus
  pub is_last : Bool  -- whether no entry remains after these

-- as the values have it
abbrev pub page_plus_value : PagePlus → PageWithNodes
page_plus_value p = record { entries = map entry_plus_of p.entries.items; is_last = p.is_last }

-- some of the entries that remain, by what is told of each
abbrev pub with_nodes : (Listed → ListedPlus) → List Listed → List Listed → PageWithNodes
with_nodes told remaining page = record { entries = map told page; is_last = length page == length remaining }

-- the page whose names fit into this many bytes, and which fits whole into this many
abbrev pub page_plus_of : (Listed → ListedPlus) → ℕ → ℕ → List Listed → PageWithNodes
page_plus_of told names room remaining = with_nodes told remaining (fitting_plus room (fitting names remaining))

-- whether a page has no entry though some remain
abbrev pub tells_no_node : PageWithNodes → Bool
tells_no_node p = (length p.entries == 0) && not p.is_last
