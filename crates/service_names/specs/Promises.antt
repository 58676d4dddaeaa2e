-- What the calls on names promise, on the parcels of a volume.
use Rattle.std.specs.Prelude.{ℕ, false, Result, Ok, Err, List, [], Option}
use Rattle.nfs_model.specs.Types as types
use Rattle.nfs_model.specs.Types.{Moment, Caller, Success}
use Rattle.nfs_model.specs.Tree.{Logical}
use Rattle.nfs_values.specs.Answer.{answer_of}
use Rattle.nfs_values.specs.declared.answer.Answer.{Answer}
use Rattle.nfs_values.specs.declared.answer.Answer.TheVariants as answers
use Rattle.nfs_values.specs.declared.answer.Answer.TheVariants.{Lookup, CheckAccess, ReadDirectory, ReadDirectoryPlus}
use Rattle.nfs_values.specs.declared.answer.Answer.TheVariants.{ReadLink, FilesystemInfo, PathConfiguration, Commit, Mount}
use Rattle.nfs_values.specs.declared.answer.ReadLinkResults.{ReadLinkResults}
use Rattle.nfs_values.specs.declared.answer.LinkResults.{LinkResults}
use Rattle.nfs_values.specs.declared.answer.MakeResults.{MakeResults}
use Rattle.nfs_values.specs.declared.attributes.Change.{Change}
use Rattle.nfs_values.specs.declared.answer.LookupResults.{LookupResults}
use Rattle.nfs_values.specs.declared.answer.ReadDirectoryResults.{ReadDirectoryResults}
use Rattle.nfs_values.specs.declared.answer.ReadDirectoryPlusResults.{ReadDirectoryPlusResults}
use Rattle.nfs_values.specs.declared.answer.AccessResults.{AccessResults}
use Rattle.nfs_values.specs.declared.answer.FilesystemInfoResults.{FilesystemInfoResults}
use Rattle.nfs_values.specs.declared.answer.PathConfigurationResults.{PathConfigurationResults}
use Rattle.nfs_values.specs.declared.answer.CommitResults.{CommitResults}
use Rattle.nfs_values.specs.declared.mount.MountResults.{MountResults}
use Rattle.nfs_model.specs.Work as works
use Rattle.nfs_model.specs.Work.{Outcome, Starved}
use Rattle.filer_state.specs.state.Running.{RunsOn}
use Rattle.service_names.specs.declared.listing.PageAsked.{PageAsked}
use Rattle.service_names.specs.declared.listing_plus.PagePlusAsked.{PagePlusAsked}
use Rattle.std.specs.declared.alloc.AllocError.{AllocError}
use Rattle.nfs_values.specs.declared.status.Status.{Status}
use Rattle.filer_state.specs.state.Lenses.{LogicalSet, logical_lens}
use Rattle.filer_state.specs.state.Promises.{RightOnVolume}
use Rattle.filer_state.specs.state.Jobs.{Replied}
use Rattle.filer_state.specs.state.Calls.{ServesOn}
use Rattle.filer_state.specs.changes.AttributeLaws.{setattr_call}
use Rattle.filer_state.specs.changes.NameLaws.{lookup_call, readlink_call, readdir_call, readdirplus_call, access_call, fsinfo_call, pathconf_call, commit_call, mount_call}
use Rattle.filer_state.specs.changes.Laws.{create_call, mkdir_call, symlink_call, mknod_call, remove_call, rmdir_call, link_call}

-- An entry of LOOKUP of a name in the directory of a fileid under Logical, with this result, is right: by whatever handle and at
-- whatever moment, and whatever the rest of the volume is (RFC 1813 section 3.3.3).
abbrev pub LooksUp : ℕ → ℕ → List ℕ → LogicalSet → Result LookupResults Status → Type 0
LooksUp v fileid name set result = (handle : List ℕ) (moment : Moment)
    → RightOnVolume v logical_lens (ServesOn (lookup_call handle (Logical v) fileid name moment) false) [] [] set
    (Replied (Success (answer_of (Lookup result)))) set

-- An entry of COMMIT of a fileid, likewise (RFC 1813 section 3.3.21).
abbrev pub Commits : ℕ → ℕ → LogicalSet → Result CommitResults Status → Type 0
Commits v fileid set result = (handle : List ℕ)
    → RightOnVolume v logical_lens (ServesOn (commit_call handle (Logical v) fileid) false) [] [] set
    (Replied (Success (answer_of (Commit result)))) set

-- An entry of ACCESS of a fileid, of these bits for a caller, likewise (RFC 1813 section 3.3.4).
abbrev pub ChecksAccess : ℕ → ℕ → ℕ → Caller → LogicalSet → Result AccessResults Status → Type 0
ChecksAccess v fileid asked caller set result = (handle : List ℕ)
    → RightOnVolume v logical_lens (ServesOn (access_call handle (Logical v) fileid asked caller) false) [] [] set
    (Replied (Success (answer_of (CheckAccess result)))) set

-- An entry of FSINFO of a fileid, likewise (RFC 1813 section 3.3.19).
abbrev pub TellsInfo : ℕ → ℕ → LogicalSet → Result FilesystemInfoResults Status → Type 0
TellsInfo v fileid set result = (handle : List ℕ)
    → RightOnVolume v logical_lens (ServesOn (fsinfo_call handle (Logical v) fileid) false) [] [] set
    (Replied (Success (answer_of (FilesystemInfo result)))) set

-- An entry of PATHCONF of a fileid, likewise (RFC 1813 section 3.3.20).
abbrev pub TellsPath : ℕ → ℕ → Caller → LogicalSet → Result PathConfigurationResults Status → Type 0
TellsPath v fileid caller set result = (handle : List ℕ)
    → RightOnVolume v logical_lens (ServesOn (pathconf_call handle (Logical v) fileid caller) false) [] [] set
    (Replied (Success (answer_of (PathConfiguration result)))) set

-- An entry of MNT of a path below a root, likewise (RFC 1813 appendix I, section 5.2.1).
abbrev pub MountsBelow : ℕ → ℕ → List ℕ → Caller → LogicalSet → Result MountResults Status → Type 0
MountsBelow v fileid path caller set result = (root : List ℕ)
    → RightOnVolume v logical_lens (ServesOn (mount_call root (Logical v) fileid path caller) false) [] [] set
    (Replied (Success (answer_of (Mount result)))) set

-- what a READLINK comes to: a reply, or memory ran out
abbrev pub reading_link_outcome : Result (Result ReadLinkResults Status) AllocError → Outcome
reading_link_outcome (Ok told) = works.Replied (Success (answer_of (ReadLink told)))
reading_link_outcome (Err e) = Starved

-- A run of READLINK of a fileid, likewise (RFC 1813 section 3.3.5).
abbrev pub ReadsLink : ℕ → ℕ → LogicalSet → Result (Result ReadLinkResults Status) AllocError → Type 0
ReadsLink v fileid set result = (handle : List ℕ)
    → RunsOn v logical_lens (readlink_call handle (Logical v) fileid) set (reading_link_outcome result) set

-- what a READDIR comes to: a reply, or memory ran out
abbrev pub listing_outcome : Result (Result ReadDirectoryResults Status) AllocError → Outcome
listing_outcome (Ok told) = works.Replied (Success (answer_of (ReadDirectory told)))
listing_outcome (Err e) = Starved

-- A run of READDIR of a page of the directory of a fileid, likewise (RFC 1813 section 3.3.16).
abbrev pub Lists : ℕ → ℕ → PageAsked → LogicalSet → Result (Result ReadDirectoryResults Status) AllocError → Type 0
Lists v fileid asked set result = (handle : List ℕ)
    → RunsOn v logical_lens (readdir_call handle (Logical v) fileid asked.cookie.0 asked.verifier.0 asked.count) set (listing_outcome result) set

-- what a READDIRPLUS comes to: a reply, or memory ran out
abbrev pub listing_plus_outcome : Result (Result ReadDirectoryPlusResults Status) AllocError → Outcome
listing_plus_outcome (Ok told) = works.Replied (Success (answer_of (ReadDirectoryPlus told)))
listing_plus_outcome (Err e) = Starved

-- A run of READDIRPLUS of a page of the directory of a fileid, likewise (RFC 1813 section 3.3.17).
abbrev pub ListsPlus : ℕ → ℕ → PagePlusAsked → Caller → LogicalSet → Result (Result ReadDirectoryPlusResults Status) AllocError → Type 0
ListsPlus v fileid asked caller set result = (handle : List ℕ)
    → RunsOn v logical_lens
    (readdirplus_call handle (Logical v) fileid asked.cookie.0 asked.verifier.0 asked.names_count asked.count caller) set (listing_plus_outcome result) set

-- ---- calls that change the volume

-- An entry of SETATTR of a fileid, which leaves this, likewise (RFC 1813 section 3.3.2).
abbrev pub SetsAttributes : ℕ → ℕ → types.SetAttributes → Option Moment → Caller → Moment → LogicalSet → Result Change Status
    → LogicalSet → Type 0
SetsAttributes v fileid set guard caller moment old result new = (handle : List ℕ)
    → RightOnVolume v logical_lens (ServesOn (setattr_call handle (Logical v) fileid set guard caller moment) false) [] [] old
    (Replied (Success (answer_of (answers.SetAttributes result)))) new

-- what a call that makes a node comes to: a reply, or memory ran out
abbrev pub making_outcome : (Result MakeResults Status → Answer) → Result (Result MakeResults Status) AllocError → Outcome
making_outcome answer (Ok told) = works.Replied (Success (answer_of (answer told)))
making_outcome answer (Err e) = Starved

-- A run of CREATE of a name in the directory of a fileid, likewise (RFC 1813 section 3.3.8).
abbrev pub Creates : ℕ → ℕ → List ℕ → types.CreateMode → Caller → Moment → LogicalSet → Result (Result MakeResults Status) AllocError
    → LogicalSet → Type 0
Creates v fileid name mode caller moment old result new = (handle : List ℕ)
    → RunsOn v logical_lens (create_call handle (Logical v) fileid name mode caller moment) old (making_outcome answers.Create result) new

-- A run of MKDIR, likewise (RFC 1813 section 3.3.9).
abbrev pub MakesDirectory : ℕ → ℕ → List ℕ → types.SetAttributes → Caller → Moment → LogicalSet → Result (Result MakeResults Status) AllocError
    → LogicalSet → Type 0
MakesDirectory v fileid name set caller moment old result new = (handle : List ℕ)
    → RunsOn v logical_lens (mkdir_call handle (Logical v) fileid name set caller moment) old (making_outcome answers.MakeDirectory result) new

-- A run of SYMLINK, likewise (RFC 1813 section 3.3.10).
abbrev pub MakesSymbolicLink : ℕ → ℕ → List ℕ → types.SetAttributes → List ℕ → Caller → Moment → LogicalSet
    → Result (Result MakeResults Status) AllocError → LogicalSet → Type 0
MakesSymbolicLink v fileid name set text caller moment old result new = (handle : List ℕ)
    → RunsOn v logical_lens (symlink_call handle (Logical v) fileid name set text caller moment) old (making_outcome answers.MakeSymbolicLink result) new

-- A run of MKNOD, likewise (RFC 1813 section 3.3.11).
abbrev pub MakesNode : ℕ → ℕ → List ℕ → types.Kind → types.SetAttributes → Caller → Moment → LogicalSet
    → Result (Result MakeResults Status) AllocError → LogicalSet → Type 0
MakesNode v fileid name kind set caller moment old result new = (handle : List ℕ)
    → RunsOn v logical_lens (mknod_call handle (Logical v) fileid name kind set caller moment) old (making_outcome answers.MakeDevice result) new

-- what a LINK comes to: a reply, or memory ran out
abbrev pub linking_outcome : Result (Result LinkResults Status) AllocError → Outcome
linking_outcome (Ok told) = works.Replied (Success (answer_of (answers.MakeLink told)))
linking_outcome (Err e) = Starved

-- A run of LINK of a node under a name of a directory, likewise (RFC 1813 section 3.3.15).
abbrev pub Links : ℕ → ℕ → ℕ → List ℕ → Moment → LogicalSet → Result (Result LinkResults Status) AllocError → LogicalSet → Type 0
Links v fileid directory_id name moment old result new = (handle directory : List ℕ)
    → RunsOn v logical_lens (link_call handle directory (Logical v) fileid directory_id name moment) old (linking_outcome result) new

-- An entry of REMOVE, likewise (RFC 1813 section 3.3.12).
abbrev pub Removes : ℕ → ℕ → List ℕ → Moment → LogicalSet → Result Change Status → LogicalSet → Type 0
Removes v fileid name moment old result new = (handle : List ℕ)
    → RightOnVolume v logical_lens (ServesOn (remove_call handle (Logical v) fileid name moment) false) [] [] old
    (Replied (Success (answer_of (answers.Remove result)))) new

-- An entry of RMDIR, likewise (RFC 1813 section 3.3.13).
abbrev pub RemovesDirectory : ℕ → ℕ → List ℕ → Moment → LogicalSet → Result Change Status → LogicalSet → Type 0
RemovesDirectory v fileid name moment old result new = (handle : List ℕ)
    → RightOnVolume v logical_lens (ServesOn (rmdir_call handle (Logical v) fileid name moment) false) [] [] old
    (Replied (Success (answer_of (answers.RemoveDirectory result)))) new
