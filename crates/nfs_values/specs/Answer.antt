use Rattle.std.specs.Prelude.{ℕ, Result, Ok, Err, length, map}
use Rattle.std.specs.List.{range_with_len}
use Rattle.std.specs.Option.{option_map}
use Rattle.nfs_model.specs.Types as model
use Rattle.nfs_model.specs.Serial.Mount.{volume_path}
use Rattle.nfs_values.specs.declared.status.Status.{Status}
use Rattle.nfs_values.specs.declared.attributes.Attributes.{Attributes}
use Rattle.nfs_values.specs.declared.attributes.Change.{Change}
use Rattle.nfs_values.specs.declared.answer.LookupResults.{LookupResults}
use Rattle.nfs_values.specs.declared.answer.AccessResults.{AccessResults}
use Rattle.nfs_values.specs.declared.answer.ReadLinkResults.{ReadLinkResults}
use Rattle.nfs_values.specs.declared.answer.ReadResults.{ReadResults}
use Rattle.nfs_values.specs.declared.answer.WriteResults.{WriteResults}
use Rattle.nfs_values.specs.declared.answer.MakeResults.{MakeResults}
use Rattle.nfs_values.specs.declared.answer.RenameResults.{RenameResults}
use Rattle.nfs_values.specs.declared.answer.LinkResults.{LinkResults}
use Rattle.nfs_values.specs.declared.answer.DirectoryEntry.{DirectoryEntry}
use Rattle.nfs_values.specs.declared.answer.ReadDirectoryResults.{ReadDirectoryResults}
use Rattle.nfs_values.specs.declared.answer.DirectoryEntryPlus.{DirectoryEntryPlus}
use Rattle.nfs_values.specs.declared.answer.ReadDirectoryPlusResults.{ReadDirectoryPlusResults}
use Rattle.nfs_values.specs.declared.answer.FilesystemStatusResults.{FilesystemStatusResults}
use Rattle.nfs_values.specs.declared.answer.FilesystemInfoResults.{FilesystemInfoResults}
use Rattle.nfs_values.specs.declared.answer.PathConfigurationResults.{PathConfigurationResults}
use Rattle.nfs_values.specs.declared.answer.CommitResults.{CommitResults}
use Rattle.nfs_values.specs.declared.answer.VolumeCount.{VolumeCount}
use Rattle.nfs_values.specs.declared.answer.Answer.{Answer}
use Rattle.nfs_values.specs.declared.mount.Exports.{Exports}
use Rattle.nfs_values.specs.declared.procedure.Procedure.{Procedure}
use Rattle.nfs_values.specs.declared.procedure.Procedure.TheVariants as procedures
use Rattle.nfs_values.specs.declared.mount.MountResults.{MountResults}
use Rattle.nfs_values.specs.declared.answer.Answer.TheVariants.{Null, GetAttributes, SetAttributes, Lookup, CheckAccess, ReadLink, Read, Write}
use Rattle.nfs_values.specs.declared.answer.Answer.TheVariants.{Create, MakeDirectory, MakeSymbolicLink, MakeDevice, Remove, RemoveDirectory}
use Rattle.nfs_values.specs.declared.answer.Answer.TheVariants.{Rename, MakeLink, ReadDirectory, ReadDirectoryPlus, FilesystemStatus}
use Rattle.nfs_values.specs.declared.answer.Answer.TheVariants.{FilesystemInfo, PathConfiguration, Commit, Census, Grow, Stop, Mount}
use Rattle.nfs_values.specs.declared.answer.Answer.TheVariants.{ListMounts, ListExports}
use Rattle.nfs_values.specs.Attributes.{shown_of, change_of}
use Rattle.nfs_values.specs.Status.{status_of}

-- ---- what was done, as the model has it

abbrev pub attributes_shown : Attributes → model.Answer
attributes_shown a = model.GetattrDone (shown_of a)

abbrev pub attributes_set : Change → model.Answer
attributes_set change = model.SetattrDone (change_of change)

abbrev pub looked_up : LookupResults → model.Answer
looked_up r = model.LookupDone r.handle (shown_of r.object) (shown_of r.directory)

abbrev pub access_told : AccessResults → model.Answer
access_told r = model.AccessDone (shown_of r.object) r.given

abbrev pub link_read : ReadLinkResults → model.Answer
link_read r = model.ReadlinkDone (shown_of r.object) r.text

abbrev pub bytes_read : ReadResults → model.Answer
bytes_read r = model.ReadDone (length r.bytes) r.eof r.bytes

abbrev pub bytes_written : WriteResults → model.Answer
bytes_written r = model.WriteDone r.count r.verifier.0

abbrev pub node_made : MakeResults → model.Answer
node_made r = model.MadeDone r.handle (shown_of r.object) (change_of r.directory)

abbrev pub name_gone : Change → model.Answer
name_gone directory = model.GoneDone (change_of directory)

abbrev pub name_moved : RenameResults → model.Answer
name_moved r = model.RenameDone (change_of r.from) (change_of r.to)

abbrev pub link_made : LinkResults → model.Answer
link_made r = model.LinkDone (shown_of r.object) (change_of r.directory)

-- an entry of a directory
abbrev pub entry_of : DirectoryEntry → model.Listed
entry_of e = record { cookie = e.cookie.0; name = e.name; fileid = e.fileid.0 }

abbrev pub entries_listed : ReadDirectoryResults → model.Answer
entries_listed r = model.ReaddirDone (shown_of r.directory) (map entry_of r.entries.items) r.eof

-- an entry of a directory, with the attributes and the handle of what it names, where they are told
abbrev pub entry_plus_of : DirectoryEntryPlus → model.ListedPlus
entry_plus_of e = record {
  entry = entry_of e.entry;
  attributes = option_map shown_of e.attributes;
  handle = e.handle;
}

abbrev pub entries_listed_plus : ReadDirectoryPlusResults → model.Answer
entries_listed_plus r =
    model.ReaddirplusDone (shown_of r.directory) (map entry_plus_of r.entries.items) r.eof

-- the space of a filesystem
abbrev pub space_of : FilesystemStatusResults → model.Space
space_of r = record {
  total_bytes = r.total_bytes;
  free_bytes = r.free_bytes;
  inodes = r.inodes;
  free_inodes = r.free_inodes;
}

abbrev pub filesystem_status_told : FilesystemStatusResults → model.Answer
filesystem_status_told r = model.FsstatDone (shown_of r.root) (space_of r)

abbrev pub info_told : FilesystemInfoResults → model.Answer
info_told r = model.FsinfoDone (shown_of r.root) r.largest

abbrev pub path_told : PathConfigurationResults → model.Answer
path_told r = model.PathconfDone (shown_of r.object) r.is_chown_restricted

abbrev pub file_committed : CommitResults → model.Answer
file_committed r = model.CommitDone (change_of r.file) r.verifier.0

-- the blocks of a volume
abbrev pub count_of : VolumeCount → model.VolumeCount
count_of v = record { volume = v.volume.0; total = v.total; used = v.used }

abbrev pub volume_grown : ℕ → model.Answer
volume_grown total = model.GrowDone total

-- the handle of a volume's root
abbrev pub volume_mounted : MountResults → model.Answer
volume_mounted r = model.MountDone r.handle

-- the paths of volumes
abbrev pub volumes_exported : Exports → model.Answer
volumes_exported exports = model.ExportsDone (map volume_path (range_with_len 0 exports.volumes))

-- ---- results, as the model has them

-- what was done, or a failure that leaves out this many optional parts; wcc_data has two (RFC 1813 section 3.3)
abbrev pub result_of : {R : Type 0} → (R → model.Answer) → ℕ → Result R Status → model.Answer
result_of done absent (Ok r) = done r
result_of done absent (Err status) = model.Failed (status_of status) absent

abbrev pub answer_of : Answer → model.Answer
answer_of Null = model.NullDone
answer_of (GetAttributes result) = result_of attributes_shown 0 result
answer_of (SetAttributes result) = result_of attributes_set 2 result
answer_of (Lookup result) = result_of looked_up 1 result
answer_of (CheckAccess result) = result_of access_told 1 result
answer_of (ReadLink result) = result_of link_read 1 result
answer_of (Read result) = result_of bytes_read 1 result
answer_of (Write result) = result_of bytes_written 2 result
answer_of (Create result) = result_of node_made 2 result
answer_of (MakeDirectory result) = result_of node_made 2 result
answer_of (MakeSymbolicLink result) = result_of node_made 2 result
answer_of (MakeDevice result) = result_of node_made 2 result
answer_of (Remove result) = result_of name_gone 2 result
answer_of (RemoveDirectory result) = result_of name_gone 2 result
answer_of (Rename result) = result_of name_moved 4 result
answer_of (MakeLink result) = result_of link_made 3 result
answer_of (ReadDirectory result) = result_of entries_listed 1 result
answer_of (ReadDirectoryPlus result) = result_of entries_listed_plus 1 result
answer_of (FilesystemStatus result) = result_of filesystem_status_told 1 result
answer_of (FilesystemInfo result) = result_of info_told 1 result
answer_of (PathConfiguration result) = result_of path_told 1 result
answer_of (Commit result) = result_of file_committed 2 result
answer_of (Census volumes) = model.CensusDone (map count_of volumes.items)
answer_of (Grow result) = result_of volume_grown 0 result
answer_of Stop = model.StopDone
answer_of (Mount result) = result_of volume_mounted 0 result
answer_of ListMounts = model.DumpDone
answer_of (ListExports exports) = volumes_exported exports

-- the procedure whose results these are (RFC 1813 section 3.3, appendix I section 5.2, and our profile): NULL of NFS for a
-- reply without results, as of UMNT
abbrev pub procedure_of : Answer → Procedure
procedure_of Null = procedures.Null
procedure_of (GetAttributes results) = procedures.GetAttributes
procedure_of (SetAttributes results) = procedures.SetAttributes
procedure_of (Lookup results) = procedures.Lookup
procedure_of (CheckAccess results) = procedures.CheckAccess
procedure_of (ReadLink results) = procedures.ReadLink
procedure_of (Read results) = procedures.Read
procedure_of (Write results) = procedures.Write
procedure_of (Create results) = procedures.Create
procedure_of (MakeDirectory results) = procedures.MakeDirectory
procedure_of (MakeSymbolicLink results) = procedures.MakeSymbolicLink
procedure_of (MakeDevice results) = procedures.MakeDevice
procedure_of (Remove results) = procedures.Remove
procedure_of (RemoveDirectory results) = procedures.RemoveDirectory
procedure_of (Rename results) = procedures.Rename
procedure_of (MakeLink results) = procedures.MakeLink
procedure_of (ReadDirectory results) = procedures.ReadDirectory
procedure_of (ReadDirectoryPlus results) = procedures.ReadDirectoryPlus
procedure_of (FilesystemStatus results) = procedures.FilesystemStatus
procedure_of (FilesystemInfo results) = procedures.FilesystemInfo
procedure_of (PathConfiguration results) = procedures.PathConfiguration
procedure_of (Commit results) = procedures.Commit
procedure_of (Census results) = procedures.Census
procedure_of (Grow results) = procedures.Grow
procedure_of Stop = procedures.Stop
procedure_of (Mount results) = procedures.Mount
procedure_of ListMounts = procedures.ListMounts
procedure_of (ListExports results) = procedures.ListExports
