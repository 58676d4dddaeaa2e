-- What was done or failed, of each procedure.
use Rattle.std.proofs.Common.{◌≡◌, ℕ, Result, Ok, Err, length, map, refl}
use Rattle.xdr.specs.Shape.{Shape, Hyper, Value}
use Rattle.nfs_model.specs.Types as model
use Rattle.nfs_values.specs.declared.status.Status.{Status}
use Rattle.nfs_values.specs.declared.attributes.Attributes.{Attributes}
use Rattle.nfs_values.specs.declared.attributes.Change.{Change}
use Rattle.nfs_values.specs.declared.answer.LookupResults.{LookupResults}
use Rattle.nfs_values.specs.declared.answer.AccessResults.{AccessResults}
use Rattle.nfs_values.specs.declared.answer.ReadLinkResults.{ReadLinkResults}
use Rattle.nfs_values.specs.declared.answer.ReadResults.{ReadResults}
use Rattle.nfs_values.specs.declared.answer.WriteResults.{WriteResults}
use Rattle.nfs_values.specs.declared.answer.MakeResults.{MakeResults}
use Rattle.nfs_values.specs.declared.answer.RenameResults.{RenameResults}
use Rattle.nfs_values.specs.declared.answer.LinkResults.{LinkResults}
use Rattle.nfs_values.specs.declared.answer.ReadDirectoryResults.{ReadDirectoryResults}
use Rattle.nfs_values.specs.declared.answer.ReadDirectoryPlusResults.{ReadDirectoryPlusResults}
use Rattle.nfs_values.specs.declared.answer.FilesystemStatusResults.{FilesystemStatusResults}
use Rattle.nfs_values.specs.declared.answer.FilesystemInfoResults.{FilesystemInfoResults}
use Rattle.nfs_values.specs.declared.answer.PathConfigurationResults.{PathConfigurationResults}
use Rattle.nfs_values.specs.declared.answer.CommitResults.{CommitResults}
use Rattle.nfs_values.specs.declared.mount.MountResults.{MountResults}
use Rattle.nfs_values.specs.Answer.{entry_of, entry_plus_of, entries_listed_plus, space_of, attributes_shown, attributes_set, looked_up}
use Rattle.nfs_values.specs.Answer.{access_told, link_read, link_made, bytes_read, bytes_written, node_made, name_gone, name_moved, entries_listed}
use Rattle.nfs_values.specs.Answer.{filesystem_status_told, info_told, path_told, file_committed, volume_grown, volume_mounted, result_of}
use Rattle.nfs_values.specs.Attributes.{shown_of, change_of}
use Rattle.nfs_types.specs.Shapes.{attributes_shape, attributes_value, change_shape, change_value}
use Rattle.nfs_types.specs.Results.{lookup_shape, lookup_value, access_results_shape, access_value, readlink_shape, readlink_value, linked_shape, linked_value, read_shape, read_value, write_shape}
use Rattle.nfs_types.specs.Results.{write_value, made_shape, made_value, renamed_shape, renamed_value, readdir_shape, readdir_value}
use Rattle.nfs_types.specs.Results.{readdirplus_shape, readdirplus_value, fsstat_shape, fsstat_value, fsinfo_shape, fsinfo_value, pathconf_shape}
use Rattle.nfs_types.specs.Results.{pathconf_value, commit_shape, commit_value, mounted_shape, mounted_value, answer_bytes, done, result_bytes}

arm : {R : Type 0} (shape : Shape) (value : R → Value shape) (told : R → model.Answer) (absent : ℕ)
    → ((r : R) → answer_bytes (told r) ≡ done shape (value r)) → (result : Result R Status)
    → answer_bytes (result_of told absent result) ≡ result_bytes shape value absent result
arm shape value told absent h (Ok r) = h r
arm shape value told absent h (Err status) = refl

pub shown_bytes : (result : Result Attributes Status)
    → answer_bytes (result_of attributes_shown 0 result) ≡ result_bytes attributes_shape (λ a. attributes_value (shown_of a)) 0 result
shown_bytes = arm attributes_shape (λ a. attributes_value (shown_of a)) attributes_shown 0 (λ r. refl)

pub set_bytes : (result : Result Change Status)
    → answer_bytes (result_of attributes_set 2 result) ≡ result_bytes change_shape (λ c. change_value (change_of c)) 2 result
set_bytes = arm change_shape (λ c. change_value (change_of c)) attributes_set 2 (λ r. refl)

pub found_bytes : (result : Result LookupResults Status)
    → answer_bytes (result_of looked_up 1 result) ≡ result_bytes lookup_shape (λ r. lookup_value r.handle (shown_of r.object) (shown_of r.directory)) 1 result
found_bytes = arm lookup_shape (λ r. lookup_value r.handle (shown_of r.object) (shown_of r.directory)) looked_up 1 (λ r. refl)

pub access_bytes : (result : Result AccessResults Status)
    → answer_bytes (result_of access_told 1 result) ≡ result_bytes access_results_shape (λ r. access_value (shown_of r.object) r.given) 1 result
access_bytes = arm access_results_shape (λ r. access_value (shown_of r.object) r.given) access_told 1 (λ r. refl)

pub link_read_bytes : (result : Result ReadLinkResults Status)
    → answer_bytes (result_of link_read 1 result) ≡ result_bytes readlink_shape (λ r. readlink_value (shown_of r.object) r.text) 1 result
link_read_bytes = arm readlink_shape (λ r. readlink_value (shown_of r.object) r.text) link_read 1 (λ r. refl)

pub read_bytes : (result : Result ReadResults Status)
    → answer_bytes (result_of bytes_read 1 result) ≡ result_bytes read_shape (λ r. read_value (length r.bytes) r.eof r.bytes) 1 result
read_bytes = arm read_shape (λ r. read_value (length r.bytes) r.eof r.bytes) bytes_read 1 (λ r. refl)

pub written_bytes : (result : Result WriteResults Status)
    → answer_bytes (result_of bytes_written 2 result) ≡ result_bytes write_shape (λ r. write_value r.count r.verifier.0) 2 result
written_bytes = arm write_shape (λ r. write_value r.count r.verifier.0) bytes_written 2 (λ r. refl)

pub made_bytes : (result : Result MakeResults Status)
    → answer_bytes (result_of node_made 2 result) ≡ result_bytes made_shape (λ r. made_value r.handle (shown_of r.object) (change_of r.directory)) 2 result
made_bytes = arm made_shape (λ r. made_value r.handle (shown_of r.object) (change_of r.directory)) node_made 2 (λ r. refl)

pub gone_bytes : (result : Result Change Status)
    → answer_bytes (result_of name_gone 2 result) ≡ result_bytes change_shape (λ c. change_value (change_of c)) 2 result
gone_bytes = arm change_shape (λ c. change_value (change_of c)) name_gone 2 (λ r. refl)

pub moved_bytes : (result : Result RenameResults Status)
    → answer_bytes (result_of name_moved 4 result) ≡ result_bytes renamed_shape (λ r. renamed_value (change_of r.from) (change_of r.to)) 4 result
moved_bytes = arm renamed_shape (λ r. renamed_value (change_of r.from) (change_of r.to)) name_moved 4 (λ r. refl)

pub link_made_bytes : (result : Result LinkResults Status)
    → answer_bytes (result_of link_made 3 result) ≡ result_bytes linked_shape (λ r. linked_value (shown_of r.object) (change_of r.directory)) 3 result
link_made_bytes = arm linked_shape (λ r. linked_value (shown_of r.object) (change_of r.directory)) link_made 3 (λ r. refl)

pub listed_bytes : (result : Result ReadDirectoryResults Status)
    → answer_bytes (result_of entries_listed 1 result) ≡ result_bytes readdir_shape
    (λ r. readdir_value (shown_of r.directory) (map entry_of r.entries.items) r.eof) 1 result
listed_bytes = arm readdir_shape (λ r. readdir_value (shown_of r.directory) (map entry_of r.entries.items) r.eof) entries_listed 1 (λ r. refl)

pub listed_plus_bytes : (result : Result ReadDirectoryPlusResults Status)
    → answer_bytes (result_of entries_listed_plus 1 result) ≡ result_bytes readdirplus_shape
    (λ r. readdirplus_value (shown_of r.directory) (map entry_plus_of r.entries.items) r.eof) 1 result
listed_plus_bytes =
    arm readdirplus_shape (λ r. readdirplus_value (shown_of r.directory) (map entry_plus_of r.entries.items) r.eof) entries_listed_plus 1 (λ r. refl)

pub space_bytes : (result : Result FilesystemStatusResults Status)
    → answer_bytes (result_of filesystem_status_told 1 result) ≡ result_bytes fsstat_shape (λ r. fsstat_value (shown_of r.root) (space_of r)) 1 result
space_bytes = arm fsstat_shape (λ r. fsstat_value (shown_of r.root) (space_of r)) filesystem_status_told 1 (λ r. refl)

pub info_bytes : (result : Result FilesystemInfoResults Status)
    → answer_bytes (result_of info_told 1 result) ≡ result_bytes fsinfo_shape (λ r. fsinfo_value (shown_of r.root) r.largest) 1 result
info_bytes = arm fsinfo_shape (λ r. fsinfo_value (shown_of r.root) r.largest) info_told 1 (λ r. refl)

pub path_bytes : (result : Result PathConfigurationResults Status)
    → answer_bytes (result_of path_told 1 result) ≡ result_bytes pathconf_shape (λ r. pathconf_value (shown_of r.object) r.is_chown_restricted) 1 result
path_bytes = arm pathconf_shape (λ r. pathconf_value (shown_of r.object) r.is_chown_restricted) path_told 1 (λ r. refl)

pub committed_bytes : (result : Result CommitResults Status)
    → answer_bytes (result_of file_committed 2 result) ≡ result_bytes commit_shape (λ r. commit_value (change_of r.file) r.verifier.0) 2 result
committed_bytes = arm commit_shape (λ r. commit_value (change_of r.file) r.verifier.0) file_committed 2 (λ r. refl)

pub grown_bytes : (result : Result ℕ Status) → answer_bytes (result_of volume_grown 0 result) ≡ result_bytes Hyper (λ n. n) 0 result
grown_bytes = arm Hyper (λ n. n) volume_grown 0 (λ r. refl)

pub mounted_bytes : (result : Result MountResults Status)
    → answer_bytes (result_of volume_mounted 0 result) ≡ result_bytes mounted_shape (λ r. mounted_value r.handle) 0 result
mounted_bytes = arm mounted_shape (λ r. mounted_value r.handle) volume_mounted 0 (λ r. refl)

pub ruleset outcomes = (
  shown_bytes,
  set_bytes,
  found_bytes,
  access_bytes,
  link_read_bytes,
  read_bytes,
  written_bytes,
  made_bytes,
  gone_bytes,
  moved_bytes,
  link_made_bytes,
  listed_bytes,
  listed_plus_bytes,
  space_bytes,
  info_bytes,
  path_bytes,
  committed_bytes,
  grown_bytes,
  mounted_bytes,
)
