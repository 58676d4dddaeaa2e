-- The results of each procedure (RFC 1813 section 3.3) as bytes.
use Rattle.std.specs.Option.{option_map}
use Rattle.std.specs.Prelude.{ℕ, zero, suc, Bool, true, false, ◌+◌, ◌-◌, ◌^◌, List, [], ◌∷◌, ◌++◌, Some, None, Result, Ok, Err, map, replicate}
use Rattle.xdr.specs.Shape.{Shape, Void, Word, Hyper, Boolean, Opaque, Optional, Chain, Array, Value, spelling}
use Rattle.nfs_model.specs.Types as model
use Rattle.nfs_model.specs.Server.{block_size, most_bytes}
use Rattle.nfs_model.specs.Serial.Links.{most_links}
use Rattle.nfs_values.specs.declared.status.Status.{Status}
use Rattle.nfs_values.specs.Status.{status_of}
use Rattle.nfs_types.specs.Shapes.{◌&◌, handle_shape, any_bytes, verifier_shape, attributes_shape, attributes_value, after_shape, change_shape, change_value}
use Rattle.nfs_types.specs.Shapes.{moment_shape, stable_shape}

-- LOOKUP3resok (section 3.3.3): the object's handle and attributes, and the directory's
abbrev pub lookup_shape : Shape
lookup_shape = handle_shape & after_shape & after_shape

abbrev pub lookup_value : List ℕ → model.Shown → model.Shown → Value lookup_shape
lookup_value handle object directory = (handle, (Some (attributes_value object), Some (attributes_value directory)))

-- ACCESS3resok (section 3.3.4): attributes and access
abbrev pub access_results_shape : Shape
access_results_shape = after_shape & Word

abbrev pub access_value : model.Shown → ℕ → Value access_results_shape
access_value object given = (Some (attributes_value object), given)

-- READLINK3resok (section 3.3.5): symlink_attributes and data, a nfspath3
abbrev pub readlink_shape : Shape
readlink_shape = after_shape & any_bytes

abbrev pub readlink_value : model.Shown → List ℕ → Value readlink_shape
readlink_value object text = (Some (attributes_value object), text)

-- READ3resok (section 3.3.6): attributes, count, eof and data
abbrev pub read_shape : Shape
read_shape = after_shape & Word & Boolean & any_bytes

abbrev pub read_value : ℕ → Bool → List ℕ → Value read_shape
read_value count eof bytes = (None, (count, (eof, bytes)))

-- FILE_SYNC (section 3.3.7)
abbrev pub file_sync : ℕ
file_sync = 2

-- WRITE3resok (section 3.3.7): wcc_data, count, committed and verf
abbrev pub write_shape : Shape
write_shape = change_shape & Word & stable_shape & verifier_shape

abbrev pub write_value : ℕ → List ℕ → Value write_shape
write_value count verifier = ((None, None), (count, (file_sync, verifier)))

-- CREATE3resok, MKDIR3resok, SYMLINK3resok and MKNOD3resok (sections 3.3.8 to 3.3.11): the object's handle and attributes, the directory's wcc_data
abbrev pub made_shape : Shape
made_shape = Optional handle_shape & after_shape & change_shape

abbrev pub made_value : List ℕ → model.Shown → model.Wcc → Value made_shape
made_value handle object directory = (Some handle, (Some (attributes_value object), change_value directory))

-- RENAME3resok (section 3.3.14): wcc_data of either directory
abbrev pub renamed_shape : Shape
renamed_shape = change_shape & change_shape

abbrev pub renamed_value : model.Wcc → model.Wcc → Value renamed_shape
renamed_value from to = (change_value from, change_value to)

-- LINK3resok (section 3.3.15): the attributes of what has one more name, and the directory's wcc_data
abbrev pub linked_shape : Shape
linked_shape = after_shape & change_shape

abbrev pub linked_value : model.Shown → model.Wcc → Value linked_shape
linked_value object directory = (Some (attributes_value object), change_value directory)

-- entry3 (section 3.3.16): fileid, name and cookie, before the next
abbrev pub entry_shape : Shape
entry_shape = Hyper & any_bytes & Hyper

abbrev pub entry_value : model.Listed → Value entry_shape
entry_value e = (e.fileid, (e.name, e.cookie))

-- a page of a directory (sections 3.3.16 and 3.3.17): the directory's attributes, cookieverf, and the list of entries with eof
abbrev pub page_shape : Shape → Shape
page_shape entries = after_shape & verifier_shape & entries & Boolean

abbrev pub page_value : (entries : Shape) → model.Shown → Value entries → Bool → Value (page_shape entries)
page_value entries directory page eof = (Some (attributes_value directory), (replicate 8 0, (page, eof)))

abbrev pub page_bytes : (entries : Shape) → model.Shown → Value entries → Bool → List ℕ
page_bytes entries directory page eof = spelling (page_shape entries) (page_value entries directory page eof)

-- READDIR3resok (section 3.3.16)
abbrev pub readdir_shape : Shape
readdir_shape = page_shape (Chain entry_shape)

abbrev pub readdir_value : model.Shown → List model.Listed → Bool → Value readdir_shape
readdir_value directory page eof = page_value (Chain entry_shape) directory (map entry_value page) eof

-- entryplus3 (section 3.3.17): fileid, name, cookie, name_attributes and name_handle, before the next
abbrev pub entry_plus_shape : Shape
entry_plus_shape = Hyper & any_bytes & Hyper & after_shape & Optional handle_shape

abbrev pub entry_plus_value : model.ListedPlus → Value entry_plus_shape
entry_plus_value e = (e.entry.fileid, (e.entry.name, (e.entry.cookie, (option_map attributes_value e.attributes, e.handle))))

-- READDIRPLUS3resok (section 3.3.17)
abbrev pub readdirplus_shape : Shape
readdirplus_shape = page_shape (Chain entry_plus_shape)

abbrev pub readdirplus_value : model.Shown → List model.ListedPlus → Bool → Value readdirplus_shape
readdirplus_value directory page eof = page_value (Chain entry_plus_shape) directory (map entry_plus_value page) eof

-- FSSTAT3resok (section 3.3.18): attributes, tbytes, fbytes, abytes, tfiles, ffiles, afiles and invarsec
abbrev pub fsstat_shape : Shape
fsstat_shape = after_shape & Hyper & Hyper & Hyper & Hyper & Hyper & Hyper & Word

abbrev pub fsstat_value : model.Shown → model.Space → Value fsstat_shape
fsstat_value root space =
    (Some (attributes_value root), (space.total_bytes, (space.free_bytes, (space.free_bytes, (space.inodes, (space.free_inodes, (space.free_inodes, 0)))))))

-- FSF3_LINK 1, FSF3_SYMLINK 2, FSF3_HOMOGENEOUS 8, since PATHCONF tells the same of every object, and FSF3_CANSETTIME 16 (section 3.3.19)
abbrev pub fsinfo_properties : ℕ
fsinfo_properties = 1 + 2 + 8 + 16

-- FSINFO3resok (section 3.3.19): attributes, rtmax, rtpref, rtmult, wtmax, wtpref, wtmult, dtpref, maxfilesize, time_delta and properties
abbrev pub fsinfo_shape : Shape
fsinfo_shape = after_shape & Word & Word & Word & Word & Word & Word & Word & Hyper & moment_shape & Word

-- READ and WRITE by blocks, up to the most bytes that they take; times by the nanosecond
abbrev pub fsinfo_value : model.Shown → ℕ → Value fsinfo_shape
fsinfo_value root largest = (
  Some (attributes_value root),
  (most_bytes, (most_bytes, (block_size, (most_bytes, (most_bytes, (block_size, (most_bytes, (largest, ((0, 1), fsinfo_properties))))))))),
)

-- PATHCONF3resok (section 3.3.20): attributes, linkmax, name_max, no_trunc, chown_restricted, case_insensitive and case_preserving
abbrev pub pathconf_shape : Shape
pathconf_shape = after_shape & Word & Word & Boolean & Boolean & Boolean & Boolean

-- a name of more than 255 bytes is refused, not cut; names that differ in case differ, and are kept as they came (our
-- profile)
abbrev pub pathconf_value : model.Shown → Bool → Value pathconf_shape
pathconf_value object chown_restricted = (Some (attributes_value object), (most_links, (255, (true, (chown_restricted, (false, true))))))

-- COMMIT3resok (section 3.3.21): wcc_data and verf
abbrev pub commit_shape : Shape
commit_shape = change_shape & verifier_shape

abbrev pub commit_value : model.Wcc → List ℕ → Value commit_shape
commit_value file verifier = (change_value file, verifier)

-- CENSUS (our profile): for each volume its number, its blocks and those in files
abbrev pub count_shape : Shape
count_shape = Word & Hyper & Hyper

abbrev pub count_value : model.VolumeCount → Value count_shape
count_value v = (v.volume, (v.total, v.used))

abbrev pub census_shape : Shape
census_shape = Array (2 ^ 32 - 1) count_shape

-- mountres3_ok of MNT (appendix I, section 5.2.1): the handle, and the flavors by which calls may authenticate, AUTH_SYS 1 and AUTH_NONE 0
abbrev pub mounted_shape : Shape
mounted_shape = handle_shape & Array (2 ^ 32 - 1) Word

abbrev pub mounted_value : List ℕ → Value mounted_shape
mounted_value handle = (handle, 1 ∷ 0 ∷ [])

-- name of a host or group, of at most 255 bytes (appendix I, section 5.1.5)
abbrev pub host_shape : Shape
host_shape = Opaque 255

-- dirpath, of at most 1,024 bytes (appendix I, section 5.1.5)
abbrev pub path_told_shape : Shape
path_told_shape = Opaque 1024

-- mountlist of DUMP (appendix I, section 5.2.2): of each mount its host and path
abbrev pub mounts_shape : Shape
mounts_shape = Chain (host_shape & path_told_shape)

-- exportnode of EXPORT (appendix I, section 5.2.5): a path and the groups that may mount it, none of which means everybody
abbrev pub export_shape : Shape
export_shape = path_told_shape & Chain host_shape

abbrev pub export_value : List ℕ → Value export_shape
export_value path = (path, [])

abbrev pub exports_shape : Shape
exports_shape = Chain export_shape

-- NFS3_OK (section 2.5) or MNT3_OK (appendix I, section 5.1.5) and the OK arm
abbrev pub done : (shape : Shape) → Value shape → List ℕ
done shape v = spelling (Word & shape) (0, v)

-- this many optional parts that are absent
abbrev pub absent_bytes : ℕ → List ℕ
absent_bytes zero = []
absent_bytes (suc n) = spelling (Optional Void) None ++ absent_bytes n

-- a status and the failure arm
abbrev pub failed : model.Status → ℕ → List ℕ
failed status absent = spelling Word (model.status_word status) ++ absent_bytes absent

-- The bytes of results. In an OK arm each optional part is there, but for the attributes of READ and WRITE; in a failure arm none is (our profile).
abbrev pub answer_bytes : model.Answer → List ℕ
answer_bytes model.NullDone = spelling Void tt
answer_bytes (model.GetattrDone attributes) = done attributes_shape (attributes_value attributes)
answer_bytes (model.SetattrDone change) = done change_shape (change_value change)
answer_bytes (model.LookupDone handle object directory) = done lookup_shape (lookup_value handle object directory)
answer_bytes (model.AccessDone object given) = done access_results_shape (access_value object given)
answer_bytes (model.ReadlinkDone object text) = done readlink_shape (readlink_value object text)
answer_bytes (model.ReadDone count eof bytes) = done read_shape (read_value count eof bytes)
answer_bytes (model.WriteDone count verifier) = done write_shape (write_value count verifier)
answer_bytes (model.MadeDone handle object directory) = done made_shape (made_value handle object directory)
answer_bytes (model.GoneDone directory) = done change_shape (change_value directory)
answer_bytes (model.RenameDone from to) = done renamed_shape (renamed_value from to)
answer_bytes (model.LinkDone object directory) = done linked_shape (linked_value object directory)
answer_bytes (model.ReaddirDone directory page eof) = done readdir_shape (readdir_value directory page eof)
answer_bytes (model.ReaddirplusDone directory page eof) = done readdirplus_shape (readdirplus_value directory page eof)
answer_bytes (model.FsstatDone root space) = done fsstat_shape (fsstat_value root space)
answer_bytes (model.FsinfoDone root largest) = done fsinfo_shape (fsinfo_value root largest)
answer_bytes (model.PathconfDone object chown_restricted) = done pathconf_shape (pathconf_value object chown_restricted)
answer_bytes (model.CommitDone file verifier) = done commit_shape (commit_value file verifier)
answer_bytes (model.CensusDone volumes) = spelling census_shape (map count_value volumes)
answer_bytes (model.GrowDone total) = done Hyper total
answer_bytes model.StopDone = spelling Void tt
answer_bytes (model.MountDone handle) = done mounted_shape (mounted_value handle)
answer_bytes model.DumpDone = spelling mounts_shape []
answer_bytes (model.ExportsDone paths) = spelling exports_shape (map export_value paths)
answer_bytes (model.Failed status absent) = failed status absent

-- the bytes of what was done, or of a failure that leaves out this many optional parts
abbrev pub result_bytes : {R : Type 0} (shape : Shape) → (R → Value shape) → ℕ → Result R Status → List ℕ
result_bytes shape value absent (Ok r) = done shape (value r)
result_bytes shape value absent (Err status) = failed (status_of status) absent
