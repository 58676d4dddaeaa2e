-- The reply to a call has its room, and the server after it is as roomy.
use Rattle.std.proofs.Common.{◌≡◌, ℕ, zero, suc, ◌+◌, ◌-◌, ◌*◌, ◌≤◌, Bool, true, false, cond, List, [], ◌∷◌, length, map, take, drop, Option, Some, None}
use Rattle.std.proofs.Common.{refl, sym, ap, subst, ◌∙◌, replicate, arith, ◌⊎◌, inl, inr, ⊎_elim}
use Rattle.std.specs.Prelude.{min, max, not, ◌==◌, ◌&&◌, is_none, nat_le, nat_lt, slice_get, slice_set, slice_index_or}
use Rattle.std.specs.FinMap.{get}
use Rattle.std.specs.List.{list_any}
use Rattle.std.proofs.lemmas.Bool.{ltb-false}
use Rattle.std.proofs.lemmas.List.{length-append, length-map, length-set, length-take}
use Rattle.xdr.specs.Shape.{padded, spelling}
use Rattle.nfs_types.specs.Shapes.{◌&◌, after_shape, change_shape}
use Rattle.nfs_types.specs.Results.{made_value}
use Rattle.nfs_model.specs.Types as model
use Rattle.nfs_model.specs.Server.{opening_volume, opening_volumes, opening, FileNode, DirectoryNode, SpecialNode, Node, File, Directory, Special}
use Rattle.nfs_model.specs.Server.{VolumeState, Server, Named}
use Rattle.nfs_model.specs.Server.{handle_bytes, handle_of, most_bytes}
use Rattle.nfs_model.specs.Tree.{Layout, VolumeLayout}
use Rattle.nfs_model.specs.Home.{named_by}
use Rattle.nfs_model.specs.Shown.{shown}
use Rattle.nfs_model.specs.Names.{is_dots, name_fault, find_name, same_name, dot, dot_dot}
use Rattle.nfs_model.specs.Locate.{Effect, Fails, Tells, Changes, unless, on_node, on_directory, on_file, Located, located_in, located_by, locate, Found}
use Rattle.nfs_model.specs.Locate.{Naming, is_node_of, named_child, on_name}
use Rattle.nfs_model.specs.Memo.{Change, Sets, Creates, MakesDirectory, MakesSymbolicLink, MakesNode, Removes, RemovesDirectory, Renames, Links, Memo}
use Rattle.nfs_model.specs.Memo.{Told, ToldSet, ToldMade, ToldGone, ToldRenamed, ToldLinked}
use Rattle.nfs_model.specs.Serial.Same.{same_caller, same_change}
use Rattle.nfs_model.specs.Serial.Once.{is_short, change_of, place, is_recent, is_of, told_in, told_among, told_before, answer_told, told_of, memos_with}
use Rattle.nfs_model.specs.Serial.Once.{memos_after, remembered, or_told, once}
use Rattle.nfs_model.specs.Serial.Rights.{protection, may_search}
use Rattle.nfs_model.specs.Serial.Setattr.{set_taken, set_node, setattr}
use Rattle.nfs_model.specs.Serial.Getattr.{getattr, tell_of}
use Rattle.nfs_model.specs.Serial.Access.{access_given}
use Rattle.nfs_model.specs.Serial.Lookup.{looked_up, lookup_told, lookup}
use Rattle.nfs_model.specs.Serial.Readlink.{if_symbolic, on_symbolic, readlink}
use Rattle.nfs_model.specs.Serial.Read.{read}
use Rattle.nfs_model.specs.Serial.Write.{Writing, bytes_kept, write_fault, space_fault, write_some, write}
use Rattle.nfs_model.specs.Serial.Create.{maker, new_file, directory_made, made, told_as_it_is, create_over, create_at, create}
use Rattle.nfs_model.specs.Serial.Mkdir.{mkdir_fault, new_directory, mkdir_at, mkdir}
use Rattle.nfs_model.specs.Serial.Symlink.{most_text, text_fault, new_special, symlink_at, symlink}
use Rattle.nfs_model.specs.Serial.Mknod.{if_made, mknod_kind, mknod_at, mknod}
use Rattle.nfs_model.specs.Serial.Remove.{directory_left, gone, remove_found, remove_at, remove_name}
use Rattle.nfs_model.specs.Serial.Rmdir.{if_empty, rmdir_found, rmdir_at, rmdir}
use Rattle.nfs_model.specs.Serial.Rename.{Renaming, climb_fault, met_above, may_go, renamed_volume, rename_told, rename_at, rename_in, rename}
use Rattle.nfs_model.specs.Serial.Links.{with_link}
use Rattle.nfs_model.specs.Serial.Link.{directory_fault, links_fault, directory_linked, linked, link_at, link_name, link}
use Rattle.nfs_model.specs.Serial.Readdir.{page_of, paged, readdir}
use Rattle.nfs_model.specs.Serial.Readdirplus.{shown_at, listed_plus, listed_bare, listed_for, page_plus_of, paged_plus, readdirplus}
use Rattle.nfs_model.specs.Serial.Fsstat.{fsstat}
use Rattle.nfs_model.specs.Serial.Commit.{commit}
use Rattle.nfs_model.specs.Serial.Census.{count_of, census}
use Rattle.nfs_model.specs.Serial.Grow.{Grown, grow_volume, grow}
use Rattle.nfs_model.specs.Serial.Mount.{mount, parts_below}
use Rattle.nfs_model.specs.Serial.MountBelow.{part_fault, on_entry, search_refusal, mount_below}
use Rattle.nfs_model.specs.Serial.Step.{Step, stay, placed, on, on_root, on_two, serve, serial}
use Rattle.nfs_model.specs.Serial.Absent.{absent_parts}
use Rattle.nfs_model.specs.Serial.AtOnce.{answer_of_two, answer_without_home}
use Rattle.rpc_msg.specs.Replies.{reply_record}
use Rattle.rpc_msg.specs.Room.{padded_size, lookup_room, readlink_room, read_room, readdir_room, change_room, made_room, link_room, mount_room}
use Rattle.rpc_msg.specs.Room.{results_room, reply_room, IsRoomy, AreShort, HasShortText, HaveShortTexts, change_results, told_results}
use Rattle.rpc_msg.proofs.Texts.{insert_short, file_short, short_there, IsShortFound, named_short, set_short, linked_short, left_short, renamed_short, root_short}
use Rattle.rpc_msg.specs.declared.handle_form.HandleForm.{HandleForm}
use Rattle.rpc_msg.specs.declared.handle_form.HandleForm.TheVariants.{Plain, OfRun}
use Rattle.rpc_msg.specs.HandleForm.{told_in_run}
use Rattle.rpc_msg.specs.Handles.{answer_with, reply_told}
use Rattle.rpc_msg.proofs.AnswerSizes.{told_size, Takes, length-padded, mount_size, failed_size, read_size, readlink_size, entries_size, readdir_size, fitting_fits}
use Rattle.rpc_msg.proofs.AnswerSizes.{census_size, success_size, IsShort, entry_is_short, entries_plus_size, readdirplus_size, fitting_plus_fits}

-- ---- results of one size

getattr_size : (a : model.Shown) → Takes 88 (model.GetattrDone a)
getattr_size a = record { bytes = omega arith }

setattr_size : (w : model.Wcc) → Takes (4 + change_room) (model.SetattrDone w)
setattr_size w = record { bytes = omega arith }

lookup_size : (volume fileid : ℕ) (a b : model.Shown) → Takes lookup_room (model.LookupDone (handle_bytes volume fileid) a b)
lookup_size volume fileid a b = record { bytes = omega arith }

made_size : (volume fileid : ℕ) (a : model.Shown) (w : model.Wcc) → Takes made_room (model.MadeDone (handle_bytes volume fileid) a w)
made_size volume fileid a w = record { bytes = omega arith }

gone_size : (w : model.Wcc) → Takes (4 + change_room) (model.GoneDone w)
gone_size w = record { bytes = omega arith }

rename_size : (v w : model.Wcc) → Takes (4 + change_room + change_room) (model.RenameDone v w)
rename_size v w = record { bytes = omega arith }

link_size : (a : model.Shown) (w : model.Wcc) → Takes link_room (model.LinkDone a w)
link_size a w = record { bytes = omega arith }

fsstat_size : (a : model.Shown) (s : model.Space) → Takes 144 (model.FsstatDone a s)
fsstat_size a s = record { bytes = omega arith }

access_size : (a : model.Shown) (given : ℕ) → Takes 96 (model.AccessDone a given)
access_size a given = record { bytes = omega arith }

fsinfo_size : (a : model.Shown) (largest : ℕ) → Takes 140 (model.FsinfoDone a largest)
fsinfo_size a largest = record { bytes = omega arith }

pathconf_size : (a : model.Shown) (chown_restricted : Bool) → Takes 116 (model.PathconfDone a chown_restricted)
pathconf_size a chown_restricted = record { bytes = omega arith }

root_size : (volume fileid : ℕ) → Takes mount_room (model.MountDone (handle_bytes volume fileid))
root_size volume fileid = record { bytes = omega arith }

grow_size : (total : ℕ) → Takes 12 (model.GrowDone total)
grow_size total = record { bytes = omega arith }

-- with a verifier of 8 bytes
eight : (verifier : List ℕ) → length verifier ≡ 8 → length (padded verifier) ≡ 8
eight verifier e = length-padded verifier ∙ ap padded_size e

write_size : (count : ℕ) (verifier : List ℕ) → length verifier ≡ 8 → Takes 28 (model.WriteDone count verifier)
write_size count verifier e = record { bytes = omega (arith, eight verifier e) }

commit_size : (w : model.Wcc) (verifier : List ℕ) → length verifier ≡ 8 → Takes (4 + change_room + 8) (model.CommitDone w verifier)
commit_size w verifier e = record { bytes = omega (arith, eight verifier e) }

-- ---- what a call on a volume comes to

-- an answer has at most this many bytes, the volume's verifier stays, and what it remembers stays short, as do its texts
Fits : ℕ → VolumeState → Effect → Type 0
Fits n old (Fails status) = Unit {0}
Fits n old (Tells answer) = Takes n answer
Fits n old (Changes answer new) =
    Takes n answer × (new.verifier ≡ old.verifier) × (AreShort old.memos → AreShort new.memos)
    × (HaveShortTexts old.nodes → HaveShortTexts new.nodes)

fails : (n : ℕ) (old : VolumeState) (status : model.Status) → Fits n old (Fails status)
unfolding Fits
fails n old status = tt

tells : (n : ℕ) (old : VolumeState) (answer : model.Answer) → Takes n answer → Fits n old (Tells answer)
unfolding Fits
tells n old answer t = t

-- a change of nodes alone
changes : (n : ℕ) (old : VolumeState) (answer : model.Answer) (new : VolumeState) → Takes n answer → new.verifier ≡ old.verifier
    → new.memos ≡ old.memos → (HaveShortTexts old.nodes → HaveShortTexts new.nodes) → Fits n old (Changes answer new)
unfolding Fits
changes n old answer new t e m s = (t, e, (λ a. subst AreShort (sym m) a), s)

unless_fits : (n : ℕ) (old : VolumeState) (o : Option model.Status) (e : Effect) → Fits n old e → Fits n old (unless o e)
unless_fits n old None e f = f
unless_fits n old (Some status) e f = fails n old status

if_fits : (n : ℕ) (old : VolumeState) (b : Bool) (e d : Effect) → Fits n old e → Fits n old d → Fits n old (cond b e d)
if_fits n old true e d f g = f
if_fits n old false e d f g = g

node_fits : (n : ℕ) (old : VolumeState) (o : Option Node) (run : Node → Effect) → ((node : Node) → o ≡ Some node → Fits n old (run node))
    → Fits n old (on_node o run)
node_fits n old None run f = fails n old model.Stale
node_fits n old (Some node) run f = f node refl

directory_fits : (n : ℕ) (old : VolumeState) (o : Option Node) (run : DirectoryNode → Effect) → ((d : DirectoryNode) → Fits n old (run d))
    → Fits n old (on_directory o run)
directory_fits n old None run f = fails n old model.Stale
directory_fits n old (Some (File g)) run f = fails n old model.NotDirectory
directory_fits n old (Some (Directory d)) run f = f d
directory_fits n old (Some (Special s)) run f = fails n old model.NotDirectory

file_fits : (n : ℕ) (old : VolumeState) (o : Option Node) (run : FileNode → Effect) → ((g : FileNode) → Fits n old (run g)) → Fits n old (on_file o run)
file_fits n old None run f = fails n old model.Stale
file_fits n old (Some (File g)) run f = f g
file_fits n old (Some (Directory d)) run f = fails n old model.Invalid
file_fits n old (Some (Special s)) run f = fails n old model.Invalid

name_fits : (n : ℕ) (name : List ℕ) (moment : model.Moment) (run : Naming → Effect) (volume : VolumeState) (fileid : ℕ)
    → ((x : Naming) → Fits n x.volume (run x)) → Fits n volume (on_name name moment run volume fileid)
name_fits n name moment run volume fileid f =
    directory_fits n volume (get volume.nodes fileid) _ (λ d.
    unless_fits n volume (name_fault name) _ (f (record { volume = volume; fileid = fileid; directory = d; name = name; moment = moment })))

-- ---- each procedure

-- what is told by the attributes of a node
tell_fits : (n : ℕ) (answer : model.Shown → model.Answer) (volume : VolumeState) (fileid : ℕ) → ((a : model.Shown) → Takes n (answer a))
    → Fits n volume (tell_of answer volume fileid)
tell_fits n answer volume fileid takes = node_fits n volume (get volume.nodes fileid) _ (λ node is. tells _ _ _ (takes (shown volume fileid node)))

getattr_fits : (volume : VolumeState) (fileid : ℕ) → Fits 88 volume (getattr volume fileid)
getattr_fits volume fileid = node_fits 88 volume (get volume.nodes fileid) _ (λ node is. tells _ _ _ (getattr_size (shown volume fileid node)))

setattr_fits : (set : model.SetAttributes) (guard : Option model.Moment) (caller : model.Caller) (moment : model.Moment) (volume : VolumeState)
    (fileid : ℕ) → Fits (4 + change_room) volume (setattr set guard caller moment volume fileid)
setattr_fits set guard caller moment volume fileid =
    node_fits (4 + change_room) volume (get volume.nodes fileid) _ (λ node is.
    unless_fits (4 + change_room) volume _ _ (changes _ _ _ _ (setattr_size _) refl refl
    (λ t. insert_short volume.nodes fileid (set_node (set_taken caller set node) moment node) (set_short (set_taken caller set node) moment node (short_there volume.nodes fileid node is t)) t)))

found_fits : (n : Naming) (o : Option Found) → Fits lookup_room n.volume (lookup_told n o)
found_fits n None = fails _ _ _
found_fits n (Some found) = tells _ _ _ (lookup_size _ _ _ _)

lookup_fits : (n : Naming) → Fits lookup_room n.volume (lookup n)
lookup_fits n = found_fits n (looked_up n)

link_text_fits : (old : VolumeState) (fileid : ℕ) (s : SpecialNode) (special : model.SpecialType) → length s.text ≤ most_text
    → Fits readlink_room old (if_symbolic special (Tells (model.ReadlinkDone (shown old fileid (Special s)) s.text)))
link_text_fits old fileid s model.SymbolicLink h = tells _ _ _ (readlink_size _ s.text most_text h)
link_text_fits old fileid s special h = fails _ _ _

link_fits_on : (old : VolumeState) (fileid : ℕ) (node : Node) → HasShortText node
    → Fits readlink_room old (on_symbolic node (λ s. Tells (model.ReadlinkDone (shown old fileid (Special s)) s.text)))
link_fits_on old fileid (File f) h = fails _ _ _
link_fits_on old fileid (Directory d) h = fails _ _ _
link_fits_on old fileid (Special s) h = link_text_fits old fileid s s.special h

readlink_fits : (volume : VolumeState) (fileid : ℕ) → HaveShortTexts volume.nodes → Fits readlink_room volume (readlink volume fileid)
readlink_fits volume fileid t =
    node_fits readlink_room volume (get volume.nodes fileid) _ (λ node is. link_fits_on volume fileid node (short_there volume.nodes fileid node is t))

read_at_fits : (offset count : ℕ) (volume : VolumeState) (f : FileNode) → length (take (min count most_bytes) (drop offset f.bytes)) ≤ min count most_bytes
read_at_fits offset count volume f = omega (arith, length-take (min count most_bytes) (drop offset f.bytes))

read_fits : (offset count : ℕ) (volume : VolumeState) (fileid : ℕ) → Fits (read_room count) volume (read offset count volume fileid)
read_fits offset count volume fileid =
    file_fits (read_room count) volume (get volume.nodes fileid) _ (λ f.
    if_fits (read_room count) volume (nat_le (length f.bytes) offset) _ _ (tells _ _ _ (read_size 0 true [] (min count most_bytes) (omega arith)))
    (tells _ _ _ (read_size _ _ _ _ (read_at_fits offset count volume f))))

write_some_fits : (volume : VolumeState) (fileid : ℕ) (f : FileNode) (w : Writing) → length volume.verifier ≡ 8
    → Fits 28 volume (write_some volume fileid f w)
write_some_fits volume fileid f w e =
    unless_fits 28 volume (write_fault volume w.offset (length (bytes_kept w))) _
    (unless_fits 28 volume (space_fault volume f w.offset (length (bytes_kept w))) _ (changes _ _ _ _ (write_size _ volume.verifier e) refl refl
    (file_short volume.nodes fileid _)))

write_fits : (w : Writing) (volume : VolumeState) (fileid : ℕ) → length volume.verifier ≡ 8 → Fits 28 volume (write w volume fileid)
write_fits w volume fileid e =
    file_fits 28 volume (get volume.nodes fileid) _ (λ f.
    if_fits 28 volume (not (w.count == length w.written)) _ _ (fails _ _ _)
    (if_fits 28 volume (w.count == 0) _ _ (tells _ _ _ (write_size 0 volume.verifier e)) (write_some_fits volume fileid f w e)))

there_fits : (n : Naming) (fileid : ℕ) (node : Node) → Fits made_room n.volume (told_as_it_is n fileid node)
there_fits n fileid node = tells _ _ _ (made_size _ _ _ _)

create_over_fits : (n : Naming) (mode : model.CreateMode) (caller : model.Caller) (fileid : ℕ) (node : Node)
    → Fits made_room n.volume (create_over n mode caller fileid node)
create_over_fits n (model.Guarded set) caller fileid node = fails _ _ _
create_over_fits n (model.Unchecked set) caller fileid (Directory other) = fails _ _ _
create_over_fits n (model.Exclusive verifier) caller fileid (Directory other) = fails _ _ _
create_over_fits n (model.Unchecked set) caller fileid (Special other) = fails _ _ _
create_over_fits n (model.Exclusive verifier) caller fileid (Special other) = fails _ _ _
create_over_fits n (model.Exclusive verifier) caller fileid (File f) = if_fits made_room n.volume _ _ _ (there_fits n fileid (File f)) (fails _ _ _)
create_over_fits n (model.Unchecked set) caller fileid (File f) =
    if_fits made_room n.volume (caller.checked && is_none set.size) _ _ (there_fits n fileid (File f))
    (unless_fits made_room n.volume _ _ (changes _ _ _ _ (made_size _ _ _ _) refl refl (file_short n.volume.nodes fileid _)))

-- a node made, with a short text
made_fits : (n : Naming) (node : Node) → HasShortText node → Fits made_room n.volume (made n node)
made_fits n node h =
    changes _ _ _ _ (made_size _ _ _ _) refl refl
    (λ t. insert_short _ n.fileid (directory_made n) tt (insert_short n.volume.nodes n.volume.next node h t))

create_at_fits : (n : Naming) (mode : model.CreateMode) (caller : model.Caller) (o : Option Found) → Fits made_room n.volume (create_at n mode caller o)
create_at_fits n mode caller (Some found) = create_over_fits n mode caller found.fileid found.node
create_at_fits n mode caller None = unless_fits made_room n.volume _ _ (made_fits n (new_file mode (maker caller n) n.moment) tt)

create_fits : (mode : model.CreateMode) (caller : model.Caller) (n : Naming) → Fits made_room n.volume (create mode caller n)
create_fits mode caller n = if_fits made_room n.volume (is_dots n.name) _ _ (fails _ _ _) (create_at_fits n mode caller (named_child n))

mkdir_at_fits : (n : Naming) (set : model.SetAttributes) (caller : model.Caller) (o : Option Found) → Fits made_room n.volume (mkdir_at n set caller o)
mkdir_at_fits n set caller (Some found) = fails _ _ _
mkdir_at_fits n set caller None =
    unless_fits made_room n.volume _ _ (made_fits n (new_directory n.fileid set (maker caller n) n.moment) tt)

mkdir_fits : (set : model.SetAttributes) (caller : model.Caller) (n : Naming) → Fits made_room n.volume (mkdir set caller n)
mkdir_fits set caller n = if_fits made_room n.volume (is_dots n.name) _ _ (fails _ _ _) (mkdir_at_fits n set caller (named_child n))

-- a text that SYMLINK takes is short
text_knowing : (old : VolumeState) (text : List ℕ) (e : Effect) → (length text ≤ most_text → Fits made_room old e)
    → Fits made_room old (unless (text_fault text) e)
text_knowing old text e f = by (nat_lt most_text (length text)) refl
  where
    by : (b : Bool) → nat_lt most_text (length text) ≡ b
        → Fits made_room old (unless (cond b (Some model.NameTooLong) (cond (length text == 0) (Some model.NoEntry)
        (cond (list_any (λ b. b == 0) text) (Some model.Invalid) None))) e)
    by true is = fails _ _ _
    by false is = unless_fits made_room old _ e (f (ltb-false most_text (length text) is))

symlink_at_fits : (n : Naming) (set : model.SetAttributes) (text : List ℕ) (caller : model.Caller) (o : Option Found)
    → Fits made_room n.volume (symlink_at n set text caller o)
symlink_at_fits n set text caller (Some found) = fails _ _ _
symlink_at_fits n set text caller None =
    text_knowing n.volume text _ (λ h.
    unless_fits made_room n.volume (mkdir_fault n.volume set) _ (made_fits n (new_special model.SymbolicLink 511 set text (maker caller n) n.moment) h))

symlink_fits : (set : model.SetAttributes) (text : List ℕ) (caller : model.Caller) (n : Naming) → Fits made_room n.volume (symlink set text caller n)
symlink_fits set text caller n = if_fits made_room n.volume (is_dots n.name) _ _ (fails _ _ _) (symlink_at_fits n set text caller (named_child n))

if_made_fits : (old : VolumeState) (special : model.SpecialType) (e : Effect) → Fits made_room old e → Fits made_room old (if_made special e)
if_made_fits old model.SymbolicLink e f = fails _ _ _
if_made_fits old model.Fifo e f = f
if_made_fits old model.Socket e f = f
if_made_fits old (model.BlockDevice device) e f = f
if_made_fits old (model.CharacterDevice device) e f = f

mknod_kind_fits : (n : Naming) (kind : model.Kind) (set : model.SetAttributes) (caller : model.Caller)
    → Fits made_room n.volume (mknod_kind n kind set caller)
mknod_kind_fits n model.Regular set caller = fails _ _ _
mknod_kind_fits n model.DirectoryKind set caller = fails _ _ _
mknod_kind_fits n (model.SpecialKind special) set caller =
    if_made_fits n.volume special _ (unless_fits made_room n.volume (mkdir_fault n.volume set) _
    (made_fits n (new_special special 420 set [] (maker caller n) n.moment) (omega arith)))

mknod_at_fits : (n : Naming) (kind : model.Kind) (set : model.SetAttributes) (caller : model.Caller) (o : Option Found)
    → Fits made_room n.volume (mknod_at n kind set caller o)
mknod_at_fits n kind set caller (Some found) = fails _ _ _
mknod_at_fits n kind set caller None = mknod_kind_fits n kind set caller

mknod_fits : (kind : model.Kind) (set : model.SetAttributes) (caller : model.Caller) (n : Naming) → Fits made_room n.volume (mknod kind set caller n)
mknod_fits kind set caller n = if_fits made_room n.volume (is_dots n.name) _ _ (fails _ _ _) (mknod_at_fits n kind set caller (named_child n))

-- a node is found with a short text
abbrev FindsShort : Naming → Node → Type 0
FindsShort n node = HaveShortTexts n.volume.nodes → HasShortText node

gone_fits : (n : Naming) (found : Found) → FindsShort n found.node → Fits (4 + change_room) n.volume (gone n found)
gone_fits n found h =
    changes _ _ _ _ (gone_size _) refl refl
    (λ t. insert_short _ n.fileid (directory_left n) tt (left_short n.moment n.volume.nodes found.fileid found.node (h t) t))

remove_found_fits : (n : Naming) (found : Found) (node : Node) → FindsShort n found.node → Fits (4 + change_room) n.volume (remove_found n found node)
remove_found_fits n found (File f) h = gone_fits n found h
remove_found_fits n found (Directory d) h = fails _ _ _
remove_found_fits n found (Special s) h = gone_fits n found h

remove_at_fits : (n : Naming) (o : Option Found) → (HaveShortTexts n.volume.nodes → IsShortFound o) → Fits (4 + change_room) n.volume (remove_at n o)
remove_at_fits n None h = fails _ _ _
remove_at_fits n (Some found) h = remove_found_fits n found found.node h

remove_fits : (n : Naming) → Fits (4 + change_room) n.volume (remove_name n)
remove_fits n =
    if_fits (4 + change_room) n.volume (is_dots n.name) _ _ (fails _ _ _) (remove_at_fits n (named_child n) (named_short n))

empty_fits : (n : ℕ) (old : VolumeState) (list : List model.Listed) (e : Effect) → Fits n old e → Fits n old (if_empty list e)
empty_fits n old [] e f = f
empty_fits n old (x ∷ xs) e f = fails _ _ _

rmdir_found_fits : (n : Naming) (found : Found) (node : Node) → FindsShort n found.node → Fits (4 + change_room) n.volume (rmdir_found n found node)
rmdir_found_fits n found (File f) h = fails _ _ _
rmdir_found_fits n found (Directory d) h = empty_fits (4 + change_room) n.volume d.list _ (gone_fits n found h)
rmdir_found_fits n found (Special s) h = fails _ _ _

rmdir_at_fits : (n : Naming) (o : Option Found) → (HaveShortTexts n.volume.nodes → IsShortFound o) → Fits (4 + change_room) n.volume (rmdir_at n o)
rmdir_at_fits n None h = fails _ _ _
rmdir_at_fits n (Some found) h = rmdir_found_fits n found found.node h

rmdir_fits : (n : Naming) → Fits (4 + change_room) n.volume (rmdir n)
rmdir_fits n =
    if_fits (4 + change_room) n.volume (same_name n.name dot) _ _ (fails _ _ _)
    (if_fits (4 + change_room) n.volume (same_name n.name dot_dot) _ _ (fails _ _ _) (rmdir_at_fits n (named_child n) (named_short n)))

abbrev rename_room : ℕ
rename_room = 4 + change_room + change_room

-- as a target is found
abbrev TargetShort : Renaming → Option Found → Type 0
TargetShort r to = HaveShortTexts r.from.volume.nodes → IsShortFound to

renamed_fits : (r : Renaming) (child : ℕ) (to : Option Found) → TargetShort r to
    → Fits rename_room r.from.volume (rename_told r (renamed_volume r child to))
renamed_fits r child to h =
    changes _ _ _ (renamed_volume r child to) (rename_size _ _) refl refl (λ t. renamed_short r child to r.from.volume.nodes (h t) t)

rename_at_fits : (r : Renaming) (from to : Option Found) → TargetShort r to → Fits rename_room r.from.volume (rename_at r from to)
rename_at_fits r None to h = fails _ _ _
rename_at_fits r (Some found) to h =
    let old = r.from.volume in
    if_fits rename_room old (is_node_of found.fileid to) _ _ (tells _ _ _ (rename_size _ _))
    (unless_fits rename_room old (climb_fault (met_above r found.fileid found.node)) _
    (if_fits rename_room old (not (may_go found.node to)) _ _ (fails _ _ model.Exists)
    (renamed_fits r found.fileid to h)))

rename_in_fits : (r : Renaming) → TargetShort r (named_child r.to) → Fits rename_room r.from.volume (rename_in r)
rename_in_fits r h =
    unless_fits rename_room r.from.volume (name_fault r.from.name) _
    (unless_fits rename_room r.from.volume (name_fault r.to.name) _
    (if_fits rename_room r.from.volume _ _ _ (fails _ _ _) (rename_at_fits r (named_child r.from) (named_child r.to) h)))

rename_fits : (from_name to_name : List ℕ) (moment : model.Moment) (volume : VolumeState) (from to : ℕ)
    → Fits rename_room volume (rename from_name to_name moment volume from to)
rename_fits from_name to_name moment volume from to =
    directory_fits rename_room volume (get volume.nodes from) _ (λ d.
    directory_fits rename_room volume (get volume.nodes to) _ (λ e.
    let target : Naming = record { volume = volume; fileid = to; directory = e; name = to_name; moment = moment } in
    rename_in_fits (record {
      from = record { volume = volume; fileid = from; directory = d; name = from_name; moment = moment };
      to = target;
    }) (named_short target)))

-- one more name of what has a short text
linked_fits : (n : Naming) (object : Found) → FindsShort n object.node → Fits link_room n.volume (linked n object)
linked_fits n object h =
    changes _ _ _ _ (link_size _ _) refl refl
    (λ t. insert_short _ n.fileid (directory_linked n object.fileid) tt
    (insert_short n.volume.nodes object.fileid (with_link n.moment object.node) (linked_short n.moment object.node (h t)) t))

link_at_fits : (object : Found) (n : Naming) (o : Option Found) → FindsShort n object.node → Fits link_room n.volume (link_at object n o)
link_at_fits object n (Some found) h = fails _ _ _
link_at_fits object n None h = unless_fits link_room n.volume (links_fault object.node) _ (linked_fits n object h)

link_name_fits : (object : Found) (n : Naming) → FindsShort n object.node → Fits link_room n.volume (link_name object n)
link_name_fits object n h = if_fits link_room n.volume (is_dots n.name) _ _ (fails _ _ _) (link_at_fits object n (named_child n) h)

link_fits : (name : List ℕ) (moment : model.Moment) (volume : VolumeState) (fileid directory : ℕ)
    → Fits link_room volume (link name moment volume fileid directory)
link_fits name moment volume fileid directory =
    node_fits link_room volume (get volume.nodes fileid) _ (λ node is.
    unless_fits link_room volume (directory_fault node) _
    (directory_fits link_room volume (get volume.nodes directory) _ (λ d.
    unless_fits link_room volume (name_fault name) _
    (link_name_fits (record { fileid = fileid; node = node })
    (record { volume = volume; fileid = directory; directory = d; name = name; moment = moment }) (short_there volume.nodes fileid node is)))))

-- the room of a page, where the count is cut
abbrev readdir_of : ℕ → ℕ
readdir_of count = 4 + max 4 count

within : (n : ℕ) → 4 + n ≤ readdir_of n
within n = omega arith

-- a page within a count
page_fits : (count : ℕ) (volume : VolumeState) (directory : model.Shown) (remaining page : List model.Listed) → 104 + entries_size page ≤ count
    → Fits (readdir_of count) volume (page_of directory remaining page)
page_fits count volume directory remaining page h =
    tells _ _ _ (record { bytes = omega (arith, h, within count, readdir_size directory page (length page == length remaining)) })

if_knowing : (n : ℕ) (old : VolumeState) (b : Bool) (e d : Effect) → (b ≡ true → Fits n old e) → (b ≡ false → Fits n old d) → Fits n old (cond b e d)
if_knowing n old true e d f g = f refl
if_knowing n old false e d f g = g refl

paged_fits : (count : ℕ) (volume : VolumeState) (directory : model.Shown) (remaining page : List model.Listed) → entries_size page ≤ count - 104
    → Fits (readdir_of count) volume (paged count directory remaining page)
paged_fits count volume directory [] page h =
    if_knowing (readdir_of count) volume (nat_lt count 104) _ _ (λ e. fails _ _ _) (λ e.
    let enough : 104 ≤ count = ltb-false count 104 e in
    page_fits count volume directory [] page (omega (arith, enough, h)))
paged_fits count volume directory (e ∷ es) [] h = fails _ _ _
paged_fits count volume directory (e ∷ es) (x ∷ xs) h =
    page_fits count volume directory (e ∷ es) (x ∷ xs) (omega (arith, h))

readdir_fits : (cookie : ℕ) (verifier : List ℕ) (count : ℕ) (volume : VolumeState) (fileid : ℕ)
    → Fits (readdir_room count) volume (readdir cookie verifier count volume fileid)
readdir_fits cookie verifier count volume fileid =
    directory_fits (readdir_room count) volume (get volume.nodes fileid) _ (λ d.
    if_fits (readdir_room count) volume _ _ _ (fails _ _ _) (paged_fits (min count most_bytes) volume _ _ _ (fitting_fits _ (min count most_bytes - 104))))

-- what is told of an entry: its name alone, or all
bare_or_all : (volume : VolumeState) (e : model.Listed) (b : Bool) → IsShort e (cond b (listed_bare e) (listed_plus volume e))
bare_or_all volume e true = entry_is_short e None None tt
bare_or_all volume e false =
    entry_is_short e (shown_at volume e.fileid (get volume.nodes e.fileid)) (Some (handle_bytes volume.number e.fileid)) (omega arith)

listed_short : (caller : model.Caller) (volume : VolumeState) (d : DirectoryNode) (e : model.Listed) → IsShort e (listed_for caller volume d e)
listed_short caller volume d e = bare_or_all volume e (caller.checked && not (may_search caller.credential (protection (Directory d))))

-- the same of pages with attributes and handles, whatever is told of an entry, if it is short
module _ (told : model.Listed → model.ListedPlus) (short : (e : model.Listed) → IsShort e (told e)) where
  page_plus_fits : (count : ℕ) (volume : VolumeState) (directory : model.Shown) (remaining page : List model.Listed) → 104 + entries_plus_size page ≤ count
      → Fits (readdir_of count) volume (page_plus_of told directory remaining page)
  page_plus_fits count volume directory remaining page h =
      tells _ _ _ (record {
        bytes = omega (arith, h, within count, length-map page told, readdirplus_size told short directory page (length page == length remaining));
      })

  paged_plus_fits : (count : ℕ) (volume : VolumeState) (directory : model.Shown) (remaining page : List model.Listed)
      → entries_plus_size page ≤ count - 104 → Fits (readdir_of count) volume (paged_plus count told directory remaining page)
  paged_plus_fits count volume directory [] page h =
      if_knowing (readdir_of count) volume (nat_lt count 104) _ _ (λ e. fails _ _ _) (λ e.
      let enough : 104 ≤ count = ltb-false count 104 e in
      page_plus_fits count volume directory [] page (omega (arith, enough, h)))
  paged_plus_fits count volume directory (e ∷ es) [] h = fails _ _ _
  paged_plus_fits count volume directory (e ∷ es) (x ∷ xs) h =
      page_plus_fits count volume directory (e ∷ es) (x ∷ xs) (omega (arith, h))

readdirplus_fits : (cookie : ℕ) (verifier : List ℕ) (names_count count : ℕ) (caller : model.Caller) (volume : VolumeState) (fileid : ℕ)
    → Fits (readdir_room count) volume (readdirplus cookie verifier names_count count caller volume fileid)
readdirplus_fits cookie verifier names_count count caller volume fileid =
    directory_fits (readdir_room count) volume (get volume.nodes fileid) _ (λ d.
    if_fits (readdir_room count) volume _ _ _ (fails _ _ _)
    (paged_plus_fits (listed_for caller volume d) (listed_short caller volume d) (min count most_bytes) volume _ _ _
    (fitting_plus_fits _ (min count most_bytes - 104))))

fsstat_fits : (volume : VolumeState) (fileid : ℕ) → Fits 144 volume (fsstat volume fileid)
fsstat_fits volume fileid = node_fits 144 volume (get volume.nodes fileid) _ (λ node is. tells _ _ _ (fsstat_size _ _))

commit_fits : (volume : VolumeState) (fileid : ℕ) → length volume.verifier ≡ 8 → Fits (4 + change_room + 8) volume (commit volume fileid)
commit_fits volume fileid e = file_fits (4 + change_room + 8) volume (get volume.nodes fileid) _ (λ f. tells _ _ _ (commit_size _ volume.verifier e))

entry_fits : (volume : VolumeState) (o : Option model.Listed) (run : ℕ → Effect) → ((fileid : ℕ) → Fits mount_room volume (run fileid))
    → Fits mount_room volume (on_entry o run)
entry_fits volume None run f = fails _ _ _
entry_fits volume (Some e) run f = f e.fileid

below_fits : (parts : List (List ℕ)) (caller : model.Caller) (volume : VolumeState) (fileid : ℕ)
    → Fits mount_room volume (mount_below parts caller volume fileid)
below_fits [] caller volume fileid = directory_fits mount_room volume (get volume.nodes fileid) _ (λ d. tells _ _ _ (root_size _ _))
below_fits (part ∷ parts) caller volume fileid =
    directory_fits mount_room volume (get volume.nodes fileid) _ (λ d.
    unless_fits mount_room volume (search_refusal caller d) _
    (unless_fits mount_room volume (part_fault part) _
    (entry_fits volume (find_name part d.list) _ (λ child. below_fits parts caller volume child))))

-- ---- a call that is done once

-- what is told again has the length of its kind
told_takes : (number : ℕ) (told : Told) → Takes (told_results told) (answer_told number told)
told_takes number (ToldSet change) = setattr_size change
told_takes number (ToldMade object directory) = made_size number object.fileid object directory
told_takes number (ToldGone directory) = gone_size directory
told_takes number (ToldRenamed from to) = rename_size from to
told_takes number (ToldLinked object directory) = link_size object directory

more_takes : (n m : ℕ) (answer : model.Answer) → n ≤ m → Takes n answer → Takes m answer
more_takes n m answer h t = record { bytes = omega (arith, h, t.bytes) }

-- results that are kept are no longer than a call's, which either has no room for what was made, or for all
kept_short : (n : ℕ) (answer : model.Answer) (told : Told) → (n ≤ 208) ⊎ (236 ≤ n) → told_of answer ≡ Some told → Takes n answer → told_results told ≤ n
kept_short n (model.SetattrDone change) told either e t =
    let same : ToldSet change ≡ told = cc in
    subst (λ (x : Told). told_results x ≤ n) same (omega (arith, t.bytes))
kept_short n (model.MadeDone handle object directory) told either e t =
    let same : ToldMade object directory ≡ told = cc in
    subst (λ (x : Told). told_results x ≤ n) same
    (⊎_elim (λ (h : n ≤ 208). omega (
      arith,
      h,
      t.bytes,
      length-append (padded handle) (spelling (after_shape & change_shape)
          (made_value handle object directory).1),
    )) (λ (h : 236 ≤ n). omega (arith, h)) either)
kept_short n (model.GoneDone directory) told either e t =
    let same : ToldGone directory ≡ told = cc in
    subst (λ (x : Told). told_results x ≤ n) same (omega (arith, t.bytes))
kept_short n (model.RenameDone from to) told either e t =
    let same : ToldRenamed from to ≡ told = cc in
    subst (λ (x : Told). told_results x ≤ n) same (omega (arith, t.bytes))
kept_short n (model.LinkDone object directory) told either e t =
    let same : ToldLinked object directory ≡ told = cc in
    subst (λ (x : Told). told_results x ≤ n) same (omega (arith, t.bytes))
kept_short n answer told either e t = absurd cc

one_more_short : (memos : List (Option Memo)) (i : ℕ) (memo : Memo) → told_results memo.told ≤ change_results memo.change → AreShort memos
    → AreShort (slice_set memos i (Some memo))
one_more_short [] i memo h a k x e = a k x e
one_more_short (y ∷ ys) zero memo h a zero x e =
    let same : memo ≡ x = cc in
    subst (λ (w : Memo). told_results w.told ≤ change_results w.change) same h
one_more_short (y ∷ ys) zero memo h a (suc k) x e = a (suc k) x e
one_more_short (y ∷ ys) (suc i) memo h a zero x e = a zero x e
one_more_short (y ∷ ys) (suc i) memo h a (suc k) x e = one_more_short ys i memo h (λ l z g. a (suc l) z g) k x e

there : (memos : List (Option Memo)) (i : ℕ) (memo : Memo) → slice_index_or memos i None ≡ Some memo → slice_get memos i ≡ Some (Some memo)
there [] i memo e = absurd cc
there (x ∷ xs) zero memo e = ap (λ (o : Option Memo). Some o) e
there (x ∷ xs) (suc i) memo e = there xs i memo e

both_true : (a b : Bool) → (a && b) ≡ true → (a ≡ true) × (b ≡ true)
both_true true true e = (refl, refl)
both_true true false e = absurd cc
both_true false b e = absurd cc

same_results : (a b : Change) → same_change a b ≡ true → change_results a ≡ change_results b
same_results (Sets h a g) (Sets k b i) e = refl
same_results (Creates d n m) (Creates f o p) e = refl
same_results (MakesDirectory d n a) (MakesDirectory f o b) e = refl
same_results (MakesSymbolicLink d n a t) (MakesSymbolicLink f o b u) e = refl
same_results (MakesNode d n k a) (MakesNode f o l b) e = refl
same_results (Removes d n) (Removes f o) e = refl
same_results (RemovesDirectory d n) (RemovesDirectory f o) e = refl
same_results (Renames d n f o) (Renames g p h q) e = refl
same_results (Links h d n) (Links k f o) e = refl
same_results a b e = absurd cc

-- a test and what it chooses
if_results : (b : Bool) (x change : Change) → cond b (Some x) None ≡ Some change → change_results change ≡ change_results x
if_results true x change e =
    let same : x ≡ change = cc in
    ap change_results (sym same)
if_results false x change e = absurd cc

module _ (n : ℕ) (caller : model.Caller) (call : model.Call) (moment : model.Moment) (either : (n ≤ 208) ⊎ (236 ≤ n))
    (which : (change : Change) → change_of call ≡ Some change → change_results change ≡ n) where
  after_short : (memos : List (Option Memo)) (answer : model.Answer) → Takes n answer → AreShort memos
      → AreShort (memos_after memos caller call moment answer)
  after_short memos answer t a = by (change_of call) (told_of answer) refl refl
    where
      by : (c : Option Change) (o : Option Told) → change_of call ≡ c → told_of answer ≡ o → AreShort (memos_with memos caller c moment o)
      by None o f g = a
      by (Some change) None f g = a
      by (Some change) (Some told) f g =
          one_more_short memos (place (length memos) caller) (record { caller = caller; change = change; moment = moment; told = told })
          (subst (λ (k : ℕ). told_results told ≤ k) (sym (which change f)) (kept_short n answer told either g t)) a

  in_short : (change : Change) (told : Told) (memo : Memo) (b : Bool) → is_of caller change moment memo ≡ b
      → cond b (Some memo.told) None ≡ Some told → told_results memo.told ≤ change_results memo.change → told_results told ≤ change_results change
  in_short change told memo false f e h = absurd cc
  in_short change told memo true f e h =
      let same : memo.told ≡ told = cc in
      let parts = both_true (same_caller memo.caller caller && same_change memo.change change) (is_recent memo.moment moment) f in
      let one = both_true (same_caller memo.caller caller) (same_change memo.change change) parts.0 in
      subst (λ (x : Told). told_results x ≤ change_results change) same
      (subst (λ (k : ℕ). told_results memo.told ≤ k) (same_results memo.change change one.1) h)

  told_short : (memos : List (Option Memo)) (told : Told) → told_before memos caller call moment ≡ Some told → AreShort memos → told_results told ≤ n
  told_short memos told e a = by (change_of call) refl e
    where
      found : (change : Change) (o : Option Memo) → slice_index_or memos (place (length memos) caller) None ≡ o
          → told_in caller change moment o ≡ Some told → told_results told ≤ change_results change
      found change None at f = absurd cc
      found change (Some memo) at f =
          in_short change told memo (is_of caller change moment memo) refl f
          (a (place (length memos) caller) memo (there memos (place (length memos) caller) memo at))

      by : (c : Option Change) → change_of call ≡ c → told_among memos caller c moment ≡ Some told → told_results told ≤ n
      by None f g = absurd cc
      by (Some change) f g =
          subst (λ (k : ℕ). told_results told ≤ k) (which change f)
          (found change (slice_index_or memos (place (length memos) caller) None) refl g)

  once_fits : (volume : VolumeState) (effect : Effect) → AreShort volume.memos → Fits n volume effect
      → Fits n volume (once caller call moment volume effect)
  unfolding Fits
  once_fits volume effect a f = by (told_before volume.memos caller call moment) refl
    where
      keeps : (effect : Effect) → Fits n volume effect → Fits n volume (remembered caller call moment volume effect)
      keeps (Fails status) f = tt
      keeps (Tells answer) f = (f, refl, (λ m. after_short volume.memos answer f m), λ t. t)
      keeps (Changes answer new) f = (f.0, f.1, (λ m. after_short new.memos answer f.0 (f.2 m)), f.3)

      by : (o : Option Told) → told_before volume.memos caller call moment ≡ o
          → Fits n volume (or_told volume o (remembered caller call moment volume effect))
      by None e = keeps effect f
      by (Some told) e =
          more_takes (told_results told) n (answer_told volume.number told) (told_short volume.memos told e a) (told_takes volume.number told)

-- ---- the server

-- a reply with its room, and a server as roomy as before
record StepFits (n volumes : ℕ) (step : Step) : Type 0 where
  reply : (form : HandleForm) (xid : ℕ) → length (reply_record xid (reply_told form step.reply)) ≤ 28 + n
  server : IsRoomy volumes step.server

success_fits : (n : ℕ) (answer : model.Answer) → Takes n answer → (form : HandleForm) (xid : ℕ)
    → length (reply_record xid (reply_told form (model.Success answer))) ≤ 28 + n
success_fits n answer t Plain xid = omega (arith, t.bytes, success_size xid answer)
success_fits n answer t (OfRun run) xid =
    omega (arith, t.bytes, told_size run answer, success_size xid (answer_with (told_in_run run) answer))

starved_fits : (n : ℕ) (form : HandleForm) (xid : ℕ) → length (reply_record xid (reply_told form model.SystemError)) ≤ 28 + n
starved_fits n Plain xid = omega arith
starved_fits n (OfRun run) xid = omega arith

stay_fits : (n volumes : ℕ) (server : Server) (answer : model.Answer) → Takes n answer → IsRoomy volumes server → StepFits n volumes (stay server answer)
stay_fits n volumes server answer h r = record { reply = success_fits n answer h; server = r }

failed_fits : (n volumes : ℕ) (server : Server) (status : model.Status) (absent : ℕ) → 4 + 4 * absent ≤ n → IsRoomy volumes server
    → StepFits n volumes (stay server (model.Failed status absent))
failed_fits n volumes server status absent h r =
    stay_fits n volumes server (model.Failed status absent) (record { bytes = omega (arith, h, failed_size status absent) }) r

-- each volume of some has a property, also when one is put in place of another that has it
abbrev AllAre : (VolumeState → Type 0) → List VolumeState → Type 0
AllAre P vs = (i : ℕ) (v : VolumeState) → slice_get vs i ≡ Some v → P v

set_all : (P : VolumeState → Type 0) (vs : List VolumeState) (j : ℕ) (new : VolumeState) → P new → AllAre P vs → AllAre P (slice_set vs j new)
set_all P [] j new p a i v h = a i v h
set_all P (x ∷ xs) zero new p a zero v h =
    let same : new ≡ v = cc in
    subst P same p
set_all P (x ∷ xs) zero new p a (suc i) v h = a (suc i) v h
set_all P (x ∷ xs) (suc j) new p a zero v h = a zero v h
set_all P (x ∷ xs) (suc j) new p a (suc i) v h = set_all P xs j new p (λ k w g. a (suc k) w g) i v h

abbrev HasEight : VolumeState → Type 0
HasEight v = length v.verifier ≡ 8

abbrev RemembersShort : VolumeState → Type 0
RemembersShort v = AreShort v.memos

abbrev HasTextsShort : VolumeState → Type 0
HasTextsShort v = HaveShortTexts v.nodes

set_roomy : (volumes : ℕ) (server : Server) (spare : List ℕ) (j : ℕ) (new : VolumeState) → length new.verifier ≡ 8 → AreShort new.memos
    → HaveShortTexts new.nodes → IsRoomy volumes server → IsRoomy volumes (record { spare = spare; volumes = slice_set server.volumes j new })
set_roomy volumes server spare j new e m t r = record {
  few = omega (arith, r.few, length-set server.volumes j new);
  verifiers = set_all HasEight server.volumes j new e r.verifiers;
  memos = set_all RemembersShort server.volumes j new m r.memos;
  texts = set_all HasTextsShort server.volumes j new t r.texts;
}

placed_fits : (n volumes : ℕ) (server : Server) (absent index : ℕ) (old : VolumeState) (e : Effect) → slice_get server.volumes index ≡ Some old
    → Fits n old e → 4 + 4 * absent ≤ n → IsRoomy volumes server → StepFits n volumes (placed server absent index e)
unfolding Fits
placed_fits n volumes server absent index old (Fails status) i f h r = failed_fits n volumes server status absent h r
placed_fits n volumes server absent index old (Tells answer) i f h r = stay_fits n volumes server answer f r
placed_fits n volumes server absent index old (Changes answer new) i f h r =
    record {
      reply = success_fits n answer f.0;
      server = set_roomy volumes server server.spare index new (ap (λ (v : List ℕ). length v) f.1
          ∙ r.verifiers index old i) (f.2 (r.memos index old i)) (f.3 (r.texts index old i)) r;
    }

-- what is located is a volume of the server
abbrev IsIn : List VolumeState → Option Located → Type 0
IsIn vs None = Unit {0}
IsIn vs (Some l) = slice_get vs l.named.volume ≡ Some l.volume

in_place : (vs : List VolumeState) (handle : Named) (o : Option VolumeState) → slice_get vs handle.volume ≡ o → IsIn vs (located_in handle o)
in_place vs handle None e = tt
in_place vs handle (Some volume) e = e

located : (vs : List VolumeState) (o : Option Named) → IsIn vs (located_by vs o)
located vs None = tt
located vs (Some handle) = in_place vs handle (slice_get vs handle.volume) refl

on_located : (n volumes : ℕ) (server : Server) (absent : ℕ) (o : Option Located) (run : VolumeState → ℕ → Effect) → IsIn server.volumes o
    → ((volume : VolumeState) (fileid : ℕ) → length volume.verifier ≡ 8 → AreShort volume.memos → HaveShortTexts volume.nodes
    → Fits n volume (run volume fileid))
    → 4 + 4 * absent ≤ n → IsRoomy volumes server
    → StepFits n volumes (on server absent o run)
on_located n volumes server absent None run i f h r = failed_fits n volumes server model.BadHandle absent h r
on_located n volumes server absent (Some l) run i f h r =
    placed_fits n volumes server absent l.named.volume l.volume _ i (f l.volume l.named.fileid (r.verifiers l.named.volume l.volume i)
    (r.memos l.named.volume l.volume i) (r.texts l.named.volume l.volume i)) h r

root_located : (n volumes : ℕ) (server : Server) (absent : ℕ) (o : Option Located) (run : VolumeState → ℕ → Effect) → IsIn server.volumes o
    → ((volume : VolumeState) (fileid : ℕ) → Fits n volume (run volume fileid)) → 4 + 4 * absent ≤ n → IsRoomy volumes server
    → StepFits n volumes (on_root server absent o run)
root_located n volumes server absent None run i f h r = failed_fits n volumes server model.NoEntry absent h r
root_located n volumes server absent (Some l) run i f h r =
    placed_fits n volumes server absent l.named.volume l.volume _ i (f l.volume l.named.fileid) h r

on_fits : (n volumes : ℕ) (server : Server) (absent : ℕ) (bytes : List ℕ) (run : VolumeState → ℕ → Effect)
    → ((volume : VolumeState) (fileid : ℕ) → length volume.verifier ≡ 8 → AreShort volume.memos → HaveShortTexts volume.nodes
    → Fits n volume (run volume fileid))
    → 4 + 4 * absent ≤ n → IsRoomy volumes server
    → StepFits n volumes (on server absent (locate server bytes) run)
on_fits n volumes server absent bytes run =
    on_located n volumes server absent (locate server bytes) run (located server.volumes (handle_of (length server.volumes) bytes))

if_step : (n volumes : ℕ) (b : Bool) (s t : Step) → StepFits n volumes s → StepFits n volumes t → StepFits n volumes (cond b s t)
if_step n volumes true s t f g = f
if_step n volumes false s t f g = g

two_located : (n volumes : ℕ) (server : Server) (absent : ℕ) (from to : Option Located) (run : VolumeState → ℕ → ℕ → Effect) → IsIn server.volumes from
    → ((volume : VolumeState) (a b : ℕ) → AreShort volume.memos → Fits n volume (run volume a b)) → 4 + 4 * absent ≤ n → IsRoomy volumes server
    → StepFits n volumes (on_two server absent from to run)
two_located n volumes server absent None to run i f h r = failed_fits n volumes server model.BadHandle absent h r
two_located n volumes server absent (Some from) None run i f h r = failed_fits n volumes server model.BadHandle absent h r
two_located n volumes server absent (Some from) (Some to) run i f h r =
    if_step n volumes (from.named.volume == to.named.volume) _ _
    (placed_fits n volumes server absent from.named.volume from.volume _ i (f from.volume from.named.fileid to.named.fileid
    (r.memos from.named.volume from.volume i)) h r)
    (failed_fits n volumes server model.CrossVolume absent h r)

-- ---- GROW

-- the same of what a growth comes to
record GrownFits (volumes : ℕ) (g : Grown) : Type 0 where
  answer : Takes 12 g.answer
  server : IsRoomy volumes g.server

grown_failed : (volumes : ℕ) (server : Server) (status : model.Status) → IsRoomy volumes server
    → GrownFits volumes (record { answer = model.Failed status 0; server = server })
grown_failed volumes server status r = record { answer = record { bytes = omega (arith, failed_size status 0) }; server = r }

if_grown : (volumes : ℕ) (b : Bool) (g h : Grown) → GrownFits volumes g → GrownFits volumes h → GrownFits volumes (cond b g h)
if_grown volumes true g h f k = f
if_grown volumes false g h f k = k

grow_at_fits : (volumes : ℕ) (server : Server) (index : ℕ) (o : Option VolumeState) (ranges : ℕ) → slice_get server.volumes index ≡ o
    → IsRoomy volumes server → GrownFits volumes (grow_volume server index o ranges)
grow_at_fits volumes server index None ranges e r = grown_failed volumes server model.NoEntry r
grow_at_fits volumes server index (Some volume) ranges e r =
    if_grown volumes _ _ _ (grown_failed volumes server model.Invalid r)
    (if_grown volumes _ _ _ (grown_failed volumes server model.TooBig r)
    (if_grown volumes _ _ _ (grown_failed volumes server model.NoSpace r)
    (record {
      answer = grow_size (volume.total + volume.range_blocks * ranges);
      server = set_roomy volumes server _ index
          (record volume { total = volume.total + volume.range_blocks * ranges }) (r.verifiers index volume e) (r.memos index volume e) (r.texts index volume e) r;
    })))

grow_fits : (volumes : ℕ) (server : Server) (index ranges : ℕ) → IsRoomy volumes server
    → StepFits 12 volumes (record { reply = model.Success (grow server index ranges).answer; server = (grow server index ranges).server })
grow_fits volumes server index ranges r =
    let g = grow_at_fits volumes server index (slice_get server.volumes index) ranges refl r in
    record { reply = success_fits 12 (grow server index ranges).answer g.answer; server = g.server }

-- ---- all calls

length-census : (vs : List VolumeState) → length (map count_of vs) ≡ length vs
length-census [] = refl
length-census (v ∷ vs) = ap suc (length-census vs)

census_fits : (volumes : ℕ) (server : Server) → IsRoomy volumes server → Takes (4 + 20 * volumes) (census server)
census_fits volumes server r = record { bytes = omega (arith, r.few, length-census server.volumes, census_size (map count_of server.volumes)) }

-- a call that is refused by a right (Serial.Permission) fails, and each failure has its room
serve_fits : (volumes : ℕ) (server : Server) (call : model.Call) (caller : model.Caller) (moment : model.Moment) → IsRoomy volumes server
    → StepFits (results_room volumes call) volumes (serve server call caller moment)
serve_fits volumes server model.Null caller moment r = stay_fits 0 volumes server model.NullDone (record { bytes = omega arith }) r
serve_fits volumes server (model.Getattr handle) caller moment r = on_fits 88 volumes server 0 handle _ (λ v f e m t. getattr_fits v f) (omega arith) r
serve_fits volumes server (model.Setattr handle set guard) caller moment r =
    on_fits (4 + change_room) volumes server 2 handle _ (λ v f e m t. once_fits (4 + change_room) caller (model.Setattr handle set guard) moment (inl (omega arith))
    (if_results (length handle == 12) (Sets handle set guard)) v _ m
    (unless_fits (4 + change_room) v _ _ (setattr_fits set guard caller moment v f))) (omega arith) r
serve_fits volumes server (model.Lookup directory name) caller moment r =
    on_fits lookup_room volumes server 1 directory _ (λ v f e m t. unless_fits lookup_room v _ _ (name_fits lookup_room name moment _ v f lookup_fits))
    (omega arith) r
serve_fits volumes server (model.CheckAccess handle asked) caller moment r =
    on_fits 96 volumes server 1 handle _ (λ v f e m t. tell_fits 96 _ v f (λ a. access_size a (access_given caller asked a))) (omega arith) r
serve_fits volumes server (model.Readlink handle) caller moment r =
    on_fits readlink_room volumes server 1 handle _ (λ v f e m t. readlink_fits v f t) (omega arith) r
serve_fits volumes server (model.Read handle offset count) caller moment r =
    on_fits (read_room count) volumes server 1 handle _ (λ v f e m t. unless_fits (read_room count) v _ _ (read_fits offset count v f)) (omega arith) r
serve_fits volumes server (model.Write handle offset count written) caller moment r =
    let w : Writing = record { caller = caller; offset = offset; count = count; written = written; moment = moment } in
    on_fits 28 volumes server 2 handle _ (λ v f e m t. unless_fits 28 v _ _ (write_fits w v f e)) (omega arith) r
serve_fits volumes server (model.Create directory name mode) caller moment r =
    on_fits made_room volumes server 2 directory _ (λ v f e m t. once_fits made_room caller (model.Create directory name mode) moment (inr (omega arith))
    (if_results (is_short directory name) (Creates directory name mode)) v _ m
    (unless_fits made_room v _ _ (name_fits made_room name moment _ v f (create_fits mode caller)))) (omega arith) r
serve_fits volumes server (model.Mkdir directory name set) caller moment r =
    on_fits made_room volumes server 2 directory _ (λ v f e m t. once_fits made_room caller (model.Mkdir directory name set) moment (inr (omega arith))
    (if_results (is_short directory name) (MakesDirectory directory name set)) v _ m
    (unless_fits made_room v _ _ (name_fits made_room name moment _ v f (mkdir_fits set caller)))) (omega arith) r
serve_fits volumes server (model.Symlink directory name set text) caller moment r =
    on_fits made_room volumes server 2 directory _ (λ v f e m t. once_fits made_room caller (model.Symlink directory name set text) moment (inr (omega arith))
    (if_results (is_short directory name && nat_le (length text) most_text) (MakesSymbolicLink directory name set text)) v _ m
    (unless_fits made_room v _ _ (name_fits made_room name moment _ v f (symlink_fits set text caller)))) (omega arith) r
serve_fits volumes server (model.Mknod directory name kind set) caller moment r =
    on_fits made_room volumes server 2 directory _ (λ v f e m t. once_fits made_room caller (model.Mknod directory name kind set) moment (inr (omega arith))
    (if_results (is_short directory name) (MakesNode directory name kind set)) v _ m
    (unless_fits made_room v _ _ (name_fits made_room name moment _ v f (mknod_fits kind set caller)))) (omega arith) r
serve_fits volumes server (model.Remove directory name) caller moment r =
    on_fits (4 + change_room) volumes server 2 directory _ (λ v f e m t. once_fits (4 + change_room) caller (model.Remove directory name) moment (inl (omega arith))
    (if_results (is_short directory name) (Removes directory name)) v _ m
    (unless_fits (4 + change_room) v _ _ (name_fits (4 + change_room) name moment _ v f remove_fits))) (omega arith) r
serve_fits volumes server (model.Rmdir directory name) caller moment r =
    on_fits (4 + change_room) volumes server 2 directory _ (λ v f e m t. once_fits (4 + change_room) caller (model.Rmdir directory name) moment (inl (omega arith))
    (if_results (is_short directory name) (RemovesDirectory directory name)) v _ m
    (unless_fits (4 + change_room) v _ _ (name_fits (4 + change_room) name moment _ v f rmdir_fits))) (omega arith) r
serve_fits volumes server (model.Rename from from_name to to_name) caller moment r =
    two_located rename_room volumes server 4 (locate server from) (locate server to) _ (located server.volumes (handle_of (length server.volumes) from))
    (λ v a b m. once_fits rename_room caller (model.Rename from from_name to to_name) moment (inr (omega arith))
    (if_results (is_short from from_name && is_short to to_name) (Renames from from_name to to_name)) v _ m
    (unless_fits rename_room v _ _ (rename_fits from_name to_name moment v a b)))
    (omega arith) r
serve_fits volumes server (model.Link handle directory name) caller moment r =
    two_located link_room volumes server 3 (locate server handle) (locate server directory) _
    (located server.volumes (handle_of (length server.volumes) handle))
    (λ v a b m. once_fits link_room caller (model.Link handle directory name) moment (inl (omega arith))
    (if_results ((length handle == 12) && is_short directory name) (Links handle directory name)) v _ m
    (unless_fits link_room v _ _ (link_fits name moment v a b)))
    (omega arith) r
serve_fits volumes server (model.Readdir directory cookie verifier count) caller moment r =
    on_fits (readdir_room count) volumes server 1 directory _ (λ v f e m t. unless_fits (readdir_room count) v _ _ (readdir_fits cookie verifier count v f))
    (omega arith) r
serve_fits volumes server (model.Readdirplus directory cookie verifier names_count count) caller moment r =
    on_fits (readdir_room count) volumes server 1 directory _ (λ v f e m t. unless_fits (readdir_room count) v _ _
    (readdirplus_fits cookie verifier names_count count caller v f)) (omega arith) r
serve_fits volumes server (model.Fsstat handle) caller moment r = on_fits 144 volumes server 1 handle _ (λ v f e m t. fsstat_fits v f) (omega arith) r
serve_fits volumes server (model.Fsinfo handle) caller moment r =
    on_fits 140 volumes server 1 handle _ (λ v f e m t. tell_fits 140 _ v f (λ a. fsinfo_size a v.largest)) (omega arith) r
serve_fits volumes server (model.Pathconf handle) caller moment r =
    on_fits 116 volumes server 1 handle _ (λ v f e m t. tell_fits 116 _ v f (λ a. pathconf_size a caller.checked)) (omega arith) r
serve_fits volumes server (model.Commit handle) caller moment r =
    on_fits (4 + change_room + 8) volumes server 2 handle _ (λ v f e m t. unless_fits (4 + change_room + 8) v _ _ (commit_fits v f e)) (omega arith) r
serve_fits volumes server model.Census caller moment r = stay_fits (4 + 20 * volumes) volumes server (census server) (census_fits volumes server r) r
serve_fits volumes server (model.Grow volume ranges) caller moment r = grow_fits volumes server volume ranges r
serve_fits volumes server model.Stop caller moment r = stay_fits 0 volumes server model.StopDone (record { bytes = omega arith }) r
serve_fits volumes server (model.Mount call) caller moment r =
    stay_fits 204 volumes server (mount (length server.volumes) call) (mount_size (length server.volumes) call) r
serve_fits volumes server (model.MountBelow root path) caller moment r =
    root_located mount_room volumes server 0 (locate server root) _ (located server.volumes (handle_of (length server.volumes) root))
    (below_fits (parts_below path) caller) (omega arith) r

serial_fits : (volumes : ℕ) (server : Server) (call : model.Call) (caller : model.Caller) (moment : model.Moment) (starved : Bool) → IsRoomy volumes server
    → StepFits (results_room volumes call) volumes (serial server (model.Ask call caller) moment starved)
serial_fits volumes server call caller moment true r = record { reply = starved_fits (results_room volumes call); server = r }
serial_fits volumes server call caller moment false r = serve_fits volumes server call caller moment r

pub reply_fits : (form : HandleForm) (volumes : ℕ) (server : Server) (call : model.Call)
    (caller : model.Caller) (moment : model.Moment) (starved : Bool) (xid : ℕ)
    → IsRoomy volumes server
    → length (reply_record xid (reply_told form (serial server (model.Ask call caller) moment starved).reply)) ≤ reply_room volumes call
reply_fits form volumes server call caller moment starved xid r = (serial_fits volumes server call caller moment starved r).reply form xid

pub room_stays : (volumes : ℕ) (server : Server) (asked : model.Asked) (moment : model.Moment) (starved : Bool) → IsRoomy volumes server
    → IsRoomy volumes (serial server asked moment starved).server
room_stays volumes server asked moment true r = r
room_stays volumes server (model.Ask call caller) moment false r = (serve_fits volumes server call caller moment r).server
room_stays volumes server (model.Refused reply) moment false r = r
room_stays volumes server model.Undecoded moment false r = r

-- ---- the server as it begins

opening_all : (P : VolumeState → Type 0) (verifier : List ℕ) → ((number : ℕ) (x : VolumeLayout) → P (opening_volume verifier number x)) → (number : ℕ)
    (vs : List VolumeLayout) → AllAre P (opening_volumes verifier number vs)
opening_all P verifier p number [] i v h = absurd cc
opening_all P verifier p number (x ∷ xs) zero v h =
    let same : opening_volume verifier number x ≡ v = cc in
    subst P same (p number x)
opening_all P verifier p number (x ∷ xs) (suc i) v h = opening_all P verifier p (number + 1) xs i v h

none_short : (n : ℕ) → AreShort (replicate n None)
none_short zero k memo e = absurd cc
none_short (suc n) zero memo e = absurd cc
none_short (suc n) (suc k) memo e = none_short n k memo e

length-opening : (verifier : List ℕ) (number : ℕ) (vs : List VolumeLayout) → length (opening_volumes verifier number vs) ≡ length vs
length-opening verifier number [] = refl
length-opening verifier number (x ∷ xs) = ap suc (length-opening verifier (number + 1) xs)

pub opening_is_roomy : (layout : Layout) (verifier : List ℕ) → length verifier ≡ 8 → IsRoomy (length layout.volumes) (opening layout verifier)
opening_is_roomy layout verifier e =
    record {
      few = omega (arith, length-opening verifier 0 layout.volumes);
      verifiers = opening_all HasEight verifier (λ number x. e) 0 layout.volumes;
      memos = opening_all RemembersShort verifier (λ number x. none_short x.remembered) 0 layout.volumes;
      texts = opening_all HasTextsShort verifier (λ number x. root_short _) 0 layout.volumes;
    }

-- ---- what is answered at once

at_once : (volumes : ℕ) (call : model.Call) (status : model.Status) (absent : ℕ) → 4 + 4 * absent ≤ results_room volumes call
    → Takes (results_room volumes call) (model.Failed status absent)
at_once volumes call status absent h = record { bytes = omega (arith, h, failed_size status absent) }

two_at_once : (n absent : ℕ) → 4 + 4 * absent ≤ n → (from to : Option Named) → Takes n (answer_of_two absent from to)
two_at_once n absent h None to = record { bytes = omega (arith, h, failed_size model.BadHandle absent) }
two_at_once n absent h (Some from) None = record { bytes = omega (arith, h, failed_size model.BadHandle absent) }
two_at_once n absent h (Some from) (Some to) = record { bytes = omega (arith, h, failed_size model.CrossVolume absent) }

answer_at_once : (volumes : ℕ) (layout : Layout) (call : model.Call) → Takes (results_room volumes call) (answer_without_home layout call)
answer_at_once volumes layout model.Null = record { bytes = omega arith }
answer_at_once volumes layout (model.Rename from from_name to to_name) =
    two_at_once rename_room 4 (omega arith) (named_by layout from) (named_by layout to)
answer_at_once volumes layout (model.Link handle directory name) =
    two_at_once link_room 3 (omega arith) (named_by layout handle) (named_by layout directory)
answer_at_once volumes layout model.Census = record { bytes = omega arith }
answer_at_once volumes layout (model.Grow volume ranges) = at_once volumes (model.Grow volume ranges) model.NoEntry 0 (omega arith)
answer_at_once volumes layout model.Stop = record { bytes = omega arith }
answer_at_once volumes layout (model.Mount call) = mount_size (length layout.volumes) call
answer_at_once volumes layout (model.MountBelow root path) = at_once volumes (model.MountBelow root path) model.NoEntry 0 (omega arith)
answer_at_once volumes layout call = at_once volumes call model.BadHandle (absent_parts call) (omega arith)

pub reply_at_once_fits : (form : HandleForm) (volumes : ℕ) (layout : Layout) (call : model.Call) (xid : ℕ)
    → length (reply_record xid (reply_told form (model.Success (answer_without_home layout call)))) ≤ reply_room volumes call
reply_at_once_fits form volumes layout call xid =
    success_fits (results_room volumes call) (answer_without_home layout call) (answer_at_once volumes layout call) form xid
