-- What a call on a volume keeps of it, and that its answer can be told again.
use Rattle.std.proofs.Common.{◌≡◌, ℕ, ◌+◌, Bool, true, false, cond, List, [], ◌∷◌, Option, Some, None, refl, sym, ap, ◌∙◌, arith}
use Rattle.std.proofs.lemmas.Bool.Decides.{nat_tests}
use Rattle.std.specs.Prelude.{not, ◌==◌, ◌&&◌, is_none, min, nat_le, nat_lt, if◌then◌else◌}
use Rattle.std.specs.FinMap.{get, insert}
use Rattle.nfs_model.specs.Types as model
use Rattle.nfs_model.specs.Memo.{Told, ToldSet, ToldMade, ToldGone, ToldRenamed, ToldLinked}
use Rattle.nfs_model.specs.Server.{FileNode, DirectoryNode, SpecialNode, Node, File, Directory, Special, VolumeState, most_bytes, handle_bytes}
use Rattle.nfs_model.specs.Shown.{shown, wcc}
use Rattle.nfs_model.specs.Names.{find_name, is_dots, name_fault, same_name, dot, dot_dot}
use Rattle.nfs_model.specs.Locate.{Effect, Fails, Tells, Changes, unless, on_node, on_directory, on_file, Found, child}
use Rattle.nfs_model.specs.Locate.{Naming, is_node_of, named_child, on_name}
use Rattle.nfs_model.specs.Serial.Once.{told_of, answer_told}
use Rattle.nfs_model.specs.Serial.Permission.{refusal, permitted, permitted_two}
use Rattle.nfs_model.specs.Serial.Setattr.{with_node, set_file, set_taken, setattr}
use Rattle.nfs_model.specs.Serial.Getattr.{getattr, tell_of}
use Rattle.nfs_model.specs.Serial.Lookup.{lookup_told}
use Rattle.nfs_model.specs.Serial.Links.{with_link, without_link}
use Rattle.nfs_model.specs.Serial.Readlink.{if_symbolic, on_symbolic, readlink}
use Rattle.nfs_model.specs.Serial.Read.{read}
use Rattle.nfs_model.specs.Serial.Write.{Writing, write_some, write}
use Rattle.nfs_model.specs.Serial.Create.{made_told, with_child, directory_made, made, there_told, set_there, over_taken, is_verifier, new_file, maker, create_over, create_at, create}
use Rattle.nfs_model.specs.Serial.Mkdir.{new_directory, mkdir_at, mkdir}
use Rattle.nfs_model.specs.Serial.Symlink.{text_fault, new_special, symlink_at, symlink}
use Rattle.nfs_model.specs.Serial.Mknod.{if_made, mknod_kind, mknod_at, mknod}
use Rattle.nfs_model.specs.Serial.Remove.{directory_left, without_child, gone, remove_found, remove_at, remove_name}
use Rattle.nfs_model.specs.Serial.Rmdir.{if_empty, rmdir_found, rmdir_at, rmdir}
use Rattle.nfs_model.specs.Serial.Link.{directory_fault, links_fault, directory_linked, with_another, linked, link_at, link_name, link}
use Rattle.nfs_model.specs.Serial.Rename.{Renaming, climb_fault, met_above, may_replace, may_go, renamed_volume, rename_told, rename_at, rename_in, rename}
use Rattle.nfs_model.specs.Serial.Readdir.{paged, readdir}
use Rattle.nfs_model.specs.Serial.Readdirplus.{listed_for, paged_plus, readdirplus}
use Rattle.nfs_model.specs.Serial.Fsstat.{fsstat}
use Rattle.nfs_model.specs.Serial.Commit.{commit}
use Rattle.nfs_model.specs.Serial.MountBelow.{part_fault, on_entry, search_refusal, mount_below}
use Rattle.nfs_laws.specs.Repeated.{is_success}
use Rattle.nfs_laws.specs.Links.{list_in, names_said}
use Rattle.nfs_laws.specs.lemmas.Linked.{nothing, Agree, ListsDiffer, IsLinked, IsAlike, alike_agrees, alike_lists, none-listed, named_fileid, made_agrees}
use Rattle.nfs_laws.specs.lemmas.Linked.{made_lists, another_agrees, another_lists, gone_agrees, gone_lists, renamed_agrees, may_be_empty, set_alike}
use Rattle.nfs_laws.specs.lemmas.Linked.{written_alike}
use Rattle.nfs_laws.specs.lemmas.Fileids.{AreBelow, insert_below, left_below, below_next, more_below, below_more, renamed_below, found_there, child_there}

-- ---- what is kept

-- a volume with another's number, blocks of a range, and what is remembered; its fileids are below the next one, and names and links agree in
-- it, if they did
pub record Keeps (old new : VolumeState) : Type 0 where
  pub number : new.number ≡ old.number
  pub range_blocks : new.range_blocks ≡ old.range_blocks
  pub memos : new.memos ≡ old.memos
  pub fileids : AreBelow old.next old.nodes → AreBelow new.next new.nodes
  pub linked : IsLinked old → IsLinked new

-- an answer can be told again, of a volume of this number
abbrev pub CanTell : ℕ → model.Answer → Type 0
CanTell number answer = (told : Told) × ((told_of answer ≡ Some told) × (answer_told number told ≡ answer))

-- a fact of the volume before a call, its answer and the volume after it
abbrev pub Fact : Type 1
Fact = VolumeState → model.Answer → VolumeState → Type 0

-- of a call whose reply isn't remembered, and of one whose reply is
abbrev pub Keeping : Fact
Keeping old answer new = Keeps old new

abbrev pub Telling : Fact
Telling old answer new = Keeps old new × CanTell old.number answer

-- it holds of what a call comes to, if that is a success
pub Ends : Fact → VolumeState → Effect → Type 0
Ends Q old (Fails status) = Unit {0}
Ends Q old (Tells answer) = Q old answer old
Ends Q old (Changes answer new) = (is_success (model.Success answer) ≡ true) × Q old answer new

pub same : (volume : VolumeState) → Keeps volume volume
same volume = record { number = refl; range_blocks = refl; memos = refl; fileids = λ b. b; linked = λ l. l }

-- the directory of a name is there
abbrev pub IsNamed : Naming → Type 0
IsNamed n = get n.volume.nodes n.fileid ≡ Some (Directory n.directory)

-- ---- the parts of procedures

module _ (Q : Fact) where
  pub ends_tells : (old : VolumeState) (answer : model.Answer) → Ends Q old (Tells answer) → Q old answer old
  unfolding Ends
  ends_tells old answer q = q

  pub ends_changes : (old : VolumeState) (answer : model.Answer) (new : VolumeState) → Ends Q old (Changes answer new)
      → (is_success (model.Success answer) ≡ true) × Q old answer new
  unfolding Ends
  ends_changes old answer new q = q

  pub fails : (old : VolumeState) (status : model.Status) → Ends Q old (Fails status)
  unfolding Ends
  fails old status = tt

  pub tells : (old : VolumeState) (answer : model.Answer) → Q old answer old → Ends Q old (Tells answer)
  unfolding Ends
  tells old answer q = q

  pub changes : (old : VolumeState) (answer : model.Answer) (new : VolumeState) → is_success (model.Success answer) ≡ true → Q old answer new
      → Ends Q old (Changes answer new)
  unfolding Ends
  changes old answer new e q = (e, q)

  pub unless_ends : (old : VolumeState) (o : Option model.Status) (e : Effect) → Ends Q old e → Ends Q old (unless o e)
  unless_ends old None e f = f
  unless_ends old (Some status) e f = fails old status

  unless_by : (old : VolumeState) (o : Option model.Status) (e : Effect) → (o ≡ None → Ends Q old e) → Ends Q old (unless o e)
  unless_by old None e f = f refl
  unless_by old (Some status) e f = fails old status

  pub if_ends : (old : VolumeState) (b : Bool) (e d : Effect) → Ends Q old e → Ends Q old d → Ends Q old (cond b e d)
  if_ends old true e d f g = f
  if_ends old false e d f g = g

  node_ends : (old : VolumeState) (o : Option Node) (run : Node → Effect) → ((node : Node) → o ≡ Some node → Ends Q old (run node))
      → Ends Q old (on_node o run)
  node_ends old None run f = fails old model.Stale
  node_ends old (Some node) run f = f node refl

  directory_ends : (old : VolumeState) (o : Option Node) (run : DirectoryNode → Effect) → ((d : DirectoryNode) → o ≡ Some (Directory d) → Ends Q old (run d))
      → Ends Q old (on_directory o run)
  directory_ends old None run f = fails old model.Stale
  directory_ends old (Some (File g)) run f = fails old model.NotDirectory
  directory_ends old (Some (Directory d)) run f = f d refl
  directory_ends old (Some (Special s)) run f = fails old model.NotDirectory

  file_ends : (old : VolumeState) (o : Option Node) (run : FileNode → Effect) → ((g : FileNode) → o ≡ Some (File g) → Ends Q old (run g))
      → Ends Q old (on_file o run)
  file_ends old None run f = fails old model.Stale
  file_ends old (Some (File g)) run f = f g refl
  file_ends old (Some (Directory d)) run f = fails old model.Invalid
  file_ends old (Some (Special s)) run f = fails old model.Invalid

  pub name_ends : (name : List ℕ) (moment : model.Moment) (run : Naming → Effect) (volume : VolumeState) (fileid : ℕ)
      → ((x : Naming) → IsNamed x → Ends Q x.volume (run x)) → Ends Q volume (on_name name moment run volume fileid)
  name_ends name moment run volume fileid f =
      directory_ends volume (get volume.nodes fileid) _ (λ d e.
      unless_ends volume (name_fault name) _ (f (record { volume = volume; fileid = fileid; directory = d; name = name; moment = moment }) e))

  -- a call on one handle, and RENAME, that are permitted or refused
  pub permitted_ends : (caller : model.Caller) (call : model.Call) (run : VolumeState → ℕ → Effect)
      → ((volume : VolumeState) (fileid : ℕ) → Ends Q volume (run volume fileid)) → (volume : VolumeState) (fileid : ℕ)
      → Ends Q volume (permitted caller call run volume fileid)
  permitted_ends caller call run f volume fileid =
      unless_ends volume (refusal caller call volume fileid 0) (run volume fileid) (f volume fileid)

  pub permitted_two_ends : (caller : model.Caller) (call : model.Call) (run : VolumeState → ℕ → ℕ → Effect)
      → ((volume : VolumeState) (from to : ℕ) → Ends Q volume (run volume from to)) → (volume : VolumeState) (from to : ℕ)
      → Ends Q volume (permitted_two caller call run volume from to)
  permitted_two_ends caller call run f volume from to =
      unless_ends volume (refusal caller call volume from to) (run volume from to) (f volume from to)

  pub empty_by : (old : VolumeState) (list : List model.Listed) (e : Effect) → (list ≡ [] → Ends Q old e) → Ends Q old (if_empty list e)
  empty_by old [] e f = f refl
  empty_by old (x ∷ xs) e f = fails old model.NotEmpty

  pub empty_ends : (old : VolumeState) (list : List model.Listed) (e : Effect) → Ends Q old e → Ends Q old (if_empty list e)
  empty_ends old [] e f = f
  empty_ends old (x ∷ xs) e f = fails old model.NotEmpty

  entry_ends : (old : VolumeState) (o : Option model.Listed) (run : ℕ → Effect) → ((fileid : ℕ) → Ends Q old (run fileid)) → Ends Q old (on_entry o run)
  entry_ends old None run f = fails old model.NoEntry
  entry_ends old (Some e) run f = f e.fileid

-- ---- what answers that are remembered tell

shown_fileid : (volume : VolumeState) (fileid : ℕ) (node : Node) → (shown volume fileid node).fileid ≡ fileid
shown_fileid volume fileid (File f) = refl
shown_fileid volume fileid (Directory d) = refl
shown_fileid volume fileid (Special s) = refl

made_tells : (n : Naming) (new : VolumeState) (found : Found) (directory : Node) → CanTell new.number (made_told n new found directory)
made_tells n new found directory = (
  ToldMade (shown new found.fileid found.node) (wcc n.volume n.fileid (Directory n.directory) new directory),
  (
    refl,
    ap (λ fileid. model.MadeDone (handle_bytes new.number fileid) (shown new found.fileid found.node)
        (wcc n.volume n.fileid (Directory n.directory) new directory)) (shown_fileid new found.fileid found.node),
  ),
)

-- of volumes alike but in their nodes and the next fileid
others : (old new : VolumeState) → new.number ≡ old.number → new.range_blocks ≡ old.range_blocks → new.memos ≡ old.memos
    → (nat_lt 1 old.next ≡ true → nat_lt 1 new.next ≡ true) → (AreBelow old.next old.nodes → AreBelow new.next new.nodes)
    → (IsLinked old → Agree nothing nothing new.nodes × ListsDiffer new.nodes) → Keeps old new
others old new e f g h i j = record {
  number = e;
  range_blocks = f;
  memos = g;
  fileids = i;
  linked = λ l. record { agree = (j l).0; differ = (j l).1; below = i l.below; begun = h l.begun };
}

-- a volume with another node where one is, which has the same entries and says the same of its names
another : (volume : VolumeState) (fileid : ℕ) (there node : Node) → get volume.nodes fileid ≡ Some there → IsAlike fileid there node
    → Keeps volume (with_node volume fileid node)
another volume fileid there node e alike =
    others volume (with_node volume fileid node) refl refl refl (λ b. b) (λ b. insert_below volume.next volume.nodes fileid node (b fileid there e) b)
    (λ l. (
      alike_agrees nothing nothing volume.nodes fileid there node e alike l.agree,
      alike_lists volume.nodes fileid there node e alike l.differ,
    ))

-- ---- procedures whose reply is remembered

pub setattr_ends : (set : model.SetAttributes) (guard : Option model.Moment) (caller : model.Caller) (moment : model.Moment) (volume : VolumeState)
    (fileid : ℕ) → Ends Telling volume (setattr set guard caller moment volume fileid)
setattr_ends set guard caller moment volume fileid =
    node_ends Telling volume (get volume.nodes fileid) _ (λ node e. unless_ends Telling volume _ _
    (changes Telling _ _ _ refl (another volume fileid node _ e (set_alike fileid (set_taken caller set node) moment node), (ToldSet _, (refl, refl)))))

-- nothing is found under the name, where names and links agree
not_listed : (n : Naming) → IsNamed n → named_child n ≡ None → IsLinked n.volume → find_name n.name n.directory.list ≡ None
not_listed n e none l =
    none-listed n.volume.nodes n.fileid n.directory n.name (find_name n.name n.directory.list) l.agree e refl n.volume refl none

made_ends : (n : Naming) (node : Node) → IsNamed n → named_child n ≡ None → list_in node ≡ []
    → (IsLinked n.volume → names_said n.volume.next (Some node) ≡ 1) → Ends Telling n.volume (made n node)
made_ends n node e none empty one =
    changes Telling n.volume _ (with_child n node) refl (
      others n.volume (with_child n node) refl refl refl (below_more 1 n.volume.next) (λ b.
          let more : AreBelow (n.volume.next + 1) n.volume.nodes = more_below n.volume.next n.volume.nodes b in
          insert_below (n.volume.next + 1) (insert n.volume.nodes n.volume.next node) n.fileid (directory_made n) (more n.fileid _ e)
          (insert_below (n.volume.next + 1) n.volume.nodes n.volume.next node (below_next n.volume.next) more))
          (λ l. (made_agrees n node e empty (one l) l, made_lists n node e empty (not_listed n e none l) l)),
      made_tells n (with_child n node) (record { fileid = n.volume.next; node = node }) (directory_made n),
    )

set_there_ends : (n : Naming) (fileid : ℕ) (there node : Node) → get n.volume.nodes fileid ≡ Some there → IsAlike fileid there node
    → Ends Telling n.volume (set_there n fileid node)
set_there_ends n fileid there node e alike =
    let new = with_node n.volume fileid node in
    changes Telling n.volume _ new refl (
      another n.volume fileid there node e alike,
      made_tells (record n { volume = new }) new (record { fileid = fileid; node = node }) (Directory n.directory),
    )

there_ends : (n : Naming) (found : Found) → Ends Telling n.volume (Tells (there_told n n.volume found))
there_ends n found = tells Telling n.volume _ (same n.volume, made_tells n n.volume found (Directory n.directory))

create_over_ends : (n : Naming) (mode : model.CreateMode) (caller : model.Caller) (fileid : ℕ) (node : Node) → get n.volume.nodes fileid ≡ Some node
    → Ends Telling n.volume (create_over n mode caller fileid node)
create_over_ends n (model.Guarded set) caller fileid node e = fails _ _ _
create_over_ends n (model.Unchecked set) caller fileid (Directory other) e = fails _ _ _
create_over_ends n (model.Exclusive verifier) caller fileid (Directory other) e = fails _ _ _
create_over_ends n (model.Unchecked set) caller fileid (Special other) e = fails _ _ _
create_over_ends n (model.Exclusive verifier) caller fileid (Special other) e = fails _ _ _
create_over_ends n (model.Exclusive verifier) caller fileid (File f) e =
    if_ends Telling n.volume (is_verifier f.verifier verifier) _ _ (there_ends n (record { fileid = fileid; node = File f })) (fails _ _ model.Exists)
create_over_ends n (model.Unchecked set) caller fileid (File f) e =
    if_ends Telling n.volume (caller.checked && is_none set.size) _ _ (there_ends n (record { fileid = fileid; node = File f }))
    (unless_ends Telling n.volume _ _ (set_there_ends n fileid (File f) (File (set_file (set_taken caller (over_taken caller set) (File f)) n.moment f)) e
    (set_alike fileid (set_taken caller (over_taken caller set) (File f)) n.moment (File f))))

create_at_ends : (n : Naming) (mode : model.CreateMode) (caller : model.Caller) (o : Option Found) → IsNamed n → named_child n ≡ o
    → Ends Telling n.volume (create_at n mode caller o)
create_at_ends n mode caller (Some found) e f = create_over_ends n mode caller found.fileid found.node (found_there n.volume _ found f)
create_at_ends n mode caller None e f = unless_ends Telling n.volume _ _ (made_ends n (new_file mode (maker caller n) n.moment) e f refl (λ l. refl))

pub create_ends : (mode : model.CreateMode) (caller : model.Caller) (n : Naming) → IsNamed n → Ends Telling n.volume (create mode caller n)
create_ends mode caller n e =
    if_ends Telling n.volume (is_dots n.name) _ _ (fails _ _ _) (create_at_ends n mode caller (named_child n) e refl)

-- no directory that is made is the root
not_the_root : (next : ℕ) (b : Bool) → (next == 1) ≡ b → nat_lt 1 next ≡ true → ◌≡◌ {A = ℕ} (if b then 0 else 1) 1
not_the_root next true e less = absurd (grind (arith, nat_tests))
not_the_root next false e less = refl

mkdir_at_ends : (n : Naming) (set : model.SetAttributes) (caller : model.Caller) (o : Option Found) → IsNamed n → named_child n ≡ o
    → Ends Telling n.volume (mkdir_at n set caller o)
mkdir_at_ends n set caller (Some found) e f = fails _ _ _
mkdir_at_ends n set caller None e f =
    unless_ends Telling n.volume _ _ (made_ends n (new_directory n.fileid set (maker caller n) n.moment) e f refl
    (λ l. not_the_root n.volume.next (n.volume.next == 1) refl l.begun))

pub mkdir_ends : (set : model.SetAttributes) (caller : model.Caller) (n : Naming) → IsNamed n → Ends Telling n.volume (mkdir set caller n)
mkdir_ends set caller n e = if_ends Telling n.volume (is_dots n.name) _ _ (fails _ _ _) (mkdir_at_ends n set caller (named_child n) e refl)

symlink_at_ends : (n : Naming) (set : model.SetAttributes) (text : List ℕ) (caller : model.Caller) (o : Option Found) → IsNamed n → named_child n ≡ o
    → Ends Telling n.volume (symlink_at n set text caller o)
symlink_at_ends n set text caller (Some found) e f = fails _ _ _
symlink_at_ends n set text caller None e f =
    unless_ends Telling n.volume (text_fault text) _
    (unless_ends Telling n.volume _ _ (made_ends n (new_special model.SymbolicLink 511 set text (maker caller n) n.moment) e f refl (λ l. refl)))

pub symlink_ends : (set : model.SetAttributes) (text : List ℕ) (caller : model.Caller) (n : Naming) → IsNamed n
    → Ends Telling n.volume (symlink set text caller n)
symlink_ends set text caller n e =
    if_ends Telling n.volume (is_dots n.name) _ _ (fails _ _ _) (symlink_at_ends n set text caller (named_child n) e refl)

made_kind_ends : (old : VolumeState) (special : model.SpecialType) (x : Effect) → Ends Telling old x → Ends Telling old (if_made special x)
made_kind_ends old model.SymbolicLink x f = fails Telling old model.BadType
made_kind_ends old model.Fifo x f = f
made_kind_ends old model.Socket x f = f
made_kind_ends old (model.BlockDevice device) x f = f
made_kind_ends old (model.CharacterDevice device) x f = f

mknod_kind_ends : (n : Naming) (kind : model.Kind) (set : model.SetAttributes) (caller : model.Caller) → IsNamed n → named_child n ≡ None
    → Ends Telling n.volume (mknod_kind n kind set caller)
mknod_kind_ends n model.Regular set caller e f = fails _ _ _
mknod_kind_ends n model.DirectoryKind set caller e f = fails _ _ _
mknod_kind_ends n (model.SpecialKind special) set caller e f =
    made_kind_ends n.volume special _
    (unless_ends Telling n.volume _ _ (made_ends n (new_special special 420 set [] (maker caller n) n.moment) e f refl (λ l. refl)))

mknod_at_ends : (n : Naming) (kind : model.Kind) (set : model.SetAttributes) (caller : model.Caller) (o : Option Found) → IsNamed n → named_child n ≡ o
    → Ends Telling n.volume (mknod_at n kind set caller o)
mknod_at_ends n kind set caller (Some found) e f = fails _ _ _
mknod_at_ends n kind set caller None e f = mknod_kind_ends n kind set caller e f

pub mknod_ends : (kind : model.Kind) (set : model.SetAttributes) (caller : model.Caller) (n : Naming) → IsNamed n
    → Ends Telling n.volume (mknod kind set caller n)
mknod_ends kind set caller n e =
    if_ends Telling n.volume (is_dots n.name) _ _ (fails _ _ _) (mknod_at_ends n kind set caller (named_child n) e refl)

-- the entry of what is found under the name
entry_found : (n : Naming) (found : Found) → named_child n ≡ Some found
    → (y : model.Listed) × ((find_name n.name n.directory.list ≡ Some y) × (y.fileid ≡ found.fileid))
entry_found n found c = by (find_name n.name n.directory.list) refl c
  where
    by : (o : Option model.Listed) → find_name n.name n.directory.list ≡ o → child n.volume o ≡ Some found
        → (y : model.Listed) × ((find_name n.name n.directory.list ≡ Some y) × (y.fileid ≡ found.fileid))
    by None f g = absurd cc
    by (Some y) f g = (y, (f, named_fileid n.volume y found g))

gone_ends : (n : Naming) (found : Found) → IsNamed n → named_child n ≡ Some found → list_in found.node ≡ [] → Ends Telling n.volume (gone n found)
gone_ends n found e c empty =
    let there : get n.volume.nodes found.fileid ≡ Some found.node = found_there n.volume _ found c in
    let y = entry_found n found c in
    changes Telling n.volume _ (without_child n found) refl (
      others n.volume (without_child n found) refl refl refl (λ b. b) (λ b.
          insert_below n.volume.next _ n.fileid (directory_left n) (b n.fileid _ e)
          (left_below n.volume.next n.volume.nodes found.fileid (without_link n.moment found.node) (b found.fileid found.node there) b))
          (λ l. (gone_agrees n found y.0 e there y.1.0 y.1.1 empty l, gone_lists n found y.0 e there y.1.0 y.1.1 empty l)),
      (ToldGone _, (refl, refl)),
    )

remove_found_ends : (n : Naming) (found : Found) (node : Node) → IsNamed n → named_child n ≡ Some found → found.node ≡ node
    → Ends Telling n.volume (remove_found n found node)
remove_found_ends n found (File f) e c is = gone_ends n found e c (ap list_in is)
remove_found_ends n found (Directory d) e c is = fails _ _ _
remove_found_ends n found (Special s) e c is = gone_ends n found e c (ap list_in is)

remove_at_ends : (n : Naming) (o : Option Found) → IsNamed n → named_child n ≡ o → Ends Telling n.volume (remove_at n o)
remove_at_ends n None e c = fails _ _ _
remove_at_ends n (Some found) e c = remove_found_ends n found found.node e c refl

pub remove_ends : (n : Naming) → IsNamed n → Ends Telling n.volume (remove_name n)
remove_ends n e = if_ends Telling n.volume (is_dots n.name) _ _ (fails _ _ _) (remove_at_ends n (named_child n) e refl)

rmdir_found_ends : (n : Naming) (found : Found) (node : Node) → IsNamed n → named_child n ≡ Some found → found.node ≡ node
    → Ends Telling n.volume (rmdir_found n found node)
rmdir_found_ends n found (File f) e c is = fails _ _ _
rmdir_found_ends n found (Directory d) e c is = empty_by Telling n.volume d.list _ (λ empty. gone_ends n found e c (ap list_in is ∙ empty))
rmdir_found_ends n found (Special s) e c is = fails _ _ _

rmdir_at_ends : (n : Naming) (o : Option Found) → IsNamed n → named_child n ≡ o → Ends Telling n.volume (rmdir_at n o)
rmdir_at_ends n None e c = fails _ _ _
rmdir_at_ends n (Some found) e c = rmdir_found_ends n found found.node e c refl

pub rmdir_ends : (n : Naming) → IsNamed n → Ends Telling n.volume (rmdir n)
rmdir_ends n e =
    if_ends Telling n.volume (same_name n.name dot) _ _ (fails _ _ _)
    (if_ends Telling n.volume (same_name n.name dot_dot) _ _ (fails _ _ _) (rmdir_at_ends n (named_child n) e refl))

linked_ends : (n : Naming) (object : Found) → IsNamed n → named_child n ≡ None → get n.volume.nodes object.fileid ≡ Some object.node
    → directory_fault object.node ≡ None → Ends Telling n.volume (linked n object)
linked_ends n object e none there fault =
    changes Telling n.volume _ (with_another n object) refl (
      others n.volume (with_another n object) refl refl refl (λ b. b) (λ b.
          insert_below n.volume.next _ n.fileid (directory_linked n object.fileid) (b n.fileid _ e)
          (insert_below n.volume.next n.volume.nodes object.fileid (with_link n.moment object.node) (b object.fileid object.node there) b))
          (λ l. (another_agrees n object e there fault l, another_lists n object e there fault l (not_listed n e none l))),
      (ToldLinked _ _, (refl, refl)),
    )

link_at_ends : (object : Found) (n : Naming) (o : Option Found) → IsNamed n → named_child n ≡ o → get n.volume.nodes object.fileid ≡ Some object.node
    → directory_fault object.node ≡ None → Ends Telling n.volume (link_at object n o)
link_at_ends object n (Some found) e c there fault = fails _ _ _
link_at_ends object n None e c there fault = unless_ends Telling n.volume (links_fault object.node) _ (linked_ends n object e c there fault)

link_name_ends : (object : Found) (n : Naming) → IsNamed n → get n.volume.nodes object.fileid ≡ Some object.node
    → directory_fault object.node ≡ None → Ends Telling n.volume (link_name object n)
link_name_ends object n e there fault =
    if_ends Telling n.volume (is_dots n.name) _ _ (fails _ _ _) (link_at_ends object n (named_child n) e refl there fault)

pub link_ends : (name : List ℕ) (moment : model.Moment) (volume : VolumeState) (fileid directory : ℕ)
    → Ends Telling volume (link name moment volume fileid directory)
link_ends name moment volume fileid directory =
    node_ends Telling volume (get volume.nodes fileid) _ (λ node there. unless_by Telling volume (directory_fault node) _ (λ fault.
    (directory_ends Telling volume (get volume.nodes directory) _ (λ d e. unless_ends Telling volume (name_fault name) _
    (link_name_ends (record { fileid = fileid; node = node })
    (record { volume = volume; fileid = directory; directory = d; name = name; moment = moment }) e there fault)))))

renamed_ends : (r : Renaming) (new : VolumeState) → Keeps r.from.volume new → Ends Telling r.from.volume (rename_told r new)
renamed_ends r new k = changes Telling _ _ new refl (k, (ToldRenamed _ _, (refl, refl)))

-- the ways of a condition, each with what it says
if_by : (Q : Fact) (old : VolumeState) (b : Bool) (e d : Effect) → Ends Q old e → (b ≡ false → Ends Q old d) → Ends Q old (cond b e d)
if_by Q old true e d f g = f
if_by Q old false e d f g = g refl

-- what may go has no entries
goes_empty : (moved : Node) (to : Option Found) → not (may_go moved to) ≡ false → (t : Found) → to ≡ Some t → list_in t.node ≡ []
goes_empty moved None may t e = absurd cc
goes_empty moved (Some u) may t e =
    let same : u ≡ t = cc in
    may_be_empty moved t.node (may_go_is (may_replace moved t.node) (ap (λ (x : Found). not (may_replace moved x.node)) (sym same) ∙ may))
  where
    may_go_is : (b : Bool) → not b ≡ false → b ≡ true
    may_go_is true e = refl
    may_go_is false e = absurd cc

module _ (volume : VolumeState) (from to : ℕ) (d e : DirectoryNode) (a b : List ℕ) (moment : model.Moment)
    (at_from : get volume.nodes from ≡ Some (Directory d)) (at_to : get volume.nodes to ≡ Some (Directory e)) where
  abbrev r : Renaming
  r = record {
    from = record { volume = volume; fileid = from; directory = d; name = a; moment = moment };
    to = record { volume = volume; fileid = to; directory = e; name = b; moment = moment };
  }

  rename_at_ends : (f t : Option Found) → named_child r.from ≡ f → named_child r.to ≡ t → Ends Telling volume (rename_at r f t)
  rename_at_ends None t c g = fails _ _ _
  rename_at_ends (Some found) t c g =
      let x = entry_found r.from found c in
      if_by Telling volume (is_node_of found.fileid t) _ _ (tells Telling _ _ (same _, (ToldRenamed _ _, (refl, refl)))) (λ other.
      unless_ends Telling volume (climb_fault (met_above r found.fileid found.node)) _
      (if_by Telling volume (not (may_go found.node t)) _ _ (fails _ _ model.Exists) (λ may.
      renamed_ends r (renamed_volume r found.fileid t)
      (others volume (renamed_volume r found.fileid t) refl refl refl (λ l. l)
      (λ l. renamed_below volume.next r found.fileid t volume.nodes (child_there volume (find_name b e.list) t g) l)
      (λ l. renamed_agrees volume from to d e a b moment at_from at_to l x.0 found.fileid t (find_name b e.list) x.1.0 x.1.1 refl g other
      (goes_empty found.node t may))))))

  rename_in_ends : Ends Telling volume (rename_in r)
  rename_in_ends =
      unless_ends Telling volume (name_fault a) _
      (unless_ends Telling volume (name_fault b) _
      (if_ends Telling volume _ _ _ (fails _ _ _) (rename_at_ends (named_child r.from) (named_child r.to) refl refl)))

pub rename_ends : (from_name to_name : List ℕ) (moment : model.Moment) (volume : VolumeState) (from to : ℕ)
    → Ends Telling volume (rename from_name to_name moment volume from to)
rename_ends from_name to_name moment volume from to =
    directory_ends Telling volume (get volume.nodes from) _ (λ d at_from.
    directory_ends Telling volume (get volume.nodes to) _ (λ e at_to.
    rename_in_ends volume from to d e from_name to_name moment at_from at_to))

-- ---- procedures that only tell

-- what holds of a volume that stays, whatever is told
module _ (Q : Fact) (stays : (volume : VolumeState) (answer : model.Answer) → Q volume answer volume) where
  stays_told : (volume : VolumeState) (answer : model.Answer) → Ends Q volume (Tells answer)
  stays_told volume answer = tells Q volume answer (stays volume answer)

  pub tell_ends : (answer : model.Shown → model.Answer) (volume : VolumeState) (fileid : ℕ) → Ends Q volume (tell_of answer volume fileid)
  tell_ends answer volume fileid = node_ends Q volume (get volume.nodes fileid) _ (λ node e. stays_told volume _)

  pub getattr_ends : (volume : VolumeState) (fileid : ℕ) → Ends Q volume (getattr volume fileid)
  getattr_ends volume fileid = node_ends Q volume (get volume.nodes fileid) _ (λ node e. stays_told volume _)

  pub found_ends : (n : Naming) (o : Option Found) → Ends Q n.volume (lookup_told n o)
  found_ends n None = fails _ _ _
  found_ends n (Some found) = stays_told n.volume _

  symbolic_ends : (volume : VolumeState) (special : model.SpecialType) (x : Effect) → Ends Q volume x → Ends Q volume (if_symbolic special x)
  symbolic_ends volume model.SymbolicLink x f = f
  symbolic_ends volume model.Fifo x f = fails Q volume model.Invalid
  symbolic_ends volume model.Socket x f = fails Q volume model.Invalid
  symbolic_ends volume (model.BlockDevice device) x f = fails Q volume model.Invalid
  symbolic_ends volume (model.CharacterDevice device) x f = fails Q volume model.Invalid

  on_symbolic_ends : (volume : VolumeState) (node : Node) (run : SpecialNode → Effect) → ((s : SpecialNode) → Ends Q volume (run s))
      → Ends Q volume (on_symbolic node run)
  on_symbolic_ends volume (File f) run g = fails Q volume model.Invalid
  on_symbolic_ends volume (Directory d) run g = fails Q volume model.Invalid
  on_symbolic_ends volume (Special s) run g = symbolic_ends volume s.special _ (g s)

  pub readlink_ends : (volume : VolumeState) (fileid : ℕ) → Ends Q volume (readlink volume fileid)
  readlink_ends volume fileid = node_ends Q volume (get volume.nodes fileid) _ (λ node e. on_symbolic_ends volume node _ (λ s. stays_told volume _))

  pub read_ends : (offset count : ℕ) (volume : VolumeState) (fileid : ℕ) → Ends Q volume (read offset count volume fileid)
  read_ends offset count volume fileid =
      file_ends Q volume (get volume.nodes fileid) _ (λ f e.
      if_ends Q volume (nat_le _ offset) _ _ (stays_told volume _) (stays_told volume _))

  paged_ends : (count : ℕ) (volume : VolumeState) (directory : model.Shown) (remaining page : List model.Listed)
      → Ends Q volume (paged count directory remaining page)
  paged_ends count volume directory [] page = if_ends Q volume _ _ _ (fails _ _ _) (stays_told volume _)
  paged_ends count volume directory (e ∷ es) [] = fails _ _ _
  paged_ends count volume directory (e ∷ es) (x ∷ xs) = stays_told volume _

  pub readdir_ends : (cookie : ℕ) (verifier : List ℕ) (count : ℕ) (volume : VolumeState) (fileid : ℕ)
      → Ends Q volume (readdir cookie verifier count volume fileid)
  readdir_ends cookie verifier count volume fileid =
      directory_ends Q volume (get volume.nodes fileid) _ (λ d e.
      if_ends Q volume _ _ _ (fails _ _ _) (paged_ends (min count most_bytes) volume _ _ _))

  paged_plus_ends : (count : ℕ) (told : model.Listed → model.ListedPlus) (volume : VolumeState) (directory : model.Shown)
      (remaining page : List model.Listed) → Ends Q volume (paged_plus count told directory remaining page)
  paged_plus_ends count told volume directory [] page = if_ends Q volume _ _ _ (fails _ _ _) (stays_told volume _)
  paged_plus_ends count told volume directory (e ∷ es) [] = fails _ _ _
  paged_plus_ends count told volume directory (e ∷ es) (x ∷ xs) = stays_told volume _

  pub readdirplus_ends : (cookie : ℕ) (verifier : List ℕ) (names_count count : ℕ) (caller : model.Caller) (volume : VolumeState) (fileid : ℕ)
      → Ends Q volume (readdirplus cookie verifier names_count count caller volume fileid)
  readdirplus_ends cookie verifier names_count count caller volume fileid =
      directory_ends Q volume (get volume.nodes fileid) _ (λ d e.
      if_ends Q volume _ _ _ (fails _ _ _) (paged_plus_ends (min count most_bytes) (listed_for caller volume d) volume _ _ _))

  pub fsstat_ends : (volume : VolumeState) (fileid : ℕ) → Ends Q volume (fsstat volume fileid)
  fsstat_ends volume fileid = node_ends Q volume (get volume.nodes fileid) _ (λ node e. stays_told volume _)

  pub commit_ends : (volume : VolumeState) (fileid : ℕ) → Ends Q volume (commit volume fileid)
  commit_ends volume fileid = file_ends Q volume (get volume.nodes fileid) _ (λ f e. stays_told volume _)

  pub mount_below_ends : (parts : List (List ℕ)) (caller : model.Caller) (volume : VolumeState) (fileid : ℕ)
      → Ends Q volume (mount_below parts caller volume fileid)
  mount_below_ends [] caller volume fileid = directory_ends Q volume (get volume.nodes fileid) _ (λ d e. stays_told volume _)
  mount_below_ends (part ∷ parts) caller volume fileid =
      directory_ends Q volume (get volume.nodes fileid) _ (λ d e.
      unless_ends Q volume (search_refusal caller d) _
      (unless_ends Q volume (part_fault part) _
      (entry_ends Q volume (find_name part d.list) (mount_below parts caller volume) (mount_below_ends parts caller volume))))

-- a volume keeps what it is
pub keeping : (volume : VolumeState) (answer : model.Answer) → Keeping volume answer volume
keeping volume answer = same volume

-- ---- WRITE

write_some_ends : (volume : VolumeState) (fileid : ℕ) (f : FileNode) (w : Writing) → get volume.nodes fileid ≡ Some (File f)
    → Ends Keeping volume (write_some volume fileid f w)
write_some_ends volume fileid f w e =
    unless_ends Keeping volume _ _ (unless_ends Keeping volume _ _ (changes Keeping _ _ _ refl (another volume fileid (File f) _ e
    (written_alike fileid w.caller f w.offset _ w.moment))))

pub write_ends : (w : Writing) (volume : VolumeState) (fileid : ℕ) → Ends Keeping volume (write w volume fileid)
write_ends w volume fileid =
    file_ends Keeping volume (get volume.nodes fileid) _ (λ f e.
    if_ends Keeping volume _ _ _ (fails _ _ _)
    (if_ends Keeping volume (w.count == 0) _ _ (tells Keeping _ _ (same _)) (write_some_ends volume fileid f w e)))
