-- CREATE and MKDIR by what is under Logical.
use Rattle.std.proofs.Common.{◌≡◌, ℕ, ◌+◌, ◌-◌, not, Bool, true, false, List, Option, Some, None, refl, sym, ap, ◌∙◌, subst, arith, []}
use Rattle.std.specs.Prelude.{IsTrue, is_some, if◌then◌else◌, is_none}
use Rattle.std.specs.Option.{option_map}
use Rattle.std.specs.FinMap.{get}
use Rattle.nfs_model.specs.Types as types
use Rattle.nfs_model.specs.Types.{Moment, Caller, Listed, SetAttributes, CreateMode, Status, Shown, Wcc, Answer, Create, Mkdir, MadeDone, Exists, Kind, Regular, SpecialKind, SpecialType, SymbolicLink, Fifo, Socket, BlockDevice, CharacterDevice, BadType, Symlink, Mknod}
use Rattle.nfs_model.specs.Tree.{Affinity}
use Rattle.nfs_model.specs.Server.{Node, Server, used}
use Rattle.nfs_model.specs.Names.{is_dots, find_name}
use Rattle.nfs_model.specs.Locate.{Effect, Fails, Found, Naming, named_child, locate, node_named, unless}
use Rattle.nfs_model.specs.Serial.Absent.{absent_parts}
use Rattle.nfs_model.specs.Serial.Create as creating
use Rattle.nfs_model.specs.Serial.Create.{create, create_at}
use Rattle.nfs_model.specs.Serial.Mkdir.{mkdir, mkdir_at, mkdir_fault}
use Rattle.nfs_model.specs.Serial.Starve.{entry_in, takes_memory}
use Rattle.nfs_model.specs.Work.{Starved}
use Rattle.nfs_model.specs.Parts.{Hand}
use Rattle.nfs_model.specs.volume.Directories.{fileid_found, found}
use Rattle.nfs_model.specs.volume.Inodes.{InodeKind, DirectoryKind, Inode}
use Rattle.filer_state.specs.state.Contents.{VolumeContents}
use Rattle.filer_state.specs.state.Tree.{node_by, node_of, volume_of}
use Rattle.filer_state.specs.state.Sound.{IsSound}
use Rattle.filer_state.specs.state.Lenses.{LogicalSet, logical_lens}
use Rattle.filer_state.specs.state.Calls.{VolumeCall, WorksOn, answer_of, answer_on, handle_in, located_on, move_on}
use Rattle.filer_state.specs.state.Changes.{LogicalAnswer}
use Rattle.filer_state.specs.attributes.lemmas.Getting.{node-at, reads-right}
use Rattle.filer_state.specs.attributes.lemmas.Setattr.{emptied-none}
use Rattle.filer_state.specs.names.Answers.{entries_of}
use Rattle.filer_state.specs.nodes.Laws.{WeighAlike}
use Rattle.filer_state.specs.changes.Named.{HeldNaming, HeldNode, fails, node_under, unless_fault}
use Rattle.filer_state.specs.changes.Making.{create_by, mkdir_by, held_create, held_mkdir, symlink_by, held_symlink, mknod_of, mknod_by, held_mknod, mkdir_check, held_made, special_inode, maker_in}
use Rattle.filer_state.specs.changes.Laws.{create_call, mkdir_call, create_done, mkdir_done, IsDone, MayStarve, symlink_call, mknod_call, symlink_done, mknod_done}
use Rattle.filer_state.specs.changes.lemmas.Named.{RightAs, done-right, naming_held, naming_seen, IsDirectoryHere, named-right, child-right}
use Rattle.filer_state.specs.changes.lemmas.Making.{SaysNothing, failure-right}
use Rattle.filer_state.specs.changes.lemmas.Creating.{file-right, directory-right, link-right, bare-right}
use Rattle.filer_state.specs.changes.lemmas.Existing.{there-as}
use Rattle.nfs_model.specs.Serial.Symlink.{symlink_at, symlink, new_special}
use Rattle.nfs_model.specs.Serial.Mknod.{mknod_kind, mknod_at, mknod}

-- ---- CREATE

module _ (handle : List ℕ) (node : Affinity) (fileid : ℕ) (name : List ℕ) (mode : CreateMode) (caller : Caller) (moment : Moment) where
  abbrev creates : VolumeCall
  creates = create_call handle node fileid name mode caller moment

  create-says : SaysNothing creates
  create-says old new same parts =
      emptied-none old.parts new.parts (used old.volume - used new.volume) (omega (arith, same))
      (ap (λ x. x.files) parts) (ap (λ x. x.dead) parts) (ap (λ x. x.stock) parts) (ap (λ x. x.free) parts)

  module _ (p : VolumeContents) (hands hands' : List Hand) (made : ℕ) (sound : IsSound p hands made) (weigh : WeighAlike p.number hands hands') where
    abbrev RightHere : LogicalAnswer → Effect → Type 0
    RightHere done effect = RightAs creates p hands' (made + 1) done effect

    create-fails : (status : Status) → RightHere (fails status (logical_lens.of p)) (Fails status)
    create-fails status = failure-right p hands hands' made sound weigh creates create-says status

    module _ (inode : Inode) (parent : ℕ) (here : IsDirectoryHere p fileid name moment inode parent) where
      abbrev h : HeldNaming
      h = naming_held p fileid name moment inode

      abbrev n : Naming
      n = naming_seen p fileid name moment inode parent

      create-under : RightHere (create_by h mode caller (node_under h)) (create_at n mode caller (named_child n))
      create-under = child-right p sound.well_formed fileid name moment inode parent here
          (λ (o : Option HeldNode) (x : Option Found). RightHere (create_by h mode caller o) (create_at n mode caller x))
          (λ absent. file-right p hands hands' made sound weigh creates create-says fileid name moment inode parent here absent mode caller)
          (λ c there. there-as handle node mode caller p hands hands' made sound weigh fileid name moment create-says inode parent here c there)

      create-here : (b : Bool) → RightHere (if b then fails Exists (logical_lens.of p) else create_by h mode caller (node_under h))
          (if b then Fails Exists else create_at n mode caller (named_child n))
      create-here true = create-fails Exists
      create-here false = create-under

    create-right : RightHere (create_done p.number fileid name mode caller moment (logical_lens.of p)) (creates.run (volume_of p))
    create-right = named-right p fileid name moment sound.well_formed RightHere (held_create mode caller) (create mode caller) create-fails
        (λ inode parent here. create-here inode parent here (is_dots name))

  pub create-is-done : (v : ℕ) (s : LogicalSet) → IsDone v creates s (create_done v fileid name mode caller moment s)
  create-is-done v s = done-right v creates (λ w t. create_done w fileid name mode caller moment t) (λ p. refl) refl
      (λ p hands hands' made sound weigh. create-right p hands hands' made sound weigh) s

-- ---- MKDIR

module _ (handle : List ℕ) (node : Affinity) (fileid : ℕ) (name : List ℕ) (set : SetAttributes) (caller : Caller) (moment : Moment) where
  abbrev makes : VolumeCall
  makes = mkdir_call handle node fileid name set caller moment

  mkdir-says : SaysNothing makes
  mkdir-says old new same parts = parts

  module _ (p : VolumeContents) (hands hands' : List Hand) (made : ℕ) (sound : IsSound p hands made) (weigh : WeighAlike p.number hands hands') where
    abbrev RightMade : LogicalAnswer → Effect → Type 0
    RightMade done effect = RightAs makes p hands' (made + 1) done effect

    mkdir-fails : (status : Status) → RightMade (fails status (logical_lens.of p)) (Fails status)
    mkdir-fails status = failure-right p hands hands' made sound weigh makes mkdir-says status

    module _ (inode : Inode) (parent : ℕ) (here : IsDirectoryHere p fileid name moment inode parent) where
      abbrev held : HeldNaming
      held = naming_held p fileid name moment inode

      abbrev seen : Naming
      seen = naming_seen p fileid name moment inode parent

      mkdir-under : RightMade (mkdir_by held set caller (node_under held)) (mkdir_at seen set caller (named_child seen))
      mkdir-under = child-right p sound.well_formed fileid name moment inode parent here
          (λ (o : Option HeldNode) (x : Option Found). RightMade (mkdir_by held set caller o) (mkdir_at seen set caller x))
          (λ absent. directory-right p hands hands' made sound weigh makes mkdir-says fileid name moment inode parent here absent set caller)
          (λ c there. mkdir-fails Exists)

      mkdir-here : (b : Bool) → RightMade (if b then fails Exists (logical_lens.of p) else mkdir_by held set caller (node_under held))
          (if b then Fails Exists else mkdir_at seen set caller (named_child seen))
      mkdir-here true = mkdir-fails Exists
      mkdir-here false = mkdir-under

    mkdir-right : RightMade (mkdir_done p.number fileid name set caller moment (logical_lens.of p)) (makes.run (volume_of p))
    mkdir-right = named-right p fileid name moment sound.well_formed RightMade (held_mkdir set caller) (mkdir set caller) mkdir-fails
        (λ inode parent here. mkdir-here inode parent here (is_dots name))

  pub mkdir-is-done : (v : ℕ) (s : LogicalSet) → IsDone v makes s (mkdir_done v fileid name set caller moment s)
  mkdir-is-done v s = done-right v makes (λ w t. mkdir_done w fileid name set caller moment t) (λ p. refl) refl
      (λ p hands hands' made sound weigh. mkdir-right p hands hands' made sound weigh) s

-- ---- SYMLINK

module _ (handle : List ℕ) (node : Affinity) (fileid : ℕ) (name : List ℕ) (set : SetAttributes) (text : List ℕ) (caller : Caller) (moment : Moment) where
  abbrev links : VolumeCall
  links = symlink_call handle node fileid name set text caller moment

  links-says : SaysNothing links
  links-says old new same parts = parts

  module _ (p : VolumeContents) (hands hands' : List Hand) (made : ℕ) (sound : IsSound p hands made) (weigh : WeighAlike p.number hands hands') where
    abbrev RightSymlink : LogicalAnswer → Effect → Type 0
    RightSymlink done effect = RightAs links p hands' (made + 1) done effect

    links-fails : (status : Status) → RightSymlink (fails status (logical_lens.of p)) (Fails status)
    links-fails status = failure-right p hands hands' made sound weigh links links-says status

    module _ (inode : Inode) (parent : ℕ) (here : IsDirectoryHere p fileid name moment inode parent) where
      abbrev held_link_name : HeldNaming
      held_link_name = naming_held p fileid name moment inode

      abbrev seen_link_name : Naming
      seen_link_name = naming_seen p fileid name moment inode parent

      links-under : RightSymlink (symlink_by held_link_name set text caller (node_under held_link_name)) (symlink_at seen_link_name set text caller (named_child seen_link_name))
      links-under = child-right p sound.well_formed fileid name moment inode parent here
          (λ (o : Option HeldNode) (x : Option Found). RightSymlink (symlink_by held_link_name set text caller o) (symlink_at seen_link_name set text caller x))
          (λ absent. link-right p hands hands' made sound weigh links links-says fileid name moment inode parent here absent set text caller)
          (λ c there. links-fails Exists)

      links-here : (b : Bool) → RightSymlink (if b then fails Exists (logical_lens.of p) else symlink_by held_link_name set text caller (node_under held_link_name))
          (if b then Fails Exists else symlink_at seen_link_name set text caller (named_child seen_link_name))
      links-here true = links-fails Exists
      links-here false = links-under

    links-right : RightSymlink (symlink_done p.number fileid name set text caller moment (logical_lens.of p)) (links.run (volume_of p))
    links-right = named-right p fileid name moment sound.well_formed RightSymlink (held_symlink set text caller) (symlink set text caller) links-fails
        (λ inode parent here. links-here inode parent here (is_dots name))

  pub symlink-is-done : (v : ℕ) (s : LogicalSet) → IsDone v links s (symlink_done v fileid name set text caller moment s)
  symlink-is-done v s = done-right v links (λ w t. symlink_done w fileid name set text caller moment t) (λ p. refl) refl
      (λ p hands hands' made sound weigh. links-right p hands hands' made sound weigh) s

-- ---- MKNOD

module _ (handle : List ℕ) (node : Affinity) (fileid : ℕ) (name : List ℕ) (kind : Kind) (set : SetAttributes) (caller : Caller) (moment : Moment) where
  abbrev makes_node : VolumeCall
  makes_node = mknod_call handle node fileid name kind set caller moment

  makes_node-says : SaysNothing makes_node
  makes_node-says old new same parts = parts

  module _ (p : VolumeContents) (hands hands' : List Hand) (made : ℕ) (sound : IsSound p hands made) (weigh : WeighAlike p.number hands hands') where
    abbrev RightMknod : LogicalAnswer → Effect → Type 0
    RightMknod done effect = RightAs makes_node p hands' (made + 1) done effect

    makes_node-fails : (status : Status) → RightMknod (fails status (logical_lens.of p)) (Fails status)
    makes_node-fails status = failure-right p hands hands' made sound weigh makes_node makes_node-says status

    module _ (inode : Inode) (parent : ℕ) (here : IsDirectoryHere p fileid name moment inode parent) where
      abbrev held_node_name : HeldNaming
      held_node_name = naming_held p fileid name moment inode

      abbrev seen_node_name : Naming
      seen_node_name = naming_seen p fileid name moment inode parent

      by-kind : found (entries_of p.logical fileid) name ≡ None → (kind : Kind)
          → RightMknod (mknod_of held_node_name kind set caller) (mknod_kind seen_node_name kind set caller)
      by-kind absent Regular = makes_node-fails BadType
      by-kind absent types.DirectoryKind = makes_node-fails BadType
      by-kind absent (SpecialKind special) = by special
        where
          bare : (special : SpecialType) → RightMknod
              (unless_fault (mkdir_check set (logical_lens.of p)) (logical_lens.of p)
              (held_made held_node_name (special_inode special 420 set 0 (maker_in caller held_node_name) moment) None))
              (unless (mkdir_fault (volume_of p) set) (creating.made seen_node_name (new_special special 420 set [] (creating.maker caller seen_node_name) moment)))
          bare special = bare-right p hands hands' made sound weigh makes_node makes_node-says fileid name moment inode parent here absent special set caller

          by : (special : SpecialType) → RightMknod (mknod_of held_node_name (SpecialKind special) set caller) (mknod_kind seen_node_name (SpecialKind special) set caller)
          by SymbolicLink = makes_node-fails BadType
          by Fifo = bare Fifo
          by Socket = bare Socket
          by (BlockDevice device) = bare (BlockDevice device)
          by (CharacterDevice device) = bare (CharacterDevice device)

      makes_node-under : RightMknod (mknod_by held_node_name kind set caller (node_under held_node_name)) (mknod_at seen_node_name kind set caller (named_child seen_node_name))
      makes_node-under = child-right p sound.well_formed fileid name moment inode parent here
          (λ (o : Option HeldNode) (x : Option Found). RightMknod (mknod_by held_node_name kind set caller o) (mknod_at seen_node_name kind set caller x))
          (λ absent. by-kind absent kind)
          (λ c there. makes_node-fails Exists)

      makes_node-here : (b : Bool) → RightMknod (if b then fails Exists (logical_lens.of p) else mknod_by held_node_name kind set caller (node_under held_node_name))
          (if b then Fails Exists else mknod_at seen_node_name kind set caller (named_child seen_node_name))
      makes_node-here true = makes_node-fails Exists
      makes_node-here false = makes_node-under

    makes_node-right : RightMknod (mknod_done p.number fileid name kind set caller moment (logical_lens.of p)) (makes_node.run (volume_of p))
    makes_node-right = named-right p fileid name moment sound.well_formed RightMknod (held_mknod kind set caller) (mknod kind set caller) makes_node-fails
        (λ inode parent here. makes_node-here inode parent here (is_dots name))

  pub mknod-is-done : (v : ℕ) (s : LogicalSet) → IsDone v makes_node s (mknod_done v fileid name kind set caller moment s)
  mknod-is-done v s = done-right v makes_node (λ w t. mknod_done w fileid name kind set caller moment t) (λ p. refl) refl
      (λ p hands hands' made sound weigh. makes_node-right p hands hands' made sound weigh) s

-- ---- memory may run out

-- a call may starve where what it comes to takes memory
pub may-starve : (absent v : ℕ) (c : VolumeCall) (done : ℕ → LogicalSet → LogicalAnswer) → ((p : VolumeContents) → move_on c p ≡ None)
    → absent_parts c.call ≡ absent
    → ((p : VolumeContents) (hands : List Hand) (made : ℕ) → IsSound p hands made
    → (done p.number (logical_lens.of p)).answer ≡ answer_of absent (c.run (volume_of p)))
    → (s : LogicalSet)
    → ((p : VolumeContents) (server : Server) → p.number ≡ v → logical_lens.of p ≡ s → locate server (handle_in c.call) ≡ Some (located_on c p)
    → IsTrue (takes_memory server c.call (done v s).answer))
    → MayStarve v c s
may-starve absent v c done stays parts right s takes =
    reads-right v logical_lens (WorksOn c) s Starved (λ p. refl)
    (λ p hands made numbered has sound.
    let told : (done v s).answer ≡ answer_on c p =
    sym (ap (λ (n : ℕ). (done n (logical_lens.of p)).answer) numbered ∙ ap (λ (t : LogicalSet). (done v t).answer) has)
    ∙ right p hands made sound ∙ ap (λ (n : ℕ). answer_of n (c.run (volume_of p))) (sym parts) in
    (stays p, (λ server at. subst (λ (a : Answer). IsTrue (takes_memory server c.call a)) told (takes p server numbered has at)), refl))

-- the entry of a name in a node as it is seen: only a directory has one
pub data EntrySeen (seen entry : Option Listed) : Type 0 where
  NoEntryThere : seen ≡ None → EntrySeen seen entry
  ThatEntry : seen ≡ entry → EntrySeen seen entry

pub entry-seen : (p : VolumeContents) (fileid : ℕ) (name : List ℕ)
    → EntrySeen (entry_in (get (volume_of p).nodes fileid) name) (find_name name (entries_of p.logical fileid).list)
entry-seen p fileid name =
    subst (λ (o : Option Node). EntrySeen (entry_in o name) (find_name name (entries_of p.logical fileid).list)) (sym (node-at p fileid))
    (by (get p.logical.inodes.inodes fileid))
  where
    kinds : (inode : Inode) (kind : InodeKind)
        → EntrySeen (entry_in (Some (node_by p.stripes (get p.logical.directories fileid) (get p.logical.texts fileid) fileid
        inode.attributes inode.names kind)) name) (find_name name (entries_of p.logical fileid).list)
    kinds inode (DirectoryKind parent subdirectories) = ThatEntry refl
    kinds inode kind = NoEntryThere refl

    by : (o : Option Inode) → EntrySeen (entry_in (option_map (node_of p.stripes p.logical.directories p.logical.texts fileid) o) name)
        (find_name name (entries_of p.logical fileid).list)
    by None = NoEntryThere refl
    by (Some inode) = kinds inode inode.kind

no-name : (p : VolumeContents) (fileid : ℕ) (name : List ℕ) → fileid_found (entries_of p.logical fileid) name ≡ None
    → is_none (entry_in (get (volume_of p).nodes fileid) name) ≡ true
no-name p fileid name absent = by (entry-seen p fileid name)
  where
    entry : (o : Option Listed) → option_map (λ (e : Listed). e.fileid) o ≡ None → is_none o ≡ true
    entry None h = refl
    entry (Some e) h = absurd cc

    by : EntrySeen (entry_in (get (volume_of p).nodes fileid) name) (find_name name (entries_of p.logical fileid).list)
        → is_none (entry_in (get (volume_of p).nodes fileid) name) ≡ true
    by (NoEntryThere is) = ap (λ (o : Option Listed). is_none o) is
    by (ThatEntry is) = ap (λ (o : Option Listed). is_none o) is ∙ entry (find_name name (entries_of p.logical fileid).list) absent

pub create-starves : (v fileid : ℕ) (handle name : List ℕ) (node : Affinity) (mode : CreateMode) (caller : Caller) (moment : Moment)
    (s : LogicalSet) (made : List ℕ) (object : Shown) (directory : Wcc)
    → (create_done v fileid name mode caller moment s).answer ≡ MadeDone made object directory → fileid_found (entries_of s.own fileid) name ≡ None
    → MayStarve v (create_call handle node fileid name mode caller moment) s
create-starves v fileid handle name node mode caller moment s made object directory is absent =
    may-starve 2 v (create_call handle node fileid name mode caller moment) (λ w t. create_done w fileid name mode caller moment t) (λ p. refl) refl
    (λ p hands count sound. (create-right handle node fileid name mode caller moment p hands hands count sound (λ n. refl)).0) s
    (λ p server numbered has at.
    let none : is_none (entry_in (node_named (locate server handle)) name) ≡ true = ap (λ o. is_none (entry_in (node_named o) name)) at
    ∙ no-name p fileid name (ap (λ (t : LogicalSet). fileid_found (entries_of t.own fileid) name) has ∙ absent) in
    subst (λ (a : Answer). IsTrue (takes_memory server (Create handle name mode) a)) (sym is) none)

pub mkdir-starves : (v fileid : ℕ) (handle name : List ℕ) (node : Affinity) (set : SetAttributes) (caller : Caller) (moment : Moment)
    (s : LogicalSet) (made : List ℕ) (object : Shown) (directory : Wcc)
    → (mkdir_done v fileid name set caller moment s).answer ≡ MadeDone made object directory
    → MayStarve v (mkdir_call handle node fileid name set caller moment) s
mkdir-starves v fileid handle name node set caller moment s made object directory is =
    may-starve 2 v (mkdir_call handle node fileid name set caller moment) (λ w t. mkdir_done w fileid name set caller moment t) (λ p. refl) refl
    (λ p hands count sound. (mkdir-right handle node fileid name set caller moment p hands hands count sound (λ n. refl)).0) s
    (λ p server numbered has at. subst (λ (a : Answer). IsTrue (takes_memory server (Mkdir handle name set) a)) (sym is) refl)

pub symlink-starves : (v fileid : ℕ) (handle name : List ℕ) (node : Affinity) (set : SetAttributes) (text : List ℕ) (caller : Caller) (moment : Moment)
    (s : LogicalSet) (made : List ℕ) (object : Shown) (directory : Wcc)
    → (symlink_done v fileid name set text caller moment s).answer ≡ MadeDone made object directory
    → MayStarve v (symlink_call handle node fileid name set text caller moment) s
symlink-starves v fileid handle name node set text caller moment s made object directory is =
    may-starve 2 v (symlink_call handle node fileid name set text caller moment) (λ w t. symlink_done w fileid name set text caller moment t) (λ p. refl) refl
    (λ p hands count sound. (links-right handle node fileid name set text caller moment p hands hands count sound (λ n. refl)).0) s
    (λ p server numbered has at. subst (λ (a : Answer). IsTrue (takes_memory server (Symlink handle name set text) a)) (sym is) refl)

pub mknod-starves : (v fileid : ℕ) (handle name : List ℕ) (node : Affinity) (kind : Kind) (set : SetAttributes) (caller : Caller) (moment : Moment)
    (s : LogicalSet) (made : List ℕ) (object : Shown) (directory : Wcc)
    → (mknod_done v fileid name kind set caller moment s).answer ≡ MadeDone made object directory
    → MayStarve v (mknod_call handle node fileid name kind set caller moment) s
mknod-starves v fileid handle name node kind set caller moment s made object directory is =
    may-starve 2 v (mknod_call handle node fileid name kind set caller moment) (λ w t. mknod_done w fileid name kind set caller moment t) (λ p. refl) refl
    (λ p hands count sound. (makes_node-right handle node fileid name kind set caller moment p hands hands count sound (λ n. refl)).0) s
    (λ p server numbered has at. subst (λ (a : Answer). IsTrue (takes_memory server (Mknod handle name kind set) a)) (sym is) refl)
