-- What calls on a name come to by what is under Logical, beside the serial server.
use Rattle.std.proofs.Common.{◌≡◌, ℕ, ◌+◌, ◌≤◌, ◌==◌, ◌&&◌, not, Bool, true, false, List, [], ◌∷◌, Option, Some, None}
use Rattle.std.proofs.Common.{refl, sym, ap, ◌∙◌, subst, arith, eq-eqb}
use Rattle.std.specs.Prelude.{if◌then◌else◌, is_some}
use Rattle.std.specs.Option.{option_map}
use Rattle.std.specs.FinMap.{get, nat_cmp-IsAntisymmetric}
use Rattle.nfs_model.specs.Types.{Moment, Listed, Status, Success}
use Rattle.nfs_model.specs.Names.{same_name, find_name, name_fault}
use Rattle.nfs_model.specs.Server.{DirectoryNode, Node, Directory}
use Rattle.nfs_model.specs.Shown.{shown}
use Rattle.nfs_model.specs.Parts.{Hand, one_if}
use Rattle.nfs_model.specs.Moves.{PartsChange}
use Rattle.nfs_model.specs.Locate.{Effect, Fails, unless, on_directory, on_name, Found, found_at, child, Naming, named_child}
use Rattle.nfs_model.specs.Serial.Absent.{absent_parts}
use Rattle.nfs_model.specs.volume.Directories.{DirectoryValue, found}
use Rattle.nfs_model.specs.volume.Inodes.{InodeKind, DirectoryKind, Inode}
use Rattle.filer_state.specs.state.Contents.{VolumeContents}
use Rattle.filer_state.specs.state.Tree.{directory_or_empty, node_by, node_of, volume_of}
use Rattle.filer_state.specs.state.Names.{parent_in, is_directory, times_in_list, names_of, times_named}
use Rattle.filer_state.specs.state.WellFormed.{WellFormed}
use Rattle.filer_state.specs.state.Partition.{stored, times_in_hand}
use Rattle.filer_state.specs.state.Sound.{IsSound}
use Rattle.filer_state.specs.state.Jobs.{Replied}
use Rattle.filer_state.specs.state.Lenses.{LogicalSet, logical_lens}
use Rattle.filer_state.specs.state.Calls.{VolumeCall, ServesOn, answer_of, volume_left, move_on}
use Rattle.filer_state.specs.state.Changes.{LogicalAnswer, shown_inode}
use Rattle.filer_state.specs.laws.lemmas.Mapped.{entry-at-least}
use Rattle.filer_state.specs.attributes.lemmas.Getting.{node-at}
use Rattle.filer_state.specs.names.Answers.{entries_of, directory_node}
use Rattle.filer_state.specs.names.lemmas.DirectoryKinds.{directory-kind-shown}
use Rattle.filer_state.specs.nodes.Laws.{WeighAlike}
use Rattle.filer_state.specs.changes.Named.{fails, unless_fault, HeldNaming, on_kind, on_inode, on_held_name, HeldNode, node_there, node_at, node_under}
use Rattle.filer_state.specs.changes.Laws.{IsDone}

-- ---- a call

-- what is to be shown of a call on a sound volume: the answer, what is left and where its blocks go are the serial server's, and all
-- is sound after it
abbrev pub RightFor : ℕ → VolumeCall → VolumeContents → List Hand → ℕ → LogicalAnswer → Effect → Type 0
RightFor absent c p hands made done effect =
    (done.answer ≡ answer_of absent effect)
    × (volume_of (logical_lens.put done.set p) ≡ volume_left (volume_of p) effect)
    × PartsChange c.call c.node (stored p) (stored (logical_lens.put done.set p))
    × IsSound (logical_lens.put done.set p) hands made

-- of a call whose failures have two absent parts
abbrev pub RightAs : VolumeCall → VolumeContents → List Hand → ℕ → LogicalAnswer → Effect → Type 0
RightAs c p hands made done effect = RightFor 2 c p hands made done effect

-- a call comes to this where that is so on each sound volume
pub done-right-for : (absent v : ℕ) (c : VolumeCall) (done : ℕ → LogicalSet → LogicalAnswer)
    → ((p : VolumeContents) → move_on c p ≡ None) → absent_parts c.call ≡ absent
    → ((p : VolumeContents) (hands hands' : List Hand) (made : ℕ) → IsSound p hands made → WeighAlike p.number hands hands'
    → RightFor absent c p hands' (made + 1) (done p.number (logical_lens.of p)) (c.run (volume_of p)))
    → (s : LogicalSet) → IsDone v c s (done v s)
done-right-for absent v c done stays parts right s p hands hands' made has numbered sound moved =
    subst (λ (t : LogicalSet). Shown c p hands' (made + 1) (done v t)) has
    (subst (λ (w : ℕ). Shown c p hands' (made + 1) (done w (logical_lens.of p))) numbered
    (shows (right p hands hands' made sound (λ n. let e = moved (times_in_hand p.number n) in omega (arith, e)))))
  where
    Shown : VolumeCall → VolumeContents → List Hand → ℕ → LogicalAnswer → Type 0
    Shown c p hands made told =
        ServesOn c false p (Replied (Success told.answer)) (logical_lens.put told.set p) × IsSound (logical_lens.put told.set p) hands made

    shows : RightFor absent c p hands' (made + 1) (done p.number (logical_lens.of p)) (c.run (volume_of p))
        → Shown c p hands' (made + 1) (done p.number (logical_lens.of p))
    shows r = (
      (
        (stays p, ap Success (r.0 ∙ ap (λ (n : ℕ). answer_of n (c.run (volume_of p))) (sym parts)), r.1, r.2),
        λ e. absurd cc,
      ),
      r.3,
    )

pub done-right : (v : ℕ) (c : VolumeCall) (done : ℕ → LogicalSet → LogicalAnswer)
    → ((p : VolumeContents) → move_on c p ≡ None) → absent_parts c.call ≡ 2
    → ((p : VolumeContents) (hands hands' : List Hand) (made : ℕ) → IsSound p hands made → WeighAlike p.number hands hands'
    → RightAs c p hands' (made + 1) (done p.number (logical_lens.of p)) (c.run (volume_of p)))
    → (s : LogicalSet) → IsDone v c s (done v s)
done-right v c done stays parts right s = done-right-for 2 v c done stays parts right s

-- ---- a name in a directory

module _ (p : VolumeContents) (fileid : ℕ) (name : List ℕ) (moment : Moment) where
  abbrev pub entries_here : DirectoryValue
  entries_here = entries_of p.logical fileid

  -- the name by what is under Logical, and as the serial server sees it
  abbrev pub naming_held : Inode → HeldNaming
  naming_held inode = record {
    volume = p.number;
    set = logical_lens.of p;
    fileid = fileid;
    inode = inode;
    entries = entries_here;
    name = name;
    moment = moment;
  }

  abbrev pub naming_seen : Inode → ℕ → Naming
  naming_seen inode parent = record {
    volume = volume_of p;
    fileid = fileid;
    directory = directory_node inode parent entries_here;
    name = name;
    moment = moment;
  }

  -- what is known of a directory
  pub record IsDirectoryHere (inode : Inode) (parent : ℕ) : Type 0 where
    pub there : get p.logical.inodes.inodes fileid ≡ Some inode
    pub says : parent_in inode.kind ≡ Some parent
    pub entered : get p.logical.directories fileid ≡ Some entries_here

  pub entered-here : WellFormed p → (inode : Inode) (parent : ℕ) → get p.logical.inodes.inodes fileid ≡ Some inode
      → parent_in inode.kind ≡ Some parent → get p.logical.directories fileid ≡ Some entries_here
  entered-here well inode parent there says = by (get p.logical.directories fileid) refl
    where
      some : is_some (get p.logical.directories fileid) ≡ true
      some = well.logical.named.as_directories fileid ∙ ap is_directory there ∙ ap (λ (o : Option ℕ). is_some o) says

      by : (o : Option DirectoryValue) → get p.logical.directories fileid ≡ o → o ≡ Some (directory_or_empty o)
      by None e = let none : is_some (get p.logical.directories fileid) ≡ false = ap (λ x. is_some x) e in let t = some in absurd cc
      by (Some d) e = refl

  -- what holds of failures, and of the call on each directory that is there, holds of the call
  pub named-right : WellFormed p → (Right : LogicalAnswer → Effect → Type 0) (run : HeldNaming → LogicalAnswer) (model : Naming → Effect)
      → ((status : Status) → Right (fails status (logical_lens.of p)) (Fails status))
      → ((inode : Inode) (parent : ℕ) → IsDirectoryHere inode parent → Right (run (naming_held inode)) (model (naming_seen inode parent)))
      → Right (on_held_name p.number fileid name moment run (logical_lens.of p)) (on_name name moment model (volume_of p) fileid)
  named-right well Right run model failure goes =
      subst (λ (o : Option Node). Right (on_held_name p.number fileid name moment run (logical_lens.of p)) (on_directory o asked)) (sym (node-at p fileid))
      (by (get p.logical.inodes.inodes fileid) refl)
    where
      asked : DirectoryNode → Effect
      asked d = unless (name_fault name)
          (model (record { volume = volume_of p; fileid = fileid; directory = d; name = name; moment = moment }))

      checked : (o : Option Status) (held : LogicalAnswer) (effect : Effect) → Right held effect
          → Right (unless_fault o (logical_lens.of p) held) (unless o effect)
      checked None held effect right = right
      checked (Some status) held effect right = failure status

      kinds : (inode : Inode) → get p.logical.inodes.inodes fileid ≡ Some inode → (kind : InodeKind) → inode.kind ≡ kind
          → Right (on_kind kind (naming_held inode) run)
          (on_directory (Some (node_by p.stripes (get p.logical.directories fileid) (get p.logical.texts fileid) fileid inode.attributes inode.names kind)) asked)
      kinds inode there (DirectoryKind parent subs) is =
          checked (name_fault name) (run (naming_held inode)) (model (naming_seen inode parent))
          (goes inode parent (record { there = there; says = ap parent_in is; entered = entered-here well inode parent there (ap parent_in is) }))
      kinds inode there kind is = failure _

      by : (o : Option Inode) → get p.logical.inodes.inodes fileid ≡ o
          → Right (on_inode o (logical_lens.of p) (λ inode. on_kind inode.kind (naming_held inode) run))
          (on_directory (option_map (node_of p.stripes p.logical.directories p.logical.texts fileid) o) asked)
      by None e = failure _
      by (Some inode) e = kinds inode e inode.kind refl

  -- its attributes before
  pub before-shown : WellFormed p → (inode : Inode) (parent : ℕ) → IsDirectoryHere inode parent
      → shown (volume_of p) fileid (Directory (naming_seen inode parent).directory) ≡ shown_inode p.number fileid inode None
  before-shown well inode parent here = directory-kind-shown p fileid well inode parent here.there here.says

-- ---- the node under the name

-- an entry of a list stands in it at least once
pub found-counted : (name : List ℕ) (list : List Listed) (e : Listed) → find_name name list ≡ Some e → 1 ≤ times_in_list e.fileid list
found-counted name [] e h = absurd cc
found-counted name (x ∷ list) e h = by (same_name x.name name) h (found-counted name list e)
  where
    by : (b : Bool) → (if b then Some x else find_name name list) ≡ Some e
        → (find_name name list ≡ Some e → 1 ≤ times_in_list e.fileid list) → 1 ≤ times_in_list e.fileid (x ∷ list)
    by true g others =
        let same : x ≡ e = cc in
        let one : one_if (x.fileid == e.fileid) ≡ 1 = ap one_if (eq-eqb x.fileid e.fileid (ap (λ (y : Listed). y.fileid) same)) in
        omega (arith, one)
    by false g others = let some = others g in omega (arith, some)

module _ (p : VolumeContents) (well : WellFormed p) (fileid : ℕ) (name : List ℕ) (d : DirectoryValue)
    (entered : get p.logical.directories fileid ≡ Some d) where
  -- an entry names an inode
  pub entry-there : (e : Listed) → found d name ≡ Some e → get p.logical.inodes.inodes e.fileid ≡ None → ⊥
  entry-there e h none =
      let some = found-counted name d.list e h in
      let more = entry-at-least nat_cmp-IsAntisymmetric (λ (x : ℕ × DirectoryValue). times_in_list e.fileid x.1.list)
      p.logical.directories fileid d entered in
      let zero : times_named e.fileid p.logical.directories ≡ 0 = well.logical.named.counted e.fileid ∙ ap names_of none in
      omega (arith, some, more, zero)

-- what is known of the node under a name
pub record IsChildHere (p : VolumeContents) (fileid : ℕ) (name : List ℕ) (child : HeldNode) : Type 0 where
  pub entry : Listed
  pub found_there : found (entries_of p.logical fileid) name ≡ Some entry
  pub is : entry.fileid ≡ child.fileid
  pub node : get p.logical.inodes.inodes child.fileid ≡ Some child.inode

-- the node as the serial server sees it
abbrev pub found_seen : VolumeContents → HeldNode → Found
found_seen p c = record { fileid = c.fileid; node = node_of p.stripes p.logical.directories p.logical.texts c.fileid c.inode }

module _ (p : VolumeContents) (well : WellFormed p) (fileid : ℕ) (name : List ℕ) (moment : Moment) (inode : Inode) (parent : ℕ)
    (here : IsDirectoryHere p fileid name moment inode parent) where
  -- what holds where the name isn't there, and of each node that has it, holds of the node under the name
  pub child-right : (Right : Option HeldNode → Option Found → Type 0)
      → (found (entries_of p.logical fileid) name ≡ None → Right None None)
      → ((c : HeldNode) → IsChildHere p fileid name c → Right (Some c) (Some (found_seen p c)))
      → Right (node_under (naming_held p fileid name moment inode)) (named_child (naming_seen p fileid name moment inode parent))
  child-right Right absent there = by (find_name name (entries_of p.logical fileid).list) refl
    where
      at : (e : Listed) → find_name name (entries_of p.logical fileid).list ≡ Some e → (o : Option Inode) → get p.logical.inodes.inodes e.fileid ≡ o
          → Right (node_there e.fileid o) (found_at e.fileid (option_map (node_of p.stripes p.logical.directories p.logical.texts e.fileid) o))
      at e h None none = absurd (entry-there p well fileid name (entries_of p.logical fileid) here.entered e h none)
      at e h (Some i) some =
          there (record { fileid = e.fileid; inode = i }) (record { entry = e; found_there = h; is = refl; node = some })

      by : (o : Option Listed) → find_name name (entries_of p.logical fileid).list ≡ o
          → Right (node_at (logical_lens.of p) (option_map (λ (e : Listed). e.fileid) o)) (child (volume_of p) o)
      by None h = absent h
      by (Some e) h =
          subst (λ (o : Option Node). Right (node_at (logical_lens.of p) (Some e.fileid)) (found_at e.fileid o)) (sym (node-at p e.fileid))
          (at e h (get p.logical.inodes.inodes e.fileid) refl)
