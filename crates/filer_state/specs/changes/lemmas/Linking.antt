-- LINK by what is under Logical.
use Rattle.std.proofs.Common.{◌≡◌, ℕ, ◌+◌, ◌-◌, ◌==◌, ◌++◌, Bool, true, false, List, [], ◌∷◌, map, Option, Some, None}
use Rattle.std.proofs.Common.{refl, sym, ap, ◌∙◌, subst, arith}
use Rattle.std.specs.Prelude.{if◌then◌else◌, nat_le, IsTrue}
use Rattle.std.specs.FinMap.{get, insert, len}
use Rattle.std.specs.FinSet.{from_list}
use Rattle.std.specs.Option.{option_map}
use Rattle.nfs_model.specs.Types.{Moment, Status, Shown, Wcc, Answer, Link, LinkDone, Exists, Invalid, TooManyLinks}
use Rattle.nfs_model.specs.Tree.{Affinity}
use Rattle.nfs_model.specs.Names.{is_dots, with_name}
use Rattle.nfs_model.specs.Parts.{Hand}
use Rattle.nfs_model.specs.Moves.{Emptied}
use Rattle.nfs_model.specs.Server.{Node, Directory, VolumeState, used}
use Rattle.nfs_model.specs.Shown.{shown, before_of}
use Rattle.nfs_model.specs.Locate.{Effect, Fails, unless, on_node, on_name, Found, Naming, named_child}
use Rattle.nfs_model.specs.Serial.Starve.{takes_memory}
use Rattle.nfs_model.specs.Serial.Links.{most_links, with_link}
use Rattle.nfs_model.specs.Serial.Link as links
use Rattle.nfs_model.specs.Serial.Link.{directory_fault, links_fault, with_another, link_at, link_name}
use Rattle.nfs_model.specs.volume.Directories.{found}
use Rattle.nfs_model.specs.volume.Inodes.{InodeKind, RegularFile, DirectoryKind, SpecialFile, Inode}
use Rattle.nfs_model.specs.volume.Stripes.{StripeValue, touch_taken}
use Rattle.nfs_model.specs.volume.lemmas.Inodes.{inode-set-there, inode-set-other}
use Rattle.nfs_model.specs.volume.lemmas.Numbered.{get-insert_at, itself}
use Rattle.filer_state.specs.state.Contents.{VolumeContents}
use Rattle.filer_state.specs.state.Tree.{file_touch, node_by, node_of, volume_of}
use Rattle.filer_state.specs.state.Names.{parent_in}
use Rattle.filer_state.specs.state.Partition.{parts_of, numbers_in, all_numbers}
use Rattle.filer_state.specs.state.Sound.{IsSound}
use Rattle.filer_state.specs.state.Lenses.{LogicalSet, logical_lens}
use Rattle.filer_state.specs.state.Calls.{VolumeCall}
use Rattle.filer_state.specs.state.Changes.{LogicalAnswer, shown_inode}
use Rattle.filer_state.specs.attributes.lemmas.Getting.{node-at}
use Rattle.filer_state.specs.attributes.lemmas.Kept.{touch-gone}
use Rattle.filer_state.specs.laws.lemmas.Counted.{used-is}
use Rattle.filer_state.specs.laws.lemmas.SameBlocks.{total-mapped}
use Rattle.filer_state.specs.laws.lemmas.Steps.{sound-later}
use Rattle.filer_state.specs.names.Answers.{entries_of}
use Rattle.filer_state.specs.names.lemmas.DirectoryKinds.{same-shown}
use Rattle.filer_state.specs.nodes.Making.{directories_in, with_subdirectories}
use Rattle.filer_state.specs.nodes.Moving as moving
use Rattle.filer_state.specs.nodes.Moving.{node_hung, node_hung_up}
use Rattle.filer_state.specs.nodes.Laws.{WeighAlike, MayHang, MayBeLinked, seen_directory, linked_in}
use Rattle.filer_state.specs.nodes.lemmas.Named as named
use Rattle.filer_state.specs.nodes.lemmas.Hung.{apart, apart-turned, hung-node, hung-directory}
use Rattle.filer_state.specs.nodes.lemmas.Linked.{sound-linked, volume-linked, may-hang}
use Rattle.filer_state.specs.changes.Named.{fails, unless_fault, on_inode, on_held_name, HeldNaming, HeldNode, node_under}
use Rattle.filer_state.specs.changes.Linking.{linking_of, directory_linked, held_linked, names_fault, link_by, held_link, unless_directory}
use Rattle.filer_state.specs.changes.Linking.{failing_with_three, link_done}
use Rattle.filer_state.specs.changes.Laws.{IsDone, MayStarve, link_call}
use Rattle.filer_state.specs.changes.lemmas.Named.{RightFor, done-right-for, naming_held, naming_seen, IsDirectoryHere, named-right, child-right}
use Rattle.filer_state.specs.changes.lemmas.Named.{before-shown}
use Rattle.filer_state.specs.changes.lemmas.Setting.{node-shows}
use Rattle.filer_state.specs.changes.lemmas.Makes.{may-starve}

module _ (handle directory : List ℕ) (node : Affinity) (fileid directory_id : ℕ) (name : List ℕ) (moment : Moment) where
  abbrev call : VolumeCall
  call = link_call handle directory node fileid directory_id name moment

  module _ (p : VolumeContents) (hands hands' : List Hand) (made : ℕ) (sound : IsSound p hands made) (weigh : WeighAlike p.number hands hands') where
    abbrev Right : LogicalAnswer → Effect → Type 0
    Right done effect = RightFor 3 call p hands' (made + 1) (failing_with_three done) effect

    failure : (status : Status) → Right (fails status (logical_lens.of p)) (Fails status)
    failure status = (refl, refl, refl, sound-later p hands hands' made weigh sound)

    checked : (o : Option Status) (done : LogicalAnswer) (effect : Effect) → Right done effect
        → Right (unless_fault o (logical_lens.of p) done) (unless o effect)
    checked None done effect right = right
    checked (Some status) done effect right = failure status

    -- the node is there, and isn't a directory
    module _ (object : Inode) (there : get p.logical.inodes.inodes fileid ≡ Some object) (no_directory : parent_in object.kind ≡ None) where
      abbrev held_object : HeldNode
      held_object = record { fileid = fileid; inode = object }

      abbrev found_object : Found
      found_object = record { fileid = fileid; node = node_of p.stripes p.logical.directories p.logical.texts fileid object }

      abbrev touch : Option Moment
      touch = file_touch p.stripes fileid

      -- as many names as its links
      faults-same : links_fault found_object.node ≡ names_fault object.names
      faults-same = by object.kind no_directory
        where
          by : (k : InodeKind) → parent_in k ≡ None
              → links_fault (node_by p.stripes (get p.logical.directories fileid) (get p.logical.texts fileid) fileid object.attributes object.names k)
              ≡ names_fault object.names
          by (RegularFile size filled verifier) none = refl
          by (DirectoryKind parent subs) none = absurd cc
          by (SpecialFile special size) none = refl

      module _ (inode : Inode) (parent : ℕ) (here : IsDirectoryHere p directory_id name moment inode parent) where
        abbrev held : HeldNaming
        held = naming_held p directory_id name moment inode

        abbrev seen : Naming
        seen = naming_seen p directory_id name moment inode parent

        abbrev m : moving.Naming
        m = linking_of held held_object

        abbrev after : VolumeContents
        after = linked_in m p

        module _ (absent : found (entries_of p.logical directory_id) name ≡ None) where
          may : MayBeLinked m p.logical.inodes p.logical.directories
          may = record {
            there = here.there;
            entered = here.entered;
            absent = absent;
            node = there;
            no_directory = no_directory;
            one_more = refl;
          }

          hangs : MayHang m p.logical.inodes p.logical.directories
          hangs = may-hang p m sound.well_formed may

          sound-after : IsSound after hands' (made + 1)
          sound-after = sound-linked p m sound.well_formed may hands hands' made weigh sound

          volume-after : volume_of after ≡ with_another seen found_object
          volume-after = volume-linked p m sound.well_formed may parent here.says

          numbers-stay : (stripes : List StripeValue) → all_numbers (map (touch_taken fileid) stripes) ≡ all_numbers stripes
          numbers-stay [] = refl
          numbers-stay (x ∷ stripes) = ap (λ ns. numbers_in x ++ ns) (numbers-stay stripes)

          parts-stay : parts_of after ≡ parts_of p
          parts-stay = λ j. record (parts_of p) { files = from_list (numbers-stay p.stripes j) }

          object-shown : shown (with_another seen found_object) fileid (with_link moment found_object.node)
              ≡ shown_inode p.number fileid (node_hung m touch) None
          object-shown =
              node-shows after (with_another seen found_object) fileid (with_link moment found_object.node) (node_hung m touch) sound-after.well_formed
              volume-after
              (get-insert_at (insert (volume_of p).nodes fileid (with_link moment found_object.node)) directory_id (links.directory_linked seen fileid) fileid
              ∙ ap (λ (b : Bool). if b then Some (links.directory_linked seen fileid)
              else get (insert (volume_of p).nodes fileid (with_link moment found_object.node)) fileid)
              (apart-turned p.logical.inodes p.logical.directories m touch hangs)
              ∙ get-insert_at (volume_of p).nodes fileid (with_link moment found_object.node) fileid
              ∙ ap (λ (b : Bool). if b then Some (with_link moment found_object.node) else get (volume_of p).nodes fileid) (itself fileid))
              (hung-node p.logical.inodes p.logical.directories m touch hangs)
              ∙ ap (shown_inode p.number fileid (node_hung m touch)) (touch-gone fileid p.stripes)

          directory-shown : shown (with_another seen found_object) directory_id (links.directory_linked seen fileid)
              ≡ shown_inode p.number directory_id (directory_linked m) None
          directory-shown =
              node-shows after (with_another seen found_object) directory_id (links.directory_linked seen fileid) (directory_linked m)
              sound-after.well_formed volume-after
              (get-insert_at (insert (volume_of p).nodes fileid (with_link moment found_object.node)) directory_id (links.directory_linked seen fileid)
              directory_id
              ∙ ap (λ (b : Bool). if b then Some (links.directory_linked seen fileid)
              else get (insert (volume_of p).nodes fileid (with_link moment found_object.node)) directory_id) (itself directory_id))
              (hung-directory p.logical.inodes p.logical.directories m touch hangs)
              ∙ same-shown p.number directory_id (directory_linked m) parent
              (named.parent-kept (directories_in object.kind) inode.kind ∙ here.says) (file_touch after.stripes directory_id)

          linked-right : Right (held_linked held held_object) (links.linked seen found_object)
          linked-right =
              let before = ap before_of (sym (before-shown p directory_id name moment sound.well_formed inode parent here)) in
              let object_told = sym object-shown in
              let later = sym directory-shown in (
                λ j. LinkDone (object_told j) (record { before = before j; after = later j }),
                volume-after,
                parts-stay,
                sound-after,
              )

        by-name : Right (link_by held_object held (node_under held)) (link_at found_object seen (named_child seen))
        by-name = child-right p sound.well_formed directory_id name moment inode parent here
            (λ (c : Option HeldNode) (found : Option Found). Right (link_by held_object held c) (link_at found_object seen found))
            (λ absent.
            subst (λ (o : Option Status). Right (unless_fault (names_fault object.names) (logical_lens.of p) (held_linked held held_object))
            (unless o (links.linked seen found_object))) (sym faults-same)
            (checked (names_fault object.names) _ _ (linked-right absent)))
            (λ child under. failure Exists)

        by-dots : (b : Bool) → Right (if b then fails Exists (logical_lens.of p) else link_by held_object held (node_under held))
            (if b then Fails Exists else link_at found_object seen (named_child seen))
        by-dots true = failure Exists
        by-dots false = by-name

      object-right : Right (on_held_name p.number directory_id name moment (held_link held_object) (logical_lens.of p))
          (on_name name moment (link_name found_object) (volume_of p) directory_id)
      object-right = named-right p directory_id name moment sound.well_formed Right (held_link held_object) (link_name found_object) failure
          (λ inode parent here. by-dots inode parent here (is_dots name))

    -- by what the node is
    by-kind : (object : Inode) → get p.logical.inodes.inodes fileid ≡ Some object → (k : InodeKind) → object.kind ≡ k
        → Right (unless_directory k (logical_lens.of p)
        (on_held_name p.number directory_id name moment (held_link (record { fileid = fileid; inode = object })) (logical_lens.of p)))
        (unless (directory_fault (node_by p.stripes (get p.logical.directories fileid) (get p.logical.texts fileid) fileid
        object.attributes object.names k))
        (on_name name moment (link_name (record {
          fileid = fileid;
          node = node_of p.stripes p.logical.directories p.logical.texts fileid object;
        })) (volume_of p) directory_id))
    by-kind object there (RegularFile size filled verifier) is = object-right object there (ap parent_in is)
    by-kind object there (DirectoryKind parent subs) is = failure Invalid
    by-kind object there (SpecialFile special size) is = object-right object there (ap parent_in is)

    links-right : RightFor 3 call p hands' (made + 1) (link_done p.number fileid directory_id name moment (logical_lens.of p)) (call.run (volume_of p))
    links-right =
        subst (λ (o : Option Node). Right
        (on_inode (get p.logical.inodes.inodes fileid) (logical_lens.of p) (λ inode. unless_directory inode.kind (logical_lens.of p)
        (on_held_name p.number directory_id name moment (held_link (record { fileid = fileid; inode = inode })) (logical_lens.of p))))
        (on_node o (λ node. unless (directory_fault node)
        (on_name name moment (link_name (record { fileid = fileid; node = node })) (volume_of p) directory_id)))) (sym (node-at p fileid))
        (by (get p.logical.inodes.inodes fileid) refl)
      where
        by : (o : Option Inode) → get p.logical.inodes.inodes fileid ≡ o
            → Right (on_inode o (logical_lens.of p) (λ inode. unless_directory inode.kind (logical_lens.of p)
            (on_held_name p.number directory_id name moment (held_link (record { fileid = fileid; inode = inode })) (logical_lens.of p))))
            (on_node (option_map (node_of p.stripes p.logical.directories p.logical.texts fileid) o) (λ node. unless (directory_fault node)
            (on_name name moment (link_name (record { fileid = fileid; node = node })) (volume_of p) directory_id)))
        by None e = failure _
        by (Some object) e = by-kind object e object.kind refl

  -- LINK
  pub link-is-done : (v : ℕ) (s : LogicalSet) → IsDone v call s (link_done v fileid directory_id name moment s)
  link-is-done v s = done-right-for 3 v call (λ w t. link_done w fileid directory_id name moment t) (λ p. refl) refl links-right s

-- memory may run out where it adds a name
pub link-starves : (v fileid directory_id : ℕ) (handle directory name : List ℕ) (node : Affinity) (moment : Moment) (s : LogicalSet)
    (object : Shown) (change : Wcc) → (link_done v fileid directory_id name moment s).answer ≡ LinkDone object change
    → MayStarve v (link_call handle directory node fileid directory_id name moment) s
link-starves v fileid directory_id handle directory name node moment s object change is =
    may-starve 3 v (link_call handle directory node fileid directory_id name moment) (λ w t. link_done w fileid directory_id name moment t) (λ p. refl) refl
    (λ p hands count sound. (links-right handle directory node fileid directory_id name moment p hands hands count sound (λ n. refl)).0) s
    (λ p server numbered has at. subst (λ (a : Answer). IsTrue (takes_memory server (Link handle directory name) a)) (sym is) refl)
