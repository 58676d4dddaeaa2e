-- What calls are refused by what is under Logical is what the serial server refuses.
use Rattle.std.proofs.Common.{◌≡◌, ℕ, ◌==◌, ◌||◌, Bool, true, false, List, Option, Some, None, refl, sym, ap, ◌∙◌}
use Rattle.std.proofs.lemmas.Bool.{eqb-true}
use Rattle.std.specs.Prelude.{if◌then◌else◌}
use Rattle.std.specs.Option.{option_map}
use Rattle.std.specs.FinMap.{get}
use Rattle.nfs_model.specs.Types.{Credential, Caller, Listed, Status, CreateMode, Unchecked, Guarded, Exclusive}
use Rattle.nfs_model.specs.Types.{Call, Setattr, Lookup, Read, Write, Create, Mkdir, Symlink, Mknod, Remove, Rmdir, Rename, Link, Readdir}
use Rattle.nfs_model.specs.Types.{Readdirplus, Commit}
use Rattle.nfs_model.specs.Server.{DirectoryNode, Node, File, Directory}
use Rattle.nfs_model.specs.Names.{find_name}
use Rattle.nfs_model.specs.Locate.{Found, found_at, child, is_node_of}
use Rattle.nfs_model.specs.Serial.Rights.{Protection, protection, may_read, may_write, may_search}
use Rattle.nfs_model.specs.Serial.Permission.{needs, then_asks, of_node, of_file, of_directory, set_refusal, is_no_child, of_name, new_refusal}
use Rattle.nfs_model.specs.Serial.Permission.{over_refusal, create_refusal, gone_refusal, target_refusal, moved_refusal, move_refusal}
use Rattle.nfs_model.specs.Serial.Permission.{mknod_refusal, rename_refusal, link_refusal, write_rights, is_change, refusal_by, refusal_of}
use Rattle.nfs_model.specs.Serial.Permission.{refusal}
use Rattle.nfs_model.specs.volume.Directories.{fileid_found}
use Rattle.nfs_model.specs.volume.Inodes.{InodeKind, RegularFile, DirectoryKind, Inode}
use Rattle.filer_state.specs.state.Contents.{VolumeContents}
use Rattle.filer_state.specs.state.Tree.{volume_of, node_by, node_of}
use Rattle.filer_state.specs.state.Protected.{protection_of}
use Rattle.filer_state.specs.state.Lenses.{LogicalSet, logical_lens}
use Rattle.filer_state.specs.attributes.lemmas.Getting.{node-at}
use Rattle.filer_state.specs.names.Answers.{entries_of}
use Rattle.filer_state.specs.permissions.Refusing.{of_inode, if_directory, of_directory_inode, if_file, of_file_inode, protection_at}
use Rattle.filer_state.specs.permissions.Refusing.{new_asked, over_kind, create_asked, gone_asked, target_asked, moved_kind, move_asked}
use Rattle.filer_state.specs.permissions.Refusing.{protection_under, mknod_asked, are_one, of_held_name, of_held_names, link_asked, asked_of, refusal_held}

module _ (p : VolumeContents) where
  abbrev held : LogicalSet
  held = logical_lens.of p

  abbrev seen : ℕ → Inode → Node
  seen fileid inode = node_of p.stripes p.logical.directories p.logical.texts fileid inode

  -- a node is protected as its inode is
  same-protection : (fileid : ℕ) (inode : Inode) → protection (seen fileid inode) ≡ protection_of inode
  same-protection fileid inode = by inode.kind
    where
      by : (k : InodeKind) → protection (node_by p.stripes (get p.logical.directories fileid) (get p.logical.texts fileid) fileid inode.attributes inode.names k)
          ≡ protection_of (record inode { kind = k })
      by (DirectoryKind parent subdirectories) = refl
      by k = refl

  -- ---- a node

  at-node : (fileid : ℕ) (ask : Protection → Option Status)
      → of_node (get (volume_of p).nodes fileid) ask ≡ of_inode (get p.logical.inodes.inodes fileid) ask
  at-node fileid ask = ap (λ (o : Option Node). of_node o ask) (node-at p fileid) ∙ by (get p.logical.inodes.inodes fileid)
    where
      by : (o : Option Inode) → of_node (option_map (seen fileid) o) ask ≡ of_inode o ask
      by None = refl
      by (Some inode) = ap ask (same-protection fileid inode)

  -- what is asked of a file, or of a directory, by the kind of its inode
  at-file : (fileid : ℕ) (ask : Protection → Option Status)
      → of_file (get (volume_of p).nodes fileid) ask ≡ of_file_inode (get p.logical.inodes.inodes fileid) ask
  at-file fileid ask = ap (λ (o : Option Node). of_file o ask) (node-at p fileid) ∙ by (get p.logical.inodes.inodes fileid)
    where
      kinds : (inode : Inode) (k : InodeKind) → inode.kind ≡ k
          → of_file (Some (node_by p.stripes (get p.logical.directories fileid) (get p.logical.texts fileid) fileid inode.attributes inode.names k)) ask ≡ if_file k (ask (protection_of inode))
      kinds inode (RegularFile size filled verifier) is =
          ap ask (ap (λ (k : InodeKind). protection (node_by p.stripes (get p.logical.directories fileid) (get p.logical.texts fileid) fileid inode.attributes inode.names k)) (sym is)
          ∙ same-protection fileid inode)
      kinds inode k is = refl

      by : (o : Option Inode) → of_file (option_map (seen fileid) o) ask ≡ of_file_inode o ask
      by None = refl
      by (Some inode) = kinds inode inode.kind refl

  -- and of a directory, whose entries are those that are held
  at-directory : (fileid : ℕ) (ask : DirectoryNode → Option Status) (told : Protection → Option Status)
      → ((d : DirectoryNode) → d.list ≡ (entries_of p.logical fileid).list → ask d ≡ told (protection (Directory d)))
      → of_directory (get (volume_of p).nodes fileid) ask ≡ of_directory_inode (get p.logical.inodes.inodes fileid) told
  at-directory fileid ask told same = ap (λ (o : Option Node). of_directory o ask) (node-at p fileid) ∙ by (get p.logical.inodes.inodes fileid)
    where
      kinds : (inode : Inode) (k : InodeKind) → inode.kind ≡ k
          → of_directory (Some (node_by p.stripes (get p.logical.directories fileid) (get p.logical.texts fileid) fileid inode.attributes inode.names k)) ask
          ≡ if_directory k (told (protection_of inode))
      kinds inode (DirectoryKind parent subdirectories) is =
          same _ refl
          ∙ ap told (ap (λ (k : InodeKind). protection (node_by p.stripes (get p.logical.directories fileid) (get p.logical.texts fileid) fileid inode.attributes inode.names k)) (sym is)
          ∙ same-protection fileid inode)
      kinds inode k is = refl

      by : (o : Option Inode) → of_directory (option_map (seen fileid) o) ask ≡ of_directory_inode o told
      by None = refl
      by (Some inode) = kinds inode inode.kind refl

  -- ---- the node under a name

  at-child : {A : Type 0} (ask : Option Found → A) (told : Option Protection → A) → ask None ≡ told None
      → ((found : Found) → ask (Some found) ≡ told (Some (protection found.node)))
      → (o : Option Listed) → ask (child (volume_of p) o) ≡ told (protection_at held (option_map (λ (e : Listed). e.fileid) o))
  at-child ask told none some None = none
  at-child ask told none some (Some e) =
      ap (λ (o : Option Node). ask (found_at e.fileid o)) (node-at p e.fileid) ∙ by (get p.logical.inodes.inodes e.fileid)
    where
      by : (o : Option Inode) → ask (found_at e.fileid (option_map (seen e.fileid) o)) ≡ told (option_map protection_of o)
      by None = none
      by (Some inode) = some _ ∙ ap (λ (x : Protection). told (Some x)) (same-protection e.fileid inode)

  -- ---- names

  module _ (who : Credential) where
    over-same : (mode : CreateMode) (node : Node) → over_refusal who mode node ≡ over_kind who mode (protection node) (protection node).kind
    over-same (Unchecked set) (File f) = refl
    over-same (Unchecked set) node = refl
    over-same (Guarded set) (File f) = refl
    over-same (Guarded set) node = refl
    over-same (Exclusive verifier) (File f) = refl
    over-same (Exclusive verifier) node = refl

    moved-same : (stays : Bool) (node : Node) → moved_refusal who stays node ≡ moved_kind who stays (protection node) (protection node).kind
    moved-same stays (Directory d) = refl
    moved-same stays node = refl

    target-same : (directory : Protection) (o : Option Listed)
        → target_refusal who directory (child (volume_of p) o)
        ≡ target_asked who directory (protection_at held (option_map (λ (e : Listed). e.fileid) o))
    target-same directory = at-child (target_refusal who directory) (target_asked who directory) refl (λ found. refl)

    -- whether two names are of one node, where the first one's node is there
    one-same : (fileid : ℕ) (inode : Inode) → get p.logical.inodes.inodes fileid ≡ Some inode → (t : Option Listed)
        → is_node_of fileid (child (volume_of p) t) ≡ are_one (Some fileid) (option_map (λ (e : Listed). e.fileid) t)
    one-same fileid inode there None = refl
    one-same fileid inode there (Some e) =
        ap (λ (o : Option Node). is_node_of fileid (found_at e.fileid o)) (node-at p e.fileid)
        ∙ by (get p.logical.inodes.inodes e.fileid) (e.fileid == fileid) refl refl
      where
        by : (o : Option Inode) (b : Bool) → get p.logical.inodes.inodes e.fileid ≡ o → (e.fileid == fileid) ≡ b
            → is_node_of fileid (found_at e.fileid (option_map (seen e.fileid) o)) ≡ (e.fileid == fileid)
        by (Some inode) b is same = refl
        by None false is same = sym same
        by None true is same =
            let found : None ≡ Some inode = sym is ∙ ap (get p.logical.inodes.inodes) (eqb-true e.fileid fileid same) ∙ there in
            absurd cc

    -- what moves, unless both names are of one node
    move-same : (stays : Bool) (from to : Protection) (o t : Option Listed)
        → move_refusal who stays from to (child (volume_of p) o) (child (volume_of p) t)
        ≡ (if are_one (option_map (λ (e : Listed). e.fileid) o) (option_map (λ (e : Listed). e.fileid) t) then None
        else move_asked who stays from to (protection_at held (option_map (λ (e : Listed). e.fileid) o))
        (protection_at held (option_map (λ (e : Listed). e.fileid) t)))
    move-same stays from to None t = refl
    move-same stays from to (Some e) t =
        ap (λ (o : Option Node). move_refusal who stays from to (found_at e.fileid o) (child (volume_of p) t)) (node-at p e.fileid)
        ∙ by (get p.logical.inodes.inodes e.fileid) refl
      where
        neither : (b : Bool) (x : Option Status) → x ≡ (if b then x else x)
        neither true x = refl
        neither false x = refl

        by : (o : Option Inode) → get p.logical.inodes.inodes e.fileid ≡ o
            → move_refusal who stays from to (found_at e.fileid (option_map (seen e.fileid) o)) (child (volume_of p) t)
            ≡ (if are_one (Some e.fileid) (option_map (λ (e : Listed). e.fileid) t) then None
            else move_asked who stays from to (option_map protection_of o) (protection_at held (option_map (λ (e : Listed). e.fileid) t)))
        by None there = neither (are_one (Some e.fileid) (option_map (λ (e : Listed). e.fileid) t)) None
        by (Some inode) there =
            let one = one-same e.fileid inode there t in
            let moved : moved_refusal who stays (seen e.fileid inode) ≡ moved_kind who stays (protection_of inode) (protection_of inode).kind =
            moved-same stays (seen e.fileid inode) ∙ ap (λ (x : Protection). moved_kind who stays x x.kind) (same-protection e.fileid inode) in
            λ j. if one j then None
            else then_asks (gone_asked who from (Some (same-protection e.fileid inode j))) (then_asks (target-same to t j) (moved j))

    -- a name of a directory
    name-same : (name : List ℕ) (fileid : ℕ) (ask : Protection → Option Found → Option Status) (told : Protection → Option Protection → Option Status)
        → ((directory : Protection) → ask directory None ≡ told directory None)
        → ((directory : Protection) (found : Found) → ask directory (Some found) ≡ told directory (Some (protection found.node)))
        → of_name who name (volume_of p) fileid ask ≡ of_held_name who name held fileid told
    name-same name fileid ask told none some = at-directory fileid _ _ (λ d list.
        λ j. then_asks (needs (may_search who (protection (Directory d))))
        (if is_no_child name then None
        else (ap (λ l. ask (protection (Directory d)) (child (volume_of p) (find_name name l))) list
        ∙ at-child (ask (protection (Directory d))) (told (protection (Directory d))) (none (protection (Directory d)))
        (some (protection (Directory d))) (find_name name (entries_of p.logical fileid).list)) j))

    -- two names
    either-none : (a b : Bool) (x : Option Status) → (if a then None else if b then None else x) ≡ (if a || b then None else x)
    either-none true b x = refl
    either-none false b x = refl

    names-same : (from_name to_name : List ℕ) (from to : ℕ)
        → rename_refusal who from_name to_name (volume_of p) from to ≡ of_held_names who from_name to_name held from to
    names-same from_name to_name from to = at-directory from _ _ (λ d list. at-directory to _ _ (λ e others.
        ap (λ (x : Option Status). then_asks (needs (may_search who (protection (Directory d))))
        (then_asks (needs (may_search who (protection (Directory e)))) x))
        ((λ j. if is_no_child from_name || is_no_child to_name then None
        else moved (protection (Directory d)) (protection (Directory e)) d.list e.list list others j)
        ∙ either-none (is_no_child from_name || is_no_child to_name)
        (are_one (fileid_found (entries_of p.logical from) from_name) (fileid_found (entries_of p.logical to) to_name)) _)))
      where
        moved : (source target : Protection) (ones twos : List Listed) → ones ≡ (entries_of p.logical from).list → twos ≡ (entries_of p.logical to).list
            → move_refusal who (from == to) source target (child (volume_of p) (find_name from_name ones)) (child (volume_of p) (find_name to_name twos))
            ≡ (if are_one (fileid_found (entries_of p.logical from) from_name) (fileid_found (entries_of p.logical to) to_name) then None
            else move_asked who (from == to) source target (protection_under held from from_name) (protection_under held to to_name))
        moved source target ones twos list others =
            (λ j. move_refusal who (from == to) source target (child (volume_of p) (find_name from_name (list j)))
            (child (volume_of p) (find_name to_name (others j))))
            ∙ move-same (from == to) source target (find_name from_name (entries_of p.logical from).list)
            (find_name to_name (entries_of p.logical to).list)

    -- a new name of a node
    link-same : (name : List ℕ) (fileid directory : ℕ)
        → link_refusal who name (volume_of p) fileid directory ≡ link_asked who name held fileid directory
    link-same name fileid directory =
        at-node fileid (λ object. of_name who name (volume_of p) directory (new_refusal who))
        ∙ ap (λ (x : Option Status). of_inode (get p.logical.inodes.inodes fileid) (λ object. x))
        (name-same name directory (new_refusal who) (new_asked who) (λ d. refl) (λ d found. refl))

    -- ---- calls

    asked-same : (call : Call) (fileid other : ℕ) → refusal_by who call (volume_of p) fileid other ≡ asked_of who call held fileid other
    asked-same (Setattr handle set guard) fileid other = at-node fileid (set_refusal who set)
    asked-same (Lookup directory name) fileid other = at-directory fileid _ _ (λ d list. refl)
    asked-same (Read handle offset count) fileid other = at-file fileid (λ file. needs (may_read who file))
    asked-same (Write handle offset count written) fileid other = at-file fileid (write_rights who)
    asked-same (Create directory name mode) fileid other =
        name-same name fileid (create_refusal who mode) (create_asked who mode) (λ d. refl) (λ d found. over-same mode found.node)
    asked-same (Mkdir directory name set) fileid other = name-same name fileid (new_refusal who) (new_asked who) (λ d. refl) (λ d found. refl)
    asked-same (Symlink directory name set text) fileid other =
        name-same name fileid (new_refusal who) (new_asked who) (λ d. refl) (λ d found. refl)
    asked-same (Mknod directory name kind set) fileid other =
        name-same name fileid (mknod_refusal who kind) (mknod_asked who kind) (λ d. refl) (λ d found. refl)
    asked-same (Remove directory name) fileid other = name-same name fileid (gone_refusal who) (gone_asked who) (λ d. refl) (λ d found. refl)
    asked-same (Rmdir directory name) fileid other = name-same name fileid (gone_refusal who) (gone_asked who) (λ d. refl) (λ d found. refl)
    asked-same (Rename from from_name to to_name) fileid other = names-same from_name to_name fileid other
    asked-same (Link handle directory name) fileid other = link-same name fileid other
    asked-same (Readdir directory cookie verifier count) fileid other = at-directory fileid _ _ (λ d list. refl)
    asked-same (Readdirplus directory cookie verifier names_count count) fileid other = at-directory fileid _ _ (λ d list. refl)
    asked-same (Commit handle) fileid other = at-file fileid (λ file. needs (may_read who file || may_write who file))
    asked-same call fileid other = refl

  -- what a caller is refused
  pub refused-same : (caller : Caller) (call : Call) (fileid other : ℕ)
      → refusal caller call (volume_of p) fileid other ≡ refusal_held caller call held fileid other
  refused-same caller call fileid other = ap (refusal_of caller (is_change call)) (asked-same caller.credential call fileid other)
