-- RMDIR by what is under Logical.
use Rattle.std.proofs.Common.{◌≡◌, ℕ, ◌+◌, Bool, true, false, List, [], ◌∷◌, Option, refl, sym, ap, ◌∙◌, subst, arith, ◌≤◌, not, ◌==◌, is_some}
use Rattle.std.specs.Prelude.{if◌then◌else◌}
use Rattle.std.specs.FinMap.{get}
use Rattle.nfs_model.specs.Types.{Moment, Listed, Status, Invalid, Exists}
use Rattle.nfs_model.specs.Tree.{Affinity}
use Rattle.nfs_model.specs.Names.{same_name, dot, dot_dot}
use Rattle.nfs_model.specs.Locate.{Effect, Fails, Found, Naming, named_child}
use Rattle.nfs_model.specs.Serial.Remove.{gone}
use Rattle.nfs_model.specs.Serial.Rmdir as rmdirs
use Rattle.nfs_model.specs.Serial.Rmdir.{rmdir_found, rmdir_at, rmdir}
use Rattle.nfs_model.specs.Parts.{Hand, one_if}
use Rattle.nfs_model.specs.volume.Inodes.{InodeKind, DirectoryKind, Inode}
use Rattle.filer_state.specs.state.Contents.{VolumeContents}
use Rattle.filer_state.specs.state.Tree.{directory_or_empty, node_by, volume_of}
use Rattle.filer_state.specs.state.Sound.{IsSound}
use Rattle.filer_state.specs.state.Lenses.{LogicalSet, logical_lens}
use Rattle.filer_state.specs.state.Calls.{VolumeCall}
use Rattle.filer_state.specs.state.Changes.{LogicalAnswer}
use Rattle.filer_state.specs.laws.lemmas.Steps.{sound-later}
use Rattle.filer_state.specs.names.Answers.{entries_of}
use Rattle.filer_state.specs.nodes.Dropping.{Dropping}
use Rattle.filer_state.specs.nodes.Laws.{WeighAlike, LosesName, IsEmptyKind}
use Rattle.filer_state.specs.changes.Named.{fails, HeldNaming, HeldNode, node_under}
use Rattle.filer_state.specs.changes.Dropping.{dropping_of, held_gone, if_empty, rmdir_kind, rmdir_by, held_rmdir}
use Rattle.filer_state.specs.changes.Laws.{IsDone, rmdir_call, rmdir_done}
use Rattle.filer_state.specs.changes.lemmas.Named.{RightAs, done-right, naming_held, naming_seen, IsDirectoryHere, named-right, IsChildHere, child-right, found_seen}
use Rattle.filer_state.specs.changes.lemmas.Gone.{gone-right, parts-gone, last-left}
use Rattle.filer_state.specs.state.Names.{root, is_directory, names_of, parent_in}

module _ (fileid : ℕ) (handle name : List ℕ) (node : Affinity) (moment : Moment) where
  abbrev call : VolumeCall
  call = rmdir_call handle node fileid name moment

  module _ (p : VolumeContents) (hands hands' : List Hand) (made : ℕ) (sound : IsSound p hands made) (weigh : WeighAlike p.number hands hands') where
    abbrev Right : LogicalAnswer → Effect → Type 0
    Right done effect = RightAs call p hands' (made + 1) done effect

    failure : (status : Status) → Right (fails status (logical_lens.of p)) (Fails status)
    failure status = (refl, refl, refl, sound-later p hands hands' made weigh sound)

    module _ (inode : Inode) (parent : ℕ) (here : IsDirectoryHere p fileid name moment inode parent) where
      abbrev held : HeldNaming
      held = naming_held p fileid name moment inode

      abbrev seen : Naming
      seen = naming_seen p fileid name moment inode parent

      module _ (child : HeldNode) (under : IsChildHere p fileid name child) where
        abbrev m : Dropping
        m = dropping_of held child

        module _ (empty : IsEmptyKind child.inode.kind) (last : child.inode.names ≤ 1) where
          loses : (entries_of p.logical child.fileid).list ≡ [] → LosesName m p.logical.inodes p.logical.directories
          loses none = record {
            there = here.there;
            entered = here.entered;
            entry = under.entry;
            found_there = under.found_there;
            is = under.is;
            node = under.node;
            last = last;
            kind = empty;
            empty = λ d e. ap (λ o. (directory_or_empty o).list) (sym e) ∙ none;
          }

          -- only where it is empty
          by-entries : (list : List Listed) → (entries_of p.logical child.fileid).list ≡ list
              → Right (if_empty list (logical_lens.of p) (held_gone held child (logical_lens.of p))) (rmdirs.if_empty list (gone seen (found_seen p child)))
          by-entries [] none = gone-right p fileid name moment inode parent here child child (logical_lens.of p) hands hands' made sound weigh call
              (loses none) sound (sym (last-left p seen child last refl)) (parts-gone p m (loses none) parent here.says hands hands made made (omega arith) (λ n. refl) sound)
          by-entries (e ∷ es) some = failure _

        one-most : (b : Bool) → one_if b ≤ 1
        one-most true = omega arith
        one-most false = omega arith

        -- a directory has one name
        one-name : {up below : ℕ} → child.inode.kind ≡ DirectoryKind up below → child.inode.names ≤ 1
        one-name is =
            let as_directory : is_directory (get p.logical.inodes.inodes child.fileid) ≡ true =
            ap is_directory under.node ∙ ap (λ (k : InodeKind). is_some (parent_in k)) is in
            let once : child.inode.names ≡ one_if (not (child.fileid == root)) =
            sym (ap names_of under.node) ∙ sound.well_formed.logical.named.once child.fileid as_directory in
            let most = one-most (not (child.fileid == root)) in
            omega (arith, once, most)

        by-kind : (kind : InodeKind) → child.inode.kind ≡ kind
            → Right (rmdir_kind held child kind)
            (rmdir_found seen (found_seen p child) (node_by p.stripes (get p.logical.directories child.fileid) (get p.logical.texts child.fileid) child.fileid child.inode.attributes child.inode.names kind))
        by-kind (DirectoryKind up below) is = by-entries (subst IsEmptyKind (sym is) (tt, refl)) (one-name is) (entries_of p.logical child.fileid).list refl
        by-kind kind is = failure _

      by-dots : (a b : Bool)
          → Right (if a then fails Invalid (logical_lens.of p) else if b then fails Exists (logical_lens.of p) else rmdir_by held (node_under held))
          (if a then Fails Invalid else if b then Fails Exists else rmdir_at seen (named_child seen))
      by-dots true b = failure _
      by-dots false true = failure _
      by-dots false false = child-right p sound.well_formed fileid name moment inode parent here
          (λ (c : Option HeldNode) (found : Option Found). Right (rmdir_by held c) (rmdir_at seen found))
          (λ absent. failure _) (λ child under. by-kind child under child.inode.kind refl)

    rmdir-right : Right (rmdir_done p.number fileid name moment (logical_lens.of p)) (call.run (volume_of p))
    rmdir-right = named-right p fileid name moment sound.well_formed Right held_rmdir rmdir failure
        (λ inode parent here. by-dots inode parent here (same_name name dot) (same_name name dot_dot))

  -- RMDIR
  pub rmdir-done : (v : ℕ) (s : LogicalSet) → IsDone v call s (rmdir_done v fileid name moment s)
  rmdir-done v s = done-right v call (λ w t. rmdir_done w fileid name moment t) (λ p. refl) refl rmdir-right s
