-- REMOVE by what is under Logical.
use Rattle.std.proofs.Common.{◌≡◌, ℕ, ◌+◌, Bool, true, false, List, length, Option, Some, None}
use Rattle.std.proofs.Common.{refl, sym, ap, ◌∙◌, arith}
use Rattle.std.specs.Prelude.{if◌then◌else◌, nat_le}
use Rattle.std.specs.FinMap.{get}
use Rattle.nfs_model.specs.Types.{Moment, Status, Answer, GoneDone, Invalid}
use Rattle.nfs_model.specs.Tree.{Affinity}
use Rattle.nfs_model.specs.Names.{is_dots}
use Rattle.nfs_model.specs.Shown.{before_of}
use Rattle.nfs_model.specs.Locate.{Effect, Fails, Found, Naming, named_child}
use Rattle.nfs_model.specs.Serial.Remove.{gone, remove_found, remove_at, remove_name}
use Rattle.nfs_model.specs.Parts.{Hand}
use Rattle.nfs_model.specs.volume.Inodes.{InodeKind, RegularFile, DirectoryKind, SpecialFile, Inode}
use Rattle.filer_state.specs.state.Contents.{VolumeContents}
use Rattle.filer_state.specs.state.Tree.{node_by, volume_of}
use Rattle.filer_state.specs.state.Names.{parent_in}
use Rattle.filer_state.specs.state.Sound.{IsSound}
use Rattle.filer_state.specs.state.Lenses.{LogicalSet, logical_lens}
use Rattle.filer_state.specs.state.Calls.{VolumeCall}
use Rattle.filer_state.specs.state.Changes.{LogicalAnswer}
use Rattle.filer_state.specs.laws.lemmas.Steps.{sound-later}
use Rattle.filer_state.specs.nodes.Making.{directories_in}
use Rattle.filer_state.specs.nodes.Dropping.{directory_left, without_subdirectories}
use Rattle.filer_state.specs.nodes.Sizing.{kind_sized, all_freed}
use Rattle.filer_state.specs.nodes.Laws.{WeighAlike}
use Rattle.filer_state.specs.changes.Named.{fails, HeldNaming, HeldNode, directory_change, node_under}
use Rattle.filer_state.specs.changes.Dropping.{dropping_of, last_gone, one_gone, name_gone, remove_kind, remove_by, held_remove}
use Rattle.filer_state.specs.changes.Laws.{IsDone, remove_call, remove_done}
use Rattle.filer_state.specs.changes.lemmas.Named.{RightAs, done-right, naming_held, naming_seen, IsDirectoryHere, named-right, IsChildHere, child-right}
use Rattle.filer_state.specs.changes.lemmas.Named.{found_seen, before-shown}
use Rattle.filer_state.specs.changes.lemmas.Setattr.{unchanged}
use Rattle.filer_state.specs.changes.lemmas.NamesGone.{gone-all, gone-shown}

-- ---- the procedure

module _ (fileid : ℕ) (handle name : List ℕ) (node : Affinity) (moment : Moment) where
  abbrev call : VolumeCall
  call = remove_call handle node fileid name moment

  module _ (p : VolumeContents) (hands hands' : List Hand) (made : ℕ) (sound : IsSound p hands made) (weigh : WeighAlike p.number hands hands') where
    abbrev Right : LogicalAnswer → Effect → Type 0
    Right done effect = RightAs call p hands' (made + 1) done effect

    failure : (status : Status) → Right (fails status (logical_lens.of p)) (Fails status)
    failure status = (refl, refl, unchanged p, sound-later p hands hands' made weigh sound)

    module _ (inode : Inode) (parent : ℕ) (here : IsDirectoryHere p fileid name moment inode parent) where
      abbrev held : HeldNaming
      held = naming_held p fileid name moment inode

      abbrev seen : Naming
      seen = naming_seen p fileid name moment inode parent

      module _ (child : HeldNode) (under : IsChildHere p fileid name child) where
        name-right : (kind : InodeKind) → child.inode.kind ≡ kind → parent_in kind ≡ None → Right (name_gone held child) (gone seen (found_seen p child))
        name-right kind is none =
            let gone_now = gone-all p fileid name moment inode parent here child under hands hands' made (made + 1) (omega arith) sound weigh
            (λ up below directory. absurd (let wrong : None ≡ Some up = sym none ∙ sym (ap parent_in is) ∙ ap parent_in directory in cc)) in
            let before = ap before_of (sym (before-shown p fileid name moment sound.well_formed inode parent here)) in
            let later = sym (gone-shown p fileid name moment inode parent here child under hands hands' made (made + 1) (omega arith) sound weigh
            (name_gone held child).set gone_now) in (
              told-same (nat_le child.inode.names 1) child.inode.kind
                  ∙ (λ j. GoneDone (record { before = before j; after = later j })),
              gone_now.volume,
              gone_now.emptied,
              gone_now.sound,
            )
          where
            told : Answer
            told = GoneDone (directory_change held (directory_left (dropping_of held child)))

            told-last : (k : InodeKind) → child.inode.kind ≡ k → (last_gone held child k).answer ≡ told
            told-last (RegularFile size filled verifier) is =
                ap (λ (n : ℕ). GoneDone (directory_change held (record inode {
                  attributes = record inode.attributes { mtime = moment; ctime = moment };
                  kind = without_subdirectories n inode.kind;
                })))
                (ap (λ (k : InodeKind). directories_in (kind_sized 0 (length (all_freed child.fileid 0 p.stripes)) k)) is ∙ sym (ap directories_in is))
            told-last k is = refl

            told-same : (b : Bool) (k : InodeKind) → (if b then last_gone held child child.inode.kind else one_gone held child).answer ≡ told
            told-same true k = told-last child.inode.kind refl
            told-same false k = refl

        by-kind : (kind : InodeKind) → child.inode.kind ≡ kind
            → Right (remove_kind held child kind)
            (remove_found seen (found_seen p child)
            (node_by p.stripes (get p.logical.directories child.fileid) (get p.logical.texts child.fileid) child.fileid child.inode.attributes child.inode.names kind))
        by-kind (DirectoryKind up below) is = failure _
        by-kind (RegularFile size filled verifier) is = name-right (RegularFile size filled verifier) is refl
        by-kind (SpecialFile special size) is = name-right (SpecialFile special size) is refl

      by-dots : (b : Bool) → Right (if b then fails Invalid (logical_lens.of p) else remove_by held (node_under held))
          (if b then Fails Invalid else remove_at seen (named_child seen))
      by-dots true = failure _
      by-dots false = child-right p sound.well_formed fileid name moment inode parent here
          (λ (c : Option HeldNode) (found : Option Found). Right (remove_by held c) (remove_at seen found))
          (λ absent. failure _) (λ child under. by-kind child under child.inode.kind refl)

    removes-right : Right (remove_done p.number fileid name moment (logical_lens.of p)) (call.run (volume_of p))
    removes-right = named-right p fileid name moment sound.well_formed Right held_remove remove_name failure
        (λ inode parent here. by-dots inode parent here (is_dots name))

  -- REMOVE
  pub remove-done : (v : ℕ) (s : LogicalSet) → IsDone v call s (remove_done v fileid name moment s)
  remove-done v s = done-right v call (λ w t. remove_done w fileid name moment t) (λ p. refl) refl removes-right s
