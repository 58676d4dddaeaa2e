-- SETATTR by what is under Logical.
use Rattle.std.proofs.Common.{◌≡◌, ℕ, ◌+◌, ◌-◌, Bool, true, false, List, Option, Some, None, refl, sym, ap, ◌∙◌, subst, arith}
use Rattle.std.specs.Prelude.{if◌then◌else◌}
use Rattle.std.specs.Option.{option_map}
use Rattle.std.specs.FinMap.{get}
use Rattle.nfs_model.specs.Types.{Moment, Caller, SetAttributes, Status, SetattrDone}
use Rattle.nfs_model.specs.Tree.{Affinity}
use Rattle.nfs_model.specs.Server.{Attributes, Node, used}
use Rattle.nfs_model.specs.Shown.{before_of}
use Rattle.nfs_model.specs.Locate.{Effect, Fails, on_node, unless}
use Rattle.nfs_model.specs.Serial.Rights.{protected}
use Rattle.nfs_model.specs.Serial.Setattr.{set_node, mode_taken, set_taken, setattr_fault, replaced}
use Rattle.nfs_model.specs.Moves.{Emptied}
use Rattle.nfs_model.specs.Parts.{Hand}
use Rattle.nfs_model.specs.volume.Inodes.{InodeKind, DirectoryKind, Inode}
use Rattle.filer_state.specs.state.Contents.{VolumeContents}
use Rattle.filer_state.specs.state.Tree.{file_touch, node_by, node_of, volume_of}
use Rattle.filer_state.specs.state.Protected.{kind_shown}
use Rattle.filer_state.specs.state.Partition.{parts_of}
use Rattle.filer_state.specs.state.Sound.{IsSound}
use Rattle.filer_state.specs.state.Lenses.{LogicalSet, logical_lens}
use Rattle.filer_state.specs.state.Calls.{VolumeCall}
use Rattle.filer_state.specs.state.Changes.{attributes_now, LogicalAnswer}
use Rattle.filer_state.specs.laws.lemmas.Steps.{sound-later}
use Rattle.filer_state.specs.attributes.Laws.{setattr_call}
use Rattle.filer_state.specs.attributes.lemmas.Getting.{node-at, node-shown}
use Rattle.filer_state.specs.attributes.lemmas.Setattr.{emptied-none}
use Rattle.filer_state.specs.nodes.Laws.{WeighAlike}
use Rattle.filer_state.specs.changes.Named.{fails, unless_fault, on_inode}
use Rattle.filer_state.specs.changes.Attributes.{NodeSet, node_changed, taken_by, taken_of, set_fault, node_fault, node_replaced, held_setattr}
use Rattle.filer_state.specs.changes.Laws.{IsDone}
use Rattle.filer_state.specs.changes.lemmas.Named.{RightAs, done-right}
use Rattle.filer_state.specs.changes.lemmas.Setting.{fault-is, IsNodeSet, node-set}

-- where nothing changes no block moves
pub unchanged : (p : VolumeContents) → Emptied (used (volume_of p) - used (volume_of p)) (parts_of p) (parts_of p)
unchanged p = emptied-none (parts_of p) (parts_of p) (used (volume_of p) - used (volume_of p)) (omega arith) refl refl refl refl

-- ---- what is set, as it is taken

module _ (caller : Caller) (set : SetAttributes) where
  -- by what a node is, and by what its inode is of
  pub taken-is : (p : VolumeContents) (f : ℕ) (a : Attributes) (names : ℕ) (kind : InodeKind)
      → set_taken caller set (node_by p.stripes (get p.logical.directories f) (get p.logical.texts f) f a names kind) ≡ taken_by caller set a kind
  taken-is p f a names (DirectoryKind parent subdirectories) = refl
  taken-is p f a names kind = refl

  -- the mode isn't looked at
  fault-taken : (guard : Option Moment) (largest : ℕ) (touch : Option Moment) (a : Attributes) (kind : InodeKind)
      → set_fault largest (taken_by caller set a kind) guard (attributes_now touch a kind).ctime kind
      ≡ set_fault largest set guard (attributes_now touch a kind).ctime kind
  fault-taken guard largest touch a (DirectoryKind parent subdirectories) = refl
  fault-taken guard largest touch a kind = by kind caller.checked
    where
      by : (k : InodeKind) (b : Bool)
          → set_fault largest (if b then record set { mode = mode_taken caller.credential set (protected (kind_shown k) a) set.mode } else set) guard
          (attributes_now touch a k).ctime k
          ≡ set_fault largest set guard (attributes_now touch a k).ctime k
      by k true = refl
      by k false = refl

module _ (f : ℕ) (handle : List ℕ) (node : Affinity) (set : SetAttributes) (guard : Option Moment)
    (caller : Caller) (moment : Moment) where
  abbrev call : VolumeCall
  call = setattr_call handle node f set guard caller moment

  module _ (p : VolumeContents) (hands hands' : List Hand) (made : ℕ) (sound : IsSound p hands made) (weigh : WeighAlike p.number hands hands') where
    abbrev Right : LogicalAnswer → Effect → Type 0
    Right done effect = RightAs call p hands' (made + 1) done effect

    abbrev was : Inode → Node
    was inode = node_of p.stripes p.logical.directories p.logical.texts f inode

    -- what is asked of a node, and of an inode
    abbrev asked : Node → Effect
    asked n = unless (setattr_fault (volume_of p) set guard n) (replaced (volume_of p) f n (set_node (set_taken caller set n) moment n))

    abbrev held : Inode → LogicalAnswer
    held inode = unless_fault (node_fault f set guard inode (logical_lens.of p)) (logical_lens.of p)
        (node_replaced p.number f inode (logical_lens.of p) (node_changed f (taken_of caller set inode) moment inode (logical_lens.of p)))

    failure : (status : Status) → Right (fails status (logical_lens.of p)) (Fails status)
    failure status = (refl, refl, unchanged p, sound-later p hands hands' made weigh sound)

    module _ (old : Inode) (there : get p.logical.inodes.inodes f ≡ Some old) where
      -- what is set, as it is taken
      abbrev taken : SetAttributes
      taken = taken_of caller set old

      abbrev new : NodeSet
      new = node_changed f taken moment old (logical_lens.of p)

      set-right : node_fault f taken guard old (logical_lens.of p) ≡ None
          → Right (node_replaced p.number f old (logical_lens.of p) new) (replaced (volume_of p) f (was old) (set_node taken moment (was old)))
      set-right passes =
          let is : IsNodeSet p f (set_node taken moment (was old)) new hands' (made + 1) =
          node-set p f taken moment old there hands hands' made weigh sound guard passes in
          let before = ap before_of (sym (node-shown p sound.well_formed f old there)) in (
            λ j. SetattrDone (record { before = before j; after = sym is.is_shown j }),
            is.volume,
            is.emptied,
            is.sound,
          )

      -- with the checks as they come out
      checked : (c : Option Status) → node_fault f taken guard old (logical_lens.of p) ≡ c
          → Right (unless_fault c (logical_lens.of p) (node_replaced p.number f old (logical_lens.of p) new))
          (unless c (replaced (volume_of p) f (was old) (set_node taken moment (was old))))
      checked (Some status) is = failure status
      checked None is = set-right is

      abbrev fault : Option Status
      fault = node_fault f taken guard old (logical_lens.of p)

      -- what fails is what fails of what was given
      same_fault : fault ≡ node_fault f set guard old (logical_lens.of p)
      same_fault = fault-taken caller set guard p.logical.largest (file_touch p.stripes f) old.attributes old.kind

      at-inode : Right (held old) (asked (was old))
      at-inode =
          subst (λ (c : Option Status). Right (unless_fault c (logical_lens.of p) (node_replaced p.number f old (logical_lens.of p) new))
          (asked (was old))) same_fault
          (subst (λ (c : Option Status). Right (unless_fault fault (logical_lens.of p) (node_replaced p.number f old (logical_lens.of p) new))
          (unless c (replaced (volume_of p) f (was old) (set_node (set_taken caller set (was old)) moment (was old)))))
          (same_fault ∙ sym (fault-is p f set old guard))
          (subst (λ (t : SetAttributes). Right (unless_fault fault (logical_lens.of p) (node_replaced p.number f old (logical_lens.of p) new))
          (unless fault (replaced (volume_of p) f (was old) (set_node t moment (was old)))))
          (sym (taken-is caller set p f old.attributes old.names old.kind)) (checked fault refl)))

    by-inode : Right (held_setattr p.number f set guard caller moment (logical_lens.of p)) (call.run (volume_of p))
    by-inode =
        subst (λ (o : Option Node). Right (held_setattr p.number f set guard caller moment (logical_lens.of p)) (on_node o asked)) (sym (node-at p f))
        (by (get p.logical.inodes.inodes f) refl)
      where
        by : (o : Option Inode) → get p.logical.inodes.inodes f ≡ o
            → Right (on_inode o (logical_lens.of p) held) (on_node (option_map (node_of p.stripes p.logical.directories p.logical.texts f) o) asked)
        by None e = failure _
        by (Some old) e = at-inode old e

  -- SETATTR, with a size and without
  pub setattr-done : (v : ℕ) (s : LogicalSet) → IsDone v call s (held_setattr v f set guard caller moment s)
  setattr-done v s = done-right v call (λ w t. held_setattr w f set guard caller moment t) (λ p. refl) refl
      (λ p hands hands' made sound weigh. by-inode p hands hands' made sound weigh) s
