-- The steps of a RENAME, one after the other, are what it comes to.
use Rattle.std.proofs.Common.{◌≡◌, ℕ, ◌+◌, ◌*◌, ◌≤◌, Bool, true, false, List, length, Option, Some, None, refl, sym, ap, ◌∙◌, subst, arith}
use Rattle.std.specs.Prelude.{nat_le, IfSome, if◌then◌else◌}
use Rattle.std.specs.FinMap.{get, insert, remove}
use Rattle.nfs_model.specs.Parts.{most_ranges}
use Rattle.nfs_model.specs.volume.Ranges.{most_range_blocks}
use Rattle.nfs_model.specs.Server.{Attributes}
use Rattle.nfs_values.specs.Moment.{moment_of}
use Rattle.inodes.specs.Inode.{inode_value, kind_value}
use Rattle.nfs_model.specs.volume.Inodes.{InodeKind, RegularFile, DirectoryKind, SpecialFile, Inode, inode_set, inode_dropped}
use Rattle.nfs_model.specs.volume.Maps.{changed_at}
use Rattle.nfs_model.specs.volume.Directories.{removed}
use Rattle.service_names.specs.NameAnswers.{entries_of}
use Rattle.filer_state.specs.state.Changes.{LogicalAnswer}
use Rattle.filer_state.specs.state.Contents.{each}
use Rattle.filer_state.specs.state.Lenses.{LogicalSet}
use Rattle.filer_state.specs.state.Names.{DirectoryMap}
use Rattle.filer_state.specs.state.Tree.{file_touch}
use Rattle.filer_state.specs.state.Sets.{FilerLogical, stripe_value, placed, logical_set, logical_before, logical_after}
use Rattle.service_names.specs.NodesDropped.{directory_left, without_subdirectories}
use Rattle.service_names.specs.NodesMade.{directories_in}
use Rattle.service_names.specs.NodesMoved.{dated_inode, node_counted, inodes_untied}
use Rattle.service_names.specs.NodesSized.{all_freed, inode_sized}
use Rattle.service_names.specs.NamedChanges.{HeldNode}
use Rattle.service_names.specs.DroppingChanges.{dropping_of, emptying_of, child_emptied, losing_of, last_gone, one_gone}
use Rattle.service_names.specs.RenamingChanges.{inode_or, child_taken, child_hung, set_renamed}
use Rattle.service_names.specs.Changing.{MayBeSet, with_directories}
use Rattle.service.specs.declared.renames.between.Between.{Between}
use Rattle.service.specs.renames.Moving.{with_map, to_of, replaced, entry_put, left_as, out_as, target_out, entry_out, node_in, MayMove}
use Rattle.service.specs.renames.Renaming.{renaming_in, IsWithin, AllWithin}
use Rattle.service.proofs.renames.Emptied.{then-step}
use Rattle.service.proofs.renames.Entered.{first, last, either-way, either-way-none, removed-across}
use Rattle.service.proofs.renames.Few.{within-now, within-left, within-sized, within-set, within-dropped, used-set, used-dropped}

-- ---- what each keeps

pub entry-put : {P : Type 0} (old new : FilerLogical P) (directory : ℕ) (name : List ℕ) (fileid : ℕ)
    → new.own ≡ with_directories (changed_at (replaced name fileid) directory old.own.directories) old.own → new.stripes ≡ old.stripes
    → logical_after old new ≡ entry_put directory name fileid (logical_before old)
entry-put old new directory name fileid own stripes = λ j. record {
  own = own j;
  stripes = each (λ i. stripe_value (placed (stripes j).at i)) 0 old.own.stripes;
}

kept-out : (b : Between) (target : Option HeldNode) (s : LogicalSet) → (target_out b target s).own.stripes ≡ s.own.stripes
kept-out b None s = refl
kept-out b (Some t) s = by (nat_le t.inode.names 1) t.fileid t.inode.attributes t.inode.names t.inode.kind
  where
    by : (c : Bool) (q : ℕ) (a : Attributes) (m : ℕ) (k : InodeKind)
        → (out_as c (to_of b s) (record { fileid = q; inode = record { attributes = a; names = m; kind = k } }) s).own.stripes ≡ s.own.stripes
    by false q a m k = refl
    by true q a m (RegularFile size filled verifier) = refl
    by true q a m (DirectoryKind parent subs) = refl
    by true q a m (SpecialFile special size) = refl

-- a set as it is between two steps
set-at : {P : Type 0} (old mid : FilerLogical P) (t : LogicalSet) → logical_after old mid ≡ t → t.own.stripes ≡ old.own.stripes
    → logical_before mid ≡ t
set-at old mid t first kept =
    let same : mid.own.stripes ≡ old.own.stripes = ap (λ (s : LogicalSet). s.own.stripes) first ∙ kept in
    ap (λ (n : ℕ). logical_set n mid) same ∙ first

sized-put : (directory : ℕ) (name : List ℕ) (fileid : ℕ) (s : LogicalSet) (target : Option HeldNode)
    → IfSome target (λ (t : HeldNode). MayBeSet t.fileid s)
    → IfSome target (λ (t : HeldNode). MayBeSet t.fileid (entry_put directory name fileid s))
sized-put directory name fileid s None may = tt
sized-put directory name fileid s (Some t) may = record { few = may.few; used = may.used; cards = may.cards; numbers = may.numbers }

abbrev most : ℕ
most = most_ranges * most_range_blocks

module _ (b : Between) (s : LogicalSet) (to_within : IsWithin (kind_value b.to.inode.kind)) where
  within-out : (target : Option HeldNode) → IfSome target (λ (t : HeldNode). IsWithin t.inode.kind) → AllWithin s.own.inodes.inodes
      → AllWithin (target_out b target s).own.inodes.inodes
  within-out None w all = all
  within-out (Some t) w all = by (nat_le t.inode.names 1) t.fileid t.inode.attributes t.inode.names t.inode.kind w
    where
      by : (c : Bool) (q : ℕ) (a : Attributes) (m : ℕ) (k : InodeKind) → IsWithin k
          → AllWithin (out_as c (to_of b s) (record { fileid = q; inode = record { attributes = a; names = m; kind = k } }) s).own.inodes.inodes
      by false q a m k w =
          let t : HeldNode = record { fileid = q; inode = record { attributes = a; names = m; kind = k } } in
          within-set q (node_counted (losing_of (to_of b s) t) (file_touch s.stripes q)) (inodes_untied (losing_of (to_of b s) t) s.own.inodes)
          (within-set b.to.fileid.0 (directory_left (dropping_of (to_of b s) t)) s.own.inodes all
          (within-left (directories_in k) (kind_value b.to.inode.kind) to_within)) w
      by true q a m (RegularFile size filled verifier) w =
          let t : HeldNode = record { fileid = q; inode = record { attributes = a; names = m; kind = RegularFile size filled verifier } } in
          let sized = inode_sized (emptying_of t) (length (all_freed q 0 s.stripes)) in
          let left = directory_left (dropping_of (to_of b s) (child_emptied t s)) in
          within-set b.to.fileid.0 left (inode_dropped q (inode_set q sized s.own.inodes))
          (within-dropped q (inode_set q sized s.own.inodes) (within-set q sized s.own.inodes all
          (within-sized 0 (length (all_freed q 0 s.stripes)) (RegularFile size filled verifier) w)))
          (within-left 0 (kind_value b.to.inode.kind) to_within)
      by true q a m (DirectoryKind parent subs) w =
          let t : HeldNode = record { fileid = q; inode = record { attributes = a; names = m; kind = DirectoryKind parent subs } } in
          within-set b.to.fileid.0 (directory_left (dropping_of (to_of b s) t)) (inode_dropped q s.own.inodes)
          (within-dropped q s.own.inodes all) (within-left 1 (kind_value b.to.inode.kind) to_within)
      by true q a m (SpecialFile special size) w =
          let t : HeldNode = record { fileid = q; inode = record { attributes = a; names = m; kind = SpecialFile special size } } in
          within-set b.to.fileid.0 (directory_left (dropping_of (to_of b s) t)) (inode_dropped q s.own.inodes)
          (within-dropped q s.own.inodes all) (within-left 0 (kind_value b.to.inode.kind) to_within)

  used-out : (target : Option HeldNode) → IfSome target (λ (t : HeldNode). IsWithin t.inode.kind)
      → (target_out b target s).own.inodes.used ≤ s.own.inodes.used + (most + most)
  used-out None w = omega arith
  used-out (Some t) w = by (nat_le t.inode.names 1) t.fileid t.inode.attributes t.inode.names t.inode.kind w
    where
      by : (c : Bool) (q : ℕ) (a : Attributes) (m : ℕ) (k : InodeKind) → IsWithin k
          → (out_as c (to_of b s) (record { fileid = q; inode = record { attributes = a; names = m; kind = k } }) s).own.inodes.used
          ≤ s.own.inodes.used + (most + most)
      by false q a m k w =
          let t : HeldNode = record { fileid = q; inode = record { attributes = a; names = m; kind = k } } in
          let left = directory_left (dropping_of (to_of b s) t) in
          let counted = node_counted (losing_of (to_of b s) t) (file_touch s.stripes q) in
          let one = used-set b.to.fileid.0 left s.own.inodes in
          let two = used-set q counted (inodes_untied (losing_of (to_of b s) t) s.own.inodes) in
          let few = w.filled in
          let few_left = (within-left (directories_in k) (kind_value b.to.inode.kind) to_within).filled in
          omega arith
      by true q a m (RegularFile size filled verifier) w =
          let t : HeldNode = record { fileid = q; inode = record { attributes = a; names = m; kind = RegularFile size filled verifier } } in
          let sized = inode_sized (emptying_of t) (length (all_freed q 0 s.stripes)) in
          let left = directory_left (dropping_of (to_of b s) (child_emptied t s)) in
          let one = used-set q sized s.own.inodes in
          let two = used-dropped q (inode_set q sized s.own.inodes) in
          let three = used-set b.to.fileid.0 left (inode_dropped q (inode_set q sized s.own.inodes)) in
          let few = (within-sized 0 (length (all_freed q 0 s.stripes)) (RegularFile size filled verifier) w).filled in
          let few_left = (within-left 0 (kind_value b.to.inode.kind) to_within).filled in
          omega arith
      by true q a m (DirectoryKind parent subs) w =
          let t : HeldNode = record { fileid = q; inode = record { attributes = a; names = m; kind = DirectoryKind parent subs } } in
          let left = directory_left (dropping_of (to_of b s) t) in
          let two = used-dropped q s.own.inodes in
          let three = used-set b.to.fileid.0 left (inode_dropped q s.own.inodes) in
          let few_left = (within-left 1 (kind_value b.to.inode.kind) to_within).filled in
          omega arith
      by true q a m (SpecialFile special size) w =
          let t : HeldNode = record { fileid = q; inode = record { attributes = a; names = m; kind = SpecialFile special size } } in
          let left = directory_left (dropping_of (to_of b s) t) in
          let two = used-dropped q s.own.inodes in
          let three = used-set b.to.fileid.0 left (inode_dropped q s.own.inodes) in
          let few_left = (within-left 0 (kind_value b.to.inode.kind) to_within).filled in
          omega arith

module _ (b : Between) (name : List ℕ) (child : HeldNode) (s : LogicalSet) (from_within : IsWithin (kind_value b.from.inode.kind))
    (all : AllWithin s.own.inodes.inodes) where
  abbrev now : Inode
  now = inode_or (get s.own.inodes.inodes b.from.fileid.0) (inode_value b.from.inode)

  abbrev dated : Inode
  dated = dated_inode (moment_of b.moment) (without_subdirectories (directories_in child.inode.kind) now.kind) now

  dated-within : IsWithin dated.kind
  dated-within =
      within-left (directories_in child.inode.kind) now.kind
      (within-now (get s.own.inodes.inodes b.from.fileid.0) (inode_value b.from.inode) (all b.from.fileid.0) from_within)

  within-entry : AllWithin (entry_out b name child s).own.inodes.inodes
  within-entry = within-set b.from.fileid.0 dated s.own.inodes all dated-within

  used-entry : (entry_out b name child s).own.inodes.used ≤ s.own.inodes.used + most
  used-entry =
      let set = used-set b.from.fileid.0 dated s.own.inodes in
      let few = dated-within.filled in
      omega arith

-- ---- all of them

module _ (b : Between) (from_name to_name : List ℕ) (child : HeldNode) (s : LogicalSet) where
  abbrev f : ℕ
  f = b.from.fileid.0

  abbrev t : ℕ
  t = b.to.fileid.0

  -- the directories are the same in either order
  abbrev first_last : DirectoryMap → Type 0
  first_last m =
      first m f t child.fileid from_name to_name ≡ last f t child.fileid from_name to_name (insert m t (removed to_name (entries_of s.own t)))

  -- what the definition comes to, where the target's name is its last or isn't
  abbrev gone_as : Bool → HeldNode → LogicalAnswer
  gone_as c target =
      if c then last_gone (renaming_in b from_name to_name s).to target target.inode.kind else one_gone (renaming_in b from_name to_name s).to target

  abbrev renamed_as : Bool → HeldNode → LogicalSet
  renamed_as c target =
      let r = renaming_in b from_name to_name s in
      child_hung r.to child (child_taken r.from child (gone_as c target).set)

  all-moved : (target : Option HeldNode) → MayMove b from_name to_name target s
      → node_in b child (entry_out b from_name child (target_out b target (entry_put t to_name child.fileid s)))
      ≡ set_renamed (renaming_in b from_name to_name s) child target
  all-moved None may =
      ap (λ (m : DirectoryMap). with_map m (set_renamed (renaming_in b from_name to_name s) child None))
      (either-way-none s.own.directories f t child.fileid from_name to_name (entries_of s.own f) (entries_of s.own t)
      may.from_entered may.to_entered may.apart (may.absent refl))
  all-moved (Some target) may =
      by (nat_le target.inode.names 1) target.fileid target.inode.attributes target.inode.names target.inode.kind may.from_stays may.to_stays
    where
      either : first_last s.own.directories
      either =
          either-way s.own.directories f t child.fileid from_name to_name (entries_of s.own f) (entries_of s.own t)
          may.from_entered may.to_entered may.apart

      by : (c : Bool) (q : ℕ) (a : Attributes) (m : ℕ) (k : InodeKind)
          → get (left_as c k q s.own.directories) f ≡ Some (entries_of s.own f) → get (left_as c k q s.own.directories) t ≡ Some (entries_of s.own t)
          → node_in b child (entry_out b from_name child
          (out_as c (to_of b (entry_put t to_name child.fileid s)) (record { fileid = q; inode = record { attributes = a; names = m; kind = k } })
          (entry_put t to_name child.fileid s)))
          ≡ renamed_as c (record { fileid = q; inode = record { attributes = a; names = m; kind = k } })
      by false q a m k from_stays to_stays =
          ap (λ (d : DirectoryMap). with_map d (renamed_as false (record { fileid = q; inode = record { attributes = a; names = m; kind = k } }))) either
      by true q a m (RegularFile size filled verifier) from_stays to_stays =
          ap (λ (d : DirectoryMap). with_map d (renamed_as true (record {
            fileid = q;
            inode = record { attributes = a; names = m; kind = RegularFile size filled verifier };
          }))) either
      by true q a m (SpecialFile special size) from_stays to_stays =
          ap (λ (d : DirectoryMap). with_map d (renamed_as true (record {
            fileid = q;
            inode = record { attributes = a; names = m; kind = SpecialFile special size };
          }))) either
      by true q a m (DirectoryKind parent subs) from_stays to_stays =
          ap (λ (d : DirectoryMap). with_map d (renamed_as true (record {
            fileid = q;
            inode = record { attributes = a; names = m; kind = DirectoryKind parent subs };
          })))
          (ap (changed_at (removed from_name) f)
          (removed-across s.own.directories q t (replaced to_name child.fileid) (entries_of s.own t) may.to_entered to_stays)
          ∙ either-way (remove s.own.directories q) f t child.fileid from_name to_name (entries_of s.own f) (entries_of s.own t)
          from_stays to_stays may.apart)

  module _ {P : Type 0} (one two : FilerLogical P) (target : Option HeldNode) (is : logical_before one ≡ s)
      (put : logical_after one two ≡ entry_put t to_name child.fileid (logical_before one)) where
    kept-put : (entry_put t to_name child.fileid s).own.stripes ≡ one.own.stripes
    kept-put = sym (ap (λ (x : LogicalSet). x.own.stripes) is)

    abbrev put_set : LogicalSet
    put_set = entry_put t to_name child.fileid s

    abbrev out_set : LogicalSet
    out_set = target_out b target put_set

    put-is : logical_after one two ≡ put_set
    put-is = put ∙ ap (entry_put t to_name child.fileid) is

    set-two : logical_before two ≡ put_set
    set-two = set-at one two put_set put-is kept-put

    pub sized-then : MayMove b from_name to_name target s → IfSome target (λ (x : HeldNode). MayBeSet x.fileid (logical_before two))
    sized-then may =
        subst (λ (x : LogicalSet). IfSome target (λ (y : HeldNode). MayBeSet y.fileid x)) (sym set-two)
        (sized-put t to_name child.fileid s target may.sized)

    module _ (three : FilerLogical P) (out : logical_after two three ≡ target_out b target (logical_before two)) where
      out-is : logical_after one three ≡ out_set
      out-is = then-step one two three put_set (target_out b target) put-is kept-put out

      set-three : logical_before three ≡ out_set
      set-three = set-at one three out_set out-is (kept-out b target put_set ∙ kept-put)

      pub used-then : MayMove b from_name to_name target s → three.own.inodes.used ≤ most + (most + most)
      used-then may =
          let used = may.used in
          let more = used-out b put_set may.to_within target may.target_within in
          let same = ap (λ (x : LogicalSet). x.own.inodes.used) set-three in
          omega arith

      module _ (four : FilerLogical P) (left : logical_after three four ≡ entry_out b from_name child (logical_before three)) where
        left-is : logical_after one four ≡ entry_out b from_name child out_set
        left-is = then-step one three four out_set (entry_out b from_name child) out-is (kept-out b target put_set ∙ kept-put) left

        set-four : logical_before four ≡ entry_out b from_name child out_set
        set-four = set-at one four (entry_out b from_name child out_set) left-is (kept-out b target put_set ∙ kept-put)

        pub within-last : MayMove b from_name to_name target s → AllWithin four.own.inodes.inodes
        within-last may =
            subst (λ (x : LogicalSet). AllWithin x.own.inodes.inodes) (sym set-four)
            (within-entry b from_name child out_set may.from_within (within-out b put_set may.to_within target may.target_within may.within))

        pub used-last : MayMove b from_name to_name target s → four.own.inodes.used ≤ most + (most + (most + most))
        used-last may =
            let used = may.used in
            let more = used-out b put_set may.to_within target may.target_within in
            let then_more =
            used-entry b from_name child out_set may.from_within (within-out b put_set may.to_within target may.target_within may.within) in
            let same = ap (λ (x : LogicalSet). x.own.inodes.used) set-four in
            omega arith

        pub moved-is : (five : FilerLogical P) → logical_after four five ≡ node_in b child (logical_before four) → MayMove b from_name to_name target s
            → logical_after one five ≡ set_renamed (renaming_in b from_name to_name s) child target
        moved-is five hung may =
            then-step one four five (entry_out b from_name child out_set) (node_in b child) left-is (kept-out b target put_set ∙ kept-put) hung
            ∙ all-moved target may
