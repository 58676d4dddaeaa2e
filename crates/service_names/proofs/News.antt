-- CREATE, MKDIR, SYMLINK and MKNOD of a name that isn't there, as their checks come out.
use Rattle.std.proofs.Common.{◌≡◌, ℕ, ◌==◌, ◌≤◌, nat_lt, Bool, true, false, List, length, Option, Some, None, ap, refl, sym, ◌∙◌, arith}
use Rattle.std.specs.Prelude.{if◌then◌else◌, is_some}
use Rattle.std.proofs.lemmas.Bool.Decides.{nat_tests}
use Rattle.std.specs.List.{list_any}
use Rattle.nfs_model.specs.Types.{Caller, SetAttributes, Kind, SpecialType, SymbolicLink, Answer, Status, Invalid, TooBig, NoSpace, NameTooLong, NoEntry}
use Rattle.nfs_model.specs.Serial.Symlink.{text_fault, most_text}
use Rattle.nfs_model.specs.Serial.Setattr.{has_bad_time, is_past}
use Rattle.nfs_model.specs.volume.Inodes.{Inode}
use Rattle.filer_state.specs.state.Lenses.{LogicalSet}
use Rattle.filer_state.specs.state.Changes.{LogicalAnswer}
use Rattle.filer_state.specs.changes.Named.{fails, unless_fault, HeldNaming}
use Rattle.filer_state.specs.changes.Making.{held_made, create_check, mkdir_check, is_full_set, maker_in, special_inode, symlink_by, mknod_of, mknod_by}
use Rattle.service_names.specs.Changing.{text_given}
use Rattle.service_names.specs.Making.{Makes, node_by}

-- where nothing hinders, a node is made
pub would-make : (check : Option Status) (n : HeldNaming) (made : Inode) (text : Option (List ℕ)) → check ≡ None
    → Makes (unless_fault check n.set (held_made n made text)).answer
would-make check n made text e = (_, _, _, ap (λ (o : Option Status). (unless_fault o n.set (held_made n made text)).answer) e)

-- and is left as it is to be
pub new-set : (check : Option Status) (n : HeldNaming) (made wanted : Inode) (text : Option (List ℕ)) (new : LogicalSet) → check ≡ None → made ≡ wanted
    → new ≡ (held_made n made text).set → new ≡ (unless_fault check n.set (held_made n wanted text)).set
new-set check n made wanted text new e is told =
    told ∙ ap (λ (i : Inode). (held_made n i text).set) is ∙ sym (ap (λ (o : Option Status). (unless_fault o n.set (held_made n wanted text)).set) e)

module _ (set : SetAttributes) (s : LogicalSet) where
  -- then an inode is left
  pub create-not-full : create_check set s ≡ None → is_full_set s ≡ false
  create-not-full = by (has_bad_time set) (is_past set.size s.own.largest) (is_full_set s)
    where
      by : (a b f : Bool) → (if a then Some Invalid else if b then Some TooBig else if f then Some NoSpace else None) ≡ None → f ≡ false
      by true b f e = absurd cc
      by false true f e = absurd cc
      by false false true e = absurd cc
      by false false false e = refl

  pub mkdir-not-full : mkdir_check set s ≡ None → is_full_set s ≡ false
  mkdir-not-full = by (has_bad_time set) (is_some set.size) (is_full_set s)
    where
      by : (a b f : Bool) → (if a then Some Invalid else if b then Some Invalid else if f then Some NoSpace else None) ≡ None → f ≡ false
      by true b f e = absurd cc
      by false true f e = absurd cc
      by false false true e = absurd cc
      by false false false e = refl

-- ---- SYMLINK

-- a text that passes isn't empty, and isn't too long
pub text-passes : (text : List ℕ) → text_fault text ≡ None → (text_given text ≡ Some text) × (length text ≤ most_text)
text-passes text passes = by (nat_lt most_text (length text)) (length text == 0) refl refl passes
  where
    by : (a b : Bool) → nat_lt most_text (length text) ≡ a → (length text == 0) ≡ b
        → (if a then Some NameTooLong else if b then Some NoEntry else if list_any (λ (x : ℕ). x == 0) text then Some Invalid else None) ≡ None
        → (text_given text ≡ Some text) × (length text ≤ most_text)
    by true b long empty e = absurd cc
    by false true long empty e = absurd cc
    by false false long empty e = (ap (λ (c : Bool). if c then None else Some text) empty, grind (arith, nat_tests, long))

-- where nothing hinders it a symbolic link is made
pub link-made : (n : HeldNaming) (set : SetAttributes) (text : List ℕ) (caller : Caller) → text_fault text ≡ None → mkdir_check set n.set ≡ None
    → symlink_by n set text caller None ≡ held_made n (special_inode SymbolicLink 511 set (length text) (maker_in caller n) n.moment) (text_given text)
link-made n set text caller fits passes =
    (λ j. unless_fault (fits j) n.set (unless_fault (passes j) n.set
    (held_made n (special_inode SymbolicLink 511 set (length text) (maker_in caller n) n.moment) (Some text))))
    ∙ ap (held_made n (special_inode SymbolicLink 511 set (length text) (maker_in caller n) n.moment)) (sym (text-passes text fits).0)

-- or is refused what its text is
pub link-faulty : (n : HeldNaming) (set : SetAttributes) (text : List ℕ) (caller : Caller) (status : Status) → text_fault text ≡ Some status
    → symlink_by n set text caller None ≡ fails status n.set
link-faulty n set text caller status faulty =
    ap (λ (o : Option Status). unless_fault o n.set (unless_fault (mkdir_check set n.set) n.set
    (held_made n (special_inode SymbolicLink 511 set (length text) (maker_in caller n) n.moment) (Some text)))) faulty

-- or is refused what MKDIR is
pub link-hindered : (n : HeldNaming) (set : SetAttributes) (text : List ℕ) (caller : Caller) (status : Status) → text_fault text ≡ None
    → mkdir_check set n.set ≡ Some status → symlink_by n set text caller None ≡ fails status n.set
link-hindered n set text caller status fits hindered =
    (λ j. unless_fault (fits j) n.set (unless_fault (hindered j) n.set
    (held_made n (special_inode SymbolicLink 511 set (length text) (maker_in caller n) n.moment) (Some text))))

-- ---- MKNOD

-- what it makes, where nothing hinders it
pub node-made : (n : HeldNaming) (kind : Kind) (set : SetAttributes) (caller : Caller) (special : SpecialType)
    → mknod_of n kind set caller ≡ node_by n set caller (Some special) → mkdir_check set n.set ≡ None
    → mknod_by n kind set caller None ≡ held_made n (special_inode special 420 set 0 (maker_in caller n) n.moment) None
node-made n kind set caller special is passes =
    is ∙ ap (λ (o : Option Status). unless_fault o n.set (held_made n (special_inode special 420 set 0 (maker_in caller n) n.moment) None)) passes

pub node-hindered : (n : HeldNaming) (kind : Kind) (set : SetAttributes) (caller : Caller) (special : SpecialType) (status : Status)
    → mknod_of n kind set caller ≡ node_by n set caller (Some special) → mkdir_check set n.set ≡ Some status
    → mknod_by n kind set caller None ≡ fails status n.set
node-hindered n kind set caller special status is hindered =
    is ∙ ap (λ (o : Option Status). unless_fault o n.set (held_made n (special_inode special 420 set 0 (maker_in caller n) n.moment) None)) hindered

-- what comes of one of these
pub done-told : (done wanted : LogicalAnswer) → wanted ≡ done → (answer : Answer) → answer ≡ done.answer → answer ≡ wanted.answer
done-told done wanted same answer told = told ∙ sym (ap (λ (r : LogicalAnswer). r.answer) same)

pub done-set : (done wanted : LogicalAnswer) → wanted ≡ done → (set : LogicalSet) → set ≡ done.set → set ≡ wanted.set
done-set done wanted same set told = told ∙ sym (ap (λ (r : LogicalAnswer). r.set) same)

pub done-makes : (n : HeldNaming) (made : Inode) (text : Option (List ℕ)) (wanted : LogicalAnswer) → wanted ≡ held_made n made text → Makes wanted.answer
done-makes n made text wanted same = (_, _, _, ap (λ (r : LogicalAnswer). r.answer) same)
