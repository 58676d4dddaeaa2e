-- CREATE and MKDIR by what is under Logical, beside the serial server, where the name isn't there.
use Rattle.std.proofs.Common.{◌≡◌, ℕ, ◌+◌, ◌<◌, ◌≤◌, Bool, true, false, List, Option, Some, None, refl, sym, ap, subst, nat_lt, length, [], ◌==◌}
use Rattle.std.specs.Prelude.{nat_le, is_some, if◌then◌else◌}
use Rattle.std.proofs.lemmas.Bool.Decides.{nat_tests}
use Rattle.std.proofs.Common.{arith}
use Rattle.std.specs.Cmp.{nat_cmp_total}
use Rattle.std.specs.FinMap.{len, nat_cmp-IsAntisymmetric}
use Rattle.nfs_model.specs.Types.{Moment, Caller, SetAttributes, CreateMode, Status, Invalid, TooBig, NoSpace, SpecialType, SymbolicLink, NameTooLong, NoEntry}
use Rattle.nfs_model.specs.Locate.{Effect, Fails, unless, Naming}
use Rattle.nfs_model.specs.Serial.Setattr.{has_bad_time, is_past, given}
use Rattle.nfs_model.specs.Serial.Create as creating
use Rattle.nfs_model.specs.Serial.Create.{is_full, create_fault, new_file, asked_attributes, maker}
use Rattle.nfs_model.specs.Serial.Mkdir.{mkdir_fault, new_directory}
use Rattle.nfs_model.specs.Parts.{Hand}
use Rattle.nfs_model.specs.volume.Directories.{found}
use Rattle.nfs_model.specs.volume.Inodes.{Inode, SpecialFile}
use Rattle.filer_state.specs.state.Contents.{VolumeContents}
use Rattle.filer_state.specs.state.Tree.{node_of, volume_of, text_or_empty}
use Rattle.filer_state.specs.state.Sound.{IsSound}
use Rattle.filer_state.specs.state.Lenses.{logical_lens}
use Rattle.filer_state.specs.state.Calls.{VolumeCall}
use Rattle.filer_state.specs.state.Changes.{LogicalAnswer}
use Rattle.filer_state.specs.laws.lemmas.Mapped.{len-map_values}
use Rattle.filer_state.specs.names.Answers.{entries_of}
use Rattle.filer_state.specs.nodes.Laws.{WeighAlike}
use Rattle.filer_state.specs.changes.Named.{HeldNaming, fails, unless_fault}
use Rattle.filer_state.specs.changes.Making.{maker_in, held_made, is_full_set, create_check, file_inode, mkdir_check, made_directory_inode, special_inode}
use Rattle.filer_state.specs.changes.lemmas.Named.{RightAs, naming_held, naming_seen, IsDirectoryHere}
use Rattle.filer_state.specs.changes.lemmas.Making.{SaysNothing, failure-right, made-right}
use Rattle.nfs_model.specs.Serial.Symlink.{text_fault, most_text, new_special}
use Rattle.filer_state.specs.state.Names.{text_length_in}
use Rattle.std.specs.List.{list_any}
use Rattle.std.specs.Option.{option_map}

-- ---- the checks

-- where no check fails
all-pass : (x y z : Status) (a b c : Bool) → (if a then Some x else if b then Some y else if c then Some z else None) ≡ None
    → (b ≡ false) × (c ≡ false)
all-pass x y z true b c e = absurd cc
all-pass x y z false true c e = absurd cc
all-pass x y z false false true e = absurd cc
all-pass x y z false false false e = (refl, refl)

module _ (p : VolumeContents) where
  full-is : is_full (volume_of p) ≡ is_full_set (logical_lens.of p)
  full-is = ap (nat_le p.logical.most_inodes)
      (len-map_values (node_of p.stripes p.logical.directories p.logical.texts) nat_cmp_total nat_cmp-IsAntisymmetric p.logical.inodes.inodes)

  create-fault : (set : SetAttributes) → create_fault (volume_of p) set ≡ create_check set (logical_lens.of p)
  create-fault set = ap (λ (full : Bool). if has_bad_time set then Some Invalid else if is_past set.size p.logical.largest then Some TooBig
      else if full then Some NoSpace else None) full-is

  mkdir-fault : (set : SetAttributes) → mkdir_fault (volume_of p) set ≡ mkdir_check set (logical_lens.of p)
  mkdir-fault set = ap (λ (full : Bool). if has_bad_time set then Some Invalid else if is_some set.size then Some Invalid
      else if full then Some NoSpace else None) full-is

  few-left : is_full_set (logical_lens.of p) ≡ false → len p.logical.inodes.inodes < p.logical.most_inodes
  few-left h = grind (arith, nat_tests)

small-size : (largest : ℕ) (o : Option ℕ) → is_past o largest ≡ false → given o 0 ≤ largest
small-size largest None h = omega arith
small-size largest (Some n) h = fits h
  where
    fits : nat_lt largest n ≡ false → n ≤ largest
    fits e = grind (arith, nat_tests)

-- ---- the node

module _ (p : VolumeContents) (hands hands' : List Hand) (made : ℕ) (sound : IsSound p hands made) (weigh : WeighAlike p.number hands hands')
    (c : VolumeCall) (says : SaysNothing c)
    (fileid : ℕ) (name : List ℕ) (moment : Moment) (inode : Inode) (parent : ℕ)
    (here : IsDirectoryHere p fileid name moment inode parent) (absent : found (entries_of p.logical fileid) name ≡ None) where
  abbrev h : HeldNaming
  h = naming_held p fileid name moment inode

  abbrev n : Naming
  n = naming_seen p fileid name moment inode parent

  abbrev Right : LogicalAnswer → Effect → Type 0
  Right done effect = RightAs c p hands' (made + 1) done effect

  failure : (status : Status) → Right (fails status (logical_lens.of p)) (Fails status)
  failure status = failure-right p hands hands' made sound weigh c says status

  checked : (done : LogicalAnswer) (effect : Effect) (o : Option Status) → (o ≡ None → Right done effect)
      → Right (unless_fault o (logical_lens.of p) done) (unless o effect)
  checked done effect None right = right refl
  checked done effect (Some status) right = failure status

  -- a new file
  pub file-right : (mode : CreateMode) (caller : Caller)
      → Right (unless_fault (create_check (asked_attributes mode) (logical_lens.of p)) (logical_lens.of p) (held_made h (file_inode mode (maker_in caller h) moment) None))
      (unless (create_fault (volume_of p) (asked_attributes mode)) (creating.made n (new_file mode (maker caller n) moment)))
  file-right mode caller =
      subst (λ (o : Option Status). Right (unless_fault (create_check set (logical_lens.of p)) (logical_lens.of p) done) (unless o effect))
      (sym (create-fault p set))
      (checked done effect (create_check set (logical_lens.of p)) (λ passes.
      let pass = all-pass Invalid TooBig NoSpace (has_bad_time set) (is_past set.size p.logical.largest) (is_full_set (logical_lens.of p)) passes in
      made-right p hands hands' made sound weigh c says fileid name moment inode parent here absent (few-left p pass.1)
      (file_inode mode (maker_in caller h) moment) None refl refl
      (record { blocks = refl; size = small-size p.logical.largest set.size pass.0; parent = tt; alone = tt })))
    where
      set : SetAttributes
      set = asked_attributes mode

      done : LogicalAnswer
      done = held_made h (file_inode mode (maker_in caller h) moment) None

      effect : Effect
      effect = creating.made n (new_file mode (maker caller n) moment)

  -- a new directory
  pub directory-right : (set : SetAttributes) (caller : Caller)
      → Right (unless_fault (mkdir_check set (logical_lens.of p)) (logical_lens.of p) (held_made h (made_directory_inode fileid set (maker_in caller h) moment) None))
      (unless (mkdir_fault (volume_of p) set) (creating.made n (new_directory fileid set (maker caller n) moment)))
  directory-right set caller =
      subst (λ (o : Option Status). Right (unless_fault (mkdir_check set (logical_lens.of p)) (logical_lens.of p) done) (unless o effect))
      (sym (mkdir-fault p set))
      (checked done effect (mkdir_check set (logical_lens.of p)) (λ passes.
      let pass = all-pass Invalid Invalid NoSpace (has_bad_time set) (is_some set.size) (is_full_set (logical_lens.of p)) passes in
      made-right p hands hands' made sound weigh c says fileid name moment inode parent here absent (few-left p pass.1)
      (made_directory_inode fileid set (maker_in caller h) moment) None refl refl
      (record { blocks = refl; size = tt; parent = refl; alone = refl })))
    where
      done : LogicalAnswer
      done = held_made h (made_directory_inode fileid set (maker_in caller h) moment) None

      effect : Effect
      effect = creating.made n (new_directory fileid set (maker caller n) moment)

  -- a new special node, with a text if it is a symbolic link
  special-right : (special : SpecialType) (mode : ℕ) (set : SetAttributes) (text : Option (List ℕ)) (size : ℕ) (caller : Caller)
      → option_map length text ≡ text_length_in (SpecialFile special size)
      → Right (unless_fault (mkdir_check set (logical_lens.of p)) (logical_lens.of p)
      (held_made h (special_inode special mode set size (maker_in caller h) moment) text))
      (unless (mkdir_fault (volume_of p) set) (creating.made n (new_special special mode set (text_or_empty text) (maker caller n) moment)))
  special-right special mode set text size caller long =
      subst (λ (o : Option Status). Right (unless_fault (mkdir_check set (logical_lens.of p)) (logical_lens.of p) done) (unless o effect))
      (sym (mkdir-fault p set))
      (checked done effect (mkdir_check set (logical_lens.of p)) (λ passes.
      let pass = all-pass Invalid Invalid NoSpace (has_bad_time set) (is_some set.size) (is_full_set (logical_lens.of p)) passes in
      made-right p hands hands' made sound weigh c says fileid name moment inode parent here absent (few-left p pass.1)
      (special_inode special mode set size (maker_in caller h) moment) text refl long
      (record { blocks = refl; size = tt; parent = tt; alone = tt })))
    where
      done : LogicalAnswer
      done = held_made h (special_inode special mode set size (maker_in caller h) moment) text

      effect : Effect
      effect = creating.made n (new_special special mode set (text_or_empty text) (maker caller n) moment)

  -- a new symbolic link, where its text passes
  pub link-right : (set : SetAttributes) (text : List ℕ) (caller : Caller)
      → Right (unless_fault (text_fault text) (logical_lens.of p) (unless_fault (mkdir_check set (logical_lens.of p)) (logical_lens.of p)
      (held_made h (special_inode SymbolicLink 511 set (length text) (maker_in caller h) moment) (Some text))))
      (unless (text_fault text) (unless (mkdir_fault (volume_of p) set)
      (creating.made n (new_special SymbolicLink 511 set text (maker caller n) moment))))
  link-right set text caller =
      checked _ _ (text_fault text) (λ passes.
      special-right SymbolicLink 511 set (Some text) (length text) caller
      (ap (λ (b : Bool). if b then None else Some (length text)) (sym (some-text text passes))))
    where
      some-text : (text : List ℕ) → text_fault text ≡ None → (length text == 0) ≡ false
      some-text text passes = by (nat_lt most_text (length text)) (length text == 0) passes
        where
          by : (a b : Bool) → (if a then Some NameTooLong else if b then Some NoEntry else if list_any (λ (x : ℕ). x == 0) text then Some Invalid else None) ≡ None → b ≡ false
          by true b e = absurd cc
          by false true e = absurd cc
          by false false e = refl

  -- a new FIFO, socket or device
  pub bare-right : (special : SpecialType) (set : SetAttributes) (caller : Caller)
      → Right (unless_fault (mkdir_check set (logical_lens.of p)) (logical_lens.of p)
      (held_made h (special_inode special 420 set 0 (maker_in caller h) moment) None))
      (unless (mkdir_fault (volume_of p) set) (creating.made n (new_special special 420 set [] (maker caller n) moment)))
  bare-right special set caller = special-right special 420 set None 0 caller refl
