-- A node made under a name by what is under Logical, beside the serial server.
use Rattle.std.proofs.Common.{◌≡◌, ℕ, ◌+◌, ◌<◌, List, [], ◌∷◌, ◌++◌, map, replicate, None, Option, length}
use Rattle.std.proofs.Common.{refl, sym, ap, ◌∙◌, subst}
use Rattle.std.specs.Prelude.{IfSome}
use Rattle.std.proofs.lemmas.List.{length-replicate}
use Rattle.std.specs.Ordering.{nat_cmp}
use Rattle.std.specs.FinMap.{len}
use Rattle.std.specs.FinSet as sets
use Rattle.std.specs.FinSet.{from_list}
use Rattle.nfs_model.specs.Types.{Moment, Status, MadeDone, Ownership}
use Rattle.nfs_model.specs.Serial.Rights.{ownership_of}
use Rattle.nfs_model.specs.Server.{Directory, VolumeState, handle_bytes, used}
use Rattle.nfs_model.specs.Shown.{shown, before_of}
use Rattle.nfs_model.specs.Locate.{Fails, Naming}
use Rattle.nfs_model.specs.Serial.Create as creating
use Rattle.nfs_model.specs.Serial.Create.{with_child, directory_made}
use Rattle.nfs_model.specs.Parts.{Hand}
use Rattle.nfs_model.specs.Moves.{Stored, PartsChange}
use Rattle.nfs_model.specs.volume.Directories.{empty_directory, added, found}
use Rattle.nfs_model.specs.volume.Inodes.{InodeKind, Inode}
use Rattle.nfs_model.specs.volume.Stripes.{StripeValue}
use Rattle.filer_state.specs.state.Contents.{VolumeContents}
use Rattle.filer_state.specs.state.Tree.{directory_or_empty, volume_of, text_or_empty}
use Rattle.filer_state.specs.state.Partition.{parts_of, stored, numbers_in, all_numbers}
use Rattle.filer_state.specs.state.Sound.{IsSound}
use Rattle.filer_state.specs.state.Lenses.{logical_lens}
use Rattle.filer_state.specs.state.Calls.{VolumeCall}
use Rattle.filer_state.specs.state.Changes.{shown_inode}
use Rattle.filer_state.specs.laws.lemmas.Counted.{used-is}
use Rattle.filer_state.specs.laws.lemmas.InodeKinds.{shown-with, text-told}
use Rattle.filer_state.specs.laws.lemmas.SameBlocks.{total-mapped}
use Rattle.filer_state.specs.laws.lemmas.Steps.{sound-later}
use Rattle.filer_state.specs.names.Answers.{entries_of, directory_node}
use Rattle.filer_state.specs.names.lemmas.DirectoryKinds.{directory-kind-shown}
use Rattle.filer_state.specs.nodes.Making.{Making, directories_in, directory_inode, card_made}
use Rattle.filer_state.specs.nodes.Laws.{WeighAlike, IsNewIn, MayBeMade, new_node}
use Rattle.filer_state.specs.nodes.lemmas.Named as names
use Rattle.filer_state.specs.nodes.lemmas.Made.{made_in, blocks-same, sound-made}
use Rattle.filer_state.specs.nodes.lemmas.MadeNodes.{volume-made}
use Rattle.filer_state.specs.changes.Named.{fails}
use Rattle.filer_state.specs.changes.Making.{making_of, held_made}
use Rattle.filer_state.specs.changes.lemmas.Named.{RightAs, naming_held, naming_seen, IsDirectoryHere, before-shown}
use Rattle.std.specs.Option.{option_map}
use Rattle.filer_state.specs.state.Names.{text_length_in}

-- a call that says nothing where no block moves
abbrev pub SaysNothing : VolumeCall → Type 0
SaysNothing c = (old new : Stored) → used new.volume ≡ used old.volume → new.parts ≡ old.parts → PartsChange c.call c.node old new

-- ---- the new node

-- as it is shown
child-shown : (volume : VolumeState) (f directory largest : ℕ) (child : Inode) (text : Option (List ℕ)) → IsNewIn directory largest child.kind
    → option_map length text ≡ text_length_in child.kind → shown volume f (new_node child text) ≡ shown_inode volume.number f child None
child-shown volume f directory largest child text is_new long = shown-with volume f (λ size. replicate size 0) sets.empty None empty_directory
    (text_or_empty text) child.attributes child.names
    (λ size. length-replicate size 0) child.kind (is_new.blocks ∙ sym (sets.len-empty nat_cmp))
    (λ subs says. sym (subst (λ o. IfSome o (λ n. n ≡ 0)) says is_new.alone)) (text-told text child.kind long)

-- a card moves no block
numbers-stay : (owner : Ownership) (k : InodeKind) (f : ℕ) (stripes : List StripeValue)
    → all_numbers (map (card_made owner k f) stripes) ≡ all_numbers stripes
numbers-stay owner k f [] = refl
numbers-stay owner k f (s ∷ stripes) = λ j. numbers_in (record s { blocks = blocks-same owner k f s j }) ++ numbers-stay owner k f stripes j

module _ (p : VolumeContents) (hands hands' : List Hand) (made : ℕ) (sound : IsSound p hands made) (weigh : WeighAlike p.number hands hands')
    (c : VolumeCall) (says : SaysNothing c) where
  -- a failure
  pub failure-right : (status : Status) → RightAs c p hands' (made + 1) (fails status (logical_lens.of p)) (Fails status)
  failure-right status = (refl, refl, says (stored p) (stored p) refl refl, sound-later p hands hands' made weigh sound)

  module _ (fileid : ℕ) (name : List ℕ) (moment : Moment) (inode : Inode) (parent : ℕ)
      (here : IsDirectoryHere p fileid name moment inode parent) (absent : found (entries_of p.logical fileid) name ≡ None)
      (few : len p.logical.inodes.inodes < p.logical.most_inodes) (child : Inode) (text : Option (List ℕ))
      (one : child.names ≡ 1) (long : option_map length text ≡ text_length_in child.kind) (is_new : IsNewIn fileid p.logical.largest child.kind) where
    abbrev m : Making
    m = making_of (naming_held p fileid name moment inode) child text

    abbrev n : Naming
    n = naming_seen p fileid name moment inode parent

    abbrev f : ℕ
    f = p.logical.inodes.next

    abbrev after : VolumeContents
    after = made_in m p

    may : MayBeMade m p
    may = record { there = here.there; entered = here.entered; absent = absent; few = few; one = one; text = long; is_new = is_new }

    sound-after : IsSound after hands' (made + 1)
    sound-after = sound-made p m sound.well_formed may hands hands' made weigh sound

    volume-after : volume_of after ≡ with_child n (new_node child text)
    volume-after = volume-made p m sound.well_formed may parent here.says

    directory-shown : shown (with_child n (new_node child text)) fileid (directory_made n) ≡ shown_inode p.number fileid (directory_inode m) None
    directory-shown =
        (λ j. shown (sym volume-after j) fileid (Directory (directory_node (directory_inode m) parent (sym entered j))))
        ∙ directory-kind-shown after fileid sound-after.well_formed (directory_inode m) parent
        (names.at-directory p.logical.inodes p.logical.directories m sound.well_formed.logical.inodes here.there)
        (names.parent-kept (directories_in child.kind) inode.kind ∙ here.says)
      where
        entered : entries_of after.logical fileid ≡ added name f (entries_of p.logical fileid)
        entered = ap directory_or_empty (names.directory-entries p.logical.inodes p.logical.directories m sound.well_formed.logical.inodes
            here.there here.entered sound.well_formed.logical.named absent p.logical.largest one is_new)

    parts-stay : parts_of after ≡ parts_of p
    parts-stay = λ j. record (parts_of p) { files = from_list (numbers-stay (ownership_of child.attributes) child.kind f p.stripes j) }

    used-stays : used (volume_of after) ≡ used (volume_of p)
    used-stays =
        used-is after sound-after.well_formed ∙ sound-after.well_formed.used
        ∙ total-mapped (card_made (ownership_of child.attributes) child.kind f) (λ (s : StripeValue). len s.blocks)
        (λ s. ap (λ x. len x) (blocks-same (ownership_of child.attributes) child.kind f s)) p.stripes
        ∙ sym (used-is p sound.well_formed ∙ sound.well_formed.used)

    -- the new node is under the name
    pub made-right : RightAs c p hands' (made + 1) (held_made (naming_held p fileid name moment inode) child text) (creating.made n (new_node child text))
    made-right =
        let object = sym (child-shown (with_child n (new_node child text)) f fileid p.logical.largest child text is_new long) in
        let before = ap before_of (sym (before-shown p fileid name moment sound.well_formed inode parent here)) in
        let later = sym directory-shown in (
          λ j. MadeDone (handle_bytes p.number f) (object j) (record { before = before j; after = later j }),
          volume-after,
          says (stored p) (stored after) used-stays parts-stay,
          sound-after,
        )
