-- LOOKUP by what is under Logical.
use Rattle.std.proofs.Common.{◌≡◌, ℕ, Bool, true, false, List, [], Some, None, Option, refl, sym, ap, ◌∙◌}
use Rattle.std.specs.Prelude.{if◌then◌else◌}
use Rattle.std.specs.Option.{option_map}
use Rattle.std.specs.FinMap.{get}
use Rattle.nfs_model.specs.Types.{Moment, Status, Shown, Listed, Success, LookupDone}
use Rattle.nfs_model.specs.Tree.{Affinity}
use Rattle.nfs_model.specs.Server.{DirectoryNode, Node, Directory, VolumeState, handle_bytes}
use Rattle.nfs_model.specs.Shown.{shown}
use Rattle.nfs_model.specs.Names.{same_name, dot, dot_dot, find_name, name_fault}
use Rattle.nfs_model.specs.Locate.{unless, Found, found_at, child, Naming, named_child}
use Rattle.nfs_model.specs.Serial.Lookup.{looked_up, lookup_told}
use Rattle.nfs_model.specs.volume.Inodes.{Inode}
use Rattle.nfs_model.specs.volume.Directories.{fileid_found}
use Rattle.filer_state.specs.state.Contents.{VolumeContents}
use Rattle.filer_state.specs.state.Tree.{volume_of, node_of, file_touch}
use Rattle.filer_state.specs.state.Names.{parent_in}
use Rattle.filer_state.specs.state.WellFormed.{WellFormed}
use Rattle.filer_state.specs.state.Jobs.{Replied}
use Rattle.filer_state.specs.state.Lenses.{LogicalSet, logical_lens}
use Rattle.filer_state.specs.state.Promises.{RightOnVolume}
use Rattle.filer_state.specs.state.Calls.{ServesOn, answer_of, volume_left}
use Rattle.filer_state.specs.state.Changes.{shown_inode}
use Rattle.filer_state.specs.attributes.lemmas.Getting.{node-at, node-shown}
use Rattle.filer_state.specs.names.Answers.{entries_of, fileid_named, object_told, found_told, unless_fault, lookup_answer}
use Rattle.filer_state.specs.names.Laws.{lookup_call}
use Rattle.filer_state.specs.names.lemmas.Telling.{tells-right}
use Rattle.filer_state.specs.names.lemmas.DirectoryKinds.{directory-stays, directory_at, directory-kind-told, directory-kind-shown, same-shown}

told-stays : (volume : VolumeState) (n : Naming) (o : Option Found) → volume ≡ volume_left volume (lookup_told n o)
told-stays volume n None = refl
told-stays volume n (Some found) = refl

name-stays : (volume : VolumeState) (n : Naming) (o : Option Status) → volume ≡ volume_left volume (unless o (lookup_told n (looked_up n)))
name-stays volume n None = told-stays volume n (looked_up n)
name-stays volume n (Some status) = refl

-- a name of a directory
abbrev naming : VolumeState → ℕ → List ℕ → Moment → DirectoryNode → Naming
naming volume fileid name moment d = record { volume = volume; fileid = fileid; directory = d; name = name; moment = moment }

module _ (p : VolumeContents) (well : WellFormed p) (fileid : ℕ) (name : List ℕ) (moment : Moment) where
  module _ (inode : Inode) (parent : ℕ) (there : get p.logical.inodes.inodes fileid ≡ Some inode) (says : parent_in inode.kind ≡ Some parent) where
    abbrev here : Naming
    here = naming (volume_of p) fileid name moment (directory_at p fileid inode parent)

    abbrev own : Shown
    own = shown_inode p.number fileid inode None

    -- a node by its fileid
    object : (q : ℕ) → object_told p.number (logical_lens.of p) own q (get p.logical.inodes.inodes q)
        ≡ answer_of 1 (lookup_told here (found_at q (get (volume_of p).nodes q)))
    object q = by (get p.logical.inodes.inodes q) refl
        ∙ ap (λ (o : Option Node). answer_of 1 (lookup_told here (found_at q o))) (sym (node-at p q))
      where
        by : (o : Option Inode) → get p.logical.inodes.inodes q ≡ o
            → object_told p.number (logical_lens.of p) own q o
            ≡ answer_of 1 (lookup_told here (found_at q (option_map (node_of p.stripes p.logical.directories p.logical.texts q) o)))
        by None e = refl
        by (Some i) e =
            let object : shown_inode p.number q i (file_touch p.stripes q) ≡ shown (volume_of p) q (node_of p.stripes p.logical.directories p.logical.texts q i) =
            sym (node-shown p well q i e) in
            let directory = sym (directory-kind-shown p fileid well inode parent there says) in
            λ j. LookupDone (handle_bytes p.number q) (object j) (directory j)

    entry : (o : Option Listed) → found_told p.number (logical_lens.of p) own (option_map (λ (e : Listed). e.fileid) o)
        ≡ answer_of 1 (lookup_told here (child (volume_of p) o))
    entry None = refl
    entry (Some e) = object e.fileid

    -- `.`, `..` or an entry
    named : found_told p.number (logical_lens.of p) own (fileid_named fileid parent (entries_of p.logical fileid) name)
        ≡ answer_of 1 (lookup_told here (looked_up here))
    named = by (same_name name dot) (same_name name dot_dot)
      where
        self : found_told p.number (logical_lens.of p) own (Some fileid)
            ≡ answer_of 1 (lookup_told here (Some (record { fileid = fileid; node = Directory (directory_at p fileid inode parent) })))
        self =
            let directory = sym (directory-kind-shown p fileid well inode parent there says) in
            let object = same-shown p.number fileid inode parent says (file_touch p.stripes fileid) ∙ directory in
            ap (object_told p.number (logical_lens.of p) own fileid) there
            ∙ (λ j. LookupDone (handle_bytes p.number fileid) (object j) (directory j))

        by : (b c : Bool)
            → found_told p.number (logical_lens.of p) own
            (if b then Some fileid else if c then Some parent else fileid_found (entries_of p.logical fileid) name)
            ≡ answer_of 1 (lookup_told here (if b then Some (record { fileid = fileid; node = Directory (directory_at p fileid inode parent) })
            else if c then found_at parent (get (volume_of p).nodes parent) else named_child here))
        by true c = self
        by false true = object parent
        by false false = entry (find_name name (entries_of p.logical fileid).list)

    checked : (o : Option Status)
        → unless_fault o (found_told p.number (logical_lens.of p) own (fileid_named fileid parent (entries_of p.logical fileid) name))
        ≡ answer_of 1 (unless o (lookup_told here (looked_up here)))
    checked None = named
    checked (Some status) = refl

pub lookup-right : (v fileid : ℕ) (handle name : List ℕ) (node : Affinity) (moment : Moment) (set : LogicalSet)
    → RightOnVolume v logical_lens (ServesOn (lookup_call handle node fileid name moment) false) [] [] set
    (Replied (Success (lookup_answer v fileid name set))) set
lookup-right v fileid handle name node moment =
    tells-right v (lookup_call handle node fileid name moment) (λ n s. lookup_answer n fileid name s) (λ p. refl) (λ p. refl)
    (λ p. directory-stays (volume_of p) (get (volume_of p).nodes fileid) _ (λ d.
    name-stays (volume_of p) (naming (volume_of p) fileid name moment d) (name_fault name)))
    (λ p well. directory-kind-told p fileid _ _ (λ inode parent there says. checked p well fileid name moment inode parent there says (name_fault name)))
