-- What a sound volume has for a node to be made in it.
use Rattle.std.proofs.Common.{◌≡◌, ℕ, ◌<◌, true, false, List, Option, Some, None, refl, sym, ap, ◌∙◌, subst, arith, ⊎_elim, [], length}
use Rattle.std.proofs.lemmas.Bool.Decides.{nat_tests}
use Rattle.std.specs.Prelude.{is_some, IsSome, IfSome, nat_le}
use Rattle.std.specs.Option.{option_map}
use Rattle.std.specs.FinMap.{get, len}
use Rattle.nfs_model.specs.Parts.{Hand}
use Rattle.nfs_model.specs.Types.{Listed}
use Rattle.depot_rule.specs.Shares.{too_many}
use Rattle.nfs_model.specs.volume.Directories.{DirectoryValue, found, fileid_found}
use Rattle.nfs_model.specs.volume.Inodes.{InodeKind, RegularFile, DirectoryKind, Inode, inodes_of_a_volume, SpecialFile}
use Rattle.nfs_model.specs.volume.Stripes.{Card}
use Rattle.nfs_model.specs.volume.lemmas.Inodes.{next-absent}
use Rattle.inodes.specs.Inode.{inode_value}
use Rattle.filer_state.specs.state.Contents.{VolumeContents}
use Rattle.filer_state.specs.state.Names.{root, size_in, is_directory, parent_directory, subdirectories_in, subdirectories_of, directories_listed, text_length_of}
use Rattle.filer_state.specs.state.WellFormed.{WellFormed, size_shown}
use Rattle.filer_state.specs.state.Sound.{IsSound}
use Rattle.filer_state.specs.state.Lenses.{LogicalSet, logical_lens}
use Rattle.filer_state.specs.state.Promises.{HasVolume}
use Rattle.filer_state.specs.state.Tree.{stripe_at, directory_or_empty}
use Rattle.filer_state.specs.laws.lemmas.Limits.{few-directories}
use Rattle.filer_state.specs.changes.NameAnswers.{entries_of}
use Rattle.filer_state.specs.changes.Making.{is_full_set}
use Rattle.filer_state.specs.changes.Named.{node_at, node_there}
use Rattle.filer_state.specs.changes.lemmas.Named.{entry-there}
use Rattle.service_names.specs.declared.parent.Parent.{Parent}
use Rattle.service_names.specs.Making.{MayMake, naming_in_parent}

shown-some : (o : Option Card) (q : Option Inode) → option_map size_shown o ≡ option_map (λ (i : Inode). size_in i.kind) q → parent_directory q ≡ Some root
    → IsSome o
shown-some None None e h = absurd cc
shown-some None (Some i) e h = absurd cc
shown-some (Some c) q e h = refl

shown-none : (o : Option Card) → option_map size_shown o ≡ None → o ≡ None
shown-none None e = refl
shown-none (Some c) e = absurd cc

entered-by : (o : Option DirectoryValue) → is_some o ≡ true → o ≡ Some (directory_or_empty o)
entered-by None e = absurd cc
entered-by (Some d) e = refl

no-entries : (o : Option DirectoryValue) → is_some o ≡ false → o ≡ None
no-entries None e = refl
no-entries (Some d) e = absurd cc

no-text : (o : Option (List ℕ)) → option_map length o ≡ None → o ≡ None
no-text None e = refl
no-text (Some text) e = absurd cc

not-found : (o : Option Listed) → option_map (λ (e : Listed). e.fileid) o ≡ None → o ≡ None
not-found None e = refl
not-found (Some x) e = absurd cc

-- a node that isn't there has no inode
no-inode : (q : ℕ) (o : Option Inode) → node_there q o ≡ None → o ≡ None
no-inode q None e = refl
no-inode q (Some i) e = absurd cc

-- a name under which no node is has no entry
volume-absent : (p : VolumeContents) → WellFormed p → (d : ℕ) (inode : Inode) (name : List ℕ) → get p.logical.inodes.inodes d ≡ Some inode
    → is_directory (Some inode) ≡ true → node_at (logical_lens.of p) (fileid_found (entries_of p.logical d) name) ≡ None
    → fileid_found (entries_of p.logical d) name ≡ None
volume-absent p well d inode name there as_directory none = by (found (entries_of p.logical d) name) refl none
  where
    entered : get p.logical.directories d ≡ Some (entries_of p.logical d)
    entered = entered-by (get p.logical.directories d) (well.logical.named.as_directories d ∙ ap is_directory there ∙ as_directory)

    by : (o : Option Listed) → found (entries_of p.logical d) name ≡ o
        → node_at (logical_lens.of p) (option_map (λ (e : Listed). e.fileid) o) ≡ None → option_map (λ (e : Listed). e.fileid) o ≡ None
    by None is h = refl
    by (Some e) is h =
        absurd (entry-there p well d name (entries_of p.logical d) entered e is (no-inode e.fileid (get p.logical.inodes.inodes e.fileid) h))

module _ (p : VolumeContents) (hands hands' : List Hand) (made : ℕ) (few : made < too_many) (sound : IsSound p hands made) (w : Parent) (name : List ℕ) where
  abbrev well : WellFormed p
  well = sound.well_formed

  abbrev d : ℕ
  d = w.fileid.0

  abbrev inode : Inode
  inode = inode_value w.inode

  links-by : (k : InodeKind) → inode.kind ≡ k → (e : DirectoryValue) → get p.logical.directories d ≡ Some e → get p.logical.inodes.inodes d ≡ Some inode
      → is_full_set (logical_lens.of p) ≡ false → IfSome (subdirectories_in k) (λ subdirectories. subdirectories < inodes_of_a_volume)
  links-by (RegularFile size filled verifier) is e entered there room = tt
  links-by (SpecialFile special size) is e entered there room = tt
  links-by (DirectoryKind parent subs) is e entered there room =
      let counted : Some subs ≡ Some (directories_listed p.logical.inodes.inodes e.list) =
      sym (ap subdirectories_of there ∙ ap subdirectories_in is) ∙ (well.logical.named.fits d e entered).links in
      let same : subs ≡ directories_listed p.logical.inodes.inodes e.list = cc in
      let most = few-directories p.logical.inodes.inodes p.logical.directories well.logical.named d e entered in
      let left : nat_le p.logical.most_inodes (len p.logical.inodes.inodes) ≡ false = room in
      let bound = well.most_inodes.1 in
      grind (arith, nat_tests, same, most, left, bound)

  volume-may : get p.logical.inodes.inodes d ≡ Some inode → is_directory (Some inode) ≡ true → fileid_found (entries_of p.logical d) name ≡ None
      → is_full_set (logical_lens.of p) ≡ false → MayMake (naming_in_parent w name (logical_lens.of p))
  volume-may there as_directory absent room =
      let entered : get p.logical.directories d ≡ Some (entries_of p.logical d) =
      entered-by (get p.logical.directories d) (well.logical.named.as_directories d ∙ ap is_directory there ∙ as_directory) in
      let many = well.as_many in
      record {
        few = ⊎_elim (λ (e : p.logical.stripes ≡ 8). omega arith) (λ (e : p.logical.stripes ≡ 16). omega arith) well.striped;
        root_there = λ i less.
            shown-some (get (stripe_at p.stripes i).cards root) (get p.logical.inodes.inodes root)
            ((well.stripes i (omega (arith, less, many))).cards root) well.logical.named.root_there;
        fileids = let y = sound.young.fileids in omega (arith, few, y);
        room = let left : nat_le p.logical.most_inodes (len p.logical.inodes.inodes) ≡ false = room in grind (arith, nat_tests, left);
        most = well.most_inodes.1;
        links = links-by inode.kind refl (entries_of p.logical d) entered there room;
        entered = entered;
        cookies = let y = sound.young.cookies d (entries_of p.logical d) entered in omega (arith, few, y);
        absent = not-found (found (entries_of p.logical d) name) absent;
        apart = let below = well.logical.inodes.fileids d inode there in grind (arith, nat_tests, below);
        inodes = well.logical.inodes;
        no_directory = no-entries (get p.logical.directories p.logical.inodes.next)
            (well.logical.named.as_directories p.logical.inodes.next ∙ ap is_directory (next-absent p.logical.inodes well.logical.inodes));
        no_text = no-text (get p.logical.texts p.logical.inodes.next)
            (well.logical.texts p.logical.inodes.next ∙ ap text_length_of (next-absent p.logical.inodes well.logical.inodes));
        no_card = λ i less.
            shown-none (get (stripe_at p.stripes i).cards p.logical.inodes.next)
            ((well.stripes i (omega (arith, less, many))).cards p.logical.inodes.next
            ∙ ap (option_map (λ (x : Inode). size_in x.kind)) (next-absent p.logical.inodes well.logical.inodes));
      }

-- a directory may get a node under a name that it doesn't have, where an inode is left
pub whole-may : (v : ℕ) (set : LogicalSet) → HasVolume v logical_lens [] set → (w : Parent) (name : List ℕ)
    → get set.own.inodes.inodes w.fileid.0 ≡ Some (inode_value w.inode) → is_directory (Some (inode_value w.inode)) ≡ true
    → fileid_found (entries_of set.own w.fileid.0) name ≡ None → is_full_set set ≡ false → MayMake (naming_in_parent w name set)
whole-may v set whole w name =
    subst (λ (s : LogicalSet). get s.own.inodes.inodes w.fileid.0 ≡ Some (inode_value w.inode) → is_directory (Some (inode_value w.inode)) ≡ true
    → fileid_found (entries_of s.own w.fileid.0) name ≡ None → is_full_set s ≡ false → MayMake (naming_in_parent w name s)) whole.4
    (volume-may whole.0 whole.1 whole.2 whole.3 whole.6 whole.8 w name)

pub whole-absent : (v : ℕ) (set : LogicalSet) → HasVolume v logical_lens [] set → (d : ℕ) (inode : Inode) (name : List ℕ)
    → get set.own.inodes.inodes d ≡ Some inode → is_directory (Some inode) ≡ true → node_at set (fileid_found (entries_of set.own d) name) ≡ None
    → fileid_found (entries_of set.own d) name ≡ None
whole-absent v set whole d inode name =
    subst (λ (s : LogicalSet). get s.own.inodes.inodes d ≡ Some inode → is_directory (Some inode) ≡ true
    → node_at s (fileid_found (entries_of s.own d) name) ≡ None → fileid_found (entries_of s.own d) name ≡ None) whole.4
    (volume-absent whole.0 whole.8.well_formed d inode name)
