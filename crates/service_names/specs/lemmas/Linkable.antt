-- What a sound volume has for a node to get one more name.
use Rattle.std.proofs.Common.{◌≡◌, ℕ, ◌<◌, ◌≤◌, ◌==◌, ◌^◌, ◌*◌, Bool, true, false, List, [], Option, Some, None, refl, sym, ap, ◌∙◌, subst, arith}
use Rattle.std.proofs.lemmas.Bool.Decides.{nat_tests}
use Rattle.std.specs.Prelude.{is_some}
use Rattle.std.specs.Option.{option_map}
use Rattle.std.specs.FinMap.{get}
use Rattle.nfs_model.specs.Types.{Listed}
use Rattle.nfs_model.specs.Parts.{most_ranges}
use Rattle.nfs_model.specs.Serial.Links.{most_links}
use Rattle.nfs_model.specs.volume.Directories.{DirectoryValue, found, fileid_found}
use Rattle.nfs_model.specs.volume.Inodes.{Inode}
use Rattle.nfs_model.specs.volume.Ranges.{most_range_blocks}
use Rattle.depot_rule.specs.Shares.{too_many}
use Rattle.inodes.specs.Inode.{inode_value}
use Rattle.filer_state.specs.state.Contents.{VolumeContents}
use Rattle.filer_state.specs.state.Names.{is_directory, parent_in}
use Rattle.filer_state.specs.state.Sound.{IsSound}
use Rattle.filer_state.specs.state.Lenses.{LogicalSet, logical_lens}
use Rattle.filer_state.specs.state.Promises.{HasVolume}
use Rattle.filer_state.specs.changes.NameAnswers.{entries_of}
use Rattle.filer_state.specs.changes.Named.{HeldNode}
use Rattle.service_names.specs.declared.parent.Parent.{Parent}
use Rattle.service_names.specs.Linking.{MayBeLinked}
use Rattle.service_names.specs.Making.{naming_in_parent}
use Rattle.service_names.specs.lemmas.Whole.{whole-few, whole-links}
use Rattle.service_names.specs.lemmas.Nodes.{whole-used, whole-entered}

not-found : (o : Option Listed) → option_map (λ (e : Listed). e.fileid) o ≡ None → o ≡ None
not-found None e = refl
not-found (Some x) e = absurd cc

module _ (v : ℕ) (set : LogicalSet) (whole : HasVolume v logical_lens [] set) where
  -- a directory of a sound volume has room for one more cookie
  whole-cookies : (fileid : ℕ) (d : DirectoryValue) → get set.own.directories fileid ≡ Some d → d.next < 2 ^ 63
  whole-cookies fileid d entered =
      let y = whole.8.young.cookies fileid d (ap (λ (s : LogicalSet). get s.own.directories fileid) whole.4 ∙ entered) in
      let few : whole.3 < too_many = whole.6 in
      omega (arith, few, y)

  -- a node that is no directory may get a name that a directory doesn't have, where it hasn't too many
  pub whole-linkable : (w : Parent) (name : List ℕ) (object : HeldNode) → get set.own.inodes.inodes w.fileid.0 ≡ Some (inode_value w.inode)
      → is_directory (Some (inode_value w.inode)) ≡ true → fileid_found (entries_of set.own w.fileid.0) name ≡ None
      → get set.own.inodes.inodes object.fileid ≡ Some object.inode → parent_in object.inode.kind ≡ None → object.inode.names < most_links
      → MayBeLinked (naming_in_parent w name set) object
  whole-linkable w name object there as_directory absent object_there no_directory few_names =
      let entered = whole-entered v set whole w.fileid.0 (inode_value w.inode) there as_directory in
      record {
        few = whole-few v set whole;
        used = let most = whole-used v set whole in omega (arith, most);
        entered = entered;
        cookies = whole-cookies w.fileid.0 (entries_of set.own w.fileid.0) entered;
        absent = not-found (found (entries_of set.own w.fileid.0) name) absent;
        links = whole-links v set whole w.fileid.0 (inode_value w.inode) there;
        object_links = whole-links v set whole object.fileid object.inode object_there;
        no_directory = no_directory;
        few_names = few_names;
        apart = by (w.fileid.0 == object.fileid) refl;
      }
    where
      by : (b : Bool) → (w.fileid.0 == object.fileid) ≡ b → b ≡ false
      by false e = refl
      by true e =
          let same : w.fileid.0 ≡ object.fileid = grind (arith, nat_tests, e) in
          let one : Some (inode_value w.inode) ≡ Some object.inode = sym there ∙ ap (get set.own.inodes.inodes) same ∙ object_there in
          let no : is_directory (Some object.inode) ≡ false = ap (λ (o : Option ℕ). is_some o) no_directory in
          absurd (let odd : true ≡ false = sym as_directory ∙ ap is_directory one ∙ no in cc)
