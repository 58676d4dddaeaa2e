-- Bytes that were written under Logical or under Volume, and then a mode without set-id bits.
use Rattle.std.proofs.Common.{◌≡◌, ℕ, Bool, true, List, [], ◌∷◌, ◌++◌, Option, Some, None, refl, sym, ap, ◌∙◌, subst}
use Rattle.std.specs.Prelude.{if◌then◌else◌}
use Rattle.std.specs.Option.{option_map}
use Rattle.std.specs.FinMap.{get}
use Rattle.std.specs.FinSet.{from_list}
use Rattle.nfs_model.specs.Types.{Ownership}
use Rattle.nfs_model.specs.Tree.{Affinity}
use Rattle.nfs_model.specs.Server.{Attributes, FileNode, Node, File, Directory, Special, VolumeState, used}
use Rattle.nfs_model.specs.Parts.{Hand}
use Rattle.nfs_model.specs.Serial.Rights.{ownership_of, without_set_ids}
use Rattle.nfs_model.specs.Serial.Setattr.{with_node}
use Rattle.nfs_model.specs.Serial.Write.{Writing, bytes_kept, written_file, file_taken, clears_set_ids}
use Rattle.nfs_model.specs.volume.Inodes.{InodeKind, RegularFile, Inode}
use Rattle.nfs_model.specs.volume.Stripes.{StripeValue}
use Rattle.nfs_model.specs.volume.lemmas.Inodes.{used-set-same}
use Rattle.nfs_model.specs.volume.lemmas.Numbered.{get-insert_at, insert-twice, itself}
use Rattle.filer_state.specs.state.Contents.{VolumeContents}
use Rattle.filer_state.specs.state.Tree.{node_by, node_of, volume_of}
use Rattle.filer_state.specs.state.WellFormed.{owner_by}
use Rattle.filer_state.specs.state.Partition.{numbers_in, all_numbers, parts_of}
use Rattle.filer_state.specs.state.Sound.{IsSound}
use Rattle.filer_state.specs.state.Lenses.{logical_lens}
use Rattle.filer_state.specs.state.Changes.{stripes_owned, with_mode, mode_put_on}
use Rattle.filer_state.specs.laws.lemmas.Counted.{used-is}
use Rattle.filer_state.specs.attributes.lemmas.Getting.{node-at}
use Rattle.filer_state.specs.attributes.lemmas.Owned.{owned_in, sound-owned, volume-owned, with_owner}
use Rattle.filer_state.specs.bytes.Permitted.{owner_at, clears_owned, set_ids_ended}
use Rattle.filer_state.specs.bytes.lemmas.WrittenNodes.{file_before}
use Rattle.filer_state.specs.bytes.lemmas.Checks.{SomeBytes}

-- the volume after it
abbrev pub ended_in : Option Ownership → ℕ → VolumeContents → VolumeContents
ended_in owner f q = logical_lens.put (set_ids_ended owner f (logical_lens.of q)) q

numbers-stay : (f : ℕ) (owner : Ownership) (stripes : List StripeValue) → all_numbers (stripes_owned f owner stripes) ≡ all_numbers stripes
numbers-stay f owner [] = refl
numbers-stay f owner (s ∷ stripes) = ap (λ ns. numbers_in s ++ ns) (numbers-stay f owner stripes)

-- the attributes of a node are its inode's
abbrev stored_in : Node → Attributes
stored_in (File g) = g.attributes
stored_in (Directory d) = d.attributes
stored_in (Special s) = s.attributes

-- an inode that is there, and its node
record Next (q : VolumeContents) (f : ℕ) (node : Node) : Type 0 where
  pub inode : Inode
  pub there : get q.logical.inodes.inodes f ≡ Some inode
  pub is : node_of q.stripes q.logical.directories q.logical.texts f inode ≡ node

next-of : (q : VolumeContents) (f : ℕ) (node : Node) → get (volume_of q).nodes f ≡ Some node → Next q f node
next-of q f node seen = by (get q.logical.inodes.inodes f) refl (sym (node-at q f) ∙ seen)
  where
    by : (o : Option Inode) → get q.logical.inodes.inodes f ≡ o → option_map (node_of q.stripes q.logical.directories q.logical.texts f) o ≡ Some node → Next q f node
    by None there e = absurd cc
    by (Some inode) there e =
        let is : node_of q.stripes q.logical.directories q.logical.texts f inode ≡ node = cc in record { inode = inode; there = there; is = is }

module _ (p q : VolumeContents) (f : ℕ) (handle : List ℕ) (w : Writing) (node : Affinity) (bytes : SomeBytes p f handle w node)
    (clears : clears_owned w.caller (owner_at (get p.logical.inodes.inodes f)) ≡ true) (hands : List Hand) (made : ℕ) (sound : IsSound q hands made)
    (left : volume_of q ≡ with_node (volume_of p) f
    (File (written_file (file_before p f bytes.inode bytes.size bytes.verifier) w.offset (bytes_kept w) w.moment))) where
  abbrev file : FileNode
  file = file_before p f bytes.inode bytes.size bytes.verifier

  abbrev now : FileNode
  now = written_file file w.offset (bytes_kept w) w.moment

  abbrev mode : ℕ
  mode = without_set_ids bytes.inode.attributes.mode

  owner-is : owner_at (get p.logical.inodes.inodes f) ≡ Some (ownership_of bytes.inode.attributes)
  owner-is = ap owner_at bytes.there ∙ ap (owner_by bytes.inode.attributes) bytes.is_file

  next : Next q f (File now)
  next =
      next-of q f (File now)
      (ap (λ (v : VolumeState). get v.nodes f) left
      ∙ get-insert_at (volume_of p).nodes f (File now) f
      ∙ ap (λ (b : Bool). if b then Some (File now) else get (volume_of p).nodes f) (itself f))

  attributes : next.inode.attributes ≡ bytes.inode.attributes
  attributes = sym (by next.inode.attributes next.inode.names next.inode.kind) ∙ ap stored_in next.is
    where
      by : (a : Attributes) (names : ℕ) (k : InodeKind)
          → stored_in (node_by q.stripes (get q.logical.directories f) (get q.logical.texts f) f a names k) ≡ a
      by a names (RegularFile size filled verifier) = refl
      by a names k = refl

  abbrev pub ended : VolumeContents
  ended = ended_in (owner_at (get p.logical.inodes.inodes f)) f q

  abbrev put : VolumeContents
  put = owned_in f (with_mode mode next.inode) q

  ended-is : ended ≡ put
  ended-is =
      ap (λ (o : Option Ownership). ended_in o f q) owner-is
      ∙ ap (λ (i : Option Inode). logical_lens.put (mode_put_on i f mode (logical_lens.of q)) q) next.there

  pub sound-ended : IsSound ended hands made
  sound-ended =
      subst (λ (c : VolumeContents). IsSound c hands made) (sym ended-is) (sound-owned q f next.inode (with_mode mode next.inode) next.there (record { kind = refl; names = refl }) hands made sound)

  clears-file : clears_set_ids w.caller file ≡ true
  clears-file = ap (clears_owned w.caller) (sym owner-is) ∙ clears

  pub volume-ended : volume_of ended
      ≡ with_node (volume_of p) f (File (written_file (file_taken w.caller file) w.offset (bytes_kept w) w.moment))
  volume-ended =
      ap volume_of ended-is ∙ volume-owned q f next.inode (with_mode mode next.inode) next.there (record { kind = refl; names = refl })
      ∙ ap (λ (x : Node). with_node (volume_of q) f (with_owner (record next.inode.attributes { mode = mode }) x)) next.is
      ∙ (λ j. with_node (left j) f (File (record now { attributes = record (attributes j) { mode = mode } })))
      ∙ (λ j. record (volume_of p) {
        nodes = insert-twice (volume_of p).nodes f (File now) (File (record now { attributes = record bytes.inode.attributes { mode = mode } })) j;
      })
      ∙ ap (λ (b : Bool). with_node (volume_of p) f
      (File (written_file (if b then record file { attributes = record file.attributes { mode = mode } } else file) w.offset (bytes_kept w) w.moment)))
      (sym clears-file)

  pub used-ended : used (volume_of ended) ≡ used (volume_of q)
  used-ended =
      used-is ended sound-ended.well_formed
      ∙ ap (λ (c : VolumeContents). c.logical.inodes.used) ended-is
      ∙ used-set-same q.logical.inodes f next.inode (with_mode mode next.inode) sound.well_formed.logical.inodes next.there refl
      ∙ sym (used-is q sound.well_formed)

  pub parts-ended : parts_of ended ≡ parts_of q
  parts-ended =
      ap parts_of ended-is
      ∙ (λ j. record (parts_of q) { files = from_list (numbers-stay f (ownership_of (with_mode mode next.inode).attributes) q.stripes j) })
