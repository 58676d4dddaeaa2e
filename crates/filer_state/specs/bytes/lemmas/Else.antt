-- What a volume shows but for one file, where that file's stripes and inode change.
use Rattle.std.proofs.Common.{◌≡◌, ℕ, ◌+◌, ◌≤◌, ◌==◌, Bool, true, false, List, map, Option, Some, None, refl, sym, ap, ◌∙◌}
use Rattle.std.specs.Prelude.{if◌then◌else◌}
use Rattle.std.specs.List.{range_with_len}
use Rattle.std.specs.Option.{option_map}
use Rattle.std.specs.FinMap.{get, insert}
use Rattle.nfs_model.specs.Server.{Node, VolumeState}
use Rattle.nfs_model.specs.Serial.Setattr.{with_node}
use Rattle.nfs_model.specs.volume.Inodes.{Inode}
use Rattle.nfs_model.specs.volume.Stripes.{StripeValue}
use Rattle.nfs_model.specs.volume.lemmas.Inodes.{inode-set-other, next-set}
use Rattle.nfs_model.specs.volume.lemmas.Numbered.{get-insert_at, insert-twice, insert-same, same-answers}
use Rattle.filer_state.specs.state.Contents.{VolumeContents}
use Rattle.filer_state.specs.state.Tree.{directory_or_empty, node_with, node_of, volume_of, text_or_empty}
use Rattle.filer_state.specs.state.Kinds.{IsFile}
use Rattle.filer_state.specs.state.WellFormed.{WellFormed}
use Rattle.filer_state.specs.attributes.lemmas.Getting.{node-at}
use Rattle.filer_state.specs.bytes.lemmas.Refiled.{Refiles, refiled, next_inode, byte-other, filled-other, touch-other}

-- whatever the file is, two volumes are seen alike
abbrev pub SeenAlike : ℕ → VolumeContents → VolumeContents → Type 0
SeenAlike f new old = (x : Node) → with_node (volume_of new) f x ≡ with_node (volume_of old) f x

-- a node put at a file twice
pub put-twice : (v : VolumeState) (f : ℕ) (x y : Node) → with_node (with_node v f x) f y ≡ with_node v f y
put-twice v f x y = λ j. record v { nodes = insert-twice v.nodes f x y j }

-- the node that is there put at a file
pub put-same : (v : VolumeState) (f : ℕ) (x : Node) → get v.nodes f ≡ Some x → v ≡ with_node v f x
put-same v f x there = λ j. record v { nodes = sym (insert-same v.nodes f x there) j }

module _ (p : VolumeContents) (f : ℕ) (inode : Inode) (old_size blocks : ℕ) (verifier : Option (List ℕ)) (size more : ℕ) (stripes : List StripeValue)
    (there : get p.logical.inodes.inodes f ≡ Some inode) (is_file : IsFile inode.kind old_size blocks verifier)
    (well : WellFormed p) (small : size ≤ p.logical.largest) (new : Refiles p f size more stripes) where
  abbrev next : Inode
  next = next_inode inode size (blocks + more) verifier

  abbrev after : VolumeContents
  after = refiled f next stripes p

  abbrev now : ℕ → Inode → Node
  now = node_of after.stripes after.logical.directories after.logical.texts

  abbrev was : ℕ → Inode → Node
  was = node_of p.stripes p.logical.directories p.logical.texts

  other-node : (q : ℕ) → (q == f) ≡ false → (x : Inode) → now q x ≡ was q x
  other-node q ne x = λ j. node_with
      (λ n. map (λ k. byte-other p f inode old_size blocks verifier size more stripes there is_file well small new q ne k j) (range_with_len 0 n))
      (filled-other p f inode old_size blocks verifier size more stripes there is_file well small new q ne j)
      (touch-other p f inode old_size blocks verifier size more stripes there is_file well small new q ne j)
      (directory_or_empty (get p.logical.directories q)) (text_or_empty (get p.logical.texts q)) x.attributes x.names x.kind

  pub seen-alike : SeenAlike f after p
  seen-alike x = λ j. record (volume_of p) { next = next-set p.logical.inodes f next j; nodes = nodes j }
    where
      mapped : (q : ℕ) → (q == f) ≡ false → (o : Option Inode) → option_map (now q) o ≡ option_map (was q) o
      mapped q ne None = refl
      mapped q ne (Some y) = ap Some (other-node q ne y)

      by : (q : ℕ) (b : Bool) → (q == f) ≡ b
          → (if b then Some x else get (volume_of after).nodes q) ≡ (if b then Some x else get (volume_of p).nodes q)
      by q true e = refl
      by q false e =
          node-at after q ∙ ap (option_map (now q)) (inode-set-other p.logical.inodes f next q e)
          ∙ mapped q e (get p.logical.inodes.inodes q) ∙ sym (node-at p q)

      nodes : insert (volume_of after).nodes f x ≡ insert (volume_of p).nodes f x
      nodes = same-answers _ _ (λ q.
          get-insert_at (volume_of after).nodes f x q ∙ by q (q == f) refl ∙ sym (get-insert_at (volume_of p).nodes f x q))
