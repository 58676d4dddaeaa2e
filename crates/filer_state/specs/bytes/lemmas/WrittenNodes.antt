-- The volume that is seen after a stripe is written over within a file: the file has the bytes, and its touch is later.
use Rattle.std.proofs.Common.{◌≡◌, ◌≢◌, ℕ, ◌+◌, ◌*◌, ◌/◌, ◌<◌, ◌≤◌, ◌==◌, Bool, true, false, List, length, map, Option, Some, None}
use Rattle.std.proofs.Common.{refl, sym, ap, ◌∙◌, ⊎_elim}
use Rattle.std.specs.Prelude.{if◌then◌else◌}
use Rattle.std.proofs.lemmas.Bool.{eqb-true, cases_lt}
use Rattle.std.specs.List.{range_with_len, list_all}
use Rattle.std.specs.Option.{option_map}
use Rattle.std.specs.Cmp.{nat_cmp_total}
use Rattle.std.specs.FinMap.{get, insert, nat_cmp-IsAntisymmetric}
use Rattle.std.specs.FinSet as sets
use Rattle.std.specs.FinSet.{contains}
use Rattle.nfs_model.specs.Types.{Moment, Ownership}
use Rattle.nfs_model.specs.Server.{Node, File, FileNode, block_size}
use Rattle.nfs_model.specs.Shown.{touched}
use Rattle.nfs_model.specs.Serial.Setattr.{with_node}
use Rattle.nfs_model.specs.Serial.Write.{blocks_met, with_blocks, written_bytes, written_file}
use Rattle.nfs_model.specs.volume.Inodes.{Inode}
use Rattle.nfs_model.specs.volume.Stripes.{OfFile, StripeValue, byte_at, byte_written, is_filled, stripe_of, overwritten}
use Rattle.nfs_model.specs.volume.lemmas.Maps.{get-map_values}
use Rattle.nfs_model.specs.volume.lemmas.Numbered.{get-insert_at, same-answers}
use Rattle.filer_state.specs.state.Contents.{VolumeContents}
use Rattle.filer_state.specs.state.Tree.{stripe_at, file_byte, file_bytes, file_filled, file_touch, most_file_blocks, directory_or_empty, text_or_empty}
use Rattle.filer_state.specs.state.Tree.{node_with, node_by, node_of, volume_of}
use Rattle.filer_state.specs.state.Kinds.{IsFile}
use Rattle.filer_state.specs.state.Lenses.{stripe_lens}
use Rattle.filer_state.specs.state.Calls.{LieIn}
use Rattle.filer_state.specs.bytes.lemmas.Spans.{same-stripe}
use Rattle.filer_state.specs.bytes.lemmas.Patched.{byte-before, byte-past, bytes-written}
use Rattle.filer_state.specs.bytes.lemmas.Touches.{touch-put, touch-same}
use Rattle.filer_state.specs.bytes.lemmas.Overwritten.{byte-here, byte-other, filled-same, touch-here, touch-other}
use Rattle.filer_state.specs.bytes.lemmas.Met.{met-tests, met-passes, filled-already, filled-here}
use Rattle.filer_state.specs.bytes.lemmas.OneStripe.{home-put, home-same}

-- a file as it is seen before
abbrev pub file_before : VolumeContents → ℕ → Inode → ℕ → Option (List ℕ) → FileNode
file_before p f inode size verifier = record {
  attributes = inode.attributes;
  bytes = file_bytes p.stripes f size;
  filled = file_filled p.stripes f;
  touch = file_touch p.stripes f;
  verifier = verifier;
  links = inode.names;
}

module _ (p : VolumeContents) (i f offset : ℕ) (written : List ℕ) (moment : Moment) (on : i < length p.stripes)
    (lies : LieIn (length p.stripes) i f offset (length written)) (small : offset + length written ≤ block_size * most_file_blocks)
    (filled : list_all (is_filled (stripe_at p.stripes i) f) (blocks_met offset (length written)) ≡ true)
    (card_size : ℕ) (card_touch : Option Moment) (card_owner : Ownership)
    (card : get (stripe_at p.stripes i).cards f ≡ Some (OfFile card_size card_touch card_owner)) where
  abbrev was : StripeValue
  was = stripe_at p.stripes i

  abbrev now : StripeValue
  now = overwritten f offset written moment was

  abbrev after : VolumeContents
  after = (stripe_lens i).put now p

  -- ---- bytes

  -- those of other stripes aren't written
  outside : (k old : ℕ) → stripe_of (length p.stripes) f (k / block_size) ≢ i → old ≡ byte_written offset written k old
  outside k old other = ⊎_elim
      (λ (below : k < offset). sym (byte-before offset written k old below))
      (λ (from : offset ≤ k). ⊎_elim
      (λ (less : k < offset + length written). absurd (other (same-stripe (length p.stripes) i f offset (length written) k lies from less)))
      (λ (past : offset + length written ≤ k). sym (byte-past offset written k old past))
      (cases_lt k (offset + length written)))
      (cases_lt k offset)

  pub byte-now : (k : ℕ) → file_byte after.stripes f k ≡ byte_written offset written k (file_byte p.stripes f k)
  byte-now k = home-put p.stripes i now on (λ s. byte_at s f k) (λ s. byte_written offset written k (byte_at s f k)) f (k / block_size)
      (λ e. byte-here f offset written moment was k (met-passes (is_filled was f) offset (length written) k filled))
      (λ ne. outside k (file_byte p.stripes f k) ne)

  bytes-now : (size : ℕ) → offset + length written ≤ size
      → file_bytes after.stripes f size ≡ written_bytes (file_bytes p.stripes f size) offset written
  bytes-now size within = bytes-written (file_byte p.stripes f) (file_byte after.stripes f) offset size written within byte-now

  bytes-kept : (q : ℕ) → (q == f) ≡ false → (k : ℕ) → file_byte after.stripes q k ≡ file_byte p.stripes q k
  bytes-kept q ne k = home-same p.stripes i now on (λ s. byte_at s q k) q (k / block_size) (byte-other f offset written moment was q k ne)

  -- ---- filled blocks

  pub filled-kept : (q : ℕ) → file_filled after.stripes q ≡ file_filled p.stripes q
  filled-kept q = λ j. sets.retain (sets.from_list (range_with_len 0 most_file_blocks)) (λ block.
      home-same p.stripes i now on (λ s. is_filled s q block) q block (filled-same f offset written moment was q block) j)

  filled-now : file_filled after.stripes f ≡ with_blocks (file_filled p.stripes f) (blocks_met offset (length written))
  filled-now = filled-kept f ∙ sym (filled-already (file_filled p.stripes f) (blocks_met offset (length written))
      (met-tests (contains (file_filled p.stripes f)) (is_filled was f) offset (length written)
      (λ b some from below. filled-here p.stripes i f offset (length written) lies small b some from below) ∙ filled))

  -- ---- touches

  pub touch-now : file_touch after.stripes f ≡ Some (touched (file_touch p.stripes f) moment)
  touch-now = touch-put f now moment p.stripes i on (touch-here f offset written moment was card_size card_touch card_owner card)

  touch-kept : (q : ℕ) → (q == f) ≡ false → file_touch after.stripes q ≡ file_touch p.stripes q
  touch-kept q ne = touch-same q now p.stripes i (touch-other f offset written moment was q ne)

  -- ---- nodes

  abbrev seen_now : ℕ → Inode → Node
  seen_now = node_of after.stripes p.logical.directories p.logical.texts

  abbrev seen : ℕ → Inode → Node
  seen = node_of p.stripes p.logical.directories p.logical.texts

  other-node : (q : ℕ) → (q == f) ≡ false → (inode : Inode) → seen_now q inode ≡ seen q inode
  other-node q ne inode = λ j. node_with (λ size. map (λ k. bytes-kept q ne k j) (range_with_len 0 size)) (filled-kept q j) (touch-kept q ne j)
      (directory_or_empty (get p.logical.directories q)) (text_or_empty (get p.logical.texts q)) inode.attributes inode.names inode.kind

  module _ (inode : Inode) (there : get p.logical.inodes.inodes f ≡ Some inode) (size blocks : ℕ) (verifier : Option (List ℕ))
      (is_file : IsFile inode.kind size blocks verifier) (within : offset + length written ≤ size) where
    abbrev node : Node
    node = File (written_file (file_before p f inode size verifier) offset written moment)

    this-node : seen_now f inode ≡ node
    this-node = ap (node_by after.stripes (get p.logical.directories f) (get p.logical.texts f) f inode.attributes inode.names) is_file ∙ (λ j. File (record {
      attributes = inode.attributes;
      bytes = bytes-now size within j;
      filled = filled-now j;
      touch = touch-now j;
      verifier = verifier;
      links = inode.names;
    }))

    nodes-now : (volume_of after).nodes ≡ insert (volume_of p).nodes f node
    nodes-now = same-answers _ _ (λ q.
        get-map_values nat_cmp_total nat_cmp-IsAntisymmetric seen_now p.logical.inodes.inodes q
        ∙ by q (q == f) refl
        ∙ sym (get-insert_at (volume_of p).nodes f node q))
      where
        others : (q : ℕ) → (q == f) ≡ false → (o : Option Inode) → option_map (seen_now q) o ≡ option_map (seen q) o
        others q ne None = refl
        others q ne (Some x) = ap Some (other-node q ne x)

        by : (q : ℕ) (b : Bool) → (q == f) ≡ b
            → option_map (seen_now q) (get p.logical.inodes.inodes q) ≡ (if b then Some node else get (volume_of p).nodes q)
        by q true e =
            ap (λ (k : ℕ). option_map (seen_now k) (get p.logical.inodes.inodes k)) (eqb-true q f e)
            ∙ ap (option_map (seen_now f)) there ∙ ap Some this-node
        by q false e =
            others q e (get p.logical.inodes.inodes q)
            ∙ sym (get-map_values nat_cmp_total nat_cmp-IsAntisymmetric seen p.logical.inodes.inodes q)

    -- the volume after it
    pub volume-written : volume_of after ≡ with_node (volume_of p) f node
    volume-written = λ j. record (volume_of p) { nodes = nodes-now j }
