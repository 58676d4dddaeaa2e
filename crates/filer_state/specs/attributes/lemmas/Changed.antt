-- An inode set of the same kind, while cards change with it: all stays sound, and the volume has the node with the inode's attributes.
use Rattle.std.proofs.Common.{◌≡◌, ℕ, ◌<◌, ◌≤◌, ◌==◌, Bool, true, false, List, map, length, Option, Some, None, refl, sym, ap, ◌∙◌, subst, arith}
use Rattle.std.specs.Prelude.{if◌then◌else◌, IfSome}
use Rattle.std.proofs.lemmas.List.{length-map}
use Rattle.std.proofs.lemmas.Bool.{eqb-true}
use Rattle.std.specs.Option.{option_map}
use Rattle.std.specs.Ordering.{nat_cmp}
use Rattle.std.specs.FinMap.{FinMap, get, len, insert}
use Rattle.std.specs.FinSet as sets
use Rattle.std.specs.Cmp.{nat_cmp_total}
use Rattle.std.specs.FinMap.{nat_cmp-IsAntisymmetric}
use Rattle.nfs_model.specs.Server.{Attributes, Node}
use Rattle.nfs_model.specs.Parts.{Hand}
use Rattle.nfs_model.specs.volume.Maps.{map_values}
use Rattle.nfs_model.specs.volume.Inodes.{InodeKind, Inode, InodesValue, filled_blocks, inode_of, inode_set}
use Rattle.nfs_model.specs.volume.Stripes.{Card, StripeValue}
use Rattle.nfs_model.specs.volume.lemmas.Inodes.{inode-set-there, inode-set-other, next-set, used-set-same, len-set, set-is}
use Rattle.nfs_model.specs.volume.lemmas.Maps.{get-map_values}
use Rattle.nfs_model.specs.volume.lemmas.Numbered.{get-insert_at, same-answers}
use Rattle.filer_state.specs.state.Contents.{VolumeContents}
use Rattle.filer_state.specs.state.Tree.{stripe_at, file_filled, file_touch, directory_or_empty, node_with, node_by, node_of, text_or_empty}
use Rattle.filer_state.specs.state.Names.{DirectoryMap, TextMap}
use Rattle.filer_state.specs.state.WellFormed.{StripeFits, WellFormed, size_shown, owner_shown, owner_in}
use Rattle.filer_state.specs.state.Partition.{times_in_stripe}
use Rattle.filer_state.specs.state.Sound.{IsSound}
use Rattle.filer_state.specs.state.Lenses.{logical_lens}
use Rattle.filer_state.specs.laws.lemmas.SameBlocks as blocks
use Rattle.filer_state.specs.attributes.lemmas.Kept.{SameKinds, set-kinds, named-same, size-same, shown-same, IsLike, text-same}

abbrev pub CardMap : Type 0
CardMap = FinMap nat_cmp Card

-- a stripe whose cards change
abbrev pub with_cards : (CardMap → CardMap) → StripeValue → StripeValue
with_cards change s = record s { cards = change s.cards }

-- the volume after it
abbrev pub changed_in : ℕ → Inode → (CardMap → CardMap) → VolumeContents → VolumeContents
changed_in f inode change p = logical_lens.put (record {
  own = record p.logical { inodes = inode_set f inode p.logical.inodes };
  stripes = map (with_cards change) p.stripes;
}) p

-- each inode's owner is on its card
abbrev pub OwnersFit : InodesValue → StripeValue → Type 0
OwnersFit v s = (q : ℕ) → option_map owner_shown (get s.cards q) ≡ option_map owner_in (get v.inodes q)

module _ (p : VolumeContents) (f : ℕ) (old inode : Inode) (there : get p.logical.inodes.inodes f ≡ Some old) (same : IsLike inode old)
    (change : CardMap → CardMap)
    (shown : (s : StripeValue) (q : ℕ) → option_map size_shown (get (with_cards change s).cards q) ≡ option_map size_shown (get s.cards q))
    (owned : (s : StripeValue) → OwnersFit p.logical.inodes s → OwnersFit (inode_set f inode p.logical.inodes) (with_cards change s)) where
  abbrev after : VolumeContents
  after = changed_in f inode change p

  kinds : SameKinds (inode_set f inode p.logical.inodes).inodes p.logical.inodes.inodes
  kinds = set-kinds p.logical.inodes f old inode there same

  fits-still : (i : ℕ) (s : StripeValue) → StripeFits p.logical i s → StripeFits after.logical i (with_cards change s)
  fits-still i s fits = record {
    verifier = fits.verifier;
    stripes = fits.stripes;
    largest = fits.largest;
    cards = λ q. shown s q ∙ fits.cards q
        ∙ sym (shown-same (get (inode_set f inode p.logical.inodes).inodes q) (get p.logical.inodes.inodes q) (kinds.kinds q));
    owners = owned s fits.owners;
    long = record { long = fits.long.long };
    blocks = λ fileid block b e.
        let was = fits.blocks fileid block b e in
        (was.0, size-same (get (inode_set f inode p.logical.inodes).inodes fileid) (get p.logical.inodes.inodes fileid) (kinds.kinds fileid) ∙ was.1, was.2);
  }

  filled-stays : (q : ℕ) → file_filled after.stripes q ≡ file_filled p.stripes q
  filled-stays q = blocks.filled-stays (with_cards change) (λ s. refl) p.stripes q

  filled-count : WellFormed p → (q : ℕ) (x : Inode) → get (inode_set f inode p.logical.inodes).inodes q ≡ Some x
      → filled_blocks x.kind ≡ sets.len (file_filled after.stripes q)
  filled-count well q x e = by (q == f) refl ∙ ap sets.len (sym (filled-stays q))
    where
      by : (b : Bool) → (q == f) ≡ b → filled_blocks x.kind ≡ sets.len (file_filled p.stripes q)
      by true h =
          let is : q ≡ f = eqb-true q f h in
          let found : get (inode_set f inode p.logical.inodes).inodes q ≡ Some inode =
          ap (get (inode_set f inode p.logical.inodes).inodes) is ∙ inode-set-there p.logical.inodes f old inode there in
          let value : x ≡ inode = (let s = sym e ∙ found in cc) in
          ap (λ (i : Inode). filled_blocks i.kind) value ∙ ap filled_blocks same.kind ∙ well.filled f old there
          ∙ ap (λ (k : ℕ). sets.len (file_filled p.stripes k)) (sym is)
      by false h = well.filled q x (sym (inode-set-other p.logical.inodes f inode q h) ∙ e)

  well-set : WellFormed p → WellFormed after
  well-set well = record {
    striped = well.striped;
    largest = well.largest;
    most_inodes = well.most_inodes;
    size = well.size;
    logical = record {
      inodes = set-is p.logical.inodes f inode well.logical.inodes;
      few = let size = len-set p.logical.inodes f inode in let few = well.logical.few in omega arith;
      sizes = λ q. subst (λ o. IfSome o (λ size. size ≤ p.logical.largest))
          (sym (size-same (get (inode_set f inode p.logical.inodes).inodes q) (get p.logical.inodes.inodes q) (kinds.kinds q))) (well.logical.sizes q);
      named = named-same (inode_set f inode p.logical.inodes).inodes p.logical.inodes.inodes kinds p.logical.directories well.logical.named;
      texts = λ q. well.logical.texts q ∙ sym (text-same (get (inode_set f inode p.logical.inodes).inodes q) (get p.logical.inodes.inodes q) (kinds.kinds q));
    };
    as_many = length-map p.stripes (with_cards change) ∙ well.as_many;
    stripes = λ i less.
        let long = length-map p.stripes (with_cards change) in
        let on : i < length p.stripes = omega arith in
        subst (StripeFits after.logical i) (sym (blocks.stripe-mapped (with_cards change) p.stripes i on))
        (fits-still i (stripe_at p.stripes i) (well.stripes i on));
    used = used-set-same p.logical.inodes f old inode well.logical.inodes there (ap filled_blocks same.kind) ∙ well.used
        ∙ sym (blocks.total-mapped (with_cards change) (λ (s : StripeValue). len s.blocks) (λ s. refl) p.stripes);
    filled = filled-count well;
    sixteen = well.sixteen;
    some = well.some;
    ranges = well.ranges;
  }

  -- all stays sound
  pub sound-changed : (hands : List Hand) (made : ℕ) → IsSound p hands made → IsSound after hands made
  sound-changed hands made s = record {
    well_formed = well-set s.well_formed;
    young = record {
      fileids = (let next = next-set p.logical.inodes f inode in let y = s.young.fileids in omega arith);
      cookies = s.young.cookies;
    };
    partition = λ n.
        let o = s.partition n in
        let stripes = blocks.total-mapped (with_cards change) (times_in_stripe n) (λ t. refl) p.stripes in
        omega (arith, o, stripes);
  }

-- ---- the nodes, where one of them is renewed with an inode's attributes

module _ (stripes : List StripeValue) (directories : DirectoryMap) (texts : TextMap) (f : ℕ) (change : CardMap → CardMap) (renewed : Attributes → Node → Node)
    (this : (a b : Attributes) (names : ℕ) (kind : InodeKind) → node_by (map (with_cards change) stripes) (get directories f) (get texts f) f a names kind
    ≡ renewed a (node_by stripes (get directories f) (get texts f) f b names kind))
    (touches : (q : ℕ) → (q == f) ≡ false → file_touch (map (with_cards change) stripes) q ≡ file_touch stripes q) where
  abbrev taken : List StripeValue
  taken = map (with_cards change) stripes

  other-node : (q : ℕ) → (q == f) ≡ false → (a : Attributes) (names : ℕ) (kind : InodeKind)
      → node_by taken (get directories q) (get texts q) q a names kind ≡ node_by stripes (get directories q) (get texts q) q a names kind
  other-node q ne a names kind = λ j. node_with
      (λ size. blocks.bytes-stay (with_cards change) (λ s. refl) stripes q size j) (blocks.filled-stays (with_cards change) (λ s. refl) stripes q j)
      (touches q ne j) (directory_or_empty (get directories q)) (text_or_empty (get texts q)) a names kind

  pub nodes-changed : (v : InodesValue) (old inode : Inode) → inode_of v f ≡ Some old → IsLike inode old
      → map_values (node_of taken directories texts) (inode_set f inode v).inodes
      ≡ insert (map_values (node_of stripes directories texts) v.inodes) f (renewed inode.attributes (node_of stripes directories texts f old))
  nodes-changed v old inode there same = same-answers _ _ (λ q.
      get-map_values nat_cmp_total nat_cmp-IsAntisymmetric (node_of taken directories texts) (inode_set f inode v).inodes q
      ∙ by q (q == f) refl
      ∙ sym (get-insert_at (map_values (node_of stripes directories texts) v.inodes) f (renewed inode.attributes (node_of stripes directories texts f old)) q))
    where
      other : (q : ℕ) (o : Option Inode) → (q == f) ≡ false → option_map (node_of taken directories texts q) o ≡ option_map (node_of stripes directories texts q) o
      other q None ne = refl
      other q (Some x) ne = ap Some (other-node q ne x.attributes x.names x.kind)

      by : (q : ℕ) (b : Bool) → (q == f) ≡ b → option_map (node_of taken directories texts q) (get (inode_set f inode v).inodes q)
          ≡ (if b then Some (renewed inode.attributes (node_of stripes directories texts f old)) else get (map_values
          (node_of stripes directories texts) v.inodes) q)
      by q true h =
          ap (λ (k : ℕ). option_map (node_of taken directories texts k) (get (inode_set f inode v).inodes k)) (eqb-true q f h)
          ∙ ap (option_map (node_of taken directories texts f)) (inode-set-there v f old inode there)
          ∙ ap Some (this inode.attributes old.attributes inode.names inode.kind
          ∙ (λ j. renewed inode.attributes (node_by stripes (get directories f) (get texts f) f old.attributes (same.names j) (same.kind j))))
      by q false h =
          ap (option_map (node_of taken directories texts q)) (inode-set-other v f inode q h)
          ∙ other q (get v.inodes q) h
          ∙ sym (get-map_values nat_cmp_total nat_cmp-IsAntisymmetric (node_of stripes directories texts) v.inodes q)
