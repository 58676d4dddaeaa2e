-- A volume in which a stripe is written over within a file: all stays sound.
use Rattle.std.proofs.Common.{◌≡◌, ℕ, ◌+◌, ◌<◌, ◌≤◌, ◌==◌, Bool, true, false, List, length, Option, Some, None, refl, sym, ◌∙◌, subst, arith}
use Rattle.std.proofs.lemmas.Bool.{eqb-true}
use Rattle.std.specs.Option.{option_map}
use Rattle.std.specs.FinMap.{get}
use Rattle.nfs_model.specs.Types.{Moment}
use Rattle.nfs_model.specs.Parts.{Hand}
use Rattle.nfs_model.specs.Server.{block_size}
use Rattle.depot_rule.specs.Sums.{total}
use Rattle.nfs_model.specs.volume.Stripes.{Block, StripeValue, byte_written, block_mapped, overwritten}
use Rattle.filer_state.specs.state.Contents.{VolumeContents}
use Rattle.filer_state.specs.state.Tree.{stripe_at}
use Rattle.filer_state.specs.state.Names.{size_of}
use Rattle.filer_state.specs.state.WellFormed.{StripeFits, BlockFits}
use Rattle.filer_state.specs.state.Partition.{times_in_hand}
use Rattle.filer_state.specs.state.Sound.{IsSound}
use Rattle.filer_state.specs.state.Lenses.{stripe_lens}
use Rattle.filer_state.specs.laws.lemmas.Parts.{stripe-sound}
use Rattle.filer_state.specs.bytes.lemmas.Overwritten.{block-other, block-here, block-long, block-zeros, filled-same, shown-same, owner-same, times-same, len-same}

module _ (p : VolumeContents) (i f offset : ℕ) (written : List ℕ) (moment : Moment) (size : ℕ) (on : i < length p.stripes)
    (is_size : size_of (get p.logical.inodes.inodes f) ≡ Some size) (within : offset + length written ≤ size) where
  abbrev was : StripeValue
  was = stripe_at p.stripes i

  abbrev now : StripeValue
  now = overwritten f offset written moment was

  abbrev HasBlock : ℕ → ℕ → Block → Type 0
  HasBlock q block b = (n : ℕ) × (size_of (get p.logical.inodes.inodes q) ≡ Some n) × BlockFits p.logical.stripes i q block n b

  module _ (fits : StripeFits p.logical i was) where
    -- a block of the file
    fits-here : (block : ℕ) (b : Block) → get now.blocks (f, block) ≡ Some b → HasBlock f block b × (length b.bytes ≡ block_size)
    fits-here block b e = by (get was.blocks (f, block)) refl (sym (block-here f offset written moment was block) ∙ e)
      where
        by : (o : Option Block) → get was.blocks (f, block) ≡ o → option_map (block_mapped (byte_written offset written) block) o ≡ Some b
            → HasBlock f block b × (length b.bytes ≡ block_size)
        by None found is = absurd cc
        by (Some x) found is =
            let same : block_mapped (byte_written offset written) block x ≡ b = cc in
            let fitted = fits.blocks f block x found in
            let sized : fitted.0 ≡ size = (let says = sym fitted.1 ∙ is_size in cc) in
            subst (λ (y : Block). HasBlock f block y × (length y.bytes ≡ block_size)) same (
              (
                fitted.0,
                fitted.1,
                record {
                  lies = fitted.2.lies;
                  starts = fitted.2.starts;
                  zeros = λ at past. block-zeros f offset written moment was fitted.0 block at x (omega (arith, within, sized)) past (fitted.2.zeros at past);
                },
              ),
              block-long f offset written moment was block x,
            )

    fits-block : (q block : ℕ) (b : Block) → get now.blocks (q, block) ≡ Some b → HasBlock q block b × (length b.bytes ≡ block_size)
    fits-block q block b e = by (q == f) refl
      where
        by : (t : Bool) → (q == f) ≡ t → HasBlock q block b × (length b.bytes ≡ block_size)
        by true h =
            let is : q ≡ f = eqb-true q f h in
            subst (λ (k : ℕ). HasBlock k block b × (length b.bytes ≡ block_size)) (sym is)
            (fits-here block b (subst (λ (k : ℕ). get now.blocks (k, block) ≡ Some b) is e))
        by false h =
            let found : get was.blocks (q, block) ≡ Some b = sym (block-other f offset written moment was q block h) ∙ e in
            (fits.blocks q block b found, fits.long.long (q, block) b found)

    fits-now : StripeFits p.logical i now
    fits-now = record {
      verifier = fits.verifier;
      stripes = fits.stripes;
      largest = fits.largest;
      cards = λ q. shown-same f offset written moment was q ∙ fits.cards q;
      owners = λ q. owner-same f offset written moment was q ∙ fits.owners q;
      long = record { long = λ place b e. (fits-block place.0 place.1 b e).1 };
      blocks = λ q block b e. (fits-block q block b e).0;
    }

  pub sound-written : (hands hands' : List Hand) (made : ℕ) → ((n : ℕ) → total (times_in_hand p.number n) hands' ≡ total (times_in_hand p.number n) hands)
      → IsSound p hands made → IsSound ((stripe_lens i).put now p) hands' (made + 1)
  sound-written hands hands' made weigh sound =
      stripe-sound p i now on (fits-now (sound.well_formed.stripes i on)) (len-same f offset written moment was)
      (times-same f offset written moment was) (filled-same f offset written moment was) hands hands' made sound weigh
