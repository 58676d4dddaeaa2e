-- All stays sound where one range or one stripe changes so that it fits, and no number comes or goes but by hands.
use Rattle.std.proofs.Common.{◌≡◌, ◌≢◌, ℕ, zero, suc, ◌+◌, ◌*◌, ◌<◌, Bool, List, [], ◌∷◌, length, refl, sym, ap, ◌∙◌, subst, arith, ⊎_elim, nat_lt}
use Rattle.std.specs.Prelude.{slice_set, slice_index_or, if◌then◌else◌}
use Rattle.std.proofs.lemmas.Bool.{cases_eq}
use Rattle.std.proofs.lemmas.List.{length-set, get_or-set_same, get_or-set_other}
use Rattle.std.specs.List.{range_with_len}
use Rattle.std.specs.FinMap.{len}
use Rattle.std.specs.FinSet as sets
use Rattle.std.specs.FinSet.{contains}
use Rattle.nfs_model.specs.Parts.{Hand, one_if}
use Rattle.depot_rule.specs.Sums.{total}
use Rattle.nfs_model.specs.volume.Ranges.{RangeValue}
use Rattle.nfs_model.specs.volume.Stripes.{StripeValue, is_filled, stripe_of}
use Rattle.filer_state.specs.state.Contents.{VolumeContents}
use Rattle.filer_state.specs.state.Parcels.{no_range, no_stripe}
use Rattle.filer_state.specs.state.Tree.{stripe_at, home_stripe, file_filled, most_file_blocks, ranges_used}
use Rattle.filer_state.specs.state.WellFormed.{StripeFits, RangeFits, range_at}
use Rattle.filer_state.specs.state.Partition.{times_in_stripe, times_in_hand}
use Rattle.filer_state.specs.state.Sound.{IsSound}
use Rattle.filer_state.specs.state.Lenses.{stripe_lens, range_lens}

-- a sum with one summand changed
total-put : {A : Type 0} (f : A → ℕ) (xs : List A) (i : ℕ) (d y : A) → i < length xs
    → total f (slice_set xs i y) + f (slice_index_or xs i d) ≡ total f xs + f y
total-put f [] i d y less = absurd (omega arith)
total-put f (x ∷ xs) zero d y less = omega arith
total-put f (x ∷ xs) (suc i) d y less = let rest = total-put f xs i d y (omega arith) in omega arith

-- ---- a range

pub used-put : (ranges : List RangeValue) (r : ℕ) (x : RangeValue) → x.is_used ≡ (range_at ranges r).is_used
    → ranges_used (slice_set ranges r x) ≡ ranges_used ranges
used-put [] r x e = refl
used-put (y ∷ ranges) zero x e = ap (λ (b : Bool). (if b then 1 else 0) + ranges_used ranges) e
used-put (y ∷ ranges) (suc r) x e = ap (λ (n : ℕ). (if y.is_used then 1 else 0) + n) (used-put ranges r x e)

module _ (p : VolumeContents) (r : ℕ) (x : RangeValue) (on : r < length p.ranges)
    (fits : RangeFits p.logical.dead.range_blocks (ranges_used p.ranges) r x) where
  -- where what comes into the range leaves hands, and the other way round
  pub range-sound : (hands hands' : List Hand) (made : ℕ) → IsSound p hands made
      → ((n : ℕ) → one_if (contains x.free n) + total (times_in_hand p.number n) hands'
      ≡ one_if (contains (range_at p.ranges r).free n) + total (times_in_hand p.number n) hands)
      → IsSound ((range_lens r).put x p) hands' (made + 1)
  range-sound hands hands' made sound moves =
      let well = sound.well_formed in
      let used : ranges_used (slice_set p.ranges r x) ≡ ranges_used p.ranges =
      used-put p.ranges r x (fits.in_use ∙ sym (well.ranges r on).in_use) in
      record {
        well_formed = record {
          striped = well.striped;
          largest = well.largest;
          most_inodes = well.most_inodes;
          size = well.size;
          logical = well.logical;
          as_many = well.as_many;
          stripes = well.stripes;
          used = well.used;
          filled = well.filled;
          sixteen = length-set p.ranges r x ∙ well.sixteen;
          some = (let some = well.some in omega arith);
          ranges = λ i less.
              let long = length-set p.ranges r x in
              subst (λ (u : ℕ). RangeFits p.logical.dead.range_blocks u i (range_at (slice_set p.ranges r x) i)) (sym used) (⊎_elim
              (λ (e : i ≡ r). subst (λ (k : ℕ). RangeFits p.logical.dead.range_blocks (ranges_used p.ranges) k (range_at (slice_set p.ranges r x) k)) (sym e)
              (subst (RangeFits p.logical.dead.range_blocks (ranges_used p.ranges) r) (sym (get_or-set_same p.ranges r x no_range on)) fits))
              (λ (ne : i ≢ r). subst (RangeFits p.logical.dead.range_blocks (ranges_used p.ranges) i)
              (sym (get_or-set_other p.ranges r i x no_range ne)) (well.ranges i (omega arith)))
              (cases_eq i r));
        };
        young = record {
          fileids = (let y = sound.young.fileids in omega arith);
          cookies = λ fileid d e. let y = sound.young.cookies fileid d e in omega arith;
        };
        partition = λ n.
            let once = sound.partition n in
            let put = total-put (λ (y : RangeValue). one_if (contains y.free n)) p.ranges r no_range x on in
            let moved = moves n in
            let below : one_if (nat_lt n (p.logical.dead.range_blocks * ranges_used (slice_set p.ranges r x)))
            ≡ one_if (nat_lt n (p.logical.dead.range_blocks * ranges_used p.ranges)) =
            ap (λ (u : ℕ). one_if (nat_lt n (p.logical.dead.range_blocks * u))) used in
            omega (arith, once, put, moved, below);
      }

-- ---- a stripe

module _ (p : VolumeContents) (i : ℕ) (s : StripeValue) (on : i < length p.stripes) where
  abbrev was : StripeValue
  was = stripe_at p.stripes i

  abbrev stripes : List StripeValue
  stripes = slice_set p.stripes i s

  filled-put : ((fileid block : ℕ) → is_filled s fileid block ≡ is_filled was fileid block) → (fileid : ℕ)
      → file_filled stripes fileid ≡ file_filled p.stripes fileid
  filled-put same fileid = λ j. sets.retain (sets.from_list (range_with_len 0 most_file_blocks)) (λ block. at block j)
    where
      placed : (block k : ℕ) → is_filled (stripe_at stripes k) fileid block ≡ is_filled (stripe_at p.stripes k) fileid block
      placed block k = ⊎_elim
          (λ (e : k ≡ i). ap (λ (m : ℕ). is_filled (stripe_at stripes m) fileid block) e
          ∙ ap (λ (t : StripeValue). is_filled t fileid block) (get_or-set_same p.stripes i s no_stripe on) ∙ same fileid block
          ∙ ap (λ (m : ℕ). is_filled (stripe_at p.stripes m) fileid block) (sym e))
          (λ (ne : k ≢ i). ap (λ (t : StripeValue). is_filled t fileid block) (get_or-set_other p.stripes i k s no_stripe ne))
          (cases_eq k i)

      at : (block : ℕ) → is_filled (home_stripe stripes fileid block) fileid block ≡ is_filled (home_stripe p.stripes fileid block) fileid block
      at block =
          ap (λ (n : ℕ). is_filled (stripe_at stripes (stripe_of n fileid block)) fileid block) (length-set p.stripes i s)
          ∙ placed block (stripe_of (length p.stripes) fileid block)

  -- where the same blocks are there, with the same numbers
  pub stripe-sound : StripeFits p.logical i s → len s.blocks ≡ len was.blocks → ((n : ℕ) → times_in_stripe n s ≡ times_in_stripe n was)
      → ((fileid block : ℕ) → is_filled s fileid block ≡ is_filled was fileid block)
      → (hands hands' : List Hand) (made : ℕ) → IsSound p hands made
      → ((n : ℕ) → total (times_in_hand p.number n) hands' ≡ total (times_in_hand p.number n) hands)
      → IsSound ((stripe_lens i).put s p) hands' (made + 1)
  stripe-sound fits count numbers same hands hands' made sound moves =
      let well = sound.well_formed in
      record {
        well_formed = record {
          striped = well.striped;
          largest = well.largest;
          most_inodes = well.most_inodes;
          size = well.size;
          logical = well.logical;
          as_many = length-set p.stripes i s ∙ well.as_many;
          stripes = λ k less.
              let long = length-set p.stripes i s in ⊎_elim
              (λ (e : k ≡ i). subst (λ (m : ℕ). StripeFits p.logical m (stripe_at stripes m)) (sym e)
              (subst (StripeFits p.logical i) (sym (get_or-set_same p.stripes i s no_stripe on)) fits))
              (λ (ne : k ≢ i). subst (StripeFits p.logical k) (sym (get_or-set_other p.stripes i k s no_stripe ne)) (well.stripes k (omega arith)))
              (cases_eq k i);
          used = (let put = total-put (λ (t : StripeValue). len t.blocks) p.stripes i no_stripe s on in let used = well.used in omega arith);
          filled = λ fileid inode there. well.filled fileid inode there ∙ ap (λ t. sets.len t) (sym (filled-put same fileid));
          sixteen = well.sixteen;
          some = well.some;
          ranges = well.ranges;
        };
        young = record {
          fileids = (let y = sound.young.fileids in omega arith);
          cookies = λ fileid d e. let y = sound.young.cookies fileid d e in omega arith;
        };
        partition = λ n.
            let once = sound.partition n in
            let put = total-put (times_in_stripe n) p.stripes i no_stripe s on in
            let here = numbers n in
            let moved = moves n in
            omega (arith, once, put, here, moved);
      }
