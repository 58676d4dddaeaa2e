-- READ by a stripe and by what is under Logical.
use Rattle.std.proofs.Common.{◌≡◌, ℕ, ◌<◌, min, Bool, false, List, [], ◌∷◌, length, refl, sym, ap, ◌∙◌, subst, arith, inl, inr}
use Rattle.std.specs.Prelude.{IsTrue}
use Rattle.std.specs.FinMap.{get}
use Rattle.std.proofs.lemmas.Bool.{cases_lt}
use Rattle.std.proofs.lemmas.List.{set-get_or, get_or_past}
use Rattle.nfs_model.specs.Types.{Answer, Read, ReadDone, Success}
use Rattle.nfs_model.specs.Tree.{Affinity}
use Rattle.nfs_model.specs.Server.{most_bytes}
use Rattle.nfs_model.specs.Serial.Read.{read}
use Rattle.nfs_model.specs.Serial.Starve.{takes_memory}
use Rattle.nfs_model.specs.Work.{Starved}
use Rattle.nfs_model.specs.volume.Stripes.{StripeValue, bytes_read}
use Rattle.filer_state.specs.state.Parcels.{no_stripe}
use Rattle.filer_state.specs.state.Contents.{VolumeContents}
use Rattle.filer_state.specs.state.Tree.{stripe_at, volume_of}
use Rattle.filer_state.specs.state.WellFormed.{WellFormed}
use Rattle.filer_state.specs.state.Jobs.{Replied}
use Rattle.filer_state.specs.state.Lenses.{Lens, LogicalSet, logical_lens, stripe_lens}
use Rattle.filer_state.specs.state.Promises.{RightOnVolume}
use Rattle.filer_state.specs.state.Calls.{ServesOn, WorksOn, LieIn, answer_of}
use Rattle.filer_state.specs.attributes.lemmas.Getting.{reads-right}
use Rattle.filer_state.specs.bytes.Reading.{read_told, stripe_read, logical_read, bytes_under}
use Rattle.filer_state.specs.bytes.Laws.{read_call}
use Rattle.filer_state.specs.bytes.lemmas.Spans.{bytes-here}
use Rattle.filer_state.specs.bytes.lemmas.Told.{inode-told, card-told, read-stays}

-- ---- READ by any part of a volume that tells its answer

module _ {S : Type 0} (v : ℕ) (lens : Lens VolumeContents S) (handle : List ℕ) (node : Affinity) (fileid offset count : ℕ)
    (back : (p : VolumeContents) → lens.put (lens.of p) p ≡ p) (s : S) (answer : Answer)
    (told : (p : VolumeContents) → WellFormed p → lens.of p ≡ s → answer ≡ answer_of 1 (read offset count (volume_of p) fileid)) where
  part-reads : RightOnVolume v lens (ServesOn (read_call handle node fileid offset count) false) [] [] s (Replied (Success answer)) s
  part-reads =
      reads-right v lens (ServesOn (read_call handle node fileid offset count) false) s (Replied (Success answer)) back
      (λ p hands made numbered has sound.
      ((refl, ap Success (told p sound.well_formed has), read-stays (volume_of p) fileid offset count, refl), λ e. absurd cc))

  -- memory may run out where it gives bytes
  part-starves : (n : ℕ) (eof : Bool) (byte : ℕ) (bytes : List ℕ) → answer ≡ ReadDone n eof (byte ∷ bytes)
      → RightOnVolume v lens (WorksOn (read_call handle node fileid offset count)) [] [] s Starved s
  part-starves n eof byte bytes gives =
      reads-right v lens (WorksOn (read_call handle node fileid offset count)) s Starved back
      (λ p hands made numbered has sound. (
        refl,
        (λ server at. subst (λ (a : Answer). IsTrue (takes_memory server (Read handle offset count) a))
            (sym gives ∙ told p sound.well_formed has) refl),
        refl,
      ))

-- ---- by a stripe

pub stripe-back : (i : ℕ) (p : VolumeContents) → (stripe_lens i).put ((stripe_lens i).of p) p ≡ p
stripe-back i p = λ j. record p { stripes = set-get_or p.stripes i no_stripe j }

-- past the last there is none
pub is-there : (stripes : List StripeValue) (i : ℕ) → i < (stripe_at stripes i).stripes → i < length stripes
is-there stripes i some = elim (cases_lt i (length stripes)) [
  | inl there ↦ there
  | inr past ↦ let none : (stripe_at stripes i).stripes ≡ 0 = ap (λ (s : StripeValue). s.stripes) (get_or_past stripes i no_stripe past)
      in absurd (omega (arith, some, none))
]

module _ (p : VolumeContents) (well : WellFormed p) (i fileid offset count : ℕ) where
  stripe-says : i < (stripe_at p.stripes i).stripes → LieIn (stripe_at p.stripes i).stripes i fileid offset (min count most_bytes)
      → stripe_read fileid offset count (stripe_at p.stripes i) ≡ answer_of 1 (read offset count (volume_of p) fileid)
  stripe-says some lies =
      let fits = well.stripes i (is-there p.stripes i some) in
      let many : (stripe_at p.stripes i).stripes ≡ length p.stripes = fits.stripes ∙ sym well.as_many in
      let lie : LieIn (length p.stripes) i fileid offset (min count most_bytes) =
      subst (λ (n : ℕ). LieIn n i fileid offset (min count most_bytes)) many lies in
      card-told (read_told (bytes_read (stripe_at p.stripes i) fileid offset) offset (min count most_bytes))
      (get (stripe_at p.stripes i).cards fileid) (get p.logical.inodes.inodes fileid) (fits.cards fileid)
      ∙ inode-told p fileid offset count (bytes_read (stripe_at p.stripes i) fileid offset)
      (bytes-here p.stripes i fileid offset (min count most_bytes) lie)

module _ (i fileid offset count : ℕ) (s : StripeValue) (some : i < s.stripes) (lies : LieIn s.stripes i fileid offset (min count most_bytes)) where
  says-here : (p : VolumeContents) → WellFormed p → stripe_at p.stripes i ≡ s
      → stripe_read fileid offset count s ≡ answer_of 1 (read offset count (volume_of p) fileid)
  says-here p well has =
      subst (λ (t : StripeValue). i < t.stripes → LieIn t.stripes i fileid offset (min count most_bytes)
      → stripe_read fileid offset count t ≡ answer_of 1 (read offset count (volume_of p) fileid)) has
      (stripe-says p well i fileid offset count) some lies

pub stripe-reads : (v i fileid offset count : ℕ) (handle : List ℕ) (node : Affinity) (s : StripeValue) → i < s.stripes
    → LieIn s.stripes i fileid offset (min count most_bytes)
    → RightOnVolume v (stripe_lens i) (ServesOn (read_call handle node fileid offset count) false) [] [] s
    (Replied (Success (stripe_read fileid offset count s))) s
stripe-reads v i fileid offset count handle node s some lies =
    part-reads v (stripe_lens i) handle node fileid offset count (stripe-back i) s (stripe_read fileid offset count s)
    (says-here i fileid offset count s some lies)

pub stripe-starves : (v i fileid offset count : ℕ) (handle : List ℕ) (node : Affinity) (s : StripeValue) (n : ℕ) (eof : Bool) (byte : ℕ) (bytes : List ℕ)
    → i < s.stripes → LieIn s.stripes i fileid offset (min count most_bytes)
    → stripe_read fileid offset count s ≡ ReadDone n eof (byte ∷ bytes)
    → RightOnVolume v (stripe_lens i) (WorksOn (read_call handle node fileid offset count)) [] [] s Starved s
stripe-starves v i fileid offset count handle node s n eof byte bytes some lies gives =
    part-starves v (stripe_lens i) handle node fileid offset count (stripe-back i) s (stripe_read fileid offset count s)
    (says-here i fileid offset count s some lies) n eof byte bytes gives

-- ---- by what is under Logical

logical-says : (fileid offset count : ℕ) (s : LogicalSet) (p : VolumeContents) → WellFormed p → logical_lens.of p ≡ s
    → logical_read fileid offset count s ≡ answer_of 1 (read offset count (volume_of p) fileid)
logical-says fileid offset count s p well has =
    ap (logical_read fileid offset count) (sym has)
    ∙ inode-told p fileid offset count (bytes_under p.stripes fileid offset) (λ n fewer. refl)

pub logical-reads : (v fileid offset count : ℕ) (handle : List ℕ) (node : Affinity) (s : LogicalSet)
    → RightOnVolume v logical_lens (ServesOn (read_call handle node fileid offset count) false) [] [] s
    (Replied (Success (logical_read fileid offset count s))) s
logical-reads v fileid offset count handle node s =
    part-reads v logical_lens handle node fileid offset count (λ p. refl) s (logical_read fileid offset count s)
    (logical-says fileid offset count s)

pub logical-starves : (v fileid offset count : ℕ) (handle : List ℕ) (node : Affinity) (s : LogicalSet) (n : ℕ) (eof : Bool) (byte : ℕ) (bytes : List ℕ)
    → logical_read fileid offset count s ≡ ReadDone n eof (byte ∷ bytes)
    → RightOnVolume v logical_lens (WorksOn (read_call handle node fileid offset count)) [] [] s Starved s
logical-starves v fileid offset count handle node s n eof byte bytes gives =
    part-starves v logical_lens handle node fileid offset count (λ p. refl) s (logical_read fileid offset count s)
    (logical-says fileid offset count s) n eof byte bytes gives
