-- READ and COMMIT of callers that are checked.
use Rattle.std.proofs.Common.{◌≡◌, ℕ, ◌<◌, ◌||◌, false, List, Option, Some, None, refl, sym, ap, ◌∙◌, subst}
use Rattle.std.specs.FinMap.{get}
use Rattle.nfs_model.specs.Types.{Read, Commit, Caller, Ownership, Status, Failed, Success}
use Rattle.nfs_model.specs.Tree.{Affinity}
use Rattle.nfs_model.specs.Locate.{unless}
use Rattle.nfs_model.specs.Serial.Rights.{Protection, may_read, may_write}
use Rattle.nfs_model.specs.Serial.Permission.{needs, of_file, refusal_of}
use Rattle.nfs_model.specs.Serial.Read.{read}
use Rattle.nfs_model.specs.Serial.Commit.{commit}
use Rattle.nfs_model.specs.Work.{Outcome, Replied}
use Rattle.nfs_model.specs.Parts.{Hand}
use Rattle.nfs_model.specs.volume.Stripes.{StripeValue}
use Rattle.filer_state.specs.state.Contents.{VolumeContents}
use Rattle.filer_state.specs.state.Tree.{stripe_at, volume_of}
use Rattle.filer_state.specs.state.Sound.{IsSound}
use Rattle.filer_state.specs.state.Lenses.{Lens, LogicalSet, logical_lens, stripe_lens}
use Rattle.filer_state.specs.state.Calls.{unasked}
use Rattle.filer_state.specs.state.Running.{RunsOn}
use Rattle.filer_state.specs.names.Laws.{commit_call}
use Rattle.filer_state.specs.bytes.Laws.{read_call}
use Rattle.filer_state.specs.bytes.Permitted.{owner_on, owner_at, owner_held, of_owner, read_refused, commit_refused, read_by, commit_by}
use Rattle.filer_state.specs.bytes.lemmas.Callers.{runs-alike, runs-refused, asked-seen, seen-owner, card-owner}
use Rattle.filer_state.specs.bytes.lemmas.Reads.{is-there, stripe-back}

-- what is asked of a file that is seen, by its inode
pub asked-inode : (p : VolumeContents) (f : ℕ) (ask : Protection → Option Status)
    → of_file (get (volume_of p).nodes f) ask ≡ of_owner (owner_at (get p.logical.inodes.inodes f)) ask
asked-inode p f ask = asked-seen (get (volume_of p).nodes f) ask ∙ ap (λ (o : Option Ownership). of_owner o ask) (seen-owner p f)

-- the card of a stripe has the inode's
pub stripe-owner : (i f : ℕ) (p : VolumeContents) (hands : List Hand) (made : ℕ) (s : StripeValue) → i < s.stripes → stripe_at p.stripes i ≡ s
    → IsSound p hands made → owner_on (get s.cards f) ≡ owner_at (get p.logical.inodes.inodes f)
stripe-owner i f p hands made s some has sound =
    ap (λ (t : StripeValue). owner_on (get t.cards f)) (sym has)
    ∙ card-owner (get (stripe_at p.stripes i).cards f) (get p.logical.inodes.inodes f)
    ((sound.well_formed.stripes i (is-there p.stripes i (subst (λ (t : StripeValue). i < t.stripes) (sym has) some))).owners f)

-- ---- READ, by any part that tells who owns the file

module _ {S : Type 0} (v : ℕ) (lens : Lens VolumeContents S) (handle : List ℕ) (node : Affinity) (f offset count : ℕ) (caller : Caller) (s : S)
    (owner : Option Ownership)
    (tells : (p : VolumeContents) (hands : List Hand) (made : ℕ) → lens.of p ≡ s → IsSound p hands made → owner ≡ owner_at (get p.logical.inodes.inodes f)) where
  refused-is : (p : VolumeContents) (hands : List Hand) (made : ℕ) → lens.of p ≡ s → IsSound p hands made
      → refusal_of caller false (of_file (get (volume_of p).nodes f) (λ file. needs (may_read caller.credential file))) ≡ read_refused caller owner
  refused-is p hands made has sound =
      ap (refusal_of caller false) (asked-inode p f (λ file. needs (may_read caller.credential file)))
      ∙ ap (read_refused caller) (sym (tells p hands made has sound))

  read-permitted : (outcome : Outcome) (new : S) → read_refused caller owner ≡ None
      → RunsOn v lens (read_call handle node f offset count) s outcome new → RunsOn v lens (read_by caller handle node f offset count) s outcome new
  read-permitted outcome new permits =
      runs-alike (Read handle offset count) node f unasked caller (λ volume. read offset count volume f) (read_by caller handle node f offset count).run
      v lens s outcome new
      (λ p hands made has sound.
      (refl, ap (λ r. unless r (read offset count (volume_of p) f)) (refused-is p hands made has sound ∙ permits)))

  read-refused : (status : Status) → ((p : VolumeContents) → lens.put (lens.of p) p ≡ p) → read_refused caller owner ≡ Some status
      → RunsOn v lens (read_by caller handle node f offset count) s (Replied (Success (Failed status 1))) s
  read-refused status back refuses =
      runs-refused (Read handle offset count) node f unasked caller (λ volume. read offset count volume f)
      (read_by caller handle node f offset count).run v lens status s back
      (λ p hands made numbered has sound.
      (refl, ap (λ r. unless r (read offset count (volume_of p) f)) (refused-is p hands made has sound ∙ refuses), refl))

module _ (v i f offset count : ℕ) (handle : List ℕ) (node : Affinity) (caller : Caller) (s : StripeValue) (some : i < s.stripes) where
  pub stripe-read-refused : (status : Status) → read_refused caller (owner_on (get s.cards f)) ≡ Some status
      → RunsOn v (stripe_lens i) (read_by caller handle node f offset count) s (Replied (Success (Failed status 1))) s
  stripe-read-refused status refuses =
      read-refused v (stripe_lens i) handle node f offset count caller s (owner_on (get s.cards f))
      (λ p hands made has sound. stripe-owner i f p hands made s some has sound) status (stripe-back i) refuses

  pub stripe-read-permitted : (outcome : Outcome) (new : StripeValue) → read_refused caller (owner_on (get s.cards f)) ≡ None
      → RunsOn v (stripe_lens i) (read_call handle node f offset count) s outcome new
      → RunsOn v (stripe_lens i) (read_by caller handle node f offset count) s outcome new
  stripe-read-permitted outcome new permits =
      read-permitted v (stripe_lens i) handle node f offset count caller s (owner_on (get s.cards f))
      (λ p hands made has sound. stripe-owner i f p hands made s some has sound) outcome new permits

-- what is under Logical tells it
pub logical-owner : (f : ℕ) (p : VolumeContents) (s : LogicalSet) → logical_lens.of p ≡ s → owner_held s f ≡ owner_at (get p.logical.inodes.inodes f)
logical-owner f p s has = ap (λ (t : LogicalSet). owner_held t f) (sym has)

module _ (v f offset count : ℕ) (handle : List ℕ) (node : Affinity) (caller : Caller) (s : LogicalSet) where
  pub logical-read-refused : (status : Status) → read_refused caller (owner_held s f) ≡ Some status
      → RunsOn v logical_lens (read_by caller handle node f offset count) s (Replied (Success (Failed status 1))) s
  logical-read-refused status refuses =
      read-refused v logical_lens handle node f offset count caller s (owner_held s f)
      (λ p hands made has sound. logical-owner f p s has) status (λ p. refl) refuses

  pub logical-read-permitted : (outcome : Outcome) (new : LogicalSet) → read_refused caller (owner_held s f) ≡ None
      → RunsOn v logical_lens (read_call handle node f offset count) s outcome new
      → RunsOn v logical_lens (read_by caller handle node f offset count) s outcome new
  logical-read-permitted outcome new permits =
      read-permitted v logical_lens handle node f offset count caller s (owner_held s f)
      (λ p hands made has sound. logical-owner f p s has) outcome new permits

-- ---- COMMIT

module _ (v f : ℕ) (handle : List ℕ) (node : Affinity) (caller : Caller) (s : LogicalSet) where
  commit-is : (p : VolumeContents) → logical_lens.of p ≡ s
      → refusal_of caller false (of_file (get (volume_of p).nodes f)
      (λ file. needs (may_read caller.credential file || may_write caller.credential file))) ≡ commit_refused caller (owner_held s f)
  commit-is p has =
      ap (refusal_of caller false) (asked-inode p f (λ file. needs (may_read caller.credential file || may_write caller.credential file)))
      ∙ ap (commit_refused caller) (sym (logical-owner f p s has))

  pub commit-refused : (status : Status) → commit_refused caller (owner_held s f) ≡ Some status
      → RunsOn v logical_lens (commit_by caller handle node f) s (Replied (Success (Failed status 2))) s
  commit-refused status refuses =
      runs-refused (Commit handle) node f unasked caller (λ volume. commit volume f) (commit_by caller handle node f).run v logical_lens status s
      (λ p. refl)
      (λ p hands made numbered has sound. (refl, ap (λ r. unless r (commit (volume_of p) f)) (commit-is p has ∙ refuses), refl))

  pub commit-permitted : (outcome : Outcome) (new : LogicalSet) → commit_refused caller (owner_held s f) ≡ None
      → RunsOn v logical_lens (commit_call handle node f) s outcome new → RunsOn v logical_lens (commit_by caller handle node f) s outcome new
  commit-permitted outcome new permits =
      runs-alike (Commit handle) node f unasked caller (λ volume. commit volume f) (commit_by caller handle node f).run v logical_lens s outcome new
      (λ p hands made has sound. (refl, ap (λ r. unless r (commit (volume_of p) f)) (commit-is p has ∙ permits)))
