-- Runs of calls that may be refused.
use Rattle.std.proofs.Common.{◌≡◌, ℕ, Bool, true, false, List, Option, Some, None, cond, refl, sym, ap, ◌∙◌}
use Rattle.nfs_model.specs.Types as types
use Rattle.nfs_model.specs.Types.{Caller, Moment, Status, Failed, Success}
use Rattle.nfs_model.specs.Tree.{Layout, Logical}
use Rattle.nfs_model.specs.Server.{Named, VolumeState}
use Rattle.nfs_model.specs.Locate.{Effect, Fails, unless}
use Rattle.nfs_model.specs.Moves.{PartsChange}
use Rattle.nfs_model.specs.Parts.{Hand}
use Rattle.nfs_model.specs.Serial.Absent.{absent_parts}
use Rattle.nfs_model.specs.Serial.Permission.{refusal}
use Rattle.nfs_model.specs.Work.{Outcome, Replied}
use Rattle.filer_state.specs.state.Contents.{VolumeContents}
use Rattle.filer_state.specs.state.Tree.{volume_of}
use Rattle.filer_state.specs.state.Partition.{stored}
use Rattle.filer_state.specs.state.Lenses.{LogicalSet, logical_lens}
use Rattle.filer_state.specs.state.Running.{RunsOn}
use Rattle.filer_state.specs.state.Calls.{move_on}
use Rattle.filer_state.specs.permissions.Refusing.{refusal_held}
use Rattle.filer_state.specs.permissions.lemmas.Refused.{refused-same}
use Rattle.filer_state.specs.permissions.lemmas.Permitted.{runs-alike, fails-right}
use Rattle.service.specs.Running.{allowed, allowed_named, effect, effect_named, is_asked, other_in}
use Rattle.service.proofs.Remembered.{alike-moved}

module _ (layout : Layout) (named : Named) (caller : Caller) (moment : Moment) (call : types.Call) (old : LogicalSet) where
  abbrev other : ℕ
  other = other_in layout call

  -- what is refused on a volume that has this under Logical
  refused-there : (p : VolumeContents) → logical_lens.of p ≡ old
      → refusal caller call (volume_of p) named.fileid other ≡ refusal_held caller call old named.fileid other
  refused-there p has = refused-same p caller call named.fileid other ∙ ap (λ s. refusal_held caller call s named.fileid other) has

  abbrev does : VolumeState → Effect
  does volume = effect call other caller moment volume named.fileid

  -- a call that is refused fails, and changes nothing
  pub refused-runs : (status : Status) → is_asked call ≡ true
      → ((p : VolumeContents) → move_on (allowed_named layout named caller moment call) p ≡ None)
      → ((p : VolumeContents) → PartsChange call (Logical named.volume) (stored p) (stored p))
      → refusal_held caller call old named.fileid other ≡ Some status
      → RunsOn named.volume logical_lens (allowed_named layout named caller moment call) old
      (Replied (Success (Failed status (absent_parts call)))) old
  refused-runs status asked moves parts is =
      fails-right named.volume logical_lens (allowed_named layout named caller moment call) status old (λ p. refl) parts
      (λ p hands made has numbered sound. moves p)
      (λ p hands made has numbered sound.
      ap (λ (b : Bool). cond b (unless (refusal caller call (volume_of p) named.fileid other) (does (volume_of p))) (does (volume_of p))) asked
      ∙ ap (λ (o : Option Status). unless o (does (volume_of p))) (refused-there p has ∙ is))

  -- one that isn't refused does what it does anyhow
  pub passes-runs : (outcome : Outcome) (new : LogicalSet) → refusal_held caller call old named.fileid other ≡ None
      → RunsOn named.volume logical_lens (effect_named layout named caller moment call) old outcome new
      → RunsOn named.volume logical_lens (allowed_named layout named caller moment call) old outcome new
  passes-runs outcome new none runs =
      runs-alike named.volume logical_lens (effect_named layout named caller moment call) (allowed_named layout named caller moment call) refl refl refl
      old
      (λ p hands made has numbered sound. alike-moved call call caller (Logical named.volume) named.fileid
      (λ volume. allowed call other caller moment volume named.fileid) does p)
      (λ p hands made has numbered sound. by (is_asked call) p has) outcome new runs
    where
      by : (b : Bool) (p : VolumeContents) → logical_lens.of p ≡ old
          → cond b (unless (refusal caller call (volume_of p) named.fileid other) (does (volume_of p))) (does (volume_of p)) ≡ does (volume_of p)
      by true p has = ap (λ (o : Option Status). unless o (does (volume_of p))) (refused-there p has ∙ none)
      by false p has = refl
