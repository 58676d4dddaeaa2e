-- Inner calls run on the part of a volume that they hold, with what is in the hand.
use Rattle.std.specs.Prelude.{◌≡◌, ℕ, Some, None, Ok, Err}
use Rattle.nfs_model.specs.Parts.{Hand}
use Rattle.filer_state.specs.state.Contents.{VolumeContents}
use Rattle.filer_state.specs.state.Jobs.{InnerCall, Inner, JobReply, takes, gives, batches_in}
use Rattle.filer_state.specs.state.Lenses.{Lens}
use Rattle.filer_state.specs.state.Partition.{AreOf}
use Rattle.filer_state.specs.state.Promises.{HasVolume}
use Rattle.filer_state.specs.state.Running.{InnerRunsOn}
use Rattle.service.specs.declared.inner.Undone.TheVariants.{NoSuchRange, NoMemory}
use Rattle.service.specs.Inner.{IsHandFor, MayLackMemory, InnerOutcome}

-- the call's batch, by ranges of this many blocks, is in the hand, if it gives one, and some sound volume, which has that in a hand, has this part
abbrev pub MayRunOn : {S : Type 0} → (size v : ℕ) → Lens VolumeContents S → InnerCall → Hand → S → Type 0
MayRunOn size v lens call hand old = IsHandFor size call hand × HasVolume v lens (batches_in hand) old

-- What its run comes to, where its reply is told so: it is right, takes a batch of its volume alone, and gives all that was in the hand; or
-- it is refused; or there is no memory, and the hand is given back.
abbrev pub HasRunOn : {S A : Type 0} → (A → JobReply) → ℕ → Lens VolumeContents S → InnerCall → Hand → S → InnerOutcome A → S → Type 0
HasRunOn told v lens call hand old (Ok reply) new =
    InnerRunsOn v lens call old (Some (told reply)) new × AreOf v (takes (Inner call) (told reply))
    × (gives (Inner call) (told reply) ≡ batches_in hand)
HasRunOn told v lens call hand old (Err NoSuchRange) new = InnerRunsOn v lens call old None new
HasRunOn told v lens call hand old (Err (NoMemory back)) new = MayLackMemory call × (back ≡ hand)

-- a fact of each outcome but one that is done
abbrev pub UnlessDone : {A : Type 0} → InnerOutcome A → Type 0 → Type 0
UnlessDone (Ok reply) fact = Unit {0}
UnlessDone (Err undone) fact = fact
