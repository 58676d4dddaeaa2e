-- What a worker does without a message, on the batch of block numbers in its hand (our profile).
use Rattle.std.specs.Prelude.{◌≡◌, ℕ, ◌*◌, ◌/◌, ◌%◌, ◌==◌, ◌&&◌, ◌||◌, nat_lt, Bool, true, false, length, Option, Some, None, Result, Ok, Err, if◌then◌else◌}
use Rattle.nfs_model.specs.Tree.{Layout}
use Rattle.nfs_model.specs.Parts.{Hand, Empty, most_ranges}
use Rattle.nfs_model.specs.Events.Refusals.{is_empty_hand}
use Rattle.filer_state.specs.state.Jobs as jobs
use Rattle.filer_state.specs.state.Jobs.{InnerCall, JobReply, inner_volume}
use Rattle.service.specs.Inner as inner
use Rattle.granted_calls.specs.Messages.{Message}
use Rattle.turns.specs.declared.tend.Tend.{Tend}
use Rattle.turns.specs.declared.tend.Tend.TheVariants.{Fetch, Cull, PutDown}
use Rattle.turns.specs.declared.tend.Tended.{Tended}
use Rattle.turns.specs.declared.tend.Tended.TheVariants as tendeds
use Rattle.turns.specs.declared.tend.TendRefusal.{TendRefusal}
use Rattle.turns.specs.declared.tend.TendRefusal.TheVariants.{Busy, Worn, HandFull, HandEmpty, NoSuchRange, NoMemory}
use Rattle.turns.specs.declared.worker.Worker.{Worker}
use Rattle.turns.specs.Carries.{Carries, IsRefusedFor, hand_after, stock_left, IsToldAs}
use Rattle.turns.specs.Stocks.{stocked_after, is_stocked}
use Rattle.turns.specs.Words.{seat_view, entries_in}

-- ---- of a worker

-- the batch that it carries
abbrev pub hand_in : Worker → Hand
hand_in w = w.hand

-- the message that it keeps
abbrev pub kept_in : Worker → Option Message
kept_in w = w.kept

-- the volume of which it knows that the stock had enough numbers, if it knows of one
abbrev pub stocked_in : Worker → Option ℕ
stocked_in w = w.stocked

-- ---- which inner call it is

-- where there is no call, nothing in the hand is to be put down
abbrev pub or_empty : Option InnerCall → Result InnerCall TendRefusal
or_empty None = Err HandEmpty
or_empty (Some call) = Ok call

-- a fresh batch comes into the stock of its volume, a dead one is free in its range
abbrev pub call_to_put : Layout → Hand → Result InnerCall TendRefusal
call_to_put layout hand = or_empty (inner.call_to_put layout hand)

-- The inner call of a tend with what is in the hand, or why there is none: a batch comes into an empty hand alone, and from a
-- volume and a range of the layout.
abbrev pub call_of : Layout → Tend → Hand → Result InnerCall TendRefusal
call_of layout (Fetch volume range) hand =
    if is_empty_hand hand
    then (if nat_lt volume.0 (length layout.volumes) && nat_lt range most_ranges then Ok (jobs.Fetch volume.0 range) else Err NoSuchRange)
    else Err HandFull
call_of layout (Cull volume) hand =
    if is_empty_hand hand
    then (if nat_lt volume.0 (length layout.volumes) then Ok (jobs.Cull volume.0) else Err NoSuchRange)
    else Err HandFull
call_of layout PutDown hand = call_to_put layout hand

-- ---- what comes of it

-- One entry was made, of the inner call, with what was in the hand; its reply says what is in the hand then, and how many blocks moved.
-- What the worker knows then of a stock is what the entry left: after a cull or a delivery, whether the stock of that volume has enough.
pub record HasTended (layout : Layout) (before : Worker) (call : InnerCall) (tended : Tended) (after : Worker) : Type 0 where
  pub reply : JobReply
  pub carries : Carries layout (seat_view before) call (hand_in before) reply (seat_view after)
  pub hand : hand_in after ≡ hand_after reply
  pub told : IsToldAs reply tended
  pub stocked : stocked_in after ≡ stocked_after (inner_volume call) (stock_left layout call carries.entry) (stocked_in before)

-- What a tend did by its answer, where this is its inner call, or there is none. A refused one made no entry and left the hand, and
-- what is known of a stock; where there is no inner call, nothing was tried.
abbrev pub Answers : Layout → Worker → Result InnerCall TendRefusal → Result Tended TendRefusal → Worker → Type 0
Answers layout before (Ok call) (Ok tended) after = HasTended layout before call tended after
Answers layout before (Ok call) (Err refusal) after =
    (entries_in after ≡ entries_in before) × (hand_in after ≡ hand_in before) × IsRefusedFor layout (seat_view before) call refusal (seat_view after)
    × (stocked_in after ≡ stocked_in before)
Answers layout before (Err why) answer after =
    (answer ≡ Err why) × (seat_view after ≡ seat_view before) × (hand_in after ≡ hand_in before) × (stocked_in after ≡ stocked_in before)

abbrev pub Tends : Layout → Worker → Tend → Result Tended TendRefusal → Worker → Type 0
Tends layout before tend answer after = Answers layout before (call_of layout tend (hand_in before)) answer after

-- ---- numbers

-- how many blocks moved
abbrev pub blocks_moved : Tended → ℕ
blocks_moved (tendeds.InHand count) = count
blocks_moved (tendeds.PutDown count) = count

abbrev pub tend_refusal_number : TendRefusal → ℕ
tend_refusal_number (Busy at word) = 21
tend_refusal_number Worn = 22
tend_refusal_number HandFull = 33
tend_refusal_number HandEmpty = 34
tend_refusal_number NoSuchRange = 41
tend_refusal_number NoMemory = 90

-- ---- which tend is next

-- Whether the tend after this many is a cull of this volume, where a stock is known to have enough numbers: each second tend is one, and
-- the tend after it too where it is the volume's stock that has.
abbrev pub is_cull : (made volume : ℕ) → (stocked : Option ℕ) → Bool
is_cull made volume stocked = (made % 2 == 0) || is_stocked stocked volume

-- With a batch in the hand it is put down. With an empty one, after this many such tends, a cull is next or a fetch, in turn: each two
-- of them are of the next volume, and once round the volumes, the fetches are of the next range. A cull takes the place of a fetch just
-- where the volume's stock had enough numbers when the worker looked last.
abbrev pub IsNextTend : (volumes made : ℕ) → (stocked : Option ℕ) → Hand → Tend → Type 0
IsNextTend volumes made stocked Empty (Cull volume) = (volume.0 ≡ made / 2 % volumes) × (is_cull made volume.0 stocked ≡ true)
IsNextTend volumes made stocked Empty (Fetch volume range) =
    (volume.0 ≡ made / 2 % volumes) × (is_cull made volume.0 stocked ≡ false) × (range ≡ made / (2 * volumes) % most_ranges)
IsNextTend volumes made stocked Empty PutDown = ⊥
IsNextTend volumes made stocked hand tend = tend ≡ PutDown
