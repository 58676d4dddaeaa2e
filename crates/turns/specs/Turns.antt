-- What a turn of a worker does.
use Rattle.std.specs.Prelude.{◌≡◌, Option, Some, None}
use Rattle.nfs_model.specs.Tree.{Layout}
use Rattle.nfs_values.specs.declared.moment.Moment.{Moment}
use Rattle.affinity.specs.Affinity.{call_affinity}
use Rattle.depot.specs.Grants.{IsRefused}
use Rattle.depot.specs.declared.grants.GrantRefusal.{GrantRefusal}
use Rattle.depot.specs.declared.grants.GrantRefusal.TheVariants as refusals
use Rattle.outboxes.specs.Boxes.{Addressed}
use Rattle.granted_calls.specs.declared.turned.Turn.{Turn}
use Rattle.granted_calls.specs.declared.turned.Turn.TheVariants as turns
use Rattle.granted_calls.specs.declared.turned.Served.{Served}
use Rattle.granted_calls.specs.declared.turned.Served.TheVariants as served
use Rattle.turns.specs.declared.worker.Worker.{Worker}
use Rattle.granted_calls.specs.Messages.{Message}
use Rattle.granted_calls.specs.Served.{Standing, HasFinished, HasMoved, HasReturnedFrom, HasDoneFrom, DidFrom}
use Rattle.turns.specs.Words.{seat_view, passed, entries_in}

-- ---- parts of a turn

-- what a refusal of the depot answers
abbrev pub turned_by : GrantRefusal → Turn
turned_by (refusals.Busy at word) = turns.Busy at word
turned_by refusals.Worn = turns.Worn

-- what is kept of a message that was tried, and what its turn answers
abbrev pub IsTold : Served → Option Message → Turn → Type 0
IsTold (served.Done a) kept turned = (kept ≡ None) × (turned ≡ turns.Done a)
IsTold (served.Moved m) kept turned = (kept ≡ Some m) × (turned ≡ turns.Moved)
IsTold (served.Refused m refusal) kept turned = (kept ≡ Some m) × (turned ≡ turned_by refusal)

-- a worker tried the message that it keeps, if it keeps one
abbrev pub HasTried : Layout → Worker → Moment → Turn → Worker → Type 0
HasTried layout before moment (turns.Done a) after =
    (m : Message) × (before.kept ≡ Some m) × (after.kept ≡ None) × HasFinished (seat_view before) m moment a (seat_view after)
HasTried layout before moment turns.Moved after =
    (m m' : Message) × (before.kept ≡ Some m) × (after.kept ≡ Some m') × HasMoved layout (seat_view before) m moment m' (seat_view after)
    × (entries_in after ≡ entries_in before)
HasTried layout before moment (turns.Busy at word) after =
    (m : Message) × (before.kept ≡ Some m) × (after.kept ≡ Some m) × (entries_in after ≡ entries_in before)
    × IsRefused layout (seat_view before) (call_affinity m.affinity) (refusals.Busy at word) (seat_view after)
HasTried layout before moment turns.Worn after =
    (m : Message) × (before.kept ≡ Some m) × (after.kept ≡ Some m) × (entries_in after ≡ entries_in before)
    × IsRefused layout (seat_view before) (call_affinity m.affinity) refusals.Worn (seat_view after)
HasTried layout before moment turns.Idle after = (before.kept ≡ None) × (after.kept ≡ None) × (seat_view after ≡ seat_view before)

-- ---- of a worker

-- what a turn says of a worker: what its seat and its pass know, and what it keeps
abbrev pub standing_of : Worker → Standing
standing_of w = record { view = seat_view w; pass = passed w; kept = w.kept }

abbrev pub HasReturned : Worker → Message → Message → Worker → Type 0
HasReturned before m m' after = HasReturnedFrom (standing_of before) m m' (standing_of after)

abbrev pub HasDone : Worker → Moment → Addressed → Worker → Type 0
HasDone before moment a after = HasDoneFrom (standing_of before) moment a (standing_of after)

abbrev pub Did : Layout → Worker → Moment → Turn → Worker → Type 0
Did layout before moment turned after = DidFrom layout (standing_of before) moment turned (standing_of after)
