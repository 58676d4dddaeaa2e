-- What a turn of a worker does whose answer is put.
use Rattle.std.specs.Prelude.{◌≡◌}
use Rattle.nfs_model.specs.Tree.{Layout}
use Rattle.nfs_values.specs.declared.moment.Moment.{Moment}
use Rattle.outboxes.specs.Boxes.{Addressed, Boxes, put}
use Rattle.granted_calls.specs.declared.turned.Turn.{Turn}
use Rattle.granted_calls.specs.declared.turned.Turn.TheVariants as turns
use Rattle.workers.specs.declared.worked.Worked.{Worked}
use Rattle.workers.specs.declared.worked.Worked.TheVariants as works
use Rattle.turns.specs.declared.worker.Worker.{Worker}
use Rattle.granted_calls.specs.SharedOutboxes.{Lent, HasChanged}
use Rattle.turns.specs.Turns.{Did, HasDone}

-- by a pass of shared outboxes, these were taken out, and were given back with this answer put, and nothing else
abbrev pub HasPutAnswer : Lent → Addressed → Lent → Type 0
HasPutAnswer before a after = (b : Boxes) × HasChanged before b (put a b) after

-- what is told of a turn: an answer was put, and of it its connection alone is told; without one nothing was taken out
abbrev pub IsToldAs : Turn → Lent → Worked → Lent → Type 0
IsToldAs (turns.Done a) before worked after =
    (number : _) × (number.0 ≡ a.connection) × (worked ≡ works.Done number) × HasPutAnswer before a after
IsToldAs turns.Moved before worked after = (worked ≡ works.Moved) × (after ≡ before)
IsToldAs (turns.Busy at word) before worked after = (worked ≡ works.Busy at word) × (after ≡ before)
IsToldAs turns.Worn before worked after = (worked ≡ works.Worn) × (after ≡ before)
IsToldAs turns.Idle before worked after = (worked ≡ works.Idle) × (after ≡ before)

-- what a turn at a moment did, by what is told of it: one entry was made, of the message that was kept or picked, and
-- its answer, to the connection that is told, was put into the shared outboxes; else there was no entry, as `Did` says,
-- and the outboxes weren't taken out
abbrev pub HasWorked : Layout → Worker → Moment → Lent → Worked → Worker → Lent → Type 0
HasWorked layout before moment lent (works.Done number) after lent' =
    (a : Addressed) × (number.0 ≡ a.connection) × HasDone before moment a after × HasPutAnswer lent a lent'
HasWorked layout before moment lent works.Moved after lent' = Did layout before moment turns.Moved after × (lent' ≡ lent)
HasWorked layout before moment lent (works.Busy at word) after lent' = Did layout before moment (turns.Busy at word) after × (lent' ≡ lent)
HasWorked layout before moment lent works.Worn after lent' = Did layout before moment turns.Worn after × (lent' ≡ lent)
HasWorked layout before moment lent works.Idle after lent' = Did layout before moment turns.Idle after × (lent' ≡ lent)
