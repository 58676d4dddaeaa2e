-- What turns one after the other do, of which each but the last finishes a call.
use Rattle.std.specs.Prelude.{◌≡◌, ◌<◌, ◌≤◌, ◌+◌, ◌-◌, ℕ, Bool, true, false, List, [], ◌∷◌, ◌++◌, length, Option, Some, None}
use Rattle.nfs_model.specs.Tree.{Layout}
use Rattle.nfs_values.specs.declared.moment.Moment.{Moment}
use Rattle.affinity.specs.Affinity.{call_affinity}
use Rattle.depot_rule.specs.History.{entries_of}
use Rattle.depot.specs.Grants.{IsRefused}
use Rattle.depot.specs.declared.grants.GrantRefusal.{GrantRefusal}
use Rattle.depot.specs.declared.grants.GrantRefusal.TheVariants as refusals
use Rattle.outboxes.specs.Boxes.{Addressed, Boxes, put}
use Rattle.granted_calls.specs.Messages.{Message}
use Rattle.granted_calls.specs.declared.turned.Turn.TheVariants as turns
use Rattle.granted_calls.specs.declared.chained.Chained.{Chained}
use Rattle.granted_calls.specs.declared.chained.Chained.TheVariants as chains
use Rattle.granted_calls.specs.Balance.{Passed, FilerView}
use Rattle.granted_calls.specs.Served.{IsNext, HasMoved, Standing, HasDoneFrom, DidFrom}

-- answers put into the outboxes, one after another
abbrev pub puts : List Addressed → Boxes → Boxes
puts [] b = b
puts (a ∷ rest) b = puts rest (put a b)

abbrev pub HasPutAll : Boxes → List Addressed → Boxes → Type 0
HasPutAll b answers b' = b' ≡ puts answers b

-- turns at a moment, each of which finished a call, by their answers
abbrev pub DidAll : Moment → Standing → List Addressed → Standing → Type 0
DidAll moment s [] t = t ≡ s
DidAll moment s (a ∷ rest) t = (mid : Standing) × HasDoneFrom s moment a mid × DidAll moment mid rest t

-- nothing is kept but a message that was picked for the next turn, if one was
abbrev pub IsAhead : Passed → Passed → Option Message → Type 0
IsAhead before after None = after ≡ before
IsAhead before after (Some m) = (after.picked ≡ before.picked ++ m ∷ []) × (after.put ≡ before.put)

-- whether each of the calls was finished
abbrev pub each_done : Chained → Bool
each_done chains.Done = true
each_done chains.Moved = false
each_done (chains.Busy at word) = false
each_done chains.Worn = false
each_done chains.Idle = false

-- what came after turns that each finished a call
abbrev pub EndsBy : Layout → Standing → Moment → Chained → Standing → Type 0
EndsBy layout between moment chains.Done after = (between.kept ≡ None) × (after.view ≡ between.view)
    × IsAhead between.pass after.pass after.kept
EndsBy layout between moment chains.Moved after = DidFrom layout between moment turns.Moved after
EndsBy layout between moment (chains.Busy at word) after = DidFrom layout between moment (turns.Busy at word) after
EndsBy layout between moment chains.Worn after = DidFrom layout between moment turns.Worn after
EndsBy layout between moment chains.Idle after = DidFrom layout between moment turns.Idle after

-- What is told suits the turns that finished a call: there is one where each is told to have finished its own; and none where the
-- depot refused a message or none waited, so that nothing went into the sink either.
abbrev pub Suits : {S : Type 0} → List Addressed → S → Chained → S → Type 0
Suits answers sink chains.Done sink' = 0 < length answers
Suits answers sink chains.Moved sink' = Unit {0}
Suits answers sink (chains.Busy at word) sink' = (answers ≡ []) × (sink' ≡ sink)
Suits answers sink chains.Worn sink' = (answers ≡ []) × (sink' ≡ sink)
Suits answers sink chains.Idle sink' = (answers ≡ []) × (sink' ≡ sink)

-- a seat finished at most this many calls more
abbrev pub HasDoneFew : ℕ → FilerView → FilerView → Type 0
HasDoneFew most v w = length (entries_of w) ≤ length (entries_of v) + most

-- where at most this many turns are asked for: one is made at least
abbrev pub turns_at_most : ℕ → ℕ
turns_at_most most = 1 + (most - 1)

-- Turns were made at a moment: some that each finished a call, whose answers went into the sink, in order and each once; and
-- a last one that didn't, but where it is told that each did.
pub record HasTurnedOn {S : Type 0} (took : S → List Addressed → S → Type 0) (layout : Layout) (before : Standing) (moment : Moment)
    (sink : S) (chained : Chained) (sink' : S) (after : Standing) : Type 0 where
  pub answers : List Addressed
  pub between : Standing
  pub did : DidAll moment before answers between
  pub told : took sink answers sink'
  pub ends : EndsBy layout between moment chained after
  pub suits : Suits answers sink chained sink'

-- ---- parts of a chain

abbrev pub left_standing : FilerView → Passed → Option Message → Standing
left_standing v pass kept = record { view = v; pass = pass; kept = kept }

-- a message is the next for who stood so, and was picked if it wasn't kept
pub record IsPicked (s : Standing) (v : FilerView) (pass : Passed) (m : Message) : Type 0 where
  pub view : v ≡ s.view
  pub next : IsNext s.pass s.kept pass m
  pub put : pass.put ≡ s.pass.put

-- what came after turns that each finished a call, before what is kept was put
abbrev pub IsLeft : Layout → Standing → Moment → Chained → Standing → Type 0
IsLeft layout between moment chains.Done after = EndsBy layout between moment chains.Done after
IsLeft layout between moment chains.Moved after =
    (m m' : Message) × IsPicked between between.view after.pass m × (after.kept ≡ Some m')
    × HasMoved layout between.view m moment m' after.view × (entries_of after.view ≡ entries_of between.view)
IsLeft layout between moment (chains.Busy at word) after =
    (m : Message) × IsPicked between between.view after.pass m × (after.kept ≡ Some m)
    × IsRefused layout between.view (call_affinity m.affinity) (refusals.Busy at word) after.view × (entries_of after.view ≡ entries_of between.view)
IsLeft layout between moment chains.Worn after =
    (m : Message) × IsPicked between between.view after.pass m × (after.kept ≡ Some m)
    × IsRefused layout between.view (call_affinity m.affinity) refusals.Worn after.view × (entries_of after.view ≡ entries_of between.view)
IsLeft layout between moment chains.Idle after = ⊥

-- so was a message tried, and those after it that try the same node
pub record HasServedOn {S : Type 0} (took : S → List Addressed → S → Type 0) (layout : Layout) (before : Standing) (moment : Moment)
    (sink : S) (chained : Chained) (sink' : S) (after : Standing) : Type 0 where
  pub answers : List Addressed
  pub between : Standing
  pub did : DidAll moment before answers between
  pub told : took sink answers sink'
  pub left : IsLeft layout between moment chained after
  pub suits : Suits answers sink chained sink'

-- what a refusal of the depot answers
abbrev pub chained_by : GrantRefusal → Chained
chained_by (refusals.Busy at word) = chains.Busy at word
chained_by refusals.Worn = chains.Worn

-- so did who keeps a message, for each who stood so before that was picked
abbrev pub HasServedAll : {S : Type 0} → (S → List Addressed → S → Type 0) → Layout → Standing → Moment → S → Chained → S → Standing → Type 0
HasServedAll took layout before moment sink chained sink' after = (m : Message) × (before.kept ≡ Some m)
    × ((s : Standing) → IsPicked s before.view before.pass m → HasServedOn took layout s moment sink chained sink' after)

-- a worker tried the message that it keeps, if it keeps one, and those after it that try the same node
abbrev pub HasTriedAll : {S : Type 0} → (S → List Addressed → S → Type 0) → Layout → Standing → Moment → S → Chained → S → Standing → Type 0
HasTriedAll took layout before moment sink chains.Idle sink' after = (before.kept ≡ None) × (after ≡ before) × (sink' ≡ sink)
HasTriedAll took layout before moment sink chains.Done sink' after = HasServedAll took layout before moment sink chains.Done sink' after
HasTriedAll took layout before moment sink chains.Moved sink' after = HasServedAll took layout before moment sink chains.Moved sink' after
HasTriedAll took layout before moment sink (chains.Busy at word) sink' after =
    HasServedAll took layout before moment sink (chains.Busy at word) sink' after
HasTriedAll took layout before moment sink chains.Worn sink' after = HasServedAll took layout before moment sink chains.Worn sink' after
