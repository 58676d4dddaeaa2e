use Rattle.std.proofs.Common.{◌≡◌, ◌≤◌, ◌+◌, length}
use Rattle.depot_rule.specs.History.{entries_of}
use Rattle.depot.specs.Words.{view, splits_left, IsSeatHere}
use Rattle.desk.specs.Any.{node_lent}
use Rattle.granted_calls.specs.shared_waiting.Passes.{known, IsOf}
use Rattle.granted_calls.specs.Chains.{turns_at_most}
use Rattle.granted_calls.specs.Links.{HasGoneSo, Stands}
use Rattle.granted_calls.specs.Messages.{IsPlaced}
use Rattle.granted_calls.specs.Telling.{TookTold}
use Rattle.granted_calls.specs.Served.{HasShareOf, Standing}
use Rattle.granted_calls.specs.Filers.{layout_in, verifier_in}
use Rattle.granted_calls.proofs.chaining.chain.Given as goal

-- for each who stood so, what was done is a row of turns, and the message has the grant
abbrev pub invariant-loop-link : goal.invariant-loop-link
invariant-loop-link g l = record {
  seat : IsSeatHere l.filer.depot l.seat;
  splits : splits_left l.seat ≡ splits_left l.fn.seat;
  of : IsOf l.queue l.pass;
  share : HasShareOf (known l.fn.pass) (known l.pass);
  up : l._link ≤ turns_at_most l.most;
  few : length (entries_of (view l.seat)) + 1 ≤ length (entries_of (view l.fn.seat)) + l._link;
  placed : IsPlaced (layout_in l.filer) l.message;
  gone : (s : Standing)
      → Stands (layout_in l.filer) (verifier_in l.filer) s l.fn.message (known l.fn.pass) (node_lent (layout_in l.filer) l.fn.grant) (view l.fn.seat)
      → HasGoneSo (TookTold l.handles g.S.AnswerSink.took) (layout_in l.filer) (verifier_in l.filer) s l.moment l.fn.sink l.message (known l.pass)
      (node_lent (layout_in l.filer) l.grant) (view l.seat) l.sink;
}
