use Rattle.depot.specs.Words.{view}
use Rattle.desk.specs.Any.{node_lent}
use Rattle.granted_calls.specs.Filers.{layout_in}
use Rattle.granted_calls.proofs.granted.run.Goals as goal

pub run_on-outcome-requires-clause-lent : goal.run_on-outcome-requires-clause-lent
run_on-outcome-requires-clause-lent g c = record {
  before = view c.args.seat.now;
  holding = view c.begin_on.new.seat;
  tree = c.requires.seat.1.0;
  granted = c.in_ok-grant.ensures.granted;
}

pub returns-clause-ran : goal.returns-clause-ran
returns-clause-ran g c = record {
  outcome = c.run_on-outcome.ensures.ran.outcome;
  says = c.run_on-outcome.ensures.ran.says;
  ran = record {
    before = node_lent (layout_in c.args.filer.now) c.in_ok-grant.grant;
    granted = c.in_ok-grant.ensures.granted;
    done = c.run_on-outcome.ensures.ran.ran.done;
    whole = c.run_on-outcome.ensures.ran.ran.whole;
  };
}
