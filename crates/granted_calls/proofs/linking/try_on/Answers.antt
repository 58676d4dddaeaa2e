use Rattle.std.proofs.Common.{true, false, refl, ap, subst}
use Rattle.nfs_values.specs.Reply.{reply_of}
use Rattle.nfs_values.specs.declared.call.Call.{Call}
use Rattle.desk.specs.Any.{node_lent}
use Rattle.service.specs.declared.outcome.Outcome.{Outcome}
use Rattle.granted_calls.specs.Runs.{HasRunFrom}
use Rattle.granted_calls.specs.Moments.{RunsAt}
use Rattle.granted_calls.specs.Filers.{layout_in}
use Rattle.granted_calls.proofs.Runs.{moved-so, replied-so, starved-so}
use Rattle.granted_calls.proofs.linking.try_on.Goals as goal

pub returns-in-Replied : goal.returns-in-Replied
returns-in-Replied g c =
    let to = c.run_on.ensures.ran in record {
      ran = (
        refl,
        record {
          moment = c.of_call-moment.result;
          at = subst (λ (x : Call). RunsAt x c.args.moment c.of_call-moment.result) c.asked.ensures.call c.of_call-moment.ensures;
          outcome = to.outcome;
          starved = false;
          is = replied-so to.outcome c.run_on.result c.run_on.new.told to.says c.in-Replied.is;
          ran = to.ran;
          entry = c.enter.ensures;
        },
      );
    }

pub returns-in-Starved : goal.returns-in-Starved
returns-in-Starved g c =
    let to = c.run_on.ensures.ran in
    let says = starved-so to.outcome c.run_on.result c.run_on.new.told to.says c.in-Starved.is in record {
      ran = (
        refl,
        record {
          moment = c.of_call-moment.result;
          at = subst (λ (x : Call). RunsAt x c.args.moment c.of_call-moment.result) c.asked.ensures.call c.of_call-moment.ensures;
          outcome = to.outcome;
          starved = true;
          is = (says.0, ap reply_of says.1);
          ran = to.ran;
          entry = c.enter-in-Starved.ensures;
        },
      );
    }

pub returns-in-Moved : goal.returns-in-Moved
returns-in-Moved g c =
    let L = layout_in c.args.filer.now in
    let to = c.run_on.ensures.ran in
    let says = moved-so to.outcome c.run_on.result c.run_on.new.told to.says c.in-Moved.affinity c.in-Moved.is in record {
      ran = (
        refl,
        c.of_call-moment.result,
        subst (λ (x : Call). RunsAt x c.args.moment c.of_call-moment.result) c.asked.ensures.call c.of_call-moment.ensures,
        subst (λ (o : Outcome). HasRunFrom L c.args.message c.of_call-moment.result (node_lent L c.args.grant.now) o (node_lent L c.run_on.new.grant)) says
            to.ran,
      );
    }
