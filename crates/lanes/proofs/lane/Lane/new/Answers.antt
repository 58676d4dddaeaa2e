use Rattle.std.proofs.Common.{refl, rules}
use Rattle.turns.specs.Words.{entries_in}
use Rattle.granted_calls.specs.shared_waiting.Passes.{known}
use Rattle.lanes.proofs.Lived.{story-begins}
use Rattle.lanes.proofs.Counted.{counted-none}
use Rattle.lanes.proofs.Owed.{owed-begins}
use Rattle.lanes.proofs.lane.Lane.new.Goals as goal

pub invariant_of-result : goal.invariant_of-result
invariant_of-result g c = record {
  of = c.requires.of;
  layout = search rules;
  takes = c.requires.inside.pass;
  both = c.requires.both;
  counted = counted-none c.args.pass c.args.worker c.requires.nothing.0 c.requires.nothing.1 c.requires.nothing.2 c.args.worker.balance;
  few = search rules;
}

pub invariant_of-result-2 : goal.invariant_of-result-2
invariant_of-result-2 g c = record {
  filer_is = search rules;
  inside = ∣ c.requires.inside ∣₁;
  picked = c.requires.nothing.1;
  share = refl;
  story =
      ∣ story-begins _ _ _ c.args.offer c.args.lane c.args.lanes (entries_in c.args.worker) (known c.args.pass).put _ _ _ c.requires.nothing.2
      c.requires.nothing.0
      c.requires.lane (search rules) (search rules) (search rules) (search rules) ∣₁;
  owes = ∣ owed-begins (entries_in c.args.worker) (known c.args.pass).put _ _ (search rules) ∣₁;
}
