use Rattle.std.proofs.Common.{◌∙◌}
use Rattle.std.specs.Arc.{arc_value}
use Rattle.server.proofs.running.serve.Goals as goal

pub returns-clause-headline : goal.returns-clause-headline
returns-clause-headline g c =
    let r = c.in_ok-running.ensures in
    let e = c.in_ok-end.ensures in
    record {
      filer = arc_value c.in_ok-running.running.filer;
      laid_out = r.layout;
      verifier = r.verifier;
      lanes = e.0;
      workers = e.3 ∙ r.count;
      headline = e.4 c.args.options.now.offer r.offer;
    }

pub returns-clause-printed : goal.returns-clause-printed
returns-clause-printed g c = (c.run.new.out, c.in_ok-print_left.ensures)
