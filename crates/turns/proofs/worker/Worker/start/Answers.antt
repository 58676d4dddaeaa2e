use Rattle.std.proofs.Common.{◌∙◌, Option, sym, ap, subst}
use Rattle.std.specs.Prelude.{IfSome}
use Rattle.nfs_model.specs.Parts.{Hand}
use Rattle.depot.specs.Words.{view, IsSeatHere}
use Rattle.granted_calls.specs.shared_waiting.Passes.{known, IsOf}
use Rattle.granted_calls.specs.Messages.{IsPlaced, Message}
use Rattle.granted_calls.specs.Filers.{layout_in, layout_known, verifier_in, HasOpened}
use Rattle.turns.specs.Words.{IsHandIn}
use Rattle.turns.proofs.worker.Worker.start.Goals as goal

pub returns-clause-inside : goal.returns-clause-inside
returns-clause-inside c =
    let F = c.args.filer.now in
    let e = c.new.ensures in
    record {
      seat = subst (λ s. IsSeatHere F.depot s) (sym e.seat) c.requires.seat;
      opened = subst (λ s. HasOpened (layout_in F) (verifier_in F) (view s)) (sym e.seat) c.requires.ready.opened;
      pass = subst (λ p. IsOf c.args.queue.now p) (sym e.pass) c.requires.pass;
      layout = ap (λ p. layout_known (known p)) e.pass ∙ c.requires.layout;
      hand = subst (λ (h : Hand). IsHandIn (layout_in F) h) (sym e.hand) tt;
      kept = subst (λ (k : Option Message). IfSome k (IsPlaced (layout_in F))) (sym e.kept) tt;
    }
