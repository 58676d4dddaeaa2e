use Rattle.std.proofs.Common.{◌∙◌, Option, sym, ap, subst}
use Rattle.std.specs.Prelude.{IfSome}
use Rattle.nfs_model.specs.Parts.{Hand}
use Rattle.depot.specs.Words.{view, IsSeatHere}
use Rattle.granted_calls.specs.shared_waiting.Passes.{known, IsOf}
use Rattle.granted_calls.specs.Balance.{FilerView, Passed}
use Rattle.granted_calls.specs.Messages.{IsPlaced, Message}
use Rattle.granted_calls.specs.Filers.{layout_in, layout_known, verifier_in, HasOpened}
use Rattle.turns.specs.Words.{IsHandIn}
use Rattle.granted_calls.proofs.Started.{fresh-none}
use Rattle.turns.proofs.worker.Worker.split.Goals as goal

pub new-requires-clause-none_open : goal.new-requires-clause-none_open
new-requires-clause-none_open c = fresh-none (view c.args.self.seat) (view c.in-Ok.second) c.in-Ok.ensures.split.2

pub returns-clause-second : goal.returns-clause-second
returns-clause-second c =
    let F = c.args.filer.now in
    let e = c.new.ensures in
    record {
      seat = subst (λ s. IsSeatHere F.depot s) (sym e.seat) c.in-Ok.ensures.second;
      opened = subst (λ s. HasOpened (layout_in F) (verifier_in F) (view s)) (sym e.seat)
          (subst (λ (x : FilerView). HasOpened (layout_in F) (verifier_in F) x) (sym c.in-Ok.ensures.split.2) c.requires.inside.opened);
      pass = subst (λ p. IsOf F.waiting p) (sym e.pass) c.split_pass-pass.ensures.of.1;
      layout = ap (λ p. layout_known (known p)) e.pass ∙ (ap (λ (x : Passed). layout_known x) c.split_pass-pass.ensures.second
          ∙ c.requires.inside.layout);
      hand = subst (λ (h : Hand). IsHandIn (layout_in F) h) (sym e.hand) tt;
      kept = subst (λ (k : Option Message). IfSome k (IsPlaced (layout_in F))) (sym e.kept) tt;
    }
