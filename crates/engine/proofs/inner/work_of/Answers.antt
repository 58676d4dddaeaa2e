use Rattle.std.proofs.Common.{◌≡◌, Some, None, sym, subst}
use Rattle.std.specs.Prelude.{MatchResult}
use Rattle.affinity.specs.Layout.{layout_of}
use Rattle.service.specs.Works.{batch_call_of}
use Rattle.engine.specs.Inner.{call_asked, FitsAsked}
use Rattle.engine.specs.declared.inner.Asked.{Asked}
use Rattle.engine.proofs.inner.work_of.Goals as goal

pub returns-in-Fetch-clause-hand : goal.returns-in-Fetch-clause-hand
returns-in-Fetch-clause-hand c = sym (subst (λ (a : Asked). FitsAsked a c.args.hand) c.in-Fetch.is c.requires)

pub returns-in-Cull-clause-hand : goal.returns-in-Cull-clause-hand
returns-in-Cull-clause-hand c = sym (subst (λ (a : Asked). FitsAsked a c.args.hand) c.in-Cull.is c.requires)

pub returns-in-PutDown-clause-call : goal.returns-in-PutDown-clause-call
returns-in-PutDown-clause-call c =
    subst (λ (a : Asked). MatchResult c.put_down.result (λ work. call_asked (layout_of c.args.layout.now) a c.args.hand ≡ Some (batch_call_of work))
    (λ back. call_asked (layout_of c.args.layout.now) a c.args.hand ≡ None)) (sym c.in-PutDown.is) c.put_down.ensures.call
