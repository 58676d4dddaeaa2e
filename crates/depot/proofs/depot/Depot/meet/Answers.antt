use Rattle.std.proofs.Common.{sym, ◌∙◌, subst}
use Rattle.depot.specs.Grants.{IsSeatOf}
use Rattle.depot.specs.Words.{layout_in}
use Rattle.depot.proofs.depot.Depot.meet.Goals as goal

pub returns-clause-one_here : goal.returns-clause-one_here
returns-clause-one_here g c =
    (c.meet.ensures.table.0 ∙ c.requires.one.0, subst (IsSeatOf g.M.Parcel.HasKind.kind (layout_in c.args.self.now)) (sym c.meet.ensures.one) c.requires.one.1)

pub returns-clause-other_here : goal.returns-clause-other_here
returns-clause-other_here g c = (
  c.meet.ensures.table.1 ∙ c.requires.other.0,
  subst (IsSeatOf g.M.Parcel.HasKind.kind (layout_in c.args.self.now)) (sym c.meet.ensures.other)
      c.requires.other.1,
)
