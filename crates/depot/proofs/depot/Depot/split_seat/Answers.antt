use Rattle.std.proofs.Common.{sym, ◌∙◌, subst}
use Rattle.depot.specs.Grants.{IsSeatOf}
use Rattle.depot.specs.Words.{layout_in}
use Rattle.depot.proofs.depot.Depot.split_seat.Goals as goal

pub returns-in-Ok-clause-first : goal.returns-in-Ok-clause-first
returns-in-Ok-clause-first g c = (
  c.in-Ok.ensures.table.0 ∙ c.requires.seat.0,
  subst (IsSeatOf g.M.Parcel.HasKind.kind (layout_in c.args.self.now)) (sym c.in-Ok.ensures.split.1)
      c.requires.seat.1,
)

pub returns-in-Ok-clause-second : goal.returns-in-Ok-clause-second
returns-in-Ok-clause-second g c = (
  c.in-Ok.ensures.table.1 ∙ c.requires.seat.0,
  subst (IsSeatOf g.M.Parcel.HasKind.kind (layout_in c.args.self.now)) (sym c.in-Ok.ensures.split.2)
      c.requires.seat.1,
)
