use Rattle.std.proofs.Common.{sym, ◌∙◌, subst}
use Rattle.depot.specs.Grants.{IsSeatOf}
use Rattle.depot.specs.Words.{layout_in}
use Rattle.depot.proofs.depot.Depot.join_seat.Goals as goal

pub returns-clause-seat : goal.returns-clause-seat
returns-clause-seat g c = (
  c.join_seat.ensures.table ∙ c.requires.first.0,
  subst (IsSeatOf g.M.Parcel.HasKind.kind (layout_in c.args.self.now))
      (sym c.join_seat.ensures.joined) c.requires.first.1,
)
