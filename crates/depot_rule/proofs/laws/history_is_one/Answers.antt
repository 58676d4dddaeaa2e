use Rattle.depot_rule.specs.History.{behaviour}
use Rattle.depot_rule.proofs.Counting.{is-one}
use Rattle.depot_rule.proofs.laws.history_is_one.Goals as goal

pub returns : goal.returns
returns g c = is-one g.row.M-Parcel.Denot g.row.M-Call.Denot g.row.M-Reply.Denot g.row.M-Batch.Denot g.M.Parcel.HasKind.kind
    (behaviour g.M.Machine.steps g.M.Machine.takes g.M.Machine.gives g.M.Machine.invariant)
