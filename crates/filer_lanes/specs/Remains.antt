-- What is left of lanes that were put together.
use Rattle.std.specs.Prelude.{ℕ, ◌<◌, ◌+◌, length}
use Rattle.affinity.specs.Ancestors.{tally}
use Rattle.depot.specs.Words.{view, IsSeatHere}
use Rattle.depot_rule.specs.History.{entries_of}
use Rattle.depot_rule.specs.Sums.{total}
use Rattle.filer_lanes.specs.declared.remains.Remains.{Remains}
use Rattle.granted_calls.specs.Balance.{Weight, by_entry, by_key}
use Rattle.granted_calls.specs.Filers.{layout_in, verifier_in, HasOpened}
use Rattle.granted_calls.specs.declared.shared.Filer.{Filer}

-- lanes of this filer left it; the entries of its seat stand in what it has seen
pub record AreRemainsIn (filer : Filer) (r : Remains) : Type 0 where
  pub seat : IsSeatHere filer.depot r.seat
  pub opened : HasOpened (layout_in filer) (verifier_in filer) (view r.seat)
  pub within : (p : ℕ) → 0 < tally p (view r.seat).mine → p < length (view r.seat).seen

-- as many calls, by a weight, as its seat finished, as were kept and as wait
abbrev pub calls_in : Weight → Remains → ℕ
calls_in weight r =
    total (by_entry weight) (entries_of (view r.seat)) + (total (by_key weight) r.kept.items + total (by_key weight) r.waiting.items)
