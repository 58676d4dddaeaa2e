-- What workers that were put together keep.
use Rattle.std.specs.Prelude.{◌≡◌, ◌+◌, List}
use Rattle.depot_rule.specs.Sums.{total}
use Rattle.granted_calls.specs.Messages.{Message}
use Rattle.granted_calls.specs.Balance.{FilerEntry, Passed, Weight, by_entry, by_key}

-- what was picked is, as often, what was finished, what was put back, and what is kept
abbrev pub IsEvenWith : Passed → List FilerEntry → List Message → Type 0
IsEvenWith pass entries kept = (weight : Weight)
    → total (by_key weight) pass.picked ≡ total (by_entry weight) entries + (total (by_key weight) pass.put + total (by_key weight) kept)
