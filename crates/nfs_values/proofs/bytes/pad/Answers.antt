use Rattle.std.proofs.Common.{ℕ, List, ◌++◌, ap, ◌∙◌}
use Rattle.nfs_values.proofs.Behind.{padded}
use Rattle.nfs_values.proofs.bytes.pad.Goals as goal

pub returns : goal.returns
returns c =
    let place = c.args.place.now in
    rw c.unwrap.ensures at c.extend_from_slice.ensures.items
    ∙ ap (λ (l : List ℕ). place.items ++ l) (padded c.len.result _ (c.len.ensures ∙ place.ok.0))
