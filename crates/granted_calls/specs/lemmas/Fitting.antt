-- A message that is placed in a layout fits a queue of that layout.
use Rattle.std.proofs.Common.{◌≡◌, Option, Some, None, subst}
use Rattle.std.specs.Prelude.{option_map}
use Rattle.nfs_model.specs.Tree as trees
use Rattle.affinity.specs.declared.layout.Layout.{Layout}
use Rattle.affinity.specs.Layout.{layout_of}
use Rattle.granted_calls.specs.shared_waiting.Balance.{FitsIn}
use Rattle.granted_calls.specs.Balance.{Passed}
use Rattle.granted_calls.specs.Messages.{IsPlaced, Fits, Message}
use Rattle.granted_calls.specs.Filers.{layout_known}

pub fits-by : (layout : trees.Layout) (v : Passed) (m : Message) → layout_known v ≡ Some layout → IsPlaced layout m → FitsIn Fits v.key m
fits-by layout v m known placed = by v.key known
  where
    by : (key : Option Layout) → option_map layout_of key ≡ Some layout → FitsIn Fits key m
    by None e = let no : ⊥ = cc in absurd no
    by (Some key) e = subst (λ (x : trees.Layout). IsPlaced x m) (let same : layout ≡ layout_of key = cc in same) placed
