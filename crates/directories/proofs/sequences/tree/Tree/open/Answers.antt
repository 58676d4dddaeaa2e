use Rattle.directories.proofs.sequences.Parted.{parted}
use Rattle.directories.proofs.sequences.tree.Tree.open.Goals as goal

pub returns-in-Fork : goal.returns-in-Fork
returns-in-Fork g c =
    let left = rw c.in-Fork.chunk-is at c.of.ensures.left in
    let items = rw c.in-Fork.chunk-is at c.of.ensures.items in
    let right = rw c.in-Fork.chunk-is at c.of.ensures.right in
    let counted = rw c.in-Fork.chunk-is at c.of.ensures.counted in
    parted c.args.self c.self.inside.root c.in-Fork.chunk c.of.result c.self.view_is c.self.invariant c.in-Fork.is left items right counted
