use Rattle.std.proofs.Common.{◌≡◌, ◌∙◌, length, arith}
use Rattle.directories.proofs.sequences.Parted.{node-items, node-start}
use Rattle.directories.proofs.sequences.Places.{insert-middle, insert-right}
use Rattle.directories.proofs.sequences.tree.Tree.+put.Goals as goal

pub returns-then-size-capacity-clause-items : goal.returns-then-size-capacity-clause-items
returns-then-size-capacity-clause-items g t c = λ _.
    let node = c.deref_mut-node.result.now in
    let same = rw c.in-Fork.node-is at c.deref_mut-node.ensures.value in
    let start = node-start c.self.inside.root c.in-Fork.node node c.self.invariant c.in-Fork.is same in
    let size : c.len-size.result ≡ length node.items.items = c.len-size.ensures ∙ node.items.ok.0 in
    rw (node-items c.args.self.now c.self.inside.root c.in-Fork.node node c.self.view_is c.in-Fork.is same, c.put-then-size-capacity.ensures)
    (insert-middle node.left.items node.items.items node.right.items c.args.position node.before start c.args.item c.if-position-node.false
    (omega (arith, size, c.if-here-size.true)))

pub returns-then-put-2-clause-items : goal.returns-then-put-2-clause-items
returns-then-put-2-clause-items g t c = λ _.
    let node = c.deref_mut-node.result.now in
    let same = rw c.in-Fork.node-is at c.deref_mut-node.ensures.value in
    let start = node-start c.self.inside.root c.in-Fork.node node c.self.invariant c.in-Fork.is same in
    let size : c.len-size.result ≡ length node.items.items = c.len-size.ensures ∙ node.items.ok.0 in
    rw (
      node-items c.args.self.now c.self.inside.root c.in-Fork.node node c.self.view_is c.in-Fork.is same,
      c.put-in-Fork.ensures.items c.if-put-2.true,
      size,
    )
    (insert-right node.left.items node.items.items node.right.items c.args.position node.before start c.args.item c.if-position-node.false
    (omega (arith, size, c.if-here-size-2.false)))
