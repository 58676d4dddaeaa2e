use Rattle.std.proofs.Common.{◌≡◌, ◌∙◌, length, arith}
use Rattle.directories.proofs.sequences.Parted.{node-items, node-start}
use Rattle.directories.proofs.sequences.Places.{get-far, remove-middle, remove-right}
use Rattle.directories.proofs.sequences.tree.Tree.+take.Goals as goal

pub returns-then-here-size-clause-left : goal.returns-then-here-size-clause-left
returns-then-here-size-clause-left g t c =
    let node = c.deref_mut-node.result.now in
    let same = rw c.in-Fork.node-is at c.deref_mut-node.ensures.value in
    let start = node-start c.self.inside.root c.in-Fork.node node c.self.invariant c.in-Fork.is same in
    let size : c.len-size.result ≡ length node.items.items = c.len-size.ensures ∙ node.items.ok.0 in
    rw (node-items c.args.self.now c.self.inside.root c.in-Fork.node node c.self.view_is c.in-Fork.is same, c.remove.ensures.items)
    (remove-middle node.left.items node.items.items node.right.items c.args.position node.before start c.if-position-node.false
    (omega (arith, size, c.if-here-size.true)))

pub returns-clause-item : goal.returns-clause-item
returns-clause-item g t c =
    let node = c.deref_mut-node.result.now in
    let same = rw c.in-Fork.node-is at c.deref_mut-node.ensures.value in
    let start = node-start c.self.inside.root c.in-Fork.node node c.self.invariant c.in-Fork.is same in
    let size : c.len-size.result ≡ length node.items.items = c.len-size.ensures ∙ node.items.ok.0 in
    rw (node-items c.args.self.now c.self.inside.root c.in-Fork.node node c.self.view_is c.in-Fork.is same)
    (get-far node.left.items node.items.items node.right.items c.args.position node.before start c.in-Some-take.item c.if-position-node.false
    (omega (arith, size, c.if-here-size.false)) (rw size at c.in-Some-take.ensures.item))

pub returns-clause-left : goal.returns-clause-left
returns-clause-left g t c =
    let node = c.deref_mut-node.result.now in
    let same = rw c.in-Fork.node-is at c.deref_mut-node.ensures.value in
    let start = node-start c.self.inside.root c.in-Fork.node node c.self.invariant c.in-Fork.is same in
    let size : c.len-size.result ≡ length node.items.items = c.len-size.ensures ∙ node.items.ok.0 in
    rw (node-items c.args.self.now c.self.inside.root c.in-Fork.node node c.self.view_is c.in-Fork.is same, c.in-Some-take.ensures.left, size)
    (remove-right node.left.items node.items.items node.right.items c.args.position node.before start c.if-position-node.false
    (omega (arith, size, c.if-here-size.false)))
