use Rattle.std.proofs.Common.{◌≡◌, ◌∙◌, length, arith}
use Rattle.directories.proofs.sequences.Parted.{node-items, node-start}
use Rattle.directories.proofs.sequences.Places.{set-left, set-middle, set-right}
use Rattle.directories.proofs.sequences.tree.Tree.+set.Goals as goal

pub returns-then-position-node-clause-items : goal.returns-then-position-node-clause-items
returns-then-position-node-clause-items g t c =
    let node = c.deref_mut-node.result.now in
    let same = rw c.in-Fork.node-is at c.deref_mut-node.ensures.value in
    let start = node-start c.self.inside.root c.in-Fork.node node c.self.invariant c.in-Fork.is same in
    rw (node-items c.args.self.now c.self.inside.root c.in-Fork.node node c.self.view_is c.in-Fork.is same, c.set.ensures.items)
    (set-left node.left.items node.items.items node.right.items c.args.position node.before start c.args.item c.if-position-node.true)

pub returns-then-here-size-clause-items : goal.returns-then-here-size-clause-items
returns-then-here-size-clause-items g t c =
    let node = c.deref_mut-node.result.now in
    let same = rw c.in-Fork.node-is at c.deref_mut-node.ensures.value in
    let start = node-start c.self.inside.root c.in-Fork.node node c.self.invariant c.in-Fork.is same in
    let size : c.len-size.result ≡ length node.items.items = c.len-size.ensures ∙ node.items.ok.0 in
    rw (node-items c.args.self.now c.self.inside.root c.in-Fork.node node c.self.view_is c.in-Fork.is same)
    (set-middle node.left.items node.items.items node.right.items c.args.position node.before start c.args.item c.if-position-node.false
    (omega (arith, size, c.if-here-size.true)))

pub returns-clause-items : goal.returns-clause-items
returns-clause-items g t c =
    let node = c.deref_mut-node.result.now in
    let same = rw c.in-Fork.node-is at c.deref_mut-node.ensures.value in
    let start = node-start c.self.inside.root c.in-Fork.node node c.self.invariant c.in-Fork.is same in
    let size : c.len-size.result ≡ length node.items.items = c.len-size.ensures ∙ node.items.ok.0 in
    rw (node-items c.args.self.now c.self.inside.root c.in-Fork.node node c.self.view_is c.in-Fork.is same, c.set-in-Fork.ensures.items, size)
    (set-right node.left.items node.items.items node.right.items c.args.position node.before start c.args.item c.if-position-node.false
    (omega (arith, size, c.if-here-size.false)))
