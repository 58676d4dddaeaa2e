use Rattle.std.proofs.Common.{◌≡◌, ◌∙◌, length, arith}
use Rattle.directories.proofs.sequences.Parted.{node-items, node-start}
use Rattle.directories.proofs.sequences.Places.{positions-left, positions-right}
use Rattle.directories.proofs.sequences.tree.Tree.+narrowed.Goals as goal

pub returns-then-high-start-clause-positions : goal.returns-then-high-start-clause-positions
returns-then-high-start-clause-positions g t c = λ all h.
    let node = c.deref-node.result.now in
    let start = node-start c.self.inside.root c.in-Fork.node node c.self.invariant c.in-Fork.is c.deref-node.ensures in
    let items = node-items c.args.self.now c.self.inside.root c.in-Fork.node node c.self.view_is c.in-Fork.is c.deref-node.ensures in
    c.narrowed.ensures.positions all
    (positions-left all node.left.items node.items.items node.right.items c.args.low c.args.high c.args.first (rw items at h)
    (omega (arith, start, c.if-high-start.true)))

pub returns-then-end-low-clause-positions : goal.returns-then-end-low-clause-positions
returns-then-end-low-clause-positions g t c = λ all h.
    let node = c.deref-node.result.now in
    let start = node-start c.self.inside.root c.in-Fork.node node c.self.invariant c.in-Fork.is c.deref-node.ensures in
    let items = node-items c.args.self.now c.self.inside.root c.in-Fork.node node c.self.view_is c.in-Fork.is c.deref-node.ensures in
    let size : c.len.result ≡ length node.items.items = c.len.ensures ∙ node.items.ok.0 in
    c.narrowed-then-end-low.ensures.positions all
    (positions-right all node.left.items node.items.items node.right.items c.args.low c.args.high c.args.first (rw items at h) _
    (omega (arith, start, size)) c.if-end-low.true)
