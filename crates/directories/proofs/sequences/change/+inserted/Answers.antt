use Rattle.std.proofs.Common.{◌≡◌, ◌∙◌, ◌-◌, arith, length}
use Rattle.directories.proofs.sequences.Places.{insert-middle, insert-apart, insert-right, upper-fits}
use Rattle.directories.proofs.sequences.change.+inserted.Goals as goal

pub returns-then-size-capacity-clause-items : goal.returns-then-size-capacity-clause-items
returns-then-size-capacity-clause-items g t c =
    let p = c.in-Some.parts in
    let size : c.len-size.result ≡ length p.chunk.value.items.items = rw c.deref.ensures at c.len-size.ensures ∙ p.chunk.value.items.ok.0 in
    rw (c.join.ensures.items, c.put.ensures, c.in-Some.ensures.items, c.deref_mut.ensures.value)
    (insert-middle p.left.items p.chunk.value.items.items p.right.items c.args.position c.len-2.result c.len-2.ensures c.args.item (omega arith)
    (omega (arith, size, c.if-here-size.true)))

pub with_first-right-requires-clause-fits : goal.with_first-right-requires-clause-fits
with_first-right-requires-clause-fits g t c =
    let p = c.in-Some.parts in
    let size : c.len-size.result ≡ length p.chunk.value.items.items = rw c.deref.ensures at c.len-size.ensures ∙ p.chunk.value.items.ok.0 in
    let apart = rw c.deref_mut-then-here-size-2.ensures.value at c.split.ensures.items in
    upper-fits c.args.tree.items p.left.items p.chunk.value.items.items p.right.items c.split.new.chunk.items c.split.new.upper.items
    (c.args.position - c.len-2.result) c.args.item _ c.in-Some.ensures.items apart (omega (arith, size, c.if-here-size-2.true)) c.requires.fits

pub returns-then-here-size-2-clause-items : goal.returns-then-here-size-2-clause-items
returns-then-here-size-2-clause-items g t c =
    let p = c.in-Some.parts in
    let size : c.len-size.result ≡ length p.chunk.value.items.items = rw c.deref.ensures at c.len-size.ensures ∙ p.chunk.value.items.ok.0 in
    let apart = rw c.deref_mut-then-here-size-2.ensures.value at c.split.ensures.items in
    rw (c.balance-then-here-size-2.ensures.items, c.with_first-right.ensures.items, c.in-Some.ensures.items)
    (insert-apart p.left.items p.chunk.value.items.items p.right.items c.args.position c.len-2.result c.len-2.ensures c.args.item
    c.split.new.chunk.items c.split.new.upper.items apart (omega arith) (omega (arith, size, c.if-here-size-2.true)))

pub returns-clause-items : goal.returns-clause-items
returns-clause-items g t c =
    let p = c.in-Some.parts in
    let size : c.len-size.result ≡ length p.chunk.value.items.items = rw c.deref.ensures at c.len-size.ensures ∙ p.chunk.value.items.ok.0 in
    rw (c.balance-2.ensures.items, c.inserted-right.ensures.items, c.in-Some.ensures.items, size)
    (insert-right p.left.items p.chunk.value.items.items p.right.items c.args.position c.len-2.result c.len-2.ensures c.args.item (omega arith)
    (omega (arith, size, c.if-here-size-2.false)))
