use Rattle.std.proofs.Common.{◌≡◌, ◌∙◌, ◌-◌, sym, arith, length}
use Rattle.std.proofs.lemmas.Option.{slice_get_read}
use Rattle.directories.proofs.sequences.Places.{get-middle, get-far, remove-middle, remove-right, remove-only}
use Rattle.directories.proofs.sequences.change.+removed.Goals as goal

pub returns-then-size-eq1-clause-items : goal.returns-then-size-eq1-clause-items
returns-then-size-eq1-clause-items g t c =
    let p = c.in-Some.parts in
    let size : c.len-size.result ≡ length p.chunk.value.items.items = rw c.deref.ensures at c.len-size.ensures ∙ p.chunk.value.items.ok.0 in
    rw (c.merged.ensures.items, c.in-Some.ensures.items)
    (remove-only p.left.items p.chunk.value.items.items p.right.items c.args.position c.len-2.result c.len-2.ensures (omega arith)
    (omega (arith, size, c.if-here-size.true)) (sym size ∙ c.if-size-eq1.true))

pub returns-then-size-eq1-clause-item : goal.returns-then-size-eq1-clause-item
returns-then-size-eq1-clause-item g t c =
    let p = c.in-Some.parts in
    let size : c.len-size.result ≡ length p.chunk.value.items.items = rw c.deref.ensures at c.len-size.ensures ∙ p.chunk.value.items.ok.0 in
    let read = rw c.deref_mut.ensures.value at c.remove-item.ensures.value in
    rw c.in-Some.ensures.items
    (get-middle p.left.items p.chunk.value.items.items p.right.items c.args.position c.len-2.result c.len-2.ensures c.remove-item.result (omega arith)
    (slice_get_read p.chunk.value.items.items c.len-size.result (c.args.position - c.len-2.result) c.remove-item.result size c.if-here-size.true read))

pub returns-then-here-size-clause-items : goal.returns-then-here-size-clause-items
returns-then-here-size-clause-items g t c =
    let p = c.in-Some.parts in
    let size : c.len-size.result ≡ length p.chunk.value.items.items = rw c.deref.ensures at c.len-size.ensures ∙ p.chunk.value.items.ok.0 in
    rw (c.join.ensures.items, c.remove-item.ensures.items, c.in-Some.ensures.items, c.deref_mut.ensures.value)
    (remove-middle p.left.items p.chunk.value.items.items p.right.items c.args.position c.len-2.result c.len-2.ensures (omega arith)
    (omega (arith, size, c.if-here-size.true)))

pub returns-then-here-size-clause-item : goal.returns-then-here-size-clause-item
returns-then-here-size-clause-item g t c =
    let p = c.in-Some.parts in
    let size : c.len-size.result ≡ length p.chunk.value.items.items = rw c.deref.ensures at c.len-size.ensures ∙ p.chunk.value.items.ok.0 in
    let read = rw c.deref_mut.ensures.value at c.remove-item.ensures.value in
    rw c.in-Some.ensures.items
    (get-middle p.left.items p.chunk.value.items.items p.right.items c.args.position c.len-2.result c.len-2.ensures c.remove-item.result (omega arith)
    (slice_get_read p.chunk.value.items.items c.len-size.result (c.args.position - c.len-2.result) c.remove-item.result size c.if-here-size.true read))

pub returns-clause-items : goal.returns-clause-items
returns-clause-items g t c =
    let p = c.in-Some.parts in
    let size : c.len-size.result ≡ length p.chunk.value.items.items = rw c.deref.ensures at c.len-size.ensures ∙ p.chunk.value.items.ok.0 in
    rw (c.balance-2.ensures.items, c.removed-right.ensures.items, c.in-Some.ensures.items, size)
    (remove-right p.left.items p.chunk.value.items.items p.right.items c.args.position c.len-2.result c.len-2.ensures (omega arith)
    (omega (arith, size, c.if-here-size.false)))

pub returns-clause-item : goal.returns-clause-item
returns-clause-item g t c =
    let p = c.in-Some.parts in
    let size : c.len-size.result ≡ length p.chunk.value.items.items = rw c.deref.ensures at c.len-size.ensures ∙ p.chunk.value.items.ok.0 in
    rw c.in-Some.ensures.items
    (get-far p.left.items p.chunk.value.items.items p.right.items c.args.position c.len-2.result c.len-2.ensures c.removed-right.result.1 (omega arith)
    (omega (arith, size, c.if-here-size.false)) (rw size at c.removed-right.ensures.item))
