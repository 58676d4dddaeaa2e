use Rattle.std.proofs.Common.{◌≡◌, ◌+◌, ◌++◌, length, drop, ap, arith}
use Rattle.std.proofs.lemmas.List.{length-append}
use Rattle.xdr.specs.Shape.{word}
use Rattle.nfs_values.specs.Answer.{entry_of}
use Rattle.nfs_types.specs.Results.{entry_shape, entry_value}
use Rattle.nfs_types.proofs.Item.{length-item}
use Rattle.nfs_types.proofs.Rest.{entries_spelled, entry_spelled, chain_more, item_more}
use Rattle.nfs_types.proofs.lists.write_items.Goals as goal

pub loop-entry-preserved : goal.loop-entry-preserved
loop-entry-preserved c =
    let out = c.loop-entry.out.items in
    let new = c.write_item.new.out.items in
    let i = c.loop-entry.entry-index in
    let x = c.entry-item.result in
    let one = entry_spelled x in
    let rest = entries_spelled (drop (i + 1) c.args.entries.now) in
    let e : entries_spelled (drop i c.args.entries.now) ≡ (word 1 ++ one) ++ rest =
    chain_more entry_shape (λ e. entry_value (entry_of e)) c.args.entries.now i x (omega arith) c.entry-item.is in
    let whole : length (entries_spelled (drop i c.args.entries.now)) ≡ 4 + (length one + length rest) = omega (arith, ap length e, length-append one rest) in
    let more : length new ≡ length out + (4 + length one) = length-item out one new c.write_item.ensures.items in (
      item_more out new (word 1 ++ one) rest _ _ e c.loop-entry.invariant.0 c.write_item.ensures.items,
      omega (arith, whole, more),
      omega (arith, whole),
      omega arith,
    )
