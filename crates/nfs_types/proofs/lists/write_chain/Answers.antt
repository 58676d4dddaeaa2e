use Rattle.std.proofs.Common.{◌≡◌, ◌+◌, ◌++◌, length, drop, refl, ap, ◌∙◌, arith}
use Rattle.std.proofs.lemmas.List.{length-append}
use Rattle.xdr.specs.Shape.{word, spelling}
use Rattle.nfs_types.proofs.Rest.{chain_spelled, chain_more, item_more}
use Rattle.nfs_types.proofs.lists.write_chain.Goals as goal

pub loop-item-preserved : goal.loop-item-preserved
loop-item-preserved g c =
    let x = c.item-item.result in
    let spelled = chain_spelled g.T.Encode.shape g.T.Encode.value in
    let one = spelling g.T.Encode.shape (g.T.Encode.value x) in
    let rest = spelled (drop (c.loop-item.item-index + 1) c.args.items.now) in
    let e : spelled (drop c.loop-item.item-index c.args.items.now) ≡ word 1 ++
    (one ++ rest) = chain_more g.T.Encode.shape g.T.Encode.value c.args.items.now c.loop-item.item-index x (omega arith) c.item-item.is in
    let h = item_more c.loop-item.out.items c.write.new.out.items (word 1) (one ++ rest) _ _ e c.loop-item.invariant.0 c.write.ensures.items in
    let whole : length (spelled (drop c.loop-item.item-index c.args.items.now)) ≡ 4 + (length one + length rest) = omega
    (arith, ap length e, length-append one rest) in
    let first : length c.write.new.out.items ≡ length c.loop-item.out.items + 4 = ap length c.write.ensures.items
    ∙ length-append c.loop-item.out.items (word 1) in
    let second : length c.write-in-loop-item.new.out.items ≡ length c.write.new.out.items + length
    one = ap length c.write-in-loop-item.ensures.items ∙ length-append c.write.new.out.items one in (
      item_more c.write.new.out.items c.write-in-loop-item.new.out.items one rest _ _ refl h c.write-in-loop-item.ensures.items,
      omega (arith, whole, first, second),
      omega (arith, whole),
      omega arith,
    )
