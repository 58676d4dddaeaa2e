use Rattle.std.proofs.Common.{◌∙◌, arith}
use Rattle.xdr.specs.Shape.{Value}
use Rattle.nfs_types.specs.Arguments.{writing_shape}
use Rattle.nfs_types.specs.Stable.{stable_word}
use Rattle.nfs_types.specs.lemmas.Bytes.{are_bytes}
use Rattle.nfs_types.proofs.InPlace.{rest-is, stands, asked-is}
use Rattle.nfs_types.proofs.arguments.write_in_place.Goals as goal

pub overflow_sub-start-2 : goal.overflow_sub-start-2
overflow_sub-start-2 c =
    let bytes = c.args.record.items in
    let w = c.in_ok-handle in
    (stands bytes _ c.args.from c.len.result (w.handle, (w.offset, (w.count, (stable_word w._stable, w.written.now))))
    (are_bytes bytes (λ i lt. omega (arith, lt))) (rest-is bytes c.deref.result.now c.args.from c.deref.ensures.value) w.ensures
    (c.len.ensures ∙ c.args.record.ok.0)).fits

pub part-requires : goal.part-requires
part-requires c =
    let bytes = c.args.record.items in
    let w = c.in_ok-handle in
    (stands bytes _ c.args.from c.len.result (w.handle, (w.offset, (w.count, (stable_word w._stable, w.written.now))))
    (are_bytes bytes (λ i lt. omega (arith, lt))) (rest-is bytes c.deref.result.now c.args.from c.deref.ensures.value) w.ensures
    (c.len.ensures ∙ c.args.record.ok.0)).within

pub returns : goal.returns
returns c =
    let bytes = c.args.record.items in
    let w = c.in_ok-handle in
    let v : Value writing_shape = (w.handle, (w.offset, (w.count, (stable_word w._stable, w.written.now)))) in
    let same = rest-is bytes c.deref.result.now c.args.from c.deref.ensures.value in
    let fits = are_bytes bytes (λ i lt. omega (arith, lt)) in
    asked-is bytes _ c.args.from c.len.result v fits same w.ensures c.part.result
    (c.part.ensures ∙ (stands bytes _ c.args.from c.len.result v fits same w.ensures (c.len.ensures ∙ c.args.record.ok.0)).there)
