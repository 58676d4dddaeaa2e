use Rattle.std.proofs.Common.{◌≡◌, ◌+◌, ◌-◌, take, drop, ap, ◌∙◌, arith}
use borrow.Rule.Slice.PartMut.{put_mid}
use Rattle.stripes.proofs.Bytes.{part-written}
use Rattle.stripes.proofs.block.write_part.Goals as goal

pub returns : goal.returns
returns c =
    let at = c.saturating_sub-at.result in
    let skipped = c.saturating_sub-skipped.result in
    let n = c.min-n.result in
    ap (λ m. put_mid at m c.args.part.now c.copy_from_slice.new.self) (let e : at + n - at ≡ n = omega arith in e)
    ∙ part-written c.args.part.now c.args.written.now c.copy_from_slice.new.self c.args.start c.args.offset at skipped n
    c.saturating_sub-at.ensures c.saturating_sub-skipped.ensures c.min-n.ensures c.requires.met c.requires.reached
    (c.copy_from_slice.ensures.after ∙ ap (λ m. take m (drop skipped c.args.written.now)) (let e : skipped + n - skipped ≡ n = omega arith in e))
