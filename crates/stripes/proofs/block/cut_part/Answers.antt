use Rattle.std.proofs.Common.{◌-◌, length, refl, arith}
use Rattle.stripes.proofs.Bytes.{part-cut}
use Rattle.stripes.proofs.block.cut_part.Goals as goal

pub returns : goal.returns
returns c =
    part-cut c.args.part.now c.fill.new.self c.args.start c.args.size (c.args.size - c.args.start) (length c.args.part.now - (c.args.size - c.args.start))
    refl c.requires.within (omega arith) (c.fill.ensures.after (λ y e. e))
