use Rattle.stripes.proofs.block.Block.zero.Goals as goal

pub returns : goal.returns
returns c = λ i. record { number = c.args.number.0; bytes = c.in_ok-bytes.ensures.ok i }
