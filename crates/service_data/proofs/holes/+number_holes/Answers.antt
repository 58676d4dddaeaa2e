use Rattle.std.proofs.Common.{◌<◌, length, arith}
use Rattle.service_data.proofs.Refilled.{mid-has, mid-enough, all-numbered}
use Rattle.service_data.proofs.holes.+number_holes.Goals as goal

pub number_holes-requires : goal.number_holes-requires
number_holes-requires t c =
    let cases = c.in-Some.ensures.cases in (
      (let long = cases.1 in let down = c.decreases in let less : length c.in-Some.rest.now < t = omega (arith, long, down) in less),
      (
        mid-has c.args.fileid.0 c.in-Some.block.now c.args.blocks.now c.in-Some.rest.now cases.0 c.args.held.now c.take_number-number.new.held
            c.number_block.new.held c.requires.stripes c.take_number-number.result.0 c.take_number-number.ensures.there c.take_number-number.ensures.own
            c.take_number-number.ensures.stripes c.number_block.ensures,
        mid-enough c.args.fileid.0 c.in-Some.block.now c.args.blocks.now c.in-Some.rest.now cases.0 c.args.held.now c.take_number-number.new.held
            c.number_block.new.held c.requires.stripes c.take_number-number.result.0 c.take_number-number.ensures.there c.take_number-number.ensures.own
            c.take_number-number.ensures.stripes c.number_block.ensures c.requires.enough,
      ),
    )

pub returns : goal.returns
returns t c =
    all-numbered c.args.fileid.0 c.in-Some.block.now c.args.blocks.now c.in-Some.rest.now c.in-Some.ensures.cases.0 c.args.held.now
    c.take_number-number.new.held c.number_block.new.held c.requires.stripes c.take_number-number.result.0 c.take_number-number.ensures.there
    c.take_number-number.ensures.own c.take_number-number.ensures.stripes c.number_block.ensures c.number_holes.new.held c.number_holes.ensures
