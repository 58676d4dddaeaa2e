use Rattle.std.proofs.Common.{◌<◌, length, arith, refl}
use Rattle.nfs_model.specs.volume.Stripes.{block_numbered}
use Rattle.service_data.specs.Places.{home_held}
use Rattle.service_data.proofs.Dealt.{taken-has, mid-has, mid-enough, all-dealt, none-dealt}
use Rattle.service_data.proofs.parts.+number_blocks.Goals as goal

pub returns-in_default : goal.returns-in_default
returns-in_default t c = none-dealt c.args.fileid.0 c.args.blocks.now c.args.held.now c.in_default.ensures.cases c.requires.stripes

pub number_block-requires : goal.number_block-requires
number_block-requires t c =
    taken-has c.args.fileid.0 c.in-Some.block.now c.take_number-number.result.0 c.args.blocks.now c.in-Some.rest.now c.in-Some.ensures.cases.0
    c.args.held.now c.take_number-number.new.held
    (home_held c.args.fileid.0 c.in-Some.block.now (block_numbered c.args.fileid.0 c.in-Some.block.now c.take_number-number.result.0)
    c.take_number-number.new.held.logical)
    c.requires.stripes c.take_number-number.ensures.leaves c.take_number-number.ensures.stripes
    c.take_number-number.ensures.count c.take_number-number.ensures.alike refl

pub number_blocks-requires : goal.number_blocks-requires
number_blocks-requires t c =
    let cases = c.in-Some.ensures.cases in (
      (let long = cases.1 in let down = c.decreases in let less : length c.in-Some.rest.now < t = omega (arith, long, down) in less),
      (
        mid-has c.args.fileid.0 c.in-Some.block.now c.take_number-number.result.0 c.args.blocks.now c.in-Some.rest.now cases.0
            c.args.held.now c.take_number-number.new.held c.number_block.new.held c.requires.stripes c.take_number-number.ensures.leaves
            c.take_number-number.ensures.stripes c.take_number-number.ensures.count c.take_number-number.ensures.alike c.number_block.ensures,
        mid-enough c.args.fileid.0 c.in-Some.block.now c.take_number-number.result.0 c.args.blocks.now c.in-Some.rest.now cases.0
            c.args.held.now c.take_number-number.new.held c.number_block.new.held c.requires.stripes c.take_number-number.ensures.leaves
            c.take_number-number.ensures.stripes c.take_number-number.ensures.count c.take_number-number.ensures.alike c.number_block.ensures
            c.requires.enough,
      ),
    )

pub returns : goal.returns
returns t c =
    all-dealt c.args.fileid.0 c.in-Some.block.now c.take_number-number.result.0 c.args.blocks.now c.in-Some.rest.now c.in-Some.ensures.cases.0
    c.args.held.now c.take_number-number.new.held c.number_block.new.held c.requires.stripes c.take_number-number.ensures.leaves
    c.take_number-number.ensures.stripes c.take_number-number.ensures.count c.take_number-number.ensures.alike c.number_block.ensures
    c.number_blocks.new.held c.number_blocks.ensures
