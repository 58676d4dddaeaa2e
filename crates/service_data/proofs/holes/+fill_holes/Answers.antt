use Rattle.std.proofs.Common.{◌<◌, length, arith, subst, sym}
use Rattle.service_data.specs.Stripes.{HasStripes}
use Rattle.service_data.proofs.Refilled.{rest-there, rest-rises, rest-are, all-filled, undone}
use Rattle.service_data.proofs.holes.+fill_holes.Goals as goal

pub fill_holes-requires : goal.fill_holes-requires
fill_holes-requires t c =
    let cases = c.in-Some.ensures.cases in (
      (let long = cases.1 in let down = c.decreases in let less : length c.in-Some.rest.now < t = omega (arith, long, down) in less),
      (
        rest-there c.args.fileid.0 c.in-Some.block.now c.args.holes.now c.in-Some.rest.now cases.0 c.args.held.now c.fill_block.new.held
            c.requires.stripes c.requires.rise c.requires.holes c.in-Ok.ensures.ok,
        (
          rest-rises c.args.fileid.0 c.in-Some.block.now c.args.holes.now c.in-Some.rest.now cases.0 c.args.held.now c.fill_block.new.held
              c.requires.stripes c.requires.rise c.requires.holes c.in-Ok.ensures.ok,
          rest-are c.args.fileid.0 c.in-Some.block.now c.args.holes.now c.in-Some.rest.now cases.0 c.args.held.now c.fill_block.new.held
              c.requires.stripes c.requires.rise c.requires.holes c.in-Ok.ensures.ok,
        ),
      ),
    )

pub empty_block-requires : goal.empty_block-requires
empty_block-requires t c = subst HasStripes (sym c.in-Err-fill_holes.ensures.err)
    (rest-there c.args.fileid.0 c.in-Some.block.now c.args.holes.now c.in-Some.rest.now c.in-Some.ensures.cases.0 c.args.held.now c.fill_block.new.held
    c.requires.stripes c.requires.rise c.requires.holes c.in-Ok.ensures.ok)

pub returns-in-Ok-fill_holes-clause-ok : goal.returns-in-Ok-fill_holes-clause-ok
returns-in-Ok-fill_holes-clause-ok t c =
    all-filled c.args.fileid.0 c.in-Some.block.now c.args.holes.now c.in-Some.rest.now c.in-Some.ensures.cases.0 c.args.held.now c.fill_block.new.held
    c.requires.stripes c.requires.rise c.requires.holes c.in-Ok.ensures.ok c.fill_holes.new.held c.in-Ok-fill_holes.ensures.ok

pub returns-in-Err-fill_holes-clause-err : goal.returns-in-Err-fill_holes-clause-err
returns-in-Err-fill_holes-clause-err t c =
    undone c.args.fileid.0 c.in-Some.block.now c.args.holes.now c.in-Some.rest.now c.in-Some.ensures.cases.0 c.args.held.now c.fill_block.new.held
    c.requires.stripes c.requires.rise c.requires.holes c.in-Ok.ensures.ok c.fill_holes.new.held c.empty_block.new.held
    c.in-Err-fill_holes.ensures.err c.empty_block.ensures
