use Rattle.stripes.proofs.Whole.{whole-taken}
use Rattle.stripes.proofs.spans.take_whole.Goals as goal

pub returns : goal.returns
returns c =
    whole-taken (c.args.fileid, c.args.number) c.pass_on.new.freed c.in-Some.span c.args.spans.now.entries c.take_out.new.spans.entries c.requires.filled
    c.in-Some.ensures.there c.pass_on.ensures c.in-Some.ensures.taken
