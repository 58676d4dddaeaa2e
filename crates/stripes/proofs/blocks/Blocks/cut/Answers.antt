use Rattle.std.proofs.Common.{sym, ap, ◌∙◌}
use Rattle.stripes.specs.Spans.{numbers_past, cut_blocks}
use Rattle.stripes.proofs.Cut.{freed-numbers, freed-cut, spans-left, tail-numbers}
use Rattle.stripes.proofs.Called.{long-blocks, last-spans, last-cut}
use Rattle.stripes.proofs.blocks.Blocks.cut.Goals as goal

pub invariant_of-self : goal.invariant_of-self
invariant_of-self c =
    spans-left c.args.fileid c.args.size c.first_past-first.result c.take_from.new.freed c.self.inside.spans.entries c.take_from.new.spans.entries
    c.self.invariant (c.take_from.ensures.taken c.if-take_from.true)

pub returns-then-take_from-clause-freed : goal.returns-then-take_from-clause-freed
returns-then-take_from-clause-freed c = λ _.
    sym (ap (numbers_past c.args.fileid c.args.size) c.self.view_is)
    ∙ freed-numbers c.args.fileid c.args.size c.first_past-first.result c.take_from.new.freed c.self.inside.spans.entries c.take_from.new.spans.entries
    c.first_past-first.ensures (c.take_from.ensures.taken c.if-take_from.true)

pub returns-then-take_from-clause-rest : goal.returns-then-take_from-clause-rest
returns-then-take_from-clause-rest c = λ _.
    freed-cut c.args.fileid c.args.size c.first_past-first.result c.take_from.new.freed c.self.inside.spans.entries c.take_from.new.spans.entries
    c.first_past-first.ensures (c.take_from.ensures.taken c.if-take_from.true)
    ∙ ap (cut_blocks c.args.fileid c.args.size) c.self.view_is

pub returns-then-take_from-clause-long : goal.returns-then-take_from-clause-long
returns-then-take_from-clause-long c =
    long-blocks c.take_from.new.spans.entries
    (spans-left c.args.fileid c.args.size c.first_past-first.result c.take_from.new.freed c.self.inside.spans.entries c.take_from.new.spans.entries
    c.self.invariant (c.take_from.ensures.taken c.if-take_from.true))

pub invariant_of-self-2 : goal.invariant_of-self-2
invariant_of-self-2 c =
    last-spans c.args.fileid c.args.size c.first_past-first.result c.self.inside.spans.entries c.take_from.new.spans.entries c.zero_tail.new.spans.entries
    c.self.invariant c.first_past-first.ensures (c.take_from.ensures.kept c.if-take_from.false) (c.take_from.ensures.none c.if-take_from.false)
    c.zero_tail.ensures

pub returns-clause-none : goal.returns-clause-none
returns-clause-none c = λ _.
    sym (ap (numbers_past c.args.fileid c.args.size) c.self.view_is)
    ∙ tail-numbers c.args.fileid c.args.size c.first_past-first.result c.self.inside.spans.entries c.take_from.new.spans.entries
    c.first_past-first.ensures (c.take_from.ensures.none c.if-take_from.false)

pub returns-clause-done : goal.returns-clause-done
returns-clause-done c = λ _.
    last-cut c.args.fileid c.args.size c.first_past-first.result c.self.inside.spans.entries c.take_from.new.spans.entries c.zero_tail.new.spans.entries
    c.self.invariant c.first_past-first.ensures (c.take_from.ensures.kept c.if-take_from.false) (c.take_from.ensures.none c.if-take_from.false)
    c.zero_tail.ensures
    ∙ ap (cut_blocks c.args.fileid c.args.size) c.self.view_is

pub returns-clause-long : goal.returns-clause-long
returns-clause-long c =
    long-blocks c.zero_tail.new.spans.entries
    (last-spans c.args.fileid c.args.size c.first_past-first.result c.self.inside.spans.entries c.take_from.new.spans.entries c.zero_tail.new.spans.entries
    c.self.invariant c.first_past-first.ensures (c.take_from.ensures.kept c.if-take_from.false) (c.take_from.ensures.none c.if-take_from.false)
    c.zero_tail.ensures)
