use Rattle.std.proofs.Common.{◌++◌, List, ℕ, sym, ap, ◌∙◌}
use Rattle.stripes.specs.Spans.{blocks_read}
use Rattle.stripes.proofs.Called.{reads-some, reads-none}
use Rattle.stripes.proofs.blocks.Blocks.read.Goals as goal

pub returns-in-Some-clause-bytes : goal.returns-in-Some-clause-bytes
returns-in-Some-clause-bytes c =
    let before = c.args.into.now.items in
    c.read.ensures.bytes
    ∙ ap (λ (l : List ℕ). before ++ l) (reads-some c.self.inside.spans.entries c.args.fileid c.args.offset c.args.n c.in-Some.span.now c.requires.span
    (sym c.in-Some.ensures.value)
    ∙ ap (λ m. blocks_read m c.args.fileid c.args.offset c.args.n) c.self.view_is)

pub returns-in-None-clause-bytes : goal.returns-in-None-clause-bytes
returns-in-None-clause-bytes c =
    let before = c.args.into.now.items in
    c.put_zeros.ensures.items
    ∙ ap (λ (l : List ℕ). before ++ l) (reads-none c.self.inside.spans.entries c.args.fileid c.args.offset c.args.n c.requires.span
    (sym c.in-None.ensures.value)
    ∙ ap (λ m. blocks_read m c.args.fileid c.args.offset c.args.n) c.self.view_is)
