use Rattle.std.proofs.Common.{◌∙◌, is_some, sym, ap}
use Rattle.std.specs.FinMap.{get}
use Rattle.stripes.specs.Spans.{place_in}
use Rattle.stripes.proofs.Law.{get-blocks_of}
use Rattle.stripes.proofs.blocks.Blocks.is_filled.Goals as goal

pub returns-in-Some : goal.returns-in-Some
returns-in-Some c =
    c.has.ensures ∙ ap (λ o. is_some (place_in o c.args.block)) c.in-Some.ensures.value
    ∙ ap is_some (sym (get-blocks_of c.self.inside.spans.entries (c.args.fileid, c.args.block)))
    ∙ ap (λ m. is_some (get m (c.args.fileid, c.args.block))) c.self.view_is

pub returns-in-None : goal.returns-in-None
returns-in-None c =
    ap (λ o. is_some (place_in o c.args.block)) c.in-None.ensures.value
    ∙ ap is_some (sym (get-blocks_of c.self.inside.spans.entries (c.args.fileid, c.args.block)))
    ∙ ap (λ m. is_some (get m (c.args.fileid, c.args.block))) c.self.view_is
