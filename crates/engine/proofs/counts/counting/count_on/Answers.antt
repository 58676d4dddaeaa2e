use Rattle.std.proofs.Common.{sym, ap, ◌∙◌}
use Rattle.nfs_model.specs.Tree.{stripes_of}
use Rattle.filer_state.specs.state.Sets.{volume_placed}
use Rattle.engine.specs.counts.Counts.{counts_in}
use Rattle.engine.proofs.counts.Tallied.{no-blocks}
use Rattle.engine.proofs.counts.counting.count_on.Goals as goal

pub returns-in-None : goal.returns-in-None
returns-in-None c = λ layout.
    no-blocks (stripes_of layout c.args.volume) ∙ ap (λ o. counts_in (volume_placed layout o c.args.volume)) (sym c.in-None.is)
