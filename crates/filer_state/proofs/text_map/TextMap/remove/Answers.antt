use Rattle.std.proofs.Common.{ap, ◌∙◌}
use Rattle.std.specs.FinMap.{remove}
use Rattle.filer_state.proofs.FileidMaps.{removed-one}
use Rattle.filer_state.proofs.text_map.TextMap.remove.Goals as goal

pub returns : goal.returns
returns c =
    removed-one c.args.fileid.0 c.self.inside.by_fileid c.remove.new.self c.remove.ensures.updates.0
    ∙ ap (λ m. remove m c.args.fileid.0) c.self.view_is
