use Rattle.std.proofs.Common.{sym, ap, ◌∙◌}
use Rattle.std.specs.FinMap.{get}
use Rattle.filer_state.proofs.FileidMaps.{get-at}
use Rattle.filer_state.proofs.directory_map.DirectoryMap.get.Goals as goal

pub returns : goal.returns
returns c = c.get.ensures.value ∙ sym (get-at c.self.inside.by_fileid c.args.fileid.0) ∙ ap (λ m. get m c.args.fileid.0) c.self.view_is
