use Rattle.std.proofs.Common.{ap, ◌∙◌}
use Rattle.std.specs.FinMap.{insert}
use Rattle.filer_state.proofs.FileidMaps.{put-one, same-all, on_ok, on_err}
use Rattle.filer_state.proofs.directory_map.DirectoryMap.insert.Goals as goal

pub returns-clause-ok : goal.returns-clause-ok
returns-clause-ok c =
    on_ok (λ puts. put-one c.args.fileid.0 c.args.directory c.self.inside.by_fileid c.put.new.by_fileid puts
    ∙ ap (λ m. insert m c.args.fileid.0 c.args.directory) c.self.view_is) c.put.result c.put.ensures.ok

pub returns-clause-err : goal.returns-clause-err
returns-clause-err c = on_err (λ same. same-all c.self.inside.by_fileid c.put.new.by_fileid same ∙ c.self.view_is) c.put.result c.put.ensures.err
