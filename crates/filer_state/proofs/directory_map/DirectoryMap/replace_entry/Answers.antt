use Rattle.std.proofs.Common.{◌<◌, ◌^◌, IfSome, sym, ap, subst, ◌∙◌}
use Rattle.std.specs.FinMap.{get}
use Rattle.nfs_model.specs.volume.Directories.{DirectoryValue, added, removed}
use Rattle.nfs_model.specs.volume.Maps.{changed_at}
use Rattle.filer_state.proofs.FileidMaps.{get-at, changed-one, same-all, on_ok, on_err}
use Rattle.filer_state.proofs.directory_map.DirectoryMap.replace_entry.Goals as goal

pub replace_at-requires : goal.replace_at-requires
replace_at-requires c =
    subst (λ o. IfSome o (λ (d : DirectoryValue). d.next < 2 ^ 63))
    (ap (λ m. get m c.args.directory.0) (sym c.self.view_is) ∙ get-at c.self.inside.by_fileid c.args.directory.0) c.requires

pub returns-clause-ok : goal.returns-clause-ok
returns-clause-ok c =
    let g = λ (d : DirectoryValue). added c.args.name c.args.fileid.0 (removed c.args.name d) in
    on_ok (λ changes. changed-one g c.args.directory.0 c.self.inside.by_fileid c.replace_at.new.by_fileid changes
    ∙ ap (changed_at g c.args.directory.0) c.self.view_is) c.replace_at.result c.replace_at.ensures.ok

pub returns-clause-err : goal.returns-clause-err
returns-clause-err c =
    on_err (λ same. same-all c.self.inside.by_fileid c.replace_at.new.by_fileid same ∙ c.self.view_is) c.replace_at.result
    c.replace_at.ensures.err
