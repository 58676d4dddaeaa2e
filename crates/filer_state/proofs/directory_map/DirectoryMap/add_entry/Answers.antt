use Rattle.std.proofs.Common.{◌≡◌, ◌<◌, ◌^◌, None, IfSome, sym, ap, subst, ◌∙◌}
use Rattle.std.specs.FinMap.{get}
use Rattle.nfs_model.specs.volume.Directories.{DirectoryValue, added, found}
use Rattle.nfs_model.specs.volume.Maps.{changed_at}
use Rattle.filer_state.proofs.FileidMaps.{get-at, changed-one, same-all, on_ok, on_err}
use Rattle.filer_state.proofs.directory_map.DirectoryMap.add_entry.Goals as goal

pub add_at-requires-clause-cookies : goal.add_at-requires-clause-cookies
add_at-requires-clause-cookies c =
    subst (λ o. IfSome o (λ (d : DirectoryValue). d.next < 2 ^ 63))
    (ap (λ m. get m c.args.directory.0) (sym c.self.view_is) ∙ get-at c.self.inside.by_fileid c.args.directory.0) c.requires.cookies

pub add_at-requires-clause-absent : goal.add_at-requires-clause-absent
add_at-requires-clause-absent c =
    subst (λ o. IfSome o (λ (d : DirectoryValue). found d c.args.name ≡ None))
    (ap (λ m. get m c.args.directory.0) (sym c.self.view_is) ∙ get-at c.self.inside.by_fileid c.args.directory.0) c.requires.absent

pub returns-clause-ok : goal.returns-clause-ok
returns-clause-ok c =
    let g = added c.args.name c.args.fileid.0 in
    on_ok (λ changes. changed-one g c.args.directory.0 c.self.inside.by_fileid c.add_at.new.by_fileid changes
    ∙ ap (changed_at g c.args.directory.0) c.self.view_is) c.add_at.result c.add_at.ensures.ok

pub returns-clause-err : goal.returns-clause-err
returns-clause-err c =
    on_err (λ same. same-all c.self.inside.by_fileid c.add_at.new.by_fileid same ∙ c.self.view_is) c.add_at.result c.add_at.ensures.err
