use Rattle.std.proofs.Common.{ℕ, ap, sym, ◌∙◌}
use Rattle.std.specs.Option.{option_map}
use Rattle.nfs_model.specs.volume.Inodes.{InodeKind, RegularFile}
use Rattle.nfs_values.specs.declared.verifier.Verifier.{Verifier}
use Rattle.nfs_values.specs.Attributes.{shown_of}
use Rattle.nfs_values.specs.Moment.{moment_of}
use Rattle.inodes.specs.Inode.{attributes_value, kind_value}
use Rattle.filer_state.specs.state.Changes.{shown_kind}
use Rattle.service_names.proofs.Shows.{file-shown}
use Rattle.service_names.proofs.showing.shown.Goals as goal

pub returns-in-RegularFile : goal.returns-in-RegularFile
returns-in-RegularFile c =
    let v = c.args.volume.0 in
    let f = c.args.fileid.0 in
    let a = attributes_value c.args.inode.attributes in
    let names = c.args.inode.names in
    let touch = option_map moment_of c.args.touch in
    file-shown v f a (attributes_value c.with_touch-now.result) touch names c.in-RegularFile.size c.from.result (option_map (λ (x : Verifier). x.0) c.in-RegularFile.verifier)
    (shown_of c.shown_empty.result) c.with_touch-now.ensures c.shown_empty.ensures
    ∙ ap (λ (n : ℕ). shown_kind v f a names (RegularFile c.in-RegularFile.size n (option_map (λ (x : Verifier). x.0) c.in-RegularFile.verifier)) touch)
    c.from.ensures
    ∙ ap (λ (k : InodeKind). shown_kind v f a names k touch) (sym (ap kind_value c.in-RegularFile.is))
