use Rattle.std.proofs.Common.{ap, sym, ◌∙◌, None}
use Rattle.nfs_model.specs.volume.Inodes.{InodeKind}
use Rattle.inodes.specs.Inode.{attributes_value, inode_value, kind_value}
use Rattle.filer_state.specs.state.Changes.{shown_inode, shown_kind}
use Rattle.filer_state.specs.state.Sets.{logical_before}
use Rattle.filer_state.specs.state.Tree.{file_touch}
use Rattle.service_names.proofs.showing.shown_now.Goals as goal

pub returns-in-RegularFile : goal.returns-in-RegularFile
returns-in-RegularFile c =
    c.shown.ensures ∙ ap (shown_inode c.args.volume.0 c.args.fileid.0 (inode_value c.args.inode)) c.latest_touch.ensures

pub returns-in-Directory : goal.returns-in-Directory
returns-in-Directory c =
    let v = c.args.volume.0 in
    let q = c.args.fileid.0 in
    let a = attributes_value c.args.inode.attributes in
    let is = ap kind_value c.in-Directory.is in
    c.shown-in-Directory.ensures
    ∙ (ap (λ (k : InodeKind). shown_kind v q a c.args.inode.names k None) is
    ∙ sym (ap (λ (k : InodeKind). shown_kind v q a c.args.inode.names k (file_touch (logical_before c.args.held.now).stripes q)) is))

pub returns-in-Special : goal.returns-in-Special
returns-in-Special c =
    let v = c.args.volume.0 in
    let q = c.args.fileid.0 in
    let a = attributes_value c.args.inode.attributes in
    let is = ap kind_value c.in-Special.is in
    c.shown-in-Special.ensures
    ∙ (ap (λ (k : InodeKind). shown_kind v q a c.args.inode.names k None) is
    ∙ sym (ap (λ (k : InodeKind). shown_kind v q a c.args.inode.names k (file_touch (logical_before c.args.held.now).stripes q)) is))
