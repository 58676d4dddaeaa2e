use Rattle.std.proofs.Common.{ap, sym, subst, arith}
use Rattle.std.specs.FinMap.{get}
use Rattle.std.specs.Option.{option_map}
use Rattle.nfs_values.specs.Moment.{moment_of}
use Rattle.nfs_model.specs.volume.Inodes.{Inode, filled_blocks}
use Rattle.nfs_model.specs.volume.Logical.{LogicalValue}
use Rattle.inodes.specs.Inode.{inode_value, kind_value}
use Rattle.service_names.specs.NodesMade.{directories_in}
use Rattle.service_names.specs.Naming.{node_value}
use Rattle.service.specs.renames.Renaming.{IsWithin}
use Rattle.service.proofs.renames.Few.{within-now, blocks-more, used-set}
use Rattle.service.proofs.renames.Put.{dated-is, hung-is, put-in}
use Rattle.service.proofs.renames.moving.hang.Goals as goal

pub with_dates-dated-requires : goal.with_dates-dated-requires
with_dates-dated-requires c =
    (subst (λ (i : Inode). IsWithin i.kind) (sym c.directory_now-before.ensures)
    (within-now (get c.args.held.now.own.inodes.inodes c.args.between.to.fileid.0) (inode_value c.args.between.to.inode)
    (c.requires.within c.args.between.to.fileid.0) c.requires.to)).links

pub set_inode-requires-2 : goal.set_inode-requires-2
set_inode-requires-2 c =
    let w =
    subst (λ (i : Inode). IsWithin i.kind) (sym c.directory_now-before.ensures)
    (within-now (get c.args.held.now.own.inodes.inodes c.args.between.to.fileid.0) (inode_value c.args.between.to.inode)
    (c.requires.within c.args.between.to.fileid.0) c.requires.to) in
    let most = w.filled in
    let more = blocks-more (directories_in (kind_value c.args.child.inode.kind)) (kind_value c.directory_now-before.result.kind) in
    let dated = ap (λ (i : Inode). filled_blocks i.kind) c.with_dates-dated.ensures in
    let added = used-set c.args.between.to.fileid.0 (inode_value c.with_dates-dated.result) c.args.held.now.own.inodes in
    let first = ap (λ (l : LogicalValue). l.inodes.used) c.set_inode.ensures.own in
    let second = ap (λ (l : LogicalValue). l.inodes.used) c.take_touches-touch.ensures.own in
    let room = c.requires.used in
    omega arith

pub returns-clause-set : goal.returns-clause-set
returns-clause-set c =
    let old = c.args.held.now in
    let one = c.set_inode.new.held in
    let two = c.take_touches-touch.new.held in
    let new = c.set_inode-2.new.held in
    let b = c.args.between in
    let child = node_value c.args.child in
    let set = inode_value c.with_dates-dated.result in
    put-in old one two new b child set c.set_inode.ensures.own c.set_inode.ensures.stripes (inode_value c.hung_inode-hung.result)
    c.take_touches-touch.ensures.own c.take_touches-touch.ensures.taken c.set_inode-2.ensures.own c.set_inode-2.ensures.stripes
    (dated-is old one two new b child set c.set_inode.ensures.own c.set_inode.ensures.stripes (inode_value c.directory_now-before.result)
    c.directory_now-before.ensures c.with_dates-dated.ensures)
    (hung-is old one two new b child set c.set_inode.ensures.own c.set_inode.ensures.stripes (inode_value c.hung_inode-hung.result)
    (option_map moment_of c.take_touches-touch.result) c.take_touches-touch.ensures.latest
    c.hung_inode-hung.ensures.attributes c.hung_inode-hung.ensures.names c.hung_inode-hung.ensures.kind)
