use Rattle.std.proofs.Common.{ap, arith}
use Rattle.std.specs.Option.{option_map}
use Rattle.nfs_values.specs.Moment.{moment_of}
use Rattle.nfs_model.specs.volume.Inodes.{Inode, filled_blocks}
use Rattle.nfs_model.specs.volume.Logical.{LogicalValue}
use Rattle.inodes.specs.Inode.{inode_value, kind_value}
use Rattle.service_names.specs.NodesMade.{directories_in}
use Rattle.service_names.specs.Naming.{node_value}
use Rattle.service.proofs.renames.Few.{used-set, within-left}
use Rattle.service.proofs.renames.Put.{counted-is, put-out}
use Rattle.service.proofs.renames.dropping.drop_name.Goals as goal

pub set_inode-requires-2 : goal.set_inode-requires-2
set_inode-requires-2 c =
    let few = (within-left (directories_in (kind_value c.args.child.inode.kind)) (kind_value c.args.directory.inode.kind) c.requires.within).filled in
    let left = ap (λ (i : Inode). filled_blocks i.kind) c.directory_left-left.ensures in
    let added = used-set c.args.directory.fileid.0 (inode_value c.directory_left-left.result) c.args.held.now.own.inodes in
    let first = ap (λ (l : LogicalValue). l.inodes.used) c.set_inode.ensures.own in
    let second = ap (λ (l : LogicalValue). l.inodes.used) c.take_touches-touch.ensures.own in
    let room = c.requires.used in
    omega arith

pub returns-clause-set : goal.returns-clause-set
returns-clause-set c v name =
    let old = c.args.held.now in
    let one = c.set_inode.new.held in
    let two = c.take_touches-touch.new.held in
    let new = c.set_inode-2.new.held in
    let d = c.args.directory in
    let child = node_value c.args.child in
    let moment = moment_of c.args.moment in
    let left = inode_value c.directory_left-left.result in
    let counted = inode_value c.counted_inode-counted.result in
    put-out old one two new v d.fileid.0 (inode_value d.inode) name moment child left c.set_inode.ensures.own c.set_inode.ensures.stripes counted
    c.take_touches-touch.ensures.own c.take_touches-touch.ensures.taken c.set_inode-2.ensures.own c.set_inode-2.ensures.stripes
    c.directory_left-left.ensures
    (counted-is old one two new v d.fileid.0 (inode_value d.inode) name moment child left c.set_inode.ensures.own c.set_inode.ensures.stripes counted
    (option_map moment_of c.take_touches-touch.result) c.take_touches-touch.ensures.latest c.counted_inode-counted.ensures.attributes
    c.counted_inode-counted.ensures.names (ap kind_value c.counted_inode-counted.ensures.kind))
