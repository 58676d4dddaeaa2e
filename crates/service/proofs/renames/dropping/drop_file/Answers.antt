use Rattle.nfs_values.specs.Moment.{moment_of}
use Rattle.inodes.specs.Inode.{inode_value}
use Rattle.service_names.specs.Naming.{node_value}
use Rattle.service.proofs.renames.Emptied.{emptied-then-gone}
use Rattle.service.proofs.renames.dropping.drop_file.Goals as goal

pub returns-clause-set : goal.returns-clause-set
returns-clause-set c v name =
    emptied-then-gone c.args.held.now c.size_file-inode.new.held c.drop_node.new.held v c.args.directory.fileid.0 (inode_value c.args.directory.inode) name
    (moment_of c.args.moment) (node_value c.args.child) (inode_value c.size_file-inode.result) c.size_file-inode.ensures.inode
    c.size_file-inode.ensures.set (c.drop_node.ensures.set v name)
