use Rattle.nfs_values.specs.Moment.{moment_of}
use Rattle.inodes.specs.Inode.{inode_value}
use Rattle.service_names.specs.Naming.{node_value}
use Rattle.service_names.proofs.Gone.{emptied-left, emptied-gone}
use Rattle.service_names.proofs.dropping.drop_file.Goals as goal

pub returns-clause-inode : goal.returns-clause-inode
returns-clause-inode c v =
    emptied-left c.args.held.now c.empty_file-inode.new.held c.drop_node.new.held v c.args.directory.fileid.0 (inode_value c.args.directory.inode)
    c.args.name.now (moment_of c.args.moment) (node_value c.args.child) (inode_value c.empty_file-inode.result) (inode_value c.drop_node.result)
    c.empty_file-inode.ensures.inode (c.drop_node.ensures.inode v)

pub returns-clause-set : goal.returns-clause-set
returns-clause-set c v =
    emptied-gone c.args.held.now c.empty_file-inode.new.held c.drop_node.new.held v c.args.directory.fileid.0 (inode_value c.args.directory.inode)
    c.args.name.now (moment_of c.args.moment) (node_value c.args.child) (inode_value c.empty_file-inode.result) (inode_value c.drop_node.result)
    c.empty_file-inode.ensures.inode c.empty_file-inode.ensures.set (c.drop_node.ensures.set v)
