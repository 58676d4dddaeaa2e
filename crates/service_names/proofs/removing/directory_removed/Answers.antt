use Rattle.std.proofs.Common.{arith}
use Rattle.inodes.specs.Inode.{inode_value}
use Rattle.filer_state.specs.state.Sets.{logical_before}
use Rattle.service_names.specs.lemmas.Whole.{whole-links}
use Rattle.service_names.specs.lemmas.Nodes.{whole-used}
use Rattle.service_names.proofs.removing.directory_removed.Goals as goal

pub drop_directory-requires-clause-used : goal.drop_directory-requires-clause-used
drop_directory-requires-clause-used c = let most = whole-used c.args.volume.0 (logical_before c.args.held.now) c.requires.whole in omega arith

pub drop_directory-requires-clause-links : goal.drop_directory-requires-clause-links
drop_directory-requires-clause-links c =
    whole-links c.args.volume.0 (logical_before c.args.held.now) c.requires.whole c.args.directory.0 (inode_value c.in-Ok.inode) c.in-Ok.ensures.there
