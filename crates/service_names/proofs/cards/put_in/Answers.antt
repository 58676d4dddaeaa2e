use Rattle.std.proofs.Common.{rules}
use Rattle.nfs_values.specs.Ownership.{ownership_of}
use Rattle.inodes.specs.Inode.{kind_value}
use Rattle.service_names.proofs.Putting.{put-else}
use Rattle.service_names.proofs.cards.put_in.Goals as goal

pub returns-in-RegularFile-clause-others : goal.returns-in-RegularFile-clause-others
returns-in-RegularFile-clause-others c =
    put-else c.args.fileid.0 (ownership_of c.args.owner) c.args.stripe.now (kind_value c.args.kind) c.set_card.new.self c.set_card.result
    (search rules) c.set_card.ensures.err

pub returns-in-Directory-clause-others : goal.returns-in-Directory-clause-others
returns-in-Directory-clause-others c =
    put-else c.args.fileid.0 (ownership_of c.args.owner) c.args.stripe.now (kind_value c.args.kind) c.set_card-in-Directory.new.self
    c.set_card-in-Directory.result
    (search rules) c.set_card-in-Directory.ensures.err

pub returns-in-Special-clause-others : goal.returns-in-Special-clause-others
returns-in-Special-clause-others c =
    put-else c.args.fileid.0 (ownership_of c.args.owner) c.args.stripe.now (kind_value c.args.kind) c.set_card-in-Special.new.self
    c.set_card-in-Special.result
    (search rules) c.set_card-in-Special.ensures.err
