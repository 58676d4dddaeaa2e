use Rattle.std.proofs.Common.{◌≡◌, ◌∙◌, ap, arith}
use Rattle.std.specs.Ordering.{nat_cmp}
use Rattle.std.specs.FinMap.{FinMap, get, len, get-empty, len-empty}
use Rattle.nfs_model.specs.volume.Inodes as values
use Rattle.nfs_model.specs.volume.lemmas.Inodes.{opening-is}
use Rattle.nfs_values.specs.Moment.{moment_of}
use Rattle.nfs_values.specs.Ownership.{ownership_of}
use Rattle.inodes.specs.Inode.{inode_value}
use Rattle.inodes.proofs.Changes.{kept, opened}
use Rattle.inodes.proofs.Few.{kept-few, opening-few}
use Rattle.inodes.proofs.inodes.Inodes.new.Goals as goal

pub invariant_of-result : goal.invariant_of-result
invariant_of-result c =
    let is = opened (ownership_of c.args.owner) (moment_of c.args.begun) (inode_value c.root.result) c.new-by_fileid.result c.insert.new.self c.root.ensures
    c.new-by_fileid.ensures c.in_ok-insert.ensures.ok in
    (kept _ _ is (opening-is (ownership_of c.args.owner) (moment_of c.args.begun)), kept-few _ _ is (opening-few (ownership_of c.args.owner) (moment_of c.args.begun)))

pub returns : goal.returns
returns c =
    opened (ownership_of c.args.owner) (moment_of c.args.begun) (inode_value c.root.result) c.new-by_fileid.result c.insert.new.self c.root.ensures
    c.new-by_fileid.ensures c.in_ok-insert.ensures.ok

pub insert-requires-clause-room : goal.insert-requires-clause-room
insert-requires-clause-room c =
    let none : len c.new-by_fileid.result ≡ 0 =
    ap (λ (m : FinMap nat_cmp values.Inode). len m) c.new-by_fileid.ensures ∙ len-empty nat_cmp values.Inode in
    omega (arith, none)

pub insert-requires-clause-absent : goal.insert-requires-clause-absent
insert-requires-clause-absent c = ap (λ (m : FinMap nat_cmp values.Inode). get m 1) c.new-by_fileid.ensures ∙ get-empty nat_cmp 1
