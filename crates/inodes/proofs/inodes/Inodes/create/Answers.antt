use Rattle.std.proofs.Common.{◌<◌, ◌∙◌, sym, subst, arith}
use Rattle.nfs_model.specs.volume.lemmas.Inodes.{created-is}
use Rattle.std.specs.FinMap.{len}
use Rattle.nfs_model.specs.volume.Inodes.{inodes_of_a_volume}
use Rattle.nfs_model.specs.volume.Inodes.{InodesValue}
use Rattle.inodes.specs.Inode.{inode_value, inodes_value}
use Rattle.inodes.proofs.Changes.{kept, created, none-next}
use Rattle.inodes.proofs.Few.{kept-few, created-few, used-most}
use Rattle.inodes.proofs.inodes.Inodes.create.Goals as goal

pub overflow_add-self-2 : goal.overflow_add-self-2
overflow_add-self-2 c =
    let old = inodes_value c.self.inside.next c.self.inside.used c.self.inside.by_fileid in
    let most = used-most old c.self.invariant.0 c.self.invariant.1 in
    omega (arith, most)

pub invariant_of-self-2 : goal.invariant_of-self-2
invariant_of-self-2 c =
    let old = inodes_value c.self.inside.next c.self.inside.used c.self.inside.by_fileid in
    let is = created c.self.inside.next c.self.inside.used c.self.inside.by_fileid c.insert.new.self c.args.inode c.from.result
    (c.from.ensures ∙ c.filled.ensures) c.in_ok-insert.ensures.ok in (
      kept _ _ is (created-is old (inode_value c.args.inode) c.self.invariant.0),
      kept-few _ _ is (created-few old (inode_value c.args.inode) c.self.invariant.0 c.self.invariant.1
          (subst (λ (v : InodesValue). len v.inodes < inodes_of_a_volume) (sym c.self.view_is) c.requires.room)
          (subst (λ n. n < 4294967296) c.filled.ensures c.filled.type_inv)),
    )

pub returns-clause-ok : goal.returns-clause-ok
returns-clause-ok c =
    rw (← c.self.view_is)
    (created c.self.inside.next c.self.inside.used c.self.inside.by_fileid c.insert.new.self c.args.inode c.from.result
    (c.from.ensures ∙ c.filled.ensures) c.in_ok-insert.ensures.ok)

pub insert-requires-clause-room : goal.insert-requires-clause-room
insert-requires-clause-room c = subst (λ (v : InodesValue). len v.inodes < inodes_of_a_volume) (sym c.self.view_is) c.requires.room

pub insert-requires-clause-absent : goal.insert-requires-clause-absent
insert-requires-clause-absent c = none-next c.self.inside.next c.self.inside.used c.self.inside.by_fileid c.self.invariant.0
