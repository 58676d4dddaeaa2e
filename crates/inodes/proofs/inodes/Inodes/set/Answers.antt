use Rattle.std.proofs.Common.{◌<◌, ◌∙◌, sym, subst, arith}
use Rattle.nfs_model.specs.volume.lemmas.Inodes.{set-is}
use Rattle.inodes.specs.Inode.{inode_value, inodes_value}
use Rattle.inodes.proofs.Changes.{kept, within, set, set-nothing}
use Rattle.inodes.proofs.Few.{kept-few, set-few, set-few-absent, used-most}
use Rattle.inodes.proofs.inodes.Inodes.set.Goals as goal

pub overflow_sub-left : goal.overflow_sub-left
overflow_sub-left c =
    within c.self.inside.next c.self.inside.used c.self.inside.by_fileid c.replace.new.self c.args.fileid.0 c.in-Some.old c.from.result
    c.self.invariant.0 c.in-Some.ensures.old (c.from.ensures ∙ c.filled.ensures)

pub overflow_add-self : goal.overflow_add-self
overflow_add-self c =
    let most =
    used-most (inodes_value c.self.inside.next c.self.inside.used c.self.inside.by_fileid) c.self.invariant.0 c.self.invariant.1 in
    omega (arith, most)

pub invariant_of-self : goal.invariant_of-self
invariant_of-self c =
    let old = inodes_value c.self.inside.next c.self.inside.used c.self.inside.by_fileid in
    let is = set c.self.inside.next c.self.inside.used c.self.inside.by_fileid c.replace.new.self c.args.fileid.0 c.args.inode
    c.in-Some.old c.from.result c.from-in-Some.result (c.from.ensures ∙ c.filled.ensures) (c.from-in-Some.ensures ∙ c.filled-in-Some.ensures)
    c.in-Some.ensures.old c.in-Some.ensures.replaced in (
      kept _ _ is (set-is old c.args.fileid.0 (inode_value c.args.inode) c.self.invariant.0),
      kept-few _ _ is (set-few old c.args.fileid.0 (inode_value c.args.inode) c.self.invariant.1
          (subst (λ n. n < 4294967296) c.filled-in-Some.ensures c.filled-in-Some.type_inv)),
    )

pub invariant_of-self-in_default : goal.invariant_of-self-in_default
invariant_of-self-in_default c =
    let old = inodes_value c.self.inside.next c.self.inside.used c.self.inside.by_fileid in
    let is = set-nothing c.self.inside.next c.self.inside.used c.self.inside.by_fileid c.replace.new.self c.args.fileid.0 c.args.inode
    c.in_default.ensures.old c.in_default.ensures.replaced in (
      kept _ _ is (set-is old c.args.fileid.0 (inode_value c.args.inode) c.self.invariant.0),
      kept-few _ _ is (set-few-absent old c.args.fileid.0 (inode_value c.args.inode)
          (sym c.in_default.ensures.old) c.self.invariant.1),
    )

pub returns-in-Some : goal.returns-in-Some
returns-in-Some c =
    rw (← c.self.view_is)
    (set c.self.inside.next c.self.inside.used c.self.inside.by_fileid c.replace.new.self c.args.fileid.0 c.args.inode c.in-Some.old
    c.from.result c.from-in-Some.result (c.from.ensures ∙ c.filled.ensures) (c.from-in-Some.ensures ∙ c.filled-in-Some.ensures) c.in-Some.ensures.old
    c.in-Some.ensures.replaced)

pub returns-in_default : goal.returns-in_default
returns-in_default c =
    rw (← c.self.view_is)
    (set-nothing c.self.inside.next c.self.inside.used c.self.inside.by_fileid c.replace.new.self c.args.fileid.0 c.args.inode
    c.in_default.ensures.old c.in_default.ensures.replaced)
