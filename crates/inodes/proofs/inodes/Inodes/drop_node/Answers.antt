use Rattle.std.proofs.Common.{◌∙◌}
use Rattle.nfs_model.specs.volume.lemmas.Inodes.{dropped-is}
use Rattle.inodes.specs.Inode.{inodes_value}
use Rattle.inodes.proofs.Changes.{kept, within, dropped, dropped-nothing}
use Rattle.inodes.proofs.Few.{kept-few, dropped-few}
use Rattle.inodes.proofs.inodes.Inodes.drop_node.Goals as goal

pub overflow_sub-self : goal.overflow_sub-self
overflow_sub-self c =
    within c.self.inside.next c.self.inside.used c.self.inside.by_fileid c.remove.new.self c.args.fileid.0 c.in-Some.inode c.from.result
    c.self.invariant.0 c.in-Some.ensures.inode (c.from.ensures ∙ c.filled.ensures)

pub invariant_of-self : goal.invariant_of-self
invariant_of-self c =
    let old = inodes_value c.self.inside.next c.self.inside.used c.self.inside.by_fileid in
    let is = dropped c.self.inside.next c.self.inside.used c.self.inside.by_fileid c.remove.new.self c.args.fileid.0 c.in-Some.inode
    c.from.result (c.from.ensures ∙ c.filled.ensures) c.in-Some.ensures.inode c.in-Some.ensures.gone in
    (kept _ _ is (dropped-is old c.args.fileid.0 c.self.invariant.0), kept-few _ _ is (dropped-few old c.args.fileid.0 c.self.invariant.1))

pub returns-in-Some : goal.returns-in-Some
returns-in-Some c =
    rw (← c.self.view_is)
    (dropped c.self.inside.next c.self.inside.used c.self.inside.by_fileid c.remove.new.self c.args.fileid.0 c.in-Some.inode c.from.result
    (c.from.ensures ∙ c.filled.ensures) c.in-Some.ensures.inode c.in-Some.ensures.gone)

pub returns-in_default : goal.returns-in_default
returns-in_default c =
    rw (← c.self.view_is)
    (dropped-nothing c.self.inside.next c.self.inside.used c.self.inside.by_fileid c.remove.new.self c.args.fileid.0
    c.in_default.ensures.inode c.in_default.ensures.gone)

pub invariant_of-self-in_default : goal.invariant_of-self-in_default
invariant_of-self-in_default c =
    let old = inodes_value c.self.inside.next c.self.inside.used c.self.inside.by_fileid in
    let is = dropped-nothing c.self.inside.next c.self.inside.used c.self.inside.by_fileid c.remove.new.self c.args.fileid.0
    c.in_default.ensures.inode c.in_default.ensures.gone in
    (kept _ _ is (dropped-is old c.args.fileid.0 c.self.invariant.0), kept-few _ _ is (dropped-few old c.args.fileid.0 c.self.invariant.1))
