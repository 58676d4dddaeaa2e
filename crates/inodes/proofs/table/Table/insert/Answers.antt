use Rattle.std.proofs.Common.{◌≡◌, ◌<◌, ◌+◌, sym, ap, subst, ◌∙◌, None, arith}
use Rattle.std.specs.Ordering.{nat_cmp}
use Rattle.std.specs.FinMap.{FinMap, get, insert, len}
use Rattle.nfs_model.specs.volume.Inodes.{inodes_of_a_volume}
use Rattle.nfs_model.specs.volume.Inodes as values
use Rattle.chunk_maps.specs.Maps.{values_of}
use Rattle.inodes.specs.Inode.{inode_value}
use Rattle.chunk_maps.specs.MapLaws.{put-values, same-values, len-put, on-err}
use Rattle.inodes.proofs.table.Table.insert.Goals as goal

pub overflow_add-self : goal.overflow_add-self
overflow_add-self c =
    let few : len (values_of c.self.inside.chunks) < inodes_of_a_volume =
    subst (λ (m : FinMap nat_cmp values.Inode). len m < inodes_of_a_volume) (sym c.self.view_is) c.requires.room in
    omega (arith, few, c.self.invariant)

pub invariant_of-self : goal.invariant_of-self
invariant_of-self c = c.self.invariant ∙ sym (ap (λ m. len m) (same-values c.self.inside.chunks c.put.new.self c.in_err-put.ensures.err))

pub invariant_of-self-2 : goal.invariant_of-self-2
invariant_of-self-2 c =
    let old = values_of c.self.inside.chunks in
    let none : get old c.args.fileid.0 ≡ None = subst (λ (m : FinMap nat_cmp values.Inode). get m c.args.fileid.0
    ≡ None) (sym c.self.view_is) c.requires.absent in
    ap (λ n. n + 1) c.self.invariant
    ∙ sym (ap (λ m. len m) (put-values c.args.fileid.0 (inode_value c.args.inode) c.self.inside.chunks c.put.new.self c.in_ok-put.ensures.ok)
    ∙ len-put c.args.fileid.0 (inode_value c.args.inode) old none)

pub returns-clause-ok : goal.returns-clause-ok
returns-clause-ok c =
    put-values c.args.fileid.0 (inode_value c.args.inode) c.self.inside.chunks c.put.new.self c.in_ok-put.ensures.ok
    ∙ ap (λ m. insert m c.args.fileid.0 (inode_value c.args.inode)) c.self.view_is

pub returns-in_err-put-clause-err : goal.returns-in_err-put-clause-err
returns-in_err-put-clause-err c = on-err c.from_residual.result (same-values c.self.inside.chunks c.put.new.self c.in_err-put.ensures.err ∙ c.self.view_is)
