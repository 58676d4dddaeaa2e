use Rattle.std.proofs.Common.{◌-◌, sym, ap, ◌∙◌, arith}
use Rattle.std.specs.Option.{option_map}
use Rattle.std.specs.FinMap.{get, len, remove}
use Rattle.chunk_maps.specs.Maps.{values_of}
use Rattle.inodes.specs.Inode.{inode_value}
use Rattle.chunk_maps.specs.MapLaws.{get-values_of, removed-values, len-gone, len-none, len-some}
use Rattle.inodes.proofs.table.Table.remove.Goals as goal

pub invariant_of-self : goal.invariant_of-self
invariant_of-self c =
    let old = values_of c.self.inside.chunks in
    c.self.invariant
    ∙ sym (ap (λ m. len m) (removed-values c.args.fileid.0 c.self.inside.chunks c.remove.new.self c.in_err-inode.ensures.gone)
    ∙ len-none c.args.fileid.0 old (get-values_of c.self.inside.chunks c.args.fileid.0 ∙ sym c.in_err-inode.ensures.item))

pub overflow_sub-self : goal.overflow_sub-self
overflow_sub-self c =
    let some = len-some c.args.fileid.0 (inode_value c.in_ok-inode.inode) (values_of c.self.inside.chunks)
    (get-values_of c.self.inside.chunks c.args.fileid.0 ∙ sym c.in_ok-inode.ensures.item) in
    omega (arith, some, c.self.invariant)

pub invariant_of-self-2 : goal.invariant_of-self-2
invariant_of-self-2 c =
    let old = values_of c.self.inside.chunks in
    ap (λ n. n - 1) c.self.invariant
    ∙ sym (ap (λ m. len m) (removed-values c.args.fileid.0 c.self.inside.chunks c.remove.new.self c.in_ok-inode.ensures.gone)
    ∙ len-gone c.args.fileid.0 (inode_value c.in_ok-inode.inode) old (get-values_of c.self.inside.chunks c.args.fileid.0 ∙ sym c.in_ok-inode.ensures.item))

pub returns-clause-inode : goal.returns-clause-inode
returns-clause-inode c =
    c.in_ok-inode.ensures.item ∙ sym (get-values_of c.self.inside.chunks c.args.fileid.0) ∙ ap (λ m. get m c.args.fileid.0) c.self.view_is

pub returns-clause-gone : goal.returns-clause-gone
returns-clause-gone c =
    removed-values c.args.fileid.0 c.self.inside.chunks c.remove.new.self c.in_ok-inode.ensures.gone
    ∙ ap (λ m. remove m c.args.fileid.0) c.self.view_is

pub returns-in_err-inode-clause-inode : goal.returns-in_err-inode-clause-inode
returns-in_err-inode-clause-inode c =
    ap (option_map inode_value) c.from_residual.ensures ∙ c.in_err-inode.ensures.item ∙ sym (get-values_of c.self.inside.chunks c.args.fileid.0)
    ∙ ap (λ m. get m c.args.fileid.0) c.self.view_is

pub returns-in_err-inode-clause-gone : goal.returns-in_err-inode-clause-gone
returns-in_err-inode-clause-gone c =
    removed-values c.args.fileid.0 c.self.inside.chunks c.remove.new.self c.in_err-inode.ensures.gone
    ∙ ap (λ m. remove m c.args.fileid.0) c.self.view_is
