use Rattle.std.proofs.Common.{◌+◌, ◌<◌, ◌≤◌, ◌^◌, ◌++◌, length, sym, ap, ◌∙◌, subst, vec_len, vec_capacity}
use Rattle.xdr.specs.Shape.{Chain, spelling}
use Rattle.nfs_values.specs.Answer.{entry_plus_of}
use Rattle.nfs_types.specs.Results.{entry_plus_shape, entry_plus_value}
use Rattle.nfs_types.proofs.Rest.{told_twice}
use Rattle.nfs_types.proofs.plus.VecDirectoryEntryPlusEncode.write.Goals as goal

pub write_chain-requires-clause-short : goal.write_chain-requires-clause-short
write_chain-requires-clause-short c =
    let same = told_twice entry_plus_value entry_plus_of c.deref.result.now c.args.self.now.items c.deref.ensures.value in
    subst (λ v. length (spelling (Chain entry_plus_shape) v) < 2 ^ 32) same c.requires.short

pub write_chain-requires-clause-room : goal.write_chain-requires-clause-room
write_chain-requires-clause-room c =
    let same = told_twice entry_plus_value entry_plus_of c.deref.result.now c.args.self.now.items c.deref.ensures.value in
    subst (λ v. vec_len c.args.out.now + length (spelling (Chain entry_plus_shape) v) ≤ vec_capacity c.args.out.now) same c.requires.room

pub returns-clause-items : goal.returns-clause-items
returns-clause-items c =
    let same = told_twice entry_plus_value entry_plus_of c.deref.result.now c.args.self.now.items c.deref.ensures.value in
    c.write_chain.ensures.items ∙ ap (λ v. c.args.out.now.items ++ spelling (Chain entry_plus_shape) v) (sym same)
