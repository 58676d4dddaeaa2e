use Rattle.std.proofs.Common.{◌+◌, ◌<◌, ◌≤◌, ◌^◌, ◌++◌, length, sym, ap, ◌∙◌, subst, vec_len, vec_capacity}
use Rattle.xdr.specs.Shape.{Chain, spelling}
use Rattle.nfs_values.specs.Answer.{entry_of}
use Rattle.nfs_types.specs.Results.{entry_shape, entry_value}
use Rattle.nfs_types.proofs.Rest.{told_twice}
use Rattle.nfs_types.proofs.lists.VecDirectoryEntryEncode.write.Goals as goal

pub write_items-requires-clause-short : goal.write_items-requires-clause-short
write_items-requires-clause-short c =
    let same = told_twice entry_value entry_of c.deref.result.now c.args.self.now.items c.deref.ensures.value in
    subst (λ v. length (spelling (Chain entry_shape) v) < 2 ^ 32) same c.requires.short

pub write_items-requires-clause-room : goal.write_items-requires-clause-room
write_items-requires-clause-room c =
    let same = told_twice entry_value entry_of c.deref.result.now c.args.self.now.items c.deref.ensures.value in
    subst (λ v. vec_len c.args.out.now + length (spelling (Chain entry_shape) v) ≤ vec_capacity c.args.out.now) same c.requires.room

pub returns-clause-items : goal.returns-clause-items
returns-clause-items c =
    let same = told_twice entry_value entry_of c.deref.result.now c.args.self.now.items c.deref.ensures.value in
    c.write_items.ensures.items ∙ ap (λ v. c.args.out.now.items ++ spelling (Chain entry_shape) v) (sym same)
