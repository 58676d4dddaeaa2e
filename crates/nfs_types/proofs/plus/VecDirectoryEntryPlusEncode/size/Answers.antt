use Rattle.std.proofs.Common.{◌<◌, ◌^◌, length, sym, ap, ◌∙◌, subst}
use Rattle.xdr.specs.Shape.{Chain, spelling}
use Rattle.nfs_values.specs.Answer.{entry_plus_of}
use Rattle.nfs_types.specs.Results.{entry_plus_shape, entry_plus_value}
use Rattle.nfs_types.proofs.Rest.{told_twice}
use Rattle.nfs_types.proofs.plus.VecDirectoryEntryPlusEncode.size.Goals as goal

pub size_of_chain-requires : goal.size_of_chain-requires
size_of_chain-requires c =
    let same = told_twice entry_plus_value entry_plus_of c.deref.result.now c.args.self.now.items c.deref.ensures.value in
    subst (λ v. length (spelling (Chain entry_plus_shape) v) < 2 ^ 32) same c.requires

pub returns : goal.returns
returns c =
    let same = told_twice entry_plus_value entry_plus_of c.deref.result.now c.args.self.now.items c.deref.ensures.value in
    c.size_of_chain.ensures ∙ ap (λ v. length (spelling (Chain entry_plus_shape) v)) (sym same)
