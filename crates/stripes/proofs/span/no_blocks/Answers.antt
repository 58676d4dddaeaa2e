use Rattle.std.proofs.Common.{◌≡◌, ◌<◌, ◌∙◌, sym, Option, None, replicate, get_or, arith, rules}
use Rattle.std.proofs.lemmas.List.{same_lists, length-replicate, get_or-replicate}
use Rattle.nfs_model.specs.volume.Stripes.{Block}
use Rattle.stripes.proofs.span.no_blocks.Goals as goal

pub returns : goal.returns
returns c =
    let h = c.from_fn.ensures.items in
    let none : Option Block = None in
    same_lists c.from_fn.result (replicate 64 none) (h.long ∙ sym (length-replicate 64 none)) (λ k d below.
    let called = h.at k d (let e : k < 64 = omega (arith, below, h.long) in e) in
    (let e : ◌≡◌ {A = Option Block} (get_or c.from_fn.result k d) None = search (rules, called.2) in e)
    ∙ sym (get_or-replicate 64 k none d (omega (arith, below, h.long))))
