use Rattle.std.proofs.Common.{◌≡◌, ◌++◌, ◌+◌, ◌-◌, ◌∙◌, ap, sym, List, ℕ, take, drop, map, arith}
use Rattle.std.specs.List.{range_with_len}
use Rattle.nfs_model.specs.volume.Stripes.{byte_of}
use Rattle.stripes.proofs.Ranges.{take-drop, zeros}
use Rattle.stripes.proofs.span.append.Goals as goal

pub returns-in-Some-clause-items : goal.returns-in-Some-clause-items
returns-in-Some-clause-items c =
    let start = c.args.start in
    let size = c.args.size in
    let bytes = c.in-Some.block.bytes in
    let same : start + size - start ≡ size = omega arith in
    c.keep.ensures.items ∙ ap (λ (l : List ℕ). c.args.into.now.items ++ l) (
    ap (λ n. take n (drop start c.bytes.result.now)) same ∙ ap (λ l. take size (drop start l)) c.bytes.ensures.bytes
    ∙ take-drop bytes start size (omega (arith, c.bytes.ensures.long))
    ∙ sym (ap (λ o. map (byte_of o) (range_with_len start size)) c.in-Some.is))

pub returns-in-None-clause-items : goal.returns-in-None-clause-items
returns-in-None-clause-items c =
    c.put_zeros.ensures.items ∙ ap (λ (l : List ℕ). c.args.into.now.items ++ l)
    (zeros (byte_of c.args.place.now) c.args.start c.args.size (λ i. ap (λ o. byte_of o i) c.in-None.is))
