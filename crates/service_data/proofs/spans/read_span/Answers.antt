use Rattle.std.proofs.Common.{◌+◌, ◌/◌, ◌%◌, ap, ◌∙◌, ◌++◌, ℕ, List, rules}
use Rattle.nfs_model.specs.Home.{span_bytes}
use Rattle.nfs_model.specs.volume.Logical.{LogicalValue}
use Rattle.service_data.proofs.Spanned.{span-read, span-there}
use Rattle.service_data.proofs.spans.read_span.Goals as goal

pub returns-clause-bytes : goal.returns-clause-bytes
returns-clause-bytes c =
    let held = c.args.held.now in
    let many = c.from-stripes.ensures ∙ ap (λ (l : LogicalValue). l.stripes) c.get.ensures in
    let home = ap (λ (n : ℕ). (c.args.fileid.0 % n + c.args.offset / span_bytes % n) % n) many in
    c.read_place.ensures.bytes (span-there held c.requires.stripes c.args.fileid.0 c.args.offset _ _ (search rules) home)
    ∙ ap (λ (l : List ℕ). c.args.into.now.items ++ l)
    (span-read held c.requires.stripes c.args.fileid.0 c.args.offset c.args.n _ _ (search rules) home c.requires.span)
