use Rattle.std.proofs.Common.{ap, ◌∙◌, ◌+◌, ◌/◌, ◌%◌, ℕ}
use Rattle.nfs_model.specs.volume.Stripes.{span_blocks}
use Rattle.nfs_model.specs.volume.Logical.{LogicalValue}
use Rattle.service_data.proofs.Placed.{home-is}
use Rattle.service_data.proofs.homes.home.Goals as goal

pub returns-clause-home : goal.returns-clause-home
returns-clause-home c =
    let many = c.from-stripes.ensures ∙ ap (λ (l : LogicalValue). l.stripes) c.get.ensures in
    home-is c.args.fileid.0 c.args.block c.args.held.now.own.stripes _
    (ap (λ (n : ℕ). (c.args.fileid.0 % n + c.args.block / span_blocks % n) % n) many)
