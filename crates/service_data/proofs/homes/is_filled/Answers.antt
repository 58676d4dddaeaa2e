use Rattle.std.proofs.Common.{ap, ◌∙◌, rules}
use Rattle.nfs_model.specs.volume.Stripes.{StripeValue, is_filled}
use Rattle.service_data.proofs.Placed.{home-found}
use Rattle.service_data.proofs.homes.is_filled.Goals as goal

pub returns : goal.returns
returns c =
    c.filled_in.ensures
    ∙ ap (λ (s : StripeValue). is_filled s c.args.fileid.0 c.args.block)
    (home-found c.args.held.now c.requires c.args.fileid.0 c.args.block _ c.home-place.result c.home-place.ensures.home (search rules))
