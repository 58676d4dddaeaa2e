use Rattle.std.proofs.Common.{◌∙◌}
use Rattle.filer_state.proofs.Begun.{if_ok, stripe-begun}
use Rattle.filer_state.proofs.opening.opening_stripe.Goals as goal

pub returns : goal.returns
returns c =
    if_ok (λ parcel is. is
    ∙ stripe-begun c.args.verifier.0 c.args.stripes c.args.largest c.new-stripe.result c.set_card.new.self c.new-stripe.ensures
    c.in_ok-set_card.ensures.ok) c.new.result c.new.ensures
