use Rattle.service_names.proofs.Carded.{card-stays}
use Rattle.service_names.proofs.cutting.size_stripe.Goals as goal

pub put_there-requires : goal.put_there-requires
put_there-requires c =
    card-stays c.args.fileid.0 c.args.size c.args.stripe.now c.take_touch.new.self c.cut_stripe-left.new.stripe c.requires.card c.take_touch.ensures.taken
    c.cut_stripe-left.ensures.cut
