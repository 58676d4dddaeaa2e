use Rattle.parcels.proofs.OfKind.{is_stripe}
use Rattle.parcels.proofs.own.StripeNodeOwnParcelParcel.own_of.Goals as goal

pub returns-in_default : goal.returns-in_default
returns-in_default g c = record { own = tt; other = λ kind. is_stripe c.args.parcel kind c.in_default.not-Stripe }
