use Rattle.parcels.proofs.OfKind.{is_vbn}
use Rattle.parcels.proofs.own.VbnNodeOwnParcelParcel.own_of.Goals as goal

pub returns-in_default : goal.returns-in_default
returns-in_default g c = record { own = tt; other = λ kind. is_vbn c.args.parcel kind c.in_default.not-Vbn }
