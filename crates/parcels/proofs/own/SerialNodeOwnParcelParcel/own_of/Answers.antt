use Rattle.parcels.proofs.OfKind.{is_serial}
use Rattle.parcels.proofs.own.SerialNodeOwnParcelParcel.own_of.Goals as goal

pub returns-in_default : goal.returns-in_default
returns-in_default g c = record { own = tt; other = λ kind. is_serial c.args.parcel kind c.in_default.not-Serial }
