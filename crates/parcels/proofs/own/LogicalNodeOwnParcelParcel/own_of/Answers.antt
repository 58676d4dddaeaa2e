use Rattle.parcels.proofs.OfKind.{is_logical}
use Rattle.parcels.proofs.own.LogicalNodeOwnParcelParcel.own_of.Goals as goal

pub returns-in_default : goal.returns-in_default
returns-in_default g c = record { own = tt; other = λ kind. is_logical c.args.parcel kind c.in_default.not-Logical }
