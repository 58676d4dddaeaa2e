use Rattle.parcels.proofs.OfKind.{is_range}
use Rattle.parcels.proofs.own.RangeNodeOwnParcelParcel.own_of.Goals as goal

pub returns-in_default : goal.returns-in_default
returns-in_default g c = record { own = tt; other = λ kind. is_range c.args.parcel kind c.in_default.not-Range }
