use Rattle.std.proofs.Common.{refl, ◌∷◌}
use Rattle.depot_rule.specs.Seats.{view_of}
use Rattle.depot.proofs.Holding.{nothing, untaken-is, taken-there, taken-gone, taken-others, taken-else}
use Rattle.depot.proofs.hold.HoldShelfParcel.take.Goals as goal

pub take_parcel-requires-clause-ready : goal.take_parcel-requires-clause-ready
take_parcel-requires-clause-ready g c =
    let hold = c.args.self.now in
    let u = untaken-is (view_of hold.place.me.0) hold.node c.args.node c.requires.0 c.requires.1 in
    (hold.one.0, nothing hold.place.me.1 hold.one.1, u.pos, hold.free, u.home, hold.tree)

pub take_parcel-requires-clause-granted : goal.take_parcel-requires-clause-granted
take_parcel-requires-clause-granted g c =
    let hold = c.args.self.now in
    let u = untaken-is (view_of hold.place.me.0) hold.node c.args.node c.requires.0 c.requires.1 in
    (hold.node, u.grant, c.requires.0, u.has, u.cover, u.lists)

pub returns-clause-there : goal.returns-clause-there
returns-clause-there g c =
    let hold = c.args.self.now in
    taken-there (view_of hold.place.me.0) hold.node c.args.node c.requires.0 c.take_parcel.result c.requires.1 c.take_parcel.ensures.parcel

pub returns-clause-gone : goal.returns-clause-gone
returns-clause-gone g c =
    let hold = c.args.self.now in
    let taken = c.take_parcel.ensures.taken in
    taken-gone (view_of hold.place.me.0) hold.node c.args.node taken.0 c.take_parcel.new.place.me.0 taken.1

pub returns-clause-others : goal.returns-clause-others
returns-clause-others g c =
    let hold = c.args.self.now in
    let taken = c.take_parcel.ensures.taken in
    taken-others (view_of hold.place.me.0) hold.node c.args.node taken.0 c.take_parcel.new.place.me.0 taken.1

pub returns-clause-kept : goal.returns-clause-kept
returns-clause-kept g c =
    let hold = c.args.self.now in
    let u = untaken-is (view_of hold.place.me.0) hold.node c.args.node c.requires.0 c.requires.1 in
    let taken = c.take_parcel.ensures.taken in (
      refl,
      c.take_parcel.ensures.seat.0,
      (
        c.args.node ∷ (view_of hold.place.me.0).gone,
        taken.0,
        taken.1,
        taken-else (view_of hold.place.me.0) hold.node c.args.node taken.0 c.take_parcel.new.place.me.0 taken.1 u.cover,
      ),
    )
