use Rattle.std.proofs.Common.{refl}
use Rattle.depot_rule.specs.Sums.{without}
use Rattle.depot_rule.specs.Seats.{view_of}
use Rattle.depot.proofs.Holding.{nothing, given-away, given-there, given-others, given-else}
use Rattle.depot.proofs.hold.HoldShelfParcel.put.Goals as goal

pub give_parcel-requires-clause-ready : goal.give_parcel-requires-clause-ready
give_parcel-requires-clause-ready g c =
    let hold = c.args.self.now in
    let l = c.requires.allowed in (
      hold.one.0,
      nothing hold.place.me.1 hold.one.1,
      l.0,
      hold.free,
      given-away (view_of hold.place.me.0) hold.node c.args.node c.args.parcel l
          c.requires.vacant,
      hold.tree,
    )

pub returns-clause-there : goal.returns-clause-there
returns-clause-there g c =
    let hold = c.args.self.now in
    let given = c.give_parcel.ensures.given in
    given-there (view_of hold.place.me.0) hold.node c.args.node given.0 c.give_parcel.new.place.me.0 given.1 c.give_parcel.ensures.once c.args.parcel
    c.requires.allowed

pub returns-clause-others : goal.returns-clause-others
returns-clause-others g c =
    let hold = c.args.self.now in
    let given = c.give_parcel.ensures.given in
    given-others (view_of hold.place.me.0) hold.node c.args.node given.0 c.give_parcel.new.place.me.0 given.1 c.give_parcel.ensures.once

pub returns-clause-kept : goal.returns-clause-kept
returns-clause-kept g c =
    let hold = c.args.self.now in
    let given = c.give_parcel.ensures.given in
    let l = c.requires.allowed in (
      refl,
      c.give_parcel.ensures.seat.0,
      (
        without c.args.node (view_of hold.place.me.0).gone,
        given.0,
        given.1,
        given-else (view_of hold.place.me.0) hold.node c.args.node given.0 c.give_parcel.new.place.me.0 given.1 c.give_parcel.ensures.once l.2,
      ),
    )
