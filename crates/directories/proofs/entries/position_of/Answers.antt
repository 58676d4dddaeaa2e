use Rattle.directories.specs.Slots.{in_order}
use Rattle.directories.proofs.Places.{is-positive, position-is}
use Rattle.directories.proofs.Slots.{position-inside}
use Rattle.directories.proofs.entries.position_of.Goals as goal

pub overflow_sub-cookie : goal.overflow_sub-cookie
overflow_sub-cookie c = is-positive (in_order c.args.slots.now c.args.order.now) c.args.cookie.0 c.requires.rising c.requires.there

pub returns-clause-position : goal.returns-clause-position
returns-clause-position c = position-is (in_order c.args.slots.now c.args.order.now) _ _ c.requires.rising c.requires.there c.position_after.ensures.after

pub returns-clause-within : goal.returns-clause-within
returns-clause-within c =
    position-inside c.args.slots.now c.args.order.now _ _ c.requires.there
    (position-is (in_order c.args.slots.now c.args.order.now) _ _ c.requires.rising c.requires.there c.position_after.ensures.after)
