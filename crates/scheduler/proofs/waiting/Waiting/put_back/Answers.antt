use Rattle.std.proofs.Common.{rules}
use Rattle.scheduler.proofs.Taken.{pushed-kept, pushed-list}
use Rattle.scheduler.proofs.waiting.Waiting.put_back.Goals as goal

pub invariant_of-self : goal.invariant_of-self
invariant_of-self g c =
    let s = c.self.inside in
    let room = c.make_room-self-inside in (
      pushed-kept s.messages.items room.new.messages.items c.append.new.messages.items s.lines c.append.new.lines s.count s.start room.result c.args.message
          c.args.self.now
          c.self.invariant.0 c.self.view_is c.requires.place room.ensures.messages room.ensures.queues c.requires.queue room.ensures.within room.ensures.vacant
          c.append.ensures.messages c.append.ensures.lined,
      search rules,
    )

pub returns : goal.returns
returns g c =
    pushed-list c.self.inside.messages.items c.make_room-self-inside.new.messages.items c.append.new.messages.items c.args.message c.args.self.now
    c.self.view_is
    c.make_room-self-inside.ensures.messages c.append.ensures.messages
