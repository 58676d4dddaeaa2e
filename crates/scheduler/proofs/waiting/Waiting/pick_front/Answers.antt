use Rattle.std.proofs.Common.{rules, ◌∙◌, refl}
use Rattle.scheduler.proofs.Taken.{written, still-vacant, taken, lined-again, message-there, none-first, cell-first, cell-within, some-there}
use Rattle.scheduler.proofs.Taken.{takes-front}
use Rattle.scheduler.proofs.waiting.Waiting.pick_front.Goals as goal

pub returns-in_err-cell : goal.returns-in_err-cell
returns-in_err-cell g c =
    let s = c.self.inside in
    rw c.from_residual.ensures (
      none-first s.messages.items s.lines s.count s.start c.queue_of.result c.args.affinity c.first.result c.args.self.now
          c.self.invariant.0 c.self.view_is c.queue_of.ensures.number c.first.ensures c.in_err-cell.was,
      refl,
    )

pub take_out-message-requires-clause-there : goal.take_out-message-requires-clause-there
take_out-message-requires-clause-there g c =
    let s = c.self.inside in
    rw c.deref_mut.ensures.value (cell-first s.messages.items s.lines s.count s.start c.queue_of.result c.in_ok-cell.cell c.first.result c.self.invariant.0
    c.first.ensures
    c.in_ok-cell.was)

pub take_out-message-requires-clause-within : goal.take_out-message-requires-clause-within
take_out-message-requires-clause-within g c =
    let s = c.self.inside in
    rw c.deref_mut.ensures.value (cell-within s.messages.items c.in_ok-cell.cell
    (cell-first s.messages.items s.lines s.count s.start c.queue_of.result c.in_ok-cell.cell
    c.first.result c.self.invariant.0 c.first.ensures c.in_ok-cell.was))

pub overflow_sub-self : goal.overflow_sub-self
overflow_sub-self g c =
    let s = c.self.inside in
    some-there s.messages.items s.lines s.count s.start c.in_ok-cell.cell c.self.invariant.0
    (cell-first s.messages.items s.lines s.count s.start c.queue_of.result c.in_ok-cell.cell c.first.result c.self.invariant.0 c.first.ensures c.in_ok-cell.was)

pub first_used-self-inside-requires-clause-vacant : goal.first_used-self-inside-requires-clause-vacant
first_used-self-inside-requires-clause-vacant g c =
    let s = c.self.inside in
    let cell = c.in_ok-cell.cell in
    still-vacant s.messages.items c.deref.result.now cell s.start
    (c.deref.ensures.value ∙ written s.messages.len cell s.messages.items c.deref_mut.result.now c.take_out-message.new.messages (search rules)
    c.deref_mut.ensures.value c.take_out-message.ensures.messages) c.self.invariant.0.vacant

pub invariant_of-self : goal.invariant_of-self
invariant_of-self g c =
    let s = c.self.inside in
    let cell = c.in_ok-cell.cell in
    let out = c.take_out-message in (
      taken s.messages.items _ c.deref.result.now s.lines out.new.lines s.count s.start c.first_used-self-inside.result cell out.result c.self.invariant.0
          (message-there s.messages.items c.deref_mut.result.now cell out.result c.deref_mut.ensures.value out.ensures.message)
          (written s.messages.len cell s.messages.items c.deref_mut.result.now out.new.messages (search rules) c.deref_mut.ensures.value out.ensures.messages)
          c.deref.ensures.value
          (lined-again s.messages.items c.deref_mut.result.now out.new.messages out.new.lines cell c.deref_mut.ensures.value out.ensures.messages
          out.ensures.lined)
          c.first_used-self-inside.ensures.within c.first_used-self-inside.ensures.vacant,
      c.self.invariant.1,
    )

pub returns : goal.returns
returns g c =
    let s = c.self.inside in
    let cell = c.in_ok-cell.cell in
    let out = c.take_out-message in
    takes-front s.messages.items _ s.lines s.count s.start c.queue_of.result cell c.args.affinity c.first.result out.result c.args.self.now
    c.self.invariant.0 c.self.view_is c.queue_of.ensures.number c.requires c.first.ensures c.in_ok-cell.was
    (message-there s.messages.items c.deref_mut.result.now cell out.result c.deref_mut.ensures.value out.ensures.message)
    (written s.messages.len cell s.messages.items c.deref_mut.result.now out.new.messages (search rules) c.deref_mut.ensures.value out.ensures.messages)

pub take_out-message-requires-clause-lined : goal.take_out-message-requires-clause-lined
take_out-message-requires-clause-lined g c = rw c.deref_mut.ensures.value c.self.invariant.0.lined

pub take_out-message-requires-clause-queues : goal.take_out-message-requires-clause-queues
take_out-message-requires-clause-queues g c = rw c.deref_mut.ensures.value c.self.invariant.0.queues
