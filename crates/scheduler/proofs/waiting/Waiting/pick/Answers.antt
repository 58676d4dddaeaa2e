use Rattle.std.proofs.Common.{rules, ◌∙◌, arith}
use Rattle.scheduler.proofs.Taken.{written, still-vacant, taken, lined-again, message-there, picked, rest}
use Rattle.scheduler.proofs.waiting.Waiting.pick.Goals as goal

pub take_out-message-requires-clause-there : goal.take_out-message-requires-clause-there
take_out-message-requires-clause-there g c = rw c.deref_mut.ensures.value (rw c.deref.ensures.value at c.cell_at-cell.ensures.there)

pub first_used-self-inside-requires-clause-vacant : goal.first_used-self-inside-requires-clause-vacant
first_used-self-inside-requires-clause-vacant g c =
    let s = c.self.inside in
    let cell = c.cell_at-cell.result in
    still-vacant s.messages.items c.deref-2.result.now cell s.start
    (c.deref-2.ensures.value ∙ written s.messages.len cell s.messages.items c.deref_mut.result.now c.take_out-message.new.messages (search rules)
    c.deref_mut.ensures.value c.take_out-message.ensures.messages) c.self.invariant.0.vacant

pub invariant_of-self : goal.invariant_of-self
invariant_of-self g c =
    let s = c.self.inside in
    let cell = c.cell_at-cell.result in
    let out = c.take_out-message in (
      taken s.messages.items _ c.deref-2.result.now s.lines out.new.lines s.count s.start c.first_used-self-inside.result cell out.result c.self.invariant.0
          (message-there s.messages.items c.deref_mut.result.now cell out.result c.deref_mut.ensures.value out.ensures.message)
          (written s.messages.len cell s.messages.items c.deref_mut.result.now out.new.messages (search rules) c.deref_mut.ensures.value out.ensures.messages)
          c.deref-2.ensures.value
          (lined-again s.messages.items c.deref_mut.result.now out.new.messages out.new.lines cell c.deref_mut.ensures.value out.ensures.messages
          out.ensures.lined)
          c.first_used-self-inside.ensures.within c.first_used-self-inside.ensures.vacant,
      c.self.invariant.1,
    )

pub returns-clause-message : goal.returns-clause-message
returns-clause-message g c =
    let s = c.self.inside in
    let out = c.take_out-message in
    picked s.messages.items c.deref.result.now c.args.self.now c.cell_at-cell.result c.args.place out.result c.self.view_is c.deref.ensures.value
    (message-there s.messages.items c.deref_mut.result.now c.cell_at-cell.result out.result c.deref_mut.ensures.value out.ensures.message)
    c.cell_at-cell.ensures.place

pub returns-clause-rest : goal.returns-clause-rest
returns-clause-rest g c =
    let s = c.self.inside in
    let out = c.take_out-message in
    rest s.messages.items _ c.deref.result.now c.args.self.now c.cell_at-cell.result c.args.place out.result c.self.view_is
    (written s.messages.len c.cell_at-cell.result s.messages.items c.deref_mut.result.now out.new.messages (search rules) c.deref_mut.ensures.value
    out.ensures.messages)
    c.deref.ensures.value
    (message-there s.messages.items c.deref_mut.result.now c.cell_at-cell.result out.result c.deref_mut.ensures.value out.ensures.message)
    c.cell_at-cell.ensures.place

pub take_out-message-requires-clause-lined : goal.take_out-message-requires-clause-lined
take_out-message-requires-clause-lined g c = rw c.deref_mut.ensures.value c.self.invariant.0.lined

pub take_out-message-requires-clause-queues : goal.take_out-message-requires-clause-queues
take_out-message-requires-clause-queues g c = rw c.deref_mut.ensures.value c.self.invariant.0.queues

pub cell_at-cell-requires-clause-vacant : goal.cell_at-cell-requires-clause-vacant
cell_at-cell-requires-clause-vacant g c = rw c.deref.ensures.value c.self.invariant.0.vacant

pub cell_at-cell-requires-clause-place : goal.cell_at-cell-requires-clause-place
cell_at-cell-requires-clause-place g c =
    let counted = c.self.invariant.0.counted in
    let fewer = c.if-place-self.false in
    rw c.deref.ensures.value (omega (arith, counted, fewer))

pub take_out-message-requires-clause-within : goal.take_out-message-requires-clause-within
take_out-message-requires-clause-within g c = rw c.deref_mut.ensures.value (rw c.deref.ensures.value at c.cell_at-cell.ensures.within)
