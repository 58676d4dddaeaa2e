use Rattle.std.proofs.Common.{◌≡◌, Some, Ok, length, sym, ap, subst, ◌∙◌, arith}
use Rattle.std.specs.Prelude.{slice_get}
use Rattle.std.specs.Global.{Vec}
use Rattle.std.proofs.lemmas.List.{length-map}
use Rattle.std.proofs.lemmas.Option.{slice_get_within}
use Rattle.nfs_model.specs.Events.Refusals as events
use Rattle.slab.specs.Slab.{get}
use Rattle.engine_feed.specs.Seen.{entry_of, finished_of}
use Rattle.engine.specs.declared.connection.Connection.{Connection}
use Rattle.engine.specs.declared.connection.Connection.TheVariants as places
use Rattle.engine.specs.declared.connection.ClosedConnection.{ClosedConnection}
use Rattle.engine.specs.declared.event.Done.TheVariants as dones
use Rattle.engine.specs.declared.state.State.{State}
use Rattle.engine.specs.Sound.{IsSoundEngine}
use Rattle.engine.specs.Words.{DoesEvent}
use Rattle.engine.proofs.Keyed.{contains, found-key, no-key}
use Rattle.engine.proofs.Closing.{shut-events, closes, closes-sound}
use Rattle.engine.proofs.connecting.close_connection.Goals as goal

pub returns-in-None-clause-events : goal.returns-in-None-clause-events
returns-in-None-clause-events c =
    shut-events c.args.state.now c.args.connection
    (no-key c.deref.result.now c.args.state.now.connections.items c.args.connection c.key_of.result c.key_of.ensures c.deref.ensures.value c.in-None.is)

pub remove-requires : goal.remove-requires
remove-requires c =
    let s = c.args.state.now in
    let at = found-key c.deref.result.now s.connections.items c.args.connection c.in-Some.key c.key_of.result c.key_of.ensures c.deref.ensures.value
    c.in-Some.is in
    let kept = c.requires.keyed.kept c.args.connection c.in-Some.key at in
    contains s.slab c.in-Some.key kept.0 kept.1

pub set_closed-requires : goal.set_closed-requires
set_closed-requires c =
    let s = c.args.state.now in
    let at = found-key c.deref.result.now s.connections.items c.args.connection c.in-Some.key c.key_of.result c.key_of.ensures c.deref.ensures.value
    c.in-Some.is in
    let within = slice_get_within s.connections.items c.args.connection _ at in
    let size = s.connections.ok.0 in
    omega (arith, within, size)

module _ (c : goal.After-set_closed) where
  abbrev s : State
  s = c.args.state.now

  abbrev put : ClosedConnection
  put = record { stream = c.into_parts-stream.result.0; output = c.into_parts-stream.result.1; finished = length c.finished.result.now }

  at : slice_get s.connections.items c.args.connection ≡ Some (places.Open c.in-Some.key)
  at = found-key c.deref.result.now s.connections.items c.args.connection c.in-Some.key c.key_of.result c.key_of.ensures c.deref.ensures.value c.in-Some.is

  was : get s.slab c.in-Some.key ≡ Some c.remove.result
  was = c.remove.ensures.value

  count : length c.finished.result.now ≡ length (finished_of s.calls)
  count = sym (length-map c.finished.result.now entry_of) ∙ ap length c.finished.ensures

pub returns-clause-events : goal.returns-clause-events
returns-clause-events c =
    subst
    (λ (v : Vec Connection). DoesEvent (s c) (events.Close c.args.connection) (Ok dones.Closed) (record (s c) { connections = v; slab = c.remove.new.self }))
    (sym c.set_closed.ensures)
    (closes (s c) c.requires c.args.connection c.in-Some.key (at c) c.remove.result (was c) c.remove.new.self c.remove.ensures.updates
    c.remove.ensures.len (put c) c.into_parts-stream.ensures.stream c.into_parts-stream.ensures.output (count c))

pub returns-clause-sound : goal.returns-clause-sound
returns-clause-sound c =
    subst (λ (v : Vec Connection). IsSoundEngine (record (s c) { connections = v; slab = c.remove.new.self })) (sym c.set_closed.ensures)
    (closes-sound (s c) c.requires c.args.connection c.in-Some.key (at c) c.remove.result (was c) c.remove.new.self
    c.remove.ensures.updates c.remove.ensures.len (put c))
