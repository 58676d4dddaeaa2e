use Rattle.std.proofs.Common.{sym, ap, ◌∙◌, rules}
use Rattle.std.specs.Prelude.{slice_get}
use Rattle.engine.specs.declared.connection.Connection.TheVariants as places
use Rattle.engine.specs.Connections.{Open, Closed, Missing}
use Rattle.engine.specs.Engine.{stream_in}
use Rattle.engine.specs.Seen.{held_in}
use Rattle.engine.specs.Shown.{Shown}
use Rattle.engine.proofs.Lists.{looked-up}
use Rattle.engine.proofs.Keyed.{found-open, found-missing, found-closed, past}
use Rattle.engine.proofs.Closing.{seen-at}
use Rattle.engine.proofs.engine.Engine.stream.Goals as goal

pub returns-in-Some : goal.returns-in-Some
returns-in-Some c =
    let s = c.self.inside.state in
    let cs = s.connections.items in
    let i = c.args.connection in
    let there = looked-up c.deref.result.now cs i c.in-Some-Open.field-0.now (places.Open c.in-Some-Open.key) c.deref.ensures.value
    c.in-Some-Open.ensures.lookup.3.0 c.in-Some-Open.ensures.lookup.1 c.in-Some-Open.field-0-is in
    let x = c.in-Some.open.now in
    c.stream.ensures ∙ sym (ap stream_in (seen-at (held_in s) i (Open x) (found-open cs s.slab i c.in-Some-Open.key x there (sym c.in-Some.ensures))))
    ∙ ap (λ (v : Shown). stream_in (slice_get v.world.connections i)) c.self.view_is

pub returns-in-None-get : goal.returns-in-None-get
returns-in-None-get c =
    let s = c.self.inside.state in
    let cs = s.connections.items in
    let i = c.args.connection in
    let there = looked-up c.deref.result.now cs i c.in-Some-Open.field-0.now (places.Open c.in-Some-Open.key) c.deref.ensures.value
    c.in-Some-Open.ensures.lookup.3.0 c.in-Some-Open.ensures.lookup.1 c.in-Some-Open.field-0-is in
    sym (ap stream_in (seen-at (held_in s) i Missing (found-missing cs s.slab i c.in-Some-Open.key there (sym c.in-None-get.ensures))))
    ∙ ap (λ (v : Shown). stream_in (slice_get v.world.connections i)) c.self.view_is

pub returns-in-Some-Closed : goal.returns-in-Some-Closed
returns-in-Some-Closed c =
    let s = c.self.inside.state in
    let cs = s.connections.items in
    let i = c.args.connection in
    let there = looked-up c.deref.result.now cs i c.in-Some-Closed.field-0.now (places.Closed c.in-Some-Closed.closed) c.deref.ensures.value
    c.in-Some-Closed.ensures.lookup.3.0 c.in-Some-Closed.ensures.lookup.1 c.in-Some-Closed.field-0-is in
    c.deref-in-Some-Closed.ensures.value
    ∙ sym (ap stream_in (seen-at (held_in s) i (Closed c.in-Some-Closed.closed) (found-closed cs s.slab i c.in-Some-Closed.closed there)))
    ∙ ap (λ (v : Shown). stream_in (slice_get v.world.connections i)) c.self.view_is

pub returns-in-None : goal.returns-in-None
returns-in-None c =
    let s = c.self.inside.state in
    sym (ap stream_in (past s.connections.items s.slab c.args.connection (search rules)))
    ∙ ap (λ (v : Shown). stream_in (slice_get v.world.connections c.args.connection)) c.self.view_is
