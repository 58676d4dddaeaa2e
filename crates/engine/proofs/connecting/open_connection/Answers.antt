use Rattle.std.proofs.Common.{◌<◌, List, [], ◌∷◌, ◌++◌, length, arith, ap, ◌∙◌}
use Rattle.slab.specs.Slab.{slab_len}
use Rattle.engine.specs.declared.connection.Connection.{Connection}
use Rattle.engine.specs.declared.connection.Connection.TheVariants as places
use Rattle.engine.proofs.Reconnected.{grown-sound, opens-sound, opens-events}
use Rattle.engine.proofs.connecting.open_connection.Goals as goal

pub returns-then-is_err-2-clause-sound : goal.returns-then-is_err-2-clause-sound
returns-then-is_err-2-clause-sound c =
    grown-sound c.args.state.now c.requires c.reserve.new.self c.reserve.ensures.rest_kept c.try_reserve.new.self c.try_reserve.ensures.items

pub returns-clause-sound : goal.returns-clause-sound
returns-clause-sound c =
    opens-sound c.args.state.now c.requires c.reserve.new.self c.reserve.ensures.rest_kept c.insert_reserved-key.result c.new.result
    c.insert_reserved-key.ensures.was_vacant c.insert_reserved-key.new.self c.insert_reserved-key.ensures.updates c.insert_reserved-key.ensures.len
    c.push_reserved.new.self
    (c.push_reserved.ensures.items
    ∙ ap (λ (l : List Connection). l ++ places.Open c.insert_reserved-key.result ∷ []) c.try_reserve.ensures.items)
    c.new.ensures.new c.new.ensures.owed

pub returns-clause-events : goal.returns-clause-events
returns-clause-events c =
    let reserved = ap length c.try_reserve.ensures.items in
    let size = c.try_reserve.new.self.ok.0 in
    let count = c.len-2.ensures in
    let low = c.if-len-ge-CONNECTIONS.false in
    let many = c.len.ensures in
    let few : slab_len c.args.state.now.slab < 64 = omega (arith, low, many) in
    opens-events c.args.state.now c.requires c.reserve.new.self c.reserve.ensures.rest_kept c.insert_reserved-key.result c.new.result
    c.insert_reserved-key.ensures.was_vacant c.insert_reserved-key.new.self c.insert_reserved-key.ensures.updates c.insert_reserved-key.ensures.len
    c.push_reserved.new.self
    (c.push_reserved.ensures.items
    ∙ ap (λ (l : List Connection). l ++ places.Open c.insert_reserved-key.result ∷ []) c.try_reserve.ensures.items)
    c.new.ensures.new _ (omega (arith, reserved, size, count)) few
