use Rattle.std.proofs.Common.{◌≡◌, ◌<◌, [], true, false, length, take, rules, refl, subst, ℕ}
use Rattle.std.proofs.KnownBytes.{Keeps-refl}
use Rattle.affinity.specs.Layout.{layout_of}
use Rattle.connections.specs.declared.reading.Came.TheVariants as cames
use Rattle.connections.specs.declared.told.Told.TheVariants as tolds
use Rattle.connections.specs.Connections.{now_of}
use Rattle.connections.specs.Told.{HasCalled}
use Rattle.connections.proofs.Cut.{none-is, some-of, stopped-is}
use Rattle.connections.specs.lemmas.Incoming.{gives-none}
use Rattle.connections.proofs.OneRead.{none-some, read-kept, read-new, read-nothing, read-stopped, took-none, took-zero}
use Rattle.connections.proofs.connection.Connection.read.Goals as goal

pub returns-then-is_some-clause-read : goal.returns-then-is_some-clause-read
returns-then-is_some-clause-read g c =
    read-stopped g.D.Device.unread g.D.Device.written g.S.RecordSink.came g.S.RecordSink.room (layout_of c.args.layout.now) c.args.offer c.args.self.now
    c.args.sink.now (length c.args.block.now)
    (g.met.S.RecordSink.came_none c.args.sink.now)
    (stopped-is c.args.self.now.stopped c.is_some.result c.is_some.ensures c.if-is_some.true)

pub returns-then-not-has_room-clause-read : goal.returns-then-not-has_room-clause-read
returns-then-not-has_room-clause-read g c =
    let none = none-is c.args.self.now.stopped c.is_some.result c.is_some.ensures c.if-is_some.false in
    let full : g.S.RecordSink.room c.args.sink.now ≡ false = search rules in
    read-nothing g.D.Device.unread g.D.Device.written g.S.RecordSink.came g.S.RecordSink.room (layout_of c.args.layout.now) c.args.offer c.args.self.now
    c.args.sink.now (length c.args.block.now)
    c.args.self.now cames.Full none (λ some. full) (g.met.S.RecordSink.came_none c.args.sink.now)
    (gives-none (g.D.Device.unread (now_of c.args.self.now))) (Keeps-refl (g.D.Device.written (now_of c.args.self.now)))
    (none, full, refl) refl refl refl (refl, refl, refl, refl, refl)

pub returns-then-not-is_empty-clause-read : goal.returns-then-not-is_empty-clause-read
returns-then-not-is_empty-clause-read g c =
    let roomy : g.S.RecordSink.room c.args.sink.now ≡ true = search rules in
    let none = none-is c.args.self.now.stopped c.is_some.result c.is_some.ensures c.if-is_some.false in
    let some = some-of c.args.self.now.kept c.is_empty.result c.is_empty.ensures c.if-not-is_empty.true in
    read-kept g.D.Device.unread g.D.Device.written g.S.RecordSink.came g.S.RecordSink.room (layout_of c.args.layout.now) c.args.offer c.args.self.now
    c.args.sink.now (length c.args.block.now)
    _ _ none roomy some refl c.cut_kept-self.ensures.cut (refl, refl, refl, refl, refl)

pub returns-in-Moved-eq0-clause-read : goal.returns-in-Moved-eq0-clause-read
returns-in-Moved-eq0-clause-read g c =
    let roomy : g.S.RecordSink.room c.args.sink.now ≡ true = search rules in
    let none = none-is c.args.self.now.stopped c.is_some.result c.is_some.ensures c.if-is_some.false in
    let empty : c.args.self.now.kept ≡ [] = search rules in
    read-nothing g.D.Device.unread g.D.Device.written g.S.RecordSink.came g.S.RecordSink.room (layout_of c.args.layout.now) c.args.offer c.args.self.now
    c.args.sink.now (length c.args.block.now)
    _ cames.End none (none-some c.args.self.now.kept _ empty) (g.met.S.RecordSink.came_none c.args.sink.now)
    (took-zero _ _ _ _ c.in-Moved-eq0.field-0-test c.in-Moved-eq0.ensures.bytes.0) c.in-Moved-eq0.ensures.apart (
      (none, empty),
      roomy,
      subst (λ (n : ℕ). HasCalled c.args.self.now.device (length c.args.block.now) (tolds.Moved n) c.read_once.new.self)
          c.in-Moved-eq0.field-0-test c.in-Moved-eq0.ensures.called,
      c.in-Moved-eq0.ensures.bytes.1 c.in-Moved-eq0.field-0-test (search rules),
    )
    refl refl refl (refl, refl, refl, refl, refl)

pub returns-in-Moved-clause-read : goal.returns-in-Moved-clause-read
returns-in-Moved-clause-read g c =
    let roomy : g.S.RecordSink.room c.args.sink.now ≡ true = search rules in
    let none = none-is c.args.self.now.stopped c.is_some.result c.is_some.ensures c.if-is_some.false in
    let empty : c.args.self.now.kept ≡ [] = search rules in
    let some : 0 < c.in-Moved.size = search rules in
    read-new g.D.Device.unread g.D.Device.written g.S.RecordSink.came g.S.RecordSink.room (layout_of c.args.layout.now) c.args.offer c.args.self.now
    c.args.sink.now (length c.args.block.now)
    _ _ c.in-Moved.size (take c.in-Moved.size c.read_once.new.block) none roomy empty some c.cut_new-self.ensures.cut c.in-Moved.ensures.bytes.0
    c.in-Moved.ensures.apart c.in-Moved.ensures.called (refl, refl, refl, refl, refl)

pub returns-in-Blocked-clause-read : goal.returns-in-Blocked-clause-read
returns-in-Blocked-clause-read g c =
    let roomy : g.S.RecordSink.room c.args.sink.now ≡ true = search rules in
    let none = none-is c.args.self.now.stopped c.is_some.result c.is_some.ensures c.if-is_some.false in
    let empty : c.args.self.now.kept ≡ [] = search rules in
    read-nothing g.D.Device.unread g.D.Device.written g.S.RecordSink.came g.S.RecordSink.room (layout_of c.args.layout.now) c.args.offer c.args.self.now
    c.args.sink.now (length c.args.block.now)
    _ cames.Blocked none (none-some c.args.self.now.kept _ empty) (g.met.S.RecordSink.came_none c.args.sink.now)
    (took-none _ _ c.in-Blocked.ensures.bytes) c.in-Blocked.ensures.apart ((none, empty), roomy, c.in-Blocked.ensures.called)
    refl refl refl (refl, refl, refl, refl, refl)

pub returns-in-Failed-clause-read : goal.returns-in-Failed-clause-read
returns-in-Failed-clause-read g c =
    let roomy : g.S.RecordSink.room c.args.sink.now ≡ true = search rules in
    let none = none-is c.args.self.now.stopped c.is_some.result c.is_some.ensures c.if-is_some.false in
    let empty : c.args.self.now.kept ≡ [] = search rules in
    read-nothing g.D.Device.unread g.D.Device.written g.S.RecordSink.came g.S.RecordSink.room (layout_of c.args.layout.now) c.args.offer c.args.self.now
    c.args.sink.now (length c.args.block.now)
    _ cames.Failed none (none-some c.args.self.now.kept _ empty) (g.met.S.RecordSink.came_none c.args.sink.now)
    (took-none _ _ c.in-Failed.ensures.bytes) c.in-Failed.ensures.apart ((none, empty), roomy, c.in-Failed.ensures.called)
    refl refl refl (refl, refl, refl, refl, refl)
