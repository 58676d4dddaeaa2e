use Rattle.std.proofs.Common.{◌∙◌, ap}
use Rattle.affinity.specs.Layout.{layout_of}
use Rattle.connections.specs.Connections.{due_of}
use Rattle.lanes.specs.Lanes.{owing_in}
use Rattle.lanes.proofs.Steps.{read-owing}
use Rattle.lanes.proofs.lane.reading.read_one.Goals as goal

pub returns : goal.returns
returns g c = record {
  between = c.read-came.new.self;
  is = c.set_owed-2.ensures.owed;
  few = c.set_owed-2.ensures.records;
  read = read-owing g.D.Device.unread g.D.Device.written (layout_of c.args.layout.now) c.args.offer c.args.connection.now c.set_owed.new.self c.args.intake.now
      c.read-came.new.sink _ c.read-came.result c.read-came.new.self
      (c.set_owed.ensures ∙ ap (λ owed. owing_in owed c.handles.result c.args.intake.now) c.due.ensures
      ∙ ap (λ form. owing_in (due_of c.args.connection.now) form c.args.intake.now) c.handles.ensures) c.read-came.ensures.read;
}
