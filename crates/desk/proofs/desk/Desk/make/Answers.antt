use Rattle.std.proofs.Common.{ap, sym, subst}
use Rattle.nfs_model.specs.Tree.{Layout}
use Rattle.affinity.specs.Affinity.{affinity_of}
use Rattle.affinity.specs.Layout.{layout_of}
use Rattle.affinity.specs.Tree.{IsNode}
use Rattle.depot.specs.Grants as depots
use Rattle.depot.specs.Words.{layout_in, view}
use Rattle.desk.specs.laws.Backing.{IsWhole, IsDone}
use Rattle.desk.specs.laws.lemmas.Begins.{read-books, read-desk, taken-so, worn-so}
use Rattle.desk.specs.laws.lemmas.Taken.{taken-books, free-books}
use Rattle.desk.specs.Any.{node_lent}
use Rattle.desk.specs.Slots.{all_granted, shown}
use Rattle.desk.specs.Words.{machine_in}
use Rattle.desk.proofs.Made.{asked, on_node, whole, can, done-kept, done-made, can-back, back-kept, back-made}
use Rattle.desk.proofs.desk.Desk.make.Goals as goal

-- ---- it works

pub work_on_node-outcome-requires-clause-node : goal.work_on_node-outcome-requires-clause-node
work_on_node-outcome-requires-clause-node g c =
    let self = c.args.self.now in let L = layout_in self.depot in let v = view self.seat in let gs = all_granted self.slots.items in
    let w = view c.begin_node.new.seat in
    let any = λ (x : Layout). node_lent x c.in-Ok.grant in
    subst (λ (x : Layout). IsNode x (node_lent x c.in-Ok.grant).affinity) (sym c.layout-layout.ensures)
    (on_node g.M.Parcel.HasKind.kind (machine_in self) L self.depot.layout.lawful v w gs c.requires.kept (affinity_of c.args.affinity) c.requires.node.0
    c.args.worker c.requires.idle any c.in-Ok.ensures.granted g.A.Entered.entered (g.W.WorkOn.asks c.args.work) (g.W.WorkOn.does c.args.work)
    (g.C.Entered.entered c.args.call.now) c.requires.may)

pub work_on_node-outcome-requires-clause-whole : goal.work_on_node-outcome-requires-clause-whole
work_on_node-outcome-requires-clause-whole g c =
    let self = c.args.self.now in let L = layout_in self.depot in let v = view self.seat in let gs = all_granted self.slots.items in
    let w = view c.begin_node.new.seat in
    let any = λ (x : Layout). node_lent x c.in-Ok.grant in
    subst (λ (x : Layout). IsWhole g.M.Parcel.HasKind.kind x (node_lent x c.in-Ok.grant)) (sym c.layout-layout.ensures)
    (whole g.M.Parcel.HasKind.kind (machine_in self) L self.depot.layout.lawful v w gs c.requires.kept (affinity_of c.args.affinity) c.requires.node.0
    c.args.worker c.requires.idle any c.in-Ok.ensures.granted g.A.Entered.entered (g.W.WorkOn.asks c.args.work) (g.W.WorkOn.does c.args.work)
    (g.C.Entered.entered c.args.call.now) c.requires.may)

pub work_on_node-outcome-requires-clause-asks : goal.work_on_node-outcome-requires-clause-asks
work_on_node-outcome-requires-clause-asks g c =
    let self = c.args.self.now in let L = layout_in self.depot in let v = view self.seat in let gs = all_granted self.slots.items in
    let w = view c.begin_node.new.seat in
    let any = λ (x : Layout). node_lent x c.in-Ok.grant in
    subst (λ (x : Layout). g.W.WorkOn.asks c.args.work x (node_lent x c.in-Ok.grant).affinity (node_lent x c.in-Ok.grant).parcels)
    (sym c.layout-layout.ensures)
    (asked g.M.Parcel.HasKind.kind (machine_in self) L self.depot.layout.lawful v w gs c.requires.kept (affinity_of c.args.affinity) c.requires.node.0
    c.args.worker c.requires.idle any c.in-Ok.ensures.granted g.A.Entered.entered (g.W.WorkOn.asks c.args.work) (g.W.WorkOn.does c.args.work)
    (g.C.Entered.entered c.args.call.now) c.requires.may)

-- ---- it ends

pub finish_node-requires-clause-can : goal.finish_node-requires-clause-can
finish_node-requires-clause-can g c =
    let self = c.args.self.now in let L = layout_in self.depot in let v = view self.seat in let gs = all_granted self.slots.items in
    let w = view c.begin_node.new.seat in
    let any = λ (x : Layout). node_lent x c.in-Ok.grant in
    let next = λ (x : Layout). node_lent x c.work_on_node-outcome.new.node in
    let done = subst (λ (x : Layout). IsDone (g.W.WorkOn.does c.args.work) x (any x) c.work_on_node-outcome.result (next x)) c.layout-layout.ensures
    c.work_on_node-outcome.ensures.done in
    let is_whole = subst (λ (x : Layout). IsWhole g.M.Parcel.HasKind.kind x (next x)) c.layout-layout.ensures c.work_on_node-outcome.ensures.whole in
    can g.M.Parcel.HasKind.kind (machine_in self) L self.depot.layout.lawful v w gs c.requires.kept (affinity_of c.args.affinity) c.requires.node.0
    c.args.worker c.requires.idle any c.in-Ok.ensures.granted g.A.Entered.entered (g.W.WorkOn.asks c.args.work) (g.W.WorkOn.does c.args.work)
    (g.C.Entered.entered c.args.call.now) c.requires.may
    c.work_on_node-outcome.result next done is_whole c.in-Ok-outcome.reply c.in-Ok-outcome.is

pub put_back_node-requires-clause-can : goal.put_back_node-requires-clause-can
put_back_node-requires-clause-can g c =
    let self = c.args.self.now in let L = layout_in self.depot in let v = view self.seat in let gs = all_granted self.slots.items in
    let w = view c.begin_node.new.seat in
    let any = λ (x : Layout). node_lent x c.in-Ok.grant in
    let next = λ (x : Layout). node_lent x c.work_on_node-outcome.new.node in
    let done = subst (λ (x : Layout). IsDone (g.W.WorkOn.does c.args.work) x (any x) c.work_on_node-outcome.result (next x)) c.layout-layout.ensures
    c.work_on_node-outcome.ensures.done in
    let is_whole = subst (λ (x : Layout). IsWhole g.M.Parcel.HasKind.kind x (next x)) c.layout-layout.ensures c.work_on_node-outcome.ensures.whole in
    can-back g.M.Parcel.HasKind.kind (machine_in self) L self.depot.layout.lawful v w gs c.requires.kept (affinity_of c.args.affinity) c.requires.node.0
    c.args.worker c.requires.idle any c.in-Ok.ensures.granted g.A.Entered.entered (g.W.WorkOn.asks c.args.work) (g.W.WorkOn.does c.args.work)
    (g.C.Entered.entered c.args.call.now) c.requires.may
    c.work_on_node-outcome.result next done is_whole c.in-Err.undone c.in-Err.is

pub returns-in-Ok-outcome-clause-kept : goal.returns-in-Ok-outcome-clause-kept
returns-in-Ok-outcome-clause-kept g c =
    let self = c.args.self.now in let L = layout_in self.depot in let v = view self.seat in let gs = all_granted self.slots.items in
    let w = view c.begin_node.new.seat in
    let any = λ (x : Layout). node_lent x c.in-Ok.grant in
    let next = λ (x : Layout). node_lent x c.work_on_node-outcome.new.node in
    let done = subst (λ (x : Layout). IsDone (g.W.WorkOn.does c.args.work) x (any x) c.work_on_node-outcome.result (next x)) c.layout-layout.ensures
    c.work_on_node-outcome.ensures.done in
    let is_whole = subst (λ (x : Layout). IsWhole g.M.Parcel.HasKind.kind x (next x)) c.layout-layout.ensures c.work_on_node-outcome.ensures.whole in
    done-kept g.M.Parcel.HasKind.kind (machine_in self) L self.depot.layout.lawful v w gs c.requires.kept (affinity_of c.args.affinity) c.requires.node.0
    c.args.worker c.requires.idle any c.in-Ok.ensures.granted g.A.Entered.entered (g.W.WorkOn.asks c.args.work) (g.W.WorkOn.does c.args.work)
    (g.C.Entered.entered c.args.call.now) c.requires.may
    c.work_on_node-outcome.result next done is_whole c.in-Ok-outcome.reply c.in-Ok-outcome.is (view c.finish_node.new.seat) c.finish_node.ensures.finished

pub returns-in-Ok-outcome-clause-made : goal.returns-in-Ok-outcome-clause-made
returns-in-Ok-outcome-clause-made g c =
    let self = c.args.self.now in let L = layout_in self.depot in let v = view self.seat in let gs = all_granted self.slots.items in
    let w = view c.begin_node.new.seat in
    let any = λ (x : Layout). node_lent x c.in-Ok.grant in
    let next = λ (x : Layout). node_lent x c.work_on_node-outcome.new.node in
    let done = subst (λ (x : Layout). IsDone (g.W.WorkOn.does c.args.work) x (any x) c.work_on_node-outcome.result (next x)) c.layout-layout.ensures
    c.work_on_node-outcome.ensures.done in
    let is_whole = subst (λ (x : Layout). IsWhole g.M.Parcel.HasKind.kind x (next x)) c.layout-layout.ensures c.work_on_node-outcome.ensures.whole in
    done-made g.M.Parcel.HasKind.kind (machine_in self) L self.depot.layout.lawful v w gs c.requires.kept (affinity_of c.args.affinity) c.requires.node.0
    c.args.worker c.requires.idle any c.in-Ok.ensures.granted g.A.Entered.entered (g.W.WorkOn.asks c.args.work) (g.W.WorkOn.does c.args.work)
    (g.C.Entered.entered c.args.call.now) c.requires.may
    c.work_on_node-outcome.result next done is_whole c.in-Ok-outcome.reply c.in-Ok-outcome.is (view c.finish_node.new.seat) c.finish_node.ensures.finished

pub returns-in-Err-clause-kept : goal.returns-in-Err-clause-kept
returns-in-Err-clause-kept g c =
    let self = c.args.self.now in let L = layout_in self.depot in let v = view self.seat in let gs = all_granted self.slots.items in
    let w = view c.begin_node.new.seat in
    let any = λ (x : Layout). node_lent x c.in-Ok.grant in
    let next = λ (x : Layout). node_lent x c.work_on_node-outcome.new.node in
    let done = subst (λ (x : Layout). IsDone (g.W.WorkOn.does c.args.work) x (any x) c.work_on_node-outcome.result (next x)) c.layout-layout.ensures
    c.work_on_node-outcome.ensures.done in
    let is_whole = subst (λ (x : Layout). IsWhole g.M.Parcel.HasKind.kind x (next x)) c.layout-layout.ensures c.work_on_node-outcome.ensures.whole in
    back-kept g.M.Parcel.HasKind.kind (machine_in self) L self.depot.layout.lawful v w gs c.requires.kept (affinity_of c.args.affinity) c.requires.node.0
    c.args.worker c.requires.idle any c.in-Ok.ensures.granted g.A.Entered.entered (g.W.WorkOn.asks c.args.work) (g.W.WorkOn.does c.args.work)
    (g.C.Entered.entered c.args.call.now) c.requires.may
    c.work_on_node-outcome.result next done is_whole c.in-Err.undone c.in-Err.is (view c.put_back_node.new.seat) c.put_back_node.ensures.ended

pub returns-in-Err-clause-made : goal.returns-in-Err-clause-made
returns-in-Err-clause-made g c =
    let self = c.args.self.now in let L = layout_in self.depot in let v = view self.seat in let gs = all_granted self.slots.items in
    let w = view c.begin_node.new.seat in
    let any = λ (x : Layout). node_lent x c.in-Ok.grant in
    let next = λ (x : Layout). node_lent x c.work_on_node-outcome.new.node in
    let done = subst (λ (x : Layout). IsDone (g.W.WorkOn.does c.args.work) x (any x) c.work_on_node-outcome.result (next x)) c.layout-layout.ensures
    c.work_on_node-outcome.ensures.done in
    let is_whole = subst (λ (x : Layout). IsWhole g.M.Parcel.HasKind.kind x (next x)) c.layout-layout.ensures c.work_on_node-outcome.ensures.whole in
    back-made g.M.Parcel.HasKind.kind (machine_in self) L self.depot.layout.lawful v w gs c.requires.kept (affinity_of c.args.affinity) c.requires.node.0
    c.args.worker c.requires.idle any c.in-Ok.ensures.granted g.A.Entered.entered (g.W.WorkOn.asks c.args.work) (g.W.WorkOn.does c.args.work)
    (g.C.Entered.entered c.args.call.now) c.requires.may
    c.work_on_node-outcome.result next done is_whole c.in-Err.undone c.in-Err.is (view c.put_back_node.new.seat) c.put_back_node.ensures.ended

-- ---- it doesn't begin: as `begin`

pub returns-in-Err-Busy-clause-kept : goal.returns-in-Err-Busy-clause-kept
returns-in-Err-Busy-clause-kept g c =
    let self = c.args.self.now in let L = layout_in self.depot in let v = view self.seat in let gs = all_granted self.slots.items in
    let w = view c.begin_node.new.seat in
    let busy = subst (λ r. depots.IsRefused L v c.args.affinity r w) c.in-Err-Busy.field-0-is c.in-Err-Busy.ensures.refused in
    read-desk shown g.M.Parcel.HasKind.kind (machine_in self) L self.depot.layout.lawful v w gs c.requires.kept
    (affinity_of c.args.affinity) c.requires.node.0 1 busy.1.0 busy.1.1

pub returns-in-Err-Busy-clause-refused : goal.returns-in-Err-Busy-clause-refused
returns-in-Err-Busy-clause-refused g c =
    let self = c.args.self.now in let L = layout_in self.depot in let v = view self.seat in let gs = all_granted self.slots.items in
    let w = view c.begin_node.new.seat in
    let busy = subst (λ r. depots.IsRefused L v c.args.affinity r w) c.in-Err-Busy.field-0-is c.in-Err-Busy.ensures.refused in
    taken-so shown g.M.Parcel.HasKind.kind (machine_in self) L self.depot.layout.lawful v w gs c.requires.kept
    (affinity_of c.args.affinity) c.requires.node.0 (busy.1.5 c.requires.kept.only)

pub returns-in-Err-Busy-clause-same : goal.returns-in-Err-Busy-clause-same
returns-in-Err-Busy-clause-same g c =
    let self = c.args.self.now in let L = layout_in self.depot in let v = view self.seat in let gs = all_granted self.slots.items in
    let w = view c.begin_node.new.seat in
    let busy = subst (λ r. depots.IsRefused L v c.args.affinity r w) c.in-Err-Busy.field-0-is c.in-Err-Busy.ensures.refused in
    read-books shown g.M.Parcel.HasKind.kind (machine_in self) L self.depot.layout.lawful v w gs c.requires.kept
    (affinity_of c.args.affinity) c.requires.node.0 1 busy.1.0 busy.1.1

pub returns-then-is_taken-clause-kept : goal.returns-then-is_taken-clause-kept
returns-then-is_taken-clause-kept g c =
    let self = c.args.self.now in let L = layout_in self.depot in let v = view self.seat in let gs = all_granted self.slots.items in
    let w = view c.begin_node.new.seat in
    let worn = subst (λ r. depots.IsRefused L v c.args.affinity r w) c.in-Err-Worn.field-0-is c.in-Err-Worn.ensures.refused in
    read-desk shown g.M.Parcel.HasKind.kind (machine_in self) L self.depot.layout.lawful v w gs c.requires.kept
    (affinity_of c.args.affinity) c.requires.node.0 v.looked worn.0 worn.1

pub returns-then-is_taken-clause-refused : goal.returns-then-is_taken-clause-refused
returns-then-is_taken-clause-refused g c =
    let self = c.args.self.now in let L = layout_in self.depot in let v = view self.seat in let gs = all_granted self.slots.items in
    taken-books shown L v gs (affinity_of c.args.affinity) (layout_of c.layout-layout.result.now)
    (all_granted c.as_slice.result.now) c.layout-layout.ensures
    (ap all_granted c.as_slice.ensures.value) (c.is_taken.ensures.0 c.if-is_taken.true)

pub returns-then-is_taken-clause-same : goal.returns-then-is_taken-clause-same
returns-then-is_taken-clause-same g c =
    let self = c.args.self.now in let L = layout_in self.depot in let v = view self.seat in let gs = all_granted self.slots.items in
    let w = view c.begin_node.new.seat in
    let worn = subst (λ r. depots.IsRefused L v c.args.affinity r w) c.in-Err-Worn.field-0-is c.in-Err-Worn.ensures.refused in
    read-books shown g.M.Parcel.HasKind.kind (machine_in self) L self.depot.layout.lawful v w gs c.requires.kept
    (affinity_of c.args.affinity) c.requires.node.0 v.looked worn.0 worn.1

pub returns-in-Err-Worn-clause-kept : goal.returns-in-Err-Worn-clause-kept
returns-in-Err-Worn-clause-kept g c =
    let self = c.args.self.now in let L = layout_in self.depot in let v = view self.seat in let gs = all_granted self.slots.items in
    let w = view c.begin_node.new.seat in
    let worn = subst (λ r. depots.IsRefused L v c.args.affinity r w) c.in-Err-Worn.field-0-is c.in-Err-Worn.ensures.refused in
    read-desk shown g.M.Parcel.HasKind.kind (machine_in self) L self.depot.layout.lawful v w gs c.requires.kept
    (affinity_of c.args.affinity) c.requires.node.0 v.looked worn.0 worn.1

pub returns-in-Err-Worn-clause-refused : goal.returns-in-Err-Worn-clause-refused
returns-in-Err-Worn-clause-refused g c =
    let self = c.args.self.now in let L = layout_in self.depot in let v = view self.seat in let gs = all_granted self.slots.items in
    let w = view c.begin_node.new.seat in
    let worn = subst (λ r. depots.IsRefused L v c.args.affinity r w) c.in-Err-Worn.field-0-is c.in-Err-Worn.ensures.refused in (
      free-books shown L v gs (affinity_of c.args.affinity) (layout_of c.layout-layout.result.now) (all_granted c.as_slice.result.now) c.is_taken.result
          c.layout-layout.ensures (ap all_granted c.as_slice.ensures.value) c.is_taken.ensures.1 c.if-is_taken.false,
      worn-so shown g.M.Parcel.HasKind.kind (machine_in self) L self.depot.layout.lawful v w gs c.requires.kept
          (affinity_of c.args.affinity) c.requires.node.0 worn,
    )

pub returns-in-Err-Worn-clause-same : goal.returns-in-Err-Worn-clause-same
returns-in-Err-Worn-clause-same g c =
    let self = c.args.self.now in let L = layout_in self.depot in let v = view self.seat in let gs = all_granted self.slots.items in
    let w = view c.begin_node.new.seat in
    let worn = subst (λ r. depots.IsRefused L v c.args.affinity r w) c.in-Err-Worn.field-0-is c.in-Err-Worn.ensures.refused in
    read-books shown g.M.Parcel.HasKind.kind (machine_in self) L self.depot.layout.lawful v w gs c.requires.kept
    (affinity_of c.args.affinity) c.requires.node.0 v.looked worn.0 worn.1
