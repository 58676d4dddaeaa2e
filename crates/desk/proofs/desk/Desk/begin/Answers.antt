use Rattle.std.proofs.Common.{◌<◌, length, Some, sym, subst, ap, ◌∙◌, arith}
use Rattle.std.proofs.lemmas.List.{length-map}
use Rattle.affinity.specs.Affinity.{affinity_of, call_affinity, call_node}
use Rattle.affinity.specs.Layout.{layout_of}
use Rattle.depot.specs.Grants as depots
use Rattle.depot.specs.Words.{layout_in, view}
use Rattle.desk.specs.laws.Books.{IsTaken}
use Rattle.desk.specs.laws.Backing.{books_of, IsBook}
use Rattle.desk.specs.laws.Calls.{HasBegun}
use Rattle.desk.specs.laws.lemmas.Begins.{in-room, begun-desk, begun-so, read-books, read-desk, taken-so, worn-so}
use Rattle.desk.specs.laws.lemmas.Taken.{taken-books, free-books}
use Rattle.desk.specs.Slots.{granted, all_granted, shown}
use Rattle.desk.specs.Words.{books, machine_in}
use Rattle.desk.proofs.Slots.{none-there, told-there, told-set, told-same}
use Rattle.desk.proofs.desk.Desk.begin.Goals as goal

pub index_mut-requires : goal.index_mut-requires
index_mut-requires g c =
    let self = c.args.self.now in let layout = layout_in self.depot in let v = view self.seat in let slots = self.slots.items in
    let gs = all_granted slots in
    let room : c.args.worker < length gs = in-room shown layout v gs c.args.worker _ c.requires.idle in
    let all = length-map slots granted in let vec = self.slots.ok.0 in omega arith

pub begin_in-requires-clause-idle : goal.begin_in-requires-clause-idle
begin_in-requires-clause-idle g c =
    let self = c.args.self.now in let layout = layout_in self.depot in let v = view self.seat in let slots = self.slots.items in
    let gs = all_granted slots in
    none-there shown layout v gs c.args.worker c.requires.idle (granted c.index_mut.result.now)
    (told-there granted slots c.args.worker c.index_mut.result.now c.index_mut.ensures.value)

pub returns-then-is_taken-clause-kept : goal.returns-then-is_taken-clause-kept
returns-then-is_taken-clause-kept g c =
    let self = c.args.self.now in let layout = layout_in self.depot in let v = view self.seat in let slots = self.slots.items in
    let gs = all_granted slots in
    let w = view c.begin_in.new.seat in
    let idle = none-there shown layout v gs c.args.worker c.requires.idle (granted c.index_mut.result.now)
    (told-there granted slots c.args.worker c.index_mut.result.now c.index_mut.ensures.value) in
    let same = told-same granted slots c.args.worker c.index_mut.result.now c.begin_in.new.slot c.index_mut.ensures.value
    (c.in-Err-Worn.ensures.idle ∙ sym idle) in
    let worn = subst (λ r. depots.IsRefused layout v (call_affinity c.args.home) r w) c.in-Err-Worn.field-0-is c.in-Err-Worn.ensures.refused in
    subst (λ xs. IsBook g.M.Parcel.HasKind.kind (books_of shown layout w xs) w) (sym same)
    (read-desk shown g.M.Parcel.HasKind.kind (machine_in self) layout self.depot.layout.lawful v w gs c.requires.kept
    (call_node c.args.home) c.requires.node v.looked worn.0 worn.1)

pub returns-then-is_taken-clause-refused : goal.returns-then-is_taken-clause-refused
returns-then-is_taken-clause-refused g c =
    let self = c.args.self.now in let layout = layout_in self.depot in let v = view self.seat in let slots = self.slots.items in
    let gs = all_granted slots in
    let idle = none-there shown layout v gs c.args.worker c.requires.idle (granted c.index_mut.result.now)
    (told-there granted slots c.args.worker c.index_mut.result.now c.index_mut.ensures.value) in
    let same = told-same granted slots c.args.worker c.index_mut.result.now c.begin_in.new.slot c.index_mut.ensures.value
    (c.in-Err-Worn.ensures.idle ∙ sym idle) in
    subst (λ a. IsTaken (books self) (affinity_of a)) c.node.ensures
    (taken-books shown layout v gs (affinity_of c.node.result) (layout_of c.layout.result.now) (all_granted c.as_slice.result.now) c.layout.ensures
    (ap all_granted c.as_slice.ensures.value ∙ same) (c.is_taken.ensures.0 c.if-is_taken.true))

pub returns-then-is_taken-clause-same : goal.returns-then-is_taken-clause-same
returns-then-is_taken-clause-same g c =
    let self = c.args.self.now in let layout = layout_in self.depot in let v = view self.seat in let slots = self.slots.items in
    let gs = all_granted slots in
    let w = view c.begin_in.new.seat in
    let idle = none-there shown layout v gs c.args.worker c.requires.idle (granted c.index_mut.result.now)
    (told-there granted slots c.args.worker c.index_mut.result.now c.index_mut.ensures.value) in
    let same = told-same granted slots c.args.worker c.index_mut.result.now c.begin_in.new.slot c.index_mut.ensures.value
    (c.in-Err-Worn.ensures.idle ∙ sym idle) in
    let worn = subst (λ r. depots.IsRefused layout v (call_affinity c.args.home) r w) c.in-Err-Worn.field-0-is c.in-Err-Worn.ensures.refused in
    ap (λ xs. books_of shown layout w xs) same ∙
    read-books shown g.M.Parcel.HasKind.kind (machine_in self) layout self.depot.layout.lawful v w gs c.requires.kept
    (call_node c.args.home) c.requires.node v.looked worn.0 worn.1

pub returns-in-Ok-clause-kept : goal.returns-in-Ok-clause-kept
returns-in-Ok-clause-kept g c =
    let self = c.args.self.now in let layout = layout_in self.depot in let v = view self.seat in let slots = self.slots.items in
    let gs = all_granted slots in
    let w = view c.begin_in.new.seat in
    let begun = c.in-Ok.ensures.granted in
    subst (λ xs. IsBook g.M.Parcel.HasKind.kind (books_of shown layout w xs) w)
    (sym (told-set granted slots c.args.worker c.begin_in.new.slot (Some begun.0) begun.1))
    (begun-desk shown g.M.Parcel.HasKind.kind (machine_in self) layout self.depot.layout.lawful v w gs c.requires.kept
    (call_node c.args.home) c.requires.node c.args.worker c.requires.idle begun.0 begun.2)

pub returns-in-Ok-clause-begun : goal.returns-in-Ok-clause-begun
returns-in-Ok-clause-begun g c =
    let self = c.args.self.now in let layout = layout_in self.depot in let v = view self.seat in let slots = self.slots.items in
    let gs = all_granted slots in
    let w = view c.begin_in.new.seat in
    let begun = c.in-Ok.ensures.granted in
    subst (λ xs. HasBegun (books self) c.args.worker (call_node c.args.home) (books_of shown layout w xs))
    (sym (told-set granted slots c.args.worker c.begin_in.new.slot (Some begun.0) begun.1))
    (begun-so shown g.M.Parcel.HasKind.kind (machine_in self) layout self.depot.layout.lawful v w gs c.requires.kept
    (call_node c.args.home) c.requires.node c.args.worker c.requires.idle begun.0 begun.2)

pub returns-in-Err-Busy-clause-kept : goal.returns-in-Err-Busy-clause-kept
returns-in-Err-Busy-clause-kept g c =
    let self = c.args.self.now in let layout = layout_in self.depot in let v = view self.seat in let slots = self.slots.items in
    let gs = all_granted slots in
    let w = view c.begin_in.new.seat in
    let idle = none-there shown layout v gs c.args.worker c.requires.idle (granted c.index_mut.result.now)
    (told-there granted slots c.args.worker c.index_mut.result.now c.index_mut.ensures.value) in
    let same = told-same granted slots c.args.worker c.index_mut.result.now c.begin_in.new.slot c.index_mut.ensures.value
    (c.in-Err-Busy.ensures.idle ∙ sym idle) in
    let busy = subst (λ r. depots.IsRefused layout v (call_affinity c.args.home) r w) c.in-Err-Busy.field-0-is c.in-Err-Busy.ensures.refused in
    subst (λ xs. IsBook g.M.Parcel.HasKind.kind (books_of shown layout w xs) w) (sym same)
    (read-desk shown g.M.Parcel.HasKind.kind (machine_in self) layout self.depot.layout.lawful v w gs c.requires.kept
    (call_node c.args.home) c.requires.node 1 busy.1.0 busy.1.1)

pub returns-in-Err-Busy-clause-refused : goal.returns-in-Err-Busy-clause-refused
returns-in-Err-Busy-clause-refused g c =
    let self = c.args.self.now in let layout = layout_in self.depot in let v = view self.seat in let slots = self.slots.items in
    let gs = all_granted slots in
    let w = view c.begin_in.new.seat in
    let busy = subst (λ r. depots.IsRefused layout v (call_affinity c.args.home) r w) c.in-Err-Busy.field-0-is c.in-Err-Busy.ensures.refused in
    taken-so shown g.M.Parcel.HasKind.kind (machine_in self) layout self.depot.layout.lawful v w gs c.requires.kept
    (call_node c.args.home) c.requires.node (busy.1.5 c.requires.kept.only)

pub returns-in-Err-Busy-clause-same : goal.returns-in-Err-Busy-clause-same
returns-in-Err-Busy-clause-same g c =
    let self = c.args.self.now in let layout = layout_in self.depot in let v = view self.seat in let slots = self.slots.items in
    let gs = all_granted slots in
    let w = view c.begin_in.new.seat in
    let idle = none-there shown layout v gs c.args.worker c.requires.idle (granted c.index_mut.result.now)
    (told-there granted slots c.args.worker c.index_mut.result.now c.index_mut.ensures.value) in
    let same = told-same granted slots c.args.worker c.index_mut.result.now c.begin_in.new.slot c.index_mut.ensures.value
    (c.in-Err-Busy.ensures.idle ∙ sym idle) in
    let busy = subst (λ r. depots.IsRefused layout v (call_affinity c.args.home) r w) c.in-Err-Busy.field-0-is c.in-Err-Busy.ensures.refused in
    ap (λ xs. books_of shown layout w xs) same ∙
    read-books shown g.M.Parcel.HasKind.kind (machine_in self) layout self.depot.layout.lawful v w gs c.requires.kept
    (call_node c.args.home) c.requires.node 1 busy.1.0 busy.1.1

pub returns-else-is_taken-clause-kept : goal.returns-else-is_taken-clause-kept
returns-else-is_taken-clause-kept g c =
    let self = c.args.self.now in let layout = layout_in self.depot in let v = view self.seat in let slots = self.slots.items in
    let gs = all_granted slots in
    let w = view c.begin_in.new.seat in
    let idle = none-there shown layout v gs c.args.worker c.requires.idle (granted c.index_mut.result.now)
    (told-there granted slots c.args.worker c.index_mut.result.now c.index_mut.ensures.value) in
    let same = told-same granted slots c.args.worker c.index_mut.result.now c.begin_in.new.slot c.index_mut.ensures.value
    (c.in-Err-Worn.ensures.idle ∙ sym idle) in
    let worn = subst (λ r. depots.IsRefused layout v (call_affinity c.args.home) r w) c.in-Err-Worn.field-0-is c.in-Err-Worn.ensures.refused in
    subst (λ xs. IsBook g.M.Parcel.HasKind.kind (books_of shown layout w xs) w) (sym same)
    (read-desk shown g.M.Parcel.HasKind.kind (machine_in self) layout self.depot.layout.lawful v w gs c.requires.kept
    (call_node c.args.home) c.requires.node v.looked worn.0 worn.1)

pub returns-else-is_taken-clause-refused : goal.returns-else-is_taken-clause-refused
returns-else-is_taken-clause-refused g c =
    let self = c.args.self.now in let layout = layout_in self.depot in let v = view self.seat in let slots = self.slots.items in
    let gs = all_granted slots in
    let w = view c.begin_in.new.seat in
    let idle = none-there shown layout v gs c.args.worker c.requires.idle (granted c.index_mut.result.now)
    (told-there granted slots c.args.worker c.index_mut.result.now c.index_mut.ensures.value) in
    let same = told-same granted slots c.args.worker c.index_mut.result.now c.begin_in.new.slot c.index_mut.ensures.value
    (c.in-Err-Worn.ensures.idle ∙ sym idle) in
    let worn = subst (λ r. depots.IsRefused layout v (call_affinity c.args.home) r w) c.in-Err-Worn.field-0-is c.in-Err-Worn.ensures.refused in (
      subst (λ a. IsTaken (books self) (affinity_of a) → ⊥) c.node.ensures
          (free-books shown layout v gs (affinity_of c.node.result) (layout_of c.layout.result.now) (all_granted c.as_slice.result.now)
          c.is_taken.result c.layout.ensures
          (ap all_granted c.as_slice.ensures.value ∙ same) c.is_taken.ensures.1 c.if-is_taken.false),
      worn-so shown g.M.Parcel.HasKind.kind (machine_in self) layout self.depot.layout.lawful v w gs c.requires.kept
          (call_node c.args.home) c.requires.node worn,
    )

pub returns-else-is_taken-clause-same : goal.returns-else-is_taken-clause-same
returns-else-is_taken-clause-same g c =
    let self = c.args.self.now in let layout = layout_in self.depot in let v = view self.seat in let slots = self.slots.items in
    let gs = all_granted slots in
    let w = view c.begin_in.new.seat in
    let idle = none-there shown layout v gs c.args.worker c.requires.idle (granted c.index_mut.result.now)
    (told-there granted slots c.args.worker c.index_mut.result.now c.index_mut.ensures.value) in
    let same = told-same granted slots c.args.worker c.index_mut.result.now c.begin_in.new.slot c.index_mut.ensures.value
    (c.in-Err-Worn.ensures.idle ∙ sym idle) in
    let worn = subst (λ r. depots.IsRefused layout v (call_affinity c.args.home) r w) c.in-Err-Worn.field-0-is c.in-Err-Worn.ensures.refused in
    ap (λ xs. books_of shown layout w xs) same ∙
    read-books shown g.M.Parcel.HasKind.kind (machine_in self) layout self.depot.layout.lawful v w gs c.requires.kept
    (call_node c.args.home) c.requires.node v.looked worn.0 worn.1
