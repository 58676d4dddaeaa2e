use Rattle.std.proofs.Common.{◌<◌, length, None, sym, subst, arith}
use Rattle.std.proofs.lemmas.List.{length-map}
use Rattle.depot.specs.Words.{layout_in, view}
use Rattle.desk.specs.laws.Backing.{books_of, IsBook}
use Rattle.desk.specs.laws.lemmas.Begins.{in-room}
use Rattle.desk.specs.laws.lemmas.Ends.{can-finish, finished-desk, finished-so}
use Rattle.desk.specs.Slots.{granted, all_granted, shown}
use Rattle.desk.specs.Words.{books, machine_in}
use Rattle.desk.specs.laws.Calls.{HasFinished}
use Rattle.desk.proofs.Slots.{told-there, told-set, some-there, some-and, and-some}
use Rattle.desk.proofs.desk.Desk.finish.Goals as goal

pub index_mut-requires : goal.index_mut-requires
index_mut-requires g c =
    let self = c.args.self.now in let layout = layout_in self.depot in let v = view self.seat in let slots = self.slots.items in
    let gs = all_granted slots in
    let room : c.args.worker < length gs = in-room shown layout v gs c.args.worker _ c.requires.may.is_lent in
    let all = length-map slots granted in let vec = self.slots.ok.0 in omega arith

pub finish_in-requires-clause-can : goal.finish_in-requires-clause-can
finish_in-requires-clause-can g c =
    let self = c.args.self.now in let layout = layout_in self.depot in let v = view self.seat in let slots = self.slots.items in
    let gs = all_granted slots in
    let there = told-there granted slots c.args.worker c.index_mut.result.now c.index_mut.ensures.value in
    let found = some-there shown layout v gs c.args.worker _ c.requires.may.is_lent (granted c.index_mut.result.now) there in
    some-and (granted c.index_mut.result.now) found.0 _ found.1
    (can-finish shown g.M.Parcel.HasKind.kind layout self.depot.layout.lawful v gs c.requires.kept c.args.worker found.0 found.2
    (machine_in self) (g.C.Entered.entered c.args.call.now) (g.A.Entered.entered c.args.reply.now) c.requires.may)

pub returns-clause-kept : goal.returns-clause-kept
returns-clause-kept g c =
    let self = c.args.self.now in let layout = layout_in self.depot in let v = view self.seat in let slots = self.slots.items in
    let gs = all_granted slots in
    let there = told-there granted slots c.args.worker c.index_mut.result.now c.index_mut.ensures.value in
    let found = some-there shown layout v gs c.args.worker _ c.requires.may.is_lent (granted c.index_mut.result.now) there in
    let w = view c.finish_in.new.seat in
    subst (λ xs. IsBook g.M.Parcel.HasKind.kind (books_of shown layout w xs) w)
    (sym (told-set granted slots c.args.worker c.finish_in.new.slot None c.finish_in.ensures.idle))
    (finished-desk shown g.M.Parcel.HasKind.kind layout self.depot.layout.lawful v gs c.requires.kept c.args.worker found.0 found.2
    (machine_in self) (g.C.Entered.entered c.args.call.now) (g.A.Entered.entered c.args.reply.now) c.requires.may w
    (and-some (granted c.index_mut.result.now) found.0 _ found.1 c.finish_in.ensures.finished))

pub returns-clause-finished : goal.returns-clause-finished
returns-clause-finished g c =
    let self = c.args.self.now in let layout = layout_in self.depot in let v = view self.seat in let slots = self.slots.items in
    let gs = all_granted slots in
    let there = told-there granted slots c.args.worker c.index_mut.result.now c.index_mut.ensures.value in
    let found = some-there shown layout v gs c.args.worker _ c.requires.may.is_lent (granted c.index_mut.result.now) there in
    let w = view c.finish_in.new.seat in
    subst (λ xs. HasFinished (machine_in self) (books self) c.args.worker (g.C.Entered.entered c.args.call.now)
    (g.A.Entered.entered c.args.reply.now) (books_of shown layout w xs))
    (sym (told-set granted slots c.args.worker c.finish_in.new.slot None c.finish_in.ensures.idle))
    (finished-so shown g.M.Parcel.HasKind.kind layout self.depot.layout.lawful v gs c.requires.kept c.args.worker found.0 found.2
    (machine_in self) (g.C.Entered.entered c.args.call.now) (g.A.Entered.entered c.args.reply.now) c.requires.may w
    (and-some (granted c.index_mut.result.now) found.0 _ found.1 c.finish_in.ensures.finished))
