use Rattle.std.proofs.Common.{◌<◌, length, None, sym, subst, arith}
use Rattle.std.proofs.lemmas.List.{length-map}
use Rattle.depot.specs.Words.{layout_in, view}
use Rattle.desk.specs.laws.Backing.{books_of, IsBook}
use Rattle.desk.specs.laws.lemmas.Begins.{in-room}
use Rattle.desk.specs.laws.lemmas.Ends.{can-put-back, back-desk, back-so}
use Rattle.desk.specs.Slots.{granted, all_granted, shown}
use Rattle.desk.specs.Words.{books}
use Rattle.desk.specs.laws.Calls.{HasPutBack}
use Rattle.desk.proofs.Slots.{told-there, told-set, some-there, some-and, and-some}
use Rattle.desk.proofs.desk.Desk.put_back.Goals as goal

pub index_mut-requires : goal.index_mut-requires
index_mut-requires g c =
    let self = c.args.self.now in let layout = layout_in self.depot in let v = view self.seat in let slots = self.slots.items in
    let gs = all_granted slots in
    let room : c.args.worker < length gs = in-room shown layout v gs c.args.worker _ c.requires.may.is_lent in
    let all = length-map slots granted in let vec = self.slots.ok.0 in omega arith

pub put_back_in-requires-clause-can : goal.put_back_in-requires-clause-can
put_back_in-requires-clause-can g c =
    let self = c.args.self.now in let layout = layout_in self.depot in let v = view self.seat in let slots = self.slots.items in
    let gs = all_granted slots in
    let there = told-there granted slots c.args.worker c.index_mut.result.now c.index_mut.ensures.value in
    let found = some-there shown layout v gs c.args.worker _ c.requires.may.is_lent (granted c.index_mut.result.now) there in
    some-and (granted c.index_mut.result.now) found.0 _ found.1
    (can-put-back shown g.M.Parcel.HasKind.kind layout self.depot.layout.lawful v gs c.requires.kept c.args.worker found.0 found.2
    c.requires.may.lent c.requires.may.is_lent c.requires.may.unchanged)

pub returns-clause-kept : goal.returns-clause-kept
returns-clause-kept g c =
    let self = c.args.self.now in let layout = layout_in self.depot in let v = view self.seat in let slots = self.slots.items in
    let gs = all_granted slots in
    let there = told-there granted slots c.args.worker c.index_mut.result.now c.index_mut.ensures.value in
    let found = some-there shown layout v gs c.args.worker _ c.requires.may.is_lent (granted c.index_mut.result.now) there in
    let w = view c.put_back_in.new.seat in
    subst (λ xs. IsBook g.M.Parcel.HasKind.kind (books_of shown layout w xs) w)
    (sym (told-set granted slots c.args.worker c.put_back_in.new.slot None c.put_back_in.ensures.idle))
    (back-desk shown g.M.Parcel.HasKind.kind layout self.depot.layout.lawful v gs c.requires.kept c.args.worker found.0 found.2
    c.requires.may.lent c.requires.may.is_lent c.requires.may.unchanged w
    (and-some (granted c.index_mut.result.now) found.0 _ found.1 c.put_back_in.ensures.ended))

pub returns-clause-back : goal.returns-clause-back
returns-clause-back g c =
    let self = c.args.self.now in let layout = layout_in self.depot in let v = view self.seat in let slots = self.slots.items in
    let gs = all_granted slots in
    let there = told-there granted slots c.args.worker c.index_mut.result.now c.index_mut.ensures.value in
    let found = some-there shown layout v gs c.args.worker _ c.requires.may.is_lent (granted c.index_mut.result.now) there in
    let w = view c.put_back_in.new.seat in
    subst (λ xs. HasPutBack (books self) c.args.worker (books_of shown layout w xs))
    (sym (told-set granted slots c.args.worker c.put_back_in.new.slot None c.put_back_in.ensures.idle))
    (back-so shown g.M.Parcel.HasKind.kind layout self.depot.layout.lawful v gs c.requires.kept c.args.worker found.0 found.2
    c.requires.may.lent c.requires.may.is_lent c.requires.may.unchanged w
    (and-some (granted c.index_mut.result.now) found.0 _ found.1 c.put_back_in.ensures.ended))
