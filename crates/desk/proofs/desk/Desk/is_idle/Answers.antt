use Rattle.std.proofs.Common.{◌<◌, length, arith}
use Rattle.std.proofs.lemmas.List.{length-map}
use Rattle.depot.specs.Words.{layout_in, view}
use Rattle.desk.specs.laws.lemmas.Begins.{in-room}
use Rattle.desk.specs.Slots.{granted, all_granted, shown}
use Rattle.desk.proofs.Slots.{told-there, told-idle}
use Rattle.desk.proofs.desk.Desk.is_idle.Goals as goal

pub returns-then-worker-len : goal.returns-then-worker-len
returns-then-worker-len g c = (
  λ e. absurd cc,
  λ idle.
      let past = c.if-worker-len.true in
      let count = c.len.ensures in
      let self = c.args.self.now in let gs = all_granted self.slots.items in let all = length-map self.slots.items granted in
      let room : c.args.worker < length gs = in-room shown (layout_in self.depot) (view self.seat) gs c.args.worker _ idle in
      absurd (omega (arith, past, count, all, room)),
)

pub returns : goal.returns
returns g c =
    let within = c.if-worker-len.false in
    let count = c.len.ensures in
    let self = c.args.self.now in let gs = all_granted self.slots.items in let all = length-map self.slots.items granted in
    let room : c.args.worker < length gs = omega (arith, within, count, all) in
    told-idle shown (layout_in self.depot) (view self.seat) gs c.args.worker c.is_idle_slot.result (granted c.index.result.now) room
    (told-there granted self.slots.items c.args.worker c.index.result.now c.index.ensures) c.is_idle_slot.ensures
