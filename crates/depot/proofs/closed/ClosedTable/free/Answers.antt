use Rattle.std.proofs.Common.{◌≡◌, ◌<◌, ℕ, true, false, get_or, length, ap, ◌∙◌, arith, List, [], ◌∷◌, Bool}
use Rattle.std.specs.Mem.Slots.{slots_items, slots_filled, slots_len}
use Rattle.depot.proofs.Emptied.{none-left, all-empty}
use Rattle.depot.proofs.closed.ClosedTable.free.Goals as goal

some-first : (l : List Bool) → get_or l 0 false ≡ true → 0 < length l
some-first [] e = absurd cc
some-first (x ∷ l) e = omega arith

pub take-requires : goal.take-requires
take-requires g c =
    let root = c.args.self.root in
    let some = some-first (slots_filled c.args.self.table.slots) root in
    let same = c.args.self.lengths.1 in (omega arith, root)

pub free-requires : goal.free-requires
free-requires g c =
    let before = c.args.self.table.slots in
    let lengths = c.args.self.lengths in
    let others : (k : ℕ) → 0 < k → k < length (slots_filled before) → get_or (slots_filled before) k false ≡ false
    = λ k pos lt. (let l : k < slots_len before = (let e = lengths.1 in omega arith) in let i : k < length
    (slots_items before) = (let e = lengths.0 in omega arith) in
    none-left (slots_filled before) (slots_items before) k pos i (c.args.self.parcels k pos l) (c.requires.empty k)) in
    let same = c.take.ensures.others in
    let len = same.2 in
    λ k lt. ap (λ (l : List Bool). get_or l k false) same.1 ∙ all-empty (slots_filled before) others k (let e = lengths.1 in omega arith)
