use Rattle.std.proofs.Common.{rules, arith, ◌≡◌, ◌<◌, ℕ, Bool, List, Option, slice_index_or, true, false, sym, ap, ◌∙◌, subst, None}
use mathlib.Core.Option.{some}
use lib.ListN.{get_elem?}
use Rattle.std.specs.Mem.Slots.{slots_items, slots_filled, slots_len}
use Rattle.depot.specs.Closed.{left_at}
use Rattle.depot.proofs.Emptied.{put-root, put-there, put-others, put-parcels}
use Rattle.depot.proofs.closed.ClosedTableShelf.put.Goals as goal

pub invariant_of-self : goal.invariant_of-self
invariant_of-self g c =
    let slots = c.args.self.now.table.slots in
    let root : slice_index_or (slots_filled c.put.new.self) 0 false ≡ true
    = ap (λ (l : List Bool). slice_index_or l 0 false) c.put.ensures.filled ∙ put-root (slots_filled slots) c.args.node c.requires.allowed.0
    c.args.self.now.root in
    let parcels = λ (k : ℕ) (pos : 0 < k) (lt : k < slots_len c.put.new.self).
    subst (λ l. get_elem? l k ≡ some None → ⊥) (sym c.put.ensures.items)
    (put-parcels (slots_items slots) c.args.node c.args.parcel k (c.args.self.now.parcels k pos (subst (λ (n : ℕ). k < n) (search rules) lt))) in
    ((search rules, (search rules, tt)), (search rules, (root, (parcels, tt))))

pub returns-clause-there : goal.returns-clause-there
returns-clause-there g c =
    let slots = c.args.self.now.table.slots in
    let l0 = c.args.self.now.lengths.0 in
    let l1 = c.args.self.now.lengths.1 in
    let lt = c.requires.allowed.1 in
    ap (λ (x : List Bool × List (Option _)). left_at x.0 x.1 c.args.node) (λ i. (c.put.ensures.filled i, c.put.ensures.items i))
    ∙ put-there (slots_filled slots) (slots_items slots) c.args.node c.args.parcel c.requires.allowed.0 (omega arith) (omega arith)

pub returns-clause-others : goal.returns-clause-others
returns-clause-others g c = λ k ne.
    let slots = c.args.self.now.table.slots in
    ap (λ (x : List Bool × List (Option _)). left_at x.0 x.1 k) (λ i. (c.put.ensures.filled i, c.put.ensures.items i))
    ∙ put-others (slots_filled slots) (slots_items slots) c.args.node c.args.parcel k ne
