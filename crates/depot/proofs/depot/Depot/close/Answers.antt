use Rattle.std.proofs.Common.{arith, ◌≡◌, ◌+◌, length, sym, ap, ◌∙◌}
use Rattle.std.specs.Mem.Slots.{slots_items, slots_filled, slots_counts}
use Rattle.nfs_model.specs.Tree.{Serial}
use Rattle.affinity.specs.Layout.{layout_of}
use Rattle.affinity.specs.Numbers.{parents, node_count}
use Rattle.affinity.specs.lemmas.Smaller.{length-parents}
use Rattle.depot.specs.Calls.{known}
use Rattle.depot.specs.Closed.{left_at}
use Rattle.depot.specs.Words.{served_by}
use Rattle.depot.proofs.Moves.{one-of}
use Rattle.depot.proofs.Opened.{ended-so}
use Rattle.depot.proofs.Emptied.{whole-some, whole-placed, taken-left, nothing-left}
use Rattle.depot.proofs.depot.Depot.close.Goals as goal

pub into_seat-place-requires : goal.into_seat-place-requires
into_seat-place-requires g c =
    one-of c.args.seat.badge.views c.args.seat.one.0

pub invariant_of-closed : goal.invariant_of-closed
invariant_of-closed g c =
    let all : (known c.args.seat.badge.views).parts ≡ 64 = (let p = c.args.seat.parts in let q = c.requires.only in omega arith) in
    let w = ended-so g.row.M-Parcel.Denot g.row.M-Call.Denot g.row.M-Reply.Denot g.row.M-Batch.Denot g.M.Parcel.HasKind.kind (served_by g.M.Machine)
    c.into_seat-place.result.me.0
    c.into_seat-place.ensures.2 c.args.seat.one.1 all c.requires.none_open c.close_with.ensures.values.2 in
    let slots = c.close_with.result.slots in
    let counts = slots_counts slots in
    let size : length (slots_items slots) ≡ length c.args.self.table.shared.key.value.parents.items = w.size in
    let same : length c.args.self.table.shared.key.value.parents.items ≡ length (parents (layout_of c.args.self.layout)) = ap length
    (sym c.args.self.tree ∙ c.args.self.layout_tree) in
    let some : length (parents (layout_of c.args.self.layout)) ≡ 1 + node_count (layout_of c.args.self.layout) = length-parents
    (layout_of c.args.self.layout) in
    let e0 = counts.0 in
    record {
      lengths = (sym counts.0, sym counts.1);
      root = c.close_with.ensures.values.1 0 (omega arith) (omega arith);
      parcels = λ k pos lt. whole-some g.M.Parcel.HasKind.kind w k pos (omega arith);
    }

pub gather-held-requires-clause-there : goal.gather-held-requires-clause-there
gather-held-requires-clause-there g c =
    let all : (known c.args.seat.badge.views).parts ≡ 64 = (let p = c.args.seat.parts in let q = c.requires.only in omega arith) in
    let w = ended-so g.row.M-Parcel.Denot g.row.M-Call.Denot g.row.M-Reply.Denot g.row.M-Batch.Denot g.M.Parcel.HasKind.kind (served_by g.M.Machine)
    c.into_seat-place.result.me.0
    c.into_seat-place.ensures.2 c.args.seat.one.1 all c.requires.none_open c.close_with.ensures.values.2 in
    let slots = c.close_with.result.slots in
    let counts = slots_counts slots in
    let e0 = counts.0 in
    whole-placed g.M.Parcel.HasKind.kind (layout_of c.args.self.layout) (slots_filled slots) (sym c.args.self.tree ∙ c.args.self.layout_tree)
    c.requires.seat.1.1
    (λ k lt. c.close_with.ensures.values.1 k (omega arith) (omega arith)) w

pub free-requires : goal.free-requires
free-requires g c =
    let all : (known c.args.seat.badge.views).parts ≡ 64 = (let p = c.args.seat.parts in let q = c.requires.only in omega arith) in
    let w = ended-so g.row.M-Parcel.Denot g.row.M-Call.Denot g.row.M-Reply.Denot g.row.M-Batch.Denot g.M.Parcel.HasKind.kind (served_by g.M.Machine)
    c.into_seat-place.result.me.0
    c.into_seat-place.ensures.2 c.args.seat.one.1 all c.requires.none_open c.close_with.ensures.values.2 in
    let slots = c.close_with.result.slots in
    let counts = slots_counts slots in
    let e0 = counts.0 in
    let e1 = counts.1 in
    let size : length (slots_items slots) ≡ length c.args.self.table.shared.key.value.parents.items = w.size in
    let same : length c.args.self.table.shared.key.value.parents.items ≡ length (parents (layout_of c.args.self.layout)) = ap length
    (sym c.args.self.tree ∙ c.args.self.layout_tree) in
    record {
      empty = nothing-left g.M.Parcel.HasKind.kind (layout_of c.args.self.layout) (slots_filled slots) (slots_items slots) _
          (left_at (slots_filled c.gather-held.new.shelf.table.slots) (slots_items c.gather-held.new.shelf.table.slots)) (omega arith)
          c.gather-held.ensures.exact c.gather-held.ensures.moved;
    }

pub returns-clause-entries : goal.returns-clause-entries
returns-clause-entries g c =
    let all : (known c.args.seat.badge.views).parts ≡ 64 = (let p = c.args.seat.parts in let q = c.requires.only in omega arith) in
    let w = ended-so g.row.M-Parcel.Denot g.row.M-Call.Denot g.row.M-Reply.Denot g.row.M-Batch.Denot g.M.Parcel.HasKind.kind (served_by g.M.Machine)
    c.into_seat-place.result.me.0
    c.into_seat-place.ensures.2 c.args.seat.one.1 all c.requires.none_open c.close_with.ensures.values.2 in
    w.entries

pub returns-clause-history : goal.returns-clause-history
returns-clause-history g c =
    let all : (known c.args.seat.badge.views).parts ≡ 64 = (let p = c.args.seat.parts in let q = c.requires.only in omega arith) in
    let w = ended-so g.row.M-Parcel.Denot g.row.M-Call.Denot g.row.M-Reply.Denot g.row.M-Batch.Denot g.M.Parcel.HasKind.kind (served_by g.M.Machine)
    c.into_seat-place.result.me.0
    c.into_seat-place.ensures.2 c.args.seat.one.1 all c.requires.none_open c.close_with.ensures.values.2 in
    let slots = c.close_with.result.slots in
    let counts = slots_counts slots in
    let e0 = counts.0 in (
      w.history.0,
      w.history.1,
      w.history.2,
      w.history.3,
      taken-left g.M.Parcel.HasKind.kind (layout_of c.args.self.layout) (known c.args.seat.badge.views) (slots_filled slots)
          (g.N.Node.parcels (layout_of c.args.self.layout) Serial c.gather-held.result)
          (left_at (slots_filled c.gather-held.new.shelf.table.slots) (slots_items c.gather-held.new.shelf.table.slots)) (sym c.args.self.tree
          ∙ c.args.self.layout_tree) c.requires.seat.1.0
          (λ k lt. c.close_with.ensures.values.1 k (omega arith) (omega arith)) w c.gather-held.ensures.exact c.gather-held.ensures.moved,
    )
