use Rattle.std.proofs.Common.{arith, ◌≡◌, ℕ, ◌+◌, [], ◌∷◌, List, Option, None, length, get_or, sym, refl, ap, ◌∙◌, subst}
use Rattle.std.proofs.lemmas.List.{length-replicate}
use Rattle.nfs_model.specs.Tree.{Serial}
use Rattle.affinity.specs.Layout.{layout_of}
use Rattle.affinity.specs.Numbers.{number_of, node_count, parents}
use Rattle.affinity.specs.lemmas.Smaller.{length-parents}
use Rattle.depot_rule.specs.declared.view.View.{View}
use Rattle.depot_rule.specs.declared.view.Entry.{Entry}
use Rattle.depot_rule.specs.Shares.{Has, opening_view}
use Rattle.depot_rule.proofs.Joining.{none-held}
use Rattle.depot.specs.Calls.{own_views, known}
use Rattle.depot_rule.specs.History.{by_number}
use Rattle.depot.specs.Grants.{IsSeatOf}
use Rattle.affinity.specs.lemmas.Standing.{parents-tree, parents-few}
use Rattle.depot.specs.Words.{served_by}
use Rattle.depot.proofs.Apart.{apart-of, none-apart}
use Rattle.depot.proofs.Opened.{opened-so}
use Rattle.depot.proofs.Laid.{nothing-at, given-all, given-so, some-at, room-for, are-of-kind, still-placed, back-so, opened-view}
use Rattle.depot.proofs.depot.Depot.new.Goals as goal

pub scatter-requires-clause-vacant : goal.scatter-requires-clause-vacant
scatter-requires-clause-vacant g c = λ node under.
    ap (λ (l : List (Option g.row.M-Parcel.Denot)). get_or l (number_of (layout_of c.args.layout) node) None) c.in-Ok.ensures.shelf
    ∙ nothing-at (c.node_count-n.result + 1) (number_of (layout_of c.args.layout) node)

pub scatter-requires-clause-allowed : goal.scatter-requires-clause-allowed
scatter-requires-clause-allowed g c =
    let size = length-parents (layout_of c.args.layout) in
    let count = c.node_count-n.ensures.count in
    let made : length c.in-Ok.shelf.parcels.items ≡ c.node_count-n.result + 1 = ap length c.in-Ok.ensures.shelf
    ∙ length-replicate (c.node_count-n.result + 1) None in
    room-for g.M.Parcel.HasKind.kind (layout_of c.args.layout) (g.N.Node.parcels (layout_of c.args.layout) Serial c.args.parcels) c.requires.exact
    (length c.in-Ok.shelf.parcels.items) (omega arith)

pub new-requires : goal.new-requires
new-requires g c =
    let f : ℕ → Option g.row.M-Parcel.Denot = g.N.Node.parcels (layout_of c.args.layout) Serial c.args.parcels in
    let size = length-parents (layout_of c.args.layout) in
    let count = c.node_count-n.ensures.count in
    let made : length c.in-Ok.shelf.parcels.items ≡ c.node_count-n.result + 1 = ap length c.in-Ok.ensures.shelf
    ∙ length-replicate (c.node_count-n.result + 1) None in
    let kept : length c.scatter.new.shelf.parcels.items ≡ length c.in-Ok.shelf.parcels.items = c.scatter.ensures.kept in
    let are = given-so f (c.node_count-n.result + 1) c.scatter.new.shelf.parcels.items c.in-Ok.shelf.parcels.items c.in-Ok.ensures.shelf
    c.scatter.ensures.moved in
    opened-so g.row.M-Parcel.Denot g.row.M-Call.Denot g.row.M-Reply.Denot g.row.M-Batch.Denot g.M.Parcel.HasKind.kind (served_by g.M.Machine)
    {ps = parents (layout_of c.args.layout)} {first = c.scatter.new.shelf.parcels.items}
    (ap (λ o. o.parents.items) c.of-key.ensures ∙ c.in-Ok.ensures.parents) (ap (λ o. o.parcels.items) c.of-key.ensures) (c.as_slice.ensures.value
    ∙ c.in-Ok.ensures.words) (omega arith)
    (parents-tree (layout_of c.args.layout) c.args.layout.lawful) (let few = parents-few (layout_of c.args.layout) c.args.layout.lawful in omega
    arith) (omega arith)
    (λ k pos lt. let s = some-at g.M.Parcel.HasKind.kind (layout_of c.args.layout) f c.requires.exact k pos lt in (s.0, are k ∙ s.1)) f are c.requires.invariant

pub invariant_of-depot : goal.invariant_of-depot
invariant_of-depot g c =
    let size = length-parents (layout_of c.args.layout) in
    let count = c.node_count-n.ensures.count in
    let ok = c.in-Ok-new.ensures.ok in
    let words : length c.as_slice.result.now ≡ c.node_count-n.result + 1 = ap length (c.as_slice.ensures.value ∙ c.in-Ok.ensures.words)
    ∙ length-replicate (c.node_count-n.result + 1) 0 in
    let list : length c.in-Ok.parents.items ≡ length (parents (layout_of c.args.layout)) = ap length c.in-Ok.ensures.parents in
    let many : c.in-Ok-new.table.shared.table_id.words ≡ length c.as_slice.result.now = ok.0 in
    record {
      words = omega arith;
      tree = sym (ap (λ o. o.value.parents.items) ok.5 ∙ ap (λ o. o.parents.items) c.of-key.ensures);
      layout_tree = c.in-Ok.ensures.parents;
    }

pub gather-requires-clause-there : goal.gather-requires-clause-there
gather-requires-clause-there g c =
    let f : ℕ → Option g.row.M-Parcel.Denot = g.N.Node.parcels (layout_of c.args.layout) Serial c.args.parcels in
    let are = given-so f (c.node_count-n.result + 1) c.scatter.new.shelf.parcels.items c.in-Ok.shelf.parcels.items c.in-Ok.ensures.shelf
    c.scatter.ensures.moved in
    still-placed g.M.Parcel.HasKind.kind (layout_of c.args.layout) f (λ k. get_or c.in-Err.refused.slots.items k None) c.requires.exact
    (λ k. ap (λ (l : List (Option g.row.M-Parcel.Denot)). get_or l k None) c.in-Err.ensures.err ∙ are k)

pub returns-in-Err-clause-refused : goal.returns-in-Err-clause-refused
returns-in-Err-clause-refused g c =
    let f : ℕ → Option g.row.M-Parcel.Denot = g.N.Node.parcels (layout_of c.args.layout) Serial c.args.parcels in
    let are = given-so f (c.node_count-n.result + 1) c.scatter.new.shelf.parcels.items c.in-Ok.shelf.parcels.items c.in-Ok.ensures.shelf
    c.scatter.ensures.moved in
    back-so g.M.Parcel.HasKind.kind (layout_of c.args.layout) f (λ k. get_or c.in-Err.refused.slots.items k None)
    (g.N.Node.parcels (layout_of c.args.layout) Serial c.gather.result) (λ k. get_or c.gather.new.shelf.parcels.items k None)
    c.requires.exact c.gather.ensures.exact
    (λ k. ap (λ (l : List (Option g.row.M-Parcel.Denot)). get_or l k None) c.in-Err.ensures.err ∙ are k)
    c.gather.ensures.moved

pub invariant_of-seat : goal.invariant_of-seat
invariant_of-seat g c =
    let E : Type 0 = Entry g.row.M-Parcel.Denot g.row.M-Call.Denot g.row.M-Reply.Denot in
    let f : ℕ → Option g.row.M-Parcel.Denot = g.N.Node.parcels (layout_of c.args.layout) Serial c.args.parcels in
    let count = c.node_count-n.ensures.count in
    let laid : c.scatter.new.shelf.parcels.items ≡ by_number f (1 + node_count (layout_of c.args.layout))
    = given-all f (c.node_count-n.result + 1) (1 + node_count (layout_of c.args.layout)) c.scatter.new.shelf.parcels.items
    c.in-Ok.shelf.parcels.items c.in-Ok.ensures.shelf c.scatter.ensures.kept (omega arith) c.scatter.ensures.moved in
    let ok = c.in-Ok-new.ensures.ok in
    let e : c.into_badge.result.views ≡ (opening_view {P = g.row.M-Parcel.Denot} {E = E} (parents (layout_of c.args.layout))
    (by_number f (1 + node_count (layout_of c.args.layout))) ∷ []) ∷ []
    = opened-view c.into_badge.ensures.2 (ap (λ m. m.0) ok.4) (ap (λ o. o.parents.items) c.of-key.ensures ∙ c.in-Ok.ensures.parents)
    (ap (λ o. o.parcels.items) c.of-key.ensures ∙ laid) in
    record {
      one = (ap length e, ap (λ l. length (own_views l)) e);
      idle = (ap (λ l. (known l).unsure) e, ap (λ l. (known l).out) e, ap (λ l. length (known l).path) e, ap (λ l. (known l).stamped) e);
      parts = ap (λ l. (known l).parts) e;
      gathered = λ b k h has. absurd (none-held (length (parents (layout_of c.args.layout))) b h
          (subst (λ (l : List (List (View g.row.M-Parcel.Denot E))). Has (known l) b h) e has));
      apart = apart-of _ e (none-apart (parents (layout_of c.args.layout)) (length (parents (layout_of c.args.layout))));
    }

pub returns-in-Ok-new-clause-made : goal.returns-in-Ok-new-clause-made
returns-in-Ok-new-clause-made g c =
    let E : Type 0 = Entry g.row.M-Parcel.Denot g.row.M-Call.Denot g.row.M-Reply.Denot in
    let f : ℕ → Option g.row.M-Parcel.Denot = g.N.Node.parcels (layout_of c.args.layout) Serial c.args.parcels in
    let count = c.node_count-n.ensures.count in
    let laid : c.scatter.new.shelf.parcels.items ≡ by_number f (1 + node_count (layout_of c.args.layout))
    = given-all f (c.node_count-n.result + 1) (1 + node_count (layout_of c.args.layout)) c.scatter.new.shelf.parcels.items
    c.in-Ok.shelf.parcels.items c.in-Ok.ensures.shelf c.scatter.ensures.kept (omega arith) c.scatter.ensures.moved in
    let ok = c.in-Ok-new.ensures.ok in
    let e : c.into_badge.result.views ≡ (opening_view {P = g.row.M-Parcel.Denot} {E = E} (parents (layout_of c.args.layout))
    (by_number f (1 + node_count (layout_of c.args.layout))) ∷ []) ∷ []
    = opened-view c.into_badge.ensures.2 (ap (λ m. m.0) ok.4) (ap (λ o. o.parents.items) c.of-key.ensures ∙ c.in-Ok.ensures.parents)
    (ap (λ o. o.parcels.items) c.of-key.ensures ∙ laid) in
    (refl, ap known e)

pub returns-in-Ok-new-clause-seat : goal.returns-in-Ok-new-clause-seat
returns-in-Ok-new-clause-seat g c =
    let E : Type 0 = Entry g.row.M-Parcel.Denot g.row.M-Call.Denot g.row.M-Reply.Denot in
    let f : ℕ → Option g.row.M-Parcel.Denot = g.N.Node.parcels (layout_of c.args.layout) Serial c.args.parcels in
    let count = c.node_count-n.ensures.count in
    let laid : c.scatter.new.shelf.parcels.items ≡ by_number f (1 + node_count (layout_of c.args.layout))
    = given-all f (c.node_count-n.result + 1) (1 + node_count (layout_of c.args.layout)) c.scatter.new.shelf.parcels.items
    c.in-Ok.shelf.parcels.items c.in-Ok.ensures.shelf c.scatter.ensures.kept (omega arith) c.scatter.ensures.moved in
    let ok = c.in-Ok-new.ensures.ok in
    let e : c.into_badge.result.views ≡ (opening_view {P = g.row.M-Parcel.Denot} {E = E} (parents (layout_of c.args.layout))
    (by_number f (1 + node_count (layout_of c.args.layout))) ∷ []) ∷ []
    = opened-view c.into_badge.ensures.2 (ap (λ m. m.0) ok.4) (ap (λ o. o.parents.items) c.of-key.ensures ∙ c.in-Ok.ensures.parents)
    (ap (λ o. o.parcels.items) c.of-key.ensures ∙ laid) in
    let are = given-so f (c.node_count-n.result + 1) c.scatter.new.shelf.parcels.items c.in-Ok.shelf.parcels.items c.in-Ok.ensures.shelf
    c.scatter.ensures.moved in
    let kinds = are-of-kind g.M.Parcel.HasKind.kind (layout_of c.args.layout) f (by_number f (1 + node_count (layout_of c.args.layout))) c.requires.exact
    (λ k. ap (λ (l : List (Option g.row.M-Parcel.Denot)). get_or l k None) (sym laid) ∙ are k) in (
      c.into_badge.ensures.0 ∙ ok.2,
      subst (λ (l : List (List (View g.row.M-Parcel.Denot E))). IsSeatOf g.M.Parcel.HasKind.kind
          (layout_of c.args.layout) (known l)) (sym e) (refl, kinds),
    )
