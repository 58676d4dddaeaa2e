use Rattle.std.proofs.Common.{◌≡◌, ◌<◌, ℕ, List, length, refl, sym, ap, ◌∙◌, subst}
use Rattle.nfs_model.specs.Tree.{Layout}
use Rattle.affinity.specs.Affinity.{affinity_of}
use Rattle.affinity.specs.Layout.{layout_of}
use Rattle.affinity.specs.Numbers.{number_of, parents}
use Rattle.affinity.specs.Ancestors.{IsTree, Covers}
use Rattle.depot_rule.specs.Seats.{view_of}
use Rattle.depot_rule.specs.Shares.{Has}
use Rattle.parcels.specs.Moved.{Moved}
use Rattle.depot.specs.Holds.{untaken}
use Rattle.depot.specs.Grants.{HasWith}
use Rattle.affinity.specs.lemmas.Standing.{parents-tree, number-place}
use Rattle.depot.proofs.Home.{none-left, set-home, gone-untaken, home-ended, home-else, home-apart}
use Rattle.depot.proofs.Ended.{given-allowed}
use Rattle.depot.proofs.homing.give_home.Goals as goal

pub scatter-requires-clause-allowed : goal.scatter-requires-clause-allowed
scatter-requires-clause-allowed g c =
    let L : Layout = layout_of c.args.layout.now in
    given-allowed L c.requires.tree.2 (affinity_of c.args.grant.affinity) c.requires.node.0 (view_of c.args.place.me.0) (c.requires.ready.4
    ∙ c.requires.tree.1) c.number_of-node.result c.number_of-node.ensures.number
    (g.N.Node.parcels L (affinity_of c.args.grant.affinity) c.args.grant.held)
    (subst (λ (n : ℕ). HasWith (view_of c.args.place.me.0) n (g.N.Node.parcels L (affinity_of c.args.grant.affinity) c.args.grant.held))
    (sym c.number_of-node.ensures.number) c.requires.listed)
    (λ k. g.met.N.Node.within L (affinity_of c.args.grant.affinity) c.args.grant.held k c.requires.node.0 c.requires.node.1)

pub give_up-requires-clause-table : goal.give_up-requires-clause-table
give_up-requires-clause-table g c =
    let L : Layout = layout_of c.args.layout.now in
    let words : c.args.board.now.table_id.words ≡ length (parents L) = c.requires.table.1 ∙ ap length (sym c.requires.tree.0 ∙ c.requires.tree.1) in
    let place = number-place L (affinity_of c.args.grant.affinity) c.requires.node.0 in (
      c.scatter.ensures.kept.1 ∙ c.requires.table.0,
      subst (λ (x : ℕ × ℕ). x.0 < x.1) (λ i. (sym c.number_of-node.ensures.number i, sym words i))
          place.1,
      c.requires.table.1,
    )

pub give_up-requires-clause-tree : goal.give_up-requires-clause-tree
give_up-requires-clause-tree g c = (c.requires.tree.0, subst IsTree (sym c.requires.tree.1) (parents-tree (layout_of c.args.layout.now) c.requires.tree.2))

pub give_up-requires-clause-home : goal.give_up-requires-clause-home
give_up-requires-clause-home g c = λ k h p has pos lt cover lists.
    let tree : (view_of c.args.place.me.0).tree ≡ c.args.board.now.key.value.parents.items = c.requires.ready.4 ∙ c.requires.tree.0 in
    let moved = subst (λ (m : ℕ). (j : ℕ) → Moved (untaken (view_of c.scatter.new.shelf.place.me.0) m j)
    (g.N.Node.parcels (layout_of c.args.layout.now) (affinity_of c.args.grant.affinity) c.args.grant.held j)
    (untaken (view_of c.args.place.me.0) c.number_of-node.result j))
    c.scatter.ensures.kept.0 c.scatter.ensures.moved in
    set-home (g.N.Node.parcels (layout_of c.args.layout.now) (affinity_of c.args.grant.affinity) c.args.grant.held)
    (number_of (layout_of c.args.layout.now) (affinity_of c.args.grant.affinity))
    c.number_of-node.result c.args.place.me.0 c.scatter.new.shelf.place.me.0 c.number_of-node.ensures.number c.requires.listed c.requires.ready.2
    c.scatter.ensures.kept.2 moved k h p has pos
    (subst (λ (ps : List ℕ). k < length ps) (sym tree) lt) (subst (λ (ps : List ℕ). Covers ps c.number_of-node.result k) (sym tree) cover) lists

pub returns-clause-ended : goal.returns-clause-ended
returns-clause-ended g c =
    home-ended (number_of (layout_of c.args.layout.now) (affinity_of c.args.grant.affinity)) c.number_of-node.result c.args.place.me.0
    c.scatter.new.shelf.place.me.0 c.give_up.new.place.me.0
    c.number_of-node.ensures.number c.scatter.ensures.kept.2 c.give_up.ensures.ended

pub returns-clause-others : goal.returns-clause-others
returns-clause-others g c = λ k out.
    home-else c.number_of-node.result c.args.place.me.0 c.scatter.new.shelf.place.me.0 c.give_up.new.place.me.0 c.scatter.ensures.kept.2
    c.give_up.ensures.ended k
    (λ cover. out (subst (λ (j : ℕ). Covers (view_of c.args.place.me.0).tree j k) c.number_of-node.ensures.number cover))

pub returns-clause-apart : goal.returns-clause-apart
returns-clause-apart g c =
    home-apart (number_of (layout_of c.args.layout.now) (affinity_of c.args.grant.affinity)) c.number_of-node.result c.args.place.me.0
    c.scatter.new.shelf.place.me.0 c.number_of-node.ensures.number
    c.scatter.ensures.kept.2 c.give_up.ensures.apart

pub invariant_of-hold : goal.invariant_of-hold
invariant_of-hold g c = record {
  table = c.requires.table;
  one = (c.requires.ready.0, ap length c.requires.ready.1);
  free = c.requires.ready.2;
  tree = c.requires.ready.4 ∙ c.requires.tree.0;
}

pub give_up-requires-clause-ready : goal.give_up-requires-clause-ready
give_up-requires-clause-ready g c =
    let L : Layout = layout_of c.args.layout.now in
    let place = number-place L (affinity_of c.args.grant.affinity) c.requires.node.0 in
    let still = c.scatter.ensures.kept.2.2 in (
      ap length still,
      subst (λ (n : ℕ). 0 < n) (sym c.number_of-node.ensures.number) place.0,
      ap (λ vs. (view_of vs).path) still ∙ c.requires.ready.3,
      ap (λ vs. (view_of vs).tree) still ∙ c.requires.ready.4,
    )

pub give_up-requires-clause-granted : goal.give_up-requires-clause-granted
give_up-requires-clause-granted g c =
    let node = subst (λ (n : ℕ). Has (view_of c.args.place.me.0) n c.requires.listed.0) (sym c.number_of-node.ensures.number) c.requires.listed.1 in
    (c.requires.listed.0, subst (λ vs. Has (view_of vs) c.number_of-node.result c.requires.listed.0) (sym c.scatter.ensures.kept.2.2) node)

pub scatter-requires-clause-vacant : goal.scatter-requires-clause-vacant
scatter-requires-clause-vacant g c = λ node under.
    let v = view_of c.args.place.me.0 in let k = number_of (layout_of c.args.layout.now) node in
    gone-untaken v c.number_of-node.result k
    (λ pos lt cover. c.requires.taken k pos lt (subst (λ (n : ℕ). Covers v.tree n k) c.number_of-node.ensures.number cover))
    (untaken v c.number_of-node.result k) refl

pub returns-clause-seat : goal.returns-clause-seat
returns-clause-seat g c = (
  c.give_up.ensures.seat.0 ∙ c.scatter.ensures.kept.1,
  c.give_up.ensures.seat.1 ∙ none-left c.scatter.new.shelf.place.me.1 c.scatter.new.shelf.one.1,
)
