use Rattle.std.proofs.Common.{rules, ◌≡◌, ◌∷◌, ◌+◌, refl, sym, ap, subst, arith}
use Rattle.affinity.specs.Affinity.{affinity_of}
use Rattle.affinity.specs.Tree.{IsNode}
use Rattle.depot_rule.specs.History.{AreHands, behaviour, entries_of}
use Rattle.depot.specs.Words.{view, layout_in, node_of, held_in}
use Rattle.depot.specs.lemmas.Seats.{begun-with, begun-entries, finished-entries}
use Rattle.depot.specs.trial.Lending.{Moves, taken_by, given_by, FewTokens, IsHand}
use Rattle.depot.specs.trial.lemmas.Stripes.{stripe-changed}
use Rattle.depot.proofs.trial.Lent.{hand-gave, hand-fits, number-in-tree, stripe-becomes}
use Rattle.depot.proofs.trial.lending.give.Goals as goal

pub overflow_add-held : goal.overflow_add-held
overflow_add-held c =
    let L = layout_in c.args.depot.now in let grant = c.in-Ok.grant in
    let node : IsNode L (affinity_of (node_of grant)) = search rules in
    let fits = hand-fits L (affinity_of (node_of grant)) (view c.args.seat.now) (held_in grant) c.args.count c.requires.hand.0 c.requires.seat.1.0
    node c.requires.hand.1 c.in-Ok.ensures.after in
    let same : c.held-held.result.now.own ≡ (held_in grant).own = ap (λ h. h.own) c.held-held.ensures.value in omega arith

pub finish-requires-clause-step : goal.finish-requires-clause-step
finish-requires-clause-step c =
    let L = layout_in c.args.depot.now in let grant = c.in-Ok.grant in let v = view c.begin.new.seat in
    let node : IsNode L (affinity_of (node_of grant)) = search rules in
    let same : c.held-held.result.now.own ≡ (held_in grant).own = ap (λ h. h.own) c.held-held.ensures.value in (
      _,
      begun-with (view c.args.seat.now) v _ _ c.in-Ok.ensures.granted,
      stripe-becomes (λ before now. now ≡ before + c.args.count) L (affinity_of (node_of grant)) (held_in grant) _ v.tree
          (number-in-tree L (affinity_of (node_of grant)) v.tree c.begin.ensures.seat.1.0 node) (omega arith),
    )

pub finish-requires-clause-hand : goal.finish-requires-clause-hand
finish-requires-clause-hand c =
    let before = begun-entries (view c.args.seat.now) (view c.begin.new.seat) _ _ c.in-Ok.ensures.granted in
    let mine = c.args.count ∷ c.requires.hand.0 in
    let own : IsHand (view c.begin.new.seat) mine = subst (λ es. AreHands taken_by given_by es mine) (sym before) c.requires.hand.1 in
    (mine, c.requires.hand.0, own, λ weigh. omega arith)

pub finish-requires-clause-exact : goal.finish-requires-clause-exact
finish-requires-clause-exact c = stripe-changed (layout_in c.args.depot.now) (affinity_of (node_of c.in-Ok.grant)) (held_in c.in-Ok.grant) _
    c.in-Ok.ensures.exact

pub returns-in-Ok-clause-given : goal.returns-in-Ok-clause-given
returns-in-Ok-clause-given c = λ yes_given rest own.
    let v = view c.begin.new.seat in
    let before : entries_of v ≡ entries_of (view c.args.seat.now) = begun-entries (view c.args.seat.now) v _ _ c.in-Ok.ensures.granted in
    let more = finished-entries (behaviour Moves taken_by given_by FewTokens) v (view c.finish.new.seat) _ _ c.finish.ensures.finished in
    hand-gave v (view c.finish.new.seat) _ more c.args.count rest refl refl (subst (λ es. AreHands taken_by given_by es (c.args.count ∷ rest)) (sym before) own)
