use Rattle.std.proofs.Common.{rules, ◌≡◌, ◌∷◌, ◌+◌, refl, sym, ap, subst, arith}
use Rattle.affinity.specs.Affinity.{affinity_of}
use Rattle.affinity.specs.Tree.{IsNode}
use Rattle.parcels.specs.Sets.{stripe_parcels}
use Rattle.depot_rule.specs.History.{AreHands, behaviour, entries_of}
use Rattle.depot.specs.Grants.{HasWith}
use Rattle.depot.specs.Words.{view, layout_in, number_in, node_of, held_in}
use Rattle.depot.specs.lemmas.Seats.{begun-with, begun-entries, finished-entries}
use Rattle.depot.specs.trial.Lending.{Moves, taken_by, given_by, FewTokens, IsHand}
use Rattle.depot.specs.trial.lemmas.Stripes.{stripe-changed}
use Rattle.depot.proofs.trial.Lent.{hand-took, number-in-tree, stripe-becomes}
use Rattle.depot.proofs.trial.lending.take.Goals as goal

pub put_back-requires-clause-as_granted : goal.put_back-requires-clause-as_granted
put_back-requires-clause-as_granted c =
    let L = layout_in c.args.depot.now in let grant = c.in-Ok.grant in
    subst (λ h. HasWith (view c.begin.new.seat) (number_in L grant) (stripe_parcels L (affinity_of (node_of grant)) h)) (sym c.held-held.ensures.value)
    (begun-with (view c.args.seat.now) (view c.begin.new.seat) _ _ c.in-Ok.ensures.granted)

pub finish-requires-clause-step : goal.finish-requires-clause-step
finish-requires-clause-step c =
    let L = layout_in c.args.depot.now in let grant = c.in-Ok.grant in let v = view c.begin.new.seat in
    let node : IsNode L (affinity_of (node_of grant)) = search rules in
    let enough = c.if-held-count.false in
    let same : c.held-held.result.now.own ≡ (held_in grant).own = ap (λ h. h.own) c.held-held.ensures.value in (
      _,
      begun-with (view c.args.seat.now) v _ _ c.in-Ok.ensures.granted,
      stripe-becomes (λ before now. now + c.args.count ≡ before) L (affinity_of (node_of grant)) (held_in grant) _ v.tree
          (number-in-tree L (affinity_of (node_of grant)) v.tree c.begin.ensures.seat.1.0 node) (omega arith),
    )

pub finish-requires-clause-hand : goal.finish-requires-clause-hand
finish-requires-clause-hand c =
    let mine = c.in-Ok.ensures.after.1.hand in
    let before = begun-entries (view c.args.seat.now) (view c.begin.new.seat) _ _ c.in-Ok.ensures.granted in
    let own : IsHand (view c.begin.new.seat) mine = subst (λ es. AreHands taken_by given_by es mine) (sym before) c.in-Ok.ensures.after.1.own_hand in
    (mine, c.args.count ∷ mine, own, λ weigh. omega arith)

pub finish-requires-clause-exact : goal.finish-requires-clause-exact
finish-requires-clause-exact c = stripe-changed (layout_in c.args.depot.now) (affinity_of (node_of c.in-Ok.grant)) (held_in c.in-Ok.grant) _
    c.in-Ok.ensures.exact

pub returns-else-held-count-clause-taken : goal.returns-else-held-count-clause-taken
returns-else-held-count-clause-taken c = λ yes_taken hand own.
    let v = view c.begin.new.seat in
    let before : entries_of v ≡ entries_of (view c.args.seat.now) = begun-entries (view c.args.seat.now) v _ _ c.in-Ok.ensures.granted in
    let more = finished-entries (behaviour Moves taken_by given_by FewTokens) v (view c.finish.new.seat) _ _ c.finish.ensures.finished in
    hand-took v (view c.finish.new.seat) _ more c.args.count hand refl refl (subst (λ es. AreHands taken_by given_by es hand) (sym before) own)
