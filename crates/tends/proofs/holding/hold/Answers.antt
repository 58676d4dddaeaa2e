use Rattle.std.proofs.Common.{◌≡◌, ◌+◌, ℕ, ap, arith, refl, subst, sym}
use Rattle.depot.specs.Grants.{IsAfter}
use Rattle.depot.specs.Words.{held_in, node_of, view, number_at, IsSeatHere}
use Rattle.depot.specs.Words as depots
use Rattle.depot_rule.specs.Plays.{IsOnly}
use Rattle.depot_rule.specs.Shares.{Has}
use Rattle.affinity.specs.Affinity.{affinity_of}
use Rattle.affinity.specs.declared.affinity.Affinity.TheVariants as nodes
use Rattle.parcels.specs.Sets.{serial_parcels}
use Rattle.granted_calls.specs.Balance.{FilerView}
use Rattle.granted_calls.specs.Filers.{layout_in, verifier_in}
use Rattle.granted_calls.specs.Served.{filer_behaviour}
use Rattle.tends.proofs.Holds.{excluded-by, held-ends, worn-ends}
use Rattle.tends.proofs.holding.hold.Goals as goal

pub look_back-requires : goal.look_back-requires
look_back-requires c = subst (λ d. IsSeatHere d c.args.left.seat) (sym c.depot-depot.ensures) c.requires.left.seat

pub unreachable-requires : goal.unreachable-requires
unreachable-requires c =
    let left = c.args.left in
    let v = view left.seat in
    let only : IsOnly v = (let a = left.seat.parts in let b = c.requires.left.only in omega (arith, a, b)) in
    let same = c.look_back.ensures.same in
    let excluded = excluded-by (depots.layout_in c.depot-depot.result.now) (view c.look_back.new.seat) (view c.begin.new.seat) nodes.Serial _ _ _
    c.in-Err-Busy.field-0-is c.in-Err-Busy.ensures.refused (subst (λ (u : FilerView). IsOnly u) (sym same) only) in
    c.requires.left.none_open excluded.0 excluded.1 (subst (λ (u : FilerView). Has u excluded.0 excluded.1) same excluded.2)

pub returns-in-Ok-clause-held : goal.returns-in-Ok-clause-held
returns-in-Ok-clause-held c =
    let left = c.args.left in
    let v = view left.seat in
    let d = c.depot-depot.result.now in
    let grant = c.in-Ok.grant in
    let only : IsOnly v = (let a = left.seat.parts in let b = c.requires.left.only in omega (arith, a, b)) in
    held-ends (layout_in c.args.filer.now) c.args.filer.now.depot.layout.lawful (verifier_in c.args.filer.now) v c.requires.left.seat.1.0
    c.requires.left.opened c.look_back.ensures.back only left.hands.items c.requires.left.hands (node_of grant) c.in-Ok.ensures.node (held_in grant)
    (subst (λ e. IsAfter filer_behaviour v (number_at (depots.layout_in e) (node_of grant))
    (serial_parcels (depots.layout_in e) (affinity_of (node_of grant)) (held_in grant))) c.depot-depot.ensures
    (subst (λ (u : FilerView). IsAfter filer_behaviour u (number_at (depots.layout_in d) (node_of grant))
    (serial_parcels (depots.layout_in d) (affinity_of (node_of grant)) (held_in grant))) c.look_back.ensures.same c.in-Ok.ensures.after))

pub returns-in-Err-Worn-clause-worn : goal.returns-in-Err-Worn-clause-worn
returns-in-Err-Worn-clause-worn c =
    let left = c.args.left in
    let v = view left.seat in
    let only : IsOnly v = (let a = left.seat.parts in let b = c.requires.left.only in omega (arith, a, b)) in
    worn-ends (layout_in c.args.filer.now) c.args.filer.now.depot.layout.lawful (verifier_in c.args.filer.now) v c.requires.left.seat.1.0
    c.requires.left.opened c.look_back.ensures.back only left.hands.items c.requires.left.hands
