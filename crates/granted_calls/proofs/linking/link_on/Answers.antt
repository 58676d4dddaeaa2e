use Rattle.std.proofs.Common.{rules, ◌≡◌, true, false, [], ◌∷◌, Option, Some, None, refl, subst}
use Rattle.std.specs.Prelude.{IfSome}
use Rattle.depot.specs.Words.{view}
use Rattle.desk.specs.Any.{node_lent}
use Rattle.outboxes.specs.Boxes.{Addressed}
use Rattle.granted_calls.specs.Telling.{TookTold}
use Rattle.granted_calls.specs.shared_waiting.Passes.{known}
use Rattle.granted_calls.specs.Chains.{IsAhead}
use Rattle.granted_calls.specs.Messages.{IsPlaced, Message}
use Rattle.granted_calls.specs.Filers.{layout_in, verifier_in}
use Rattle.granted_calls.proofs.Linked.{lent-for, may-enter, has-room, entered-so, link-moved, link-over, link-on, none-read}
use Rattle.granted_calls.proofs.linking.link_on.Goals as goal

pub try_on-requires-clause-lent : goal.try_on-requires-clause-lent
try_on-requires-clause-lent g c =
    let L = layout_in c.args.filer.now in
    lent-for L c.args.filer.now.depot.layout.lawful (verifier_in c.args.filer.now) c.requires.stands.0 c.args.message c.requires.placed c.args.moment
    (known c.args.pass.now) (node_lent L c.args.grant.now) (view c.args.seat.now) c.requires.stands.1

pub go_on_by-requires-clause-can : goal.go_on_by-requires-clause-can
go_on_by-requires-clause-can g c =
    let L = layout_in c.args.filer.now in
    let l = node_lent L c.args.grant.now in
    let l' = node_lent L c.try_on.new.grant in
    may-enter L c.args.filer.now.depot.layout.lawful (verifier_in c.args.filer.now) c.requires.stands.0 c.args.message c.requires.placed c.args.moment
    (known c.args.pass.now) l (view c.args.seat.now) c.requires.stands.1 c.in-Entered.entry c.try_on.new.told l'
    (entered-so L c.args.message c.args.moment l l' c.try_on.result c.try_on.new.told c.in-Entered.entry _ c.in-Entered.is c.try_on.ensures.ran)

pub answered-requires : goal.answered-requires
answered-requires g c =
    let L = layout_in c.args.filer.now in
    let l = node_lent L c.args.grant.now in
    let l' = node_lent L c.try_on.new.grant in
    has-room L c.args.filer.now.depot.layout.lawful (verifier_in c.args.filer.now) c.requires.stands.0 c.args.message c.requires.placed c.args.moment
    (known c.args.pass.now) l (view c.args.seat.now) c.requires.stands.1 c.in-Entered.entry c.try_on.new.told l'
    (entered-so L c.args.message c.args.moment l l' c.try_on.result c.try_on.new.told c.in-Entered.entry _ c.in-Entered.is c.try_on.ensures.ran)
    c.has_eight.ensures c.servers_are_roomy.ensures.begins c.servers_are_roomy.ensures.stays c.replies_fit.ensures.offered

pub returns-in-Moved-clause-linked : goal.returns-in-Moved-clause-linked
returns-in-Moved-clause-linked g c b stands =
    let L = layout_in c.args.filer.now in (
      refl,
      link-moved L c.args.filer.now.depot.layout.lawful (verifier_in c.args.filer.now) b c.args.message c.requires.placed c.args.moment
          (known c.args.pass.now) (node_lent L c.args.grant.now) (view c.args.seat.now) stands c.try_on.new.told (node_lent L c.try_on.new.grant)
          c.try_on.result c.in-Moved.message c.in-Moved.affinity c.in-Moved.is c.try_on.ensures.ran,
    )

pub returns-in-None-clause-linked : goal.returns-in-None-clause-linked
returns-in-None-clause-linked g c b stands =
    let L = layout_in c.args.filer.now in
    let l = node_lent L c.args.grant.now in
    let l' = node_lent L c.try_on.new.grant in (
      refl,
      link-over L c.args.filer.now.depot.layout.lawful (verifier_in c.args.filer.now) b c.args.message c.requires.placed c.args.moment
          (known c.args.pass.now) l (view c.args.seat.now) stands c.try_on.new.told l' c.in-Entered.entry
          (entered-so L c.args.message c.args.moment l l' c.try_on.result c.try_on.new.told c.in-Entered.entry _ c.in-Entered.is c.try_on.ensures.ran)
          (known c.pick_ahead.new.pass) (view c.args.seat.now) None
          (subst (λ (k : Option Message). IsAhead (known c.args.pass.now) (known c.pick_ahead.new.pass) k) c.in-None.is c.pick_ahead.ensures.ahead)
          (none-read (view c.args.seat.now)),
    )

pub returns-then-not-is_same-clause-placed : goal.returns-then-not-is_same-clause-placed
returns-then-not-is_same-clause-placed g c =
    let L = layout_in c.args.filer.now in
    subst (λ (k : Option Message). IfSome k (IsPlaced L)) c.in-Some.is (c.pick_ahead.ensures.placed L c.requires.layout)

pub returns-then-not-is_same-clause-linked : goal.returns-then-not-is_same-clause-linked
returns-then-not-is_same-clause-linked g c b stands =
    let L = layout_in c.args.filer.now in
    let l = node_lent L c.args.grant.now in
    let l' = node_lent L c.try_on.new.grant in (
      refl,
      link-over L c.args.filer.now.depot.layout.lawful (verifier_in c.args.filer.now) b c.args.message c.requires.placed c.args.moment
          (known c.args.pass.now) l (view c.args.seat.now) stands c.try_on.new.told l' c.in-Entered.entry
          (entered-so L c.args.message c.args.moment l l' c.try_on.result c.try_on.new.told c.in-Entered.entry _ c.in-Entered.is c.try_on.ensures.ran)
          (known c.pick_ahead.new.pass) (view c.args.seat.now) (Some c.in-Some.next)
          (subst (λ (k : Option Message). IsAhead (known c.args.pass.now) (known c.pick_ahead.new.pass) k) c.in-Some.is c.pick_ahead.ensures.ahead)
          (none-read (view c.args.seat.now)),
    )

pub returns-then-not-go_on_by-clause-placed : goal.returns-then-not-go_on_by-clause-placed
returns-then-not-go_on_by-clause-placed g c =
    let L = layout_in c.args.filer.now in
    subst (λ (k : Option Message). IfSome k (IsPlaced L)) c.in-Some.is (c.pick_ahead.ensures.placed L c.requires.layout)

pub returns-then-not-go_on_by-clause-linked : goal.returns-then-not-go_on_by-clause-linked
returns-then-not-go_on_by-clause-linked g c b stands =
    let L = layout_in c.args.filer.now in
    let l = node_lent L c.args.grant.now in
    let l' = node_lent L c.try_on.new.grant in
    let stayed : c.go_on_by.result ≡ false = search rules in
    let last = c.go_on_by.ensures.stayed stayed in (
      refl,
      link-over L c.args.filer.now.depot.layout.lawful (verifier_in c.args.filer.now) b c.args.message c.requires.placed c.args.moment
          (known c.args.pass.now) l (view c.args.seat.now) stands c.try_on.new.told l' c.in-Entered.entry
          (entered-so L c.args.message c.args.moment l l' c.try_on.result c.try_on.new.told c.in-Entered.entry _ c.in-Entered.is c.try_on.ensures.ran)
          (known c.pick_ahead.new.pass) (view c.go_on_by.new.seat) (Some c.in-Some.next)
          (subst (λ (k : Option Message). IsAhead (known c.args.pass.now) (known c.pick_ahead.new.pass) k) c.in-Some.is c.pick_ahead.ensures.ahead)
          (last.0, last.1, last.2),
    )

pub returns-clause-placed : goal.returns-clause-placed
returns-clause-placed g c =
    let L = layout_in c.args.filer.now in
    subst (λ (k : Option Message). IfSome k (IsPlaced L)) c.in-Some.is (c.pick_ahead.ensures.placed L c.requires.layout)

pub returns-clause-linked : goal.returns-clause-linked
returns-clause-linked g c b stands =
    let L = layout_in c.args.filer.now in
    let l = node_lent L c.args.grant.now in
    let l' = node_lent L c.try_on.new.grant in
    let went : c.go_on_by.result ≡ true = search rules in
    let gone = c.go_on_by.ensures.went went in
    let same : c.in-Some.next.affinity ≡ c.args.message.affinity = search rules in
    link-on L c.args.filer.now.depot.layout.lawful (verifier_in c.args.filer.now) b c.args.message c.requires.placed c.args.moment
    (known c.args.pass.now) l (view c.args.seat.now) stands c.try_on.new.told l' c.in-Entered.entry
    (entered-so L c.args.message c.args.moment l l' c.try_on.result c.try_on.new.told c.in-Entered.entry _ c.in-Entered.is c.try_on.ensures.ran)
    (known c.pick_ahead.new.pass) (view c.go_on_by.new.seat) (TookTold c.args.handles g.S.AnswerSink.took) c.args.sink.now c.take_answer.new.self
    c.in-Some.next c.answered.new.told same
    (subst (λ (k : Option Message). IsAhead (known c.args.pass.now) (known c.pick_ahead.new.pass) k) c.in-Some.is c.pick_ahead.ensures.ahead)
    gone.0 gone.1 gone.2
    (subst (λ (a : Addressed). g.S.AnswerSink.took c.args.sink.now (a ∷ []) c.take_answer.new.self) c.answered.ensures c.take_answer.ensures)
