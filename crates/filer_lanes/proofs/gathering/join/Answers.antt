use Rattle.std.proofs.Common.{◌≡◌, ◌+◌, ◌∷◌, ap, ◌∙◌, subst, sym}
use Rattle.depot.specs.Words.{view, IsSeatHere}
use Rattle.depot_rule.specs.History.{entries_of, AreHands}
use Rattle.depot_rule.specs.LookingBack.{LooksBack}
use Rattle.depot_rule.specs.Placed.{HasPlaced}
use Rattle.depot_rule.specs.Seats.{merge}
use Rattle.depot_rule.specs.Shares.{Has}
use Rattle.depot_rule.specs.Sums.{total}
use Rattle.depot_rule.proofs.Placing.{both-placed, both-within, IsWithin}
use Rattle.filer_state.specs.state.Jobs.{batches_in}
use Rattle.granted_calls.specs.Balance.{by_key, FilerView, IsEven}
use Rattle.granted_calls.specs.Filers.{layout_in, verifier_in, HasOpened}
use Rattle.granted_calls.specs.Served.{filer_behaviour}
use Rattle.turns.specs.Jobs.{job_takes, job_gives}
use Rattle.turns.specs.Words.{entries_in, IsAt}
use Rattle.granted_calls.specs.declared.shared.Filer.{Filer}
use Rattle.turns.specs.declared.worker.Worker.{Worker}
use Rattle.granted_calls.specs.shared_waiting.Passes.{known}
use Rattle.filer_lanes.specs.Remains.{calls_in}
use Rattle.filer_lanes.proofs.Remaining.{calls-both}
use Rattle.tends.proofs.Joins.{hands-both, none-both}
use Rattle.filer_lanes.proofs.gathering.join.Goals as goal

pub look_back-requires : goal.look_back-requires
look_back-requires g c =
    let p = c.into_parts-worker.result in
    let at = subst (λ (f : Filer). IsAt f p.queue p.worker) c.requires.of c.into_parts-worker.ensures.inside in
    subst (λ d. IsSeatHere d c.into_parts-other.result.seat) (sym c.depot.ensures)
    (subst (λ s. IsSeatHere c.args.filer.now.depot s) (sym c.into_parts-other.ensures.of.seat) at.seat)

pub join_seat-requires-clause-first : goal.join_seat-requires-clause-first
join_seat-requires-clause-first g c =
    subst (λ d. IsSeatHere d c.args.remains.seat) (sym c.depot-2.ensures) c.requires.inside.seat

pub join_seat-requires-clause-second : goal.join_seat-requires-clause-second
join_seat-requires-clause-second g c =
    subst (λ d. IsSeatHere d c.look_back.new.seat) (c.depot.ensures ∙ sym c.depot-2.ensures) c.look_back.ensures.seat

pub returns-clause-inside : goal.returns-clause-inside
returns-clause-inside g c =
    let filer = c.args.filer.now in
    let within' = subst (λ (v : FilerView). IsWithin v) (sym c.look_back.ensures.same) c.look_back.ensures.back.within in
    record {
      seat = subst (λ d. IsSeatHere d c.join_seat.result) c.depot-2.ensures c.join_seat.ensures.seat;
      opened = subst (λ v. HasOpened (layout_in filer) (verifier_in filer) v) (sym c.join_seat.ensures.joined) c.requires.inside.opened;
      within = subst (λ (v : FilerView). IsWithin v) (sym c.join_seat.ensures.joined)
          (both-within (view c.args.remains.seat) (view c.look_back.new.seat) c.join_seat.ensures.one_history c.requires.inside.within within');
    }

pub returns-clause-entries : goal.returns-clause-entries
returns-clause-entries g c weight =
    c.join_seat.ensures.entries weight
    ∙ ap (λ n. total weight (entries_of (view c.args.remains.seat)) + n)
    (ap (λ (v : FilerView). total weight (entries_of v)) c.look_back.ensures.same
    ∙ (ap (λ s. total weight (entries_of (view s))) c.into_parts-other.ensures.of.seat
    ∙ ap (λ (w : Worker). total weight (entries_in w)) c.into_parts-worker.ensures.worker))

pub returns-clause-placed : goal.returns-clause-placed
returns-clause-placed g c lists placed =
    let v = view c.args.remains.seat in
    let u = view c.look_back.new.seat in
    let back = subst (LooksBack filer_behaviour) (sym c.look_back.ensures.same) c.look_back.ensures.back in
    let own : entries_of u ≡ entries_in c.args.lane.intake.worker =
    ap (λ (v : FilerView). entries_of v) c.look_back.ensures.same
    ∙ (ap (λ s. entries_of (view s)) c.into_parts-other.ensures.of.seat ∙ ap (λ (w : Worker). entries_in w) c.into_parts-worker.ensures.worker) in
    subst (λ (w : FilerView). HasPlaced w (entries_in c.args.lane.intake.worker ∷ lists)) (sym c.join_seat.ensures.joined)
    (subst (λ es. HasPlaced (merge v u) (es ∷ lists)) own
    (both-placed v u c.join_seat.ensures.one_history c.requires.inside.within back.within back.order lists placed))

pub invariant_of-result : goal.invariant_of-result
invariant_of-result g c =
    let x = c.args.remains in
    let p = c.into_parts-other.result in
    let settled = c.into_parts-other.ensures.settled in
    let v = view x.seat in
    let u = view c.look_back.new.seat in
    let w = view c.join_seat.result in
    let same = c.look_back.ensures.same in
    record {
      in_hand = hands-both (entries_of v) (entries_of u) (entries_of w) x.hands.items (batches_in p.hand) c.push_batch.new.hands.items
          c.join_seat.ensures.entries c.push_batch.ensures.items x.in_hand
          (subst (λ (u : FilerView). AreHands job_takes job_gives (entries_of u) (batches_in p.hand)) (sym same) settled.in_hand);
      none_open = none-both v u w x.none_open (λ b h has. settled.none_open b h (subst (λ (u : FilerView). Has u b h) same has))
          c.join_seat.ensures.no_other;
    }

pub returns-clause-calls : goal.returns-clause-calls
returns-clause-calls g c weight =
    let x = c.args.remains in
    let p = c.into_parts-worker.result in
    let w = c.into_parts-other.result in
    calls-both weight (known p.pass) (known w.pass) (known c.join_pass.result) (entries_of (view x.seat)) (entries_of (view c.look_back.new.seat))
    (entries_of (view c.join_seat.result)) w.kept x.kept.items c.push_kept.new.messages.items x.waiting.items c.drain_behind-waiting.result.items
    c.into_parts-worker.ensures.picked c.join_pass.ensures.both
    (subst (λ (v : FilerView). IsEven (known w.pass) (entries_of v) w.kept) (sym c.look_back.ensures.same) c.into_parts-other.ensures.settled.balance)
    c.push_kept.ensures.items
    c.join_seat.ensures.entries (c.drain_behind-waiting.ensures.all (by_key weight))
    ∙ ap (λ q. calls_in weight x + total (by_key weight) (known q).put) c.into_parts-worker.ensures.pass
