use Rattle.std.proofs.Common.{◌≡◌, ℕ, ◌<◌, [], ◌∷◌, length, ap, ◌∙◌, subst, sym}
use Rattle.affinity.specs.Ancestors.{tally}
use Rattle.depot.specs.Words.{view, IsSeatHere}
use Rattle.depot_rule.specs.History.{entries_of, AreHands}
use Rattle.depot_rule.specs.Placed.{HasPlaced}
use Rattle.depot_rule.specs.Shares.{Has}
use Rattle.depot_rule.specs.Sums.{total}
use Rattle.depot_rule.proofs.Placing.{one-placed}
use Rattle.filer_state.specs.state.Jobs.{batches_in}
use Rattle.granted_calls.specs.Balance.{by_key, FilerView, IsEven}
use Rattle.granted_calls.specs.Filers.{layout_in, verifier_in, HasOpened}
use Rattle.turns.specs.Jobs.{job_takes, job_gives}
use Rattle.turns.specs.Words.{entries_in, IsAt}
use Rattle.granted_calls.specs.declared.shared.Filer.{Filer}
use Rattle.turns.specs.declared.worker.Worker.{Worker}
use Rattle.granted_calls.specs.shared_waiting.Passes.{known}
use Rattle.filer_lanes.proofs.Remaining.{calls-first}
use Rattle.tends.proofs.Joins.{hands-first}
use Rattle.filer_lanes.proofs.gathering.begin.Goals as goal

pub look_back-requires : goal.look_back-requires
look_back-requires g c =
    let p = c.into_parts-worker.result in
    let at = subst (λ (f : Filer). IsAt f p.queue p.worker) c.requires.of c.into_parts-worker.ensures.inside in
    subst (λ d. IsSeatHere d c.into_parts-seat.result.seat) (sym c.depot.ensures)
    (subst (λ s. IsSeatHere c.args.filer.now.depot s) (sym c.into_parts-seat.ensures.of.seat) at.seat)

pub returns-clause-calls : goal.returns-clause-calls
returns-clause-calls g c weight =
    let p = c.into_parts-worker.result in
    let w = c.into_parts-seat.result in
    calls-first weight (known p.pass) (known w.pass) (known c.join_pass.result) (entries_of (view c.look_back.new.seat)) w.kept c.args.room.kept.items
    c.push_kept.new.messages.items c.args.room.waiting.items c.drain_behind-waiting.result.items c.into_parts-worker.ensures.picked
    c.join_pass.ensures.both
    (subst (λ (v : FilerView). IsEven (known w.pass) (entries_of v) w.kept) (sym c.look_back.ensures.same) c.into_parts-seat.ensures.settled.balance)
    c.args.room.empty.1 c.args.room.empty.2 c.push_kept.ensures.items
    (c.drain_behind-waiting.ensures.all (by_key weight))
    ∙ ap (λ q. total (by_key weight) (known q).put) c.into_parts-worker.ensures.pass

pub returns-clause-entries : goal.returns-clause-entries
returns-clause-entries g c weight =
    ap (λ (v : FilerView). total weight (entries_of v)) c.look_back.ensures.same
    ∙ (ap (λ s. total weight (entries_of (view s))) c.into_parts-seat.ensures.of.seat
    ∙ ap (λ (w : Worker). total weight (entries_in w)) c.into_parts-worker.ensures.worker)

pub returns-clause-placed : goal.returns-clause-placed
returns-clause-placed g c =
    let w = c.into_parts-seat.result in
    let now = view c.look_back.new.seat in
    let same = c.look_back.ensures.same in
    let order = c.look_back.ensures.back.order in
    let own : entries_of (view w.seat) ≡ entries_in c.args.lane.intake.worker =
    ap (λ s. entries_of (view s)) c.into_parts-seat.ensures.of.seat ∙ ap (λ (w : Worker). entries_in w) c.into_parts-worker.ensures.worker in
    subst (λ (v : FilerView). HasPlaced v (entries_in c.args.lane.intake.worker ∷ [])) (sym same)
    (subst (λ es. HasPlaced (view w.seat) (es ∷ [])) own (one-placed (view w.seat) order))

pub invariant_of-result : goal.invariant_of-result
invariant_of-result g c =
    let p = c.into_parts-seat.result in
    let settled = c.into_parts-seat.ensures.settled in
    let same = c.look_back.ensures.same in
    record {
      in_hand = subst (λ (v : FilerView). AreHands job_takes job_gives (entries_of v) c.push_batch.new.hands.items) (sym same)
          (hands-first (entries_of (view p.seat)) c.args.room.hands.items c.push_batch.new.hands.items (batches_in p.hand)
          c.args.room.empty.0 c.push_batch.ensures.items settled.in_hand);
      none_open = λ b h has. settled.none_open b h (subst (λ (v : FilerView). Has v b h) same has);
    }

pub returns-clause-inside : goal.returns-clause-inside
returns-clause-inside g c =
    let filer = c.args.filer.now in
    let p = c.into_parts-worker.result in
    let at = subst (λ (f : Filer). IsAt f p.queue p.worker) c.requires.of c.into_parts-worker.ensures.inside in
    let same = sym c.into_parts-seat.ensures.of.seat in
    let back = sym c.look_back.ensures.same in
    record {
      seat = subst (λ d. IsSeatHere d c.look_back.new.seat) c.depot.ensures c.look_back.ensures.seat;
      opened = subst (λ (v : FilerView). HasOpened (layout_in filer) (verifier_in filer) v) back
          (subst (λ s. HasOpened (layout_in filer) (verifier_in filer) (view s)) same at.opened);
      within = subst (λ (v : FilerView). (p : ℕ) → 0 < tally p v.mine → p < length v.seen) back c.look_back.ensures.back.within;
    }
