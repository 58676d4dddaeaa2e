use Rattle.std.proofs.Common.{◌≡◌, Ok, Err, refl, sym, ap, ◌∙◌, subst}
use Rattle.nfs_model.specs.Parts.{Hand}
use Rattle.depot.specs.Words.{view}
use Rattle.depot_rule.specs.History.{entries_of, AreHands}
use Rattle.filer_state.specs.state.Jobs.{InnerCall, batches_in}
use Rattle.service.specs.Jobs.{inner_of, job_takes, job_gives}
use Rattle.service.specs.Works.{batch_hand_of}
use Rattle.granted_calls.specs.shared_waiting.Passes.{known}
use Rattle.turns.specs.Carries.{HasCarried, MayCarry}
use Rattle.turns.specs.Stocks.{stocked_after}
use Rattle.turns.specs.Tends.{call_of, stocked_in}
use Rattle.granted_calls.specs.Filers.{layout_in, verifier_in}
use Rattle.turns.specs.Words.{IsHandIn}
use Rattle.turns.proofs.Called.{fits-hand, tends-by}
use Rattle.turns.proofs.Carrying.{still-even, hand-after-it, hand-inside, answers-it}
use Rattle.turns.proofs.worker.Worker.tend_in.Goals as goal

-- ---- it has an inner call

pub carry-requires-clause-may : goal.carry-requires-clause-may
carry-requires-clause-may c =
    let L = layout_in c.args.filer.now in
    let call = inner_of c.call-call.result in
    let held : c.replace-held.result ≡ c.args.self.now.hand = c.replace-held.ensures.value in
    let same : batch_hand_of c.in-Ok.work ≡ c.args.self.now.hand = c.in-Ok.ensures.hand ∙ held in
    let asked : call_of L c.args.tend c.args.self.now.hand ≡ Ok call =
    sym (λ j. call_of (c.layout.ensures j) c.args.tend (held j)) ∙ c.in-Ok.ensures.call ∙ ap (λ (k : InnerCall). Ok k) (sym c.call-call.ensures) in
    subst (λ (h : Hand). MayCarry L (view c.args.self.now.seat) call h) (sym same) (record {
      fits = fits-hand L c.args.tend c.args.self.now.hand call c.requires.hand asked;
      opened = (verifier_in c.args.filer.now, c.requires.opened);
      own = c.args.self.now.in_hand;
    })

pub invariant_of-self : goal.invariant_of-self
invariant_of-self c =
    let L = layout_in c.args.filer.now in
    let v = view c.args.self.now.seat in
    let w = view c.carry.new.seat in
    let call = inner_of c.call-call.result in
    let same : batch_hand_of c.in-Ok.work ≡ c.args.self.now.hand = c.in-Ok.ensures.hand ∙ c.replace-held.ensures.value in
    let did = subst (λ (h : Hand). HasCarried L v call h c.carry.result w) same c.carry.ensures.carried in
    record {
      balance = still-even L v w call c.args.self.now.hand c.carry.result (known c.args.self.now.pass) c.args.self.now.kept did c.args.self.now.balance;
      in_hand = hand-after-it L v w call c.args.self.now.hand c.carry.result c.answer-hand.result.0 c.answer-hand.result.1 did c.answer-hand.ensures.told
          c.args.self.now.in_hand;
      none_open = c.carry.ensures.ready.none_open;
    }

pub returns-in-Ok-clause-inside : goal.returns-in-Ok-clause-inside
returns-in-Ok-clause-inside c =
    let L = layout_in c.args.filer.now in
    let v = view c.args.self.now.seat in
    let w = view c.carry.new.seat in
    let call = inner_of c.call-call.result in
    let held : c.replace-held.result ≡ c.args.self.now.hand = c.replace-held.ensures.value in
    let same : batch_hand_of c.in-Ok.work ≡ c.args.self.now.hand = c.in-Ok.ensures.hand ∙ held in
    let asked : call_of L c.args.tend c.args.self.now.hand ≡ Ok call =
    sym (λ j. call_of (c.layout.ensures j) c.args.tend (held j)) ∙ c.in-Ok.ensures.call ∙ ap (λ (k : InnerCall). Ok k) (sym c.call-call.ensures) in
    let did = subst (λ (h : Hand). HasCarried L v call h c.carry.result w) same c.carry.ensures.carried in
    record {
      seat = c.carry.ensures.seat;
      opened = c.carry.ensures.ready.opened;
      pass = c.requires.pass;
      layout = c.requires.layout;
      hand = hand-inside L v w call c.args.self.now.hand c.args.filer.now.depot.layout.lawful (verifier_in c.args.filer.now)
          c.requires.seat.1.0 c.requires.opened
          c.batches_are_of_one_range.ensures.fetched c.carry.result c.answer-hand.result.0 c.answer-hand.result.1 did
          c.answer-hand.ensures.told (fits-hand L c.args.tend c.args.self.now.hand call c.requires.hand asked).node c.requires.hand;
      kept = c.requires.kept;
    }

pub returns-in-Ok-clause-tends : goal.returns-in-Ok-clause-tends
returns-in-Ok-clause-tends c =
    let L = layout_in c.args.filer.now in
    let v = view c.args.self.now.seat in
    let w = view c.carry.new.seat in
    let call = inner_of c.call-call.result in
    let held : c.replace-held.result ≡ c.args.self.now.hand = c.replace-held.ensures.value in
    let same : batch_hand_of c.in-Ok.work ≡ c.args.self.now.hand = c.in-Ok.ensures.hand ∙ held in
    let asked : call_of L c.args.tend c.args.self.now.hand ≡ Ok call =
    sym (λ j. call_of (c.layout.ensures j) c.args.tend (held j)) ∙ c.in-Ok.ensures.call ∙ ap (λ (k : InnerCall). Ok k) (sym c.call-call.ensures) in
    let did = subst (λ (h : Hand). HasCarried L v call h c.carry.result w) same c.carry.ensures.carried in
    tends-by L c.args.self.now _ c.args.tend (Ok call) c.answer-hand.result.1 asked
    (answers-it L c.args.self.now _ call c.carry.result c.answer-hand.result.1 did c.answer-hand.ensures.told
    (c.stocked-self.ensures ∙ (λ j. stocked_after (c.volume_of.ensures j) (c.answer-hand.ensures.stock j) (stocked_in c.args.self.now))))

-- ---- it has none

pub invariant_of-self-in-Err : goal.invariant_of-self-in-Err
invariant_of-self-in-Err c =
    let back : c.in-Err.hand ≡ c.args.self.now.hand = c.in-Err.ensures.hand ∙ c.replace-held.ensures.value in
    record {
      balance = c.args.self.now.balance;
      in_hand = subst (λ (h : Hand). AreHands job_takes job_gives (entries_of (view c.args.self.now.seat)) (batches_in h)) (sym back)
          c.args.self.now.in_hand;
      none_open = c.args.self.now.none_open;
    }

pub returns-in-Err-clause-inside : goal.returns-in-Err-clause-inside
returns-in-Err-clause-inside c =
    let back : c.in-Err.hand ≡ c.args.self.now.hand = c.in-Err.ensures.hand ∙ c.replace-held.ensures.value in
    record {
      seat = c.requires.seat;
      opened = c.requires.opened;
      pass = c.requires.pass;
      layout = c.requires.layout;
      hand = subst (λ (h : Hand). IsHandIn (layout_in c.args.filer.now) h) (sym back) c.requires.hand;
      kept = c.requires.kept;
    }

pub returns-in-Err-clause-tends : goal.returns-in-Err-clause-tends
returns-in-Err-clause-tends c =
    let L = layout_in c.args.filer.now in
    let held : c.replace-held.result ≡ c.args.self.now.hand = c.replace-held.ensures.value in
    let asked : call_of L c.args.tend c.args.self.now.hand ≡ Err c.in-Err.refusal =
    sym (λ j. call_of (c.layout.ensures j) c.args.tend (held j)) ∙ c.in-Err.ensures.call in
    tends-by L c.args.self.now _ c.args.tend (Err c.in-Err.refusal) (Err c.in-Err.refusal) asked (refl, refl, c.in-Err.ensures.hand ∙ held, refl)
