-- What is asked of an idle worker with its hand: the inner call that it is, with what is in the hand.
use Rattle.std.proofs.Common.{◌≡◌, ℕ, true, Option, Some, None, Result, inl, refl, sym, ◌∙◌, subst}
use Rattle.std.specs.Prelude.{slice_get}
use Rattle.std.specs.Global.{Vec}
use Rattle.nfs_model.specs.Tree.{Layout}
use Rattle.nfs_model.specs.Parts.{Hand}
use Rattle.nfs_model.specs.Events.Refusals.{PutDown, is_idle}
use Rattle.filer_state.specs.state.Jobs.{InnerCall}
use Rattle.service.specs.Inner.{call_to_put}
use Rattle.engine_feed.specs.Seen.{layout_in}
use Rattle.engine.specs.declared.event.Done.{Done}
use Rattle.engine.specs.declared.event.Refusal.{Refusal}
use Rattle.engine.specs.declared.inner.Asked.{Asked}
use Rattle.engine.specs.declared.inner.Asked.TheVariants as asks
use Rattle.engine.specs.declared.state.State.{State}
use Rattle.engine.specs.declared.worker.Worker.{Worker}
use Rattle.engine.specs.declared.worker.WorkerRun.TheVariants.{Idle}
use Rattle.engine.specs.Inner.{call_asked, FitsAsked, HasAsked, MayAsk, MayTend}
use Rattle.engine.specs.Seen.{setup_in, world, answer_of}
use Rattle.engine.specs.Sound.{IsSoundEngine}
use Rattle.engine.specs.Words.{DoesEvent}
use Rattle.engine.specs.Workers.{worker_with, HandTaken}
use Rattle.engine.proofs.Carried.{put-as, put-nothing}
use Rattle.engine.proofs.Free.{in-hand, has-call, may_put}
use Rattle.engine.proofs.Lists.{inner}
use Rattle.engine.proofs.Tended.{same_hand}
use Rattle.engine.proofs.Workers.{idle-worker}

-- ---- what may be asked

-- what asks for this call alone
pub ask_one : (s : State) (i : ℕ) (asked : Asked) (call : InnerCall) (may : MayTend s i call) → call_asked (setup_in s).layout asked may.hand ≡ Some call
    → FitsAsked asked may.hand → MayAsk s i asked
ask_one s i asked call may is fits = record {
  hand = may.hand;
  there = may.there;
  fits = fits;
  may = λ other e. subst (λ (k : InnerCall). MayTend s i k) (inner call other (sym is ∙ e)) may;
}

module _ (s : State) (sound : IsSoundEngine s) (i : ℕ) (free : is_idle (slice_get (world s).workers i) ≡ true) where
  pub ask_put : MayAsk s i asks.PutDown
  ask_put =
      let place = idle-worker s.workers.items i free in record {
        hand = place.0;
        there = place.1;
        fits = tt;
        may = λ call e. may_put s sound i free (worker_with Idle place.0) place.1 call e;
      }

  -- what came of it is the event's
  pub put_so : (answer : Result Done Refusal) (new : State) (hand : Hand) → slice_get s.workers.items i ≡ Some (worker_with Idle hand)
      → HasAsked s i (call_to_put (layout_in s.calls) hand) answer new → DoesEvent s (PutDown i) answer new
  put_so answer new hand there asked = by (call_to_put (layout_in s.calls) hand) refl asked
    where
      by : (o : Option InnerCall) → call_to_put (layout_in s.calls) hand ≡ o → HasAsked s i o answer new → DoesEvent s (PutDown i) answer new
      by (Some call) is did =
          put-as (setup_in s) (world s) i free (answer_of answer) (world new) hand (in-hand s sound i free (worker_with Idle hand) there) call is did
      by None is did =
          subst (λ (a : Result Done Refusal). DoesEvent s (PutDown i) a new) (sym did.0) (
            inl (put-nothing (setup_in s) (world s) i free hand (in-hand s sound i free (worker_with Idle hand) there)
                (has-call s sound i free (worker_with Idle hand) there is)),
            did.1,
          )

-- ---- its call, once the hand is taken out

module _ (s : State) (i : ℕ) (asked : Asked) (may : MayAsk s i asked) (hand : Hand) (taken : Vec Worker) (takes : HandTaken s.workers i hand taken) where
  pub fits_taken : FitsAsked asked hand
  fits_taken = subst (λ (h : Hand). FitsAsked asked h) (sym (same_hand s i may.hand may.there hand taken takes)) may.fits

  module _ (layout : Layout) (are : layout ≡ layout_in s.calls) where
    so-there : (o : Option InnerCall) → call_asked layout asked hand ≡ o → (h : Hand) → slice_get s.workers.items i ≡ Some (worker_with Idle h)
        → call_asked (setup_in s).layout asked h ≡ o
    so-there o is h there = sym (λ j. call_asked (are j) asked (same_hand s i h there hand taken takes j)) ∙ is

    module _ (call : InnerCall) (is : call_asked layout asked hand ≡ Some call) where
      pub may_tend : MayTend s i call
      may_tend = may.may call (so-there (Some call) is may.hand may.there)

      pub hand_is : hand ≡ may_tend.hand
      hand_is = same_hand s i may_tend.hand may_tend.there hand taken takes

    -- what comes of the call, or where there is none, is what comes of what was asked
    pub has_asked : (o : Option InnerCall) → call_asked layout asked hand ≡ o → (answer : Result Done Refusal) (new : State) → HasAsked s i o answer new
        → (h : Hand) → slice_get s.workers.items i ≡ Some (worker_with Idle h) → HasAsked s i (call_asked (setup_in s).layout asked h) answer new
    has_asked o is answer new did h there = subst (λ (x : Option InnerCall). HasAsked s i x answer new) (sym (so-there o is h there)) did
