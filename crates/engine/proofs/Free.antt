-- An idle worker with an empty hand, a volume that is there, and what is in a hand: what a call of a hand asks for.
use Rattle.std.proofs.Common.{◌≡◌, ℕ, zero, suc, ◌<◌, Bool, true, false, ◌&&◌, List, [], ◌∷◌, length, map, Some, None, refl, sym, ap, ◌∙◌}
use Rattle.std.proofs.Common.{subst, arith}
use Rattle.std.specs.Prelude.{slice_get, is_some, nat_lt}
use Rattle.std.proofs.lemmas.Bool.{and_parts, ltb-true, lt-ltb}
use Rattle.std.proofs.lemmas.Bool.Decides.{nat_tests}
use Rattle.std.proofs.lemmas.List.{length-map}
use Rattle.nfs_model.specs.Tree.{Layout, range_blocks_of}
use Rattle.nfs_model.specs.Parts.{Hand, Empty, Fresh, Dead, range_of}
use Rattle.nfs_model.specs.Events.Refusals.{is_idle, has_empty_hand, hand_of}
use Rattle.filer_state.specs.state.Contents.{filer_contents}
use Rattle.filer_state.specs.state.Tree.{volume_of}
use Rattle.filer_state.specs.state.Jobs.{InnerCall, Fetch, Deliver, Cull, Free, Survey}
use Rattle.filer_state.specs.laws.lemmas.Steps.{laid-out}
use Rattle.desk.specs.laws.Books.{now}
use Rattle.service.specs.Inner.{call_to_put}
use Rattle.desk.specs.Words.{books}
use Rattle.engine_feed.specs.Seen.{layout_in}
use Rattle.engine.specs.declared.state.State.{State}
use Rattle.engine.specs.declared.worker.Worker.{Worker}
use Rattle.engine.specs.declared.worker.WorkerRun.TheVariants.{Idle}
use Rattle.engine.specs.Inner.{MayTend}
use Rattle.engine.specs.Seen.{world, worker_seen}
use Rattle.engine.specs.Sound.{IsSoundEngine, IsCarried}
use Rattle.engine.specs.Workers.{worker_with, idle_worker}
use Rattle.engine.proofs.Lists.{all-at, inner}
use Rattle.engine.proofs.Workers.{idle-worker, empty-hand, seen-at}

-- ---- a volume that is there

there-within : {X : Type 0} (xs : List X) (v : ℕ) → is_some (slice_get xs v) ≡ nat_lt v (length xs)
there-within [] v = sym (lt-none v)
  where
    lt-none : (v : ℕ) → nat_lt v 0 ≡ false
    lt-none v = grind (arith, nat_tests)
there-within (x ∷ xs) zero = sym (lt-ltb 0 (suc (length xs)) (omega arith))
there-within (x ∷ xs) (suc v) = there-within xs v ∙ shifted v (length xs)
  where
    shifted : (a b : ℕ) → nat_lt a b ≡ nat_lt (suc a) (suc b)
    shifted a b = grind (arith, nat_tests)

-- what was asked of a list is so of it
pub free-there : (ks xs : List Worker) (i : ℕ) (b : Bool) → xs ≡ ks
    → b ≡ (is_idle (slice_get (map worker_seen xs) i) && has_empty_hand (slice_get (map worker_seen xs) i))
    → (is_idle (slice_get (map worker_seen ks) i) && has_empty_hand (slice_get (map worker_seen ks) i)) ≡ b
free-there ks xs i b are told =
    ap (λ zs. is_idle (slice_get (map worker_seen zs) i) && has_empty_hand (slice_get (map worker_seen zs) i)) (sym are) ∙ sym told

module _ (s : State) (sound : IsSoundEngine s) where
  pub volume-asked : (v : ℕ) (b : Bool) → b ≡ nat_lt v (length (layout_in s.calls).volumes) → is_some (slice_get (world s).server.volumes v) ≡ b
  volume-asked v b told =
      let b' = books s.desk in
      let laid = laid-out b'.layout (now b') in
      let many : length (world s).server.volumes ≡ length (layout_in s.calls).volumes =
      length-map (filer_contents b'.layout (now b')).volumes volume_of ∙ laid.volumes ∙ ap (λ (l : Layout). length l.volumes) sound.layout in
      there-within (world s).server.volumes v ∙ ap (nat_lt v) many ∙ sym told

  module _ (i : ℕ) where
    -- ---- an idle worker with an empty hand

    module _ (free : (is_idle (slice_get (world s).workers i) && has_empty_hand (slice_get (world s).workers i)) ≡ true) where
      one-free : slice_get s.workers.items i ≡ Some idle_worker
      one-free =
          let both = and_parts (is_idle (slice_get (world s).workers i)) (has_empty_hand (slice_get (world s).workers i)) free in
          let idle = idle-worker s.workers.items i both.0 in
          let seen = seen-at s.workers.items i (worker_with Idle idle.0) idle.1 in
          let empty = empty-hand idle.0 (ap has_empty_hand (sym seen) ∙ both.1) in
          idle.1 ∙ ap (λ (h : Hand). Some (worker_with Idle h)) empty

      within : (v : ℕ) → true ≡ nat_lt v (length (layout_in s.calls).volumes) → v < length (layout_in s.calls).volumes
      within v told = ltb-true v (length (layout_in s.calls).volumes) (sym told)

      module _ (v : ℕ) (told : true ≡ nat_lt v (length (layout_in s.calls).volumes)) where
        pub may_fetch : (r : ℕ) → r < 16 → MayTend s i (Fetch v r)
        may_fetch r less = record { hand = Empty; there = one-free; fits = refl; node = (within v told, less) }

        pub may_cull : MayTend s i (Cull v)
        may_cull = record { hand = Empty; there = one-free; fits = refl; node = within v told }

        pub may_survey : MayTend s i (Survey v)
        may_survey = record { hand = Empty; there = one-free; fits = refl; node = within v told }

    -- ---- an idle worker, and what is in its hand

    module _ (free : is_idle (slice_get (world s).workers i) ≡ true) where
      place : (hand : Hand) × (slice_get s.workers.items i ≡ Some (worker_with Idle hand))
      place = idle-worker s.workers.items i free

      pub in-hand : (k : Worker) → slice_get s.workers.items i ≡ Some k → hand_of (slice_get (world s).workers i) ≡ k.hand
      in-hand k there = ap hand_of (seen-at s.workers.items i k there)

      module _ (k : Worker) (there : slice_get s.workers.items i ≡ Some k) where
        carried : IsCarried (layout_in s.calls) k.hand
        carried = (all-at _ s.workers.items i k sound.workers there).1

        idle-place : slice_get s.workers.items i ≡ Some (worker_with Idle k.hand)
        idle-place = let same = inner k (worker_with Idle place.0) (sym there ∙ place.1) in
            there ∙ ap (λ (x : Worker). Some (worker_with x.run k.hand)) same

        -- a batch has a call that puts it down
        pub has-call : call_to_put (layout_in s.calls) k.hand ≡ None → k.hand ≡ Empty
        has-call none = by k.hand carried none
          where
            by : (h : Hand) → IsCarried (layout_in s.calls) h → call_to_put (layout_in s.calls) h ≡ None → h ≡ Empty
            by Empty is e = refl
            by (Fresh v bs) is e = absurd cc
            by (Dead v []) is e = absurd (omega (arith, is.1))
            by (Dead v (b ∷ bs)) is e = absurd cc

        pub may_put : (call : InnerCall) → call_to_put (layout_in s.calls) k.hand ≡ Some call → MayTend s i call
        may_put call is = by k.hand idle-place carried is
          where
            by : (h : Hand) → slice_get s.workers.items i ≡ Some (worker_with Idle h) → IsCarried (layout_in s.calls) h
                → call_to_put (layout_in s.calls) h ≡ Some call → MayTend s i call
            by Empty there is e = absurd cc
            by (Fresh v bs) there is e = subst (MayTend s i) (inner (Deliver v) call e)
                (record { hand = Fresh v bs; there = there; fits = (bs, refl, is.1, is.2); node = is.0 })
            by (Dead v []) there is e = absurd cc
            by (Dead v (b ∷ bs)) there is e = subst (MayTend s i) (inner (Free v (range_of (range_blocks_of (layout_in s.calls) v) (b ∷ bs))) call e)
                (record { hand = Dead v (b ∷ bs); there = there; fits = (b ∷ bs, refl, is.1, is.3); node = (is.0, is.2) })
