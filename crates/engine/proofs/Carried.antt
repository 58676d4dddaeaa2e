-- What workers carry: an inner call of theirs as the event that it is.
use Rattle.std.proofs.Common.{◌≡◌, ◌⊎◌, inl, inr, ℕ, zero, suc, ◌/◌, true, false, ◌&&◌, IsTrue, List, [], ◌∷◌, length, Option, Some}
use Rattle.std.proofs.Common.{None, Result, Ok, Err, refl, sym, ap, ◌∙◌, subst}
use Rattle.std.specs.Prelude.{slice_get, slice_set, is_some, nat_le}
use Rattle.std.proofs.lemmas.Bool.{lt-ltb}
use Rattle.nfs_model.specs.Tree.{Logical, Vbn, Range, range_blocks_of}
use Rattle.nfs_model.specs.Server.{VolumeState}
use Rattle.nfs_model.specs.Parts.{Hand, Empty, Fresh, Dead, batch_in, range_of, most_ranges}
use Rattle.nfs_model.specs.World.{Setup, World, Worker, changed_at, with_hand}
use Rattle.nfs_model.specs.Events.Refusals as events
use Rattle.nfs_model.specs.Events.Refusals.{Fetch, Cull, PutDown, Survey, excluded, refusal, is_idle, has_empty_hand, is_range_in_use, or_not_in_use}
use Rattle.nfs_model.specs.Events.Refusals.{may_lack_memory, put_refusal, hand_of}
use Rattle.nfs_model.specs.Events.Step.{Events, Happens, stamp_added}
use Rattle.filer_state.specs.state.Jobs as jobs
use Rattle.filer_state.specs.state.Jobs.{InnerCall, JobReply, Took, Gave, Surveyed, Replied, batches_in, without_hand}
use Rattle.service.specs.Inner.{call_to_put}
use Rattle.engine.specs.laws.Inner.{HasMoved}
use Rattle.engine.specs.Inner as tending
use Rattle.engine.specs.Inner.{Refuses, told_as}
use Rattle.engine.proofs.Lists.{set-same}

-- ---- hands

hand-none : (hand : Hand) → [] ≡ batches_in hand → hand ≡ Empty
hand-none Empty e = refl
hand-none (Fresh volume blocks) e = absurd cc
hand-none (Dead volume blocks) e = absurd cc

hand-one : (one hand : Hand) → batches_in one ≡ one ∷ [] → batches_in one ≡ batches_in hand → hand ≡ one
hand-one one Empty is e = absurd (none one (sym is ∙ e))
  where
    none : (one : Hand) → one ∷ [] ≡ [] → ⊥
    none one e = absurd cc
hand-one one (Fresh volume blocks) is e = sym (first one (Fresh volume blocks) (sym is ∙ e))
  where
    first : (x y : Hand) → x ∷ [] ≡ y ∷ [] → x ≡ y
    first x y e = cc
hand-one one (Dead volume blocks) is e = sym (first one (Dead volume blocks) (sym is ∙ e))
  where
    first : (x y : Hand) → x ∷ [] ≡ y ∷ [] → x ≡ y
    first x y e = cc

-- a worker with its own hand
hand-same : (ks : List Worker) (i : ℕ) (k : Worker) → slice_get ks i ≡ Some k → changed_at (with_hand k.hand) ks i ≡ ks
hand-same [] i k e = refl
hand-same (j ∷ ks) zero k e = let same : j ≡ k = cc in ap (λ (x : Worker). with_hand x.hand j ∷ ks) (sym same)
hand-same (j ∷ ks) (suc i) k e = ap (λ js. j ∷ js) (hand-same ks i k e)

module _ (setup : Setup) (w : World) (i : ℕ) where
  abbrev at : Option Worker
  at = slice_get w.workers i

  abbrev Tends : InnerCall → Result events.Done ℕ → World → Type 0
  Tends call answer new = tending.Happens setup w i call answer new

  -- the call that puts down dead blocks
  abbrev to_free : ℕ → List ℕ → InnerCall
  to_free v blocks = jobs.Free v (range_of (range_blocks_of setup.layout v) blocks)

  -- ---- fetch, cull and survey: an idle worker with an empty hand, and a volume that is there

  -- a worker that isn't idle, or whose hand isn't empty
  module _ (busy : (is_idle at && has_empty_hand at) ≡ false) (v : ℕ) where
    pub fetch-busy : (r : ℕ) → refusal setup w (Fetch i v r) ≡ Some 33
    fetch-busy r = rw busy refl

    pub cull-busy : refusal setup w (Cull i v) ≡ Some 33
    cull-busy = rw busy refl

    pub survey-busy : refusal setup w (Survey i v) ≡ Some 33
    survey-busy = rw busy refl

  module _ (free : (is_idle at && has_empty_hand at) ≡ true) (v : ℕ) where
    abbrev there : Option VolumeState
    there = slice_get w.server.volumes v

    -- no such volume
    module _ (none : is_some there ≡ false) where
      pub fetch-nowhere : (r : ℕ) → refusal setup w (Fetch i v r) ≡ Some 41
      fetch-nowhere r = rw (free, none) refl

      pub cull-nowhere : refusal setup w (Cull i v) ≡ Some 41
      cull-nowhere = rw (free, none) refl

      pub survey-nowhere : refusal setup w (Survey i v) ≡ Some 41
      survey-nowhere = rw (free, none) refl

    module _ (some_volume : is_some there ≡ true) where
      -- no such range
      pub fetch-beyond : (r : ℕ) → nat_le most_ranges r ≡ true → refusal setup w (Fetch i v r) ≡ Some 41
      fetch-beyond r beyond = rw (free, some_volume, beyond) refl

      fetch-asks : (r : ℕ) → nat_le most_ranges r ≡ false
          → refusal setup w (Fetch i v r) ≡ or_not_in_use (excluded setup w (Range v r)) (is_range_in_use there r)
      fetch-asks r within = rw (free, some_volume, within) refl

      cull-asks : refusal setup w (Cull i v) ≡ excluded setup w (Logical v)
      cull-asks = rw (free, some_volume) refl

      survey-asks : refusal setup w (Survey i v) ≡ excluded setup w (Vbn v)
      survey-asks = rw (free, some_volume) refl

      -- ---- fetch

      pub fetched : (r : ℕ) → nat_le most_ranges r ≡ false → (answer : Result events.Done ℕ) (new : World) → Tends (jobs.Fetch v r) answer new
          → Events setup w (Fetch i v r) answer new
      fetched r within (Ok done) new h = (
        fetch-asks r within ∙ ap (λ o. or_not_in_use o (is_range_in_use there r)) h.0 ∙ ap (λ b. or_not_in_use None b) (in-use h.1 h.2),
        told h.1 h.2 h.3,
      )
        where
          in-use : (reply : JobReply) → HasMoved setup.layout w i (jobs.Fetch v r) reply new → is_range_in_use there r ≡ true
          in-use (Took hand) m = ap (λ o. is_range_in_use o r) m.there ∙ lt-ltb r (m.volume.total / m.volume.range_blocks) m.moves.0
          in-use (Gave hand) m = absurd m.moves
          in-use (Surveyed counts) m = absurd m.moves
          in-use (Replied reply) m = absurd m.moves

          told : (reply : JobReply) → HasMoved setup.layout w i (jobs.Fetch v r) reply new → done ≡ told_as reply → Happens setup w (Fetch i v r) done new
          told (Took hand) m is = (
            without_hand m.before,
            record { parts = m.after; hand = hand },
            length (batch_in hand),
            (m.mover, m.at, hand-none m.mover.hand m.gave, m.parts),
            m.moves.1,
            is,
            m.world,
          )
          told (Gave hand) m is = absurd m.moves
          told (Surveyed counts) m is = absurd m.moves
          told (Replied reply) m is = absurd m.moves
      fetched r within (Err number) new h = (by h.0, h.1)
        where
          by : Refuses setup w (jobs.Fetch v r) number
              → (refusal setup w (Fetch i v r) ≡ Some number) ⊎ ((number ≡ 90) × (refusal setup w (Fetch i v r) ≡ None) × IsTrue false)
          by (inl e) = inl (fetch-asks r within ∙ ap (λ o. or_not_in_use o (is_range_in_use there r)) e)
          by (inr (inl e)) = inl (fetch-asks r within ∙ ap (λ o. or_not_in_use o (is_range_in_use there r)) e.1
              ∙ ap (λ b. or_not_in_use None b) e.2 ∙ ap (λ n. Some n) (sym e.0))
          by (inr (inr e)) = absurd e.2

      -- ---- cull

      pub culled : (answer : Result events.Done ℕ) (new : World) → Tends (jobs.Cull v) answer new → Events setup w (Cull i v) answer new
      culled (Ok done) new h = (cull-asks ∙ h.0, told h.1 h.2 h.3)
        where
          told : (reply : JobReply) → HasMoved setup.layout w i (jobs.Cull v) reply new → done ≡ told_as reply → Happens setup w (Cull i v) done new
          told (Took hand) m is = (
            without_hand m.before,
            record { parts = m.after; hand = hand },
            length (batch_in hand),
            (m.mover, m.at, hand-none m.mover.hand m.gave, m.parts),
            m.moves,
            is,
            m.world,
          )
          told (Gave hand) m is = absurd m.moves
          told (Surveyed counts) m is = absurd m.moves
          told (Replied reply) m is = absurd m.moves
      culled (Err number) new h = (by h.0, h.1)
        where
          by : Refuses setup w (jobs.Cull v) number
              → (refusal setup w (Cull i v) ≡ Some number) ⊎ ((number ≡ 90) × (refusal setup w (Cull i v) ≡ None) × IsTrue false)
          by (inl e) = inl (cull-asks ∙ e)
          by (inr (inl e)) = absurd e.2
          by (inr (inr e)) = absurd e.2

      -- ---- survey

      pub surveyed : (answer : Result events.Done ℕ) (new : World) → Tends (jobs.Survey v) answer new → Events setup w (Survey i v) answer new
      surveyed (Ok done) new h = (survey-asks ∙ h.0, told h.1 h.2 h.3)
        where
          told : (reply : JobReply) → HasMoved setup.layout w i (jobs.Survey v) reply new → done ≡ told_as reply → Happens setup w (Survey i v) done new
          told (Surveyed counts) m is =
              let empty : Empty ≡ m.mover.hand = sym (hand-none m.mover.hand m.gave) in (
                m.volume,
                m.before,
                counts,
                m.there,
                m.parts,
                m.moves.0,
                is,
                m.world ∙ (λ j. record (stamp_added w) {
                  workers = (ap (λ x. changed_at (with_hand x) w.workers i) empty ∙ hand-same w.workers i m.mover m.at) j;
                  parts = (ap (λ p. slice_set w.parts v p) m.moves.1 ∙ set-same w.parts v m.before m.parts) j;
                }),
              )
          told (Took hand) m is = absurd m.moves
          told (Gave hand) m is = absurd m.moves
          told (Replied reply) m is = absurd m.moves
      surveyed (Err number) new h = (by h.0, h.1)
        where
          by : Refuses setup w (jobs.Survey v) number
              → (refusal setup w (Survey i v) ≡ Some number) ⊎ ((number ≡ 90) × (refusal setup w (Survey i v) ≡ None) × IsTrue true)
          by (inl e) = inl (survey-asks ∙ e)
          by (inr (inl e)) = absurd e.2
          by (inr (inr e)) = inr (e.0, survey-asks ∙ e.1, refl)

  -- ---- putting down: an idle worker

  pub put-busy : is_idle at ≡ false → refusal setup w (PutDown i) ≡ Some 33
  put-busy busy = rw busy refl

  module _ (free : is_idle at ≡ true) (hand : Hand) (carries : hand_of at ≡ hand) where
    put-asks : refusal setup w (PutDown i) ≡ put_refusal setup w hand
    put-asks = rw free (ap (put_refusal setup w) carries)

    pub put-nothing : hand ≡ Empty → refusal setup w (PutDown i) ≡ Some 34
    put-nothing empty = put-asks ∙ ap (put_refusal setup w) empty

  module _ (free : is_idle at ≡ true) (v : ℕ) (blocks : List ℕ) where
    delivered : hand_of at ≡ Fresh v blocks → (answer : Result events.Done ℕ) (new : World) → Tends (jobs.Deliver v) answer new
        → Events setup w (PutDown i) answer new
    delivered carries (Ok done) new h = (put-asks free (Fresh v blocks) carries ∙ h.0, told h.1 h.2 h.3)
      where
        told : (reply : JobReply) → HasMoved setup.layout w i (jobs.Deliver v) reply new → done ≡ told_as reply → Happens setup w (PutDown i) done new
        told (Gave (Fresh u bs)) m is =
            let own = hand-one (Fresh u bs) m.mover.hand refl m.gave in
            let same : Fresh u bs ≡ Fresh v bs = ap (λ n. Fresh n bs) m.moves.0 in (
              record { parts = m.before; hand = Fresh v bs },
              without_hand m.after,
              length bs,
              (m.mover, m.at, own ∙ same, m.parts),
              m.moves.1.2,
              is,
              m.world,
            )
        told (Gave Empty) m is = absurd m.moves
        told (Gave (Dead u bs)) m is = absurd m.moves
        told (Took hand) m is = absurd m.moves
        told (Surveyed counts) m is = absurd m.moves
        told (Replied reply) m is = absurd m.moves
    delivered carries (Err number) new h = (by h.0, h.1)
      where
        may : IsTrue (may_lack_memory w (PutDown i))
        may = subst (λ x. IsTrue (events.is_fresh x)) (sym carries) refl

        by : Refuses setup w (jobs.Deliver v) number
            → (refusal setup w (PutDown i) ≡ Some number)
            ⊎ ((number ≡ 90) × (refusal setup w (PutDown i) ≡ None) × IsTrue (may_lack_memory w (PutDown i)))
        by (inl e) = inl (put-asks free (Fresh v blocks) carries ∙ e)
        by (inr (inl e)) = absurd e.2
        by (inr (inr e)) = inr (e.0, put-asks free (Fresh v blocks) carries ∙ e.1, may)

    freed : hand_of at ≡ Dead v blocks → (answer : Result events.Done ℕ) (new : World) → Tends (to_free v blocks) answer new
        → Events setup w (PutDown i) answer new
    freed carries (Ok done) new h = (put-asks free (Dead v blocks) carries ∙ h.0, told h.1 h.2 h.3)
      where
        told : (reply : JobReply) → HasMoved setup.layout w i (to_free v blocks) reply new → done ≡ told_as reply → Happens setup w (PutDown i) done new
        told (Gave (Dead u bs)) m is =
            let own = hand-one (Dead u bs) m.mover.hand refl m.gave in
            let same : Dead u bs ≡ Dead v bs = ap (λ n. Dead n bs) m.moves.0 in (
              record { parts = m.before; hand = Dead v bs },
              without_hand m.after,
              length bs,
              (m.mover, m.at, own ∙ same, m.parts),
              m.moves.1.2,
              is,
              m.world,
            )
        told (Gave Empty) m is = absurd m.moves
        told (Gave (Fresh u bs)) m is = absurd m.moves
        told (Took hand) m is = absurd m.moves
        told (Surveyed counts) m is = absurd m.moves
        told (Replied reply) m is = absurd m.moves
    freed carries (Err number) new h = (by h.0, h.1)
      where
        by : Refuses setup w (to_free v blocks) number
            → (refusal setup w (PutDown i) ≡ Some number)
            ⊎ ((number ≡ 90) × (refusal setup w (PutDown i) ≡ None) × IsTrue (may_lack_memory w (PutDown i)))
        by (inl e) = inl (put-asks free (Dead v blocks) carries ∙ e)
        by (inr (inl e)) = absurd e.2
        by (inr (inr e)) = absurd e.2

  -- whatever is in the hand
  module _ (free : is_idle at ≡ true) (answer : Result events.Done ℕ) (new : World) where
    pub put-as : (hand : Hand) → hand_of at ≡ hand → (call : InnerCall) → call_to_put setup.layout hand ≡ Some call → Tends call answer new
        → Events setup w (PutDown i) answer new
    put-as Empty carries call is h = absurd cc
    put-as (Fresh v blocks) carries call is h = delivered free v blocks carries answer new
        (subst (λ x. Tends x answer new) (sym (one (jobs.Deliver v) call is)) h)
      where
        one : (x y : InnerCall) → Some x ≡ Some y → x ≡ y
        one x y e = cc
    put-as (Dead v []) carries call is h = absurd cc
    put-as (Dead v (b ∷ bs)) carries call is h =
        freed free v (b ∷ bs) carries answer new (subst (λ x. Tends x answer new) (sym (one (to_free v (b ∷ bs)) call is)) h)
      where
        one : (x y : InnerCall) → Some x ≡ Some y → x ≡ y
        one x y e = cc
