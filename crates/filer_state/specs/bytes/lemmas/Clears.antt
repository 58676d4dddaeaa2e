-- WRITE of callers that are checked, by a stripe, by what is under Logical, and by what is under Volume.
use Rattle.std.proofs.Common.{◌≡◌, ◌≢◌, ℕ, zero, suc, ◌+◌, ◌-◌, ◌<◌, ◌&&◌, ◌||◌, not, Bool, true, false, List, length, Option, Some, None, nat_lt}
use Rattle.std.proofs.Common.{refl, sym, ap, ◌∙◌, subst, arith, ne_eqb}
use Rattle.std.specs.Prelude.{if◌then◌else◌, IsTrue, Result, Ok, Err}
use Rattle.std.specs.FinMap.{get}
use Rattle.nfs_model.specs.Types.{Answer, Status, NoSpace, Write, WriteDone, Failed, Success, Reply, Ownership}
use Rattle.nfs_model.specs.Tree.{Affinity, Volume, Logical, Stripe}
use Rattle.nfs_model.specs.Server.{FileNode, Node, VolumeState, used}
use Rattle.nfs_model.specs.Locate.{Effect, Fails, Tells, unless}
use Rattle.nfs_model.specs.Parts.{Hand, Parts}
use Rattle.nfs_model.specs.Moves.{Filled, PartsChange}
use Rattle.nfs_model.specs.Serial.Starve.{takes_memory}
use Rattle.nfs_model.specs.Serial.Write.{Writing, bytes_kept, space_fault, write}
use Rattle.nfs_model.specs.Work.{Outcome, Replied, Starved, Moved, Ready, move_if}
use Rattle.depot_rule.specs.Sums.{total}
use Rattle.nfs_model.specs.volume.Stripes.{StripeValue}
use Rattle.filer_state.specs.state.Contents.{VolumeContents}
use Rattle.filer_state.specs.state.Tree.{volume_of}
use Rattle.filer_state.specs.state.Partition.{parts_of, stored, times_in_hand}
use Rattle.filer_state.specs.state.Sound.{IsSound}
use Rattle.filer_state.specs.state.Lenses.{Lens, LogicalSet, VolumeSet, logical_lens, stripe_lens, volume_lens}
use Rattle.filer_state.specs.state.Calls.{VolumeCall, unasked, WorksOn, move_on, answer_of, volume_left}
use Rattle.filer_state.specs.state.Running.{RunsOn}
use Rattle.filer_state.specs.laws.lemmas.Steps.{sound-later}
use Rattle.filer_state.specs.bytes.Writing.{StripeOutcome}
use Rattle.filer_state.specs.bytes.WritingLaws.{plain, write_call}
use Rattle.filer_state.specs.bytes.WritingUp.{bytes_due}
use Rattle.filer_state.specs.bytes.Permitted.{owner_on, owner_at, owner_held, write_refused, clears_owned, replies_bytes, tells_bytes, has_written}
use Rattle.filer_state.specs.bytes.Permitted.{set_ids_ended, logical_cleared, volume_cleared, moves_instead, write_by}
use Rattle.filer_state.specs.bytes.lemmas.Callers.{runs-alike, runs-refused}
use Rattle.filer_state.specs.bytes.lemmas.Reads.{stripe-back}
use Rattle.filer_state.specs.bytes.lemmas.ReadsBy.{stripe-owner, logical-owner}
use Rattle.filer_state.specs.bytes.lemmas.Checks.{SomeBytes, Checked, checked, change_of, ready_on, ready_of}
use Rattle.filer_state.specs.bytes.lemmas.WrittenNodes.{file_before}
use Rattle.filer_state.specs.bytes.lemmas.WriteMoves.{space-there, either-false}
use Rattle.filer_state.specs.bytes.lemmas.WritesBy.{reclear, stripe-moves, stripe-moves-too, logical-ignores, volume-ignores}
use Rattle.filer_state.specs.bytes.lemmas.WritesBy.{taken, retake, answer-same, refused-run, refused-stays, ran, knows, same-run, same-move}
use Rattle.filer_state.specs.bytes.lemmas.Ended.{ended_in, sound-ended, volume-ended, used-ended, parts-ended}
use Rattle.filer_state.specs.bytes.lemmas.LogicalWrites as logicals
use Rattle.filer_state.specs.bytes.lemmas.FilledParts as volumes

-- ---- where the mode changes, on one volume

module _ (p q : VolumeContents) (f : ℕ) (handle : List ℕ) (w : Writing) (node : Affinity)
    (permits : write_refused w.caller (owner_at (get p.logical.inodes.inodes f)) ≡ None)
    (clears : clears_owned w.caller (owner_at (get p.logical.inodes.inodes f)) ≡ true) where
  abbrev seen : VolumeState
  seen = volume_of p

  abbrev here : Option Node
  here = get seen.nodes f

  abbrev plain_call : VolumeCall
  plain_call = write_call handle node f w

  abbrev asked : VolumeCall
  asked = write_by handle node f w

  answers : answer_of 2 (asked.run seen) ≡ answer_of 2 (plain_call.run seen)
  answers =
      ap (answer_of 2) (ran p f handle w node permits) ∙ answer-same p f handle w node here (plain_call.run seen)

  -- what moves it
  move-is : move_on asked p ≡ move_if (Some (parts_of p)) node (reclear true (ready_on p f handle w node here))
  move-is = ap (move_if (Some (parts_of p)) node)
      (knows p f handle w node permits ∙ ap (λ (b : Bool). reclear b (ready_on p f handle w node here)) clears)

  -- what a reply tells
  module _ (reply : Reply) (done : WorksOn plain_call p (Replied reply) q) where
    abbrev Stays : Type 0
    Stays = (replies_bytes reply ≡ false) × (volume_left seen (plain_call.run seen) ≡ volume_left seen (asked.run seen))

    -- where nothing is written
    nothing : (e : Effect) → plain_call.run seen ≡ e → retake p f handle w node here e ≡ e → tells_bytes (answer_of 2 e) ≡ false → Stays
    nothing e is same idle = (
      ap replies_bytes (done.1 ∙ ap (λ (x : Effect). Success (answer_of 2 x)) is) ∙ idle,
      ap (volume_left seen) (is ∙ sym (ran p f handle w node permits ∙ ap (retake p f handle w node here) is ∙ same)),
    )

    module _ (bytes : SomeBytes p f handle w node) where
      abbrev file : FileNode
      file = file_before p f bytes.inode bytes.size bytes.verifier

      abbrev n : ℕ
      n = length (bytes_kept w)

      -- where there is space
      module _ (space : space_fault seen file w.offset n ≡ None) where
        run-is : plain_call.run seen ≡ change_of p f w file
        run-is = bytes.run ∙ ap (λ (o : Option Status). unless o (change_of p f w file)) space

        tells : replies_bytes reply ≡ true
        tells =
            ap replies_bytes (done.1 ∙ ap (λ (x : Effect). Success (answer_of 2 x)) run-is)
            ∙ ap not (ne_eqb n 0 (λ none. let some = bytes.some in omega (arith, none, some)))

      -- where there is none
      full : (status : Status) → space_fault seen file w.offset n ≡ Some status → Stays
      full status e = nothing (Fails status) (bytes.run ∙ ap (λ (o : Option Status). unless o (change_of p f w file)) e) refl refl

  -- ---- above a stripe

  module _ (ignores : (b : Bool) (r : Option Ready) → move_if (Some (parts_of p)) node (reclear b r) ≡ move_if (Some (parts_of p)) node r)
      (hands : List Hand) (made : ℕ) (sound : IsSound q hands made) where
    abbrev after : Bool → VolumeContents
    after b = if b then ended_in (owner_at (get p.logical.inodes.inodes f)) f q else q

    abbrev Done : Outcome → Bool → Type 0
    Done outcome b = WorksOn asked p outcome (after b) × IsSound (after b) hands made

    move-same : move_on asked p ≡ move_on plain_call p
    move-same = move-is ∙ ignores true (ready_on p f handle w node here)

    replied : (reply : Reply) → WorksOn plain_call p (Replied reply) q → Done (Replied reply) (replies_bytes reply)
    replied reply done = by (bytes_due (get p.logical.inodes.inodes f) p.logical.largest w) (checked p f handle w node)
      where
        as-it-was : Stays reply done → Done (Replied reply) (replies_bytes reply)
        as-it-was is = subst (Done (Replied reply)) (sym is.0) (
          (move-same ∙ done.0, done.1 ∙ ap Success (sym answers), done.2 ∙ is.1, done.3),
          sound,
        )

        written : (bytes : SomeBytes p f handle w node)
            → (o : Option Status) → space_fault seen (file reply done bytes) w.offset (length (bytes_kept w)) ≡ o → Done (Replied reply) (replies_bytes reply)
        written bytes (Some status) e = as-it-was (full reply done bytes status e)
        written bytes None e =
            let is = run-is reply done bytes e in
            let left = done.2 ∙ ap (volume_left seen) is in
            subst (Done (Replied reply)) (sym (tells reply done bytes e)) (
              (
                move-same ∙ done.0,
                done.1 ∙ ap Success (sym answers),
                volume-ended p q f handle w node bytes clears hands made sound left
                    ∙ ap (λ (x : Option Node). taken p f handle w node x (volume_left seen (change_of p f w (file reply done bytes))))
                    (sym bytes.node_is)
                    ∙ sym (ap (volume_left seen) (ran p f handle w node permits ∙ ap (retake p f handle w node here) is)),
                subst (λ (k : ℕ). Filled node (k - used seen) (parts_of p) (parts_of (after true)))
                    (sym (used-ended p q f handle w node bytes clears hands made sound left))
                    (subst (λ (parts : Parts). Filled node (used (volume_of q) - used seen) (parts_of p) parts)
                    (sym (parts-ended p q f handle w node bytes clears hands made sound left)) done.3),
              ),
              sound-ended p q f handle w node bytes clears hands made sound left,
            )

        by : (r : Result ℕ Status) → Checked p f handle w node r → Done (Replied reply) (replies_bytes reply)
        by (Err status) known = as-it-was (nothing reply done (Fails status) known.1 refl refl)
        by (Ok zero) known = as-it-was (nothing reply done (Tells (WriteDone 0 p.logical.verifier)) known.1 refl refl)
        by (Ok (suc k)) bytes = written bytes (space_fault seen (file reply done bytes) w.offset (length (bytes_kept w))) refl

    pub works-ended : (outcome : Outcome) → WorksOn plain_call p outcome q → Done outcome (has_written outcome)
    works-ended (Replied reply) done = replied reply done
    works-ended Starved done = (
      (
        move-same ∙ done.0,
        λ server at. subst (λ (a : Answer). IsTrue (takes_memory server (Write handle w.offset w.count w.written) a)) (sym answers) (done.1 server at),
        done.2,
      ),
      sound,
    )
    works-ended (Moved a) done = ((move-same ∙ done.0, done.1), sound)

-- ---- by what is above a stripe

module _ {S : Type 0} (v f : ℕ) (lens : Lens VolumeContents S) (node : Affinity) (handle : List ℕ) (w : Writing) (s : S) (owner : Option Ownership)
    (tells : (p : VolumeContents) → lens.of p ≡ s → owner ≡ owner_at (get p.logical.inodes.inodes f))
    (ended : S → S) (is_ended : (p : VolumeContents) (new : S) → lens.put (ended new) p ≡ ended_in owner f (lens.put new p))
    (ignores : (p : VolumeContents) (b : Bool) (r : Option Ready)
    → move_if (Some (parts_of p)) node (reclear b r) ≡ move_if (Some (parts_of p)) node r) where
  abbrev Right : Outcome → S → Type 0
  Right outcome new = RunsOn v lens (write_by handle node f w) s outcome new

  permitted-above : (outcome : Outcome) (new : S) → write_refused w.caller owner ≡ None → RunsOn v lens (write_call handle node f w) s outcome new
      → Right outcome (if clears_owned w.caller owner && has_written outcome then ended new else new)
  permitted-above outcome new permits runs = by (clears_owned w.caller owner) refl
    where
      permits-at : (p : VolumeContents) → lens.of p ≡ s → write_refused w.caller (owner_at (get p.logical.inodes.inodes f)) ≡ None
      permits-at p has = ap (write_refused w.caller) (sym (tells p has)) ∙ permits

      clears-at : (b : Bool) → clears_owned w.caller owner ≡ b → (p : VolumeContents) → lens.of p ≡ s
          → clears_owned w.caller (owner_at (get p.logical.inodes.inodes f)) ≡ b
      clears-at b e p has = ap (clears_owned w.caller) (sym (tells p has)) ∙ e

      put-is : (p : VolumeContents) → lens.of p ≡ s → (b : Bool)
          → (if b then ended_in (owner_at (get p.logical.inodes.inodes f)) f (lens.put new p) else lens.put new p)
          ≡ lens.put (if b then ended new else new) p
      put-is p has true = ap (λ (o : Option Ownership). ended_in o f (lens.put new p)) (sym (tells p has)) ∙ sym (is_ended p new)
      put-is p has false = refl

      by : (b : Bool) → clears_owned w.caller owner ≡ b → Right outcome (if b && has_written outcome then ended new else new)
      by false e =
          runs-alike (Write handle w.offset w.count w.written) node f unasked w.caller (λ volume. write (plain w) volume f)
          (write_by handle node f w).run v lens s outcome new
          (λ p hands made has sound. (
            same-move p f handle w node (permits-at p has) (clears-at false e p has),
            same-run p f handle w node (permits-at p has) (clears-at false e p has),
          )) runs
      by true e = λ p hands hands' made has numbered sound moved.
          let r = runs p hands hands' made has numbered sound moved in
          subst (λ (c : VolumeContents). WorksOn (write_by handle node f w) p outcome c × IsSound c hands' (made + 1)) (put-is p has (has_written outcome))
          (works-ended p (lens.put new p) f handle w node (permits-at p has) (clears-at true e p has) (ignores p) hands' (made + 1) r.1 outcome r.0)

  refused-above : (status : Status) → ((p : VolumeContents) → lens.put (lens.of p) p ≡ p)
      → ((p : VolumeContents) → PartsChange (Write handle w.offset w.count w.written) node (stored p) (stored p))
      → write_refused w.caller owner ≡ Some status → Right (Replied (Success (Failed status 2))) s
  refused-above status back parts refuses =
      runs-refused (Write handle w.offset w.count w.written) node f unasked w.caller (λ volume. write (plain w) volume f)
      (write_by handle node f w).run v lens status s back
      (λ p hands made numbered has sound.
      let is = ap (write_refused w.caller) (sym (tells p has)) ∙ refuses in
      (refused-stays p f handle w node status is, refused-run p f handle w node status is, parts p))

module _ (v f : ℕ) (handle : List ℕ) (w : Writing) (s : LogicalSet) where
  pub logical-write-permitted : (outcome : Outcome) (new : LogicalSet) → write_refused w.caller (owner_held s f) ≡ None
      → RunsOn v logical_lens (write_call handle (Logical v) f w) s outcome new
      → RunsOn v logical_lens (write_by handle (Logical v) f w) s outcome (logical_cleared w.caller (owner_held s f) outcome f new)
  logical-write-permitted =
      permitted-above v f logical_lens (Logical v) handle w s (owner_held s f) (λ p has. logical-owner f p s has)
      (set_ids_ended (owner_held s f) f) (λ p new. refl) (λ p b r. logical-ignores (parts_of p) v b r)

  pub logical-write-refused : (status : Status) → write_refused w.caller (owner_held s f) ≡ Some status
      → RunsOn v logical_lens (write_by handle (Logical v) f w) s (Replied (Success (Failed status 2))) s
  logical-write-refused status =
      refused-above v f logical_lens (Logical v) handle w s (owner_held s f) (λ p has. logical-owner f p s has)
      (set_ids_ended (owner_held s f) f) (λ p new. refl) (λ p b r. logical-ignores (parts_of p) v b r) status (λ p. refl)
      (λ p. logicals.filled-none (parts_of p) (used (volume_of p) - used (volume_of p)) (omega arith))

module _ (v f : ℕ) (handle : List ℕ) (w : Writing) (s : VolumeSet) where
  tells-volume : (p : VolumeContents) → volume_lens.of p ≡ s → owner_held s.logical f ≡ owner_at (get p.logical.inodes.inodes f)
  tells-volume p has = ap (λ (t : VolumeSet). owner_held t.logical f) (sym has)

  abbrev ended_volume : VolumeSet → VolumeSet
  ended_volume new = record new { logical = set_ids_ended (owner_held s.logical f) f new.logical }

  pub volume-write-permitted : (outcome : Outcome) (new : VolumeSet) → write_refused w.caller (owner_held s.logical f) ≡ None
      → RunsOn v volume_lens (write_call handle (Volume v) f w) s outcome new
      → RunsOn v volume_lens (write_by handle (Volume v) f w) s outcome (volume_cleared w.caller (owner_held s.logical f) outcome f new)
  volume-write-permitted outcome new permits runs =
      subst (λ (t : VolumeSet). RunsOn v volume_lens (write_by handle (Volume v) f w) s outcome t)
      (inside (clears_owned w.caller (owner_held s.logical f) && has_written outcome))
      (permitted-above v f volume_lens (Volume v) handle w s (owner_held s.logical f) tells-volume ended_volume (λ p new. refl)
      (λ p b r. volume-ignores (parts_of p) v b r) outcome new permits runs)
    where
      inside : (b : Bool) → (if b then ended_volume new else new)
          ≡ record new { logical = if b then set_ids_ended (owner_held s.logical f) f new.logical else new.logical }
      inside true = refl
      inside false = refl

  pub volume-write-refused : (status : Status) → write_refused w.caller (owner_held s.logical f) ≡ Some status
      → RunsOn v volume_lens (write_by handle (Volume v) f w) s (Replied (Success (Failed status 2))) s
  volume-write-refused status =
      refused-above v f volume_lens (Volume v) handle w s (owner_held s.logical f) tells-volume ended_volume (λ p new. refl)
      (λ p b r. volume-ignores (parts_of p) v b r) status (λ p. refl)
      (λ p. volumes.filled-none (parts_of p) (used (volume_of p) - used (volume_of p)) (omega arith))

-- ---- by a stripe

-- one that would have moved isn't answered
no-move : (b : Bool) (v : ℕ) → (if b then Some (Logical v) else None) ≡ None → b ≡ false
no-move true v e = absurd cc
no-move false v e = refl

module _ (v i f : ℕ) (handle : List ℕ) (w : Writing) (s : StripeValue) (some : i < s.stripes) where
  abbrev by_stripe : VolumeCall
  by_stripe = write_by handle (Stripe v i) f w

  tells-stripe : (p : VolumeContents) (hands : List Hand) (made : ℕ) → (stripe_lens i).of p ≡ s → IsSound p hands made
      → owner_on (get s.cards f) ≡ owner_at (get p.logical.inodes.inodes f)
  tells-stripe p hands made has sound = stripe-owner i f p hands made s some has sound

  pub stripe-write-refused : (status : Status) → write_refused w.caller (owner_on (get s.cards f)) ≡ Some status
      → RunsOn v (stripe_lens i) by_stripe s (Replied (Success (Failed status 2))) s
  stripe-write-refused status refuses =
      runs-refused (Write handle w.offset w.count w.written) (Stripe v i) f unasked w.caller (λ volume. write (plain w) volume f)
      by_stripe.run v (stripe_lens i) status s (stripe-back i)
      (λ p hands made numbered has sound.
      let is = ap (write_refused w.caller) (sym (tells-stripe p hands made has sound)) ∙ refuses in (
        refused-stays p f handle w (Stripe v i) status is,
        refused-run p f handle w (Stripe v i) status is,
        (let none : used (volume_of p) - used (volume_of p) ≡ 0 = omega arith in none, refl),
      ))

  module _ (permits : write_refused w.caller (owner_on (get s.cards f)) ≡ None) where
    permits-at : (p : VolumeContents) (hands : List Hand) (made : ℕ) → (stripe_lens i).of p ≡ s → IsSound p hands made
        → write_refused w.caller (owner_at (get p.logical.inodes.inodes f)) ≡ None
    permits-at p hands made has sound = ap (write_refused w.caller) (sym (tells-stripe p hands made has sound)) ∙ permits

    pub stripe-write-permitted : (outcome : Outcome) (new : StripeValue) → clears_owned w.caller (owner_on (get s.cards f)) ≡ false
        → RunsOn v (stripe_lens i) (write_call handle (Stripe v i) f w) s outcome new → RunsOn v (stripe_lens i) by_stripe s outcome new
    stripe-write-permitted outcome new stays =
        runs-alike (Write handle w.offset w.count w.written) (Stripe v i) f unasked w.caller (λ volume. write (plain w) volume f)
        by_stripe.run v (stripe_lens i) s outcome new
        (λ p hands made has sound.
        let still = ap (clears_owned w.caller) (sym (tells-stripe p hands made has sound)) ∙ stays in (
          same-move p f handle w (Stripe v i) (permits-at p hands made has sound) still,
          same-run p f handle w (Stripe v i) (permits-at p hands made has sound) still,
        ))

    module _ (p : VolumeContents) (hands hands' : List Hand) (made : ℕ) (has : (stripe_lens i).of p ≡ s) (sound : IsSound p hands made)
        (weigh : (n : ℕ) → total (times_in_hand p.number n) hands' ≡ total (times_in_hand p.number n) hands)
        (clears : clears_owned w.caller (owner_at (get p.logical.inodes.inodes f)) ≡ true) where
      abbrev allowed : write_refused w.caller (owner_at (get p.logical.inodes.inodes f)) ≡ None
      allowed = permits-at p hands made has sound

      abbrev Kept : Outcome → StripeValue → Type 0
      Kept outcome new = WorksOn by_stripe p outcome ((stripe_lens i).put new p) × IsSound ((stripe_lens i).put new p) hands' (made + 1)

      abbrev Instead : StripeOutcome → Bool → Type 0
      Instead told b = Kept (if b then record { outcome = Moved (Logical v); stripe = s } else told).outcome
          (if b then record { outcome = Moved (Logical v); stripe = s } else told).stripe

      back : (stripe_lens i).put s p ≡ p
      back = ap (λ (t : StripeValue). (stripe_lens i).put t p) (sym has) ∙ stripe-back i p

      moves-up : SomeBytes p f handle w (Stripe v i) → Kept (Moved (Logical v)) s
      moves-up bytes = subst (λ (c : VolumeContents). WorksOn by_stripe p (Moved (Logical v)) c × IsSound c hands' (made + 1)) (sym back) (
        (
          move-is p p f handle w (Stripe v i) allowed clears
              ∙ ap (λ (r : Option Ready). move_if (Some (parts_of p)) (Stripe v i) (reclear true r)) bytes.is_ready
              ∙ stripe-moves (parts_of p) v i (ready_of p f w (file_before p f bytes.inode bytes.size bytes.verifier)),
          refl,
        ),
        sound-later p hands hands' made weigh sound,
      )

      replied-instead : (reply : Reply) (new : StripeValue)
          → WorksOn (write_call handle (Stripe v i) f w) p (Replied reply) ((stripe_lens i).put new p)
          → IsSound ((stripe_lens i).put new p) hands' (made + 1)
          → Instead (record { outcome = Replied reply; stripe = new }) (replies_bytes reply)
      replied-instead reply new done kept =
          by (bytes_due (get p.logical.inodes.inodes f) p.logical.largest w) (checked p f handle w (Stripe v i))
        where
          q : VolumeContents
          q = (stripe_lens i).put new p

          told : StripeOutcome
          told = record { outcome = Replied reply; stripe = new }

          as-it-was : ready_on p f handle w (Stripe v i) (get (volume_of p).nodes f) ≡ None
              → Stays p q f handle w (Stripe v i) allowed clears reply done → Instead told (replies_bytes reply)
          as-it-was none is = subst (Instead told) (sym is.0) (
            (
              move-is p q f handle w (Stripe v i) allowed clears
                  ∙ ap (λ (r : Option Ready). move_if (Some (parts_of p)) (Stripe v i) (reclear true r)) none,
              done.1 ∙ ap Success (sym (answers p q f handle w (Stripe v i) allowed clears)),
              done.2 ∙ is.1,
              done.3,
            ),
            kept,
          )

          -- what isn't moved fills nothing, so there is space
          space : (bytes : SomeBytes p f handle w (Stripe v i))
              → space_fault (volume_of p) (file_before p f bytes.inode bytes.size bytes.verifier) w.offset (length (bytes_kept w)) ≡ None
          space bytes =
              let r = ready_of p f w (file_before p f bytes.inode bytes.size bytes.verifier) in
              ap (λ (b : Bool). if b then Some NoSpace else None)
              (space-there p hands made r.need sound
              (either-false (r.extends || false) (nat_lt 0 r.need) (no-move (r.extends || false || nat_lt 0 r.need) v (sym bytes.moved ∙ done.0))))

          by : (r : Result ℕ Status) → Checked p f handle w (Stripe v i) r → Instead told (replies_bytes reply)
          by (Err status) known =
              as-it-was known.0 (nothing p q f handle w (Stripe v i) allowed clears reply done (Fails status) known.1 refl refl)
          by (Ok zero) known =
              as-it-was known.0
              (nothing p q f handle w (Stripe v i) allowed clears reply done (Tells (WriteDone 0 p.logical.verifier)) known.1 refl refl)
          by (Ok (suc k)) bytes =
              subst (Instead told) (sym (tells p q f handle w (Stripe v i) allowed clears reply done bytes (space bytes))) (moves-up bytes)

      instead : (outcome : Outcome) (new : StripeValue) → outcome ≢ Starved
          → WorksOn (write_call handle (Stripe v i) f w) p outcome ((stripe_lens i).put new p)
          → IsSound ((stripe_lens i).put new p) hands' (made + 1) → Instead (record { outcome = outcome; stripe = new }) (has_written outcome)
      instead (Replied reply) new told done kept = replied-instead reply new done kept
      instead Starved new told done kept = absurd (told refl)
      instead (Moved a) new told done kept = (
        (
          move-is p p f handle w (Stripe v i) allowed clears
              ∙ stripe-moves-too (parts_of p) v i a (ready_on p f handle w (Stripe v i) (get (volume_of p).nodes f)) done.0,
          done.1,
        ),
        kept,
      )

    pub stripe-write-clears : (told : StripeOutcome) → clears_owned w.caller (owner_on (get s.cards f)) ≡ true → told.outcome ≢ Starved
        → RunsOn v (stripe_lens i) (write_call handle (Stripe v i) f w) s told.outcome told.stripe
        → RunsOn v (stripe_lens i) by_stripe s (moves_instead v s told).outcome (moves_instead v s told).stripe
    stripe-write-clears told clears answered runs p hands hands' made has numbered sound moved =
        let r = runs p hands hands' made has numbered sound moved in
        instead p hands hands' made has sound (λ n. let e = moved (times_in_hand p.number n) in omega (arith, e))
        (ap (clears_owned w.caller) (sym (tells-stripe p hands made has sound)) ∙ clears) told.outcome told.stripe answered r.0 r.1
