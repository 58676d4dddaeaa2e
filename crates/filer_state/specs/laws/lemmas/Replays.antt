-- The parcels that a legal history leaves stand for the serial server after its finished calls, and its replies are the replay's.
use Rattle.std.proofs.Common.{◌≡◌, ℕ, Bool, true, false, List, [], ◌∷◌, ◌++◌, length, Option, None, refl, sym, ap, ◌∙◌}
use Rattle.std.proofs.Common.{subst, arith}
use Rattle.std.proofs.Common.{append_assoc}
use Rattle.nfs_model.specs.Types.{Reply}
use Rattle.nfs_model.specs.Tree.{Layout, Affinity}
use Rattle.nfs_model.specs.Server.{Server}
use Rattle.nfs_model.specs.Replay.{FinishedCall, step_of, server_after, replay, IsLawful, AreLawful}
use Rattle.nfs_model.specs.Replay.{MayStarve}
use Rattle.nfs_model.specs.Serial.Step.{Step, serial}
use Rattle.nfs_model.specs.Parts.{Hand}
use Rattle.nfs_model.specs.Work.{Works}
use Rattle.affinity.specs.Fault.{fault_of}
use Rattle.affinity.specs.Numbers.{number_of, parents}
use Rattle.affinity.specs.lemmas.Alike.{alike}
use Rattle.affinity.specs.lemmas.Standing.{place-node}
use Rattle.depot_rule.specs.declared.view.Entry.{Entry}
use Rattle.depot_rule.specs.History.{put_in, after, Legal, behaviour, AreHands, SoundThroughout}
use Rattle.depot_rule.specs.lemmas.Histories.{after-snoc, moved-snoc}
use Rattle.filer_state.specs.state.Parcels.{FilerParcel}
use Rattle.filer_state.specs.state.Contents.{FilerContents, filer_contents}
use Rattle.filer_state.specs.state.Tree.{server_of, tree}
use Rattle.filer_state.specs.state.Sound.{AreSound, AllSound, IsFiler}
use Rattle.filer_state.specs.state.Jobs.{Job, Serve, Inner, JobReply, Replied, Took, Gave, Surveyed, takes, gives}
use Rattle.filer_state.specs.state.Deeds.{task_at, stored_all, outcome_of, Serves, DoesJob, FilerSteps}
use Rattle.filer_state.specs.state.Promises.{HandsMove}
use Rattle.filer_state.specs.state.Replayed.{call_before, reply_before, calls_of, replies_of, Replays}
use Rattle.filer_state.specs.laws.lemmas.Alike.{filer-same}
use Rattle.filer_state.specs.laws.lemmas.Lawful.{entry-does}

-- ---- one entry

module _ (layout : Layout) (node : Affinity) where
  serve-replays : (call : FinishedCall) (reply : Reply) (old new : FilerContents) (last : Server) (calls : List FinishedCall) (replies : List Reply)
      → Serves layout node call old reply new → Replays (server_of new) last calls replies → Replays (server_of old) last (call ∷ calls) (reply ∷ replies)
  serve-replays call reply old new last calls replies s more = by call.starved refl s.works
    where
      from : (b : Bool) → call.starved ≡ b → reply ≡ (serial (server_of old) call.asked call.moment b).reply
          → server_of new ≡ (serial (server_of old) call.asked call.moment b).server → IsLawful (server_of old) call b
          → Replays (server_of old) last (call ∷ calls) (reply ∷ replies)
      from b e told server lawful =
          let same : step_of (server_of old) call
          ≡ serial (server_of old) call.asked call.moment b = ap (λ x. serial (server_of old) call.asked call.moment x) e in
          let next : server_of new ≡ (step_of (server_of old) call).server = server ∙ ap (λ (x : Step). x.server) (sym same) in
          record {
            server = more.server ∙ ap (λ x. server_after x calls) next;
            told = λ j. (told ∙ ap (λ (x : Step). x.reply) (sym same)) j ∷ (more.told ∙ ap (λ x. replay x calls) next) j;
            lawful = (
              subst (IsLawful (server_of old) call) (sym e) lawful,
              subst (λ x. AreLawful x calls) next more.lawful,
            );
          }

      by : (b : Bool) → call.starved ≡ b → Works (task_at call node) (stored_all old) (outcome_of b reply) (stored_all new)
          → Replays (server_of old) last (call ∷ calls) (reply ∷ replies)
      by true e w = from true e (s.starved e).0 (ap server_of (s.starved e).1)
          (subst (MayStarve (server_of old) call.asked call.moment) (sym s.affinity) w.1)
      by false e w = from false e w.1 w.2 tt

  entry-replays : (job : Job) (reply : JobReply) (old new : FilerContents) (last : Server) (calls : List FinishedCall) (replies : List Reply)
      → DoesJob layout node job old reply new → Replays (server_of new) last calls replies
      → Replays (server_of old) last (call_before job calls) (reply_before job reply replies)
  entry-replays (Serve call) (Replied reply) old new last calls replies does more = serve-replays call reply old new last calls replies does more
  entry-replays (Serve call) (Took hand) old new last calls replies does more = absurd does
  entry-replays (Serve call) (Gave hand) old new last calls replies does more = absurd does
  entry-replays (Serve call) (Surveyed told) old new last calls replies does more = absurd does
  entry-replays (Inner call) reply old new last calls replies does more =
      let same : server_of new ≡ server_of old = does.server in
      let kept : Replays (server_of old) last calls replies = subst (λ x. Replays x last calls replies) same more in
      kept

-- ---- a history

module _ {P : Type 0} (layout : Layout) (lawful : fault_of layout ≡ None) (f : ℕ → Option (FilerParcel P)) where
  -- at a place of the history: some hands, with which all is sound
  abbrev SoundAt : List (Entry (FilerParcel P) Job JobReply) → Type 0
  SoundAt es = (hands : List Hand) × AreHands takes gives es hands × AllSound layout (after (parents layout) f es) hands (length es)

  moved : (es : List (Entry (FilerParcel P) Job JobReply)) (e : Entry (FilerParcel P) Job JobReply) (hands hands' : List Hand)
      → AreHands takes gives es hands → AreHands takes gives (es ++ e ∷ []) hands' → HandsMove (takes e.call e.reply) (gives e.call e.reply) hands hands'
  moved es e hands hands' one two weigh =
      let a = one weigh in
      let b = two weigh in
      let t = moved-snoc takes weigh es e in
      let g = moved-snoc gives weigh es e in
      omega (arith, a, b, t, g)

  walk : (earlier later : List (Entry (FilerParcel P) Job JobReply)) → ((es more : List (Entry (FilerParcel P) Job JobReply))
      → es ++ more ≡ earlier ++ later → SoundAt es)
      → Legal FilerSteps (parents layout) (after (parents layout) f earlier) later
      → Replays (tree layout (after (parents layout) f earlier)) (tree layout (after (parents layout) (after (parents layout) f earlier) later))
      (calls_of later) (replies_of later)
  walk earlier [] sound legal = record { server = refl; told = refl; lawful = tt }
  walk earlier (e ∷ es) sound legal =
      let ps : List ℕ = parents layout in
      let g : ℕ → Option (FilerParcel P) = after ps f earlier in
      let next : ℕ → Option (FilerParcel P) = put_in ps e g in
      let snoc : after ps f (earlier ++ e ∷ []) ≡ next = after-snoc ps f earlier e in
      let here = sound earlier (e ∷ es) refl in
      let then = sound (earlier ++ e ∷ []) es (append_assoc earlier (e ∷ []) es) in
      let place = place-node layout e.node legal.0.0 legal.0.1 in
      let step : FilerSteps ps (number_of layout place.0) e.call g e.reply next = subst
      (λ (k : ℕ). FilerSteps ps k e.call g e.reply next) (sym place.2) legal.0 in
      let done = entry-does layout lawful place.0 place.1 e.call e.reply g next here.0 then.0 (length earlier) step here.2
      (moved earlier e here.0 then.0 here.1 then.1) in
      let others = walk (earlier ++ e ∷ []) es (λ xs more same. sound xs more (same ∙ append_assoc earlier (e ∷ []) es))
      (subst (λ h. Legal FilerSteps ps h es) (sym snoc) legal.1) in
      let rest : Replays (tree layout next) (tree layout (after ps next es)) (calls_of es) (replies_of es) =
      subst (λ h. Replays (tree layout h) (tree layout (after ps h es)) (calls_of es) (replies_of es)) snoc others in
      entry-replays layout place.0 e.call e.reply (filer_contents layout g) (filer_contents layout next) (tree layout (after ps next es))
      (calls_of es) (replies_of es) done.0 rest

  -- a legal history, sound throughout, from f on
  pub history-replays : (log : List (Entry (FilerParcel P) Job JobReply)) → Legal FilerSteps (parents layout) f log
      → SoundThroughout (behaviour FilerSteps takes gives IsFiler) (parents layout) f log
      → Replays (tree layout f) (tree layout (after (parents layout) f log)) (calls_of log) (replies_of log)
  history-replays log legal sound = walk [] log
      (λ es more same.
      let s = sound es more same in
      let t = s.2 in
      (s.0, s.1, subst (λ c. AreSound c s.0 (length es)) (filer-same t.0 layout (alike t.0 layout t.1.1) (after (parents layout) f es)) t.2))
      legal
