-- What a finished call does to what is remembered: nothing, or it takes one place.
use Rattle.std.proofs.Common.{◌≡◌, ◌≢◌, ℕ, zero, suc, Bool, true, false, not, cond, ◌&&◌, List, [], ◌∷◌, map, length, Option, Some, None}
use Rattle.std.proofs.Common.{refl, sym, ap, ◌∙◌}
use Rattle.std.specs.Prelude.{◌+◌, ◌*◌, nat_lt, is_some, slice_get, slice_set}
use Rattle.std.proofs.Common.{◌⊎◌, inl, inr, arith}
use Rattle.std.proofs.lemmas.Bool.Decides.{nat_tests}
use Rattle.nfs_model.specs.Types as model
use Rattle.nfs_model.specs.Memo.{Change, Told, Memo}
use Rattle.nfs_model.specs.Server.{VolumeState, Server, with_volume}
use Rattle.nfs_model.specs.Locate.{Effect, Fails, Tells, Changes}
use Rattle.nfs_model.specs.Serial.Once.{change_of, place, told_among, told_before, told_of, answer_told, with_memo, memos_with, memos_after, remembering}
use Rattle.nfs_model.specs.Serial.Once.{remembered, or_told}
use Rattle.nfs_model.specs.Serial.Grow.{grown}
use Rattle.nfs_model.specs.Serial.Step.{Step, stay, placed, serve, serial}
use Rattle.nfs_laws.specs.Repeated.{Place, memos_in, memos_of, volume_of, is_success, kept_among, kept_of, kept_in}
use Rattle.nfs_laws.specs.lemmas.Effects.{Keeps, CanTell, Ends, Keeping, Telling, ends_tells, ends_changes, same}
use Rattle.nfs_laws.specs.lemmas.Served.{is_good, served}

-- ---- lists

pub get_here : {A : Type 0} (xs : List A) (i : ℕ) (old new : A) → slice_get xs i ≡ Some old → slice_get (slice_set xs i new) i ≡ Some new
get_here [] i old new e = absurd cc
get_here (x ∷ xs) zero old new e = refl
get_here (x ∷ xs) (suc i) old new e = get_here xs i old new e

pub get_apart : {A : Type 0} (xs : List A) (i j : ℕ) (new : A) → j ≢ i → slice_get (slice_set xs i new) j ≡ slice_get xs j
get_apart [] i j new n = refl
get_apart (x ∷ xs) zero zero new n = absurd (n refl)
get_apart (x ∷ xs) zero (suc j) new n = refl
get_apart (x ∷ xs) (suc i) zero new n = refl
get_apart (x ∷ xs) (suc i) (suc j) new n = get_apart xs i j new (λ e. n (ap suc e))

-- what stays of each is the same though one is set
pub map_set : {A B : Type 0} (f : A → B) (xs : List A) (i : ℕ) (old new : A) → slice_get xs i ≡ Some old → f new ≡ f old
    → map f (slice_set xs i new) ≡ map f xs
map_set f [] i old new e same = refl
map_set f (x ∷ xs) zero old new e same = let at : x ≡ old = cc in ap (λ b. b ∷ map f xs) (same ∙ ap f (sym at))
map_set f (x ∷ xs) (suc i) old new e same = ap (λ bs. f x ∷ bs) (map_set f xs i old new e same)

-- ---- the memos of volumes, one of which is set

memos_here : (volumes : List VolumeState) (i : ℕ) (old new : VolumeState) → slice_get volumes i ≡ Some old
    → memos_in (slice_get (slice_set volumes i new) i) ≡ new.memos
memos_here volumes i old new e = ap memos_in (get_here volumes i old new e)

memos_apart : (volumes : List VolumeState) (i v : ℕ) (new : VolumeState) → v ≢ i
    → memos_in (slice_get (slice_set volumes i new) v) ≡ memos_in (slice_get volumes v)
memos_apart volumes i v new n = ap memos_in (get_apart volumes i v new n)

memos_alike : (volumes : List VolumeState) (i v : ℕ) (old new : VolumeState) → slice_get volumes i ≡ Some old → new.memos ≡ old.memos
    → memos_in (slice_get (slice_set volumes i new) v) ≡ memos_in (slice_get volumes v)
memos_alike [] i v old new e same = refl
memos_alike (x ∷ xs) zero zero old new e same = let at : x ≡ old = cc in same ∙ ap (λ (w : VolumeState). w.memos) (sym at)
memos_alike (x ∷ xs) zero (suc v) old new e same = refl
memos_alike (x ∷ xs) (suc i) zero old new e same = refl
memos_alike (x ∷ xs) (suc i) (suc v) old new e same = memos_alike xs i v old new e same

-- ---- the two ways

-- nothing is remembered of the call
pub record Untaken (server : Server) (kept : Option Place) (new : Server) : Type 0 where
  pub none : kept ≡ None
  pub memos : (v : ℕ) → memos_of new v ≡ memos_of server v

-- it takes a place
pub record Taken (server : Server) (asked : model.Asked) (moment : model.Moment) (step : Step) : Type 0 where
  pub call : model.Call
  pub caller : model.Caller
  pub asked_is : asked ≡ model.Ask call caller
  pub change : Change
  pub change_is : change_of call ≡ Some change
  pub good : is_good server call ≡ true
  pub old : VolumeState
  pub old_is : slice_get server.volumes (volume_of change) ≡ Some old
  pub told : Told
  pub reply_is : step.reply ≡ model.Success (answer_told old.number told)
  pub some : nat_lt 0 (length old.memos) ≡ true
  pub kept : kept_in server asked moment step.reply ≡ Some (record { volume = volume_of change; number = place (length old.memos) caller })
  pub here : memos_of step.server (volume_of change)
      ≡ with_memo old.memos (record { caller = caller; change = change; moment = moment; told = told })
  pub elsewhere : (v : ℕ) → v ≢ volume_of change → memos_of step.server v ≡ memos_of server v

unfoldable pub Does : Server → model.Asked → model.Moment → Step → Type 0
Does server asked moment step = Untaken server (kept_in server asked moment step.reply) step.server ⊎ Taken server asked moment step

-- ---- whether it is kept

all_but_last : (a b s : Bool) → s ≡ false → (a && b && s) ≡ false
all_but_last true true s e = e
all_but_last true false s e = refl
all_but_last false b s e = refl

all_but_middle : (a b s : Bool) → b ≡ false → (a && b && s) ≡ false
all_but_middle true b s e = ap (λ c. c && s) e
all_but_middle false b s e = refl

kept_none : (b : Bool) (p : Place) → b ≡ false → cond b (Some p) None ≡ None
kept_none b p e = ap (λ c. cond c (Some p) None) e

kept_some : (b : Bool) (p : Place) → b ≡ true → cond b (Some p) None ≡ Some p
kept_some b p e = ap (λ c. cond c (Some p) None) e

-- not, where it fails
unkept : (server : Server) (who : model.Caller) (o : Option Change) (moment : model.Moment) (reply : model.Reply)
    → ((change : Change) → o ≡ Some change → is_success reply ≡ false) → kept_of server who o moment reply ≡ None
unkept server who None moment reply f = refl
unkept server who (Some change) moment reply f =
    kept_none _ _ (all_but_last (nat_lt 0 (length (memos_of server (volume_of change)))) _ _ (f change refl))

-- a volume without places remembers nothing
no_place : (memos : List (Option Memo)) (memo : Memo) → nat_lt 0 (length memos) ≡ false → with_memo memos memo ≡ memos
no_place [] memo e = refl
no_place (x ∷ xs) memo e = absurd (grind (arith, nat_tests))

pub tells_success : (answer : model.Answer) (told : Told) → told_of answer ≡ Some told → is_success (model.Success answer) ≡ true
tells_success (model.Failed status absent) told e = absurd cc
tells_success answer told e = refl

all_three : (a b s : Bool) → a ≡ true → b ≡ true → s ≡ true → (a && b && s) ≡ true
all_three true b s f g h = ap (λ c. c && s) g ∙ h
all_three false b s f g h = f

module _ (server : Server) (call : model.Call) (who : model.Caller) (moment : model.Moment) where
  -- on a volume i that it changes
  module _ (i : ℕ) (old : VolumeState) (at : slice_get server.volumes i ≡ Some old) where
    memos_at : (change : Change) → volume_of change ≡ i → memos_of server (volume_of change) ≡ old.memos
    memos_at change e = ap (λ (v : ℕ). memos_of server v) e ∙ ap memos_in at

    -- not, where it was told
    told_unkept : (o : Option Change) (told : Told) (reply : model.Reply) → ((change : Change) → o ≡ Some change → volume_of change ≡ i)
        → told_among old.memos who o moment ≡ Some told → kept_of server who o moment reply ≡ None
    told_unkept None told reply is e = refl
    told_unkept (Some change) told reply is e =
        ap (λ (memos : List (Option Memo)). kept_among memos who change moment reply) (memos_at change (is change refl))
        ∙ kept_none _ _ (all_but_middle (nat_lt 0 (length old.memos)) _ _ (ap (λ (t : Option Told). not (is_some t)) e))

    module _ (good : is_good server call ≡ true) (is : (change : Change) → change_of call ≡ Some change → volume_of change ≡ i) where
      -- a success that was done, after which the volume is another
      answered : (answer : model.Answer) (new : VolumeState) → Keeps old new → CanTell old.number answer → (o : Option Change) → change_of call ≡ o
          → (b : Bool) → nat_lt 0 (length old.memos) ≡ b → told_among old.memos who o moment ≡ None
          → Does server (model.Ask call who) moment
          (record { reply = model.Success answer; server = with_volume server i (remembering who call moment answer new) })
      unfolding Does
      answered answer new keeps can None e b some untold =
          inl (record {
            none = ap (λ (o : Option Change). kept_of server who o moment (model.Success answer)) e;
            memos = λ v. memos_alike server.volumes i v old (remembering who call moment answer new) at
                (ap (λ (o : Option Change). memos_with new.memos who o moment (told_of answer)) e ∙ keeps.memos);
          })
      answered answer new keeps can (Some change) e false some untold =
          let memo : Memo = record { caller = who; change = change; moment = moment; told = can.0 } in
          let memos_is : memos_after new.memos who call moment answer ≡ with_memo old.memos memo =
          ap (λ (o : Option Change). memos_with new.memos who o moment (told_of answer)) e
          ∙ ap (λ (t : Option Told). memos_with new.memos who (Some change) moment t) can.1.0
          ∙ ap (λ (ms : List (Option Memo)). with_memo ms memo) keeps.memos in
          inl (record {
            none = ap (λ (o : Option Change). kept_of server who o moment (model.Success answer)) e
                ∙ ap (λ (memos : List (Option Memo)). kept_among memos who change moment (model.Success answer)) (memos_at change (is change e))
                ∙ kept_none _ _ (ap (λ (b : Bool). b && not (is_some (told_among old.memos who (Some change) moment)) && is_success (model.Success answer)) some);
            memos = λ v. memos_alike server.volumes i v old (remembering who call moment answer new) at (memos_is ∙ no_place old.memos memo some);
          })
      answered answer new keeps can (Some change) e true some untold =
          let memo : Memo = record { caller = who; change = change; moment = moment; told = can.0 } in
          let memos_is : memos_after new.memos who call moment answer ≡ with_memo old.memos memo =
          ap (λ (o : Option Change). memos_with new.memos who o moment (told_of answer)) e
          ∙ ap (λ (t : Option Told). memos_with new.memos who (Some change) moment t) can.1.0
          ∙ ap (λ (ms : List (Option Memo)). with_memo ms memo) keeps.memos in
          let after : Server = with_volume server i (remembering who call moment answer new) in
          inr (record {
            call = call;
            caller = who;
            asked_is = refl;
            change = change;
            change_is = e;
            good = good;
            old = old;
            old_is = ap (λ (v : ℕ). slice_get server.volumes v) (is change e) ∙ at;
            told = can.0;
            reply_is = ap (λ (a : model.Answer). model.Success a) (sym can.1.1);
            some = some;
            kept = ap (λ (o : Option Change). kept_of server who o moment (model.Success answer)) e
                ∙ ap (λ (memos : List (Option Memo)). kept_among memos who change moment (model.Success answer)) (memos_at change (is change e))
                ∙ kept_some _ _ (all_three _ _ _ some (ap (λ (t : Option Told). not (is_some t)) untold) (tells_success answer can.0 can.1.0));
            here = ap (λ (v : ℕ). memos_of after v) (is change e)
                ∙ memos_here server.volumes i old (remembering who call moment answer new) at ∙ memos_is;
            elsewhere = λ v n. memos_apart server.volumes i v (remembering who call moment answer new) (λ f. n (f ∙ sym (is change e)));
          })

      remembered_does : (absent : ℕ) (effect : Effect) → Ends Telling old effect → told_before old.memos who call moment ≡ None
          → Does server (model.Ask call who) moment (placed server absent i (remembered who call moment old effect))
      unfolding Does
      remembered_does absent (Fails status) f untold =
          inl (record {
            none = unkept server who (change_of call) moment (model.Success (model.Failed status absent)) (λ change e. refl);
            memos = λ v. refl;
          })
      remembered_does absent (Tells answer) f untold =
          let q : Telling old answer old = ends_tells Telling old answer f in
          answered answer old q.0 q.1 (change_of call) refl (nat_lt 0 (length old.memos)) refl untold
      remembered_does absent (Changes answer new) f untold =
          let q : Telling old answer new = (ends_changes Telling old answer new f).1 in
          answered answer new q.0 q.1 (change_of call) refl (nat_lt 0 (length old.memos)) refl untold

      once_does : (absent : ℕ) (effect : Effect) → Ends Telling old effect → (o : Option Told) → told_before old.memos who call moment ≡ o
          → Does server (model.Ask call who) moment (placed server absent i (or_told old o (remembered who call moment old effect)))
      unfolding Does
      once_does absent effect f None e = remembered_does absent effect f e
      once_does absent effect f (Some told) e =
          inl (record { none = told_unkept (change_of call) told (model.Success (answer_told old.number told)) is e; memos = λ v. refl })

    -- a call on it whose reply isn't remembered
    plain_does : (absent : ℕ) (effect : Effect) → Ends Keeping old effect → change_of call ≡ None
        → Does server (model.Ask call who) moment (placed server absent i effect)
    unfolding Does
    plain_does absent effect f none =
        inl (record {
          none = ap (λ (o : Option Change). kept_of server who o moment (placed server absent i effect).reply) none;
          memos = λ v. by effect f v;
        })
      where
        by : (effect : Effect) → Ends Keeping old effect → (v : ℕ) → memos_of (placed server absent i effect).server v ≡ memos_of server v
        by (Fails status) f v = refl
        by (Tells answer) f v = refl
        by (Changes answer new) f v = memos_alike server.volumes i v old new at (ends_changes Keeping old answer new f).1.memos

  serve_does : Does server (model.Ask call who) moment (serve server call who moment)
  unfolding Does
  serve_does = served server call who moment (λ (s : Step). Does server (model.Ask call who) moment s) (record {
    untouched = λ answer f. stays_does answer f;
    plain = λ absent i old effect none at f. plain_does i old at absent effect f none;
    kept = λ absent i old effect good is at f. once_does i old at good is absent effect f (told_before old.memos who call moment) refl;
    grows = λ i ranges old none at. grown_does i ranges old none at;
  })
    where
      stays_does : (answer : model.Answer)
          → ((change : Change) → change_of call ≡ Some change → (is_good server call ≡ false) × (is_success (model.Success answer) ≡ false))
          → Does server (model.Ask call who) moment (stay server answer)
      stays_does answer f =
          inl (record { none = unkept server who (change_of call) moment (model.Success answer) (λ change e. (f change e).1); memos = λ v. refl })

      grown_does : (i ranges : ℕ) (old : VolumeState) → change_of call ≡ None → slice_get server.volumes i ≡ Some old
          → Does server (model.Ask call who) moment
          (record { reply = model.Success (model.GrowDone (old.total + old.range_blocks * ranges)); server = grown server i old ranges })
      grown_does i ranges old none at =
          inl (record {
            none = ap (λ (o : Option Change). kept_of server who o moment (model.Success (model.GrowDone (old.total + old.range_blocks * ranges)))) none;
            memos = λ v. memos_alike server.volumes i v old (record old { total = old.total + old.range_blocks * ranges }) at refl;
          })

-- a finished call does nothing, or takes a place
pub serial_does : (server : Server) (asked : model.Asked) (moment : model.Moment) (starved : Bool)
    → Does server asked moment (serial server asked moment starved)
unfolding Does
serial_does server (model.Ask call who) moment false = serve_does server call who moment
serial_does server (model.Ask call who) moment true =
    inl (record { none = unkept server who (change_of call) moment model.SystemError (λ change e. refl); memos = λ v. refl })
serial_does server (model.Refused reply) moment false = inl (record { none = refl; memos = λ v. refl })
serial_does server (model.Refused reply) moment true = inl (record { none = refl; memos = λ v. refl })
serial_does server model.Undecoded moment false = inl (record { none = refl; memos = λ v. refl })
serial_does server model.Undecoded moment true = inl (record { none = refl; memos = λ v. refl })
