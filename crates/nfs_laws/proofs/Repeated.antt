-- A call that comes again is told the first reply.
use Rattle.std.proofs.Common.{◌≡◌, ◌≢◌, ℕ, zero, suc, ◌<◌, Bool, true, false, cond, ◌&&◌, List, [], ◌∷◌, ◌++◌, map, length, Option, Some, None}
use Rattle.std.proofs.Common.{refl, sym, ap, ◌∙◌, subst, inl, inr, arith, ◌⊎◌, append_assoc}
use Rattle.std.specs.Prelude.{◌==◌, ◌+◌, ◌*◌, nat_lt, is_some, slice_get, slice_index_or, take}
use Rattle.std.specs.Int.{w32, from_be_bytes}
use Rattle.std.proofs.lemmas.Bool.{true≢false}
use Rattle.std.proofs.lemmas.Bool.Decides.{eqb_tells, nat_tests}
use Rattle.std.proofs.lemmas.List.{length-set, length-replicate}
use Rattle.std.proofs.lemmas.Nat.{mod_below}
use Rattle.std.proofs.lemmas.Option.{slice_get-get_or, get_or_from_slice_get}
use Rattle.nfs_model.specs.Types as model
use Rattle.nfs_model.specs.Memo.{Change, Sets, Creates, MakesDirectory, MakesSymbolicLink, MakesNode, Removes, RemovesDirectory, Renames, Links, Told, Memo}
use Rattle.nfs_model.specs.Names.{same_name}
use Rattle.nfs_model.specs.Shown.{same_moment}
use Rattle.nfs_model.specs.Tree.{Layout, VolumeLayout}
use Rattle.nfs_model.specs.Server.{VolumeState, Server, Named, named_read, opening_volumes, opening}
use Rattle.nfs_model.specs.Locate.{Effect, Fails, Tells, Changes, located_in, located_by}
use Rattle.nfs_model.specs.Replay.{FinishedCall, step_of, server_after, replay}
use Rattle.nfs_model.specs.Serial.Same.{same_number, same_guard, same_time, same_set, same_mode, same_change, same_caller, same_device, same_special, same_kind}
use Rattle.nfs_model.specs.Serial.Once.{place, is_recent, is_of, told_in, told_among, told_before, answer_told, remembering, remembered, or_told}
use Rattle.nfs_model.specs.Serial.Step.{Step, stay, placed, serve, serial}
use Rattle.nfs_laws.specs.Repeated.{Place, memos_in, memos_of, places_in, places_of, volume_of, is_success, kept_in, remembered_in, AreElsewhere, IsAgain}
use Rattle.nfs_laws.specs.lemmas.Effects.{Ends, Keeping, Telling, ends_tells, ends_changes}
use Rattle.nfs_laws.specs.lemmas.Served.{names_one, is_good, served}
use Rattle.nfs_laws.proofs.Remembering.{get_here, get_apart, map_set, tells_success, Taken, Does, serial_does}

-- ---- each thing is the same as itself

itself : (n : ℕ) → (n == n) ≡ true
itself n = grind (arith, nat_tests)

both : (a b : Bool) → a ≡ true → b ≡ true → (a && b) ≡ true
both true b e f = f
both false b e f = e

name_itself : (xs : List ℕ) → same_name xs xs ≡ true
name_itself [] = refl
name_itself (x ∷ xs) = both _ _ (itself x) (name_itself xs)

moment_itself : (t : model.Moment) → same_moment t t ≡ true
moment_itself t = both _ _ (itself t.seconds) (itself t.nanoseconds)

number_itself : (n : Option ℕ) → same_number n n ≡ true
number_itself None = refl
number_itself (Some n) = itself n

guard_itself : (g : Option model.Moment) → same_guard g g ≡ true
guard_itself None = refl
guard_itself (Some t) = moment_itself t

time_itself : (t : model.SetTime) → same_time t t ≡ true
time_itself model.Keep = refl
time_itself model.ServerTime = refl
time_itself (model.ClientTime t) = moment_itself t

set_itself : (a : model.SetAttributes) → same_set a a ≡ true
set_itself a =
    both _ _ (both _ _ (both _ _ (both _ _ (both _ _ (number_itself a.mode) (number_itself a.uid)) (number_itself a.gid)) (number_itself a.size))
    (time_itself a.atime)) (time_itself a.mtime)

mode_itself : (m : model.CreateMode) → same_mode m m ≡ true
mode_itself (model.Unchecked a) = set_itself a
mode_itself (model.Guarded a) = set_itself a
mode_itself (model.Exclusive v) = name_itself v

device_itself : (d : model.Device) → same_device d d ≡ true
device_itself d = both _ _ (itself d.major) (itself d.minor)

special_itself : (s : model.SpecialType) → same_special s s ≡ true
special_itself model.SymbolicLink = refl
special_itself model.Fifo = refl
special_itself model.Socket = refl
special_itself (model.BlockDevice device) = device_itself device
special_itself (model.CharacterDevice device) = device_itself device

kind_itself : (k : model.Kind) → same_kind k k ≡ true
kind_itself model.Regular = refl
kind_itself model.DirectoryKind = refl
kind_itself (model.SpecialKind special) = special_itself special

change_itself : (c : Change) → same_change c c ≡ true
change_itself (Sets h a g) = both _ _ (both _ _ (name_itself h) (set_itself a)) (guard_itself g)
change_itself (Creates d n m) = both _ _ (both _ _ (name_itself d) (name_itself n)) (mode_itself m)
change_itself (MakesDirectory d n a) = both _ _ (both _ _ (name_itself d) (name_itself n)) (set_itself a)
change_itself (MakesSymbolicLink d n a t) = both _ _ (both _ _ (both _ _ (name_itself d) (name_itself n)) (set_itself a)) (name_itself t)
change_itself (MakesNode d n k a) = both _ _ (both _ _ (both _ _ (name_itself d) (name_itself n)) (kind_itself k)) (set_itself a)
change_itself (Removes d n) = both _ _ (name_itself d) (name_itself n)
change_itself (RemovesDirectory d n) = both _ _ (name_itself d) (name_itself n)
change_itself (Renames d n e o) = both _ _ (both _ _ (both _ _ (name_itself d) (name_itself n)) (name_itself e)) (name_itself o)
change_itself (Links h d n) = both _ _ (both _ _ (name_itself h) (name_itself d)) (name_itself n)

caller_itself : (c : model.Caller) → same_caller c c ≡ true
caller_itself c =
    both _ _ (both _ _ (both _ _ (both _ _ (itself c.xid) (itself c.peer)) (itself c.credential.uid)) (itself c.credential.gid))
    (name_itself c.credential.gids)

-- ---- volumes keep their numbers

abbrev number_in : VolumeState → ℕ
number_in volume = volume.number

abbrev pub numbers : Server → List ℕ
numbers server = map number_in server.volumes

module _ (server : Server) (i : ℕ) (old : VolumeState) (at : slice_get server.volumes i ≡ Some old) (absent : ℕ) where
  plain_numbers : (effect : Effect) → Ends Keeping old effect → numbers (placed server absent i effect).server ≡ numbers server
  plain_numbers (Fails status) f = refl
  plain_numbers (Tells answer) f = refl
  plain_numbers (Changes answer new) f = map_set number_in server.volumes i old new at (ends_changes Keeping old answer new f).1.number

  once_numbers : (who : model.Caller) (call : model.Call) (moment : model.Moment) (o : Option Told) (effect : Effect) → Ends Telling old effect
      → numbers (placed server absent i (or_told old o (remembered who call moment old effect))).server ≡ numbers server
  once_numbers who call moment (Some told) effect f = refl
  once_numbers who call moment None (Fails status) f = refl
  once_numbers who call moment None (Tells answer) f =
      map_set number_in server.volumes i old (remembering who call moment answer old) at refl
  once_numbers who call moment None (Changes answer new) f =
      map_set number_in server.volumes i old (remembering who call moment answer new) at (ends_changes Telling old answer new f).1.0.number

serve_numbers : (server : Server) (call : model.Call) (who : model.Caller) (moment : model.Moment)
    → numbers (serve server call who moment).server ≡ numbers server
serve_numbers server call who moment = served server call who moment (λ (s : Step). numbers s.server ≡ numbers server) (record {
  untouched = λ answer f. refl;
  plain = λ absent i old effect none at f. plain_numbers server i old at absent effect f;
  kept = λ absent i old effect good is at f. once_numbers server i old at absent who call moment (told_before old.memos who call moment) effect f;
  grows = λ i ranges old none at.
      map_set number_in server.volumes i old (record old { total = old.total + old.range_blocks * ranges }) at refl;
})

serial_numbers : (server : Server) (asked : model.Asked) (moment : model.Moment) (starved : Bool)
    → numbers (serial server asked moment starved).server ≡ numbers server
serial_numbers server asked moment true = refl
serial_numbers server (model.Ask call who) moment false = serve_numbers server call who moment
serial_numbers server (model.Refused reply) moment false = refl
serial_numbers server model.Undecoded moment false = refl

-- so the same handles are good
number_at : Option VolumeState → Option ℕ
number_at None = None
number_at (Some volume) = Some volume.number

some_number : (volumes : List VolumeState) (i : ℕ) → is_some (slice_get (map number_in volumes) i) ≡ is_some (slice_get volumes i)
some_number [] i = refl
some_number (x ∷ xs) zero = refl
some_number (x ∷ xs) (suc i) = some_number xs i

length_numbers : (volumes : List VolumeState) → length (map number_in volumes) ≡ length volumes
length_numbers [] = refl
length_numbers (x ∷ xs) = ap suc (length_numbers xs)

abbrev if_there : List ℕ → List ℕ → Bool → Bool
if_there ns handle good = good && is_some (slice_get ns (named_read handle).volume)

some_located : (named : Named) (o : Option VolumeState) → is_some (located_in named o) ≡ is_some o
some_located named None = refl
some_located named (Some volume) = refl

names_if : (volumes : List VolumeState) (handle : List ℕ) (b : Bool)
    → is_some (located_by volumes (cond b (Some (named_read handle)) None)) ≡ if_there (map number_in volumes) handle b
names_if volumes handle true =
    some_located (named_read handle) (slice_get volumes (named_read handle).volume) ∙ sym (some_number volumes (named_read handle).volume)
names_if volumes handle false = refl

abbrev names_by : List ℕ → List ℕ → Bool
names_by ns handle = if_there ns handle ((length handle == 12) && nat_lt (from_be_bytes w32 (take 4 handle)) (length ns))

names_is : (server : Server) (handle : List ℕ) → names_one server handle ≡ names_by (numbers server) handle
names_is server handle =
    names_if server.volumes handle ((length handle == 12) && nat_lt (from_be_bytes w32 (take 4 handle)) (length server.volumes))
    ∙ ap (λ (n : ℕ). if_there (numbers server) handle ((length handle == 12) && nat_lt (from_be_bytes w32 (take 4 handle)) n))
    (sym (length_numbers server.volumes))

names_alike : (server other : Server) → numbers other ≡ numbers server → (handle : List ℕ) → names_one other handle ≡ names_one server handle
names_alike server other e handle =
    names_is other handle ∙ ap (λ (ns : List ℕ). names_by ns handle) e ∙ sym (names_is server handle)

good_alike : (server other : Server) → numbers other ≡ numbers server → (call : model.Call) → is_good other call ≡ is_good server call
good_alike server other e (model.Setattr handle set guard) = names_alike server other e handle
good_alike server other e (model.Create directory name mode) = names_alike server other e directory
good_alike server other e (model.Mkdir directory name set) = names_alike server other e directory
good_alike server other e (model.Symlink directory name set text) = names_alike server other e directory
good_alike server other e (model.Mknod directory name kind set) = names_alike server other e directory
good_alike server other e (model.Remove directory name) = names_alike server other e directory
good_alike server other e (model.Rmdir directory name) = names_alike server other e directory
good_alike server other e (model.Rename from from_name to to_name) =
    let same : Bool = (named_read from).volume == (named_read to).volume in
    ap (λ (b : Bool). b && (names_one other to && same)) (names_alike server other e from)
    ∙ ap (λ (b : Bool). names_one server from && (b && same)) (names_alike server other e to)
good_alike server other e (model.Link handle directory name) =
    let same : Bool = (named_read handle).volume == (named_read directory).volume in
    ap (λ (b : Bool). b && (names_one other directory && same)) (names_alike server other e handle)
    ∙ ap (λ (b : Bool). names_one server handle && (b && same)) (names_alike server other e directory)
good_alike server other e call = refl

-- ---- what is remembered elsewhere stays

module _ (server : Server) (asked : model.Asked) (moment : model.Moment) (step : Step) where
  memos_old : (t : Taken server asked moment step) → memos_of server (volume_of t.change) ≡ t.old.memos
  memos_old t = ap memos_in t.old_is

  same_count : Does server asked moment step → (v : ℕ) → length (memos_of step.server v) ≡ length (memos_of server v)
  unfolding Does
  same_count (inl u) v = ap length (u.memos v)
  same_count (inr t) v = by (eqb_tells v (volume_of t.change))
    where
      by : (((v == volume_of t.change) ≡ true) × (v ≡ volume_of t.change)) ⊎ (((v == volume_of t.change) ≡ false) × (v ≢ volume_of t.change))
          → length (memos_of step.server v) ≡ length (memos_of server v)
      by (inl e) =
          ap (λ (v : ℕ). length (memos_of step.server v)) e.1 ∙ ap length t.here ∙ length-set t.old.memos _ _
          ∙ sym (ap (λ (v : ℕ). length (memos_of server v)) e.1 ∙ ap length (memos_old t))
      by (inr n) = ap length (t.elsewhere v n.1)

  stays_elsewhere : Does server asked moment step → (p : Place) → kept_in server asked moment step.reply ≢ Some p
      → slice_get (memos_of step.server p.volume) p.number ≡ slice_get (memos_of server p.volume) p.number
  unfolding Does
  stays_elsewhere (inl u) p n = ap (λ (ms : List (Option Memo)). slice_get ms p.number) (u.memos p.volume)
  stays_elsewhere (inr t) p n = by (eqb_tells p.volume (volume_of t.change))
    where
      k : ℕ
      k = place (length t.old.memos) t.caller

      in_it : p.volume ≡ volume_of t.change → ((p.number == k) ≡ true) × (p.number ≡ k) ⊎ ((p.number == k) ≡ false) × (p.number ≢ k)
          → slice_get (memos_of step.server p.volume) p.number ≡ slice_get (memos_of server p.volume) p.number
      in_it e (inl f) =
          let same : record { volume = volume_of t.change; number = k } ≡ p = λ j. record { volume = sym e j; number = sym f.1 j } in
          absurd (n (t.kept ∙ ap (λ (q : Place). Some q) same))
      in_it e (inr f) =
          ap (λ (v : ℕ). slice_get (memos_of step.server v) p.number) e ∙ ap (λ (ms : List (Option Memo)). slice_get ms p.number) t.here
          ∙ get_apart t.old.memos k p.number _ f.1
          ∙ sym (ap (λ (v : ℕ). slice_get (memos_of server v) p.number) e ∙ ap (λ (ms : List (Option Memo)). slice_get ms p.number) (memos_old t))

      by : (((p.volume == volume_of t.change) ≡ true) × (p.volume ≡ volume_of t.change))
          ⊎ (((p.volume == volume_of t.change) ≡ false) × (p.volume ≢ volume_of t.change))
          → slice_get (memos_of step.server p.volume) p.number ≡ slice_get (memos_of server p.volume) p.number
      by (inl e) = in_it e.1 (eqb_tells p.number k)
      by (inr f) = ap (λ (ms : List (Option Memo)). slice_get ms p.number) (t.elsewhere p.volume f.1)

  stays_all : Does server asked moment step → kept_in server asked moment step.reply ≡ None → (v : ℕ) → memos_of step.server v ≡ memos_of server v
  unfolding Does
  stays_all (inl u) e v = u.memos v
  stays_all (inr t) e v = absurd (true≢false (sym (ap is_some (sym e ∙ t.kept))))

does : (server : Server) (e : FinishedCall) → Does server e.asked e.moment (step_of server e)
does server e = serial_does server e.asked e.moment e.starved

pub elsewhere_stays : (server : Server) (call : FinishedCall) (p : Place) → remembered_in server call ≢ Some p
    → slice_get (memos_of (step_of server call).server p.volume) p.number ≡ slice_get (memos_of server p.volume) p.number
elsewhere_stays server call p n = stays_elsewhere server call.asked call.moment (step_of server call) (does server call) p n

pub unremembered_stays : (server : Server) (call : FinishedCall) (v : ℕ) → remembered_in server call ≡ None
    → memos_of (step_of server call).server v ≡ memos_of server v
unremembered_stays server call v e = stays_all server call.asked call.moment (step_of server call) (does server call) e v

step_places : (server : Server) (call : FinishedCall) (v : ℕ) → length (memos_of (step_of server call).server v) ≡ length (memos_of server v)
step_places server call v = same_count server call.asked call.moment (step_of server call) (does server call) v

pub places_stay : (server : Server) (calls : List FinishedCall) (v : ℕ) → length (memos_of (server_after server calls) v) ≡ length (memos_of server v)
places_stay server [] v = refl
places_stay server (e ∷ es) v = places_stay (step_of server e).server es v ∙ step_places server e v

-- as many as the layout gives
opening_places : (verifier : List ℕ) (from : ℕ) (layouts : List VolumeLayout) (v : ℕ)
    → length (memos_in (slice_get (opening_volumes verifier from layouts) v)) ≡ places_in (slice_get layouts v)
opening_places verifier from [] v = refl
opening_places verifier from (x ∷ xs) zero = length-replicate x.remembered None
opening_places verifier from (x ∷ xs) (suc v) = opening_places verifier (from + 1) xs v

pub places_given : (layout : Layout) (verifier : List ℕ) (calls : List FinishedCall) (v : ℕ)
    → length (memos_of (server_after (opening layout verifier) calls) v) ≡ places_of layout v
places_given layout verifier calls v = places_stay (opening layout verifier) calls v ∙ opening_places verifier 0 layout.volumes v

-- ---- what stands in a place from a call on

-- volumes of these numbers, a memo in a place, and so many places beside it
record Stands (ns : List ℕ) (p : Place) (memo : Option (Option Memo)) (places : ℕ) (server : Server) : Type 0 where
  numbers_are : numbers server ≡ ns
  memo_is : slice_get (memos_of server p.volume) p.number ≡ memo
  count_is : length (memos_of server p.volume) ≡ places

module _ (ns : List ℕ) (p : Place) (memo : Option (Option Memo)) (places : ℕ) where
  stands_after : (es : List FinishedCall) (server : Server) → Stands ns p memo places server → AreElsewhere p server es
      → Stands ns p memo places (server_after server es)
  stands_after [] server s f = s
  stands_after (e ∷ es) server s f =
      stands_after es (step_of server e).server (record {
        numbers_are = serial_numbers server e.asked e.moment e.starved ∙ s.numbers_are;
        memo_is = elsewhere_stays server e p f.0 ∙ s.memo_is;
        count_is = step_places server e p.volume ∙ s.count_is;
      }) f.1

-- ---- the call that comes again

abbrev taken_place : (server : Server) (asked : model.Asked) (moment : model.Moment) (step : Step) → Taken server asked moment step → Place
taken_place server asked moment step t = record { volume = volume_of t.change; number = place (length t.old.memos) t.caller }

abbrev taken_memo : (server : Server) (asked : model.Asked) (moment : model.Moment) (step : Step) → Taken server asked moment step → Memo
taken_memo server asked moment step t = record { caller = t.caller; change = t.change; moment = moment; told = t.told }

module _ (server : Server) (first : FinishedCall) (t : Taken server first.asked first.moment (step_of server first)) where
  it : Place
  it = taken_place server first.asked first.moment (step_of server first) t

  memo : Memo
  memo = taken_memo server first.asked first.moment (step_of server first) t

  -- it stands there after the call
  stands_first : Stands (numbers server) it (Some (Some memo)) (length t.old.memos) (step_of server first).server
  unfolding it memo
  stands_first =
      let k : ℕ = place (length t.old.memos) t.caller in
      let below : k < length t.old.memos = mod_below _ _ (positive _ t.some) in
      record {
        numbers_are = serial_numbers server first.asked first.moment first.starved;
        memo_is = ap (λ (ms : List (Option Memo)). slice_get ms k) t.here
            ∙ get_here t.old.memos k (slice_index_or t.old.memos k None) (Some memo) (slice_get-get_or t.old.memos k None below);
        count_is = step_places server first (volume_of t.change) ∙ ap length (ap memos_in t.old_is);
      }
    where
      positive : (n : ℕ) → nat_lt 0 n ≡ true → 0 < n
      positive n e = grind (arith, nat_tests)

  module _ (after : Server) (moment : model.Moment) (recent : is_recent first.moment moment ≡ true)
      (s : Stands (numbers server) it (Some (Some memo)) (length t.old.memos) after) where
    of_it : is_of t.caller t.change moment memo ≡ true
    unfolding memo
    of_it = both _ _ (both _ _ (caller_itself t.caller) (change_itself t.change)) recent

    told_it : (volume : VolumeState) → slice_get after.volumes (volume_of t.change) ≡ Some volume
        → told_before volume.memos t.caller t.call moment ≡ Some t.told
    unfolding it memo
    told_it volume at =
        let ms : memos_of after (volume_of t.change) ≡ volume.memos = ap memos_in at in
        let k : ℕ = place (length t.old.memos) t.caller in
        let count : length volume.memos ≡ length t.old.memos = sym (ap length ms) ∙ s.count_is in
        let there : slice_get volume.memos k ≡ Some (Some memo) = sym (ap (λ (xs : List (Option Memo)). slice_get xs k) ms) ∙ s.memo_is in
        ap (λ (o : Option Change). told_among volume.memos t.caller o moment) t.change_is
        ∙ ap (λ (n : ℕ). told_in t.caller t.change moment (slice_index_or volume.memos (place n t.caller) None)) count
        ∙ ap (λ (o : Option Memo). told_in t.caller t.change moment o) (get_or_from_slice_get volume.memos k (Some memo) None there)
        ∙ ap (λ (b : Bool). cond b (Some t.told) None) of_it

    same_number_there : (volume : VolumeState) → slice_get after.volumes (volume_of t.change) ≡ Some volume → volume.number ≡ t.old.number
    same_number_there volume at =
        let i : ℕ = volume_of t.change in
        let e : Some volume.number ≡ Some t.old.number =
        sym (number_got after.volumes i volume at) ∙ ap (λ (ns : List ℕ). slice_get ns i) s.numbers_are ∙ number_got server.volumes i t.old t.old_is in
        cc
      where
        number_got : (volumes : List VolumeState) (i : ℕ) (volume : VolumeState) → slice_get volumes i ≡ Some volume
            → slice_get (map number_in volumes) i ≡ Some volume.number
        number_got [] i volume e = absurd cc
        number_got (x ∷ xs) zero volume e = let same : x ≡ volume = cc in ap (λ (w : VolumeState). Some w.number) same
        number_got (x ∷ xs) (suc i) volume e = number_got xs i volume e

    abbrev as_first : Step
    as_first = record { reply = (step_of server first).reply; server = after }

    or_told_it : (volume : VolumeState) (effect : Effect) (absent i : ℕ) → volume_of t.change ≡ i → slice_get after.volumes i ≡ Some volume
        → placed after absent i (or_told volume (told_before volume.memos t.caller t.call moment) effect) ≡ as_first
    or_told_it volume effect absent i e at =
        let there : slice_get after.volumes (volume_of t.change) ≡ Some volume = ap (λ (v : ℕ). slice_get after.volumes v) e ∙ at in
        ap (λ (o : Option Told). placed after absent i (or_told volume o effect)) (told_it volume there)
        ∙ ap (λ (n : ℕ). stay after (answer_told n t.told)) (same_number_there volume there)
        ∙ (λ j. record { reply = sym t.reply_is j; server = after })

    serve_again : serve after t.call t.caller moment ≡ as_first
    serve_again = served after t.call t.caller moment (λ (x : Step). x ≡ as_first) (record {
      untouched = λ answer f.
          absurd (true≢false (sym t.good ∙ sym (good_alike server after s.numbers_are t.call) ∙ (f t.change t.change_is).0));
      plain = λ absent i old effect none at f. absurd (true≢false (sym (ap is_some (sym none ∙ t.change_is))));
      kept = λ absent i old effect good is at f.
          or_told_it old (remembered t.caller t.call moment old effect) absent i (is t.change t.change_is) at;
      grows = λ i ranges old none at. absurd (true≢false (sym (ap is_some (sym none ∙ t.change_is))));
    })

-- the step of the call again, over the list between
pub told_again : (server : Server) (first : FinishedCall) (between : List FinishedCall) (again : FinishedCall) (p : Place)
    → remembered_in server first ≡ Some p → AreElsewhere p (step_of server first).server between → IsAgain first again
    → step_of (server_after server (first ∷ between)) again
    ≡ record { reply = (step_of server first).reply; server = server_after server (first ∷ between) }
unfolding it Does
told_again server first between again p kept apart g = by (does server first)
  where
    after : Server
    after = server_after server (first ∷ between)

    taken : (t : Taken server first.asked first.moment (step_of server first))
        → step_of after again ≡ record { reply = (step_of server first).reply; server = after }
    taken t =
        let same : Some p ≡ Some (it server first t) = sym kept ∙ t.kept in
        let same_place : p ≡ it server first t = cc in
        let stands : Stands (numbers server) (it server first t) (Some (Some (memo server first t))) (length t.old.memos) after =
        stands_after _ _ _ _ between (step_of server first).server (stands_first server first t)
        (subst (λ (q : Place). AreElsewhere q (step_of server first).server between) same_place apart) in
        ap (λ (asked : model.Asked). serial after asked again.moment again.starved) (g.asked ∙ t.asked_is)
        ∙ ap (λ (b : Bool). serial after (model.Ask t.call t.caller) again.moment b) g.unstarved
        ∙ serve_again server first t after again.moment g.recent stands

    by : Does server first.asked first.moment (step_of server first)
        → step_of after again ≡ record { reply = (step_of server first).reply; server = after }
    by (inl u) = absurd (true≢false (sym (ap is_some (sym u.none ∙ kept))))
    by (inr t) = taken t

-- ---- in a run

server_after-append : (server : Server) (es fs : List FinishedCall) → server_after server (es ++ fs) ≡ server_after (server_after server es) fs
server_after-append server [] fs = refl
server_after-append server (e ∷ es) fs = server_after-append (step_of server e).server es fs

replay-append : (server : Server) (es fs : List FinishedCall) → replay server (es ++ fs) ≡ replay server es ++ replay (server_after server es) fs
replay-append server [] fs = refl
replay-append server (e ∷ es) fs = ap (λ (rs : List model.Reply). (step_of server e).reply ∷ rs) (replay-append (step_of server e).server es fs)

pub replayed : (server : Server) (before between after : List FinishedCall) (first again : FinishedCall) (p : Place)
    → remembered_in (server_after server before) first ≡ Some p
    → AreElsewhere p (step_of (server_after server before) first).server between
    → IsAgain first again
    → replay server (before ++ first ∷ (between ++ again ∷ after))
    ≡ replay server (before ++ first ∷ between) ++ (step_of (server_after server before) first).reply
    ∷ replay (server_after server (before ++ first ∷ between)) after
replayed server before between after first again p kept apart g =
    let start : Server = server_after server before in
    let end : Server = server_after start (first ∷ between) in
    let ends : server_after server (before ++ first ∷ between) ≡ end = server_after-append server before (first ∷ between) in
    let told : step_of end again ≡ record { reply = (step_of start first).reply; server = end } = told_again start first between again p kept apart g in
    replay-append server before (first ∷ (between ++ again ∷ after))
    ∙ ap (λ (rs : List model.Reply). replay server before ++ (step_of start first).reply ∷ rs)
    (replay-append (step_of start first).server between (again ∷ after))
    ∙ sym (append_assoc (replay server before) (replay start (first ∷ between)) (replay end (again ∷ after)))
    ∙ ap (λ (rs : List model.Reply). rs ++ replay end (again ∷ after)) (sym (replay-append server before (first ∷ between)))
    ∙ ap (λ (x : Step). replay server (before ++ first ∷ between) ++ x.reply ∷ replay x.server after) told
    ∙ ap (λ (x : Server). replay server (before ++ first ∷ between) ++ (step_of start first).reply ∷ replay x after) (sym ends)

-- ---- failures

module _ (server : Server) (i : ℕ) (old : VolumeState) (absent : ℕ) where
  plain_fails : (effect : Effect) → Ends Keeping old effect → is_success (placed server absent i effect).reply ≡ false
      → (placed server absent i effect).server ≡ server
  plain_fails (Fails status) f e = refl
  plain_fails (Tells answer) f e = refl
  plain_fails (Changes answer new) f e = absurd (true≢false (sym (ends_changes Keeping old answer new f).0 ∙ e))

  once_fails : (who : model.Caller) (call : model.Call) (moment : model.Moment) (o : Option Told) (effect : Effect) → Ends Telling old effect
      → is_success (placed server absent i (or_told old o (remembered who call moment old effect))).reply ≡ false
      → (placed server absent i (or_told old o (remembered who call moment old effect))).server ≡ server
  once_fails who call moment (Some told) effect f e = refl
  once_fails who call moment None (Fails status) f e = refl
  once_fails who call moment None (Tells answer) f e =
      let q : Telling old answer old = ends_tells Telling old answer f in
      absurd (true≢false (sym (tells_success answer q.1.0 q.1.1.0) ∙ e))
  once_fails who call moment None (Changes answer new) f e = absurd (true≢false (sym (ends_changes Telling old answer new f).0 ∙ e))

serve_fails : (server : Server) (call : model.Call) (who : model.Caller) (moment : model.Moment)
    → is_success (serve server call who moment).reply ≡ false → (serve server call who moment).server ≡ server
serve_fails server call who moment = served server call who moment (λ (s : Step). is_success s.reply ≡ false → s.server ≡ server) (record {
  untouched = λ answer f e. refl;
  plain = λ absent i old effect none at f. plain_fails server i old absent effect f;
  kept = λ absent i old effect good is at f. once_fails server i old absent who call moment (told_before old.memos who call moment) effect f;
  grows = λ i ranges old none at e. absurd (true≢false e);
})

serial_fails : (server : Server) (asked : model.Asked) (moment : model.Moment) (starved : Bool)
    → is_success (serial server asked moment starved).reply ≡ false → (serial server asked moment starved).server ≡ server
serial_fails server asked moment true e = refl
serial_fails server (model.Ask call who) moment false e = serve_fails server call who moment e
serial_fails server (model.Refused reply) moment false e = refl
serial_fails server model.Undecoded moment false e = refl

pub failure_stays : (server : Server) (call : FinishedCall) → is_success (step_of server call).reply ≡ false → (step_of server call).server ≡ server
failure_stays server call e = serial_fails server call.asked call.moment call.starved e
