-- Bytes taken piece by piece.
use Rattle.std.proofs.Common.{true, ◌≡◌, ℕ, ◌+◌, ◌-◌, ◌<◌, ◌≤◌, false, List, [], ◌∷◌, ◌++◌, length, take, drop, Option, Some, None, refl, sym, ap}
use Rattle.std.proofs.Common.{subst, ◌∙◌, arith, inl, inr}
use Rattle.std.specs.Prelude.{◌==◌, slice_get, is_none, option_map}
use Rattle.std.proofs.Math.Seq.{take-add}
use Rattle.std.proofs.lemmas.Bool.Decides.{nat_tests}
use Rattle.std.proofs.lemmas.List.{append-nil, take_all, take-append-drop, length-take-le, length-drop}
use Rattle.nfs_model.specs.World.{Codec, Setup, World, IsScan}
use Rattle.nfs_model.specs.Events.Feed.{Feeds, feeding}
use Rattle.nfs_model.specs.Events.Refusals.{takes_input}
use Rattle.nfs_laws.specs.Walk.{Walks}
use Rattle.rpc_msg.specs.declared.offer.Offer.{Offer}
use Rattle.engine_feed.specs.declared.state.ConnectionState.{ConnectionState}
use Rattle.engine_feed.specs.declared.state.CallsState.{CallsState}
use Rattle.engine_feed.specs.declared.stop.Stop.{Stop}
use Rattle.engine_feed.specs.declared.stop.StreamFault.{StreamFault}
use Rattle.engine_feed.specs.Numbers.{fault_number, stop_number}
use Rattle.engine_feed.specs.Seen.{pending}
use Rattle.engine_feed.specs.Streams.{scan_stream}
use Rattle.engine_feed.specs.Feeding.{TakesAll}
use Rattle.engine_feed.specs.Within.{IsSetup, IsPartOf, with_part}
use Rattle.engine_feed.specs.Sound.{IsInStep, IsSoundConnection, AreSound, IsFree, IsStreamRoomier, MayGoOn}
use Rattle.engine_feed.specs.Words.{FeedsAll, FeedsSome, HasFed, InWorlds, StaysSound}
use Rattle.engine_feed.proofs.Worlds.{TakesAll-append, Walks-after}
use Rattle.engine_feed.proofs.Parts.{part-is, part-put, part-twice, part-unseen, stream-room-unseen}
use Rattle.engine_feed.proofs.Keeping.{adds-none, adds-then}
use Rattle.engine_feed.proofs.Fed.{fed, not-crowded, feeds-nothing}
use Rattle.engine_feed.proofs.Full.{full-nothing}
use Rattle.engine_feed.proofs.Pieces.{none-free}
use Rattle.engine_feed.proofs.Serves.{is-scan}

pub stays-same : (calls : CallsState) (c : ConnectionState) (n : ℕ) → IsSoundConnection c → AreSound calls → StaysSound calls c n calls c
stays-same calls c n s t = record { adds = adds-none calls calls c c n refl refl refl refl; is_sound = s; are_sound = t }

pub stays-then : (calls calls' calls'' : CallsState) (c c' c'' : ConnectionState) (n : ℕ) → StaysSound calls c n calls' c'
    → StaysSound calls' c' n calls'' c'' → StaysSound calls c n calls'' c''
stays-then calls calls' calls'' c c' c'' n s t =
    record { adds = adds-then calls calls' calls'' c c' c'' n s.adds t.adds; is_sound = t.is_sound; are_sound = t.are_sound }

all_taken : (setup : Setup) (c : ℕ) (w new : World) (bytes : List ℕ) (taken : ℕ) → taken ≡ length bytes → TakesAll setup c w (take taken bytes) new
    → Walks setup (feeding c bytes taken 0) w new
all_taken setup c w new bytes taken e p =
    let whole : take taken bytes ≡ bytes = take_all taken bytes (omega (arith, e)) in
    let walks : Walks setup (feeding c (bytes ++ []) (length bytes + 0) 0) w new = Walks-after setup c w new new bytes [] 0 0
    (subst (λ (bs : List ℕ). TakesAll setup c w bs new) whole p) (refl, refl, refl) in
    let size : length bytes + 0 ≡ taken = omega (arith, e) in
    subst (λ (n : ℕ). Walks setup (feeding c bytes n 0) w new) size
    (subst (λ (bs : List ℕ). Walks setup (feeding c bs (length bytes + 0) 0) w new) (append-nil bytes) walks)

pub the-rest : (bytes : List ℕ) (n : ℕ) → take (length bytes - n) (drop n bytes) ≡ drop n bytes
the-rest bytes n = take_all (length bytes - n) (drop n bytes) (omega (arith, length-drop n bytes))

pub rest-length : (bytes : List ℕ) (n : ℕ) → length (take (length bytes - n) (drop n bytes)) ≡ length bytes - n
rest-length bytes n = ap (λ (xs : List ℕ). length xs) (the-rest bytes n) ∙ length-drop n bytes

feeds_none : (setup : Setup) (c : ℕ) (w : World) (bytes : List ℕ) → length bytes ≡ 0 → Walks setup (feeding c bytes 0 0) w w
feeds_none setup c w [] e = (refl, refl, refl)
feeds_none setup c w (b ∷ bytes) e = absurd (omega arith)

pub feeds-none : (setup : Setup) (w : World) (calls : CallsState) (c : ConnectionState) (n : ℕ) (bytes : List ℕ) → length bytes ≡ 0
    → IsPartOf calls n c w → Walks setup (feeding n bytes 0 0) w (with_part calls n c w)
feeds-none setup w calls c n bytes e p = subst (Walks setup (feeding n bytes 0 0) w) (sym (part-is calls n c w p)) (feeds_none setup n w bytes e)

-- a connection with more room for its stream is the same part
roomier-part : (calls : CallsState) (n : ℕ) (c c' : ConnectionState) (w : World) → IsStreamRoomier c c' → IsPartOf calls n c w → IsPartOf calls n c' w
roomier-part calls n c c' w r p = part-unseen calls calls n c c' w (stream-room-unseen c c' r) refl refl refl refl p

-- a feed of bytes told byte by byte is one, as the law has it
abbrev pub WalksAreFeeds : Type 0
WalksAreFeeds = (setup : Setup) (w : World) (connection : ℕ) (bytes : List ℕ) (taken stop : ℕ) (new : World) → IsScan setup.codec
    → takes_input setup (slice_get w.connections connection) ≡ true → Walks setup (feeding connection bytes taken stop) w new
    → Feeds setup (feeding connection bytes taken stop) w new

pub not-empty : (bytes : List ℕ) → false ≡ (length bytes == 0) → 0 < length bytes
not-empty bytes e = grind (arith, nat_tests)

module _ (offer : Offer) where
  -- ---- the loop

  -- all bytes up to here were taken, and more may be
  abbrev pub HasTaken : CallsState → ConnectionState → ℕ → List ℕ → CallsState → ConnectionState → Type 0
  HasTaken calls c n bytes calls' c' = InWorlds offer calls n c (λ setup w. TakesAll setup n w bytes (with_part calls' n c' w))

  pub none-taken : (calls : CallsState) (c : ConnectionState) (n : ℕ) → HasTaken calls c n [] calls c
  none-taken calls c n setup w k p = part-is calls n c w p

  module _ (calls calls' calls'' : CallsState) (c c' c'' : ConnectionState) (n : ℕ) (bytes : List ℕ) (taken count : ℕ) where
    later : StaysSound calls c n calls' c' → (setup : Setup) (w : World) → IsSetup offer setup calls → IsPartOf calls n c w
        → IsSetup offer setup calls' × IsPartOf calls' n c' (with_part calls' n c' w)
    later s setup w k p =
        (record { codec = k.codec; layout = k.layout ∙ sym s.adds.layout }, part-put calls calls' n c c' w p s.adds.running s.adds.layout)

    pub goes-on : StaysSound calls c n calls' c' → HasTaken calls c n (take taken bytes) calls' c'
        → FeedsSome offer calls' c' n (drop taken bytes) count None calls'' c''
        → HasTaken calls c n (take (taken + count) bytes) calls'' c''
    goes-on s h f setup w k p =
        let m : World = with_part calls' n c' w in
        let l = later s setup w k p in
        let more : TakesAll setup n m (take count (drop taken bytes)) (with_part calls'' n c'' w) =
        subst (TakesAll setup n m (take count (drop taken bytes))) (part-twice calls' calls'' n c' c'' w) (f setup m l.0 l.1) in
        subst (λ (bs : List ℕ). TakesAll setup n w bs (with_part calls'' n c'' w)) (sym (take-add taken count bytes))
        (TakesAll-append setup n w m (with_part calls'' n c'' w) (take taken bytes) (take count (drop taken bytes)) (h setup w k p) more)

    pub stops : (stop : Stop) → StaysSound calls c n calls' c' → HasTaken calls c n (take taken bytes) calls' c' → taken ≤ length bytes
        → FeedsSome offer calls' c' n (drop taken bytes) count (Some stop) calls'' c'' → FeedsAll offer calls c n bytes (taken + count) stop calls'' c''
    stops stop s h few f setup w k p =
        let m : World = with_part calls' n c' w in
        let new : World = with_part calls'' n c'' w in
        let l = later s setup w k p in
        let rest : Walks setup (feeding n (drop taken bytes) count (stop_number stop)) m new =
        subst (Walks setup (feeding n (drop taken bytes) count (stop_number stop)) m) (part-twice calls' calls'' n c' c'' w) (f setup m l.0 l.1) in
        let walks = Walks-after setup n w m new (take taken bytes) (drop taken bytes) count (stop_number stop) (h setup w k p) rest in
        let size : length (take taken bytes) ≡ taken = length-take-le taken bytes few in
        subst (λ (j : ℕ). Walks setup (feeding n bytes (j + count) (stop_number stop)) w new) size
        (subst (λ (bs : List ℕ). Walks setup (feeding n bs (length (take taken bytes) + count) (stop_number stop)) w new) (take-append-drop taken bytes) walks)

  pub all-taken : (setup : Setup) (w : World) (calls calls' : CallsState) (c c' : ConnectionState) (n : ℕ) (bytes : List ℕ) (taken : ℕ)
      → taken ≡ length bytes → HasTaken calls c n (take taken bytes) calls' c' → IsSetup offer setup calls → IsPartOf calls n c w
      → Walks setup (feeding n bytes taken 0) w (with_part calls' n c' w)
  all-taken setup w calls calls' c c' n bytes taken e h k p = all_taken setup n w (with_part calls' n c' w) bytes taken e (h setup w k p)

  -- ---- before the first byte

  pub stopped-full : (setup : Setup) (w : World) (calls : CallsState) (c : ConnectionState) (n : ℕ) (bytes : List ℕ) → IsSetup offer setup calls
      → IsPartOf calls n c w
      → IsSoundConnection c → c.fault ≡ None → 0 < length bytes → (pending calls ≡ 1024) × IsFree c.reassembler bytes 0
      → Walks setup (feeding n bytes 0 31) w (with_part calls n c w)
  stopped-full setup w calls c n bytes k p s t some f =
      none-free offer setup calls n c w bytes 0 (record { codec_is = k.codec; part = p; fed = fed offer calls n c w p s.in_step t }) f.0 some f.1 refl

  stops_before : (setup : Setup) (w : World) (calls : CallsState) (c : ConnectionState) (n : ℕ) (bytes : List ℕ) → IsSetup offer setup calls
      → IsPartOf calls n c w
      → IsSoundConnection c → c.fault ≡ None → 0 < length bytes → MayGoOn calls c bytes → Walks setup (feeding n bytes 0 90) w w
  stops_before setup w calls c n bytes k p s t some (inl room) = feeds-nothing setup n w bytes some (not-crowded calls n c w p room)
  stops_before setup w calls c n bytes k p s t some (inr r) =
      full-nothing offer setup k.codec c w n bytes r.0 c.reassembler (fed offer calls n c w p s.in_step t) refl some r.1 r.2

  pub stopped-by-memory : (setup : Setup) (w : World) (calls : CallsState) (c c' : ConnectionState) (n : ℕ) (bytes : List ℕ) → IsSetup offer setup calls
      → IsPartOf calls n c w → IsSoundConnection c → c.fault ≡ None → 0 < length bytes → MayGoOn calls c bytes → IsStreamRoomier c c'
      → Walks setup (feeding n bytes 0 90) w (with_part calls n c' w)
  stopped-by-memory setup w calls c c' n bytes k p s t some m r =
      subst (Walks setup (feeding n bytes 0 90) w) (sym (part-is calls n c' w (roomier-part calls n c c' w r p)))
      (stops_before setup w calls c n bytes k p s t some m)

  -- ---- the whole feed

  pub has-fed : (calls calls' : CallsState) (c c' : ConnectionState) (n : ℕ) (bytes : List ℕ) (taken : ℕ) (stop : Stop) → WalksAreFeeds → IsSoundConnection c
      → c.fault ≡ None → FeedsAll offer calls c n bytes taken stop calls' c' → HasFed offer calls c n bytes taken stop calls' c'
  has-fed calls calls' c c' n bytes taken stop law s t f setup w k p =
      let sound : (scan_stream offer c.stream.items).fault ≡ None = s.in_step.fault offer ∙ ap (option_map fault_number) t in
      let takes : takes_input setup (slice_get w.connections n) ≡ true = ap (takes_input setup) p.connection
      ∙ ap (λ (q : Codec). is_none (q.scan c.stream.items).fault) k.codec ∙ ap (λ (o : Option ℕ). is_none o) sound in
      law setup w n bytes taken (stop_number stop) (with_part calls' n c' w) (subst IsScan (sym k.codec) (is-scan offer)) takes (f setup w k p)

  pub no-fault : (c : ConnectionState) → IsInStep c → (scan_stream offer c.stream.items).fault ≡ None → c.fault ≡ None
  no-fault c s e = none_of c.fault (sym (s.fault offer) ∙ e)
    where
      none_of : (o : Option StreamFault) → option_map fault_number o ≡ None → o ≡ None
      none_of None e = refl
      none_of (Some f) e = absurd cc
