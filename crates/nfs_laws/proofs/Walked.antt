-- A feed as it is defined, and as it is told byte by byte: each says the other.
use Rattle.std.proofs.Common.{◌≡◌, ℕ, zero, suc, ◌+◌, ◌<◌, ◌≤◌, Bool, true, false, List, [], ◌∷◌, ◌++◌, length, take, drop, Option, Some, None, refl, sym, ap}
use Rattle.std.proofs.Common.{subst, ◌∙◌, arith, append_assoc, length-append, inl, inr}
use Rattle.std.specs.Prelude.{slice_get, IsTrue, ◌⊎◌, ◌&&◌}
use Rattle.std.proofs.lemmas.List.{append-nil}
use Rattle.nfs_model.specs.Types.{Reply, SystemError}
use Rattle.nfs_model.specs.Tree.{Affinity}
use Rattle.nfs_model.specs.Server.{start_of_times}
use Rattle.nfs_model.specs.Serial.Step.{serial}
use Rattle.nfs_model.specs.Home.{home_of_asked}
use Rattle.nfs_model.specs.Replay.{FinishedCall}
use Rattle.nfs_model.specs.World.{Heard, Setup, World, Connection, IsScan, changed_at, written_to, with_output, finish, is_crowded}
use Rattle.nfs_model.specs.Events.Refusals.{takes_input}
use Rattle.nfs_model.specs.Events.Feed.{feeding, stream_in, stream_of, with_bytes, bytes_taken, call_at_once, call_undecoded, admit}
use Rattle.nfs_model.specs.Events.Feed.{heard_in, Hears, completes_at}
use Rattle.nfs_model.specs.Events.Feed.{completes_next, is_full_at, StopsSound, StopsAt, halt, Feeds, feeding}
use Rattle.nfs_laws.specs.Walk.{Reached, Further, Complete, AtFault, reached_at, reached, is_complete, with_byte, byte_taken, Takes, TakesFault, Stops, Walks}
use Rattle.nfs_laws.proofs.Lists.{slice_get-changed_at}
use Rattle.nfs_laws.proofs.Written.{written_stream}
use Rattle.nfs_laws.proofs.KeptByFeed.{Brings, brings, IsTaking, taking, taking_byte, taking_heard}

-- ---- changes at one place

changed_none : {X : Type 0} (f : X → X) (xs : List X) (i : ℕ) → ((x : X) → f x ≡ x) → changed_at f xs i ≡ xs
changed_none f [] i same = refl
changed_none f (x ∷ xs) zero same = ap (λ y. y ∷ xs) (same x)
changed_none f (x ∷ xs) (suc i) same = ap (λ ys. x ∷ ys) (changed_none f xs i same)

changed_twice : {X : Type 0} (f g h : X → X) (xs : List X) (i : ℕ) → ((x : X) → g (f x) ≡ h x) → changed_at g (changed_at f xs i) i ≡ changed_at h xs i
changed_twice f g h [] i same = refl
changed_twice f g h (x ∷ xs) zero same = ap (λ y. y ∷ xs) (same x)
changed_twice f g h (x ∷ xs) (suc i) same = ap (λ ys. x ∷ ys) (changed_twice f g h xs i same)

-- ---- bytes of a connection

taken_none : (w : World) (c : ℕ) → bytes_taken w c [] ≡ w
taken_none w c =
    ap (λ (cs : List Connection). record w { connections = cs })
    (changed_none (with_bytes []) w.connections c (λ x. ap (λ (s : List ℕ). record x { stream = s }) (append-nil x.stream)))

taken_more : (w : World) (c : ℕ) (xs ys : List ℕ) → bytes_taken (bytes_taken w c xs) c ys ≡ bytes_taken w c (xs ++ ys)
taken_more w c xs ys =
    ap (λ (cs : List Connection). record w { connections = cs })
    (changed_twice (with_bytes xs) (with_bytes ys) (with_bytes (xs ++ ys)) w.connections c
    (λ x. ap (λ (s : List ℕ). record x { stream = s }) (append_assoc x.stream xs ys)))

written_then : (bytes out : List ℕ) (o : Option ℕ) (x : Connection) → written_to out o (with_bytes bytes x) ≡ with_bytes bytes (written_to out o x)
written_then bytes out None x = refl
written_then bytes out (Some n) x = refl

finish_taken : (setup : Setup) (w : World) (c : ℕ) (bytes : List ℕ) (e : FinishedCall) (reply : Reply) → e.connection ≡ c
    → finish setup (bytes_taken w c bytes) e reply ≡ bytes_taken (finish setup w e reply) c bytes
finish_taken setup w c bytes e reply on_it =
    let write : Connection → Connection = with_output (setup.codec.reply_record e.xid reply) in
    let both : Connection → Connection = λ x. with_bytes bytes (write x) in
    let one : changed_at write (changed_at (with_bytes bytes) w.connections c) c ≡ changed_at (with_bytes bytes) (changed_at write w.connections c) c =
    changed_twice (with_bytes bytes) write both w.connections c (λ x. written_then bytes (setup.codec.reply_record e.xid reply) x.closed x)
    ∙ sym (changed_twice write (with_bytes bytes) both w.connections c (λ x. refl)) in
    ap (λ (cs : List Connection). record w { finished = w.finished ++ e ∷ []; connections = cs })
    (subst (λ (k : ℕ). changed_at write (changed_at (with_bytes bytes) w.connections c) k ≡ changed_at (with_bytes bytes)
    (changed_at write w.connections k) c) (sym on_it) one)

admit_taken : (setup : Setup) (w : World) (c number : ℕ) (bytes : List ℕ) (h : Heard) (home : Option Affinity)
    → admit setup (bytes_taken w c bytes) c number h home ≡ bytes_taken (admit setup w c number h home) c bytes
admit_taken setup w c number bytes h None = finish_taken setup w c bytes (call_at_once c number h) (serial w.server h.asked start_of_times false).reply refl
admit_taken setup w c number bytes h (Some a) = refl

heard_taken : (setup : Setup) (w : World) (c number : ℕ) (bytes : List ℕ) (h : Heard) (starved : Bool)
    → heard_in setup (bytes_taken w c bytes) c number h starved ≡ bytes_taken (heard_in setup w c number h starved) c bytes
heard_taken setup w c number bytes h true = finish_taken setup w c bytes (call_undecoded c number h) SystemError refl
heard_taken setup w c number bytes h false = admit_taken setup w c number bytes h (home_of_asked setup.layout h.asked)

-- ---- the stream of a connection

stream_there : (setup : Setup) (w : World) (c : ℕ) (t : IsTaking setup w c) → stream_of w c ≡ t.connection.stream
stream_there setup w c t = ap (λ (o : Option Connection). stream_in o) t.there

stream_byte : (setup : Setup) (w : World) (c b : ℕ) (t : IsTaking setup w c) → stream_of (byte_taken w c b) c ≡ stream_of w c ++ b ∷ []
stream_byte setup w c b t =
    ap (λ (o : Option Connection). stream_in o) (slice_get-changed_at (with_byte b) w.connections c t.connection t.there)
    ∙ ap (λ (s : List ℕ). s ++ b ∷ []) (sym (stream_there setup w c t))

stream_written : (out : List ℕ) (cs : List Connection) (c : ℕ) → stream_in (slice_get (changed_at (with_output out) cs c) c) ≡ stream_in (slice_get cs c)
stream_written out [] c = refl
stream_written out (x ∷ cs) zero = written_stream out x.closed x
stream_written out (x ∷ cs) (suc c) = stream_written out cs c

stream_admit : (setup : Setup) (w : World) (c number : ℕ) (h : Heard) (home : Option Affinity) → stream_of (admit setup w c number h home) c ≡ stream_of w c
stream_admit setup w c number h None = stream_written (setup.codec.reply_record h.xid (serial w.server h.asked start_of_times false).reply) w.connections c
stream_admit setup w c number h (Some a) = refl

stream_heard : (setup : Setup) (w : World) (c number : ℕ) (h : Heard) (starved : Bool) → stream_of (heard_in setup w c number h starved) c ≡ stream_of w c
stream_heard setup w c number h true = stream_written (setup.codec.reply_record h.xid SystemError) w.connections c
stream_heard setup w c number h false = stream_admit setup w c number h (home_of_asked setup.layout h.asked)

-- ---- lists

no_more : (xs ys : List Heard) → xs ≡ xs ++ ys → ys ≡ []
no_more xs [] e = refl
no_more xs (y ∷ ys) e =
    let n : length xs ≡ length xs + length (y ∷ ys) = ap (λ (zs : List Heard). length zs) e ∙ length-append xs (y ∷ ys) in absurd (omega (arith, n))

tail_same : (x y : Heard) (xs ys : List Heard) → x ∷ xs ≡ y ∷ ys → xs ≡ ys
tail_same x y xs ys e = cc

same_after : (xs ys zs : List Heard) → xs ++ ys ≡ xs ++ zs → ys ≡ zs
same_after [] ys zs e = e
same_after (x ∷ xs) ys zs e = same_after xs ys zs (tail_same x x (xs ++ ys) (xs ++ zs) e)

one_byte : (xs : List ℕ) (b : ℕ) (ys : List ℕ) → (xs ++ b ∷ []) ++ ys ≡ xs ++ b ∷ ys
one_byte xs b ys = append_assoc xs (b ∷ []) ys

-- ---- a feed, with the stream before it named

record From (setup : Setup) (c : ℕ) (w : World) (came bytes : List ℕ) (taken stop : ℕ) (new : World) : Type 0 where
  within : taken ≤ length bytes
  sound : (n : ℕ) → n < taken → (setup.codec.scan (came ++ take n bytes)).fault ≡ None
  heard : List Heard
  complete : (setup.codec.scan (came ++ take taken bytes)).served ≡ (setup.codec.scan came).served ++ heard
  hears : Hears setup c (bytes_taken w c (take taken bytes)) (length (setup.codec.scan came).served) heard new
  stops : StopsAt setup new (halt (came ++ take taken bytes) (drop taken bytes) stop) (setup.codec.scan (came ++ take taken bytes)).fault

of_feed : (setup : Setup) (c : ℕ) (w : World) (bytes : List ℕ) (taken stop : ℕ) (new : World) → Feeds setup (feeding c bytes taken stop) w new
    → From setup c w (stream_of w c) bytes taken stop new
of_feed setup c w bytes taken stop new f =
    record { within = f.within; sound = f.sound; heard = f.heard; complete = f.complete; hears = f.hears; stops = f.stops }

to_feed : (setup : Setup) (c : ℕ) (w : World) (bytes : List ℕ) (taken stop : ℕ) (new : World) → From setup c w (stream_of w c) bytes taken stop new
    → Feeds setup (feeding c bytes taken stop) w new
to_feed setup c w bytes taken stop new f =
    record { within = f.within; sound = f.sound; heard = f.heard; complete = f.complete; hears = f.hears; stops = f.stops }

complete_is : (fault : Option ℕ) (more : Option Heard) → is_complete (reached_at fault more) ≡ completes_at fault more
complete_is None None = refl
complete_is None (Some h) = refl
complete_is (Some number) more = refl

-- the next byte completes a record, told in both ways
next_is : (setup : Setup) (w : World) (c b : ℕ) (bytes : List ℕ) → is_complete (reached setup w c b) ≡ completes_next setup (stream_of w c) (b ∷ bytes)
next_is setup w c b bytes =
    complete_is (setup.codec.scan (stream_of w c ++ b ∷ [])).fault
    (slice_get (setup.codec.scan (stream_of w c ++ b ∷ [])).served (length (setup.codec.scan (stream_of w c)).served))

-- ---- nothing is taken

module _ (setup : Setup) (c : ℕ) (w : World) (came bytes : List ℕ) (stop : ℕ) (sound : (setup.codec.scan came).fault ≡ None) where
  from_none : StopsSound setup w (halt came bytes stop) → From setup c w came bytes 0 stop w
  from_none stops = record {
    within = omega arith;
    sound = λ n l. absurd (omega (arith, l));
    heard = [];
    complete = ap (λ (s : List ℕ). (setup.codec.scan s).served) (append-nil came) ∙ sym (append-nil (setup.codec.scan came).served);
    hears = sym (taken_none w c);
    stops = subst (λ (s : List ℕ). StopsAt setup w (halt s bytes stop) (setup.codec.scan s).fault) (sym (append-nil came))
        (subst (λ (o : Option ℕ). StopsAt setup w (halt came bytes stop) o) (sym sound) stops);
  }

  none_from : (new : World) → From setup c w came bytes 0 stop new → (new ≡ w) × StopsSound setup w (halt came bytes stop)
  none_from new f =
      let none : f.heard ≡ [] =
      no_more (setup.codec.scan came).served f.heard (ap (λ (s : List ℕ). (setup.codec.scan s).served) (sym (append-nil came)) ∙ f.complete) in
      let same : new ≡ w = subst (λ (hs : List Heard). Hears setup c (bytes_taken w c []) (length (setup.codec.scan came).served) hs new) none f.hears
      ∙ taken_none w c in (
        same,
        subst (λ (v : World). StopsSound setup v (halt came bytes stop)) same
            (subst (λ (o : Option ℕ). StopsAt setup new (halt came bytes stop) o) sound
            (subst (λ (s : List ℕ). StopsAt setup new (halt s bytes stop) (setup.codec.scan s).fault) (append-nil came) f.stops)),
      )

-- ---- a byte, and then others

-- what is true of no byte and after one is true of fewer than this many
below : (P : ℕ → Type 0) (k : ℕ) → P 0 → ((n : ℕ) → n < k → P (suc n)) → (n : ℕ) → n < suc k → P n
below P k first more zero l = first
below P k first more (suc n) l = more n (omega (arith, l))

module _ (setup : Setup) (c : ℕ) (w middle : World) (came : List ℕ) (b : ℕ) (bytes : List ℕ) (rest stop : ℕ) (new : World) (first : List Heard) where
  from_more : (setup.codec.scan came).fault ≡ None → (setup.codec.scan (came ++ b ∷ [])).served ≡ (setup.codec.scan came).served ++ first
      → (f : From setup c middle (came ++ b ∷ []) bytes rest stop new)
      → Hears setup c (bytes_taken w c (b ∷ take rest bytes)) (length (setup.codec.scan came).served) (first ++ f.heard) new
      → From setup c w came (b ∷ bytes) (suc rest) stop new
  from_more sound one f hears = record {
    within = omega (arith, f.within);
    sound = below (λ n. (setup.codec.scan (came ++ take n (b ∷ bytes))).fault ≡ None) rest
        (ap (λ (s : List ℕ). (setup.codec.scan s).fault) (append-nil came) ∙ sound)
        (λ n l. ap (λ (s : List ℕ). (setup.codec.scan s).fault) (sym (one_byte came b (take n bytes))) ∙ f.sound n l);
    heard = first ++ f.heard;
    complete = ap (λ (s : List ℕ). (setup.codec.scan s).served) (sym (one_byte came b (take rest bytes))) ∙ f.complete
        ∙ ap (λ (hs : List Heard). hs ++ f.heard) one
        ∙ append_assoc (setup.codec.scan came).served first f.heard;
    hears = hears;
    stops = subst (λ (s : List ℕ). StopsAt setup new (halt s (drop rest bytes) stop) (setup.codec.scan s).fault) (one_byte came b (take rest bytes)) f.stops;
  }

  more_from : (more : List Heard) → (setup.codec.scan (came ++ b ∷ [])).served ≡ (setup.codec.scan came).served ++ first
      → (f : From setup c w came (b ∷ bytes) (suc rest) stop new) → f.heard ≡ first ++ more
      → Hears setup c (bytes_taken middle c (take rest bytes)) (length (setup.codec.scan (came ++ b ∷ [])).served) more new
      → From setup c middle (came ++ b ∷ []) bytes rest stop new
  more_from more one f is hears = record {
    within = omega (arith, f.within);
    sound = λ n l. ap (λ (s : List ℕ). (setup.codec.scan s).fault) (one_byte came b (take n bytes)) ∙ f.sound (suc n) (omega (arith, l));
    heard = more;
    complete = ap (λ (s : List ℕ). (setup.codec.scan s).served) (one_byte came b (take rest bytes)) ∙ f.complete
        ∙ ap (λ (hs : List Heard). (setup.codec.scan came).served ++ hs) is
        ∙ sym (append_assoc (setup.codec.scan came).served first more) ∙ ap (λ (hs : List Heard). hs ++ more) (sym one);
    hears = hears;
    stops = subst (λ (s : List ℕ). StopsAt setup new (halt s (drop rest bytes) stop) (setup.codec.scan s).fault)
        (sym (one_byte came b (take rest bytes))) f.stops;
  }

-- ---- from the walk

module _ (setup : Setup) (scan : IsScan setup.codec) (c : ℕ) where
  stop_told : (w : World) (b : ℕ) (bytes : List ℕ) (taken stop : ℕ) (new : World) → IsTaking setup w c → Stops w (reached setup w c b) taken stop new
      → Feeds setup (feeding c (b ∷ bytes) taken stop) w new
  stop_told w b bytes taken stop new t s =
      let full : (is_crowded w && is_complete (reached setup w c b)) ≡ is_full_at setup w (stream_of w c) (b ∷ bytes) = ap (λ (d : Bool). is_crowded w && d)
      (next_is setup w c b bytes) in
      let sound : (setup.codec.scan (stream_of w c)).fault ≡ None = ap (λ (x : List ℕ). (setup.codec.scan x).fault) (stream_there setup w c t) ∙ t.sound in
      let stops : StopsSound setup w (halt (stream_of w c) (b ∷ bytes) stop) = elim s.2 [
        | inl p ↦ inr (inl (p.0, subst (λ (d : Bool). IsTrue d) full p.1))
        | inr p ↦ inr (inr (p.0, (λ e. absurd cc), sym full ∙ p.1))
      ] in
      subst (λ (k : ℕ). Feeds setup (feeding c (b ∷ bytes) k stop) w new) (sym s.0)
      (subst (λ (v : World). Feeds setup (feeding c (b ∷ bytes) 0 stop) w v) (sym s.1)
      (to_feed setup c w (b ∷ bytes) 0 stop w (from_none setup c w (stream_of w c) (b ∷ bytes) stop sound stops)))

  -- what a byte brings, in the words of the stream before it
  brings_here : (w : World) (b : ℕ) (t : IsTaking setup w c) (r : Reached) → reached setup w c b ≡ r
      → Brings r (setup.codec.scan (stream_of w c ++ b ∷ [])).fault (setup.codec.scan (stream_of w c)).served
      (setup.codec.scan (stream_of w c ++ b ∷ [])).served
  brings_here w b t r is =
      subst (λ (s : List ℕ). Brings r (setup.codec.scan (s ++ b ∷ [])).fault (setup.codec.scan s).served (setup.codec.scan (s ++ b ∷ [])).served)
      (sym (stream_there setup w c t)) (brings setup w c b t r scan is)

  sound_here : (w : World) (t : IsTaking setup w c) → (setup.codec.scan (stream_of w c)).fault ≡ None
  sound_here w t = ap (λ (s : List ℕ). (setup.codec.scan s).fault) (stream_there setup w c t) ∙ t.sound

  fault_told : (w : World) (b : ℕ) (bytes : List ℕ) (r : Reached) (taken stop : ℕ) (new : World) → IsTaking setup w c → reached setup w c b ≡ r
      → TakesFault w c b r taken stop new → Feeds setup (feeding c (b ∷ bytes) taken stop) w new
  fault_told w b bytes Further taken stop new t is f = absurd f
  fault_told w b bytes (Complete h) taken stop new t is f = absurd f
  fault_told w b bytes (AtFault number) taken stop new t is f =
      let came = stream_of w c in
      let byte = brings_here w b t (AtFault number) is in
      subst (λ (k : ℕ). Feeds setup (feeding c (b ∷ bytes) k stop) w new) (sym f.1)
      (subst (λ (v : World). Feeds setup (feeding c (b ∷ bytes) 1 stop) w v) (sym f.3)
      (to_feed setup c w (b ∷ bytes) 1 stop (byte_taken w c b) (record {
        within = omega arith;
        sound = below (λ n. (setup.codec.scan (came ++ take n (b ∷ bytes))).fault ≡ None) 0
            (ap (λ (s : List ℕ). (setup.codec.scan s).fault) (append-nil came) ∙ sound_here w t) (λ n l. absurd (omega (arith, l)));
        heard = [];
        complete = byte.1 ∙ sym (append-nil (setup.codec.scan came).served);
        hears = refl;
        stops = subst (λ (o : Option ℕ). StopsAt setup (byte_taken w c b) (halt (came ++ b ∷ []) bytes stop) o) (sym byte.0) (f.2, f.0);
      })))

  -- the connection goes on taking input
  goes_on : (w : World) (b : ℕ) (r : Reached) (middle : World) → IsTaking setup w c → reached setup w c b ≡ r → Takes setup w c b r middle
      → IsTaking setup middle c
  goes_on w b Further middle t is takes = subst (λ (v : World). IsTaking setup v c) (sym takes)
      (taking_byte setup w c b t (brings setup w c b t Further scan is).0)
  goes_on w b (Complete h) middle t is takes =
      subst (λ (v : World). IsTaking setup v c) (sym takes.1.2)
      (taking_heard setup w c b t (brings setup w c b t (Complete h) scan is).0 (length (setup.codec.scan (stream_of w c)).served) h takes.1.0)
  goes_on w b (AtFault number) middle t is takes = absurd takes

  -- the world of a byte that completes a record
  heard_more : (w : World) (b number : ℕ) (bytes : List ℕ) (h : Heard) (starved : Bool)
      → bytes_taken (heard_in setup (byte_taken w c b) c number h starved) c bytes ≡ heard_in setup (bytes_taken w c (b ∷ bytes)) c number h starved
  heard_more w b number bytes h starved =
      sym (heard_taken setup (byte_taken w c b) c number bytes h starved)
      ∙ ap (λ (v : World). heard_in setup v c number h starved) (taken_more w c (b ∷ []) bytes)

  stream_more : (w : World) (b number : ℕ) (t : IsTaking setup w c) (h : Heard) (starved : Bool)
      → stream_of (heard_in setup (byte_taken w c b) c number h starved) c ≡ stream_of w c ++ b ∷ []
  stream_more w b number t h starved = stream_heard setup (byte_taken w c b) c number h starved ∙ stream_byte setup w c b t

  one_more : (old new : List Heard) (h : Heard) → new ≡ old ++ h ∷ [] → length new ≡ length old + 1
  one_more old new h e = ap (λ (hs : List Heard). length hs) e ∙ length-append old (h ∷ [])

  more_told : (w middle : World) (b : ℕ) (bytes : List ℕ) (r : Reached) (rest stop : ℕ) (new : World) → IsTaking setup w c → reached setup w c b ≡ r
      → Takes setup w c b r middle
      → Feeds setup (feeding c bytes rest stop) middle new → From setup c w (stream_of w c) (b ∷ bytes) (suc rest) stop new
  more_told w middle b bytes Further rest stop new t is takes feeds =
      let came = stream_of w c in
      let byte = brings_here w b t Further is in
      let f : From setup c (byte_taken w c b) (came ++ b ∷ []) bytes rest stop new =
      subst (λ (s : List ℕ). From setup c (byte_taken w c b) s bytes rest stop new) (stream_byte setup w c b t)
      (of_feed setup c (byte_taken w c b) bytes rest stop new (subst (λ (v : World). Feeds setup (feeding c bytes rest stop) v new) takes feeds)) in
      from_more setup c w (byte_taken w c b) came b bytes rest stop new [] (sound_here w t) (byte.1 ∙ sym (append-nil (setup.codec.scan came).served)) f
      (subst (λ (k : ℕ). Hears setup c (bytes_taken w c (b ∷ take rest bytes)) k f.heard new) (ap (λ (hs : List Heard). length hs) byte.1)
      (subst (λ (v : World). Hears setup c v (length (setup.codec.scan (came ++ b ∷ [])).served) f.heard new)
      (taken_more w c (b ∷ []) (take rest bytes)) f.hears))
  more_told w middle b bytes (Complete h) rest stop new t is takes feeds =
      let came = stream_of w c in
      let number = length (setup.codec.scan came).served in
      let starved = takes.1.0 in
      let byte = brings_here w b t (Complete h) is in
      let after = heard_in setup (byte_taken w c b) c number h starved in
      let f : From setup c after (came ++ b ∷ []) bytes rest stop new =
      subst (λ (s : List ℕ). From setup c after s bytes rest stop new) (stream_more w b number t h starved)
      (of_feed setup c after bytes rest stop new (subst (λ (v : World). Feeds setup (feeding c bytes rest stop) v new) takes.1.2 feeds)) in
      from_more setup c w after came b bytes rest stop new (h ∷ []) (sound_here w t) byte.1 f (
        takes.0,
        (
          starved,
          takes.1.1,
          subst (λ (k : ℕ). Hears setup c (heard_in setup (bytes_taken w c (b ∷ take rest bytes)) c number h starved) k f.heard new)
              (one_more (setup.codec.scan came).served (setup.codec.scan (came ++ b ∷ [])).served h byte.1)
              (subst (λ (v : World). Hears setup c v (length (setup.codec.scan (came ++ b ∷ [])).served) f.heard new)
              (heard_more w b number (take rest bytes) h starved) f.hears),
        ),
      )
  more_told w middle b bytes (AtFault number) rest stop new t is takes feeds = absurd takes

  feed_walked : (bytes : List ℕ) (w : World) (taken stop : ℕ) (new : World) → IsTaking setup w c → Walks setup (feeding c bytes taken stop) w new
      → Feeds setup (feeding c bytes taken stop) w new
  feed_walked [] w taken stop new t walk =
      subst (λ (k : ℕ). Feeds setup (feeding c [] k stop) w new) (sym walk.0)
      (subst (λ (v : World). Feeds setup (feeding c [] 0 stop) w v) (sym walk.2)
      (to_feed setup c w [] 0 stop w (from_none setup c w (stream_of w c) [] stop (sound_here w t) (inl (walk.1, refl)))))
  feed_walked (b ∷ bytes) w taken stop new t (inl s) = stop_told w b bytes taken stop new t s
  feed_walked (b ∷ bytes) w taken stop new t (inr (inl f)) = fault_told w b bytes (reached setup w c b) taken stop new t refl f
  feed_walked (b ∷ bytes) w taken stop new t (inr (inr m)) =
      let count : taken ≡ suc m.1 = omega (arith, m.2) in
      subst (λ (k : ℕ). Feeds setup (feeding c (b ∷ bytes) k stop) w new) (sym count)
      (to_feed setup c w (b ∷ bytes) (suc m.1) stop new
      (more_told w m.0 b bytes (reached setup w c b) m.1 stop new t refl m.3
      (feed_walked bytes m.0 m.1 stop new (goes_on w b (reached setup w c b) m.0 t refl m.3) m.4)))

  -- ---- to the walk

  -- bytes that reach no fault but at their end add records
  grown : (k : ℕ) (came bytes : List ℕ) → ((n : ℕ) → n < k → (setup.codec.scan (came ++ take n bytes)).fault ≡ None)
      → (more : List Heard) × ((setup.codec.scan (came ++ take k bytes)).served ≡ (setup.codec.scan came).served ++ more)
  grown zero came bytes sound = ([], ap (λ (s : List ℕ). (setup.codec.scan s).served) (append-nil came) ∙ sym (append-nil (setup.codec.scan came).served))
  grown (suc k) came [] sound = ([], ap (λ (s : List ℕ). (setup.codec.scan s).served) (append-nil came) ∙ sym (append-nil (setup.codec.scan came).served))
  grown (suc k) came (b ∷ bytes) sound =
      let now : (setup.codec.scan came).fault ≡ None = ap (λ (s : List ℕ). (setup.codec.scan s).fault) (sym (append-nil came)) ∙ sound 0 (omega arith) in
      let one = scan.further came b now in
      let later = grown k (came ++ b ∷ []) bytes (λ n l. ap (λ (s : List ℕ). (setup.codec.scan s).fault) (one_byte came b (take n bytes))
      ∙ sound (suc n) (omega (arith, l))) in (
        one.0 ++ later.0,
        ap (λ (s : List ℕ). (setup.codec.scan s).served) (sym (one_byte came b (take k bytes))) ∙ later.1 ∙ ap (λ (hs : List Heard). hs ++ later.0) one.1
            ∙ append_assoc (setup.codec.scan came).served one.0 later.0,
      )

  -- the records of a byte and of the others
  heard_split : (w : World) (b : ℕ) (bytes : List ℕ) (rest stop : ℕ) (new : World) (first : List Heard)
      → (setup.codec.scan (stream_of w c ++ b ∷ [])).served ≡ (setup.codec.scan (stream_of w c)).served ++ first
      → (f : From setup c w (stream_of w c) (b ∷ bytes) (suc rest) stop new) → (more : List Heard) × (f.heard ≡ first ++ more)
  heard_split w b bytes rest stop new first one f =
      let came = stream_of w c in
      let later = grown rest (came ++ b ∷ []) bytes (λ n l. ap (λ (s : List ℕ). (setup.codec.scan s).fault) (one_byte came b (take n bytes))
      ∙ f.sound (suc n) (omega (arith, l))) in (
        later.0,
        same_after (setup.codec.scan came).served f.heard (first ++ later.0)
            (sym f.complete ∙ ap (λ (s : List ℕ). (setup.codec.scan s).served) (sym (one_byte came b (take rest bytes))) ∙ later.1
            ∙ ap (λ (hs : List Heard). hs ++ later.0) one
            ∙ append_assoc (setup.codec.scan came).served first later.0),
      )

  no_place : (b : Bool) → IsTrue (b && false) → ⊥
  no_place true p = cc
  no_place false p = cc

  none_left : (w : World) (came : List ℕ) (stop : ℕ) → StopsSound setup w (halt came [] stop) → stop ≡ 0
  none_left w came stop (inl p) = p.0
  none_left w came stop (inr (inl p)) = absurd (no_place (is_crowded w) p.1)
  none_left w came stop (inr (inr p)) = absurd (p.1 refl)

  stops_before : (w : World) (b : ℕ) (bytes : List ℕ) (stop : ℕ) (new : World) → new ≡ w → StopsSound setup w (halt (stream_of w c) (b ∷ bytes) stop)
      → Stops w (reached setup w c b) 0 stop new
  stops_before w b bytes stop new same (inl p) = let e : b ∷ bytes ≡ [] = p.1 in absurd cc
  stops_before w b bytes stop new same (inr (inl p)) =
      (refl, same, inl (p.0, subst (λ (d : Bool). IsTrue d) (sym (ap (λ (d : Bool). is_crowded w && d) (next_is setup w c b bytes))) p.1))
  stops_before w b bytes stop new same (inr (inr p)) = (refl, same, inr (p.0, ap (λ (d : Bool). is_crowded w && d) (next_is setup w c b bytes) ∙ p.2))

  stops_at : (w : World) (b : ℕ) (bytes : List ℕ) (number rest stop : ℕ) (new : World) (t : IsTaking setup w c) → reached setup w c b ≡ AtFault number
      → From setup c w (stream_of w c) (b ∷ bytes) (suc rest) stop new → TakesFault w c b (AtFault number) (suc rest) stop new
  stops_at w b bytes number (suc rest) stop new t is f =
      let byte = brings_here w b t (AtFault number) is in
      let e : Some number ≡ None = sym byte.0 ∙ f.sound 1 (omega arith) in absurd cc
  stops_at w b bytes number zero stop new t is f =
      let came = stream_of w c in
      let byte = brings_here w b t (AtFault number) is in
      let none : f.heard ≡ [] = no_more (setup.codec.scan came).served f.heard (sym byte.1 ∙ f.complete) in
      let same : new ≡ byte_taken w c b = subst
      (λ (hs : List Heard). Hears setup c (byte_taken w c b) (length (setup.codec.scan came).served) hs new) none f.hears in
      let stops : StopsAt setup (byte_taken w c b) (halt (came ++ b ∷ []) bytes stop) (Some number) =
      subst (λ (v : World). StopsAt setup v (halt (came ++ b ∷ []) bytes stop) (Some number)) same
      (subst (λ (o : Option ℕ). StopsAt setup new (halt (came ++ b ∷ []) bytes stop) o) byte.0 f.stops) in
      (stops.1, refl, stops.0, same)

  -- a byte is taken, and the rest is fed
  record Goes (w : World) (b : ℕ) (bytes : List ℕ) (rest stop : ℕ) (new : World) : Type 0 where
    middle : World
    takes : Takes setup w c b (reached setup w c b) middle
    taking : IsTaking setup middle c
    feeds : From setup c middle (stream_of middle c) bytes rest stop new

  goes_further : (w : World) (b : ℕ) (bytes : List ℕ) (rest stop : ℕ) (new : World) → IsTaking setup w c → reached setup w c b ≡ Further
      → From setup c w (stream_of w c) (b ∷ bytes) (suc rest) stop new → Goes w b bytes rest stop new
  goes_further w b bytes rest stop new t is f =
      let came = stream_of w c in
      let byte = brings_here w b t Further is in
      let takes : Takes setup w c b (reached setup w c b) (byte_taken w c b) = subst (λ (r : Reached). Takes setup w c b r (byte_taken w c b)) (sym is) refl in
      let feeds : From setup c (byte_taken w c b) (came ++ b ∷ []) bytes rest stop new =
      more_from setup c w (byte_taken w c b) came b bytes rest stop new [] f.heard (byte.1 ∙ sym (append-nil (setup.codec.scan came).served)) f refl
      (subst (λ (k : ℕ). Hears setup c (bytes_taken (byte_taken w c b) c (take rest bytes)) k f.heard new) (sym (ap (λ (hs : List Heard). length hs) byte.1))
      (subst (λ (v : World). Hears setup c v (length (setup.codec.scan came).served) f.heard new) (sym (taken_more w c (b ∷ []) (take rest bytes))) f.hears)) in
      record {
        middle = byte_taken w c b;
        takes = takes;
        taking = goes_on w b (reached setup w c b) (byte_taken w c b) t refl takes;
        feeds = subst (λ (s : List ℕ). From setup c (byte_taken w c b) s bytes rest stop new) (sym (stream_byte setup w c b t)) feeds;
      }

  goes_heard : (w : World) (b : ℕ) (bytes : List ℕ) (h : Heard) (rest stop : ℕ) (new : World) → IsTaking setup w c → reached setup w c b ≡ Complete h
      → From setup c w (stream_of w c) (b ∷ bytes) (suc rest) stop new → Goes w b bytes rest stop new
  goes_heard w b bytes h rest stop new t is f =
      let came = stream_of w c in
      let number = length (setup.codec.scan came).served in
      let byte = brings_here w b t (Complete h) is in
      let split = heard_split w b bytes rest stop new (h ∷ []) byte.1 f in
      let hears : Hears setup c (bytes_taken w c (b ∷ take rest bytes)) number (h ∷ split.0) new =
      subst (λ (hs : List Heard). Hears setup c (bytes_taken w c (b ∷ take rest bytes)) number hs new) split.1 f.hears in
      let starved = hears.1.0 in
      let after = heard_in setup (byte_taken w c b) c number h starved in
      let takes : Takes setup w c b (reached setup w c b) after = subst (λ (r : Reached). Takes setup w c b r after) (sym is)
      (hears.0, (starved, hears.1.1, refl)) in
      let feeds : From setup c after (came ++ b ∷ []) bytes rest stop new =
      more_from setup c w after came b bytes rest stop new (h ∷ []) split.0 byte.1 f split.1
      (subst (λ (k : ℕ). Hears setup c (bytes_taken after c (take rest bytes)) k split.0 new)
      (sym (one_more (setup.codec.scan came).served (setup.codec.scan (came ++ b ∷ [])).served h byte.1))
      (subst (λ (v : World). Hears setup c v (number + 1) split.0 new) (sym (heard_more w b number (take rest bytes) h starved)) hears.1.2)) in
      record {
        middle = after;
        takes = takes;
        taking = goes_on w b (reached setup w c b) after t refl takes;
        feeds = subst (λ (s : List ℕ). From setup c after s bytes rest stop new) (sym (stream_more w b number t h starved)) feeds;
      }

  -- by what the byte reached
  steps : (w : World) (b : ℕ) (bytes : List ℕ) (r : Reached) (rest stop : ℕ) (new : World) → IsTaking setup w c → reached setup w c b ≡ r
      → From setup c w (stream_of w c) (b ∷ bytes) (suc rest) stop new
      → TakesFault w c b (reached setup w c b) (suc rest) stop new ⊎ Goes w b bytes rest stop new
  steps w b bytes Further rest stop new t is f = inr (goes_further w b bytes rest stop new t is f)
  steps w b bytes (Complete h) rest stop new t is f = inr (goes_heard w b bytes h rest stop new t is f)
  steps w b bytes (AtFault number) rest stop new t is f = inl
      (subst (λ (r : Reached). TakesFault w c b r (suc rest) stop new) (sym is) (stops_at w b bytes number rest stop new t is f))

  walk_fed : (bytes : List ℕ) (w : World) (taken stop : ℕ) (new : World) → IsTaking setup w c → From setup c w (stream_of w c) bytes taken stop new
      → Walks setup (feeding c bytes taken stop) w new
  walk_fed [] w (suc taken) stop new t f = let l = f.within in absurd (omega (arith, l))
  walk_fed [] w zero stop new t f =
      let none = none_from setup c w (stream_of w c) [] stop (sound_here w t) new f in
      (refl, none_left w (stream_of w c) stop none.1, none.0)
  walk_fed (b ∷ bytes) w zero stop new t f =
      let none = none_from setup c w (stream_of w c) (b ∷ bytes) stop (sound_here w t) new f in
      inl (stops_before w b bytes stop new none.0 none.1)
  walk_fed (b ∷ bytes) w (suc rest) stop new t f =
      elim (steps w b bytes (reached setup w c b) rest stop new t refl f) [
        | inl fault ↦ inr (inl fault)
        | inr goes ↦ inr (inr (goes.middle, rest, omega arith, goes.takes, walk_fed bytes goes.middle rest stop new goes.taking goes.feeds))
      ]

-- ---- both

module _ (setup : Setup) (w : World) (c : ℕ) (bytes : List ℕ) (taken stop : ℕ) (new : World) (scan : IsScan setup.codec)
    (takes : takes_input setup (slice_get w.connections c) ≡ true) where
  pub walk_of_feed : Feeds setup (feeding c bytes taken stop) w new → Walks setup (feeding c bytes taken stop) w new
  walk_of_feed f = walk_fed setup scan c bytes w taken stop new (taking setup w c takes) (of_feed setup c w bytes taken stop new f)

  pub feed_of_walk : Walks setup (feeding c bytes taken stop) w new → Feeds setup (feeding c bytes taken stop) w new
  feed_of_walk walk = feed_walked setup scan c bytes w taken stop new (taking setup w c takes) walk
