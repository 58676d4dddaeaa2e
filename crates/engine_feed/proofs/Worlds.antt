-- A world that takes bytes.
use Rattle.std.proofs.Common.{◌≡◌, ℕ, ◌+◌, Bool, false, List, [], ◌∷◌, ◌++◌, length, Some, None, refl, sym, ap, subst, ◌∙◌, append_assoc, arith, inl, inr}
use Rattle.std.proofs.Common.{length-append}
use Rattle.std.specs.Prelude.{slice_get, ◌&&◌}
use Rattle.std.proofs.lemmas.List.{append-nil}
use Rattle.nfs_model.specs.World.{Heard, Scanned, Codec, Setup, World, Connection, is_crowded}
use Rattle.nfs_model.specs.Events.Feed.{feeding, stream_in, stream_of, served_count, heard_in, MayStarveIf}
use Rattle.nfs_laws.specs.Walk.{Reached, Further, Complete, AtFault, reached_by, reached, is_complete, byte_taken, Takes, TakesFault, Walks}
use Rattle.rpc_msg.specs.declared.offer.Offer.{Offer}
use Rattle.engine_feed.specs.Streams.{scan_stream, codec, IsQuiet, Completes}
use Rattle.engine_feed.specs.Feeding.{TakesAll}
use Rattle.nfs_model.specs.Events.Feed.{with_bytes, bytes_taken}
use Rattle.engine_feed.specs.lemmas.Lists.{changed_at-same, changed_at-twice, changed_at-none, slice_get-changed_at, slice_get-end, slice_get-last}

-- ---- taking in parts

pub TakesAll-append : (setup : Setup) (c : ℕ) (w middle new : World) (xs ys : List ℕ) → TakesAll setup c w xs middle → TakesAll setup c middle ys new
    → TakesAll setup c w (xs ++ ys) new
TakesAll-append setup c w middle new [] ys p q = subst (λ (v : World). TakesAll setup c v ys new) p q
TakesAll-append setup c w middle new (x ∷ xs) ys p q = (p.0, p.1, TakesAll-append setup c p.0 middle new xs ys p.2 q)

pub Walks-after : (setup : Setup) (c : ℕ) (w middle new : World) (xs ys : List ℕ) (taken stop : ℕ) → TakesAll setup c w xs middle
    → Walks setup (feeding c ys taken stop) middle new → Walks setup (feeding c (xs ++ ys) (length xs + taken) stop) w new
Walks-after setup c w middle new [] ys taken stop p q =
    subst (λ (n : ℕ). Walks setup (feeding c ys n stop) w new) (omega arith) (subst (λ (v : World). Walks setup (feeding c ys taken stop) v new) p q)
Walks-after setup c w middle new (x ∷ xs) ys taken stop p q =
    inr (inr (p.0, length xs + taken, omega arith, p.1, Walks-after setup c p.0 middle new xs ys taken stop p.2 q))

-- ---- the bytes of a connection

with_none : (x : Connection) → with_bytes [] x ≡ x
with_none x = ap (λ (s : List ℕ). record x { stream = s }) (append-nil x.stream)

pub bytes_taken-none : (w : World) (c : ℕ) → bytes_taken w c [] ≡ w
bytes_taken-none w c = ap (λ (xs : List Connection). record w { connections = xs }) (changed_at-none (with_bytes []) w.connections c with_none)

with_more : (xs ys : List ℕ) (x : Connection) → with_bytes ys (with_bytes xs x) ≡ with_bytes (xs ++ ys) x
with_more xs ys x = ap (λ (s : List ℕ). record x { stream = s }) (append_assoc x.stream xs ys)

bytes_taken-more : (w : World) (c : ℕ) (xs ys : List ℕ) → bytes_taken (bytes_taken w c xs) c ys ≡ bytes_taken w c (xs ++ ys)
bytes_taken-more w c xs ys =
    ap (λ (cs : List Connection). record w { connections = cs })
    (changed_at-twice (with_bytes xs) (with_bytes ys) w.connections c
    ∙ changed_at-same (λ x. with_bytes ys (with_bytes xs x)) (with_bytes (xs ++ ys)) w.connections c (with_more xs ys))

pub connection-taken : (w : World) (c : ℕ) (bytes : List ℕ) (x : Connection) → slice_get w.connections c ≡ Some x
    → slice_get (bytes_taken w c bytes).connections c ≡ Some (with_bytes bytes x)
connection-taken w c bytes x e = slice_get-changed_at (with_bytes bytes) w.connections c x e

stream-of : (w : World) (c : ℕ) (x : Connection) → slice_get w.connections c ≡ Some x → stream_of w c ≡ x.stream
stream-of w c x e = ap stream_in e

pub reached-quiet : (s : Scanned) → s.fault ≡ None → reached_by s (length s.served) ≡ Further
reached-quiet s e = rw (e, slice_get-end s.served) refl

reached-heard : (hs : List Heard) (h : Heard) → reached_by (record { served = hs ++ h ∷ []; fault = None }) (length hs) ≡ Complete h
reached-heard hs h = rw (slice_get-last hs h) refl

-- the world before the last byte, and after it
front_and_last : (w : World) (c : ℕ) (taken front : List ℕ) (last : ℕ) → taken ≡ front ++ last ∷ []
    → byte_taken (bytes_taken w c front) c last ≡ bytes_taken w c taken
front_and_last w c taken front last e = bytes_taken-more w c front (last ∷ []) ∙ ap (bytes_taken w c) (sym e)

module _ (offer : Offer) where
  -- ---- what a byte reaches

  abbrev reached_from : List ℕ → ℕ → Reached
  reached_from stream b = reached_by (scan_stream offer (stream ++ b ∷ [])) (length (scan_stream offer stream).served)

  served-count : (setup : Setup) (codec_is : setup.codec ≡ codec offer) (w : World) (c : ℕ) (x : Connection) → slice_get w.connections c ≡ Some x
      → served_count setup w c ≡ length (scan_stream offer x.stream).served
  served-count setup codec_is w c x e =
      ap (λ (k : Codec). length (k.scan (stream_of w c)).served) codec_is ∙ ap (λ (s : List ℕ). length (scan_stream offer s).served) (stream-of w c x e)

  pub reached-is : (setup : Setup) (codec_is : setup.codec ≡ codec offer) (w : World) (c b : ℕ) (x : Connection) (s : Scanned)
      → slice_get w.connections c ≡ Some x
      → scan_stream offer (x.stream ++ b ∷ []) ≡ s
      → reached setup w c b ≡ reached_by s (length (scan_stream offer x.stream).served)
  reached-is setup codec_is w c b x s e k =
      ap (λ (k : Codec). reached_by (k.scan (stream_of w c ++ b ∷ [])) (length (k.scan (stream_of w c)).served)) codec_is
      ∙ ap (λ (stream : List ℕ). reached_from stream b) (stream-of w c x e) ∙ ap (λ (t : Scanned). reached_by t (length (scan_stream offer x.stream).served)) k

  -- ---- bytes that complete nothing

  pub takes-quiet : (setup : Setup) (codec_is : setup.codec ≡ codec offer) (w : World) (c : ℕ) (bytes : List ℕ) (x : Connection)
      → slice_get w.connections c ≡ Some x
      → (scan_stream offer x.stream).fault ≡ None → IsQuiet offer x.stream bytes
      → TakesAll setup c w bytes (bytes_taken w c bytes)
  takes-quiet setup codec_is w c [] x e f q = bytes_taken-none w c
  takes-quiet setup codec_is w c (b ∷ bytes) x e f q =
      let further : reached setup w c b ≡ Further = reached-is setup codec_is w c b x (scan_stream offer x.stream) e q.0 ∙ reached-quiet (scan_stream offer
      x.stream) f in
      let first : Takes setup w c b (reached setup w c b) (byte_taken w c b) = subst (λ (at : Reached). Takes setup w c b at (byte_taken w c b))
      (sym further) refl in
      let y : Connection = with_bytes (b ∷ []) x in
      let there : slice_get (byte_taken w c b).connections c ≡ Some y = connection-taken w c (b ∷ []) x e in
      let sound : (scan_stream offer y.stream).fault ≡ None = ap (λ (s : Scanned). s.fault) q.0 ∙ f in (
        byte_taken w c b,
        first,
        subst (TakesAll setup c (byte_taken w c b) bytes) (bytes_taken-more w c (b ∷ []) bytes)
            (takes-quiet setup codec_is (byte_taken w c b) c bytes y there sound q.1),
      )

  -- ---- bytes whose last is_complete something

  pub quiet-scan : (stream front : List ℕ) → IsQuiet offer stream front → scan_stream offer (stream ++ front) ≡ scan_stream offer stream
  quiet-scan stream [] q = ap (scan_stream offer) (append-nil stream)
  quiet-scan stream (b ∷ front) q = ap (scan_stream offer) (sym (append_assoc stream (b ∷ []) front)) ∙ quiet-scan (stream ++ b ∷ []) front q.1 ∙ q.0

  -- a record, with whether its decoding was starved
  pub takes-heard : (setup : Setup) (codec_is : setup.codec ≡ codec offer) (w : World) (c : ℕ) (taken : List ℕ) (x : Connection) (h : Heard) (starved : Bool)
      → MayStarveIf starved h.asked → slice_get w.connections c ≡ Some x → (scan_stream offer x.stream).fault ≡ None → is_crowded w ≡ false
      → Completes offer x.stream taken (record { served = (scan_stream offer x.stream).served ++ h ∷ []; fault = None })
      → TakesAll setup c w taken
      (heard_in setup (bytes_taken w c taken) c (length (scan_stream offer x.stream).served) h starved)
  takes-heard setup codec_is w c taken x h starved may e f crowd k =
      let middle : World = bytes_taken w c k.front in
      let y : Connection = with_bytes k.front x in
      let there : slice_get middle.connections c ≡ Some y = connection-taken w c k.front x e in
      let same : scan_stream offer y.stream ≡ scan_stream offer x.stream = quiet-scan x.stream k.front k.quiet in
      let served : length (scan_stream offer y.stream).served ≡ length (scan_stream offer x.stream).served = ap (λ (s : Scanned). length s.served) same in
      let whole : scan_stream offer (y.stream ++ k.last ∷ []) ≡ record { served = (scan_stream offer x.stream).served ++ h ∷ []; fault = None } =
      ap (scan_stream offer) (append_assoc x.stream k.front (k.last ∷ []) ∙ ap (λ (s : List ℕ). x.stream ++ s) (sym k.split)) ∙ k.complete in
      let at : reached setup middle c k.last ≡ Complete h =
      reached-is setup codec_is middle c k.last y _ there whole
      ∙ ap (reached_by (record { served = (scan_stream offer x.stream).served ++ h ∷ []; fault = None })) served
      ∙ reached-heard (scan_stream offer x.stream).served h in
      let new : World = heard_in setup (bytes_taken w c taken) c (length (scan_stream offer x.stream).served) h starved in
      let is_new : new ≡ heard_in setup (byte_taken middle c k.last) c (served_count setup middle c) h starved =
      ap (λ (v : World). heard_in setup v c (length (scan_stream offer x.stream).served) h starved) (sym (front_and_last w c taken k.front k.last k.split))
      ∙ ap (λ (n : ℕ). heard_in setup (byte_taken middle c k.last) c n h starved) (sym (served-count setup codec_is middle c y there ∙ served)) in
      let last : Takes setup middle c k.last (reached setup middle c k.last) new =
      subst (λ (r : Reached). Takes setup middle c k.last r new) (sym at) (crowd, (starved, may, is_new)) in
      subst (λ (bytes : List ℕ). TakesAll setup c w bytes new) (sym k.split)
      (TakesAll-append setup c w middle new k.front (k.last ∷ []) (takes-quiet setup codec_is w c k.front x e f k.quiet) (new, last, refl))

  -- a fault
  pub feeds-fault : (setup : Setup) (codec_is : setup.codec ≡ codec offer) (w : World) (c : ℕ) (taken rest : List ℕ) (x : Connection) (number : ℕ)
      → slice_get w.connections c ≡ Some x → (scan_stream offer x.stream).fault ≡ None
      → (is_crowded w && is_complete (AtFault number)) ≡ false
      → Completes offer x.stream taken (record { served = (scan_stream offer x.stream).served; fault = Some number })
      → Walks setup (feeding c (taken ++ rest) (length taken) number) w (bytes_taken w c taken)
  feeds-fault setup codec_is w c taken rest x number e f room k =
      let middle : World = bytes_taken w c k.front in
      let y : Connection = with_bytes k.front x in
      let there : slice_get middle.connections c ≡ Some y = connection-taken w c k.front x e in
      let whole : scan_stream offer (y.stream ++ k.last ∷ []) ≡ record { served = (scan_stream offer x.stream).served; fault = Some number } =
      ap (scan_stream offer) (append_assoc x.stream k.front (k.last ∷ []) ∙ ap (λ (s : List ℕ). x.stream ++ s) (sym k.split)) ∙ k.complete in
      let at : reached setup middle c k.last ≡ AtFault number = reached-is setup codec_is middle c k.last y _ there whole in
      let last : TakesFault middle c k.last (reached setup middle c k.last) 1 number (bytes_taken w c taken) =
      subst (λ (r : Reached). TakesFault middle c k.last r 1 number (bytes_taken w c taken)) (sym at)
      (room, refl, refl, sym (front_and_last w c taken k.front k.last k.split)) in
      let fed : Walks setup (feeding c (k.front ++ (k.last ∷ rest)) (length k.front + 1) number) w (bytes_taken w c taken) =
      Walks-after setup c w middle (bytes_taken w c taken) k.front (k.last ∷ rest) 1 number (takes-quiet setup codec_is w c k.front x e f k.quiet)
      (inr (inl last)) in
      let bytes : k.front ++ (k.last ∷ rest) ≡ taken ++ rest = sym (append_assoc k.front (k.last ∷ []) rest) ∙ ap (λ (s : List ℕ). s ++ rest) (sym k.split) in
      let count : length k.front + 1 ≡ length taken = omega (arith, ap length k.split, length-append k.front (k.last ∷ [])) in
      subst (λ (n : ℕ). Walks setup (feeding c (taken ++ rest) n number) w (bytes_taken w c taken)) count
      (subst (λ (bs : List ℕ). Walks setup (feeding c bs (length k.front + 1) number) w (bytes_taken w c taken)) bytes fed)
