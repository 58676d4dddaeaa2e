-- What a byte adds to a stream that has been scanned.
use Rattle.std.proofs.Common.{◌≡◌, ℕ, List, [], ◌∷◌, ◌++◌, Option, Some, None, Result, Ok, Err, refl, sym, ap, ◌∙◌}
use Rattle.std.specs.Prelude.{map}
use Rattle.std.proofs.lemmas.List.{append-nil, map_push}
use Rattle.rpc_record.specs.Machine.{State, start, Goes, Ends, Faults, after}
use Rattle.rpc_record.specs.Stream.{Reading, reading_at, byte_read, read_on, read_stream}
use Rattle.nfs_model.specs.World.{Heard, Scanned}
use Rattle.rpc_msg.specs.declared.offer.Offer.{Offer}
use Rattle.engine_feed.specs.Codec.{heard}
use Rattle.engine_feed.specs.Streams.{fault_at, served_of, scan_stream}

read_on-append : (r : Reading) (xs ys : List ℕ) → read_on r (xs ++ ys) ≡ read_on (read_on r xs) ys
read_on-append r [] ys = refl
read_on-append r (x ∷ xs) ys = read_on-append (byte_read r.records r.at x) xs ys

pub read_stream-push : (stream : List ℕ) (b : ℕ) → read_stream (stream ++ b ∷ []) ≡ byte_read (read_stream stream).records (read_stream stream).at b
read_stream-push stream b = read_on-append _ stream (b ∷ [])

abbrev pub joined : List Heard → Scanned → Scanned
joined hs s = record { served = hs ++ s.served; fault = s.fault }

pub served_of-append : (rs others : List (Result Heard ℕ)) (fault : Option ℕ) → (served_of rs None).fault ≡ None
    → served_of (rs ++ others) fault ≡ joined (served_of rs None).served (served_of others fault)
served_of-append [] others fault e = refl
served_of-append (Ok h ∷ rs) others fault e = ap (joined (h ∷ [])) (served_of-append rs others fault e)
served_of-append (Err n ∷ rs) others fault e = absurd cc

module _ (offer : Offer) where
  abbrev scanned : Reading → Scanned
  scanned r = served_of (map (heard offer) r.records) (fault_at r.at)

  -- a stream with no fault, as far as it was scanned
  pub record IsAt (stream : List ℕ) (state : State) : Type 0 where
    pub at : (read_stream stream).at ≡ Some state
    pub sound : (scan_stream offer stream).fault ≡ None

  -- the machine after one more byte
  read-push : (stream : List ℕ) (state : State) (b : ℕ) → (read_stream stream).at ≡ Some state
      → read_stream (stream ++ b ∷ []) ≡ reading_at (read_stream stream).records (after state b)
  read-push stream state b e = read_stream-push stream b ∙ ap (λ (at : Option State). byte_read (read_stream stream).records at b) e

  -- the calls of the records so far
  scan-is : (stream : List ℕ) (state : State) → (read_stream stream).at ≡ Some state
      → scan_stream offer stream ≡ served_of (map (heard offer) (read_stream stream).records) None
  scan-is stream state e = ap (λ (at : Option State). served_of (map (heard offer) (read_stream stream).records) (fault_at at)) e

  sound_records : (stream : List ℕ) (state : State) → IsAt stream state → (served_of (map (heard offer) (read_stream stream).records) None).fault ≡ None
  sound_records stream state h = ap (λ (s : Scanned). s.fault) (sym (scan-is stream state h.at)) ∙ h.sound

  served_are : (stream : List ℕ) (state : State) (s : Scanned) → IsAt stream state
      → joined (served_of (map (heard offer) (read_stream stream).records) None).served s ≡ joined (scan_stream offer stream).served s
  served_are stream state s h = ap (λ (t : Scanned). joined t.served s) (sym (scan-is stream state h.at))

  -- a byte inside a fragment or a header
  pub scan-goes : (stream : List ℕ) (state next : State) (b : ℕ) → IsAt stream state → after state b ≡ Goes next
      → (scan_stream offer (stream ++ b ∷ []) ≡ scan_stream offer stream) × IsAt (stream ++ b ∷ []) next
  scan-goes stream state next b h e =
      let read : read_stream (stream ++ b ∷ []) ≡ record { records = (read_stream stream).records; at = Some next } = read-push stream state b h.at
      ∙ ap (reading_at (read_stream stream).records) e in
      let same : scan_stream offer (stream ++ b ∷ []) ≡ scan_stream offer stream = ap scanned read ∙ sym (scan-is stream state h.at) in
      (same, record { at = ap (λ (r : Reading). r.at) read; sound = ap (λ (s : Scanned). s.fault) same ∙ h.sound })

  -- the byte that ends a record
  pub scan-whole : (stream : List ℕ) (state : State) (b : ℕ) (made : List ℕ) → IsAt stream state → after state b ≡ Ends made
      → (scan_stream offer (stream ++ b ∷ []) ≡ joined (scan_stream offer stream).served (served_of (heard offer made ∷ []) None)) ×
      ((read_stream (stream ++ b ∷ [])).at ≡ Some (start))
  scan-whole stream state b made h e =
      let records = (read_stream stream).records in
      let read : read_stream (stream ++ b ∷ []) ≡ record { records = records ++ made ∷ []; at = Some (start) } = read-push stream state b h.at
      ∙ ap (reading_at records) e in (
        ap scanned read
            ∙ ap (λ (rs : List (Result Heard ℕ)). served_of rs None) (map_push (heard offer) records made)
            ∙ served_of-append (map (heard offer) records) (heard offer made ∷ []) None (sound_records stream state h)
            ∙ served_are stream state (served_of (heard offer made ∷ []) None) h,
        ap (λ (r : Reading). r.at) read,
      )

  -- the byte that ends a header at fault
  pub scan-faults : (stream : List ℕ) (state : State) (b : ℕ) → IsAt stream state → after state b ≡ Faults
      → (scan_stream offer (stream ++ b ∷ []) ≡ record { served = (scan_stream offer stream).served; fault = Some 11 }) ×
      ((read_stream (stream ++ b ∷ [])).at ≡ None)
  scan-faults stream state b h e =
      let records = (read_stream stream).records in
      let read : read_stream (stream ++ b ∷ []) ≡ record { records = records; at = None } = read-push stream state b h.at ∙ ap (reading_at records) e in (
        ap scanned read
            ∙ ap (λ (rs : List (Result Heard ℕ)). served_of rs (Some 11)) (sym (append-nil (map (heard offer) records)))
            ∙ served_of-append (map (heard offer) records) [] (Some 11) (sound_records stream state h)
            ∙ served_are stream state (record { served = []; fault = Some 11 }) h
            ∙ ap (λ (hs : List Heard). record { served = hs; fault = Some 11 }) (append-nil _),
        ap (λ (r : Reading). r.at) read,
      )
