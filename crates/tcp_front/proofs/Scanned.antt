-- What bytes add to a stream that was scanned.
use Rattle.std.proofs.Common.{◌≡◌, ℕ, List, [], ◌∷◌, ◌++◌, Option, Some, None, Result, Ok, Err, refl, sym, ap, ◌∙◌, append_assoc}
use Rattle.std.specs.Prelude.{map}
use Rattle.std.proofs.lemmas.List.{append-nil, map-append}
use Rattle.rpc_record.specs.Machine.{State, Next, Goes, Ends, Faults, after}
use Rattle.rpc_record.specs.Stream.{Reading, reading_at, byte_read, read_on, read_stream}
use Rattle.nfs_model.specs.World.{Heard, Scanned}
use Rattle.rpc_msg.specs.declared.offer.Offer.{Offer}
use Rattle.engine_feed.specs.Codec.{heard}
use Rattle.engine_feed.specs.Streams.{fault_at, served_of, scan_stream}

abbrev pub joined : List Heard → Scanned → Scanned
joined hs s = record { served = hs ++ s.served; fault = s.fault }

served-append : (rs others : List (Result Heard ℕ)) (fault : Option ℕ) → (served_of rs None).fault ≡ None
    → served_of (rs ++ others) fault ≡ joined (served_of rs None).served (served_of others fault)
served-append [] others fault e = refl
served-append (Ok h ∷ rs) others fault e = ap (joined (h ∷ [])) (served-append rs others fault e)
served-append (Err n ∷ rs) others fault e = absurd cc

-- after a record at fault nothing is served
served-stays : (rs others : List (Result Heard ℕ)) (fault : Option ℕ) (n : ℕ) → (served_of rs None).fault ≡ Some n
    → served_of (rs ++ others) fault ≡ served_of rs None
served-stays [] others fault n e = absurd cc
served-stays (Ok h ∷ rs) others fault n e = ap (joined (h ∷ [])) (served-stays rs others fault n e)
served-stays (Err m ∷ rs) others fault n e = refl

no-fault : (rs : List (Result Heard ℕ)) (fault : Option ℕ) → (served_of rs fault).fault ≡ None → fault ≡ None
no-fault [] fault e = e
no-fault (Ok h ∷ rs) fault e = no-fault rs fault e
no-fault (Err n ∷ rs) fault e = absurd cc

read_on-append : (r : Reading) (xs ys : List ℕ) → read_on r (xs ++ ys) ≡ read_on (read_on r xs) ys
read_on-append r [] ys = refl
read_on-append r (x ∷ xs) ys = read_on-append (byte_read r.records r.at x) xs ys

abbrev Grows : List (List ℕ) → List (List ℕ) → Type 0
Grows old new = (made : List (List ℕ)) × (new ≡ old ++ made)

next-grows : (records : List (List ℕ)) (next : Next) → Grows records (reading_at records next).records
next-grows records (Goes state) = ([], sym (append-nil records))
next-grows records (Ends made) = (made ∷ [], refl)
next-grows records Faults = ([], sym (append-nil records))

byte-grows : (records : List (List ℕ)) (at : Option State) (b : ℕ) → Grows records (byte_read records at b).records
byte-grows records None b = ([], sym (append-nil records))
byte-grows records (Some state) b = next-grows records (after state b)

grows-on : (a b c : List (List ℕ)) → Grows a b → Grows b c → Grows a c
grows-on a b c g h = (g.0 ++ h.0, h.1 ∙ ap (λ (l : List (List ℕ)). l ++ h.0) g.1 ∙ append_assoc a g.0 h.0)

read-grows : (r : Reading) (bytes : List ℕ) → Grows r.records (read_on r bytes).records
read-grows r [] = ([], sym (append-nil r.records))
read-grows r (b ∷ bytes) = grows-on _ _ _ (byte-grows r.records r.at b) (read-grows (byte_read r.records r.at b) bytes)

-- after a header at fault nothing is read
read-stays : (records : List (List ℕ)) (bytes : List ℕ)
    → read_on (record { records = records; at = None }) bytes ≡ record { records = records; at = None }
read-stays records [] = refl
read-stays records (b ∷ bytes) = read-stays records bytes

module _ (offer : Offer) where
  abbrev scanned : Reading → Scanned
  scanned r = served_of (map (heard offer) r.records) (fault_at r.at)

  -- ---- streams

  -- a stream without a fault, and bytes that make these records
  pub scan-grows : (stream bytes : List ℕ) (made : List (List ℕ)) (at : Option State) → (scan_stream offer stream).fault ≡ None
      → read_stream (stream ++ bytes) ≡ record { records = (read_stream stream).records ++ made; at = at }
      → scan_stream offer (stream ++ bytes) ≡ joined (scan_stream offer stream).served (served_of (map (heard offer) made) (fault_at at))
  scan-grows stream bytes made at sound e =
      let records = (read_stream stream).records in
      let others = served_of (map (heard offer) made) (fault_at at) in
      let same : scan_stream offer stream ≡ served_of (map (heard offer) records) None =
      ap (λ (f : Option ℕ). served_of (map (heard offer) records) f) (no-fault (map (heard offer) records) (fault_at
      (read_stream stream).at) sound) in
      ap scanned e
      ∙ ap (λ (rs : List (Result Heard ℕ)). served_of rs (fault_at at)) (map-append (heard offer) records made)
      ∙ served-append (map (heard offer) records) (map (heard offer) made) (fault_at at) (ap (λ (s : Scanned). s.fault) (sym same) ∙ sound)
      ∙ ap (λ (s : Scanned). joined s.served others) (sym same)

  -- a stream at fault, by where it stands
  stays-at : (stream rest : List ℕ) (n : ℕ) (at : Option State) → (read_stream stream).at ≡ at → (scan_stream offer stream).fault ≡ Some n
      → scan_stream offer (stream ++ rest) ≡ scan_stream offer stream
  stays-at stream rest n None e f =
      let r = read_stream stream in
      let is : r ≡ record { records = r.records; at = None } = ap (λ
      (at : Option State). record { records = r.records; at = at }) e in
      ap scanned (read_on-append _ stream rest ∙ ap (λ (x : Reading). read_on x rest) is ∙ read-stays r.records rest ∙ sym is)
  stays-at stream rest n (Some state) e f =
      let r = read_stream stream in
      let more = read-grows r rest in
      let at = (read_on r rest).at in
      let same : scan_stream offer stream ≡ served_of (map (heard offer) r.records) None = ap (λ (a : Option State). served_of
      (map (heard offer) r.records) (fault_at a)) e in
      let read : read_stream (stream ++ rest) ≡ record { records = r.records ++ more.0; at = at } =
      read_on-append _ stream rest ∙ ap (λ (rs : List (List ℕ)). record { records = rs; at = at }) more.1 in
      ap scanned read
      ∙ ap (λ (rs : List (Result Heard ℕ)). served_of rs (fault_at at)) (map-append (heard offer) r.records more.0)
      ∙ served-stays (map (heard offer) r.records) (map (heard offer) more.0) (fault_at at) n (ap (λ (s : Scanned). s.fault) (sym same) ∙ f)
      ∙ sym same

  -- a stream at fault stays so, and serves no more
  pub scan-stays : (stream rest : List ℕ) (n : ℕ) → (scan_stream offer stream).fault ≡ Some n
      → scan_stream offer (stream ++ rest) ≡ scan_stream offer stream
  scan-stays stream rest n f = stays-at stream rest n (read_stream stream).at refl f

  -- what a stream serves, one that goes on serves first
  served-first : (stream rest : List ℕ) (fault : Option ℕ) → (scan_stream offer stream).fault ≡ fault
      → (others : List Heard) × ((scan_stream offer (stream ++ rest)).served ≡ (scan_stream offer stream).served ++ others)
  served-first stream rest (Some n) f = ([], ap (λ (s : Scanned). s.served) (scan-stays stream rest n f) ∙ sym (append-nil _))
  served-first stream rest None f =
      let r = read_stream stream in
      let more = read-grows r rest in
      let at = (read_on r rest).at in
      let read : read_stream (stream ++ rest) ≡ record { records = r.records ++ more.0; at = at } =
      read_on-append _ stream rest ∙ ap (λ (rs : List (List ℕ)). record { records = rs; at = at }) more.1 in (
        (served_of (map (heard offer) more.0) (fault_at at)).served,
        ap (λ (s : Scanned). s.served)
            (scan-grows stream rest more.0 at f read),
      )

  pub scan-first : (stream rest : List ℕ) → (others : List Heard)
      × ((scan_stream offer (stream ++ rest)).served ≡ (scan_stream offer stream).served ++ others)
  scan-first stream rest = served-first stream rest (scan_stream offer stream).fault refl
