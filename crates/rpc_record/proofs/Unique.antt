-- A stream has one reading, and reading it by bytes finds it.
use Rattle.std.proofs.Common.{◌≡◌, ℕ, ◌+◌, ◌<◌, List, [], ◌∷◌, ◌++◌, length, drop, refl, sym, ap, subst, ◌∙◌, append_assoc, arith, length-append, Option}
use Rattle.std.proofs.Common.{Some, None}
use Rattle.std.proofs.lemmas.List.{append-nil}
use Rattle.std.proofs.Math.Seq.{drop-append_seam}
use Rattle.rpc_record.specs.Records.{IsRecord, HasNoRecord, HasFault, AreRecords, Records}
use Rattle.rpc_record.specs.Machine.{State, start, Next, Goes, Ends, Faults, More, Made, after, go, scan}
use Rattle.rpc_record.specs.Stream.{Reading, opening, reading_at, byte_read, read_on, read_stream, AreBytes, IsReading}
use Rattle.rpc_record.specs.Feeds.{HasCome}
use Rattle.rpc_record.proofs.Runs.{found, none_yet, no_fault_yet, no_record_at_fault}
use Rattle.rpc_record.proofs.Scans.{scan-append}
use Rattle.rpc_record.proofs.Standing.{Stands, Leads, leads}
use Rattle.rpc_record.proofs.Bytes.{AreBytes-append}
use Rattle.rpc_record.proofs.Came.{come_stands}

-- the count and the record are in the outcome
made_is : (n m : ℕ) (x y : List ℕ) → Made n x ≡ Made m y → (n ≡ m) × (x ≡ y)
made_is n m x y e = (cc, cc)

-- one record and its spelling
one_record : (stream made other spelled with_other after rest : List ℕ) → stream ≡ spelled ++ after → IsRecord made spelled → stream ≡ with_other ++ rest
    → IsRecord other with_other → (made ≡ other) × (after ≡ rest)
one_record stream made other spelled with_other after rest e r f q =
    let same = made_is (length spelled) (length with_other) made other (sym (found made spelled after r) ∙ ap (scan 0 start) (sym e ∙ f)
    ∙ found other with_other rest q) in (
      same.1,
      sym (drop-append_seam spelled after) ∙ ap (drop (length spelled)) (sym e ∙ f) ∙ ap (λ (n : ℕ). drop n (with_other ++ rest)) same.0
          ∙ drop-append_seam with_other rest,
    )

-- the same record, and the same others
one_more : (made : List ℕ) (others rests : List (List ℕ)) (other : List ℕ) → made ≡ other → others ≡ rests → made ∷ others ≡ other ∷ rests
one_more made others rests other e f = cc

-- records and what comes after them
one_reading : (a b : List (List ℕ)) (stream first second x y : List ℕ) → stream ≡ first ++ x → AreRecords a first → HasNoRecord x → stream ≡ second ++ y
    → AreRecords b second → HasNoRecord y → (a ≡ b) × (x ≡ y)
one_reading [] [] stream first second x y e r n f q m =
    (refl, ap (λ (s : List ℕ). s ++ x) (sym r) ∙ sym e ∙ f ∙ ap (λ (s : List ℕ). s ++ y) q)
one_reading [] (other ∷ others) stream first second x y e r n f q m =
    absurd (n other q.0 (q.1 ++ y) (ap (λ (s : List ℕ). s ++ x) (sym r) ∙ sym e ∙ f ∙ ap (λ (s : List ℕ). s ++ y) q.2 ∙ append_assoc q.0 q.1 y) q.3)
one_reading (made ∷ others) [] stream first second x y e r n f q m =
    absurd (m made r.0 (r.1 ++ x) (ap (λ (s : List ℕ). s ++ y) (sym q) ∙ sym f ∙ e ∙ ap (λ (s : List ℕ). s ++ x) r.2 ∙ append_assoc r.0 r.1 x) r.3)
one_reading (made ∷ others) (other ∷ rests) stream first second x y e r n f q m =
    let same = one_record stream made other r.0 q.0 (r.1 ++ x) (q.1 ++ y) (e ∙ ap (λ (s : List ℕ). s ++ x) r.2 ∙ append_assoc r.0 r.1 x) r.3 (f
    ∙ ap (λ (s : List ℕ). s ++ y) q.2 ∙ append_assoc q.0 q.1 y) q.3 in
    let rest = one_reading others rests (r.1 ++ x) r.1 q.1 x y refl r.4 n same.1 q.4 m in
    (one_more made others rests other same.0 rest.0, rest.1)

-- A stream is records and a rest in one way.
pub Records-unique : (stream : List ℕ) (a b : List (List ℕ)) (x y : List ℕ) → Records stream a x → Records stream b y → (a ≡ b) × (x ≡ y)
Records-unique stream a b x y r q =
    one_reading a b stream r.spelled q.spelled x y r.stream_is r.are_records r.none_left q.stream_is q.are_records q.none_left

-- Reading by bytes

-- where what comes after the records stands
abbrev StandsAt : List ℕ → Option State → Type 0
StandsAt rest None = HasFault rest
StandsAt rest (Some s) = HasCome rest (Some s)

-- The bytes that came are these records, and then what stands at this state.
record IsRead (came : List ℕ) (records : List (List ℕ)) (at : Option State) : Type 0 where
  spelled : List ℕ
  rest : List ℕ
  came_is : came ≡ spelled ++ rest
  are_records : AreRecords records spelled
  stands : StandsAt rest at

-- one record more
AreRecords-push : (records : List (List ℕ)) (spelled made last : List ℕ) → AreRecords records spelled → IsRecord made last
    → AreRecords (records ++ made ∷ []) (spelled ++ last)
AreRecords-push [] spelled made last e r = (last, [], ap (λ (s : List ℕ). s ++ last) e ∙ sym (append-nil last), r, refl)
AreRecords-push (m ∷ records) spelled made last h r =
    (h.0, h.1 ++ last, ap (λ (s : List ℕ). s ++ last) h.2 ∙ append_assoc h.0 h.1 last, h.3, AreRecords-push records h.1 made last h.4 r)

-- a fault stays, whatever comes after it
still_faulty : (rest more : List ℕ) → HasFault rest → HasFault (rest ++ more)
still_faulty rest more f = (f.0, f.1 ++ more, ap (λ (s : List ℕ). s ++ more) f.2 ∙ append_assoc f.0 f.1 more, f.3)

-- more after the records
came_more : (came spelled rest more : List ℕ) → came ≡ spelled ++ rest → came ++ more ≡ spelled ++ (rest ++ more)
came_more came spelled rest more e = ap (λ (s : List ℕ). s ++ more) e ∙ append_assoc spelled rest more

-- where a byte leads
next_read : (came spelled rest : List ℕ) (records : List (List ℕ)) (n : Next) → came ≡ spelled ++ rest → AreRecords records spelled → AreBytes rest
    → Leads rest n → scan 0 start rest ≡ go (length rest) n (λ s. More s)
    → IsRead came (reading_at records n).records (reading_at records n).at
next_read came spelled rest records (Goes s) e r b l f = record { spelled = spelled; rest = rest; came_is = e; are_records = r; stands = (b, f) }
next_read came spelled rest records (Ends made) e r b l f =
    record {
      spelled = spelled ++ rest;
      rest = [];
      came_is = e
          ∙ sym (append-nil (spelled ++ rest));
      are_records = AreRecords-push records spelled made rest r l;
      stands = (tt, refl);
    }
next_read came spelled rest records Faults e r b l f =
    record { spelled = spelled; rest = rest; came_is = e; are_records = r; stands = (rest, [], sym (append-nil rest), l) }

-- one more byte
byte_is_read : (came : List ℕ) (records : List (List ℕ)) (at : Option State) (b : ℕ) → b < 256 → IsRead came records at
    → IsRead (came ++ b ∷ []) (byte_read records at b).records (byte_read records at b).at
byte_is_read came records None b lt h =
    record {
      spelled = h.spelled;
      rest = h.rest ++ b ∷ [];
      came_is = came_more came h.spelled h.rest
          (b ∷ []) h.came_is;
      are_records = h.are_records;
      stands = still_faulty h.rest (b ∷ []) h.stands;
    }
byte_is_read came records (Some s) b lt h =
    let stands : Stands h.rest s = come_stands h.rest s h.stands in
    let scanned : scan 0 start (h.rest ++ b ∷ []) ≡ go (0 + length h.rest + 1) (after s b) (λ u. More u) = scan-append 0 start h.rest (b ∷ []) s h.stands.1 in
    next_read (came ++ b ∷ []) h.spelled (h.rest ++ b ∷ []) records (after s b) (came_more came h.spelled h.rest (b ∷ []) h.came_is) h.are_records
    (AreBytes-append h.rest (b ∷ []) h.stands.0 (lt, tt)) (leads h.rest s b lt stands)
    (scanned ∙ ap (λ (k : ℕ). go k (after s b) (λ u. More u)) (omega (arith, length-append h.rest (b ∷ []))))

-- more bytes
all_read : (bytes came : List ℕ) (r : Reading) → AreBytes bytes → IsRead came r.records r.at
    → IsRead (came ++ bytes) (read_on r bytes).records (read_on r bytes).at
all_read [] came r b h = subst (λ (x : List ℕ). IsRead x r.records r.at) (sym (append-nil came)) h
all_read (x ∷ bytes) came r b h =
    subst (λ (y : List ℕ). IsRead y (read_on r (x ∷ bytes)).records (read_on r (x ∷ bytes)).at) (append_assoc came (x ∷ []) bytes)
    (all_read bytes (came ++ x ∷ []) (byte_read r.records r.at x) b.1 (byte_is_read came r.records r.at x b.0 h))

-- the standard's words for it
read_is : (stream : List ℕ) (records : List (List ℕ)) (at : Option State) → IsRead stream records at → IsReading stream (record { records = records; at = at })
read_is stream records None h = (
  h.rest,
  record {
    spelled = h.spelled;
    stream_is = h.came_is;
    are_records = h.are_records;
    none_left = no_record_at_fault h.rest h.stands.0 h.stands.1
        h.stands.2 h.stands.3;
  },
  h.stands,
)
read_is stream records (Some s) h = (
  h.rest,
  record { spelled = h.spelled; stream_is = h.came_is; are_records = h.are_records; none_left = none_yet h.rest s h.stands.1 },
  no_fault_yet h.rest s h.stands.1,
)

-- Reading a stream by bytes finds its records, and stops just at a header at fault.
pub read_stream-is : (stream : List ℕ) → AreBytes stream → IsReading stream (read_stream stream)
read_stream-is stream b =
    read_is stream (read_stream stream).records (read_stream stream).at
    (all_read stream [] opening b (record { spelled = []; rest = []; came_is = refl; are_records = refl; stands = (tt, refl) }))
