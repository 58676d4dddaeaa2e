-- What is read of a longer stream.
use Rattle.std.proofs.Common.{◌≡◌, ℕ, suc, ◌+◌, ◌<◌, ◌≤◌, List, [], ◌∷◌, ◌++◌, length, take, refl, sym, ap, subst, ◌∙◌, arith, Option, Some, None}
use Rattle.rpc_record.specs.Machine.{State, start, Next, Goes, Ends, Faults, Outcome, More, Made, Fault, after, go, scan}
use Rattle.rpc_record.specs.Stream.{Reading, opening, reading_at, byte_read, read_on, read_stream}

-- reading goes on where it stands
read_on-append : (r : Reading) (xs ys : List ℕ) → read_on r (xs ++ ys) ≡ read_on (read_on r xs) ys
read_on-append r [] ys = refl
read_on-append r (x ∷ xs) ys = read_on-append (byte_read r.records r.at x) xs ys

-- a longer stream
read_stream-append : (xs ys : List ℕ) → read_stream (xs ++ ys) ≡ read_on (read_stream xs) ys
read_stream-append xs ys = read_on-append opening xs ys

-- one more byte
pub read_stream-push : (stream : List ℕ) (b : ℕ) → read_stream (stream ++ b ∷ []) ≡ byte_read (read_stream stream).records (read_stream stream).at b
read_stream-push stream b = read_stream-append stream (b ∷ [])

-- what a scan of bytes says of reading them
abbrev pub ReadsTo : ℕ → State → List ℕ → Outcome → Type 0
ReadsTo t s bytes (More u) = (records : List (List ℕ)) → read_on (record { records = records; at = Some s }) bytes ≡ record { records = records; at = Some u }
ReadsTo t s bytes (Made n m) =
    (k : ℕ) × (n ≡ t + k) × (0 < k) × (k ≤ length bytes) × ((records : List (List ℕ))
    → read_on (record { records = records; at = Some s }) (take k bytes) ≡ record { records = records ++ m ∷ []; at = Some start })
ReadsTo t s bytes (Fault n) =
    (k : ℕ) × (n ≡ t + k) × (0 < k) × (k ≤ length bytes) × ((records : List (List ℕ))
    → read_on (record { records = records; at = Some s }) (take k bytes) ≡ record { records = records; at = None })

-- the same, past a byte
abbrev ReadsPast : ℕ → Next → List ℕ → Outcome → Type 0
ReadsPast t next bytes (More u) = (records : List (List ℕ)) → read_on (reading_at records next) bytes ≡ record { records = records; at = Some u }
ReadsPast t next bytes (Made n m) =
    (k : ℕ) × (n ≡ t + suc k) × (k ≤ length bytes) × ((records : List (List ℕ))
    → read_on (reading_at records next) (take k bytes) ≡ record { records = records ++ m ∷ []; at = Some start })
ReadsPast t next bytes (Fault n) =
    (k : ℕ) × (n ≡ t + suc k) × (k ≤ length bytes) × ((records : List (List ℕ))
    → read_on (reading_at records next) (take k bytes) ≡ record { records = records; at = None })

-- where the byte goes on
past_goes : (t : ℕ) (s : State) (bytes : List ℕ) (o : Outcome) → ReadsTo (t + 1) s bytes o → ReadsPast t (Goes s) bytes o
past_goes t s bytes (More u) h = h
past_goes t s bytes (Made n m) h = (h.0, omega (arith, h.1), h.3, h.4)
past_goes t s bytes (Fault n) h = (h.0, omega (arith, h.1), h.3, h.4)

-- past a byte
past : (t : ℕ) (next : Next) (bytes : List ℕ) → ((s : State) → ReadsTo (t + 1) s bytes (scan (t + 1) s bytes))
    → ReadsPast t next bytes (go (t + 1) next (λ s. scan (t + 1) s bytes))
past t (Goes s) bytes f = past_goes t s bytes (scan (t + 1) s bytes) (f s)
past t (Ends m) bytes f = (0, omega arith, omega arith, λ records. refl)
past t Faults bytes f = (0, omega arith, omega arith, λ records. refl)

-- a byte and the bytes after it
with_byte : (t : ℕ) (s : State) (b : ℕ) (bytes : List ℕ) (o : Outcome) → ReadsPast t (after s b) bytes o → ReadsTo t s (b ∷ bytes) o
with_byte t s b bytes (More u) h = h
with_byte t s b bytes (Made n m) h = (suc h.0, h.1, omega arith, omega (arith, h.2), h.3)
with_byte t s b bytes (Fault n) h = (suc h.0, h.1, omega arith, omega (arith, h.2), h.3)

-- A scan of bytes and reading them agree.
pub reads_to : (t : ℕ) (s : State) (bytes : List ℕ) → ReadsTo t s bytes (scan t s bytes)
reads_to t s [] = λ records. refl
reads_to t s (b ∷ bytes) = with_byte t s b bytes (scan t s (b ∷ bytes)) (past t (after s b) bytes (λ v. reads_to (t + 1) v bytes))

-- reading on after a stream
with_stream : (stream bytes : List ℕ) (s : State) → (read_stream stream).at ≡ Some s
    → read_stream (stream ++ bytes) ≡ read_on (record { records = (read_stream stream).records; at = Some s }) bytes
with_stream stream bytes s e =
    read_stream-append stream bytes ∙ ap (λ (o : Option State). read_on (record { records = (read_stream stream).records; at = o }) bytes) e

-- a scan that goes on reads no record, and comes to no fault
pub more_read : (stream bytes : List ℕ) (s u : State) → (read_stream stream).at ≡ Some s → scan 0 s bytes ≡ More u
    → read_stream (stream ++ bytes) ≡ record { records = (read_stream stream).records; at = Some u }
more_read stream bytes s u at e =
    let reads : ReadsTo 0 s bytes (More u) = subst (ReadsTo 0 s bytes) e (reads_to 0 s bytes) in
    with_stream stream bytes s at ∙ reads (read_stream stream).records

-- a scan that makes a record reads it, and nothing else
pub made_read : (stream bytes made : List ℕ) (s : State) (n : ℕ) → (read_stream stream).at ≡ Some s → scan 0 s bytes ≡ Made n made
    → (0 < n) × (n ≤ length bytes) × (read_stream (stream ++ take n bytes) ≡ record { records = (read_stream stream).records ++ made ∷ []; at = Some start })
made_read stream bytes made s n at e =
    let reads : ReadsTo 0 s bytes (Made n made) = subst (ReadsTo 0 s bytes) e (reads_to 0 s bytes) in
    let same : reads.0 ≡ n = omega (arith, reads.1) in (
      omega (arith, reads.2),
      omega (arith, reads.3),
      ap (λ (k : ℕ). read_stream (stream ++ take k bytes)) (sym same)
          ∙ with_stream stream (take reads.0 bytes) s at ∙ reads.4 (read_stream stream).records,
    )

-- a scan that faults reads no record
pub fault_read : (stream bytes : List ℕ) (s : State) (n : ℕ) → (read_stream stream).at ≡ Some s → scan 0 s bytes ≡ Fault n
    → (0 < n) × (n ≤ length bytes) × (read_stream (stream ++ take n bytes) ≡ record { records = (read_stream stream).records; at = None })
fault_read stream bytes s n at e =
    let reads : ReadsTo 0 s bytes (Fault n) = subst (ReadsTo 0 s bytes) e (reads_to 0 s bytes) in
    let same : reads.0 ≡ n = omega (arith, reads.1) in (
      omega (arith, reads.2),
      omega (arith, reads.3),
      ap (λ (k : ℕ). read_stream (stream ++ take k bytes)) (sym same)
          ∙ with_stream stream (take reads.0 bytes) s at ∙ reads.4 (read_stream stream).records,
    )
