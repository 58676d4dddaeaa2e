-- Records that are given on, part after part.
use Rattle.std.proofs.Common.{◌≡◌, ◌<◌, ◌≤◌, ◌+◌, true, ◌-◌, ℕ, List, [], ◌∷◌, ◌++◌, length, length-append, length-drop, take, drop}
use Rattle.std.proofs.Common.{Option, Some, None, Result, Ok, Err, refl, sym, ap, subst, ◌∙◌, take-append-drop, arith}
use Rattle.std.proofs.lemmas.List.{take_all}
use Rattle.std.proofs.Math.Seq.{take-add}
use Rattle.rpc_record.specs.Machine.{State, start}
use Rattle.rpc_record.specs.Records.{BeginsWith, fragment, header}
use Rattle.nfs_model.specs.Tree.{Layout}
use Rattle.nfs_model.specs.World.{Heard}
use Rattle.rpc_msg.specs.declared.offer.Offer.{Offer}
use Rattle.engine_feed.specs.Codec.{heard}
use Rattle.tcp_front.specs.declared.peer.Peer.{Peer}
use Rattle.tcp_front.specs.declared.stream.Stream.{Stream}
use Rattle.tcp_front.specs.declared.stream.Stopped.{Stopped}
use Rattle.tcp_front.specs.declared.stream.Stopped.TheVariants as stops
use Rattle.tcp_front.specs.declared.next_record.Next.TheVariants as nexts
use Rattle.tcp_front.specs.Arrivals.{Arrival, arrivals, arrival_of, most_records}
use Rattle.tcp_front.specs.Peers.{Sender, sender_of}
use Rattle.tcp_front.specs.Steps.{Adds, Brings, BringsRecord, Comes, HasGiven, HasGivenRecord, HasTaken, IsSameLine, StopsAs}
use Rattle.tcp_front.proofs.Adding.{Reads, adds-more, adds-nothing, brings-first, brings-longer, brings-more, comes-record, first-longer, first-more}

-- ---- what records come to, one after another

arrivals-append : (layout : Layout) (connection : ℕ) (p : Sender) (number : ℕ) (hs ks : List Heard)
    → arrivals layout connection p number (hs ++ ks)
    ≡ arrivals layout connection p number hs ++ arrivals layout connection p (number + length hs) ks
arrivals-append layout connection p number [] ks = ap (λ (n : ℕ). arrivals layout connection p n ks) (omega arith)
arrivals-append layout connection p number (h ∷ hs) ks =
    ap (λ (l : List Arrival). arrival_of layout connection p number h ∷ l)
    (arrivals-append layout connection p (number + 1) hs ks
    ∙ ap (λ (n : ℕ). arrivals layout connection p (number + 1) hs ++ arrivals layout connection p n ks) (omega arith))

-- what comes after what came, as a sink's law has it
abbrev pub ComesMore : {S : Type 0} → (S → List Arrival → S → Type 0) → Type 0
ComesMore {S} came = (s t u : S) (xs ys : List Arrival) → came s xs t → came t ys u → came s (xs ++ ys) u

-- ---- where bytes stop

stops-longer : (offer : Offer) (s s' : Stream) (bytes rest : List ℕ) (hs : List Heard) (stopped : Stopped) → StopsAs offer s bytes hs (Some stopped) s'
    → StopsAs offer s (bytes ++ rest) hs (Some stopped) s'
stops-longer offer s s' bytes rest hs (stops.Fault fault) h = brings-longer offer s.reassembler bytes rest hs _ h
stops-longer offer s s' bytes rest hs stops.NoMemory h = first-longer offer s.reassembler bytes rest hs h
stops-longer offer s s' bytes rest hs stops.NumbersUsed h = (first-longer offer s.reassembler bytes rest hs h.0, h.1)

stops-more : (offer : Offer) (s t s' : Stream) (xs ys : List ℕ) (hs ks : List Heard) (stopped : Option Stopped)
    → Adds offer s.reassembler xs hs t.reassembler
    → StopsAs offer t ys ks stopped s' → StopsAs offer s (xs ++ ys) (hs ++ ks) stopped s'
stops-more offer s t s' xs ys hs ks None a h = (adds-more offer s.reassembler t.reassembler xs ys hs a ks s'.reassembler h.0, h.1)
stops-more offer s t s' xs ys hs ks (Some (stops.Fault fault)) a h = brings-more offer s.reassembler t.reassembler xs ys hs a ks _ h
stops-more offer s t s' xs ys hs ks (Some stops.NoMemory) a h = first-more offer s.reassembler t.reassembler xs ys hs a ks h
stops-more offer s t s' xs ys hs ks (Some stops.NumbersUsed) a h = (first-more offer s.reassembler t.reassembler xs ys hs a ks h.0, h.1)

-- ---- taking

module _ {S : Type 0} (came : S → List Arrival → S → Type 0) (layout : Layout) (offer : Offer) where
  -- no bytes
  pub taken-none : (s : Stream) (sink : S) → came sink [] sink → s.records < most_records
      → HasTaken came layout offer s sink [] None s sink
  taken-none s sink none few = record {
    heard = [];
    given = none;
    count = omega arith;
    same = (refl, refl);
    stops = (adds-nothing offer s.reassembler, few);
  }

  -- bytes after those that were taken
  pub taken-more : ComesMore came → (s t s' : Stream) (sink mid sink' : S) (xs ys : List ℕ) (stopped : Option Stopped)
      → HasTaken came layout offer s sink xs None t mid → HasTaken came layout offer t mid ys stopped s' sink'
      → HasTaken came layout offer s sink (xs ++ ys) stopped s' sink'
  taken-more law s t s' sink mid sink' xs ys stopped f g =
      let c = s.connection.0 in
      let p = sender_of s.peer in
      let at : arrivals layout t.connection.0 (sender_of t.peer) t.records g.heard ≡ arrivals layout c p (s.records + length f.heard) g.heard =
      ap (λ k. arrivals layout k.0 (sender_of t.peer) t.records g.heard) f.same.0
      ∙ ap (λ (q : Peer). arrivals layout c (sender_of q) t.records g.heard) f.same.1
      ∙ ap (λ (n : ℕ). arrivals layout c p n g.heard) f.count in
      let joined = sym (arrivals-append layout c p s.records f.heard g.heard) in
      let both = length-append f.heard g.heard in
      let first = f.count in
      let second = g.count in
      record {
        heard = f.heard ++ g.heard;
        given = subst (λ (l : List Arrival). came sink l sink') joined
            (law sink mid sink' _ _ f.given (subst (λ (l : List Arrival). came mid l sink') at g.given));
        count = omega (arith, both, first, second);
        same = (g.same.0 ∙ f.same.0, g.same.1 ∙ f.same.1);
        stops = stops-more offer s t s' xs ys f.heard g.heard stopped f.stops.0 g.stops;
      }

  -- the bytes behind a stop
  taken-longer : (s s' : Stream) (sink sink' : S) (bytes rest : List ℕ) (stopped : Stopped)
      → HasTaken came layout offer s sink bytes (Some stopped) s' sink'
      → HasTaken came layout offer s sink (bytes ++ rest) (Some stopped) s' sink'
  taken-longer s s' sink sink' bytes rest stopped h = record {
    heard = h.heard;
    given = h.given;
    count = h.count;
    same = h.same;
    stops = stops-longer offer s s' bytes rest h.heard stopped h.stops;
  }

  -- bytes that make no record whole
  pub taken-part : (s s' : Stream) (sink : S) (bytes : List ℕ) → came sink [] sink → Adds offer s.reassembler bytes [] s'.reassembler
      → IsSameLine s s' → s'.records ≡ s.records → s.records < most_records
      → HasTaken came layout offer s sink bytes None s' sink
  taken-part s s' sink bytes none a c r few =
      record { heard = []; given = none; count = omega (arith, r); same = c; stops = (a, omega (arith, r, few)) }

  -- bytes at which it stopped before a record was whole
  pub taken-stopped : (s s' : Stream) (sink : S) (bytes : List ℕ) (taken : ℕ) (at : Option State) (stopped : Stopped) → came sink [] sink
      → Comes offer s.reassembler bytes taken (nexts.Stopped stopped) at → IsSameLine s s' → s'.records ≡ s.records
      → HasTaken came layout offer s sink (take taken bytes) (Some stopped) s' sink
  taken-stopped s s' sink bytes taken at (stops.Fault fault) none h c r =
      record { heard = []; given = none; count = omega (arith, r); same = c; stops = h }
  taken-stopped s s' sink bytes taken at stops.NoMemory none h c r =
      record { heard = []; given = none; count = omega (arith, r); same = c; stops = h }
  taken-stopped s s' sink bytes taken at stops.NumbersUsed none h c r = absurd h

  -- a record that is whole and is given on
  taken-record : (s t s' : Stream) (sink sink' : S) (bytes : List ℕ) (h : Heard) (stopped : Option Stopped)
      → Adds offer s.reassembler bytes (h ∷ []) t.reassembler → IsSameLine s t → t.records ≡ s.records
      → HasGiven came layout t sink h stopped s' sink' → HasTaken came layout offer s sink bytes stopped s' sink'
  taken-record s t s' sink sink' bytes h None a c r g =
      let count = ap (λ (x : Stream). x.records) g.1 in
      let few = g.2 in
      record {
        heard = h ∷ [];
        given = subst (λ (l : List Arrival). came sink l sink')
            (ap (λ k. arrival_of layout k.0 (sender_of t.peer) t.records h ∷ []) c.0
            ∙ ap (λ (p : Peer). arrival_of layout s.connection.0 (sender_of p) t.records h ∷ []) c.1
            ∙ ap (λ (n : ℕ). arrival_of layout s.connection.0 (sender_of s.peer) n h ∷ []) r) g.0;
        count = omega (arith, count, r);
        same = (ap (λ (x : Stream). x.connection) g.1 ∙ c.0, ap (λ (x : Stream). x.peer) g.1 ∙ c.1);
        stops = (
          subst (λ (x : Option State). Adds offer s.reassembler bytes (h ∷ []) x) (sym (ap (λ
              (x : Stream). x.reassembler) g.1)) a,
          omega (arith, count, few),
        );
      }
  taken-record s t s' sink sink' bytes h (Some (stops.Fault fault)) a c r g = absurd g
  taken-record s t s' sink sink' bytes h (Some stops.NoMemory) a c r g =
      let count = ap (λ (x : Stream). x.records) g.1 in
      record {
        heard = [];
        given = g.0;
        count = omega (arith, count, r);
        same = (ap (λ (x : Stream). x.connection) g.1 ∙ c.0, ap (λ (x : Stream). x.peer) g.1 ∙ c.1);
        stops = brings-first offer s.reassembler t.reassembler bytes [] (h ∷ []) a;
      }
  taken-record s t s' sink sink' bytes h (Some stops.NumbersUsed) a c r g =
      let count = ap (λ (x : Stream). x.records) g.1 in
      let all = g.2 in
      record {
        heard = h ∷ [];
        given = subst (λ (l : List Arrival). came sink l sink')
            (ap (λ k. arrival_of layout k.0 (sender_of t.peer) t.records h ∷ []) c.0
            ∙ ap (λ (p : Peer). arrival_of layout s.connection.0 (sender_of p) t.records h ∷ []) c.1
            ∙ ap (λ (n : ℕ). arrival_of layout s.connection.0 (sender_of s.peer) n h ∷ []) r) g.0;
        count = omega (arith, count, r);
        same = (ap (λ (x : Stream). x.connection) g.1 ∙ c.0, ap (λ (x : Stream). x.peer) g.1 ∙ c.1);
        stops = (brings-first offer s.reassembler t.reassembler bytes (h ∷ []) [] a, omega (arith, count, all));
      }

  -- a whole record
  pub taken-whole : (s t s' : Stream) (sink sink' : S) (bytes : List ℕ) (r : Result Heard ℕ) (stopped : Option Stopped)
      → BringsRecord offer s.reassembler bytes r t.reassembler → IsSameLine s t → t.records ≡ s.records
      → HasGivenRecord came layout t sink r stopped s' sink' → HasTaken came layout offer s sink bytes stopped s' sink'
  taken-whole s t s' sink sink' bytes (Ok h) stopped brings c r g = taken-record s t s' sink sink' bytes h stopped brings c r g
  taken-whole s t s' sink sink' bytes (Err n) None brings c r g = absurd g.0
  taken-whole s t s' sink sink' bytes (Err n) (Some (stops.Fault fault)) brings c r g =
      let count = ap (λ (x : Stream). x.records) g.2 in
      record {
        heard = [];
        given = g.1;
        count = omega (arith, count, r);
        same = (ap (λ (x : Stream). x.connection) g.2 ∙ c.0, ap (λ (x : Stream). x.peer) g.2 ∙ c.1);
        stops = subst (λ (k : ℕ). Brings offer s.reassembler bytes [] (Some k)) (sym g.0) brings;
      }
  taken-whole s t s' sink sink' bytes (Err n) (Some stops.NoMemory) brings c r g = absurd g.0
  taken-whole s t s' sink sink' bytes (Err n) (Some stops.NumbersUsed) brings c r g = absurd g.0

  -- a whole record that lay in the bytes
  pub taken-there : (s s' : Stream) (sink sink' : S) (bytes made : List ℕ) (stopped : Option Stopped)
      → Reads s.reassembler bytes (made ∷ []) s.reassembler → s.reassembler ≡ Some start
      → HasGivenRecord came layout s sink (heard offer made) stopped s' sink' → HasTaken came layout offer s sink bytes stopped s' sink'
  taken-there s s' sink sink' bytes made stopped reads is g =
      taken-whole s s s' sink sink' bytes (heard offer made) stopped
      (comes-record offer s.reassembler s.reassembler bytes made reads is (heard offer made) refl) (refl, refl) refl g

-- ---- bytes of a slice

-- a record that they begin with, and its header
pub record-within : (made bytes : List ℕ) → BeginsWith made bytes → 4 + length made ≤ length bytes
record-within made bytes begins =
    let size : length bytes ≡ length (fragment true made ++ begins.1.0) = ap (λ (l : List ℕ). length l) begins.1.1 in
    let parts : length (fragment true made) ≡ 4 + length made = length-append (header true (length made)) made in
    omega (arith, size, parts, length-append (fragment true made) begins.1.0)

rest-is : (xs : List ℕ) (m : ℕ) → take (length xs - m) (drop m xs) ≡ drop m xs
rest-is xs m = take_all (length xs - m) (drop m xs) (omega (arith, length-drop m xs))

-- the first m, and then n of those behind them
next-part : (xs : List ℕ) (m n : ℕ) → take m xs ++ take n (take (length xs - m) (drop m xs)) ≡ take (m + n) xs
next-part xs m n = ap (λ (l : List ℕ). take m xs ++ take n l) (rest-is xs m) ∙ sym (take-add m n xs)

module _ {S : Type 0} (came : S → List Arrival → S → Type 0) (layout : Layout) (offer : Offer) (law : ComesMore came) (s t s' : Stream)
    (sink mid sink' : S)
    (xs : List ℕ) (m n : ℕ) (before : HasTaken came layout offer s sink (take m xs) None t mid) where
  -- a part more, whatever stopped it
  pub part-taken : (stopped : Option Stopped) → HasTaken came layout offer t mid (take n (take (length xs - m) (drop m xs))) stopped s' sink'
      → HasTaken came layout offer s sink (take (m + n) xs) stopped s' sink'
  part-taken stopped h = subst (λ (l : List ℕ). HasTaken came layout offer s sink l stopped s' sink') (next-part xs m n)
      (taken-more came layout offer law s t s' sink mid sink' _ _ stopped before h)

  -- a part more
  pub next-taken : HasTaken came layout offer t mid (take n (take (length xs - m) (drop m xs))) None s' sink'
      → HasTaken came layout offer s sink (take (m + n) xs) None s' sink'
  next-taken h = subst (λ (l : List ℕ). HasTaken came layout offer s sink l None s' sink') (next-part xs m n)
      (taken-more came layout offer law s t s' sink mid sink' _ _ None before h)

  -- a part at which it stopped
  pub last-taken : (stopped : Stopped) → HasTaken came layout offer t mid (take n (take (length xs - m) (drop m xs)))
      (Some stopped) s' sink'
      → HasTaken came layout offer s sink xs (Some stopped) s' sink'
  last-taken stopped h =
      let some = subst (λ (l : List ℕ). HasTaken came layout offer s sink l (Some stopped) s' sink') (next-part xs m n)
      (taken-more came layout offer law s t s' sink mid sink' _ _ (Some stopped) before h) in
      subst (λ (l : List ℕ). HasTaken came layout offer s sink l (Some stopped) s' sink') (take-append-drop (m + n) xs)
      (taken-longer came layout offer s s' sink sink' (take (m + n) xs) (drop (m + n) xs) stopped some)
