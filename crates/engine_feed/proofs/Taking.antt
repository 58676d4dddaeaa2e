-- Bytes that the machine scans, taken by a world.
use Rattle.std.proofs.Common.{◌≡◌, ℕ, suc, ◌+◌, ◌<◌, List, [], ◌∷◌, ◌++◌, length, take, Option, Some, None, refl, sym, ap, subst, ◌∙◌, append_assoc, arith}
use Rattle.std.proofs.lemmas.List.{append-nil}
use Rattle.rpc_record.specs.Machine.{State, start, Next, Goes, Ends, Faults, More, Made, Fault, after, go, scan}
use Rattle.rpc_record.specs.Stream.{read_stream}
use Rattle.nfs_model.specs.World.{Scanned}
use Rattle.rpc_msg.specs.declared.offer.Offer.{Offer}
use Rattle.engine_feed.specs.Codec.{heard}
use Rattle.engine_feed.specs.Streams.{served_of, scan_stream, IsQuiet, Completes}
use Rattle.engine_feed.proofs.Scanning.{IsAt, joined, scan-goes, scan-whole, scan-faults}

module _ (offer : Offer) where
  -- ---- the machine

  -- bytes that complete nothing
  pub record IsQuietTo (stream bytes : List ℕ) (state : State) : Type 0 where
    pub quiet : IsQuiet offer stream bytes
    pub to : IsAt offer (stream ++ bytes) state

  quiet_none : (stream : List ℕ) (state : State) → IsAt offer stream state → IsQuietTo stream [] state
  quiet_none stream state h = record { quiet = tt; to = subst (λ (s : List ℕ). IsAt offer s state) (sym (append-nil stream)) h }

  quiet_more : (stream bytes : List ℕ) (b : ℕ) (state next to : State) → IsAt offer stream state → after state b ≡ Goes next
      → IsQuietTo (stream ++ b ∷ []) bytes to
      → IsQuietTo stream (b ∷ bytes) to
  quiet_more stream bytes b state next to h e q = record {
    quiet = ((scan-goes offer stream state next b h e).0, q.quiet);
    to = subst (λ (s : List ℕ). IsAt offer s to) (append_assoc stream (b ∷ []) bytes) q.to;
  }

  -- the rest of a scan that goes on
  abbrev GoesOn : List ℕ → List ℕ → State → ℕ → Type 0
  GoesOn stream bytes to t = (next : State) → IsAt offer stream next → scan t next bytes ≡ More to → IsQuietTo stream bytes to

  scan-more_at : (stream bytes : List ℕ) (b : ℕ) (state to : State) (t : ℕ) (n : Next) → IsAt offer stream state → after state b ≡ n
      → GoesOn (stream ++ b ∷ []) bytes to (t + 1)
      → go (t + 1) n (λ next. scan (t + 1) next bytes) ≡ More to → IsQuietTo stream (b ∷ bytes) to
  scan-more_at stream bytes b state to t (Goes next) h a rest e =
      quiet_more stream bytes b state next to h a (rest next (scan-goes offer stream state next b h a).1 e)
  scan-more_at stream bytes b state to t (Ends made) h a rest e = absurd cc
  scan-more_at stream bytes b state to t Faults h a rest e = absurd cc

  pub scan-more : (stream bytes : List ℕ) (state to : State) (t : ℕ) → IsAt offer stream state → scan t state bytes ≡ More to → IsQuietTo stream bytes to
  scan-more stream [] state to t h e = let same : state ≡ to = cc in subst (IsQuietTo stream []) same (quiet_none stream state h)
  scan-more stream (b ∷ bytes) state to t h e =
      scan-more_at stream bytes b state to t (after state b) h refl (λ next k d. scan-more (stream ++ b ∷ []) bytes next to (t + 1) k d) e

  -- bytes whose last completes something
  pub record EndsAt (stream bytes : List ℕ) (t n : ℕ) (scanned : Scanned) (at : Option State) : Type 0 where
    pub before : ℕ
    pub count : n ≡ t + suc before
    pub within : before < length bytes
    pub completes : Completes offer stream (take (suc before) bytes) scanned
    pub to : (read_stream (stream ++ take (suc before) bytes)).at ≡ at

  ends_now : (stream bytes : List ℕ) (b t n : ℕ) (scanned : Scanned) (at : Option State) → n ≡ t + 1 → scan_stream offer (stream ++ b ∷ []) ≡ scanned
      → (read_stream (stream ++ b ∷ [])).at ≡ at → EndsAt stream (b ∷ bytes) t n scanned at
  ends_now stream bytes b t n scanned at e s r = record {
    before = 0;
    count = e;
    within = omega arith;
    completes = record { front = []; last = b; split = refl; quiet = tt; complete = s };
    to = r;
  }

  ends_later : (stream bytes : List ℕ) (b t n : ℕ) (scanned : Scanned) (at : Option State) → scan_stream offer (stream ++ b ∷ []) ≡ scan_stream offer stream
      → EndsAt (stream ++ b ∷ []) bytes (t + 1) n scanned at → EndsAt stream (b ∷ bytes) t n scanned at
  ends_later stream bytes b t n scanned at q r =
      let c = r.completes in
      let whole : (stream ++ b ∷ []) ++ take (suc r.before) bytes ≡ stream ++ take (suc (suc r.before)) (b ∷ bytes) = append_assoc stream (b ∷ [])
      (take (suc r.before) bytes) in
      record {
        before = suc r.before;
        count = omega (arith, r.count);
        within = omega (arith, r.within);
        completes = record {
          front = b ∷ c.front;
          last = c.last;
          split = ap (λ (xs : List ℕ). b ∷ xs) c.split;
          quiet = (q, c.quiet);
          complete = ap (scan_stream offer) (sym whole) ∙ c.complete;
        };
        to = ap (λ (s : List ℕ). (read_stream s).at) (sym whole) ∙ r.to;
      }

  abbrev pub scanned_with : List ℕ → List ℕ → Scanned
  scanned_with stream made = joined (scan_stream offer stream).served (served_of (heard offer made ∷ []) None)

  abbrev MakesOn : List ℕ → List ℕ → List ℕ → ℕ → ℕ → Type 0
  MakesOn stream bytes made t n =
      (next : State) → IsAt offer stream next → scan t next bytes ≡ Made n made → EndsAt stream bytes t n (scanned_with stream made) (Some (start))

  same_scan : (stream longer made : List ℕ) → scan_stream offer longer ≡ scan_stream offer stream → scanned_with longer made ≡ scanned_with stream made
  same_scan stream longer made e = ap (λ (s : Scanned). joined s.served (served_of (heard offer made ∷ []) None)) e

  scan-made_at : (stream bytes made : List ℕ) (b : ℕ) (state : State) (t n : ℕ) (next : Next) → IsAt offer stream state → after state b ≡ next
      → MakesOn (stream ++ b ∷ []) bytes made (t + 1) n
      → go (t + 1) next (λ s. scan (t + 1) s bytes) ≡ Made n made → EndsAt stream (b ∷ bytes) t n (scanned_with stream made) (Some (start))
  scan-made_at stream bytes made b state t n (Goes next) h a rest e =
      let g = scan-goes offer stream state next b h a in
      ends_later stream bytes b t n (scanned_with stream made) (Some (start)) g.0
      (subst (λ (s : Scanned). EndsAt (stream ++ b ∷ []) bytes (t + 1) n s (Some (start))) (same_scan stream (stream ++ b ∷ []) made g.0) (rest next g.1 e))
  scan-made_at stream bytes made b state t n (Ends m) h a rest e =
      let same : m ≡ made = cc in
      let count : t + 1 ≡ n = cc in
      let w = scan-whole offer stream state b m h a in
      ends_now stream bytes b t n (scanned_with stream made) (Some (start)) (sym count) (w.0 ∙ ap (scanned_with stream) same) w.1
  scan-made_at stream bytes made b state t n Faults h a rest e = absurd cc

  pub scan-made : (stream bytes made : List ℕ) (state : State) (t n : ℕ) → IsAt offer stream state → scan t state bytes ≡ Made n made
      → EndsAt stream bytes t n (scanned_with stream made) (Some (start))
  scan-made stream [] made state t n h e = absurd cc
  scan-made stream (b ∷ bytes) made state t n h e =
      scan-made_at stream bytes made b state t n (after state b) h refl (λ next k d. scan-made (stream ++ b ∷ []) bytes made next (t + 1) n k d) e

  abbrev pub faulted_at : List ℕ → Scanned
  faulted_at stream = record { served = (scan_stream offer stream).served; fault = Some 11 }

  abbrev FaultsOn : List ℕ → List ℕ → ℕ → ℕ → Type 0
  FaultsOn stream bytes t n = (next : State) → IsAt offer stream next → scan t next bytes ≡ Fault n → EndsAt stream bytes t n (faulted_at stream) None

  scan-fault_at : (stream bytes : List ℕ) (b : ℕ) (state : State) (t n : ℕ) (next : Next) → IsAt offer stream state → after state b ≡ next
      → FaultsOn (stream ++ b ∷ []) bytes (t + 1) n
      → go (t + 1) next (λ s. scan (t + 1) s bytes) ≡ Fault n → EndsAt stream (b ∷ bytes) t n (faulted_at stream) None
  scan-fault_at stream bytes b state t n (Goes next) h a rest e =
      let g = scan-goes offer stream state next b h a in
      ends_later stream bytes b t n (faulted_at stream) None g.0
      (subst (λ (s : Scanned). EndsAt (stream ++ b ∷ []) bytes (t + 1) n s None) (ap (λ (s : Scanned). record { served = s.served; fault = Some 11 }) g.0)
      (rest next g.1 e))
  scan-fault_at stream bytes b state t n (Ends m) h a rest e = absurd cc
  scan-fault_at stream bytes b state t n Faults h a rest e =
      let count : t + 1 ≡ n = cc in
      let w = scan-faults offer stream state b h a in
      ends_now stream bytes b t n (faulted_at stream) None (sym count) w.0 w.1

  pub scan-fault : (stream bytes : List ℕ) (state : State) (t n : ℕ) → IsAt offer stream state → scan t state bytes ≡ Fault n
      → EndsAt stream bytes t n (faulted_at stream) None
  scan-fault stream [] state t n h e = absurd cc
  scan-fault stream (b ∷ bytes) state t n h e =
      scan-fault_at stream bytes b state t n (after state b) h refl (λ next k d. scan-fault (stream ++ b ∷ []) bytes next (t + 1) n k d) e
