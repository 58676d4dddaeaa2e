-- What a reassembler answered, as what the stream came to.
use Rattle.std.proofs.Common.{◌≡◌, ℕ, suc, ◌≤◌, ◌<◌, List, [], ◌∷◌, ◌++◌, length, take, Option, Some, None, Result, Ok, Err, refl, sym, ap, subst, ◌∙◌}
use Rattle.std.proofs.Common.{arith}
use Rattle.std.specs.Prelude.{map, option_map, vec_len}
use Rattle.std.proofs.lemmas.List.{append-nil, take_all, length-take-le}
use Rattle.rpc_record.specs.Machine.{State}
use Rattle.rpc_record.specs.Stream.{read_stream}
use Rattle.rpc_record.specs.Feeds.{Feeds}
use Rattle.rpc_record.specs.declared.reassembler.Step.{Step}
use Rattle.rpc_record.specs.declared.reassembler.Step.TheVariants as steps
use Rattle.nfs_model.specs.World.{Heard, Scanned}
use Rattle.rpc_msg.specs.declared.offer.Offer.{Offer}
use Rattle.engine_feed.specs.declared.state.ConnectionState.{ConnectionState}
use Rattle.engine_feed.specs.Codec.{heard}
use Rattle.engine_feed.specs.Numbers.{fault_number}
use Rattle.engine_feed.specs.Streams.{fault_at, served_of, scan_stream, IsQuiet, Completes}
use Rattle.engine_feed.specs.Sound.{IsInStep}
use Rattle.engine_feed.proofs.Scanning.{IsAt, joined}
use Rattle.engine_feed.proofs.Taking.{EndsAt, scanned_with, faulted_at, scan-more, scan-made, scan-fault}
use Rattle.engine_feed.proofs.Worlds.{quiet-scan}

-- this many bytes were taken, and the reading is at this state after them
pub record TookTo (stream bytes : List ℕ) (taken : ℕ) (at : Option State) : Type 0 where
  pub within : taken ≤ length bytes
  pub to : (read_stream (stream ++ take taken bytes)).at ≡ at

-- where no fault was met, the reading is at some state
at_some : (rs : List (Result Heard ℕ)) (at : Option State) → (served_of rs (fault_at at)).fault ≡ None → (state : State) × (at ≡ Some state)
at_some rs (Some state) e = (state, refl)
at_some [] None e = absurd cc
at_some (Ok h ∷ rs) None e = at_some rs None e
at_some (Err n ∷ rs) None e = absurd cc

pub length_taken : (n : ℕ) (bytes : List ℕ) → n ≤ length bytes → length (take n bytes) ≡ n
length_taken n bytes h = length-take-le n bytes h

-- a connection that is in step with what it has read
pub in-step : (c : ConnectionState) (whole : List ℕ) → c.stream.items ≡ whole → (read_stream whole).at ≡ c.reassembler
    → ((offer : Offer) → ((scan_stream offer whole).fault ≡ option_map fault_number c.fault) × (length (scan_stream offer whole).served ≡ c.records))
    → c.records ≤ vec_len c.stream → IsInStep c
in-step c whole e at scanned few =
    let back : whole ≡ c.stream.items = sym e in
    record {
      reassembler = subst (λ (s : List ℕ). (read_stream s).at ≡ c.reassembler) back at;
      fault = λ offer. subst (λ (s : List ℕ). (scan_stream offer s).fault ≡ option_map fault_number c.fault) back (scanned offer).0;
      records = λ offer. subst (λ (s : List ℕ). length (scan_stream offer s).served ≡ c.records) back (scanned offer).1;
      few = few;
    }

module _ (offer : Offer) where
  abbrev pub Took : List ℕ → List ℕ → ℕ → Step → Type 0
  Took stream bytes taken (steps.Record made) = (0 < taken) × Completes offer stream (take taken bytes) (scanned_with offer stream made.items)
  Took stream bytes taken steps.More =
      (taken ≡ length bytes) × IsQuiet offer stream bytes × (scan_stream offer (stream ++ take taken bytes) ≡ scan_stream offer stream)
  Took stream bytes taken steps.Fault = (0 < taken) × Completes offer stream (take taken bytes) (faulted_at offer stream)
  Took stream bytes taken steps.NoMemory = (taken ≡ 0) × (scan_stream offer (stream ++ take taken bytes) ≡ scan_stream offer stream)

  pub is-at : (stream : List ℕ) → (scan_stream offer stream).fault ≡ None → (state : State) × IsAt offer stream state
  is-at stream e = let s = at_some (map (heard offer) (read_stream stream).records) (read_stream stream).at e in (s.0, record { at = s.1; sound = e })

  ended : (stream bytes : List ℕ) (taken : ℕ) (scanned : Scanned) (at : Option State) → EndsAt offer stream bytes 0 taken scanned at
      → TookTo stream bytes taken at × ((0 < taken) × Completes offer stream (take taken bytes) scanned)
  ended stream bytes taken scanned at e =
      let count : suc e.before ≡ taken = omega (arith, e.count) in (
        record {
          within = omega (arith, e.within, e.count);
          to = subst (λ (n : ℕ). (read_stream (stream ++ take n bytes)).at ≡ at) count e.to;
        },
        (omega (arith, e.count), subst (λ (n : ℕ). Completes offer stream (take n bytes) scanned) count e.completes),
      )

  took : (stream bytes : List ℕ) (taken : ℕ) (step : Step) (state : State) (new : Option State) → IsAt offer stream state
      → Feeds (Some state) bytes taken step new → TookTo stream bytes taken new × Took stream bytes taken step
  took stream bytes taken (steps.Record made) state new h f =
      let e = ended stream bytes taken _ _ (scan-made offer stream bytes made.items state 0 taken h f.2) in
      (record { within = e.0.within; to = e.0.to ∙ sym f.3 }, e.1)
  took stream bytes taken steps.More state new h f =
      let q = scan-more offer stream bytes state f.1.0 0 h f.1.1 in
      let whole : stream ++ take taken bytes ≡ stream ++ bytes = ap (λ (s : List ℕ). stream ++ s) (take_all taken bytes (omega (arith, f.0))) in (
        record { within = omega (arith, f.0); to = ap (λ (s : List ℕ). (read_stream s).at) whole ∙ q.to.at ∙ sym f.1.2 },
        (f.0, q.quiet, ap (scan_stream offer) whole ∙ quiet-scan offer stream bytes q.quiet),
      )
  took stream bytes taken steps.Fault state new h f =
      let e = ended stream bytes taken _ _ (scan-fault offer stream bytes state 0 taken h f.1) in
      (record { within = e.0.within; to = e.0.to ∙ sym f.2 }, e.1)
  took stream bytes taken steps.NoMemory state new h f =
      let whole : stream ++ take taken bytes ≡ stream = ap (λ (n : ℕ). stream ++ take n bytes) f.0 ∙ append-nil stream in (
        record { within = omega (arith, f.0); to = ap (λ (s : List ℕ). (read_stream s).at) whole ∙ h.at ∙ sym f.2 },
        (f.0, ap (scan_stream offer) whole),
      )

  -- the same, of a connection that is in step and at no fault
  pub took_from : (c : ConnectionState) (bytes : List ℕ) (taken : ℕ) (step : Step) (new : Option State) → IsInStep c → c.fault ≡ None
      → Feeds c.reassembler bytes taken step new
      → TookTo c.stream.items bytes taken new × Took c.stream.items bytes taken step
  took_from c bytes taken step new h e f =
      let sound : (scan_stream offer c.stream.items).fault ≡ None = h.fault offer ∙ ap (option_map fault_number) e in
      let s = is-at c.stream.items sound in
      let at : c.reassembler ≡ Some s.0 = sym h.reassembler ∙ s.1.at in
      took c.stream.items bytes taken step s.0 new s.1 (subst (λ (o : Option State). Feeds o bytes taken step new) at f)

  -- what a record's reading adds to the scan
  abbrev pub read_to : List ℕ → Result Heard ℕ → Scanned
  read_to stream r = joined (scan_stream offer stream).served (served_of (r ∷ []) None)

  made_as : (stream taken : List ℕ) (made : List ℕ) (r : Result Heard ℕ) → heard offer made ≡ r
      → Completes offer stream taken (scanned_with offer stream made)
      → Completes offer stream taken (read_to stream r)
  made_as stream taken made r e k = subst (λ (q : Result Heard ℕ). Completes offer stream taken (read_to stream q)) e k

  -- nothing served is added by a fault
  abbrev pub ended_by : List ℕ → ℕ → Scanned
  ended_by stream number = record { served = (scan_stream offer stream).served; fault = Some number }

  no_more : (stream : List ℕ) (number : ℕ) → read_to stream (Err number) ≡ ended_by stream number
  no_more stream number = ap (λ (hs : List Heard). record { served = hs; fault = Some number }) (append-nil (scan_stream offer stream).served)

  pub ended-as : (stream taken : List ℕ) (number : ℕ) → Completes offer stream taken (read_to stream (Err number))
      → Completes offer stream taken (ended_by stream number)
  ended-as stream taken number k = subst (Completes offer stream taken) (no_more stream number) k

  pub took_as : (c : ConnectionState) (bytes : List ℕ) (taken : ℕ) (step as_this : Step) (new : Option State) → IsInStep c → c.fault ≡ None → step ≡ as_this
      → Feeds c.reassembler bytes taken step new
      → TookTo c.stream.items bytes taken new × Took c.stream.items bytes taken as_this
  took_as c bytes taken step as_this new h e is f = took_from c bytes taken as_this new h e (subst (λ (s : Step). Feeds c.reassembler bytes taken s new) is f)

  -- what was read of the record that a step gave
  pub read_as : (stream taken record_bytes given : List ℕ) (s : Result Heard ℕ) → given ≡ record_bytes → heard offer given ≡ s
      → Completes offer stream taken (scanned_with offer stream record_bytes) → Completes offer stream taken (read_to stream s)
  read_as stream taken record_bytes given s g e k = made_as stream taken record_bytes s (ap (heard offer) (sym g) ∙ e) k
