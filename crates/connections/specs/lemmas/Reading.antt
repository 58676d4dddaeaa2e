-- The reading of a connection, call after call.
use Rattle.std.proofs.Common.{◌≡◌, ℕ, ◌+◌, Bool, List, ◌++◌, length, length-append, Option, Some, None, refl, sym, ap, subst, ◌∙◌}
use Rattle.std.proofs.Common.{append_assoc, append-nil, arith}
use Rattle.std.proofs.KnownBytes.{Appends-kept}
use Rattle.nfs_model.specs.Tree.{Layout}
use Rattle.nfs_model.specs.World.{Heard, Scanned}
use Rattle.outboxes.specs.Messages.{ReplyMessage}
use Rattle.rpc_msg.specs.declared.offer.Offer.{Offer}
use Rattle.engine_feed.specs.Numbers.{fault_number}
use Rattle.tcp_front.specs.declared.stream.Stopped.{Stopped}
use Rattle.tcp_front.specs.declared.stream.Stopped.TheVariants as stops
use Rattle.tcp_front.specs.declared.stream.Stream.{Stream}
use Rattle.tcp_front.specs.Arrivals.{Arrival}
use Rattle.tcp_front.specs.Steps.{BringsFirst, StopsAs}
use Rattle.tcp_front.specs.Reading.{AreFirst}
use Rattle.connections.specs.declared.connection.Connection.{Connection}
use Rattle.connections.specs.declared.reading.Came.{Came}
use Rattle.connections.specs.Connections.{now_of}
use Rattle.connections.specs.Cutting.{HasCut}
use Rattle.connections.specs.Reading.{Cuts, HasRead, IsReadFrom, Reads, Stands}
use Rattle.connections.specs.Writing.{IsWrittenTo, Writes}
use Rattle.connections.specs.Incoming.{Incoming, Gives}
use Rattle.connections.specs.lemmas.Incoming.{gives-more}

-- ---- what bytes more come to

first-more : (offer : Offer) (s : Stream) (records : ℕ) (read cut : List ℕ) (before heard : List Heard) → Stands offer None s.reassembler records read before
    → BringsFirst offer s.reassembler cut heard → AreFirst offer (before ++ heard) (read ++ cut)
first-more offer s records read cut before heard g h =
    let served = ap (λ (x : Scanned). x.served) g.0 in
    let fault = ap (λ (x : Scanned). x.fault) g.0 in
    let more = h read g.1 fault in (
      more.0,
      more.1 ∙ ap (λ (l : List Heard). l ++ (heard ++ more.0)) served ∙ sym (append_assoc before heard more.0),
    )

stands-more : (offer : Offer) (stopped : Option Stopped) (s s' : Stream) (records : ℕ) (read cut : List ℕ) (before heard : List Heard)
    → Stands offer None s.reassembler records read before → StopsAs offer s cut heard stopped s'
    → Stands offer stopped s'.reassembler s'.records (read ++ cut) (before ++ heard)
stands-more offer None s s' records read cut before heard g h =
    let served = ap (λ (x : Scanned). x.served) g.0 in
    let fault = ap (λ (x : Scanned). x.fault) g.0 in (
      h.0.brings read g.1 fault ∙ ap (λ (l : List Heard). record { served = l ++ heard; fault = None }) served,
      h.0.leads read g.1 fault,
      h.1,
    )
stands-more offer (Some (stops.Fault fault)) s s' records read cut before heard g h =
    let served = ap (λ (x : Scanned). x.served) g.0 in
    let none = ap (λ (x : Scanned). x.fault) g.0 in
    h read g.1 none ∙ ap (λ (l : List Heard). record { served = l ++ heard; fault = Some (fault_number fault) }) served
stands-more offer (Some stops.NoMemory) s s' records read cut before heard g h = first-more offer s records read cut before heard g h
stands-more offer (Some stops.NumbersUsed) s s' records read cut before heard g h = (first-more offer s records read cut before heard g h.0, h.1)

module _ {D S : Type 0} (unread : D → Incoming) (opened now now' : D) (came : S → List Arrival → S → Type 0)
    (room : S → Bool) (layout : Layout) (offer : Offer) (s s' : Stream) (sink sink' : S) (kept kept' read : List ℕ) (stopped : Option Stopped)
    (before : List Heard) (consumed : Gives (unread now) (unread now') read) where
  reads-more : IsReadFrom offer unread opened now s kept None before
      → (h : HasCut came room layout offer s sink (kept ++ read) stopped s' sink' kept')
      → IsReadFrom offer unread opened now' s' kept' stopped (before ++ h.taken.heard)
  reads-more g h =
      let all : (g.read ++ (kept ++ g.lost)) ++ read ≡ (g.read ++ h.cut) ++ (kept' ++ h.lost) =
      ap (λ (l : List ℕ). (g.read ++ (kept ++ l)) ++ read) (g.none_lost refl)
      ∙ ap (λ (l : List ℕ). (g.read ++ l) ++ read) (append-nil kept) ∙ append_assoc g.read kept read
      ∙ ap (λ (l : List ℕ). g.read ++ l) h.split ∙ sym (append_assoc g.read h.cut (kept' ++ h.lost)) in
      let first = g.count in
      let second = h.taken.count in
      let both = length-append before h.taken.heard in
      record {
        read = g.read ++ h.cut;
        lost = h.lost;
        taken = subst (Gives (unread opened) (unread now')) all
            (gives-more (unread opened) (unread now) (unread now') _ read g.taken consumed);
        stands = stands-more offer stopped s s' s.records g.read h.cut before h.taken.heard g.stands h.taken.stops;
        count = omega (arith, first, second, both);
        none_lost = h.none_lost;
      }

  cuts-on : (before_stopped : Option Stopped) (heard : List Heard) → IsReadFrom offer unread opened now s kept before_stopped before
      → Cuts came room layout offer before_stopped s sink kept read heard stopped s' sink' kept'
      → IsReadFrom offer unread opened now' s' kept' stopped (before ++ heard)
  cuts-on None heard g h =
      subst (λ (l : List Heard). IsReadFrom offer unread opened now' s' kept' stopped (before ++ l)) h.1 (reads-more g h.0)
  cuts-on (Some stop) heard g (given, none, unread_none, is, same, kept_is) =
      let all : (g.read ++ (kept ++ g.lost)) ++ read ≡ g.read ++ (kept' ++ g.lost) =
      ap (λ (l : List ℕ). (g.read ++ (kept ++ g.lost)) ++ l) unread_none ∙ append-nil (g.read ++ (kept ++ g.lost))
      ∙ ap (λ (l : List ℕ). g.read ++ (l ++ g.lost)) (sym kept_is) in
      let heard_is : before ≡ before ++ heard = sym (append-nil before) ∙ ap (λ (l : List Heard). before ++ l) (sym none) in
      let moved : IsReadFrom offer unread opened now' s kept' (Some stop) before = record {
        read = g.read;
        lost = g.lost;
        taken = subst (Gives (unread opened) (unread now')) all
            (gives-more (unread opened) (unread now) (unread now') _ read g.taken consumed);
        stands = g.stands;
        count = g.count;
        none_lost = g.none_lost;
      } in
      subst (λ (l : List Heard). IsReadFrom offer unread opened now' s' kept' stopped l) heard_is
      (subst (λ (x : Stream). IsReadFrom offer unread opened now' x kept' stopped before) (sym same)
      (subst (λ (x : Option Stopped). IsReadFrom offer unread opened now' s kept' x before) (sym is) moved))

-- ---- one call

module _ {D S : Type 0} (unread : D → Incoming) (written : D → Option (List ℕ)) (came : S → List Arrival → S → Type 0) (room : S → Bool)
    (layout : Layout) (offer : Offer) (old : Connection D) (sink : S) (size : ℕ) (result : Came) (new : Connection D) (sink' : S)
    (h : HasRead unread written came room layout offer old sink size result new sink') (opened : D) where
  -- its records go on
  pub reads-on : (before : List Heard) → Reads offer unread opened old before → Reads offer unread opened new (before ++ h.heard)
  reads-on before g =
      cuts-on unread opened (now_of old) (now_of new) came room layout offer old.stream new.stream sink sink' old.kept new.kept h.read
      new.stopped before h.taken old.stopped h.heard g h.cuts

  -- so many more were given on
  pub read-count : new.stream.records ≡ old.stream.records + length h.heard
  read-count = by old.stopped h.heard h.cuts
    where
      by : (o : Option Stopped) (heard : List Heard)
          → Cuts came room layout offer o old.stream sink old.kept h.read heard new.stopped new.stream sink' new.kept
          → new.stream.records ≡ old.stream.records + length heard
      by None heard (k, e) = k.taken.count ∙ ap (λ (l : List Heard). old.stream.records + length l) e
      by (Some stop) heard (given, none, unread_none, is, same, kept_is) =
          let e : length heard ≡ 0 = ap (λ (l : List Heard). length l) none in
          let f : new.stream.records ≡ old.stream.records = ap (λ (s : Stream). s.records) same in omega (arith, e, f)

  -- the writing stands as it did
  pub writes-kept : (waiting replies : List ReplyMessage) → Writes written opened old waiting replies
      → Writes written opened new waiting replies
  writes-kept waiting replies g =
      let moved : IsWrittenTo written opened (now_of new) old.rest old.is_broken waiting replies = record {
        given = g.given;
        left = g.left;
        went_out = Appends-kept (written opened) (written (now_of old)) (written (now_of new)) _ g.went_out h.apart;
        are = g.are;
        whole = g.whole;
      } in
      subst (λ (x : List ℕ). IsWrittenTo written opened (now_of new) x new.is_broken waiting replies) (sym h.same.0)
      (subst (λ (x : Bool). IsWrittenTo written opened (now_of new) old.rest x waiting replies) (sym h.same.1) moved)
