-- Bytes that are taken where the places are full.
use Rattle.std.proofs.Common.{◌≡◌, ℕ, zero, suc, ◌+◌, ◌<◌, ◌≤◌, Bool, true, false, List, [], ◌∷◌, ◌++◌, length, take, drop, Option, Some, None, Result, Ok}
use Rattle.std.proofs.Common.{Err, refl, sym, ap, subst, ◌∙◌, append_assoc, arith, inl, inr, length-append}
use Rattle.std.specs.Prelude.{slice_get, ◌&&◌, not, ◌==◌}
use Rattle.std.proofs.lemmas.List.{take-append-drop, length-take-le}
use Rattle.rpc_record.specs.Machine.{State, Next, Goes, Ends, Faults, Made, after, go, scan, outcome}
use Rattle.nfs_model.specs.World as worlds
use Rattle.nfs_model.specs.World.{Heard, Scanned, World, Setup, is_crowded}
use Rattle.nfs_model.specs.Events.Feed.{feeding, with_bytes, bytes_taken}
use Rattle.nfs_laws.specs.Walk.{AtFault, reached, reached_by, is_complete, Walks, Stops}
use Rattle.rpc_msg.specs.declared.offer.Offer.{Offer}
use Rattle.engine_feed.specs.declared.state.ConnectionState.{ConnectionState}
use Rattle.engine_feed.specs.declared.stop.StreamFault.{StreamFault}
use Rattle.engine_feed.specs.declared.stop.StreamFault.TheVariants.{RecordTooLong}
use Rattle.engine_feed.specs.Codec.{heard}
use Rattle.engine_feed.specs.Numbers.{fault_number}
use Rattle.engine_feed.specs.Seen.{connection_of}
use Rattle.engine_feed.specs.Sound.{HasNoRecord}
use Rattle.engine_feed.specs.Streams.{scan_stream, served_of, codec, Completes}
use Rattle.engine_feed.proofs.Scanning.{IsAt, joined, scan-goes, scan-faults}
use Rattle.engine_feed.proofs.Taking.{scanned_with, scan-made}
use Rattle.engine_feed.proofs.Arriving.{is-at}
use Rattle.engine_feed.specs.lemmas.Lists.{slice_get-last}
use Rattle.engine_feed.proofs.Looks.{take-front, take-within}
use Rattle.engine_feed.proofs.Records.{not-too-long}
use Rattle.engine_feed.proofs.Worlds.{Walks-after, reached-is, reached-quiet, takes-quiet, connection-taken, quiet-scan}
use Rattle.engine_feed.proofs.Fed.{IsFed, part-fault}

completes_at : (served : List Heard) (r : Result Heard ℕ) → ((n : ℕ) → r ≡ Err n → (n == 11) ≡ false)
    → is_complete (reached_by (joined served (served_of (r ∷ []) None)) (length served)) ≡ true
completes_at served (Ok h) f = rw (slice_get-last served h) refl
completes_at served (Err n) f = ap not (f n refl)

front-is : (bytes front : List ℕ) (last free : ℕ) → free < length bytes → take (suc free) bytes ≡ front ++ last ∷ [] → front ≡ take free bytes
front-is bytes front last free h e =
    let long : length (take (suc free) bytes) ≡ suc free = length-take-le (suc free) bytes (omega arith) in
    let size : length front ≡ free = omega (arith, long, ap length e, length-append front (last ∷ [])) in
    sym (take-front front (last ∷ [])) ∙ ap (take (length front)) (sym e) ∙ ap (λ (n : ℕ). take n (take (suc free) bytes)) size
    ∙ take-within free (suc free) bytes (omega arith)

rest-is : (bytes front : List ℕ) (last free : ℕ) → take (suc free) bytes ≡ front ++ last ∷ [] → front ++ (last ∷ drop (suc free) bytes) ≡ bytes
rest-is bytes front last free e =
    sym (append_assoc front (last ∷ []) (drop (suc free) bytes)) ∙ ap (λ (xs : List ℕ). xs ++ drop (suc free) bytes) (sym e)
    ∙ take-append-drop (suc free) bytes

both : (b d : Bool) → b ≡ true → d ≡ true → (b && d) ≡ true
both b d e f = rw (e, f) refl

false_after : (b d : Bool) → d ≡ false → (b && d) ≡ false
false_after true d e = e
false_after false d e = refl

module _ (offer : Offer) where
  -- ---- the byte that would complete a record

  full_at : (setup : Setup) (codec_is : setup.codec ≡ codec offer) (o : ConnectionState) (w : World) (c : ℕ) (bytes : List ℕ) (free : ℕ) (made : List ℕ)
      → IsFed offer w c o → is_crowded w ≡ true
      → free < length bytes
      → Completes offer o.stream.items (take (suc free) bytes) (scanned_with offer o.stream.items made)
      → Walks setup (feeding c bytes free 31) w (bytes_taken w c (take free bytes))
  full_at setup codec_is o w c bytes free made f crowd h k =
      let stream = o.stream.items in
      let front : k.front ≡ take free bytes = front-is bytes k.front k.last free h k.split in
      let middle : World = bytes_taken w c k.front in
      let y : worlds.Connection = with_bytes k.front (connection_of o) in
      let there : slice_get middle.connections c ≡ Some y = connection-taken w c k.front (connection_of o) f.there in
      let same : scan_stream offer y.stream ≡ scan_stream offer stream = quiet-scan offer stream k.front k.quiet in
      let whole : scan_stream offer (y.stream ++ k.last ∷ []) ≡ scanned_with offer stream made = ap (scan_stream offer) (append_assoc stream k.front (k.last
      ∷ [])
      ∙ ap (λ (xs : List ℕ). stream ++ xs) (sym k.split)) ∙ k.complete in
      let at : reached setup middle c k.last ≡ reached_by (scanned_with offer stream made) (length (scan_stream offer stream).served) =
      reached-is offer setup codec_is middle c k.last y _ there whole
      ∙ ap (λ (t : Scanned). reached_by (scanned_with offer stream made) (length t.served)) same in
      let ends : is_complete (reached setup middle c k.last) ≡ true = ap is_complete at
      ∙ completes_at (scan_stream offer stream).served (heard offer made) (not-too-long offer made) in
      let stops : Stops middle (reached setup middle c k.last) 0 31 middle =
      (refl, refl, inl (refl, both (is_crowded middle) (is_complete (reached setup middle c k.last)) crowd ends)) in
      let fed : Walks setup (feeding c (k.front ++ (k.last ∷ drop (suc free) bytes)) (length k.front + 0) 31) w middle =
      Walks-after setup c w middle middle k.front (k.last ∷ drop (suc free) bytes) 0 31
      (takes-quiet offer setup codec_is w c k.front (connection_of o) f.there f.sound k.quiet) (inl stops) in
      let size : length k.front + 0 ≡ free = omega (arith, ap length front, length-take-le free bytes (omega arith)) in
      let new : middle ≡ bytes_taken w c (take free bytes) = ap (bytes_taken w c) front in
      subst (Walks setup (feeding c bytes free 31) w) new
      (subst (λ (n : ℕ). Walks setup (feeding c bytes n 31) w middle) size
      (subst (λ (bs : List ℕ). Walks setup (feeding c bs (length k.front + 0) 31) w middle) (rest-is bytes k.front k.last free k.split) fed))

  pub full-stop : (setup : Setup) (codec_is : setup.codec ≡ codec offer) (o : ConnectionState) (w : World) (c : ℕ) (bytes : List ℕ) (free : ℕ)
      (at : Option State)
      → IsFed offer w c o
      → at ≡ o.reassembler → is_crowded w ≡ true → free < length bytes
      → (made : List ℕ) × (outcome at bytes ≡ Made (free + 1) made) → Walks setup (feeding c bytes free 31) w (bytes_taken w c (take free bytes))
  full-stop setup codec_is o w c bytes free at f a crowd h next =
      let i = is-at offer o.stream.items f.sound in
      let stands : at ≡ Some i.0 = a ∙ sym f.stands ∙ i.1.at in
      let scanned : scan 0 i.0 bytes ≡ Made (free + 1) next.0 = ap (λ (x : Option State). outcome x bytes) (sym stands) ∙ next.1 in
      let e = scan-made offer o.stream.items bytes next.0 i.0 0 (free + 1) i.1 scanned in
      let count : e.before ≡ free = omega (arith, e.count) in
      full_at setup codec_is o w c bytes free next.0 f crowd h
      (subst (λ (n : ℕ). Completes offer o.stream.items (take (suc n) bytes) (scanned_with offer o.stream.items next.0)) count e.completes)

  -- ---- the first byte, where some are free

  first_at : (setup : Setup) (codec_is : setup.codec ≡ codec offer) (o : ConnectionState) (w : World) (c b : ℕ) (bytes : List ℕ) (state : State) (next : Next)
      → IsFed offer w c o
      → IsAt offer o.stream.items state → after state b ≡ next
      → HasNoRecord (go 1 next (λ t. scan 1 t bytes)) → is_complete (reached setup w c b) ≡ false
  first_at setup codec_is o w c b bytes state (Goes next) f i a n =
      ap is_complete (reached-is offer setup codec_is w c b (connection_of o) _ f.there (scan-goes offer o.stream.items state next b i a).0
      ∙ reached-quiet (scan_stream offer o.stream.items) f.sound)
  first_at setup codec_is o w c b bytes state (Ends made) f i a n = absurd n
  first_at setup codec_is o w c b bytes state Faults f i a n =
      ap is_complete (reached-is offer setup codec_is w c b (connection_of o) _ f.there (scan-faults offer o.stream.items state b i a).0)

  pub full-nothing : (setup : Setup) (codec_is : setup.codec ≡ codec offer) (o : ConnectionState) (w : World) (c : ℕ) (bytes : List ℕ) (free : ℕ)
      (at : Option State)
      → IsFed offer w c o
      → at ≡ o.reassembler → 0 < length bytes → (free ≡ 0 → ⊥)
      → HasNoRecord (outcome at (take free bytes)) → Walks setup (feeding c bytes 0 90) w w
  full-nothing setup codec_is o w c [] free at f a h z n = absurd (omega arith)
  full-nothing setup codec_is o w c (b ∷ bytes) zero at f a h z n = absurd (z refl)
  full-nothing setup codec_is o w c (b ∷ bytes) (suc free) at f a h z n =
      let i = is-at offer o.stream.items f.sound in
      let stands : at ≡ Some i.0 = a ∙ sym f.stands ∙ i.1.at in
      let none : HasNoRecord (scan 0 i.0 (b ∷ take free bytes)) = subst (λ (x : Option State). HasNoRecord (outcome x (b ∷ take free bytes))) stands n in
      inl (refl, refl, inr (refl, false_after (is_crowded w) _ (first_at setup codec_is o w c b (take free bytes) i.0 (after i.0 b) f i.1 refl none)))

  -- ---- a fault among the free bytes

  pub full-fault : (setup : Setup) (codec_is : setup.codec ≡ codec offer) (o : ConnectionState) (w new : World) (c : ℕ) (bytes : List ℕ) (free taken : ℕ)
      (fault : StreamFault) → IsFed offer w c o
      → fault ≡ RecordTooLong → free ≤ length bytes → taken ≤ free
      → new ≡ bytes_taken w c (take taken (take free bytes))
      → Completes offer o.stream.items (take taken (take free bytes))
      (record { served = (scan_stream offer o.stream.items).served; fault = Some (fault_number fault) })
      → Walks setup (feeding c bytes taken (fault_number fault)) w new
  full-fault setup codec_is o w new c bytes free taken fault f e h t n k =
      let same : take taken (take free bytes) ≡ take taken bytes = take-within taken free bytes t in
      let room : (is_crowded w && is_complete (AtFault (fault_number fault))) ≡ false = false_after (is_crowded w) _
      (ap (λ (x : StreamFault). is_complete (AtFault (fault_number x))) e) in
      subst (Walks setup (feeding c bytes taken (fault_number fault)) w) (sym (n ∙ ap (bytes_taken w c) same))
      (part-fault offer setup codec_is o w c bytes taken fault f room (omega arith)
      (subst (λ (xs : List ℕ). Completes offer o.stream.items xs
      (record { served = (scan_stream offer o.stream.items).served; fault = Some (fault_number fault) })) same k))
