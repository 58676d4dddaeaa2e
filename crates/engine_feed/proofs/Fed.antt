-- What part of a feed comes to.
use Rattle.std.proofs.Common.{◌≡◌, ℕ, ◌+◌, ◌<◌, ◌≤◌, Bool, true, false, List, [], ◌∷◌, ◌++◌, length, take, drop, Some, None, refl, sym, ap, subst, ◌∙◌}
use Rattle.std.proofs.Common.{arith, inl, inr}
use Rattle.std.specs.Prelude.{slice_get, option_map, nat_le, ◌&&◌}
use Rattle.std.proofs.lemmas.List.{take_all, take-append-drop, length-map}
use Rattle.std.proofs.lemmas.Bool.Decides.{nat_tests}
use Rattle.rpc_record.specs.Stream.{read_stream}
use Rattle.nfs_model.specs.World as worlds
use Rattle.nfs_model.specs.World.{is_crowded, all_running, Setup, World}
use Rattle.nfs_model.specs.Events.Feed.{feeding, heard_in, MayStarveIf, bytes_taken}
use Rattle.nfs_laws.specs.Walk.{Walks, AtFault, is_complete}
use Rattle.rpc_msg.specs.declared.offer.Offer.{Offer}
use Rattle.engine_feed.specs.declared.state.ConnectionState.{ConnectionState}
use Rattle.engine_feed.specs.declared.state.CallsState.{CallsState}
use Rattle.engine_feed.specs.declared.stop.StreamFault.{StreamFault}
use Rattle.engine_feed.specs.Numbers.{fault_number}
use Rattle.engine_feed.specs.Seen.{connection_of, message_of, pending}
use Rattle.engine_feed.specs.Streams.{scan_stream, codec, IsQuiet, Completes}
use Rattle.engine_feed.specs.Feeding.{TakesAll}
use Rattle.engine_feed.specs.Within.{IsPartOf}
use Rattle.engine_feed.specs.Sound.{IsInStep}
use Rattle.engine_feed.proofs.Arriving.{length_taken}
use Rattle.engine_feed.proofs.Worlds.{bytes_taken-none, takes-quiet, takes-heard, feeds-fault}

crowd_is : (calls : CallsState) (n : ℕ) (c : ConnectionState) (w : World) → IsPartOf calls n c w
    → length w.waiting + length (all_running w.workers) ≡ pending calls
crowd_is calls n c w p =
    let waiting = ap (λ (ms : List worlds.Message). length ms) p.shows.waiting ∙ length-map calls.waiting message_of in
    let running = p.running in
    omega (arith, waiting, running)

below_most : (n : ℕ) → n < 1024 → nat_le 1024 n ≡ false
below_most n h = grind (arith, nat_tests)

pub not-crowded : (calls : CallsState) (n : ℕ) (c : ConnectionState) (w : World) → IsPartOf calls n c w → pending calls < 1024 → is_crowded w ≡ false
not-crowded calls n c w p h = ap (nat_le 1024) (crowd_is calls n c w p) ∙ below_most (pending calls) h

most_at : (n : ℕ) → (n < 1024 → ⊥) → nat_le 1024 n ≡ true
most_at n h = grind (arith, nat_tests)

pub crowded : (calls : CallsState) (n : ℕ) (c : ConnectionState) (w : World) → IsPartOf calls n c w → pending calls ≡ 1024 → is_crowded w ≡ true
crowded calls n c w p h = ap (nat_le 1024) (crowd_is calls n c w p) ∙ most_at (pending calls) (λ k. omega (arith, k, h))

pub and_false : (b d : Bool) → b ≡ false → (b && d) ≡ false
and_false b d e = rw e refl

pub feeds-nothing : (setup : Setup) (c : ℕ) (w : World) (bytes : List ℕ) → 0 < length bytes → is_crowded w ≡ false → Walks setup (feeding c bytes 0 90) w w
feeds-nothing setup c w [] some room = absurd (omega arith)
feeds-nothing setup c w (b ∷ bytes) some room = inl (refl, refl, inr (refl, and_false (is_crowded w) _ room))

taken-part : (bytes : List ℕ) (n : ℕ) → take n bytes ++ drop n bytes ≡ bytes
taken-part bytes n = take-append-drop n bytes

pub no-bytes : (w : World) (c taken : ℕ) (bytes : List ℕ) → taken ≡ 0 → bytes_taken w c (take taken bytes) ≡ w
no-bytes w c taken bytes e = ap (λ (n : ℕ). bytes_taken w c (take n bytes)) e ∙ bytes_taken-none w c

module _ (offer : Offer) where
  -- what is known of the connection that is fed
  pub record IsFed (w : World) (c : ℕ) (o : ConnectionState) : Type 0 where
    pub there : slice_get w.connections c ≡ Some (connection_of o)
    pub sound : (scan_stream offer o.stream.items).fault ≡ None
    pub records : length (scan_stream offer o.stream.items).served ≡ o.records
    pub stands : (read_stream o.stream.items).at ≡ o.reassembler

  pub fed : (calls : CallsState) (n : ℕ) (c : ConnectionState) (w : World) → IsPartOf calls n c w → IsInStep c → c.fault ≡ None → IsFed w n c
  fed calls n c w p s t = record {
    there = p.connection;
    sound = s.fault offer ∙ ap (option_map fault_number) t;
    records = s.records offer;
    stands = s.reassembler;
  }

  -- ---- parts of a feed, by how the bytes arrived

  pub part-more : (setup : Setup) (codec_is : setup.codec ≡ codec offer) (o : ConnectionState) (w : World) (c : ℕ) (bytes : List ℕ) (taken : ℕ) → IsFed w c o
      → (taken ≡ length bytes) × IsQuiet offer o.stream.items bytes
      → TakesAll setup c w (take taken bytes) (bytes_taken w c (take taken bytes))
  part-more setup codec_is o w c bytes taken f a =
      let whole : bytes ≡ take taken bytes = sym (take_all taken bytes (omega (arith, a.0))) in
      takes-quiet offer setup codec_is w c (take taken bytes) (connection_of o) f.there f.sound (subst (IsQuiet offer o.stream.items) whole a.1)

  pub part-heard : (setup : Setup) (codec_is : setup.codec ≡ codec offer) (o : ConnectionState) (w : World) (c : ℕ) (bytes : List ℕ) (taken : ℕ)
      (told : worlds.Heard)
      (starved : Bool)
      → MayStarveIf starved told.asked → (number : ℕ) → IsFed w c o → is_crowded w ≡ false → number ≡ o.records
      → Completes offer o.stream.items (take taken bytes) (record { served = (scan_stream offer o.stream.items).served ++ told ∷ []; fault = None })
      → TakesAll setup c w (take taken bytes) (heard_in setup (bytes_taken w c (take taken bytes)) c number told starved)
  part-heard setup codec_is o w c bytes taken told starved may number f room e k =
      let number_is : length (scan_stream offer o.stream.items).served ≡ number = f.records ∙ sym e in
      subst (λ (n : ℕ). TakesAll setup c w (take taken bytes) (heard_in setup (bytes_taken w c (take taken bytes)) c n told starved)) number_is
      (takes-heard offer setup codec_is w c (take taken bytes) (connection_of o) told starved may f.there f.sound room k)

  pub part-fault : (setup : Setup) (codec_is : setup.codec ≡ codec offer) (o : ConnectionState) (w : World) (c : ℕ) (bytes : List ℕ) (taken : ℕ)
      (fault : StreamFault) → IsFed w c o
      → (is_crowded w && is_complete (AtFault (fault_number fault))) ≡ false
      → taken ≤ length bytes → Completes offer o.stream.items (take taken bytes)
      (record { served = (scan_stream offer o.stream.items).served; fault = Some (fault_number fault) })
      → Walks setup (feeding c bytes taken (fault_number fault)) w (bytes_taken w c (take taken bytes))
  part-fault setup codec_is o w c bytes taken fault f room h k =
      let made = feeds-fault offer setup codec_is w c (take taken bytes) (drop taken bytes) (connection_of o) (fault_number fault) f.there f.sound room k in
      subst (λ (n : ℕ). Walks setup (feeding c bytes n (fault_number fault)) w (bytes_taken w c (take taken bytes))) (length_taken taken bytes h)
      (subst (λ (bs : List ℕ). Walks setup (feeding c bs (length (take taken bytes)) (fault_number fault)) w (bytes_taken w c (take taken bytes)))
      (taken-part bytes taken) made)
