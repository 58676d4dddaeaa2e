-- Pieces of a feed, by how the bytes arrived.
use Rattle.std.proofs.Common.{◌≡◌, ℕ, ◌<◌, Bool, false, List, [], ◌∷◌, ◌++◌, length, take, None, refl, sym, ap, subst, ◌∙◌, arith}
use Rattle.std.proofs.lemmas.List.{take_all, length-take-le}
use Rattle.nfs_model.specs.World as worlds
use Rattle.nfs_model.specs.World.{is_crowded, Setup, World}
use Rattle.nfs_model.specs.Events.Feed.{feeding, heard_in, MayStarveIf, bytes_taken}
use Rattle.nfs_laws.specs.Walk.{Walks, AtFault, is_complete}
use Rattle.rpc_msg.specs.declared.offer.Offer.{Offer}
use Rattle.engine_feed.specs.declared.state.ConnectionState.{ConnectionState}
use Rattle.engine_feed.specs.declared.state.CallsState.{CallsState}
use Rattle.engine_feed.specs.declared.state.Arrival.{Arrival}
use Rattle.engine_feed.specs.declared.state.Arrival.TheVariants as arrivals
use Rattle.engine_feed.specs.declared.stop.StreamFault.{StreamFault}
use Rattle.engine_feed.specs.Numbers.{fault_number}
use Rattle.engine_feed.specs.Seen.{layout_in, pending}
use Rattle.engine_feed.specs.Streams.{scan_stream, codec, Completes}
use Rattle.engine_feed.specs.Feeding.{TakesAll}
use Rattle.engine_feed.specs.Within.{IsSetup, IsPartOf, with_part}
use Rattle.engine_feed.specs.Sound.{Arrives, AdmitsNone, IsFree, IsSoundConnection, IsRoomier, AreRoomier, TakesIn, TakesFrom}
use Rattle.engine_feed.specs.Words.{InWorlds}
use Rattle.engine_feed.proofs.Parts.{part-is, part-put, part-twice, part-taken, open-taken, still-part}
use Rattle.engine_feed.proofs.Keeping.{roomier-sound}
use Rattle.engine_feed.proofs.Looks.{take-within}
use Rattle.engine_feed.proofs.Fed.{IsFed, fed, crowded, and_false, part-more, part-heard, part-fault, feeds-nothing, no-bytes}
use Rattle.engine_feed.proofs.Full.{full-stop, full-nothing, full-fault}

module _ (offer : Offer) where
  -- a connection that is fed, with its calls, in a world
  pub record IsTaking (setup : Setup) (calls : CallsState) (n : ℕ) (c : ConnectionState) (w : World) : Type 0 where
    pub codec_is : setup.codec ≡ codec offer
    pub part : IsPartOf calls n c w
    pub fed : IsFed offer w n c

  pub taking : (setup : Setup) (calls : CallsState) (n : ℕ) (c : ConnectionState) (w : World) (size : ℕ) → IsSetup offer setup calls → IsPartOf calls n c w
      → IsSoundConnection c → TakesIn c size → IsTaking setup calls n c w
  taking setup calls n c w size k p s t = record { codec_is = k.codec; part = p; fed = fed offer calls n c w p s.in_step t.faultless }

  -- after room was made
  pub ready : (setup : Setup) (calls calls' : CallsState) (n : ℕ) (c c' : ConnectionState) (w : World) (size : ℕ) → IsSetup offer setup calls
      → IsPartOf calls n c w
      → IsSoundConnection c → TakesIn c size → IsRoomier c c' → AreRoomier calls calls' → IsTaking setup calls' n c' w
  ready setup calls calls' n c c' w size k p s t r a =
      let q = still-part calls calls' n c c' w r a p in
      let u = roomier-sound c c' r s in
      record { codec_is = k.codec; part = q; fed = fed offer calls' n c' w q u.in_step (ap (λ (x : ConnectionState). x.fault) r.same ∙ t.faultless) }

  module _ (setup : Setup) (calls : CallsState) (n : ℕ) (c c' : ConnectionState) (w : World) (bytes given : List ℕ) (taken : ℕ) (arrival : Arrival) where
    -- the part after bytes were taken
    took-is : IsTaking setup calls n c w → TakesFrom offer c c' given taken arrival → with_part calls n c' w ≡ bytes_taken w n (take taken given)
    took-is i t = part-taken calls n c c' w (take taken given) i.part (open-taken c c' (take taken given) t.stream t.output)

    pub arrived : (as_this : Arrival) → arrival ≡ as_this → TakesFrom offer c c' given taken arrival → Arrives offer c.stream.items given taken as_this
    arrived as_this e t = subst (λ (x : Arrival). Arrives offer c.stream.items given taken x) e t.arrives

    pub none-took : IsTaking setup calls n c w → TakesFrom offer c c' given taken arrival → arrival ≡ arrivals.NoMemory → Walks setup (feeding n bytes 0 90) w w
        → Walks setup (feeding n bytes taken 90) w (with_part calls n c' w)
    none-took i t e nothing =
        let zero : taken ≡ 0 = arrived arrivals.NoMemory e t in
        let same : w ≡ with_part calls n c' w = sym (took-is i t ∙ no-bytes w n taken given zero) in
        subst (λ (k : ℕ). Walks setup (feeding n bytes k 90) w (with_part calls n c' w)) (sym zero) (subst (Walks setup (feeding n bytes 0 90) w) same nothing)

    pub more-took : IsTaking setup calls n c w → TakesFrom offer c c' given taken arrival → arrival ≡ arrivals.More
        → TakesAll setup n w (take taken given) (with_part calls n c' w)
    more-took i t e =
        subst (TakesAll setup n w (take taken given)) (sym (took-is i t)) (part-more offer setup i.codec_is c w n given taken i.fed (arrived arrivals.More e t))

    pub fault-took : (fault : StreamFault) → IsTaking setup calls n c w → TakesFrom offer c c' given taken arrival → arrival ≡ arrivals.Fault fault
        → is_crowded w ≡ false → Walks setup (feeding n given taken (fault_number fault)) w (with_part calls n c' w)
    fault-took fault i t e room =
        let a = arrived (arrivals.Fault fault) e t in
        subst (Walks setup (feeding n given taken (fault_number fault)) w) (sym (took-is i t))
        (part-fault offer setup i.codec_is c w n given taken fault i.fed (and_false (is_crowded w) (is_complete (AtFault (fault_number fault))) room) a.1 a.2)

    -- a record that is complete, with whether its decoding was starved
    pub heard-took : (calls'' : CallsState) (c'' : ConnectionState) (place : ℕ) (told : worlds.Heard) (starved : Bool) → IsTaking setup calls n c w
        → TakesFrom offer c c' given taken arrival → is_crowded w ≡ false → setup.layout ≡ layout_in calls → place ≡ c.records → MayStarveIf starved told.asked
        → Completes offer c.stream.items (take taken given) (record { served = (scan_stream offer c.stream.items).served ++ told ∷ []; fault = None })
        → InWorlds offer calls n c' (λ setup w. with_part calls'' n c'' w ≡ heard_in setup w n place told starved)
        → TakesAll setup n w (take taken given) (with_part calls'' n c'' w)
    heard-took calls'' c'' place told starved i t room l e may k h =
        let v : World = with_part calls n c' w in
        let made : with_part calls'' n c'' v ≡ heard_in setup v n place told starved = h setup v (record { codec = i.codec_is; layout = l })
        (part-put calls calls n c c' w i.part refl refl) in
        let new : with_part calls'' n c'' w ≡ heard_in setup (bytes_taken w n (take taken given)) n place told starved =
        sym (part-twice calls calls'' n c' c'' w) ∙ made ∙ ap (λ (x : World). heard_in setup x n place told starved) (took-is i t) in
        subst (TakesAll setup n w (take taken given)) (sym new)
        (part-heard offer setup i.codec_is c w n given taken told starved may place i.fed room e k)

  -- room for a reply or an entry wasn't there
  pub none-made : (setup : Setup) (calls : CallsState) (n : ℕ) (c : ConnectionState) (w : World) (bytes : List ℕ) → IsTaking setup calls n c w
      → 0 < length bytes → is_crowded w ≡ false → Walks setup (feeding n bytes 0 90) w (with_part calls n c w)
  none-made setup calls n c w bytes i some room =
      subst (Walks setup (feeding n bytes 0 90) w) (sym (part-is calls n c w i.part)) (feeds-nothing setup n w bytes some room)

  -- ---- where the places are full

  pub none-free : (setup : Setup) (calls : CallsState) (n : ℕ) (c : ConnectionState) (w : World) (bytes : List ℕ) (free : ℕ) → IsTaking setup calls n c w
      → pending calls ≡ 1024 → 0 < length bytes → IsFree c.reassembler bytes free → free ≡ 0
      → Walks setup (feeding n bytes 0 31) w (with_part calls n c w)
  none-free setup calls n c w bytes free i full some f z =
      let less : free < length bytes = omega (arith, some, z) in
      let stop = full-stop offer setup i.codec_is c w n bytes free c.reassembler i.fed refl (crowded calls n c w i.part full) less (f.next less) in
      let none : bytes_taken w n (take free bytes) ≡ w = no-bytes w n free bytes z in
      subst (Walks setup (feeding n bytes 0 31) w) (sym (part-is calls n c w i.part))
      (subst (λ (k : ℕ). Walks setup (feeding n bytes k 31) w w) z (subst (Walks setup (feeding n bytes free 31) w) none stop))

  module _ (setup : Setup) (calls : CallsState) (n : ℕ) (c c' : ConnectionState) (w : World) (bytes : List ℕ) (free taken : ℕ) (arrival : Arrival) where
    pub none-took-free : IsTaking setup calls n c w → 0 < length bytes → IsFree c.reassembler bytes free → (free ≡ 0 → ⊥)
        → TakesFrom offer c c' (take free bytes) taken arrival → arrival ≡ arrivals.NoMemory → Walks setup (feeding n bytes taken 90) w (with_part calls n c' w)
    none-took-free i some f z t e =
        none-took setup calls n c c' w bytes (take free bytes) taken arrival i t e
        (full-nothing offer setup i.codec_is c w n bytes free c.reassembler i.fed refl some z f.none)

    pub fault-took-free : (fault : StreamFault) → IsTaking setup calls n c w → IsFree c.reassembler bytes free
        → TakesFrom offer c c' (take free bytes) taken arrival → arrival ≡ arrivals.Fault fault → AdmitsNone arrival
        → Walks setup (feeding n bytes taken (fault_number fault)) w (with_part calls n c' w)
    fault-took-free fault i f t e none =
        let size = length-take-le free bytes f.within in
        let within = t.within in
        let a = arrived setup calls n c c' w bytes (take free bytes) taken arrival (arrivals.Fault fault) e t in
        full-fault offer setup i.codec_is c w (with_part calls n c' w) n bytes free taken fault i.fed (subst AdmitsNone e none) f.within (omega (
          arith,
          size,
          within,
        ))
        (took-is setup calls n c c' w bytes (take free bytes) taken arrival i t) a.2

    all_free : IsFree c.reassembler bytes free → TakesFrom offer c c' (take free bytes) taken arrival → arrival ≡ arrivals.More → taken ≡ free
    all_free f t e =
        let a = arrived setup calls n c c' w bytes (take free bytes) taken arrival arrivals.More e t in
        let size = length-take-le free bytes f.within in
        omega (arith, a.0, size)

    pub stops-free : IsTaking setup calls n c w → pending calls ≡ 1024 → IsFree c.reassembler bytes free → free < length bytes
        → TakesFrom offer c c' (take free bytes) taken arrival → arrival ≡ arrivals.More → Walks setup (feeding n bytes taken 31) w (with_part calls n c' w)
    stops-free i full f less t e =
        let all = all_free f t e in
        let size = length-take-le free bytes f.within in
        let stop = full-stop offer setup i.codec_is c w n bytes free c.reassembler i.fed refl (crowded calls n c w i.part full) less (f.next less) in
        let new : bytes_taken w n (take free bytes) ≡ with_part calls n c' w =
        sym (took-is setup calls n c c' w bytes (take free bytes) taken arrival i t
        ∙ ap (bytes_taken w n) (take_all taken (take free bytes) (omega (arith, all, size)))) in
        subst (λ (k : ℕ). Walks setup (feeding n bytes k 31) w (with_part calls n c' w)) (sym all) (subst (Walks setup (feeding n bytes free 31) w) new stop)

    pub more-free : IsTaking setup calls n c w → IsFree c.reassembler bytes free → TakesFrom offer c c' (take free bytes) taken arrival
        → arrival ≡ arrivals.More
        → TakesAll setup n w (take taken bytes) (with_part calls n c' w)
    more-free i f t e =
        let all = all_free f t e in
        subst (λ (bs : List ℕ). TakesAll setup n w bs (with_part calls n c' w)) (take-within taken free bytes (omega (arith, all)))
        (more-took setup calls n c c' w bytes (take free bytes) taken arrival i t e)
