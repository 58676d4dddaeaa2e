-- Bytes one after another, and the records that they bring.
use Rattle.std.proofs.Common.{◌≡◌, ℕ, List, [], ◌∷◌, ◌++◌, Option, Some, None, Result, Ok, Err, sym, ap, ◌∙◌, append_assoc}
use Rattle.std.proofs.lemmas.List.{append-nil}
use Rattle.rpc_record.specs.Machine.{State, start}
use Rattle.rpc_record.specs.Stream.{read_stream}
use Rattle.nfs_model.specs.World.{Heard, Scanned}
use Rattle.rpc_msg.specs.declared.offer.Offer.{Offer}
use Rattle.engine_feed.specs.Codec.{heard}
use Rattle.engine_feed.specs.Streams.{fault_at, served_of, scan_stream}
use Rattle.tcp_front.specs.Steps.{After, Brings, BringsFirst, BringsRecord, Adds}
use Rattle.tcp_front.proofs.Scanned.{joined, scan-grows, scan-stays, scan-first}

-- what feeding a reassembler says of each stream that stands there
abbrev pub Reads : Option State → List ℕ → List (List ℕ) → Option State → Type 0
Reads at bytes made at' =
    (stream : List ℕ) → (read_stream stream).at ≡ at
    → read_stream (stream ++ bytes) ≡ record { records = (read_stream stream).records ++ made; at = at' }

module _ (offer : Offer) where
  -- ---- one record

  abbrev with_served : List Heard → Result Heard ℕ → Option State → Scanned
  with_served hs r at = joined hs (served_of (r ∷ []) (fault_at at))

  pub comes-record : (at at' : Option State) (bytes : List ℕ) (made : List ℕ) → Reads at bytes (made ∷ []) at' → at' ≡ Some start
      → (r : Result Heard ℕ) → heard offer made ≡ r → BringsRecord offer at bytes r at'
  comes-record at at' bytes made reads begins (Ok h) is = record {
    brings = λ fed e sound.
        let hs = (scan_stream offer fed).served in
        scan-grows offer fed bytes (made ∷ []) at' sound (reads fed e)
        ∙ ap (λ (r : Result Heard ℕ). with_served hs r at') is
        ∙ ap (λ (a : Option State). with_served hs (Ok h) a) begins;
    leads = λ fed e sound. ap (λ r. r.at) (reads fed e);
  }
  comes-record at at' bytes made reads begins (Err fault) is = λ fed e sound.
      scan-grows offer fed bytes (made ∷ []) at' sound (reads fed e)
      ∙ ap (λ (r : Result Heard ℕ). with_served (scan_stream offer fed).served r at') is

  pub comes-fault : (at at' : Option State) (bytes : List ℕ) → Reads at bytes [] at' → at' ≡ None → Brings offer at bytes [] (Some 11)
  comes-fault at at' bytes reads ends fed e sound =
      scan-grows offer fed bytes [] at' sound (reads fed e)
      ∙ ap (λ (a : Option State). joined (scan_stream offer fed).served (served_of [] (fault_at a))) ends

  -- ---- more bytes

  -- where a stream stands after bytes at no fault
  fault-after : (at at' : Option State) (bytes : List ℕ) (hs : List Heard) → Adds offer at bytes hs at'
      → After offer at (λ fed. (scan_stream offer (fed ++ bytes)).fault ≡ None)
  fault-after at at' bytes hs a fed e sound = ap (λ (s : Scanned). s.fault) (a.brings fed e sound)

  served-after : (at at' : Option State) (bytes : List ℕ) (hs : List Heard) → Adds offer at bytes hs at'
      → After offer at (λ fed. (scan_stream offer (fed ++ bytes)).served ≡ (scan_stream offer fed).served ++ hs)
  served-after at at' bytes hs a fed e sound = ap (λ (s : Scanned). s.served) (a.brings fed e sound)

  module _ (at mid : Option State) (xs ys : List ℕ) (hs : List Heard) (first : Adds offer at xs hs mid) where
    pub brings-more : (ks : List Heard) (fault : Option ℕ) → Brings offer mid ys ks fault → Brings offer at (xs ++ ys) (hs ++ ks) fault
    brings-more ks fault second fed e sound =
        ap (scan_stream offer) (sym (append_assoc fed xs ys))
        ∙ second (fed ++ xs) (first.leads fed e sound) (fault-after at mid xs hs first fed e sound)
        ∙ ap (λ (l : List Heard). record { served = l ++ ks; fault = fault }) (served-after at mid xs hs first fed e sound)
        ∙ ap (λ (l : List Heard). record { served = l; fault = fault }) (append_assoc (scan_stream offer fed).served hs ks)

    pub first-more : (ks : List Heard) → BringsFirst offer mid ys ks → BringsFirst offer at (xs ++ ys) (hs ++ ks)
    first-more ks second fed e sound =
        let more = second (fed ++ xs) (first.leads fed e sound) (fault-after at mid xs hs first fed e sound) in (
          more.0,
          ap (λ (l : List ℕ). (scan_stream offer l).served) (sym (append_assoc fed xs ys))
              ∙ more.1
              ∙ ap (λ (l : List Heard). l ++ (ks ++ more.0)) (served-after at mid xs hs first fed e sound)
              ∙ append_assoc (scan_stream offer fed).served hs (ks ++ more.0)
              ∙ ap (λ (l : List Heard). (scan_stream offer fed).served ++ l) (sym (append_assoc hs ks more.0)),
        )

    pub adds-more : (ks : List Heard) (end : Option State) → Adds offer mid ys ks end → Adds offer at (xs ++ ys) (hs ++ ks) end
    adds-more ks end second = record {
      brings = brings-more ks None second.brings;
      leads = λ fed e sound. ap (λ (l : List ℕ). (read_stream l).at) (sym (append_assoc fed xs ys))
          ∙ second.leads (fed ++ xs) (first.leads fed e sound) (fault-after at mid xs hs first fed e sound);
    }

  -- bytes that aren't looked at any more
  pub brings-longer : (at : Option State) (bytes rest : List ℕ) (hs : List Heard) (n : ℕ) → Brings offer at bytes hs (Some n)
      → Brings offer at (bytes ++ rest) hs (Some n)
  brings-longer at bytes rest hs n b fed e sound =
      let is = b fed e sound in
      ap (scan_stream offer) (sym (append_assoc fed bytes rest)) ∙ scan-stays offer (fed ++ bytes) rest n (ap (λ (s : Scanned). s.fault) is) ∙ is

  pub first-longer : (at : Option State) (bytes rest : List ℕ) (hs : List Heard) → BringsFirst offer at bytes hs
      → BringsFirst offer at (bytes ++ rest) hs
  first-longer at bytes rest hs b fed e sound =
      let is = b fed e sound in
      let more = scan-first offer (fed ++ bytes) rest in (
        is.0 ++ more.0,
        ap (λ (l : List ℕ). (scan_stream offer l).served) (sym (append_assoc fed bytes rest))
            ∙ more.1
            ∙ ap (λ (l : List Heard). l ++ more.0) is.1
            ∙ append_assoc (scan_stream offer fed).served (hs ++ is.0) more.0
            ∙ ap (λ (l : List Heard). (scan_stream offer fed).served ++ l) (append_assoc hs is.0 more.0),
      )

  -- some of what bytes bring
  pub brings-first : (at at' : Option State) (bytes : List ℕ) (hs ks : List Heard) → Adds offer at bytes (hs ++ ks) at'
      → BringsFirst offer at bytes hs
  brings-first at at' bytes hs ks a fed e sound = (ks, served-after at at' bytes (hs ++ ks) a fed e sound)

  -- no bytes
  pub adds-nothing : (at : Option State) → Adds offer at [] [] at
  adds-nothing at = record {
    brings = λ fed e sound.
        ap (scan_stream offer) (append-nil fed) ∙ ap (λ (f : Option ℕ). record { served = (scan_stream offer fed).served; fault = f }) sound
        ∙ ap (λ (l : List Heard). record { served = l; fault = None }) (sym (append-nil (scan_stream offer fed).served));
    leads = λ fed e sound. ap (λ (l : List ℕ). (read_stream l).at) (append-nil fed) ∙ e;
  }
