-- What was read of a record, as what it asks.
use Rattle.std.specs.Prelude.{◌≡◌, ℕ, List, Result, Ok, Err, IsTrue}
use Rattle.std.proofs.Common.{refl, sym, ap, subst, ◌∙◌}
use Rattle.nfs_model.specs.Types as types
use Rattle.nfs_model.specs.Serial.Starve.{may_starve_at_decoding}
use Rattle.rpc_msg.specs.declared.fault.RecordFault.{RecordFault}
use Rattle.rpc_msg.specs.declared.fault.RecordFault.TheVariants as faults
use Rattle.rpc_msg.specs.declared.record.Heard.{Heard}
use Rattle.rpc_msg.specs.declared.record.Request.{Request}
use Rattle.rpc_msg.specs.declared.record.Request.TheVariants as requests
use Rattle.rpc_msg.specs.declared.offer.Offer.{Offer}
use Rattle.rpc_msg.specs.Records as records
use Rattle.rpc_msg.specs.Seen.{Hears, IsRequestOf, fault_number as record_fault}
use Rattle.engine_feed.specs.Codec.{heard}
use Rattle.engine_feed.specs.Numbers.{fault_number}
use Rattle.engine_feed.specs.Records.{fault_of}
use Rattle.engine_feed.specs.Seen.{asked_of, heard_of}
use Rattle.engine_feed.specs.lemmas.Codec.{heard_is}

numbers_same : (fault : RecordFault) → fault_number (fault_of fault) ≡ record_fault fault
numbers_same faults.BadHeader = refl
numbers_same faults.NotACall = refl

module _ (offer : Offer) (bytes : List ℕ) where
  told_as : (read as_this : Result Heard RecordFault) → read ≡ as_this → Hears read (records.heard_by offer bytes)
      → Hears as_this (records.heard_by offer bytes)
  told_as read as_this is told = subst (λ (r : Result Heard RecordFault). Hears r (records.heard_by offer bytes)) is told

  asks : (h : Heard) (request : Request) → h.request ≡ request → Hears (Ok h) (records.heard_by offer bytes)
      → (IsRequestOf h.xid request (records.heard_by offer bytes) → records.heard_by offer bytes ≡ Ok (record { xid = h.xid; asked = asked_of request }))
      → heard offer bytes ≡ Ok (heard_of h)
  asks h request is told reads =
      heard_is offer bytes ∙ reads (subst (λ (r : Request). IsRequestOf h.xid r (records.heard_by offer bytes)) is told)
      ∙ ap (λ (x : types.Asked). Ok (record { xid = h.xid; asked = x })) (sym (ap asked_of is))

  pub call_read : (read : Result Heard RecordFault) (h : Heard) (call : _) (caller : _) → read ≡ Ok h → h.request ≡ requests.Call call caller
      → Hears read (records.heard_by offer bytes) → heard offer bytes ≡ Ok (heard_of h)
  call_read read h call caller is of told = asks h (requests.Call call caller) of (told_as read (Ok h) is told) (λ t. t)

  pub refusal_read : (read : Result Heard RecordFault) (h : Heard) (refusal : _) → read ≡ Ok h → h.request ≡ requests.Refused refusal
      → Hears read (records.heard_by offer bytes) → heard offer bytes ≡ Ok (heard_of h)
  refusal_read read h refusal is of told = asks h (requests.Refused refusal) of (told_as read (Ok h) is told) (λ t. t)

  -- where memory ran out for a name or data, only the xid
  pub undecoded_read : (read : Result Heard RecordFault) (h : Heard) → read ≡ Ok h → h.request ≡ requests.Undecoded
      → Hears read (records.heard_by offer bytes)
      → (asked : types.Asked) × IsTrue (may_starve_at_decoding asked) × (heard offer bytes ≡ Ok (record { xid = h.xid; asked = asked }))
  undecoded_read read h is of told =
      let q = subst (λ (r : Request). IsRequestOf h.xid r (records.heard_by offer bytes)) of (told_as read (Ok h) is told) in
      (types.Ask q.0 q.1.0, q.1.1, heard_is offer bytes ∙ q.1.2)

  pub fault_read : (read : Result Heard RecordFault) (fault : RecordFault) → read ≡ Err fault → Hears read (records.heard_by offer bytes)
      → heard offer bytes ≡ Err (fault_number (fault_of fault))
  fault_read read fault is told = heard_is offer bytes ∙ told_as read (Err fault) is told ∙ ap (λ n. Err n) (sym (numbers_same fault))
