-- What is replied on a stream that goes on.
use Rattle.std.proofs.Common.{◌≡◌, ℕ, List, [], ◌++◌, Option, ap, sym, ◌∙◌, append_assoc}
use Rattle.std.proofs.lemmas.List.{append-nil}
use Rattle.std.proofs.lemmas.Grind.{flat_map-append}
use Rattle.std.specs.List.{flat_map}
use Rattle.std.specs.declared.net.ip_addr.IpAddr.{IpAddr}
use Rattle.rpc_record.specs.Machine.{State}
use Rattle.rpc_record.specs.Stream.{Reading, read_stream}
use Rattle.port_mapper.specs.declared.registration.Registration.{Registration}
use Rattle.port_mapper.specs.Conversations.{Replies, reply_record}

-- no bytes complete no records
pub no_replies : (registered : List Registration) (reached : IpAddr) (stream before : List ℕ) (state : Option State)
    → (read_stream stream).at ≡ state → Replies registered reached stream [] before before state
no_replies registered reached stream before state at_is = record {
  records = [];
  reading =
      let same : read_stream (stream ++ []) ≡ read_stream stream = ap read_stream (append-nil stream) in
      let rebuilt : Reading = record { records = (read_stream stream).records; at = state } in
      let ended : read_stream stream ≡ rebuilt = ap (λ s. record { records = (read_stream stream).records; at = s }) at_is in
      let longer : rebuilt ≡ record { records = (read_stream stream).records ++ []; at = state } =
      ap (λ rs. record { records = rs; at = state }) (sym (append-nil (read_stream stream).records)) in
      same ∙ ended ∙ longer;
  replies = sym (append-nil before);
}

-- what some bytes complete, and then some more
pub further_replies : (registered : List Registration) (reached : IpAddr) (stream front piece before between written : List ℕ) (middle state : Option State)
    → Replies registered reached stream front before between middle
    → Replies registered reached (stream ++ front) piece between written state
    → Replies registered reached stream (front ++ piece) before written state
further_replies registered reached stream front piece before between written middle state first second =
    let f = reply_record registered reached in
    record {
      records = first.records ++ second.records;
      reading =
          let regrouped : read_stream (stream ++ (front ++ piece)) ≡ read_stream ((stream ++ front) ++ piece) =
          ap read_stream (sym (append_assoc stream front piece)) in
          let joined : (read_stream (stream ++ front)).records ++ second.records ≡ (read_stream stream).records ++ (first.records ++ second.records) =
          ap (λ (r : Reading). r.records ++ second.records) first.reading ∙ append_assoc (read_stream stream).records first.records second.records in
          regrouped ∙ second.reading ∙ ap (λ rs. record { records = rs; at = state }) joined;
      replies =
          second.replies ∙ ap (λ l. l ++ flat_map f second.records) first.replies
          ∙ append_assoc before (flat_map f first.records) (flat_map f second.records)
          ∙ ap (λ l. before ++ l) (sym (flat_map-append f first.records second.records));
    }
