use Rattle.std.proofs.Common.{◌++◌, sym, ap, ◌∙◌, length, take, refl, Ok, Err, arith}
use Rattle.std.specs.Prelude.{option_map}
use Rattle.nfs_model.specs.World.{Scanned}
use Rattle.rpc_record.specs.declared.reassembler.Step.TheVariants as steps
use Rattle.engine_feed.specs.Numbers.{fault_number}
use Rattle.engine_feed.specs.Seen.{heard_of}
use Rattle.engine_feed.specs.declared.stop.StreamFault.{StreamFault}
use Rattle.engine_feed.specs.lemmas.Reading.{call_read, refusal_read, undecoded_read, fault_read}
use Rattle.engine_feed.specs.Streams.{scan_stream}
use Rattle.engine_feed.proofs.Arriving.{took_from, took_as, in-step, read_as, ended-as, length_taken}
use Rattle.engine_feed.proofs.Faults.{call-anyway, fault-anyway}
use Rattle.engine_feed.proofs.arrival.take_bytes.Goals as goal

pub slice_bounds-keep-end : goal.slice_bounds-keep-end
slice_bounds-keep-end c =
    let t = took_from c.args.offer c.args.from.now c.args.bytes.now c.feed-taken.result.0 c.feed-taken.result.1 c.feed-taken.new.self c.requires.in_step
    c.requires.taking.faultless c.feed-taken.ensures.feeds in
    sym (length_taken c.feed-taken.result.0 c.args.bytes.now t.0.within)

pub returns-in-More-clause-takes : goal.returns-in-More-clause-takes
returns-in-More-clause-takes c =
    let from = c.args.from.now in
    let taken = c.feed-taken.result.0 in
    let t = took_as c.args.offer from c.args.bytes.now taken c.feed-taken.result.1 steps.More c.feed-taken.new.self c.requires.in_step
    c.requires.taking.faultless
    c.in-More.is c.feed-taken.ensures.feeds in
    let size = length_taken taken c.args.bytes.now t.0.within in
    record {
      arrives = (t.1.0, t.1.1);
      within = t.0.within;
      stream = c.keep.ensures.items;
      len = omega (arith, c.keep.ensures.len, size);
      room = c.keep.ensures.room;
      output = refl;
      owed = refl;
      in_step = in-step _ (from.stream.items ++ take taken c.args.bytes.now) c.keep.ensures.items t.0.to
          (λ any.
          let u = took_as any from c.args.bytes.now taken c.feed-taken.result.1 steps.More c.feed-taken.new.self c.requires.in_step
          c.requires.taking.faultless c.in-More.is c.feed-taken.ensures.feeds in (
            ap (λ (s : Scanned). s.fault) u.1.2 ∙ c.requires.in_step.fault any,
            ap (λ (s : Scanned). length s.served) u.1.2 ∙ c.requires.in_step.records any,
          ))
          (omega (arith, c.requires.in_step.few, c.keep.ensures.len));
      faultless = c.requires.taking.faultless;
    }

pub returns-in-Fault-clause-takes : goal.returns-in-Fault-clause-takes
returns-in-Fault-clause-takes c =
    let from = c.args.from.now in
    let taken = c.feed-taken.result.0 in
    let t = took_as c.args.offer from c.args.bytes.now taken c.feed-taken.result.1 steps.Fault c.feed-taken.new.self c.requires.in_step
    c.requires.taking.faultless
    c.in-Fault.is c.feed-taken.ensures.feeds in
    let size = length_taken taken c.args.bytes.now t.0.within in
    record {
      arrives = (t.1.0, t.0.within, t.1.1);
      within = t.0.within;
      stream = c.keep.ensures.items;
      len = omega (arith, c.keep.ensures.len, size);
      room = c.keep.ensures.room;
      output = refl;
      owed = refl;
      in_step = in-step _ (from.stream.items ++ take taken c.args.bytes.now) c.keep.ensures.items t.0.to
          (λ any.
          let u = took_as any from c.args.bytes.now taken c.feed-taken.result.1 steps.Fault c.feed-taken.new.self c.requires.in_step
          c.requires.taking.faultless c.in-Fault.is c.feed-taken.ensures.feeds in (
            ap (λ (s : Scanned). s.fault) u.1.1.complete,
            ap (λ (s : Scanned). length s.served) u.1.1.complete ∙ c.requires.in_step.records any,
          ))
          (omega (arith, c.requires.in_step.few, c.keep.ensures.len));
      faultless = tt;
    }

pub returns-in-Call-clause-takes : goal.returns-in-Call-clause-takes
returns-in-Call-clause-takes c =
    let from = c.args.from.now in
    let taken = c.feed-taken.result.0 in
    let t = took_as c.args.offer from c.args.bytes.now taken c.feed-taken.result.1 (steps.Record c.in-Record.record) c.feed-taken.new.self c.requires.in_step
    c.requires.taking.faultless c.in-Record.is c.feed-taken.ensures.feeds in
    let r = call_read c.args.offer c.in-Record.record.items _ c.in-Ok.heard _ _ c.in-Ok.is c.in-Call.is c.read_record_of.ensures in
    let k = read_as c.args.offer _ _ _ _ (Ok (heard_of c.in-Ok.heard)) refl r t.1.1 in
    let size = length_taken taken c.args.bytes.now t.0.within in
    record {
      arrives = (t.1.0, t.0.within, k);
      within = t.0.within;
      stream = c.keep.ensures.items;
      len = omega (arith, c.keep.ensures.len, size);
      room = c.keep.ensures.room;
      output = refl;
      owed = refl;
      in_step = in-step _ (from.stream.items ++ take taken c.args.bytes.now) c.keep.ensures.items t.0.to
          (λ any.
          let u = took_as any from c.args.bytes.now taken c.feed-taken.result.1 (steps.Record c.in-Record.record) c.feed-taken.new.self
          c.requires.in_step c.requires.taking.faultless c.in-Record.is c.feed-taken.ensures.feeds in
          let a = call-anyway c.args.offer any c.in-Record.record.items (scan_stream any from.stream.items) from.records
          (c.requires.in_step.records any) (heard_of c.in-Ok.heard) r in (
            ap (λ (s : Scanned). s.fault) u.1.1.complete ∙ a.fault_is ∙ sym (ap (option_map fault_number) c.requires.taking.faultless),
            ap (λ (s : Scanned). length s.served) u.1.1.complete ∙ a.served_is,
          ))
          (omega (arith, c.requires.in_step.few, c.keep.ensures.len, t.1.0, size));
      faultless = c.requires.taking.faultless;
    }

pub returns-in-Refused-clause-takes : goal.returns-in-Refused-clause-takes
returns-in-Refused-clause-takes c =
    let from = c.args.from.now in
    let taken = c.feed-taken.result.0 in
    let t = took_as c.args.offer from c.args.bytes.now taken c.feed-taken.result.1 (steps.Record c.in-Record.record) c.feed-taken.new.self c.requires.in_step
    c.requires.taking.faultless c.in-Record.is c.feed-taken.ensures.feeds in
    let r = refusal_read c.args.offer c.in-Record.record.items _ c.in-Ok.heard _ c.in-Ok.is c.in-Refused.is c.read_record_of.ensures in
    let k = read_as c.args.offer _ _ _ _ (Ok (heard_of c.in-Ok.heard)) refl r t.1.1 in
    let size = length_taken taken c.args.bytes.now t.0.within in
    record {
      arrives = (t.1.0, t.0.within, k);
      within = t.0.within;
      stream = c.keep.ensures.items;
      len = omega (arith, c.keep.ensures.len, size);
      room = c.keep.ensures.room;
      output = refl;
      owed = refl;
      in_step = in-step _ (from.stream.items ++ take taken c.args.bytes.now) c.keep.ensures.items t.0.to
          (λ any.
          let u = took_as any from c.args.bytes.now taken c.feed-taken.result.1 (steps.Record c.in-Record.record) c.feed-taken.new.self
          c.requires.in_step c.requires.taking.faultless c.in-Record.is c.feed-taken.ensures.feeds in
          let a = call-anyway c.args.offer any c.in-Record.record.items (scan_stream any from.stream.items) from.records
          (c.requires.in_step.records any) (heard_of c.in-Ok.heard) r in (
            ap (λ (s : Scanned). s.fault) u.1.1.complete ∙ a.fault_is ∙ sym (ap (option_map fault_number) c.requires.taking.faultless),
            ap (λ (s : Scanned). length s.served) u.1.1.complete ∙ a.served_is,
          ))
          (omega (arith, c.requires.in_step.few, c.keep.ensures.len, t.1.0, size));
      faultless = c.requires.taking.faultless;
    }

pub returns-in-Undecoded-clause-takes : goal.returns-in-Undecoded-clause-takes
returns-in-Undecoded-clause-takes c =
    let from = c.args.from.now in
    let taken = c.feed-taken.result.0 in
    let t = took_as c.args.offer from c.args.bytes.now taken c.feed-taken.result.1 (steps.Record c.in-Record.record) c.feed-taken.new.self c.requires.in_step
    c.requires.taking.faultless c.in-Record.is c.feed-taken.ensures.feeds in
    let r = undecoded_read c.args.offer c.in-Record.record.items _ c.in-Ok.heard c.in-Ok.is c.in-Undecoded.is c.read_record_of.ensures in
    let k = read_as c.args.offer _ _ _ _ (Ok (record { xid = c.in-Ok.heard.xid; asked = r.0 })) refl r.2 t.1.1 in
    let size = length_taken taken c.args.bytes.now t.0.within in
    record {
      arrives = (t.1.0, t.0.within, (r.0, r.1, k));
      within = t.0.within;
      stream = c.keep.ensures.items;
      len = omega (arith, c.keep.ensures.len, size);
      room = c.keep.ensures.room;
      output = refl;
      owed = refl;
      in_step = in-step _ (from.stream.items ++ take taken c.args.bytes.now) c.keep.ensures.items t.0.to
          (λ any.
          let u = took_as any from c.args.bytes.now taken c.feed-taken.result.1 (steps.Record c.in-Record.record) c.feed-taken.new.self
          c.requires.in_step c.requires.taking.faultless c.in-Record.is c.feed-taken.ensures.feeds in
          let a = call-anyway c.args.offer any c.in-Record.record.items (scan_stream any from.stream.items) from.records
          (c.requires.in_step.records any) (record { xid = c.in-Ok.heard.xid; asked = r.0 }) r.2 in (
            ap (λ (s : Scanned). s.fault) u.1.1.complete ∙ a.fault_is ∙ sym (ap (option_map fault_number) c.requires.taking.faultless),
            ap (λ (s : Scanned). length s.served) u.1.1.complete ∙ a.served_is,
          ))
          (omega (arith, c.requires.in_step.few, c.keep.ensures.len, t.1.0, size));
      faultless = c.requires.taking.faultless;
    }

pub returns-in-Err-clause-takes : goal.returns-in-Err-clause-takes
returns-in-Err-clause-takes c =
    let from = c.args.from.now in
    let taken = c.feed-taken.result.0 in
    let t = took_as c.args.offer from c.args.bytes.now taken c.feed-taken.result.1 (steps.Record c.in-Record.record) c.feed-taken.new.self c.requires.in_step
    c.requires.taking.faultless c.in-Record.is c.feed-taken.ensures.feeds in
    let r = fault_read c.args.offer c.in-Record.record.items _ c.in-Err.fault c.in-Err.is c.read_record_of.ensures
    ∙ ap (λ (f : StreamFault). Err (fault_number f)) (sym c.stream_fault-stopped.ensures) in
    let k = ended-as c.args.offer _ _ (fault_number c.stream_fault-stopped.result)
    (read_as c.args.offer _ _ _ _ (Err (fault_number c.stream_fault-stopped.result)) refl r t.1.1) in
    let size = length_taken taken c.args.bytes.now t.0.within in
    record {
      arrives = (t.1.0, t.0.within, k);
      within = t.0.within;
      stream = c.keep.ensures.items;
      len = omega (arith, c.keep.ensures.len, size);
      room = c.keep.ensures.room;
      output = refl;
      owed = refl;
      in_step = in-step _ (from.stream.items ++ take taken c.args.bytes.now) c.keep.ensures.items t.0.to
          (λ any.
          let u = took_as any from c.args.bytes.now taken c.feed-taken.result.1 (steps.Record c.in-Record.record) c.feed-taken.new.self
          c.requires.in_step c.requires.taking.faultless c.in-Record.is c.feed-taken.ensures.feeds in
          let a = fault-anyway c.args.offer any c.in-Record.record.items (scan_stream any from.stream.items) from.records
          (c.requires.in_step.records any) (fault_number c.stream_fault-stopped.result) r in (
            ap (λ (s : Scanned). s.fault) u.1.1.complete ∙ a.fault_is,
            ap (λ (s : Scanned). length s.served) u.1.1.complete ∙ a.served_is,
          ))
          (omega (arith, c.requires.in_step.few, c.keep.ensures.len));
      faultless = tt;
    }
