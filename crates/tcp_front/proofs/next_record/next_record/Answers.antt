use Rattle.std.proofs.Common.{take, refl, subst}
use Rattle.rpc_record.specs.declared.reassembler.Step.{Step}
use Rattle.rpc_record.specs.Feeds.{Feeds, given}
use Rattle.engine_feed.specs.Codec.{heard}
use Rattle.tcp_front.proofs.Adding.{Reads, comes-record, comes-fault}
use Rattle.tcp_front.proofs.next_record.next_record.Goals as goal

pub returns-in-Record-clause-comes : goal.returns-in-Record-clause-comes
returns-in-Record-clause-comes c offer =
    let at = c.args.reassembler.now in
    let bytes = c.args.bytes.now in
    let taken = c.feed-taken.result.0 in
    let at' = c.feed-taken.new.self in
    let fed = subst (λ (s : Step). Feeds at bytes taken s at') c.in-Record.is c.feed-taken.ensures.feeds in
    let reads = subst (λ (s : Step). Reads at (take taken bytes) (given s) at') c.in-Record.is c.feed-taken.ensures.reads in
    (fed.0, comes-record offer at at' (take taken bytes) c.in-Record.record.items reads fed.3 (heard offer c.in-Record.record.items) refl)

pub returns-in-Fault-clause-comes : goal.returns-in-Fault-clause-comes
returns-in-Fault-clause-comes c offer =
    let at = c.args.reassembler.now in
    let bytes = c.args.bytes.now in
    let taken = c.feed-taken.result.0 in
    let at' = c.feed-taken.new.self in
    let fed = subst (λ (s : Step). Feeds at bytes taken s at') c.in-Fault.is c.feed-taken.ensures.feeds in
    let reads = subst (λ (s : Step). Reads at (take taken bytes) (given s) at') c.in-Fault.is c.feed-taken.ensures.reads in
    comes-fault offer at at' (take taken bytes) reads fed.2
