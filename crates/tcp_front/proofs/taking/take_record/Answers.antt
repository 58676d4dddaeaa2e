use Rattle.std.proofs.Common.{◌≡◌, ℕ, ◌+◌, List, [], ◌∷◌, length, Bor, Option, Some, IfSome, refl, take, subst, arith}
use Rattle.affinity.specs.Layout.{layout_of}
use Rattle.rpc_record.specs.Machine.{start}
use Rattle.rpc_record.specs.Records.{BeginsWith}
use Rattle.engine_feed.specs.Codec.{heard}
use Rattle.tcp_front.specs.declared.next_record.Next.{Next}
use Rattle.tcp_front.specs.Steps.{Comes}
use Rattle.tcp_front.proofs.Adding.{Reads}
use Rattle.tcp_front.proofs.Taken.{record-within, taken-part, taken-stopped, taken-there, taken-whole}
use Rattle.tcp_front.proofs.taking.take_record.Goals as goal

pub returns-in-Some-clause-within : goal.returns-in-Some-clause-within
returns-in-Some-clause-within g c =
    let at = c.args.stream.now.reassembler in
    let bytes = c.args.bytes.now in
    let begins = subst (λ (o : Option (Bor (List ℕ))). IfSome o (λ made. (at ≡ Some start) × BeginsWith made.now bytes)) c.in-Some.is
    c.whole.ensures.begins in
    record-within c.in-Some.record.now bytes begins.1

pub returns-in-Some-clause-taken : goal.returns-in-Some-clause-taken
returns-in-Some-clause-taken g c =
    let s = c.args.stream.now in
    let at = s.reassembler in
    let bytes = c.args.bytes.now in
    let made = c.in-Some.record.now in
    let begins = subst (λ (o : Option (Bor (List ℕ))). IfSome o (λ made. (at ≡ Some start) × BeginsWith made.now bytes)) c.in-Some.is
    c.whole.ensures.begins in
    let reads = subst (λ (o : Option (Bor (List ℕ))). IfSome o (λ made. Reads at (take (4 + length made.now) bytes) (made.now ∷ []) at))
    c.in-Some.is c.whole.ensures.reads in
    taken-there g.S.RecordSink.came (layout_of c.args.layout.now) c.args.offer s c.give_read.new.stream c.args.sink.now c.give_read.new.sink
    (take (4 + length made) bytes) made c.give_read.result reads begins.0 (c.give_read.ensures.given c.args.offer made c.read-read.ensures)

pub returns-in-More-clause-some : goal.returns-in-More-clause-some
returns-in-More-clause-some g c = λ none some.
    let comes = subst (λ (n : Next). Comes c.args.offer c.args.stream.now.reassembler c.args.bytes.now c.next_record-taken.result.0 n
    c.next_record-taken.new.reassembler) c.in-More.is (c.next_record-taken.ensures.comes c.args.offer) in
    let all = comes.0 in
    omega (arith, all, some)

pub returns-in-More-clause-taken : goal.returns-in-More-clause-taken
returns-in-More-clause-taken g c =
    let s = c.args.stream.now in
    let bytes = c.args.bytes.now in
    let taken = c.next_record-taken.result.0 in
    let comes = subst (λ (n : Next). Comes c.args.offer s.reassembler bytes taken n c.next_record-taken.new.reassembler) c.in-More.is
    (c.next_record-taken.ensures.comes c.args.offer) in
    taken-part g.S.RecordSink.came (layout_of c.args.layout.now) c.args.offer s _ c.args.sink.now (take taken bytes)
    (g.met.S.RecordSink.came_none c.args.sink.now) comes.1 (refl, refl) refl c.requires.few

pub returns-in-Record-clause-some : goal.returns-in-Record-clause-some
returns-in-Record-clause-some g c = λ none some.
    (subst (λ (n : Next). Comes c.args.offer c.args.stream.now.reassembler c.args.bytes.now c.next_record-taken.result.0 n
    c.next_record-taken.new.reassembler) c.in-Record.is (c.next_record-taken.ensures.comes c.args.offer)).0

pub returns-in-Stopped-clause-taken : goal.returns-in-Stopped-clause-taken
returns-in-Stopped-clause-taken g c =
    let s = c.args.stream.now in
    let bytes = c.args.bytes.now in
    let taken = c.next_record-taken.result.0 in
    let at = c.next_record-taken.new.reassembler in
    taken-stopped g.S.RecordSink.came (layout_of c.args.layout.now) c.args.offer s _ c.args.sink.now bytes taken at c.in-Stopped.stopped
    (g.met.S.RecordSink.came_none c.args.sink.now)
    (subst (λ (n : Next). Comes c.args.offer s.reassembler bytes taken n at) c.in-Stopped.is (c.next_record-taken.ensures.comes c.args.offer)) (refl, refl) refl

pub returns-in-Record-clause-taken : goal.returns-in-Record-clause-taken
returns-in-Record-clause-taken g c =
    let s = c.args.stream.now in
    let bytes = c.args.bytes.now in
    let taken = c.next_record-taken.result.0 in
    let comes = subst (λ (n : Next). Comes c.args.offer s.reassembler bytes taken n c.next_record-taken.new.reassembler) c.in-Record.is
    (c.next_record-taken.ensures.comes c.args.offer) in
    let to = c.give_joined in
    taken-whole g.S.RecordSink.came (layout_of c.args.layout.now) c.args.offer s _ to.new.stream c.args.sink.now to.new.sink
    (take taken bytes) (heard c.args.offer c.in-Record.record.items) to.result comes.1 (refl, refl) refl to.ensures.given
