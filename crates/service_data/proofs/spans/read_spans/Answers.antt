use Rattle.std.proofs.Common.{◌-◌, ◌%◌, arith}
use Rattle.filer_state.specs.state.Sets.{logical_before}
use Rattle.service_data.proofs.Spanned.{two-spans, room-left}
use Rattle.service_data.proofs.spans.read_spans.Goals as goal

pub read_span-requires-else-n-first-2-clause-room : goal.read_span-requires-else-n-first-2-clause-room
read_span-requires-else-n-first-2-clause-room c =
    room-left c.args.into.now c.read_span-else-n-first.new.into (logical_before c.args.held.now).stripes c.args.fileid.0 c.args.offset
    (262144 - c.args.offset % 262144) c.args.n (let more = c.if-n-first.false in omega arith) c.read_span-else-n-first.ensures.bytes
    c.read_span-else-n-first.ensures.capacity c.requires.room

pub returns-else-n-first-clause-bytes : goal.returns-else-n-first-clause-bytes
returns-else-n-first-clause-bytes c =
    two-spans (logical_before c.args.held.now).stripes c.args.fileid.0 c.args.offset (262144 - c.args.offset % 262144) c.args.n
    c.args.into.now.items c.read_span-else-n-first.new.into.items c.read_span-else-n-first-2.new.into.items
    (let more = c.if-n-first.false in omega arith) c.read_span-else-n-first.ensures.bytes c.read_span-else-n-first-2.ensures.bytes
