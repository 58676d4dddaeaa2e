use Rattle.std.proofs.Common.{ℕ, ◌<◌, get_or, take, arith}
use Rattle.rpc_record.proofs.Came.{feeds_say}
use Rattle.rpc_record.proofs.Feeding.{more_gives_nothing, feeds_fewer, feeds_read, more_goes_on}
use Rattle.rpc_record.proofs.reassembler.Reassembler.feed.Goals as goal

pub returns-clause-nothing : goal.returns-clause-nothing
returns-clause-nothing c = λ more.
    more_gives_nothing c.args.bytes.now c.args.self.now c.advance.new.self c.advance.result.0 c.advance.result.1 more c.advance.ensures

pub returns-clause-fewer : goal.returns-clause-fewer
returns-clause-fewer c = λ n less.
    feeds_fewer c.args.bytes.now c.args.self.now c.advance.new.self c.advance.result.0 n c.advance.result.1 c.advance.ensures less

pub returns-clause-says : goal.returns-clause-says
returns-clause-says c = λ came has_come.
    let fits : (i : ℕ) → get_or c.args.bytes.now i 0 < 256 = λ i. omega (arith, c.type_inv.bytes i) in
    feeds_say came c.args.bytes.now c.args.self.now c.advance.new.self c.advance.result.0 c.advance.result.1 fits c.advance.ensures has_come

pub returns-clause-reads : goal.returns-clause-reads
returns-clause-reads c = λ stream at.
    feeds_read stream c.args.bytes.now c.args.self.now c.advance.new.self c.advance.result.0 c.advance.result.1 at c.advance.ensures

pub returns-clause-goes_on : goal.returns-clause-goes_on
returns-clause-goes_on c = λ stream n at less.
    let fewer = feeds_fewer c.args.bytes.now c.args.self.now c.advance.new.self c.advance.result.0 n c.advance.result.1 c.advance.ensures less in
    more_goes_on stream (take n c.args.bytes.now) c.args.self.now at fewer
