use Rattle.std.proofs.Common.{take}
use Rattle.rpc_record.proofs.Feeding.{look_within, look_fewer, feeds_tell, look_foresees, more_goes_on}
use Rattle.rpc_record.proofs.reassembler.Reassembler.look.Goals as goal

pub returns-clause-within : goal.returns-clause-within
returns-clause-within c = rw c.look_ahead.ensures (look_within c.args.bytes.now c.args.self.now)

pub returns-clause-fewer : goal.returns-clause-fewer
returns-clause-fewer c = λ n less.
    look_fewer c.args.bytes.now c.args.self.now n (rw c.look_ahead.ensures at less)

pub returns-clause-tells : goal.returns-clause-tells
returns-clause-tells c = λ taken step new fed.
    rw c.look_ahead.ensures (feeds_tell c.args.self.now new c.args.bytes.now taken step fed)

pub returns-clause-foresees : goal.returns-clause-foresees
returns-clause-foresees c = λ stream at.
    rw c.look_ahead.ensures (look_foresees stream c.args.bytes.now c.args.self.now at)

pub returns-clause-goes_on : goal.returns-clause-goes_on
returns-clause-goes_on c = λ stream n at less.
    more_goes_on stream (take n c.args.bytes.now) c.args.self.now at (look_fewer c.args.bytes.now c.args.self.now n (rw c.look_ahead.ensures at less))
