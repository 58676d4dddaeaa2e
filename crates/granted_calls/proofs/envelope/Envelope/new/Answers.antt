use Rattle.granted_calls.proofs.envelope.Envelope.new.Goals as goal
use Rattle.granted_calls.proofs.envelope.Envelope.new.Goals.{in-Some, in-None+in_ok-served-in-None}

pub returns : goal.returns
returns c = elim c.match-spent.branch [
  | in-Some w ↦ rw (w.served-is) (w.with-served.ensures c.args.room)
  | in-None+in_ok-served-in-None w ↦ rw (w.served-is) (w.in_ok-served-in-None.ensures c.args.room)
]
