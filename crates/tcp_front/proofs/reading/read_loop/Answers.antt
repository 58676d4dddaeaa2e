use Rattle.affinity.specs.Layout.{layout_of}
use Rattle.tcp_front.proofs.Ends.{no-block}
use Rattle.tcp_front.proofs.reading.read_loop.Goals as goal

pub returns-in_default : goal.returns-in_default
returns-in_default g c =
    no-block g.R.Read.remaining g.S.RecordSink.came (layout_of c.args.layout.now) c.args.offer c.args.alloc c.args.connection c.args.peer c.args.reader.now
    c.args.sink.now g.met.S.RecordSink.came_none
