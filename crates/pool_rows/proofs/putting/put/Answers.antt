use Rattle.std.proofs.Common.{refl}
use Rattle.granted_calls.specs.Filers.{layout_in}
use Rattle.granted_calls.specs.shared_waiting.Passes.{known}
use Rattle.granted_calls.specs.lemmas.Fitting.{fits-by}
use Rattle.pool_rows.proofs.putting.put.Goals as goal

pub loop-init : goal.loop-init
loop-init g c =
    let m = c.message_of-next in
    record {
      of = c.requires.of;
      same = refl;
      fits = fits-by (layout_in c.args.filer.now) (known c.args.pass.now) m.result c.requires.layout m.ensures;
    }
