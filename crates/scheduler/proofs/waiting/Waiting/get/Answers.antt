use Rattle.scheduler.proofs.Taken.{got}
use Rattle.scheduler.proofs.waiting.Waiting.get.Goals as goal

pub returns : goal.returns
returns g c =
    let s = c.self.inside in
    got s.messages.items c.deref.result.now c.args.self.now c.cell_at-cell.result c.args.place c.index.result.now _ c.self.view_is c.deref.ensures.value
    c.cell_at-cell.ensures.there c.cell_at-cell.ensures.place c.index.ensures c.as_ref.ensures.value
