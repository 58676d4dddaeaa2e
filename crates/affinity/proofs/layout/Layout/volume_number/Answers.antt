use Rattle.std.proofs.Common.{arith}
use Rattle.affinity.specs.Layout.{layout_of}
use Rattle.affinity.specs.lemmas.Places.{volume_number_first, volume_number_more}
use Rattle.affinity.proofs.layout.Layout.volume_number.Goals as goal

pub loop-earlier-init : goal.loop-earlier-init
loop-earlier-init c =
    let first = volume_number_first (layout_of c.args.self.now) in
    let most = c.aggregate_count-number.ensures.most in
    let count = c.aggregate_count-number.ensures.count in
    (omega arith, omega arith)

pub loop-earlier-preserved : goal.loop-earlier-preserved
loop-earlier-preserved c =
    let more = volume_number_more (layout_of c.args.self.now) c.loop-earlier.earlier (omega arith) in
    let here = c.loop-earlier.invariant in
    let number = here.0 in
    let most = here.1 in
    let nodes = c.volume_nodes-number.ensures.nodes in
    let few = c.volume_nodes-number.ensures.most in
    (omega arith, omega arith)
