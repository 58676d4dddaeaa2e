use Rattle.std.proofs.Common.{arith}
use Rattle.affinity.specs.Layout.{layout_of}
use Rattle.affinity.specs.lemmas.Lawful.{few_nodes}
use Rattle.affinity.proofs.layout.Layout.node_count.Goals as goal

pub returns-clause-most : goal.returns-clause-most
returns-clause-most c =
    let few = few_nodes (layout_of c.args.self.now) c.args.self.now.lawful in
    omega arith
