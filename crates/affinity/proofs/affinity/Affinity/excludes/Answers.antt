use Rattle.affinity.specs.Affinity.{affinity_of}
use Rattle.affinity.specs.Layout.{layout_of}
use Rattle.affinity.specs.lemmas.Sharing.{tells}
use Rattle.affinity.proofs.affinity.Affinity.excludes.Goals as goal

pub returns-clause-shared : goal.returns-clause-shared
returns-clause-shared c here there =
    tells (layout_of c.args.layout.now) (affinity_of c.args.self) (affinity_of c.args.other) c.meets.result here there c.meets.ensures
