use Rattle.std.specs.Prelude.{None}
use Rattle.filer_state.specs.state.Lenses.{logical_lens}
use Rattle.filer_state.specs.nodes.Moving.{inodes_untied, entries_untied}
use Rattle.std.proofs.Common.{◌∙◌}
use Rattle.filer_state.specs.nodes.lemmas.Moved.{sound-moved, node-names}
use Rattle.filer_state.specs.nodes.lemmas.Hung.{apart, apart-turned}
use Rattle.filer_state.specs.nodes.lemmas.MovedNodes.{nodes-moved}
use Rattle.filer_state.proofs.nodes.laws.nodes_are_moved.Goals as goal

pub returns : goal.returns
returns c = λ p from to hands hands' made from_parent to_parent stands may one as_many from_says to_says sound weigh. (
  sound-moved p from to sound.well_formed stands may one (as_many ∙ node-names p from to stands may one) hands hands' made weigh sound,
  nodes-moved (logical_lens.of p) from to from_parent to_parent stands.there from_says may.there may.node to_says
      (apart (inodes_untied from p.logical.inodes) (entries_untied from p.logical.directories) to None may)
      (apart-turned (inodes_untied from p.logical.inodes) (entries_untied from p.logical.directories) to None may) as_many,
)
