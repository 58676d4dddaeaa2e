use Rattle.nfs_model.specs.Tree as trees
use Rattle.affinity.specs.declared.layout.Layout.{Layout}
use Rattle.affinity.specs.Specification.{sized_layout_in}

-- a layout, as the model has it
abbrev pub layout_of : Layout → trees.Layout
layout_of l = sized_layout_in l.aggregates.items l.volumes.items
