use Rattle.affinity.specs.lemmas.Lawful.{aggregate_known, few_aggregates, few_nodes, few_volumes, stripes_either}
use Rattle.affinity.proofs.laws.lawful_layouts_are_small.Goals as goal

pub returns-clause-nodes : goal.returns-clause-nodes
returns-clause-nodes c = few_nodes

pub returns-clause-aggregates : goal.returns-clause-aggregates
returns-clause-aggregates c = few_aggregates

pub returns-clause-volumes : goal.returns-clause-volumes
returns-clause-volumes c = few_volumes

pub returns-clause-aggregate : goal.returns-clause-aggregate
returns-clause-aggregate c layout v lawful there = aggregate_known layout v lawful there

pub returns-clause-stripes : goal.returns-clause-stripes
returns-clause-stripes c = stripes_either
