use Rattle.depot_rule.specs.lemmas.Elsewhere.{put-elsewhere, stays-elsewhere}
use Rattle.depot_rule.proofs.laws.parcels_stay_elsewhere.Goals as goal

pub returns-clause-put_in : goal.returns-clause-put_in
returns-clause-put_in g c = put-elsewhere _

pub returns-clause-after : goal.returns-clause-after
returns-clause-after g c = stays-elsewhere _ _ _
