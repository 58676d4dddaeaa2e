-- What the way up from a directory comes to, as the model has it.
use Rattle.nfs_model.specs.Serial.Rename as model
use Rattle.service.specs.declared.renames.climb.Climb.{Climb}
use Rattle.service.specs.declared.renames.climb.Climb.TheVariants.{PastIt, ToIt, TooFar}

abbrev pub climb_of : Climb → model.Climb
climb_of PastIt = model.PastIt
climb_of ToIt = model.ToIt
climb_of TooFar = model.TooFar
