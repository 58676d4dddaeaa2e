use Rattle.filer_state.specs.bytes.lemmas.Writes.{stripe-writes}
use Rattle.filer_state.specs.bytes.lemmas.LogicalWrites.{logical-writes}
use Rattle.filer_state.specs.bytes.lemmas.LogicalStarves.{logical-write-starves}
use Rattle.filer_state.specs.bytes.lemmas.VolumeWrites.{volume-writes}
use Rattle.filer_state.specs.bytes.lemmas.VolumeStarves.{volume-write-starves}
use Rattle.filer_state.proofs.bytes.laws.writing_calls_are_right.Goals as goal

pub returns-clause-in_stripe : goal.returns-clause-in_stripe
returns-clause-in_stripe c = λ v i fileid handle w s some lies. stripe-writes v i fileid handle w s some lies

pub returns-clause-in_logical : goal.returns-clause-in_logical
returns-clause-in_logical c = λ v fileid handle w old new outcome told. logical-writes v fileid handle w old new outcome told

pub returns-clause-in_logical_starves : goal.returns-clause-in_logical_starves
returns-clause-in_logical_starves c =
    λ v fileid n handle w s due enough some. logical-write-starves v fileid n handle w s due enough some

pub returns-clause-in_volume : goal.returns-clause-in_volume
returns-clause-in_volume c = λ v fileid handle w old new outcome told. volume-writes v fileid handle w old new outcome told

pub returns-clause-in_volume_starves : goal.returns-clause-in_volume_starves
returns-clause-in_volume_starves c =
    λ v fileid n handle w s due fits enough some. volume-write-starves v fileid n handle w s due fits enough some
