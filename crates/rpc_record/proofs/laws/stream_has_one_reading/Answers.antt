use Rattle.rpc_record.proofs.Unique.{Records-unique}
use Rattle.rpc_record.proofs.laws.stream_has_one_reading.Goals as goal

pub returns : goal.returns
returns c = Records-unique
