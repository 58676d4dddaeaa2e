use Rattle.rpc_record.proofs.Unique.{read_stream-is}
use Rattle.rpc_record.proofs.laws.reading_is_exact.Goals as goal

pub returns : goal.returns
returns c = read_stream-is
