use Rattle.rpc_record.proofs.Streams.{read_stream-push}
use Rattle.rpc_record.proofs.laws.reading_goes_by_bytes.Goals as goal

pub returns-clause-one : goal.returns-clause-one
returns-clause-one c = read_stream-push
