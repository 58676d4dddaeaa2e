-- Replies that give bytes of a file.
use Rattle.std.specs.Prelude.{length}
use Rattle.nfs_model.specs.Types as model
use Rattle.nfs_values.specs.declared.answer.ReadResults.{ReadResults}

-- the reply to a READ that is done
abbrev pub read_done : ReadResults → model.Reply
read_done results = model.Success (model.ReadDone (length results.bytes) results.eof results.bytes)
