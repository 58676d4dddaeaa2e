use Rattle.nfs_model.specs.Tree.{Volume}
use Rattle.filer_state.specs.totals.lemmas.FilesystemStatus.{fsstat-right}
use Rattle.filer_state.proofs.totals.laws.filesystem_status_is_right.Goals as goal

pub returns : goal.returns
returns c = record { in_volume = λ v fileid handle set. fsstat-right v fileid handle (Volume v) set }
