use Rattle.std.proofs.Common.{sym}
use Rattle.nfs_values.proofs.Handles.{named_again}
use Rattle.nfs_values.proofs.handle.named_by_numbers.Goals as goal

pub returns : goal.returns
returns c = sym (named_again c.args.volume c.args.fileid c.ranges.volume.fits c.ranges.fileid.fits)
