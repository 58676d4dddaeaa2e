use Rattle.std.proofs.Common.{refl}
use Rattle.nfs_values.specs.Ownership.{ownership_of}
use Rattle.service_names.proofs.Settling.{vacant-settled}
use Rattle.service_names.proofs.touches.settle_place.Goals as goal

pub returns-in-None-clause-settled : goal.returns-in-None-clause-settled
returns-in-None-clause-settled c =
    vacant-settled c.args.fileid.0 (ownership_of c.args.owner) c.args.place.now c.args.place.now c.in-None.is refl
