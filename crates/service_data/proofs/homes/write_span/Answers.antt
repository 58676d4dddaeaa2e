use Rattle.std.proofs.Common.{rules, refl}
use Rattle.nfs_values.specs.Moment.{moment_of}
use Rattle.service_data.proofs.Extended.{span-changes}
use Rattle.service_data.proofs.homes.write_span.Goals as goal

pub returns : goal.returns
returns c =
    span-changes c.args.held.now c.requires.stripes c.args.fileid.0 c.args.offset c.args.written.now (moment_of c.args.moment) c.requires.some
    c.home-place.result _ _ _ c.home-place.ensures.home (search rules) refl c.write_in.ensures
