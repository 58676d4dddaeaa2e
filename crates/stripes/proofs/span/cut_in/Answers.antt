use Rattle.std.proofs.Common.{◌/◌, ◌∙◌, ap, sym, Some}
use Rattle.std.specs.Option.{option_map}
use Rattle.nfs_model.specs.Server.{block_size}
use Rattle.nfs_model.specs.volume.Stripes.{block_mapped, byte_cut}
use Rattle.stripes.proofs.span.cut_in.Goals as goal

pub returns-in-Some : goal.returns-in-Some
returns-in-Some c = let change = block_mapped (byte_cut c.args.size) (c.args.size / block_size) in ap Some c.cut.ensures
    ∙ sym (ap (option_map change) c.in-Some.is)
