use Rattle.std.proofs.Common.{◌∙◌, ap, sym, Some}
use Rattle.std.specs.Option.{option_map}
use Rattle.nfs_model.specs.volume.Stripes.{block_mapped, byte_written}
use Rattle.stripes.proofs.span.write_into.Goals as goal

pub returns-in-Some : goal.returns-in-Some
returns-in-Some c =
    let change = block_mapped (byte_written c.args.offset c.args.written.now) c.args.number in
    ap Some c.write.ensures ∙ sym (ap (option_map change) c.in-Some.is)
