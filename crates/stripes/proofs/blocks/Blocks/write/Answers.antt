use Rattle.std.proofs.Common.{ap, ◌∙◌}
use Rattle.nfs_model.specs.volume.Maps.{map_values}
use Rattle.nfs_model.specs.volume.Stripes.{file_mapped, byte_written}
use Rattle.stripes.proofs.Words.{written-spans, written-blocks}
use Rattle.stripes.proofs.Called.{long-blocks}
use Rattle.stripes.proofs.blocks.Blocks.write.Goals as goal

pub invariant_of-self : goal.invariant_of-self
invariant_of-self c =
    written-spans c.args.fileid c.args.offset c.args.written.now c.self.inside.spans.entries c.write_in.new.spans.entries
    c.requires.some c.requires.span c.self.invariant c.write_in.ensures

pub returns-clause-written : goal.returns-clause-written
returns-clause-written c =
    written-blocks c.args.fileid c.args.offset c.args.written.now c.self.inside.spans.entries c.write_in.new.spans.entries
    c.requires.some c.requires.span c.self.invariant c.write_in.ensures
    ∙ ap (map_values (file_mapped (byte_written c.args.offset c.args.written.now) c.args.fileid)) c.self.view_is

pub returns-clause-long : goal.returns-clause-long
returns-clause-long c =
    long-blocks c.write_in.new.spans.entries
    (written-spans c.args.fileid c.args.offset c.args.written.now c.self.inside.spans.entries c.write_in.new.spans.entries
    c.requires.some c.requires.span c.self.invariant c.write_in.ensures)
