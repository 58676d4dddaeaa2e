use Rattle.std.proofs.Common.{length, is_some, ap, ◌∙◌}
use Rattle.std.specs.List.{list_all}
use Rattle.std.specs.FinMap.{get}
use Rattle.nfs_model.specs.Serial.Write.{blocks_met}
use Rattle.nfs_model.specs.volume.Maps.{map_values}
use Rattle.nfs_model.specs.volume.Stripes.{file_mapped, byte_written}
use Rattle.stripes.proofs.Takes.{stays-same}
use Rattle.stripes.proofs.Words.{written-blocks}
use Rattle.stripes.proofs.Called.{filled-answer, write-spans, long-blocks, same-of}
use Rattle.stripes.proofs.blocks.Blocks.overwrite.Goals as goal

pub invariant_of-self : goal.invariant_of-self
invariant_of-self c =
    write-spans c.overwrite_in.result c.args.fileid c.args.offset c.args.written.now c.self.inside.spans.entries c.overwrite_in.new.spans.entries
    c.requires.some c.requires.span c.self.invariant c.overwrite_in.ensures.written c.overwrite_in.ensures.kept

pub returns-clause-answer : goal.returns-clause-answer
returns-clause-answer c =
    c.overwrite_in.ensures.answer
    ∙ filled-answer c.self.inside.spans.entries c.args.fileid c.args.offset (length c.args.written.now) c.requires.some c.requires.span
    ∙ ap (λ m. list_all (λ b. is_some (get m (c.args.fileid, b))) (blocks_met c.args.offset (length c.args.written.now))) c.self.view_is

pub returns-clause-written : goal.returns-clause-written
returns-clause-written c = λ is.
    written-blocks c.args.fileid c.args.offset c.args.written.now c.self.inside.spans.entries c.overwrite_in.new.spans.entries
    c.requires.some c.requires.span c.self.invariant (c.overwrite_in.ensures.written is)
    ∙ ap (map_values (file_mapped (byte_written c.args.offset c.args.written.now) c.args.fileid)) c.self.view_is

pub returns-clause-kept : goal.returns-clause-kept
returns-clause-kept c = λ is.
    same-of c.self.inside.spans.entries c.overwrite_in.new.spans.entries (stays-same _ _ _ (c.overwrite_in.ensures.kept is)) ∙ c.self.view_is

pub returns-clause-long : goal.returns-clause-long
returns-clause-long c =
    long-blocks c.overwrite_in.new.spans.entries
    (write-spans c.overwrite_in.result c.args.fileid c.args.offset c.args.written.now c.self.inside.spans.entries c.overwrite_in.new.spans.entries
    c.requires.some c.requires.span c.self.invariant c.overwrite_in.ensures.written c.overwrite_in.ensures.kept)
