use Rattle.filer_state.specs.state.Sets.{logical_before}
use Rattle.service_names.proofs.LinkRead.{reads-link}
use Rattle.service_names.proofs.reading_link.read_link.Goals as goal

pub returns : goal.returns
returns c = record {
  right =
      reads-link c.args.volume.0 c.args.fileid.0 (logical_before c.args.held.now) c.name_calls_are_right.ensures.readlink
      c.name_calls_are_right.ensures.starved_link c.text_told.result c.text_told.ensures.told c.text_told.ensures.would;
}
