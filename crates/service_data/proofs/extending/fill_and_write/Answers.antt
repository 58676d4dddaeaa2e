use Rattle.std.proofs.Common.{length, refl, sym, subst}
use Rattle.nfs_values.specs.Moment.{moment_of}
use Rattle.filer_state.specs.state.Sets.{logical_before}
use Rattle.service_data.specs.Holes.{Rise, AreHoles}
use Rattle.service_data.proofs.FromParts.{extends-from-parts, still-room}
use Rattle.service_data.proofs.Holed.{holes-are, holes-rise}
use Rattle.service_data.proofs.extending.fill_and_write.Goals as goal

pub fill_holes-requires-clause-rise : goal.fill_holes-requires-clause-rise
fill_holes-requires-clause-rise c =
    subst (Rise 0) (sym c.requires.all)
    (holes-rise c.args.fileid.0 (logical_before c.args.held.now.logical).stripes c.args.offset (length c.args.written.now))

pub fill_holes-requires-clause-holes : goal.fill_holes-requires-clause-holes
fill_holes-requires-clause-holes c =
    subst (AreHoles c.args.fileid.0 (logical_before c.args.held.now.logical).stripes) (sym c.requires.all)
    (holes-are c.args.fileid.0 (logical_before c.args.held.now.logical).stripes c.args.offset (length c.args.written.now))

pub extend_inode-requires-clause-room : goal.extend_inode-requires-clause-room
extend_inode-requires-clause-room c =
    still-room c.args.held.now c.fill_holes.new.held c.args.fileid.0 c.args.found.now c.in-Ok.ensures.ok c.number_blocks.new.held
    c.number_blocks.ensures c.requires.room

pub returns-clause-extended : goal.returns-clause-extended
returns-clause-extended c =
    extends-from-parts c.args.held.now c.fill_holes.new.held c.number_blocks.new.held c.extend_inode.new.held c.grow_cards.new.held
    c.write_spans.new.held c.args.fileid.0 c.args.offset c.args.written.now (moment_of c.args.moment) c.args.found.now c.requires.all
    (length c.args.found.now) refl c.in-Ok.ensures.ok c.number_blocks.ensures c.extend_inode.ensures.own c.extend_inode.ensures.stripes
    c.grow_cards.ensures c.write_spans.ensures
