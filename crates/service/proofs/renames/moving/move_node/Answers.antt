use Rattle.std.proofs.Common.{refl, arith}
use Rattle.std.specs.Option.{option_map}
use Rattle.filer_state.specs.state.Sets.{logical_before}
use Rattle.service_names.specs.Naming.{node_value}
use Rattle.service.proofs.renames.Steps.{entry-put, sized-then, used-then, within-last, used-last, moved-is}
use Rattle.service.proofs.renames.moving.move_node.Goals as goal

pub drop_target-requires-clause-sized : goal.drop_target-requires-clause-sized
drop_target-requires-clause-sized c =
    sized-then c.args.between c.args.from_name.now c.args.to_name.now (node_value c.args.child) (logical_before c.args.held.now) c.args.held.now
    c.put_entry.new.held (option_map node_value c.args.target) refl
    (entry-put c.args.held.now c.put_entry.new.held c.args.between.to.fileid.0 c.args.to_name.now c.args.child.fileid.0
    c.in_ok-put_entry.ensures.ok c.put_entry.ensures.stripes)
    c.requires

pub leave-requires : goal.leave-requires
leave-requires c =
    let used =
    used-then c.args.between c.args.from_name.now c.args.to_name.now (node_value c.args.child) (logical_before c.args.held.now) c.args.held.now
    c.put_entry.new.held (option_map node_value c.args.target) refl
    (entry-put c.args.held.now c.put_entry.new.held c.args.between.to.fileid.0 c.args.to_name.now c.args.child.fileid.0
    c.in_ok-put_entry.ensures.ok c.put_entry.ensures.stripes)
    c.drop_target.new.held c.drop_target.ensures.set
    c.requires in
    omega arith

pub hang-requires-clause-used : goal.hang-requires-clause-used
hang-requires-clause-used c =
    let used =
    used-last c.args.between c.args.from_name.now c.args.to_name.now (node_value c.args.child) (logical_before c.args.held.now) c.args.held.now
    c.put_entry.new.held (option_map node_value c.args.target) refl
    (entry-put c.args.held.now c.put_entry.new.held c.args.between.to.fileid.0 c.args.to_name.now c.args.child.fileid.0
    c.in_ok-put_entry.ensures.ok c.put_entry.ensures.stripes)
    c.drop_target.new.held c.drop_target.ensures.set c.leave.new.held c.leave.ensures.set
    c.requires in
    omega arith

pub hang-requires-clause-within : goal.hang-requires-clause-within
hang-requires-clause-within c =
    within-last c.args.between c.args.from_name.now c.args.to_name.now (node_value c.args.child) (logical_before c.args.held.now) c.args.held.now
    c.put_entry.new.held (option_map node_value c.args.target) refl
    (entry-put c.args.held.now c.put_entry.new.held c.args.between.to.fileid.0 c.args.to_name.now c.args.child.fileid.0
    c.in_ok-put_entry.ensures.ok c.put_entry.ensures.stripes)
    c.drop_target.new.held c.drop_target.ensures.set c.leave.new.held c.leave.ensures.set
    c.requires

pub returns-clause-ok : goal.returns-clause-ok
returns-clause-ok c =
    moved-is c.args.between c.args.from_name.now c.args.to_name.now (node_value c.args.child) (logical_before c.args.held.now) c.args.held.now
    c.put_entry.new.held (option_map node_value c.args.target) refl
    (entry-put c.args.held.now c.put_entry.new.held c.args.between.to.fileid.0 c.args.to_name.now c.args.child.fileid.0
    c.in_ok-put_entry.ensures.ok c.put_entry.ensures.stripes)
    c.drop_target.new.held c.drop_target.ensures.set c.leave.new.held c.leave.ensures.set c.hang.new.held c.hang.ensures.set
    c.requires
