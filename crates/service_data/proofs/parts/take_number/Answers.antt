use Rattle.std.proofs.Common.{◌≡◌, refl, sym, ap, subst, ◌∙◌}
use Rattle.nfs_model.specs.volume.Logical.{LogicalValue}
use Rattle.filer_state.specs.Logical.{logical_value}
use Rattle.filer_state.specs.state.Sets.{FilerLogical, volume_before, volume_after}
use Rattle.service_data.specs.Parts.{LeavesOne}
use Rattle.service_data.proofs.Drained.{lowest-there, none-for-holes, leaves-dead}
use Rattle.service_data.proofs.parts.take_number.Goals as goal

pub unreachable-requires : goal.unreachable-requires
unreachable-requires c =
    none-for-holes (volume_before c.args.held.now)
    (sym (ap (λ (l : LogicalValue). l.stock) c.get_mut.ensures.value) ∙ c.in_default.ensures.empty.0 refl)
    c.in_default-take_free.ensures.none
    (sym (ap (λ (l : LogicalValue). l.dead.blocks) (c.get_mut-2.ensures.value) ∙ ap (λ (l : LogicalValue). l.dead.blocks) c.get_mut.ensures.value)
    ∙ c.in-None.ensures.none.0) c.requires

pub returns-clause-leaves : goal.returns-clause-leaves
returns-clause-leaves c =
    let none : logical_value c.get_mut-2.result.now ≡ c.args.held.now.logical.own =
    c.get_mut-2.ensures.value ∙ (λ j. record (logical_value c.get_mut.result.now) { stock = c.in_default.ensures.none j }) ∙ c.get_mut.ensures.value in
    subst (λ (logical : FilerLogical _). LeavesOne c.in-Some-take.number.0 (volume_before c.args.held.now)
    (volume_after c.args.held.now (record c.args.held.now { logical = logical; vbn = c.take_free.new.held }))) (sym c.give_back.ensures)
    (leaves-dead c.args.held.now (logical_value c.get_mut-2.result.now) c.take_free.new.held c.in-Some-take.number.0 c.take-2.new.self none
    c.in_default-take_free.ensures.kept
    (sym (ap (λ (l : LogicalValue). l.stock) c.get_mut.ensures.value) ∙ c.in_default.ensures.empty.0 refl)
    c.in_default-take_free.ensures.none
    (lowest-there (logical_value c.get_mut-2.result.now).dead.range_blocks (logical_value c.get_mut-2.result.now).dead.blocks
    c.in-Some-take.number.0 c.in-Some-take.ensures.lowest)
    c.in-Some-take.ensures.left)
