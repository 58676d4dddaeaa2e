use Rattle.std.proofs.Common.{refl, sym, ap, ◌∙◌}
use Rattle.nfs_model.specs.volume.Logical.{LogicalValue}
use Rattle.service_data.proofs.Stocked.{none-left}
use Rattle.service_data.proofs.holes.take_number.Goals as goal

pub unreachable-requires : goal.unreachable-requires
unreachable-requires c =
    none-left c.args.held.now.own.stock (sym (ap (λ (l : LogicalValue). l.stock) c.get_mut.ensures.value) ∙ c.in-None.ensures.empty.0 refl) c.requires
