use Rattle.std.proofs.Common.{◌≡◌, false, subst, sym}
use Rattle.std.specs.List.{AllByRecursion}
use Rattle.std.specs.FinSet.{contains}
use Rattle.state_rows.proofs.Stocked.{none-of-empty}
use Rattle.state_rows.proofs.blocks.stock_of.Goals as goal

pub put-requires : goal.put-requires
put-requires g c =
    let batch = c.args.batch.now in
    subst (λ s. AllByRecursion (λ b. contains s b ≡ false) batch) (sym c.new-stock.ensures) (none-of-empty batch)
