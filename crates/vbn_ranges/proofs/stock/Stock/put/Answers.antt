use Rattle.std.proofs.Common.{◌≡◌, sym, subst, false, is_ok}
use Rattle.std.specs.List.{AllByRecursion}
use Rattle.std.specs.FinSet.{contains}
use Rattle.vbn_ranges.proofs.Stocked.{put-apart, put-there}
use Rattle.vbn_ranges.proofs.stock.Stock.put.Goals as goal

pub invariant_of-self : goal.invariant_of-self
invariant_of-self c =
    put-apart (is_ok c.extend_from_slice.result) c.self.inside.blocks.items c.as_slice.result.now c.extend_from_slice.new.self.items c.args.batch.now
    c.extend_from_slice.ensures.items c.self.invariant c.as_slice.ensures.value c.as_slice.ensures.carried
    (subst (λ s. AllByRecursion (λ b. contains s b ≡ false) c.args.batch.now) (sym c.self.view_is) c.requires)

pub returns-clause-ok : goal.returns-clause-ok
returns-clause-ok c =
    rw (← c.self.view_is)
    (put-there c.extend_from_slice.result c.self.inside.blocks.items c.as_slice.result.now c.extend_from_slice.new.self.items c.args.batch.now
    c.extend_from_slice.ensures.items
    c.as_slice.ensures.value)
