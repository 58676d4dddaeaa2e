use Rattle.std.proofs.Common.{◌≡◌, ◌<◌, subst, length, vec_len, ℕ, rules}
use Rattle.std.specs.Option.{IsSome}
use Rattle.vbn_ranges.proofs.Stocked.{pop-apart, pop-there, pop-left, pop-empty}
use Rattle.vbn_ranges.proofs.stock.Stock.take.Goals as goal

pub invariant_of-self : goal.invariant_of-self
invariant_of-self c = pop-apart c.self.inside.blocks.items c.pop.new.self.items c.pop.result c.pop.ensures.items c.self.invariant

pub returns-clause-empty : goal.returns-clause-empty
returns-clause-empty c =
    let size : vec_len c.self.inside.blocks ≡ length c.self.inside.blocks.items = search rules in
    rw (← c.self.view_is)
    (pop-empty c.self.inside.blocks.items c.pop.new.self.items c.pop.result c.pop.ensures.items
    (subst (λ (n : ℕ). 0 < n → IsSome c.pop.result) size c.pop.ensures.variant.1))

pub returns-clause-there : goal.returns-clause-there
returns-clause-there c = rw (← c.self.view_is) (pop-there c.self.inside.blocks.items c.pop.new.self.items c.pop.result c.pop.ensures.items)

pub returns-clause-left : goal.returns-clause-left
returns-clause-left c = rw (← c.self.view_is) (pop-left c.self.inside.blocks.items c.pop.new.self.items c.pop.result c.pop.ensures.items c.self.invariant)
