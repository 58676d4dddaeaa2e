use Rattle.std.proofs.Common.{◌≡◌, ℕ, ◌<◌, ◌≤◌, ap, subst, ◌∙◌, arith}
use Rattle.std.proofs.lemmas.Bool.Decides.{nat_tests}
use Rattle.std.specs.Prelude.{IfOk}
use Rattle.nfs_model.specs.volume.Ranges.{unused_range, put_in_use}
use Rattle.filer_state.specs.state.Opening.{opening_range}
use Rattle.filer_state.proofs.opening.opening_range.Goals as goal
use Rattle.filer_state.proofs.opening.opening_range.Goals.{then-number-used, else-number-used}

in-use : (size used r : ℕ) → r < used → put_in_use (unused_range size r) ≡ opening_range size used r
in-use size used r l = grind (arith, nat_tests)

not-used : (size used r : ℕ) → used ≤ r → unused_range size r ≡ opening_range size used r
not-used size used r l = grind (arith, nat_tests)

pub returns : goal.returns
returns c =
    let is : c.if-number-used.range ≡ opening_range c.args.range_blocks c.args.used c.args.number = elim c.if-number-used.branch [
      | then-number-used w ↦
          w.range-is
          ∙ (w.put_in_use.ensures ∙ (ap put_in_use c.in_ok-range.ensures ∙ in-use c.args.range_blocks c.args.used c.args.number w.if-number-used.true))
      | else-number-used w ↦ w.range-is ∙ (c.in_ok-range.ensures ∙ not-used c.args.range_blocks c.args.used c.args.number w.if-number-used.false)
    ] in
    subst (λ range. IfOk c.new-2.result (λ parcel. parcel ≡ range)) is c.new-2.ensures
