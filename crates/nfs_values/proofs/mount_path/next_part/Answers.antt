use Rattle.std.proofs.Common.{◌∙◌, sym, arith}
use Rattle.nfs_values.proofs.Paths.{shorter, passed, begins}
use Rattle.nfs_values.proofs.mount_path.next_part.Goals as goal

pub returns-then-is_telling : goal.returns-then-is_telling
returns-then-is_telling c =
    let left = c.loop-path.path.now in
    let less = shorter left _ c.cut.ensures.behind c.loop-path-test.ensures in (
      sym c.loop-path.invariant.0
          ∙ begins left _ _ c.cut.ensures.part c.cut.ensures.behind (sym c.is_telling.ensures ∙ c.if-is_telling.true),
      omega (arith, less, c.loop-path.invariant.1),
    )

pub loop-path-smaller : goal.loop-path-smaller
loop-path-smaller c = shorter c.loop-path.path.now _ c.cut.ensures.behind c.loop-path-test.ensures

pub loop-path-preserved : goal.loop-path-preserved
loop-path-preserved c =
    let left = c.loop-path.path.now in
    let less = shorter left _ c.cut.ensures.behind c.loop-path-test.ensures in (
      passed left _ _ c.cut.ensures.part c.cut.ensures.behind (sym c.is_telling.ensures ∙ c.if-is_telling.false) ∙ c.loop-path.invariant.0,
      omega (arith, less, c.loop-path.invariant.1),
    )
