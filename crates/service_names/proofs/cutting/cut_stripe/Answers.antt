use Rattle.std.proofs.Common.{◌-◌, ℕ, List, length, length-append, sym, ap, ◌∙◌, subst, arith}
use Rattle.nfs_model.specs.volume.Ranges.{dead_marked}
use Rattle.nfs_model.specs.volume.Stripes.{numbers_freed}
use Rattle.service_names.specs.Changing.{AreNumbers}
use Rattle.service_names.proofs.Freed.{both-numbers, cut-some, cut-last}
use Rattle.service_names.proofs.cutting.cut_stripe.Goals as goal

pub mark_all-left-requires : goal.mark_all-left-requires
mark_all-left-requires c =
    subst (λ (ns : List ℕ). AreNumbers c.loop-fileid.dead.range_blocks ns) (sym c.as_slice.ensures)
    (both-numbers c.args.fileid.0 c.args.size c.args.stripe.now c.args.dead.now c.args.filled c.loop-fileid.stripe c.cut.new.self c.loop-fileid.dead
    c.loop-fileid.left c.cut.new.freed c.loop-fileid.invariant (c.cut.ensures.freed c.loop-fileid-test.true)).0

pub loop-fileid-smaller : goal.loop-fileid-smaller
loop-fileid-smaller c =
    let long = ap length (c.cut.ensures.freed c.loop-fileid-test.true)
    ∙ length-append c.cut.new.freed (numbers_freed c.args.fileid.0 c.args.size c.cut.new.self) in
    let some = c.cut.ensures.some c.loop-fileid-test.true in
    omega (arith, long, some)

pub loop-fileid-preserved : goal.loop-fileid-preserved
loop-fileid-preserved c =
    let told = c.as_slice.ensures in
    cut-some c.args.fileid.0 c.args.size c.args.stripe.now c.args.dead.now c.args.filled c.loop-fileid.stripe c.cut.new.self c.loop-fileid.dead _
    c.loop-fileid.left c.mark_all-left.result c.cut.new.freed c.loop-fileid.invariant (c.cut.ensures.freed c.loop-fileid-test.true)
    (c.cut.ensures.rest c.loop-fileid-test.true)
    (c.mark_all-left.ensures.dead ∙ ap (λ (ns : List ℕ). dead_marked ns c.loop-fileid.dead) told)
    (c.mark_all-left.ensures.left ∙ ap (λ (ns : List ℕ). c.loop-fileid.left - length ns) told)

pub returns-clause-dead : goal.returns-clause-dead
returns-clause-dead c =
    cut-last c.args.fileid.0 c.args.size c.args.stripe.now c.args.dead.now c.args.filled c.loop-fileid.stripe c.loop-fileid.dead c.loop-fileid.left
    c.loop-fileid.invariant (c.cut.ensures.none c.loop-fileid-test.false)
