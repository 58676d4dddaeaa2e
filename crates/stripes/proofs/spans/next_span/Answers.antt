use Rattle.std.proofs.Common.{◌≡◌, false, subst, IfSome}
use Rattle.std.specs.Ordering.{is_gt}
use Rattle.std.specs.List.{slice_get}
use Rattle.std.specs.BTreeMap.Range.{IsEntryInRange}
use Rattle.std.specs.declared.ops.Bound.TheVariants.{Included, Unbounded}
use Rattle.nfs_model.specs.volume.Stripes.{file_block_cmp}
use Rattle.stripes.specs.Spans.{span_at}
use Rattle.stripes.proofs.Keys.{none-before, none-of-file, upto-span}
use Rattle.stripes.proofs.spans.next_span.Goals as goal

pub returns-then-key-fileid-clause-first : goal.returns-then-key-fileid-clause-first
returns-then-key-fileid-clause-first c = λ t from below.
    none-before (span_at c.args.spans.now.entries (c.args.fileid, t)) c.in-Some.key.now c.args.fileid t
    (λ some. subst (λ r. IfSome (slice_get r 0) (λ e. is_gt (file_block_cmp e.0 (c.args.fileid, t)) ≡ false)) c.in-Some.ensures.steps
    ((c.range.ensures.in_range tt).2 (c.args.fileid, t) (upto-span c.args.fileid c.args.from t from, tt) some))
    c.if-key-fileid.true below

pub returns-else-key-fileid-clause-none : goal.returns-else-key-fileid-clause-none
returns-else-key-fileid-clause-none c = λ t from.
    none-of-file (span_at c.args.spans.now.entries (c.args.fileid, t)) c.in-Some.key.now c.args.fileid c.args.from t
    (subst (λ r. IfSome (slice_get r 0) (IsEntryInRange file_block_cmp (Included (c.args.fileid, c.args.from)) Unbounded c.args.spans.now))
    c.in-Some.ensures.steps (c.range.ensures.in_range tt).1).0.0
    (λ some. subst (λ r. IfSome (slice_get r 0) (λ e. is_gt (file_block_cmp e.0 (c.args.fileid, t)) ≡ false)) c.in-Some.ensures.steps
    ((c.range.ensures.in_range tt).2 (c.args.fileid, t) (upto-span c.args.fileid c.args.from t from, tt) some))
    c.if-key-fileid.false

pub returns-in-None-clause-none : goal.returns-in-None-clause-none
returns-in-None-clause-none c = λ t from. (c.range.ensures.in_range tt).5 c.in-None.ensures.steps.0 (c.args.fileid, t)
    (upto-span c.args.fileid c.args.from t from, tt)
