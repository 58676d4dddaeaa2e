use Rattle.std.proofs.Common.{sym, ◌∙◌}
use Rattle.std.specs.FinSet.{empty_of_len}
use Rattle.service_data.proofs.Parted.{lowest-there, lowest-left, lowest-some}
use Rattle.service_data.proofs.parts.take_lowest.Goals as goal

pub returns-then-free_count-eq0-clause-none : goal.returns-then-free_count-eq0-clause-none
returns-then-free_count-eq0-clause-none c = empty_of_len c.args.range.now.free (sym c.free_count.ensures.counted ∙ c.if-free_count-eq0.true)

pub returns-clause-there : goal.returns-clause-there
returns-clause-there c =
    lowest-there c.args.range.now c.take.new.self c.as_slice.result.now (c.as_slice.ensures.value ∙ c.in-Ok.ensures.batch)
    (λ none. c.if-free_count-eq0.false (c.free_count.ensures.listed ∙ none)) c.in-Ok.ensures.ok c.copied.result (c.copied.ensures ∙ c.first.ensures.value)

pub returns-clause-left : goal.returns-clause-left
returns-clause-left c =
    lowest-left c.args.range.now c.take.new.self c.as_slice.result.now (c.as_slice.ensures.value ∙ c.in-Ok.ensures.batch)
    (λ none. c.if-free_count-eq0.false (c.free_count.ensures.listed ∙ none)) c.in-Ok.ensures.ok c.copied.result (c.copied.ensures ∙ c.first.ensures.value)

pub returns-clause-none : goal.returns-clause-none
returns-clause-none c =
    lowest-some c.args.range.now c.take.new.self c.as_slice.result.now (c.as_slice.ensures.value ∙ c.in-Ok.ensures.batch)
    (λ none. c.if-free_count-eq0.false (c.free_count.ensures.listed ∙ none)) c.in-Ok.ensures.ok c.copied.result (c.copied.ensures ∙ c.first.ensures.value) _

pub returns-clause-kept : goal.returns-clause-kept
returns-clause-kept c =
    lowest-some c.args.range.now c.take.new.self c.as_slice.result.now (c.as_slice.ensures.value ∙ c.in-Ok.ensures.batch)
    (λ none. c.if-free_count-eq0.false (c.free_count.ensures.listed ∙ none)) c.in-Ok.ensures.ok c.copied.result (c.copied.ensures ∙ c.first.ensures.value) _
