use Rattle.std.proofs.Common.{◌≡◌, ◌∙◌, ◌==◌, ◌/◌, ap, sym, Bool, get_or, if◌then◌else◌}
use Rattle.std.proofs.lemmas.Grind.{get_or_default_zero}
use Rattle.vbn_ranges.specs.Words.{has_bit}
use Rattle.vbn_ranges.proofs.Single.{set-by, clear-by}
use Rattle.vbn_ranges.proofs.levels.set_bit.Goals as goal

pub returns-then-to-clause-bits : goal.returns-then-to-clause-bits
returns-then-to-clause-bits c n =
    let words = c.args.words.now.items in
    let read : c.index_mut.result.now ≡ get_or words (c.args.place / 64) 0 =
    c.index_mut.ensures.value ∙ get_or_default_zero words (c.args.place / 64) c.index_mut.result.now c.requires in
    set-by words c.args.place c.index_mut.result.now read c.requires n
    ∙ ap (λ (t : Bool). if n == c.args.place then t else has_bit words n) (sym c.if-to.true)

pub returns-else-to-clause-bits : goal.returns-else-to-clause-bits
returns-else-to-clause-bits c n =
    let words = c.args.words.now.items in
    let read : c.index_mut-else-to.result.now ≡ get_or words (c.args.place / 64) 0 =
    c.index_mut-else-to.ensures.value ∙ get_or_default_zero words (c.args.place / 64) c.index_mut-else-to.result.now c.requires in
    clear-by words c.args.place c.index_mut-else-to.result.now read c.requires n
    ∙ ap (λ (t : Bool). if n == c.args.place then t else has_bit words n) (sym c.if-to.false)
