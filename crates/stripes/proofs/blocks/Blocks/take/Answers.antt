use Rattle.std.proofs.Common.{sym, ap, subst, ◌∙◌, Some, is_some}
use Rattle.std.specs.FinMap.{get, remove}
use Rattle.std.specs.Option.{option_map}
use Rattle.nfs_model.specs.volume.Stripes.{Block}
use Rattle.stripes.specs.Spans.{IsLong}
use Rattle.stripes.proofs.Cut.{freed-spans}
use Rattle.stripes.proofs.Called.{long-blocks, same-is, same-of}
use Rattle.stripes.proofs.Numbered.{not-filled, none-removed, none-here, taken-there, taken-blocks}
use Rattle.stripes.proofs.Takes.{frees-at}
use Rattle.stripes.proofs.blocks.Blocks.take.Goals as goal

pub returns-then-not-is_filled-clause-there : goal.returns-then-not-is_filled-clause-there
returns-then-not-is_filled-clause-there c =
    sym (ap (option_map (λ (b : Block). b.number)) (not-filled (get c.args.self.now (c.args.fileid, c.args.block)) (sym c.if-not-is_filled.ensures)))

pub returns-then-not-is_filled-clause-taken : goal.returns-then-not-is_filled-clause-taken
returns-then-not-is_filled-clause-taken c =
    none-removed c.args.self.now (c.args.fileid, c.args.block)
    (not-filled (get c.args.self.now (c.args.fileid, c.args.block)) (sym c.if-not-is_filled.ensures))

pub returns-then-not-is_filled-clause-long : goal.returns-then-not-is_filled-clause-long
returns-then-not-is_filled-clause-long c = subst IsLong c.self.view_is (long-blocks c.self.inside.spans.entries c.self.invariant)

pub returns-in_default-clause-there : goal.returns-in_default-clause-there
returns-in_default-clause-there c =
    sym (ap (λ m. option_map (λ (b : Block). b.number) (get m (c.args.fileid, c.args.block))) (sym c.self.view_is)
    ∙ ap (option_map (λ (b : Block). b.number)) (none-here c.self.inside.spans.entries c.args.fileid c.args.block c.in_default.ensures.none))

pub returns-in_default-clause-taken : goal.returns-in_default-clause-taken
returns-in_default-clause-taken c =
    same-of c.self.inside.spans.entries c.take_in.new.spans.entries c.in_default.ensures.kept ∙ c.self.view_is
    ∙ none-removed c.args.self.now (c.args.fileid, c.args.block)
    (ap (λ m. get m (c.args.fileid, c.args.block)) (sym c.self.view_is)
    ∙ none-here c.self.inside.spans.entries c.args.fileid c.args.block c.in_default.ensures.none)

pub returns-in_default-clause-long : goal.returns-in_default-clause-long
returns-in_default-clause-long c =
    long-blocks c.take_in.new.spans.entries
    (same-is c.self.inside.spans.entries c.take_in.new.spans.entries c.in_default.ensures.kept c.self.invariant)

pub returns-clause-there : goal.returns-clause-there
returns-clause-there c =
    ap Some c.number.ensures
    ∙ sym (ap (λ m. option_map (λ (b : Block). b.number) (get m (c.args.fileid, c.args.block))) (sym c.self.view_is)
    ∙ ap (option_map (λ (b : Block). b.number)) (taken-there c.args.fileid c.args.block c.in-Some.taken c.self.inside.spans.entries
    c.take_in.new.spans.entries (ap (λ m. is_some (get m (c.args.fileid, c.args.block))) c.self.view_is ∙ sym c.if-not-is_filled.ensures)
    (frees-at c.args.fileid c.args.block c.in-Some.taken c.self.inside.spans.entries c.take_in.new.spans.entries c.self.invariant.filled
    c.in-Some.ensures.taken)))

pub returns-clause-taken : goal.returns-clause-taken
returns-clause-taken c =
    taken-blocks c.args.fileid c.args.block c.in-Some.taken c.self.inside.spans.entries
    c.take_in.new.spans.entries (ap (λ m. is_some (get m (c.args.fileid, c.args.block))) c.self.view_is ∙ sym c.if-not-is_filled.ensures)
    (frees-at c.args.fileid c.args.block c.in-Some.taken c.self.inside.spans.entries c.take_in.new.spans.entries c.self.invariant.filled
    c.in-Some.ensures.taken)
    ∙ ap (λ m. remove m (c.args.fileid, c.args.block)) c.self.view_is

pub returns-clause-long : goal.returns-clause-long
returns-clause-long c =
    long-blocks c.take_in.new.spans.entries
    (freed-spans c.args.fileid c.args.block c.in-Some.taken c.self.inside.spans.entries c.take_in.new.spans.entries
    c.self.invariant (frees-at c.args.fileid c.args.block c.in-Some.taken c.self.inside.spans.entries c.take_in.new.spans.entries c.self.invariant.filled
    c.in-Some.ensures.taken))

pub invariant_of-self-2 : goal.invariant_of-self-2
invariant_of-self-2 c =
    freed-spans c.args.fileid c.args.block c.in-Some.taken c.self.inside.spans.entries c.take_in.new.spans.entries
    c.self.invariant (frees-at c.args.fileid c.args.block c.in-Some.taken c.self.inside.spans.entries c.take_in.new.spans.entries c.self.invariant.filled
    c.in-Some.ensures.taken)
