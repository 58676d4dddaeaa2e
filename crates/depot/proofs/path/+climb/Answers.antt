use Rattle.std.proofs.Common.{arith, ◌<◌, ℕ, [], slice_index, sym, ap, refl, ◌∙◌}
use Rattle.affinity.specs.Ancestors.{tally, ancestors}
use Rattle.depot_rule.specs.Seats.{view_of}
use Rattle.depot_rule.specs.lemmas.Trees.{ancestors-root, not-above}
use Rattle.depot.specs.Calls.{MovedTo}
use Rattle.depot.proofs.Moves.{same-path, moved-one, moved-path, moved-unsure, entered-parent, claimed-higher, found-claimed}
use Rattle.depot.proofs.path.+climb.Goals as goal

pub returns-then-parent-eq0-clause-entered : goal.returns-then-parent-eq0-clause-entered
returns-then-parent-eq0-clause-entered g t c = (
  [],
  same-path c.requires.ready.0 (c.requires.ready.3
      ∙ sym (ancestors-root c.args.parents.now c.args.node c.if-parent-eq0.true)),
)

pub returns-in-Err-clause-claimed : goal.returns-in-Err-clause-claimed
returns-in-Err-clause-claimed g t c =
    claimed-higher c.args.parents.now c.requires.tree.1 (view_of c.args.place.now.me.0) c.args.node (slice_index c.args.parents.now c.args.node)
    c.in-Err.busy.node c.in-Err.busy.word
    c.requires.ready.1 refl (omega arith) c.in-Err.ensures.claimed

pub enter-requires-clause-ready : goal.enter-requires-clause-ready
enter-requires-clause-ready g t c =
    let p : ℕ = slice_index c.args.parents.now c.args.node in
    let climbed : MovedTo (view_of c.args.place.now.me.0) (ancestors c.args.parents.now p) c.climb.new.place.me.0 = c.in-Ok.ensures.entered in (
      moved-one (view_of c.args.place.now.me.0) climbed,
      (let pos : 0 < p = omega arith in pos),
      moved-unsure (view_of c.args.place.now.me.0) climbed ∙ c.requires.ready.2,
      ap (tally p) (moved-path (view_of c.args.place.now.me.0) climbed) ∙ not-above c.args.parents.now c.requires.tree.1 p,
    )

pub returns-in-None-clause-entered : goal.returns-in-None-clause-entered
returns-in-None-clause-entered g t c =
    let p : ℕ = slice_index c.args.parents.now c.args.node in
    entered-parent c.args.parents.now c.requires.tree.1 (view_of c.args.place.now.me.0) c.args.node p c.requires.ready.1 refl (omega arith)
    c.in-Ok.ensures.entered c.in-None.ensures.entered

pub returns-in-Some-clause-claimed : goal.returns-in-Some-clause-claimed
returns-in-Some-clause-claimed g t c =
    let p : ℕ = slice_index c.args.parents.now c.args.node in
    let claimed = c.in-Some.ensures.claimed in
    found-claimed c.args.parents.now c.requires.tree.1 (view_of c.args.place.now.me.0) c.args.node p c.in-Some.word c.requires.ready.1 refl
    (omega arith) c.requires.ready.2
    c.in-Ok.ensures.entered claimed.0 claimed.1 claimed.2 c.leave_all.ensures.left
