use Rattle.std.proofs.Common.{rules, arith, ◌≡◌, ◌<◌, ◌∷◌, ℕ, [], slice_index, refl, ◌∙◌}
use Rattle.affinity.specs.Ancestors.{ancestors}
use Rattle.depot_rule.specs.Seats.{view_of}
use Rattle.depot_rule.specs.lemmas.Trees.{ancestors-parent, ancestors-root}
use Rattle.depot.specs.Calls.{MovedTo}
use Rattle.depot.proofs.Moves.{moved-on, moved-one, moved-path, same-path, left-one}
use Rattle.depot.proofs.path.+leave_all.Goals as goal

pub leave_all-requires : goal.leave_all-requires
leave_all-requires g t c κs within =
    let p : ℕ = slice_index c.args.parents.now c.args.node in
    let pos : 0 < p = omega arith in
    let small = c.requires.tree.1 c.args.node c.requires.ready.1 in
    let up : ancestors c.args.parents.now c.args.node ≡ p ∷ ancestors c.args.parents.now p = ancestors-parent c.args.parents.now c.requires.tree.1
    c.args.node p c.requires.ready.1 refl pos in
    let left : MovedTo (view_of c.args.place.now.me.0) (ancestors c.args.parents.now p) c.leave.new.place.me.0 = left-one
    (view_of c.args.place.now.me.0) p (c.leave.ensures.left (ancestors c.args.parents.now p) (c.requires.ready.2 ∙ up)) in
    let same : c.leave.new.place.table_id ≡ c.args.board.now.table_id = search rules in
    let lt : p < c.args.board.now.table_id.words = omega arith in (
      omega arith,
      (
        search rules,
        (
          search rules,
          (
            search rules,
            (
              search rules,
              (
                search rules,
                (
                  (same, lt, c.requires.table.2),
                  (
                    c.requires.tree,
                    (moved-one (view_of c.args.place.now.me.0) left, pos, moved-path (view_of c.args.place.now.me.0) left),
                  ),
                ),
              ),
            ),
          ),
        ),
      ),
    )

pub returns-then-above-ne0-clause-left : goal.returns-then-above-ne0-clause-left
returns-then-above-ne0-clause-left g t c =
    let p : ℕ = slice_index c.args.parents.now c.args.node in
    let up : ancestors c.args.parents.now c.args.node ≡ p ∷ ancestors c.args.parents.now p = ancestors-parent c.args.parents.now c.requires.tree.1
    c.args.node p c.requires.ready.1 refl (omega arith) in
    let left : MovedTo (view_of c.args.place.now.me.0) (ancestors c.args.parents.now p) c.leave.new.place.me.0 = left-one
    (view_of c.args.place.now.me.0) p (c.leave.ensures.left (ancestors c.args.parents.now p) (c.requires.ready.2 ∙ up)) in
    moved-on (view_of c.args.place.now.me.0) left c.leave_all.ensures.left

pub returns-else-above-ne0-clause-left : goal.returns-else-above-ne0-clause-left
returns-else-above-ne0-clause-left g t c = ([], same-path c.requires.ready.0 (c.requires.ready.2 ∙ ancestors-root c.args.parents.now c.args.node (omega arith)))
