use Rattle.std.proofs.Common.{length, ap, ◌∙◌}
use Rattle.affinity.specs.Ancestors.{ancestors}
use Rattle.depot_rule.specs.Seats.{view_of}
use Rattle.depot_rule.specs.History.{listed}
use Rattle.depot.specs.Grants.{IsAfter}
use Rattle.depot.specs.Words.{served_by}
use Rattle.depot.proofs.Moves.{refused-here, granted-from, none-excluded, moved-one, moved-path, moved-unsure}
use Rattle.depot.proofs.claiming.try_claim.Goals as goal

pub claim-word-requires-clause-ready : goal.claim-word-requires-clause-ready
claim-word-requires-clause-ready g c =
    let v = view_of c.args.place.now.me.0 in
    let climbed = c.in_ok-climb.ensures.entered in (
      moved-one v climbed,
      c.requires.ready.1,
      moved-unsure v climbed ∙ c.requires.ready.2,
      moved-path v climbed ∙ ap (λ ps. ancestors ps c.args.node) c.requires.tree.0,
      ap (λ us. (view_of us).looked) climbed.1 ∙ c.requires.ready.5,
    )

pub leave_all-requires-clause-ready : goal.leave_all-requires-clause-ready
leave_all-requires-clause-ready g c =
    let refused = c.claim-word.ensures.refused c.if-word-eq0.false in (
      ap length refused.0,
      c.requires.ready.1,
      ap (λ us. (view_of us).path) refused.0 ∙ moved-path (view_of c.args.place.now.me.0) c.in_ok-climb.ensures.entered,
    )

pub returns-then-word-eq0-clause-granted : goal.returns-then-word-eq0-clause-granted
returns-then-word-eq0-clause-granted g c =
    let climbed = c.in_ok-climb.ensures.entered in
    let granted = c.claim-word.ensures.granted c.if-word-eq0.true in (
      granted-from g.M.Parcel.HasKind.kind c.args.parents.now (view_of c.args.place.now.me.0) c.args.node
          (λ u l. IsAfter (served_by g.M.Machine) u c.args.node (listed l)) (λ path rs l q. q) c.requires.ready.3 climbed granted.0,
      none-excluded c.args.parents.now (view_of c.args.place.now.me.0) c.args.node climbed granted.1,
    )

pub returns-clause-refused : goal.returns-clause-refused
returns-clause-refused g c =
    let refused = c.claim-word.ensures.refused c.if-word-eq0.false in
    refused-here c.args.parents.now c.requires.tree.1 (view_of c.args.place.now.me.0) c.args.node c.claim-word.result c.requires.ready.1
    c.requires.ready.2 c.if-word-eq0.false
    c.in_ok-climb.ensures.entered refused.0 refused.1 c.leave_all.ensures.left
