use Rattle.std.proofs.Common.{refl, sym, ◌∙◌, true, false}
use Rattle.affinity.proofs.Tested.{tree_fault_by}
use Rattle.affinity.proofs.sizes.check_tree.Goals as goal

pub returns-then-not-are_known-clause-err : goal.returns-then-not-are_known-clause-err
returns-then-not-are_known-clause-err c =
    let broken = sym c.are_known.ensures ∙ c.if-not-are_known.true in
    sym (tree_fault_by c.args.aggregates.now c.args.volumes.now false _ _ _ c.if-aggregates-lt1.false c.if-aggregates-gt-MOST_AGGREGATES.false
    c.if-volumes-lt1.false c.if-volumes-gt-MOST_VOLUMES.false broken refl refl refl)

pub returns-then-not-are_sized-clause-err : goal.returns-then-not-are_sized-clause-err
returns-then-not-are_sized-clause-err c =
    let known = sym c.are_known.ensures ∙ c.if-not-are_known.false in
    let broken = sym c.are_sized.ensures ∙ c.if-not-are_sized.true in
    sym (tree_fault_by c.args.aggregates.now c.args.volumes.now true false _ _ c.if-aggregates-lt1.false c.if-aggregates-gt-MOST_AGGREGATES.false
    c.if-volumes-lt1.false c.if-volumes-gt-MOST_VOLUMES.false known broken refl refl)

pub returns-then-not-are_spare-clause-err : goal.returns-then-not-are_spare-clause-err
returns-then-not-are_spare-clause-err c =
    let known = sym c.are_known.ensures ∙ c.if-not-are_known.false in
    let sized = sym c.are_sized.ensures ∙ c.if-not-are_sized.false in
    let broken = sym c.are_spare.ensures ∙ c.if-not-are_spare.true in
    sym (tree_fault_by c.args.aggregates.now c.args.volumes.now true true false _ c.if-aggregates-lt1.false c.if-aggregates-gt-MOST_AGGREGATES.false
    c.if-volumes-lt1.false c.if-volumes-gt-MOST_VOLUMES.false known sized broken refl)

pub returns-then-not-are_striped-clause-err : goal.returns-then-not-are_striped-clause-err
returns-then-not-are_striped-clause-err c =
    let known = sym c.are_known.ensures ∙ c.if-not-are_known.false in
    let sized = sym c.are_sized.ensures ∙ c.if-not-are_sized.false in
    let spare = sym c.are_spare.ensures ∙ c.if-not-are_spare.false in
    let broken = sym c.are_striped.ensures ∙ c.if-not-are_striped.true in
    sym (tree_fault_by c.args.aggregates.now c.args.volumes.now true true true false c.if-aggregates-lt1.false c.if-aggregates-gt-MOST_AGGREGATES.false
    c.if-volumes-lt1.false c.if-volumes-gt-MOST_VOLUMES.false known sized spare broken)

pub returns-clause-ok : goal.returns-clause-ok
returns-clause-ok c =
    let known = sym c.are_known.ensures ∙ c.if-not-are_known.false in
    let sized = sym c.are_sized.ensures ∙ c.if-not-are_sized.false in
    let spare = sym c.are_spare.ensures ∙ c.if-not-are_spare.false in
    let striped = sym c.are_striped.ensures ∙ c.if-not-are_striped.false in
    tree_fault_by c.args.aggregates.now c.args.volumes.now true true true true c.if-aggregates-lt1.false c.if-aggregates-gt-MOST_AGGREGATES.false
    c.if-volumes-lt1.false c.if-volumes-gt-MOST_VOLUMES.false known sized spare striped
