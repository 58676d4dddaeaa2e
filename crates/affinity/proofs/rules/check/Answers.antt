use Rattle.std.proofs.Common.{refl, sym, ◌∙◌, true, false}
use Rattle.affinity.proofs.Tested.{fault_by}
use Rattle.affinity.proofs.rules.check.Goals as goal

pub returns-then-not-are_known-clause-err : goal.returns-then-not-are_known-clause-err
returns-then-not-are_known-clause-err c =
    let unknown = sym c.are_known.ensures ∙ c.if-not-are_known.true in
    sym (fault_by c.args.aggregates.now c.args.volumes.now false _ _ _ _ c.if-aggregates-lt1.false c.if-aggregates-gt-MOST_AGGREGATES.false
    c.if-volumes-lt1.false c.if-volumes-gt-MOST_VOLUMES.false unknown refl refl refl refl)

pub returns-then-not-are_sized-clause-err : goal.returns-then-not-are_sized-clause-err
returns-then-not-are_sized-clause-err c =
    let known = sym c.are_known.ensures ∙ c.if-not-are_known.false in
    let unsized = sym c.are_sized.ensures ∙ c.if-not-are_sized.true in
    sym (fault_by c.args.aggregates.now c.args.volumes.now true false _ _ _ c.if-aggregates-lt1.false c.if-aggregates-gt-MOST_AGGREGATES.false
    c.if-volumes-lt1.false c.if-volumes-gt-MOST_VOLUMES.false known unsized refl refl refl)

pub returns-then-not-are_spare-clause-err : goal.returns-then-not-are_spare-clause-err
returns-then-not-are_spare-clause-err c =
    let known = sym c.are_known.ensures ∙ c.if-not-are_known.false in
    let sized = sym c.are_sized.ensures ∙ c.if-not-are_sized.false in
    let unspare = sym c.are_spare.ensures ∙ c.if-not-are_spare.true in
    sym (fault_by c.args.aggregates.now c.args.volumes.now true true false _ _ c.if-aggregates-lt1.false c.if-aggregates-gt-MOST_AGGREGATES.false
    c.if-volumes-lt1.false c.if-volumes-gt-MOST_VOLUMES.false known sized unspare refl refl)

pub returns-then-not-are_striped-clause-err : goal.returns-then-not-are_striped-clause-err
returns-then-not-are_striped-clause-err c =
    let known = sym c.are_known.ensures ∙ c.if-not-are_known.false in
    let sized = sym c.are_sized.ensures ∙ c.if-not-are_sized.false in
    let spare = sym c.are_spare.ensures ∙ c.if-not-are_spare.false in
    let unstriped = sym c.are_striped.ensures ∙ c.if-not-are_striped.true in
    sym (fault_by c.args.aggregates.now c.args.volumes.now true true true false _ c.if-aggregates-lt1.false c.if-aggregates-gt-MOST_AGGREGATES.false
    c.if-volumes-lt1.false c.if-volumes-gt-MOST_VOLUMES.false known sized spare unstriped refl)

pub returns-then-not-are_limited-clause-err : goal.returns-then-not-are_limited-clause-err
returns-then-not-are_limited-clause-err c =
    let known = sym c.are_known.ensures ∙ c.if-not-are_known.false in
    let sized = sym c.are_sized.ensures ∙ c.if-not-are_sized.false in
    let spare = sym c.are_spare.ensures ∙ c.if-not-are_spare.false in
    let striped = sym c.are_striped.ensures ∙ c.if-not-are_striped.false in
    let unlimited = sym c.are_limited.ensures ∙ c.if-not-are_limited.true in
    sym (fault_by c.args.aggregates.now c.args.volumes.now true true true true false c.if-aggregates-lt1.false c.if-aggregates-gt-MOST_AGGREGATES.false
    c.if-volumes-lt1.false c.if-volumes-gt-MOST_VOLUMES.false known sized spare striped unlimited)

pub returns-clause-ok : goal.returns-clause-ok
returns-clause-ok c =
    let known = sym c.are_known.ensures ∙ c.if-not-are_known.false in
    let sized = sym c.are_sized.ensures ∙ c.if-not-are_sized.false in
    let spare = sym c.are_spare.ensures ∙ c.if-not-are_spare.false in
    let striped = sym c.are_striped.ensures ∙ c.if-not-are_striped.false in
    let limited = sym c.are_limited.ensures ∙ c.if-not-are_limited.false in
    fault_by c.args.aggregates.now c.args.volumes.now true true true true true c.if-aggregates-lt1.false c.if-aggregates-gt-MOST_AGGREGATES.false
    c.if-volumes-lt1.false c.if-volumes-gt-MOST_VOLUMES.false known sized spare striped limited
