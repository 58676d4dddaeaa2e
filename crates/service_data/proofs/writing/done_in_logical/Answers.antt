use Rattle.std.proofs.Common.{Bool, Ok, take, ap, subst}
use Rattle.std.specs.Option.{option_map}
use Rattle.nfs_model.specs.Serial.Write.{Writing}
use Rattle.nfs_values.specs.Moment.{moment_of}
use Rattle.stripe_cards.specs.Cards.{card_of}
use Rattle.nfs_model.specs.volume.Logical.{LogicalValue}
use Rattle.filer_state.specs.state.Lenses.{LogicalSet}
use Rattle.filer_state.specs.state.Calls.{unasked}
use Rattle.filer_state.specs.state.Sets.{logical_before, logical_after}
use Rattle.service_data.specs.Holes.{Extends}
use Rattle.service_data.specs.Writing.{asked_to_write}
use Rattle.service_data.proofs.Spanned.{stripes-held}
use Rattle.service_data.proofs.WrittenUp.{done-failed, done-written, done-moved, done-starved, has-room}
use Rattle.service_data.proofs.writing.done_in_logical.Goals as goal

pub returns-in-Err-clause-done : goal.returns-in-Err-clause-done
returns-in-Err-clause-done c =
    let w : Writing = asked_to_write unasked c.args.offset c.args.count c.args.written.now (moment_of c.args.moment) in
    let old : LogicalSet = logical_before c.args.held.now in
    done-failed c.args.fileid.0 w old (option_map card_of c.args.card) c.requires.card
    c.get-logical.result.now.largest (ap (λ (l : LogicalValue). l.largest) c.get-logical.ensures) c.in-Err.status c.in-Err.ensures

pub extend-requires-clause-stripes : goal.extend-requires-clause-stripes
extend-requires-clause-stripes c = stripes-held c.args.held.now c.requires.whole

pub extend-requires-clause-room : goal.extend-requires-clause-room
extend-requires-clause-room c = has-room c.args.fileid.0 (logical_before c.args.held.now) c.requires.whole

pub returns-in-Ok-true-clause-done : goal.returns-in-Ok-true-clause-done
returns-in-Ok-true-clause-done c =
    let w : Writing = asked_to_write unasked c.args.offset c.args.count c.args.written.now (moment_of c.args.moment) in
    let old : LogicalSet = logical_before c.args.held.now in
    done-written c.args.fileid.0 w old (option_map card_of c.args.card) c.requires.card
    c.get-logical.result.now.largest (ap (λ (l : LogicalValue). l.largest) c.get-logical.ensures) c.in-Ok.given c.in-Ok.ensures c.if-given-eq0.false
    c.get-logical.result.now.verifier.0 (ap (λ (l : LogicalValue). l.verifier) c.get-logical.ensures)
    (logical_after c.args.held.now c.extend.new.held)
    (subst (λ (b : Bool). Extends c.args.fileid.0 c.args.offset (take c.in-Ok.given c.args.written.now) (moment_of c.args.moment) old (Ok b)
    (logical_after c.args.held.now c.extend.new.held)) c.in-Ok-true.field-0-test c.in-Ok-true.ensures.extended)

pub returns-in-Ok-false-clause-done : goal.returns-in-Ok-false-clause-done
returns-in-Ok-false-clause-done c =
    let w : Writing = asked_to_write unasked c.args.offset c.args.count c.args.written.now (moment_of c.args.moment) in
    let old : LogicalSet = logical_before c.args.held.now in
    done-moved c.args.fileid.0 w old (option_map card_of c.args.card) c.requires.card
    c.get-logical.result.now.largest (ap (λ (l : LogicalValue). l.largest) c.get-logical.ensures) c.in-Ok.given c.in-Ok.ensures c.if-given-eq0.false
    (logical_after c.args.held.now c.extend.new.held)
    (subst (λ (b : Bool). Extends c.args.fileid.0 c.args.offset (take c.in-Ok.given c.args.written.now) (moment_of c.args.moment) old (Ok b)
    (logical_after c.args.held.now c.extend.new.held)) c.in-Ok-false.field-0-test c.in-Ok-false.ensures.extended)

pub returns-in-Err-extend-clause-done : goal.returns-in-Err-extend-clause-done
returns-in-Err-extend-clause-done c =
    let w : Writing = asked_to_write unasked c.args.offset c.args.count c.args.written.now (moment_of c.args.moment) in
    let old : LogicalSet = logical_before c.args.held.now in
    done-starved c.args.fileid.0 w old (option_map card_of c.args.card) c.requires.card
    c.get-logical.result.now.largest (ap (λ (l : LogicalValue). l.largest) c.get-logical.ensures) c.in-Ok.given c.in-Ok.ensures c.if-given-eq0.false
    c.in-Err-extend.error (logical_after c.args.held.now c.extend.new.held) c.in-Err-extend.ensures.extended

pub returns-in-Err-clause-stripes : goal.returns-in-Err-clause-stripes
returns-in-Err-clause-stripes c = stripes-held c.args.held.now c.requires.whole

pub returns-then-given-eq0-clause-stripes : goal.returns-then-given-eq0-clause-stripes
returns-then-given-eq0-clause-stripes c = stripes-held c.args.held.now c.requires.whole
