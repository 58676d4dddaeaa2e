use Rattle.std.proofs.Common.{refl, rules}
use Rattle.std.specs.Option.{option_map}
use Rattle.nfs_model.specs.Serial.Write.{Writing}
use Rattle.nfs_values.specs.Caller.{caller_of}
use Rattle.nfs_values.specs.Moment.{moment_of}
use Rattle.stripe_cards.specs.Cards.{card_of}
use Rattle.service_data.specs.Writing.{asked_to_write}
use Rattle.service_data.proofs.Written.{right-refused, right-failed, right-none, right-cleared, right-moved, right-written}
use Rattle.service_data.proofs.writing.write_in_stripe.Goals as goal

pub returns-in-Some-clause-right : goal.returns-in-Some-clause-right
returns-in-Some-clause-right c =
    let w : Writing = asked_to_write (caller_of c.args.caller.now) c.args.offset c.args.count c.args.written.now (moment_of c.args.moment) in
    right-refused c.args.fileid.0 w c.args.held.now.own c.get_mut-stripe.result.now c.get_mut-stripe.ensures.value
    (option_map card_of c.card-card.result) c.card-card.ensures.card _ c.owner_on-owner.ensures c.in-Some.refusal c.in-Some.ensures

pub returns-in-Err-clause-right : goal.returns-in-Err-clause-right
returns-in-Err-clause-right c =
    let w : Writing = asked_to_write (caller_of c.args.caller.now) c.args.offset c.args.count c.args.written.now (moment_of c.args.moment) in
    right-failed c.args.fileid.0 w c.args.held.now.own c.get_mut-stripe.result.now c.get_mut-stripe.ensures.value
    (option_map card_of c.card-card.result) c.card-card.ensures.card _ c.owner_on-owner.ensures c.in-None.ensures
    c.largest.result c.largest.ensures c.in-Err.status c.in-Err.ensures

pub returns-then-given-eq0-clause-right : goal.returns-then-given-eq0-clause-right
returns-then-given-eq0-clause-right c =
    let w : Writing = asked_to_write (caller_of c.args.caller.now) c.args.offset c.args.count c.args.written.now (moment_of c.args.moment) in
    right-none c.args.fileid.0 w c.args.held.now.own c.get_mut-stripe.result.now c.get_mut-stripe.ensures.value
    (option_map card_of c.card-card.result) c.card-card.ensures.card _ c.owner_on-owner.ensures c.in-None.ensures
    c.largest.result c.largest.ensures c.in-Ok.given c.in-Ok.ensures
    c.if-given-eq0.true c.verifier-verifier.result c.verifier-verifier.ensures

pub returns-then-ends_set_ids-clause-right : goal.returns-then-ends_set_ids-clause-right
returns-then-ends_set_ids-clause-right c =
    let w : Writing = asked_to_write (caller_of c.args.caller.now) c.args.offset c.args.count c.args.written.now (moment_of c.args.moment) in
    right-cleared c.args.fileid.0 w c.args.held.now.own c.get_mut-stripe.result.now c.get_mut-stripe.ensures.value
    (option_map card_of c.card-card.result) c.card-card.ensures.card _ c.owner_on-owner.ensures c.in-None.ensures
    c.largest.result c.largest.ensures c.in-Ok.given c.in-Ok.ensures c.if-given-eq0.false c.if-ends_set_ids.ensures

pub returns-then-not-overwrite-clause-right : goal.returns-then-not-overwrite-clause-right
returns-then-not-overwrite-clause-right c =
    let w : Writing = asked_to_write (caller_of c.args.caller.now) c.args.offset c.args.count c.args.written.now (moment_of c.args.moment) in
    right-moved c.args.fileid.0 w c.args.held.now.own c.get_mut-stripe.result.now c.get_mut-stripe.ensures.value
    (option_map card_of c.card-card.result) c.card-card.ensures.card _ c.owner_on-owner.ensures c.in-None.ensures
    c.largest.result c.largest.ensures c.in-Ok.given c.in-Ok.ensures
    c.if-given-eq0.false _ (c.if-not-overwrite.ensures.kept refl) (c.if-not-overwrite.ensures.answer (search rules))

pub returns-clause-right : goal.returns-clause-right
returns-clause-right c =
    let w : Writing = asked_to_write (caller_of c.args.caller.now) c.args.offset c.args.count c.args.written.now (moment_of c.args.moment) in
    right-written c.args.fileid.0 w c.args.held.now.own c.get_mut-stripe.result.now c.get_mut-stripe.ensures.value
    (option_map card_of c.card-card.result) c.card-card.ensures.card _ c.owner_on-owner.ensures c.in-None.ensures
    c.largest.result c.largest.ensures c.in-Ok.given c.in-Ok.ensures
    c.if-given-eq0.false _ c.verifier-verifier.result (c.if-not-overwrite.ensures.written (search rules) refl)
    (c.if-not-overwrite.ensures.answer (search rules))
    c.verifier-verifier.ensures c.if-ends_set_ids.ensures
