use Rattle.std.proofs.Common.{Ok, take, ap, subst}
use Rattle.std.specs.Option.{option_map}
use Rattle.nfs_model.specs.Serial.Write.{Writing}
use Rattle.nfs_values.specs.Moment.{moment_of}
use Rattle.stripe_cards.specs.Cards.{card_of}
use Rattle.nfs_model.specs.volume.Logical.{LogicalValue}
use Rattle.filer_state.specs.state.Lenses.{VolumeSet}
use Rattle.filer_state.specs.state.Calls.{unasked}
use Rattle.filer_state.specs.state.Sets.{logical_before, volume_before, volume_after}
use Rattle.service_data.specs.Writing.{asked_to_write}
use Rattle.service_data.specs.WritingInVolume.{ExtendsInVolume}
use Rattle.service_data.specs.declared.extension.Extension.{Extension}
use Rattle.service_data.proofs.Spanned.{stripes-held}
use Rattle.service_data.proofs.WrittenUp.{has-room}
use Rattle.service_data.proofs.WrittenInVolume.{held-below, told-failed, told-written, told-full, told-short, told-starved}
use Rattle.service_data.proofs.writing.done_in_volume.Goals as goal

pub returns-in-Err-clause-done : goal.returns-in-Err-clause-done
returns-in-Err-clause-done c =
    let w : Writing = asked_to_write unasked c.args.offset c.args.count c.args.written.now (moment_of c.args.moment) in
    let old : VolumeSet = volume_before c.args.held.now in
    told-failed c.args.fileid.0 w old (option_map card_of c.args.card) c.requires.card
    c.get-logical.result.now.largest (ap (λ (l : LogicalValue). l.largest) c.get-logical.ensures) c.in-Err.status c.in-Err.ensures

pub extend_in_volume-requires-clause-stripes : goal.extend_in_volume-requires-clause-stripes
extend_in_volume-requires-clause-stripes c =
    stripes-held c.args.held.now.logical (held-below (volume_before c.args.held.now) c.requires.whole)

pub extend_in_volume-requires-clause-room : goal.extend_in_volume-requires-clause-room
extend_in_volume-requires-clause-room c =
    has-room c.args.fileid.0 (logical_before c.args.held.now.logical) (held-below (volume_before c.args.held.now) c.requires.whole)

pub returns-in-Ok-Written-clause-done : goal.returns-in-Ok-Written-clause-done
returns-in-Ok-Written-clause-done c =
    let w : Writing = asked_to_write unasked c.args.offset c.args.count c.args.written.now (moment_of c.args.moment) in
    let old : VolumeSet = volume_before c.args.held.now in
    told-written c.args.fileid.0 w old (option_map card_of c.args.card) c.requires.card
    c.get-logical.result.now.largest (ap (λ (l : LogicalValue). l.largest) c.get-logical.ensures) c.in-Ok.given c.in-Ok.ensures c.if-given-eq0.false
    c.get-logical.result.now.verifier.0 (ap (λ (l : LogicalValue). l.verifier) c.get-logical.ensures)
    (volume_after c.args.held.now c.extend_in_volume.new.held)
    (subst (λ (e : Extension). ExtendsInVolume c.args.fileid.0 c.args.offset (take c.in-Ok.given c.args.written.now) (moment_of c.args.moment) old (Ok e)
    (volume_after c.args.held.now c.extend_in_volume.new.held)) c.in-Ok-Written.field-0-is c.in-Ok-Written.ensures.extended)

pub returns-in-Ok-NoSpace-clause-done : goal.returns-in-Ok-NoSpace-clause-done
returns-in-Ok-NoSpace-clause-done c =
    let w : Writing = asked_to_write unasked c.args.offset c.args.count c.args.written.now (moment_of c.args.moment) in
    let old : VolumeSet = volume_before c.args.held.now in
    told-full c.args.fileid.0 w old (option_map card_of c.args.card) c.requires.card
    c.get-logical.result.now.largest (ap (λ (l : LogicalValue). l.largest) c.get-logical.ensures) c.in-Ok.given c.in-Ok.ensures c.if-given-eq0.false
    (volume_after c.args.held.now c.extend_in_volume.new.held)
    (subst (λ (e : Extension). ExtendsInVolume c.args.fileid.0 c.args.offset (take c.in-Ok.given c.args.written.now) (moment_of c.args.moment) old (Ok e)
    (volume_after c.args.held.now c.extend_in_volume.new.held)) c.in-Ok-NoSpace.field-0-is c.in-Ok-NoSpace.ensures.extended)

pub returns-in-Ok-Short-clause-done : goal.returns-in-Ok-Short-clause-done
returns-in-Ok-Short-clause-done c =
    let w : Writing = asked_to_write unasked c.args.offset c.args.count c.args.written.now (moment_of c.args.moment) in
    let old : VolumeSet = volume_before c.args.held.now in
    told-short c.args.fileid.0 w old (option_map card_of c.args.card) c.requires.card
    c.get-logical.result.now.largest (ap (λ (l : LogicalValue). l.largest) c.get-logical.ensures) c.in-Ok.given c.in-Ok.ensures c.if-given-eq0.false
    (volume_after c.args.held.now c.extend_in_volume.new.held)
    (subst (λ (e : Extension). ExtendsInVolume c.args.fileid.0 c.args.offset (take c.in-Ok.given c.args.written.now) (moment_of c.args.moment) old (Ok e)
    (volume_after c.args.held.now c.extend_in_volume.new.held)) c.in-Ok-Short.field-0-is c.in-Ok-Short.ensures.extended)

pub returns-in-Err-extend_in_volume-clause-done : goal.returns-in-Err-extend_in_volume-clause-done
returns-in-Err-extend_in_volume-clause-done c =
    let w : Writing = asked_to_write unasked c.args.offset c.args.count c.args.written.now (moment_of c.args.moment) in
    let old : VolumeSet = volume_before c.args.held.now in
    told-starved c.args.fileid.0 w old (option_map card_of c.args.card) c.requires.card
    c.get-logical.result.now.largest (ap (λ (l : LogicalValue). l.largest) c.get-logical.ensures) c.in-Ok.given c.in-Ok.ensures c.if-given-eq0.false
    c.in-Err-extend_in_volume.error (volume_after c.args.held.now c.extend_in_volume.new.held) c.in-Err-extend_in_volume.ensures.extended

pub returns-in-Err-clause-stripes : goal.returns-in-Err-clause-stripes
returns-in-Err-clause-stripes c = stripes-held c.args.held.now.logical (held-below (volume_before c.args.held.now) c.requires.whole)

pub returns-then-given-eq0-clause-stripes : goal.returns-then-given-eq0-clause-stripes
returns-then-given-eq0-clause-stripes c = stripes-held c.args.held.now.logical (held-below (volume_before c.args.held.now) c.requires.whole)
