use Rattle.std.proofs.Common.{ap, ◌∙◌}
use Rattle.std.specs.Option.{option_map}
use Rattle.nfs_model.specs.Serial.Write.{Writing}
use Rattle.nfs_model.specs.volume.Inodes.{inode_of}
use Rattle.nfs_model.specs.volume.Logical.{LogicalValue}
use Rattle.nfs_values.specs.Caller.{caller_of}
use Rattle.nfs_values.specs.Moment.{moment_of}
use Rattle.nfs_values.specs.Ownership.{ownership_of}
use Rattle.stripe_cards.specs.Cards.{card_of}
use Rattle.filer_state.specs.state.Sets.{volume_before, volume_after}
use Rattle.filer_state.specs.bytes.WritingLaws.{plain}
use Rattle.service_data.specs.Writing.{asked_to_write, card_shown}
use Rattle.service_data.proofs.Cleared.{volume-final, moved-kept, starved-kept}
use Rattle.service_data.proofs.WrittenUp.{owner-held}
use Rattle.service_data.proofs.WrittenInVolume.{right-denied, right-told}
use Rattle.service_data.proofs.writing.write_in_volume.Goals as goal

pub done_in_volume-told-requires-clause-card : goal.done_in_volume-told-requires-clause-card
done_in_volume-told-requires-clause-card c =
    c.card_of_inode-card.ensures ∙ ap card_shown (c.get-2.ensures ∙ ap (λ (l : LogicalValue). inode_of l.inodes c.args.fileid.0) c.get.ensures)

pub returns-in-Some-clause-right : goal.returns-in-Some-clause-right
returns-in-Some-clause-right c =
    let w : Writing = asked_to_write (caller_of c.args.caller.now) c.args.offset c.args.count c.args.written.now (moment_of c.args.moment) in
    right-denied c.args.fileid.0 w (volume_before c.args.held.now) (option_map ownership_of c.owner_on-owner.result)
    (owner-held c.args.fileid.0 (volume_before c.args.held.now).logical _ (option_map card_of c.card_of_inode-card.result) c.owner_on-owner.ensures
    (c.card_of_inode-card.ensures ∙ ap card_shown (c.get-2.ensures ∙ ap (λ (l : LogicalValue). inode_of l.inodes c.args.fileid.0) c.get.ensures)))
    c.writes_are_permitted.ensures.in_volume_refused c.in-Some.refusal c.in-Some.ensures

pub returns-clause-right : goal.returns-clause-right
returns-clause-right c =
    let w : Writing = asked_to_write (caller_of c.args.caller.now) c.args.offset c.args.count c.args.written.now (moment_of c.args.moment) in
    right-told c.args.fileid.0 w (volume_before c.args.held.now) (option_map ownership_of c.owner_on-owner.result)
    (owner-held c.args.fileid.0 (volume_before c.args.held.now).logical _ (option_map card_of c.card_of_inode-card.result) c.owner_on-owner.ensures
    (c.card_of_inode-card.ensures ∙ ap card_shown (c.get-2.ensures ∙ ap (λ (l : LogicalValue). inode_of l.inodes c.args.fileid.0) c.get.ensures)))
    c.writing_calls_are_right.ensures.in_volume c.writing_calls_are_right.ensures.in_volume_starves c.writes_are_permitted.ensures.in_volume
    c.in-None.ensures (volume_after c.args.held.now c.done_in_volume-told.new.held) _
    c.done_in_volume-told.result c.done_in_volume-told.ensures.done
    (volume-final c.args.held.now c.done_in_volume-told.new.held c.clear_set_ids.new.held c.args.fileid.0 (plain w) c.done_in_volume-told.result
    c.done_in_volume-told.ensures.done _ (option_map ownership_of c.owner_on-owner.result) c.clear_set_ids.ensures.set)

pub returns-clause-moved : goal.returns-clause-moved
returns-clause-moved c =
    moved-kept c.args.held.now c.done_in_volume-told.new.held (record c.done_in_volume-told.new.held { logical = c.clear_set_ids.new.held })
    c.done_in_volume-told.result c.done_in_volume-told.ensures.moved
    (λ none. ap (λ l. record c.done_in_volume-told.new.held { logical = l }) (c.clear_set_ids.ensures.kept none))

pub returns-clause-starved : goal.returns-clause-starved
returns-clause-starved c =
    starved-kept c.args.held.now c.done_in_volume-told.new.held (record c.done_in_volume-told.new.held { logical = c.clear_set_ids.new.held })
    c.done_in_volume-told.result c.done_in_volume-told.ensures.starved
    (λ none. ap (λ l. record c.done_in_volume-told.new.held { logical = l }) (c.clear_set_ids.ensures.kept none))

pub returns-clause-alike : goal.returns-clause-alike
returns-clause-alike c = (
  λ i. c.done_in_volume-told.ensures.alike.0 i ∙ c.clear_set_ids.ensures.alike i,
  c.done_in_volume-told.ensures.alike.1,
)
