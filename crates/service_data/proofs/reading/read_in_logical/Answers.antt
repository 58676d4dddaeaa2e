use Rattle.std.proofs.Common.{◌<◌, ◌≡◌, sym, ap, ◌∙◌, Some, None, Ok, Err, arith}
use Rattle.std.proofs.lemmas.Bool.Decides.{nat_tests}
use Rattle.nfs_values.specs.Answer as answers
use Rattle.nfs_values.specs.Caller.{caller_of}
use Rattle.nfs_values.specs.Status.{status_of}
use Rattle.nfs_values.specs.declared.answer.ReadResults.{ReadResults}
use Rattle.nfs_model.specs.volume.Inodes.{inode_of}
use Rattle.nfs_model.specs.volume.Logical.{LogicalValue}
use Rattle.filer_state.specs.state.Lenses.{LogicalSet}
use Rattle.filer_state.specs.state.Sets.{logical_before}
use Rattle.filer_state.specs.state.Tree.{file_byte}
use Rattle.service_data.proofs.Spanned.{stripes-held}
use Rattle.service_data.proofs.Told.{told-read, told-none, room-behind, logical-told, logical-asked, logical-refused, logical-right, logical-starved}
use Rattle.service_data.proofs.reading.read_in_logical.Goals as goal

pub returns-in-Some : goal.returns-in-Some
returns-in-Some c =
    let set : LogicalSet = logical_before c.args.held.now in
    let there = c.get-inode.ensures ∙ ap (λ (l : LogicalValue). inode_of l.inodes c.args.fileid.0) c.get.ensures in
    record {
      right = logical-refused c.args.fileid.0 c.args.offset c.args.count set (caller_of c.args.caller.now) c.in-Some.refusal
          (logical-asked c.args.fileid.0 c.args.offset c.args.count set _ _ (caller_of c.args.caller.now) (Some (status_of c.in-Some.refusal)) there
          c.owner_of.ensures c.in-Some.ensures);
    }

pub returns-in-Err : goal.returns-in-Err
returns-in-Err c =
    let set : LogicalSet = logical_before c.args.held.now in
    let there = c.get-inode.ensures ∙ ap (λ (l : LogicalValue). inode_of l.inodes c.args.fileid.0) c.get.ensures in
    record {
      right = logical-right c.args.fileid.0 c.args.offset c.args.count set (caller_of c.args.caller.now)
          (logical-asked c.args.fileid.0 c.args.offset c.args.count set _ _ (caller_of c.args.caller.now) None there c.owner_of.ensures c.in-None.ensures)
          (Err c.in-Err.status)
          (sym (logical-told c.args.fileid.0 c.args.offset c.args.count set _ (Err c.in-Err.status) there c.in-Err.ensures));
    }

pub returns-then-given-eq0 : goal.returns-then-given-eq0
returns-then-given-eq0 c =
    let set : LogicalSet = logical_before c.args.held.now in
    let there = c.get-inode.ensures ∙ ap (λ (l : LogicalValue). inode_of l.inodes c.args.fileid.0) c.get.ensures in
    let none : c.given_of-given.result.0 ≡ 0 = grind (arith, nat_tests, c.if-given-eq0.true) in
    record {
      right = logical-right c.args.fileid.0 c.args.offset c.args.count set (caller_of c.args.caller.now)
          (logical-asked c.args.fileid.0 c.args.offset c.args.count set _ _ (caller_of c.args.caller.now) None there c.owner_of.ensures c.in-None.ensures)
          (Ok c.none_read.result)
          (ap (λ (r : ReadResults). answers.bytes_read r) c.none_read.ensures
          ∙ told-none (file_byte set.stripes c.args.fileid.0) c.args.offset _ c.in-Ok.size c.given_of-given.result.0 c.given_of-given.result.1
          c.given_of-given.ensures.given c.given_of-given.ensures.eof none
          ∙ sym (logical-told c.args.fileid.0 c.args.offset c.args.count set _ (Ok c.in-Ok.size) there c.in-Ok.ensures));
    }

pub returns-in_err-place : goal.returns-in_err-place
returns-in_err-place c =
    let set : LogicalSet = logical_before c.args.held.now in
    let there = c.get-inode.ensures ∙ ap (λ (l : LogicalValue). inode_of l.inodes c.args.fileid.0) c.get.ensures in
    let some : 0 < c.given_of-given.result.0 = grind (arith, nat_tests, c.if-given-eq0.false) in
    record {
      right = logical-starved c.args.fileid.0 c.args.offset c.args.count set (caller_of c.args.caller.now)
          (logical-asked c.args.fileid.0 c.args.offset c.args.count set _ _ (caller_of c.args.caller.now) None there c.owner_of.ensures c.in-None.ensures)
          c.from_residual.result c.from_residual.ensures.0 c.in-Ok.size
          c.given_of-given.result.0 some c.given_of-given.ensures.given
          (logical-told c.args.fileid.0 c.args.offset c.args.count set _ (Ok c.in-Ok.size) there c.in-Ok.ensures);
    }

pub read_spans-requires-clause-stripes : goal.read_spans-requires-clause-stripes
read_spans-requires-clause-stripes c = stripes-held c.args.held.now c.requires.whole

pub new-bytes-requires-clause-room : goal.new-bytes-requires-clause-room
new-bytes-requires-clause-room c =
    let set : LogicalSet = logical_before c.args.held.now in
    room-behind c.in_ok-place.place c.read_spans.new.into (file_byte set.stripes c.args.fileid.0) c.args.offset c.given_of-given.result.0
    c.read_spans.ensures.bytes c.read_spans.ensures.capacity c.in_ok-place.ensures.room

pub returns : goal.returns
returns c =
    let set : LogicalSet = logical_before c.args.held.now in
    let there = c.get-inode.ensures ∙ ap (λ (l : LogicalValue). inode_of l.inodes c.args.fileid.0) c.get.ensures in
    record {
      right = logical-right c.args.fileid.0 c.args.offset c.args.count set (caller_of c.args.caller.now)
          (logical-asked c.args.fileid.0 c.args.offset c.args.count set _ _ (caller_of c.args.caller.now) None there c.owner_of.ensures c.in-None.ensures)
          (Ok (record { eof = c.given_of-given.result.1; bytes = c.new-bytes.result }))
          (told-read (file_byte set.stripes c.args.fileid.0) c.args.offset _ c.in-Ok.size c.given_of-given.result.0 c.given_of-given.result.1
          c.in_ok-place.place.items c.read_spans.new.into.items c.new-bytes.result c.given_of-given.ensures.given c.given_of-given.ensures.eof
          c.in_ok-place.ensures.head c.read_spans.ensures.bytes c.new-bytes.ensures
          ∙ sym (logical-told c.args.fileid.0 c.args.offset c.args.count set _ (Ok c.in-Ok.size) there c.in-Ok.ensures));
    }
