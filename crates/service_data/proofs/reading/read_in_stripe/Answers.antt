use Rattle.std.proofs.Common.{◌<◌, ◌≡◌, sym, ap, ◌∙◌, ◌++◌, Some, None, Ok, Err, arith}
use Rattle.std.proofs.lemmas.Bool.Decides.{nat_tests}
use Rattle.nfs_values.specs.Answer as answers
use Rattle.nfs_values.specs.Caller.{caller_of}
use Rattle.nfs_values.specs.Status.{status_of}
use Rattle.nfs_values.specs.declared.answer.ReadResults.{ReadResults}
use Rattle.nfs_model.specs.volume.Stripes.{StripeValue, byte_at, bytes_read}
use Rattle.service_data.proofs.Told.{told-read, told-none, room-behind, stripe-told, stripe-asked, stripe-refused, stripe-right, stripe-starved}
use Rattle.service_data.proofs.reading.read_in_stripe.Goals as goal

pub returns-in-Some : goal.returns-in-Some
returns-in-Some c =
    let s : StripeValue = c.args.held.now.own in
    record {
      right = stripe-refused c.args.fileid.0 c.args.offset c.args.count s (caller_of c.args.caller.now) c.in-Some.refusal
          (stripe-asked c.args.fileid.0 c.args.offset c.args.count s c.get-stripe.result.now _ _ (caller_of c.args.caller.now)
          (Some (status_of c.in-Some.refusal)) c.get-stripe.ensures c.card-card.ensures.card c.owner_on.ensures c.in-Some.ensures);
    }

pub returns-in-Err : goal.returns-in-Err
returns-in-Err c =
    let s : StripeValue = c.args.held.now.own in
    record {
      right = stripe-right c.args.fileid.0 c.args.offset c.args.count s (caller_of c.args.caller.now)
          (stripe-asked c.args.fileid.0 c.args.offset c.args.count s c.get-stripe.result.now _ _ (caller_of c.args.caller.now) None
          c.get-stripe.ensures c.card-card.ensures.card c.owner_on.ensures c.in-None.ensures)
          (Err c.in-Err.status)
          (sym (stripe-told c.args.fileid.0 c.args.offset c.args.count s c.get-stripe.result.now _ (Err c.in-Err.status)
          c.get-stripe.ensures c.card-card.ensures.card c.in-Err.ensures));
    }

pub returns-then-given-eq0 : goal.returns-then-given-eq0
returns-then-given-eq0 c =
    let s : StripeValue = c.args.held.now.own in
    let none : c.given_of-given.result.0 ≡ 0 = grind (arith, nat_tests, c.if-given-eq0.true) in
    record {
      right = stripe-right c.args.fileid.0 c.args.offset c.args.count s (caller_of c.args.caller.now)
          (stripe-asked c.args.fileid.0 c.args.offset c.args.count s c.get-stripe.result.now _ _ (caller_of c.args.caller.now) None
          c.get-stripe.ensures c.card-card.ensures.card c.owner_on.ensures c.in-None.ensures)
          (Ok c.none_read.result)
          (ap (λ (r : ReadResults). answers.bytes_read r) c.none_read.ensures
          ∙ told-none (byte_at s c.args.fileid.0) c.args.offset _ c.in-Ok.size c.given_of-given.result.0 c.given_of-given.result.1
          c.given_of-given.ensures.given c.given_of-given.ensures.eof none
          ∙ sym (stripe-told c.args.fileid.0 c.args.offset c.args.count s c.get-stripe.result.now _ (Ok c.in-Ok.size)
          c.get-stripe.ensures c.card-card.ensures.card c.in-Ok.ensures));
    }

pub returns-in_err-place : goal.returns-in_err-place
returns-in_err-place c =
    let s : StripeValue = c.args.held.now.own in
    let some : 0 < c.given_of-given.result.0 = grind (arith, nat_tests, c.if-given-eq0.false) in
    record {
      right = stripe-starved c.args.fileid.0 c.args.offset c.args.count s (caller_of c.args.caller.now)
          (stripe-asked c.args.fileid.0 c.args.offset c.args.count s c.get-stripe.result.now _ _ (caller_of c.args.caller.now) None
          c.get-stripe.ensures c.card-card.ensures.card c.owner_on.ensures c.in-None.ensures)
          c.from_residual.result c.from_residual.ensures.0 c.in-Ok.size
          c.given_of-given.result.0 some c.given_of-given.ensures.given
          (stripe-told c.args.fileid.0 c.args.offset c.args.count s c.get-stripe.result.now _ (Ok c.in-Ok.size)
          c.get-stripe.ensures c.card-card.ensures.card c.in-Ok.ensures);
    }

pub new-bytes-requires-clause-room : goal.new-bytes-requires-clause-room
new-bytes-requires-clause-room c =
    room-behind c.in_ok-place.place c.read.new.into (byte_at c.get-stripe.result.now c.args.fileid.0) c.args.offset c.given_of-given.result.0
    c.read.ensures.bytes c.read.ensures.capacity c.in_ok-place.ensures.room

pub returns : goal.returns
returns c =
    let s : StripeValue = c.args.held.now.own in
    record {
      right = stripe-right c.args.fileid.0 c.args.offset c.args.count s (caller_of c.args.caller.now)
          (stripe-asked c.args.fileid.0 c.args.offset c.args.count s c.get-stripe.result.now _ _ (caller_of c.args.caller.now) None
          c.get-stripe.ensures c.card-card.ensures.card c.owner_on.ensures c.in-None.ensures)
          (Ok (record { eof = c.given_of-given.result.1; bytes = c.new-bytes.result }))
          (told-read (byte_at s c.args.fileid.0) c.args.offset _ c.in-Ok.size c.given_of-given.result.0 c.given_of-given.result.1
          c.in_ok-place.place.items c.read.new.into.items c.new-bytes.result c.given_of-given.ensures.given c.given_of-given.ensures.eof
          c.in_ok-place.ensures.head
          (c.read.ensures.bytes
          ∙ ap (λ (x : StripeValue). c.in_ok-place.place.items ++ bytes_read x c.args.fileid.0 c.args.offset c.given_of-given.result.0) c.get-stripe.ensures)
          c.new-bytes.ensures
          ∙ sym (stripe-told c.args.fileid.0 c.args.offset c.args.count s c.get-stripe.result.now _ (Ok c.in-Ok.size)
          c.get-stripe.ensures c.card-card.ensures.card c.in-Ok.ensures));
    }
