use Rattle.std.proofs.Common.{◌≡◌, [], ◌++◌, take, refl, ap, sym, ◌∙◌, append_assoc}
use Rattle.std.proofs.lemmas.List.{take-append-drop}
use Rattle.rpc_record.specs.Stream.{Reading}
use Rattle.port_mapper.proofs.Streams.{no_replies, further_replies}
use Rattle.port_mapper.proofs.conversation.reply_to_all.Goals as goal

pub loop-rest-init : goal.loop-rest-init
loop-rest-init c = (
  [],
  refl,
  λ stream at_is. no_replies c.args.registered.now c.args.reached.now stream c.args.out.now.items c.args.joined.now at_is,
)

pub loop-rest-preserved : goal.loop-rest-preserved
loop-rest-preserved c =
    let i = c.loop-rest.invariant in
    let rest = c.loop-rest.rest.now in
    let piece = take c.in-Some.taken rest in
    let behind = c.split_at.result.1.now in
    let whole : rest ≡ piece ++ behind = sym (take-append-drop c.in-Some.taken rest) ∙ ap (λ l. piece ++ l) (sym c.split_at.ensures.back) in
    let told = rw c.in-Some.is at c.in_ok-heard.ensures.replies in (
      i.0 ++ piece,
      i.1 ∙ ap (λ l. i.0 ++ l) whole ∙ sym (append_assoc i.0 piece behind),
      λ stream at_is.
          let first = i.2 stream at_is in
          further_replies c.args.registered.now c.args.reached.now stream i.0 piece c.args.out.now.items c.loop-rest.out.items
          c.reply_to_one.new.out.items c.loop-rest.joined c.reply_to_one.new.joined first
          (told (stream ++ i.0) (ap (λ (r : Reading). r.at) first.reading)),
    )
