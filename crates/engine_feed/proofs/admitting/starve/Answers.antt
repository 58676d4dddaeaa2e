use Rattle.std.proofs.Common.{ap, ◌∙◌, arith}
use Rattle.std.specs.Prelude.{true, None}
use Rattle.nfs_model.specs.Types as types
use Rattle.nfs_model.specs.Server.{start_of_times}
use Rattle.nfs_model.specs.World.{Codec}
use Rattle.rpc_msg.specs.Offer.{form_of}
use Rattle.rpc_msg.specs.lemmas.Refusals.{refusal_told}
use Rattle.engine_feed.specs.Codec.{reply_record}
use Rattle.engine_feed.specs.Seen.{waiting_of, entry_at}
use Rattle.engine_feed.proofs.Records.{refusal-fits}
use Rattle.engine_feed.proofs.Parts.{written-is, finishes}
use Rattle.engine_feed.proofs.Keeping.{answered-keeps}
use Rattle.engine_feed.proofs.admitting.starve.Goals as goal

pub write_reply-requires-clause-short : goal.write_reply-requires-clause-short
write_reply-requires-clause-short c =
    let fits = refusal-fits c.args.origin.xid types.SystemError (c.refusals_fit.ensures.room types.SystemError c.args.origin.xid tt) in
    omega (arith, fits)

pub write_reply-requires-clause-room : goal.write_reply-requires-clause-room
write_reply-requires-clause-room c =
    let fits = refusal-fits c.args.origin.xid types.SystemError (c.refusals_fit.ensures.room types.SystemError c.args.origin.xid tt) in
    omega (arith, fits, c.requires.room)

pub returns-clause-starved : goal.returns-clause-starved
returns-clause-starved c asked offer setup w k p =
    let to = c.args.connection.now in
    finishes c.args.calls.now c.keep_entry.new.calls to c.write_reply.new.to (entry_at c.args.origin types.Undecoded None start_of_times true)
    types.SystemError (written-is to c.write_reply.new.to _ c.write_reply.ensures.written) (ap waiting_of c.keep_entry.ensures.keeps.same)
    c.keep_entry.ensures.kept setup w types.SystemError
    (ap (λ (q : Codec). q.reply_record c.args.origin.xid types.SystemError) k.codec
    ∙ ap (λ (x : types.Reply). reply_record c.args.origin.xid x) (refusal_told (form_of offer) types.SystemError tt))
    p.shows p.connection

pub returns-clause-keeps : goal.returns-clause-keeps
returns-clause-keeps c =
    let fits = refusal-fits c.args.origin.xid types.SystemError (c.refusals_fit.ensures.room types.SystemError c.args.origin.xid tt) in
    answered-keeps c.args.calls.now c.keep_entry.new.calls c.args.connection.now c.write_reply.new.to c.args.origin.connection.0 _ c.write_reply.ensures.written
    c.keep_entry.ensures.keeps fits c.requires.connection c.requires.calls c.requires.room c.requires.entry
