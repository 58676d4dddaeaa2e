use Rattle.nfs_values.specs.Answer.{answer_of}
use Rattle.nfs_values.specs.Call.{call_of}
use Rattle.memos.specs.Kept.{told_kept}
use Rattle.memos.specs.declared.place.Place.{Place}
use Rattle.memos.proofs.Places.{kept-there, told-kept}
use Rattle.std.proofs.Common.{sym, ◌∙◌}
use Rattle.nfs_model.specs.Serial.Once.{told_of}
use Rattle.memos.proofs.memos.remember_in.Goals as goal

pub returns-then-put : goal.returns-then-put
returns-then-put c =
    let answer = answer_of c.args.answer.now in
    let new : Place = record { caller = c.args.caller.now; moment = c.args.moment; change = c.put.new.self; results = c.put-then-put.new.self } in
    kept-there c.args.places.now new c.in-Some.at (call_of c.args.call.now) answer c.in-Some.ensures.place
    (told-kept (told_of answer) (told_kept c.put-then-put.new.self) c.put-then-put.ensures (sym c.is_kept.ensures ∙ c.if-not-is_kept.false))
    (sym c.put.ensures.which ∙ c.if-put.true) (c.put.ensures.kept c.if-put.true)
