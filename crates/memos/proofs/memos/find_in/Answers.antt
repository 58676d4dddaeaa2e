use Rattle.nfs_values.specs.Call.{call_of}
use Rattle.nfs_values.specs.Caller.{caller_of}
use Rattle.nfs_values.specs.Moment.{moment_of}
use Rattle.memos.proofs.Places.{none-told, some-told}
use Rattle.memos.proofs.memos.find_in.Goals as goal

pub returns-then-not-is_of : goal.returns-then-not-is_of
returns-then-not-is_of c =
    none-told c.args.places.now (caller_of c.args.caller.now) (call_of c.args.call.now) (moment_of c.args.moment) c.in_ok-at.at _ c.is_of.result
    c.in_ok-at.ensures.within c.in_ok-at.ensures.place c.is_of.ensures c.if-not-is_of.true

pub returns : goal.returns
returns c =
    some-told c.new.result c.args.places.now (caller_of c.args.caller.now) (call_of c.args.call.now) (moment_of c.args.moment) c.in_ok-at.at _
    c.is_of.result c.in_ok-at.ensures.within c.in_ok-at.ensures.place c.is_of.ensures c.if-not-is_of.false c.new.ensures
