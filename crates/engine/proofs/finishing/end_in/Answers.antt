use Rattle.std.proofs.Common.{◌≡◌, Some, None, refl, sym, ap, ◌∙◌}
use Rattle.std.specs.Prelude.{◌+◌, slice_get}
use Rattle.slab.specs.Slab.{get}
use Rattle.nfs_values.specs.Moment.{moment_of}
use Rattle.engine_feed.specs.Seen.{owed_by, finished_message}
use Rattle.engine.specs.declared.connection.Connection.TheVariants as places
use Rattle.engine.specs.Connections.{Open, Closed, held_by, key_at}
use Rattle.engine.proofs.Closing.{set-same}
use Rattle.engine.proofs.Ends.{same-open, closed-open, closed-ends}
use Rattle.engine.proofs.Keyed.{contains, open-at, found-open, closed-at, found-closed, written, written-keyed, written-len}
use Rattle.engine.proofs.finishing.end_in.Goals as goal

pub returns-in-None-clause-ends : goal.returns-in-None-clause-ends
returns-in-None-clause-ends c =
    let cs = c.args.connections.now in
    let n = c.args.running.message.origin.connection.0 in
    let none : key_at (slice_get cs n) ≡ None = sym c.key_of.ensures ∙ c.in-None.is in
    let there = closed-at cs n c.requires.known none in
    let at = found-closed cs c.args.slab.now n there.0 there.1 in
    record {
      place = Closed there.0;
      left = Closed there.0;
      at = at;
      put = sym (set-same (held_by cs c.args.slab.now) n (Closed there.0) at);
      ends = λ setup w reply codec shows seen. (
        closed-ends c.args.calls.now c.finish_unseen.new.self (finished_message c.args.running.message (moment_of c.args.running.moment) c.args.starved)
            there.0 c.finish_unseen.ensures.finishes setup w reply shows seen,
        refl,
      );
      owes = λ x e. absurd (closed-open there.0 x e);
      keyed = c.requires.keyed;
      opened = refl;
    }

pub index_mut-requires : goal.index_mut-requires
index_mut-requires c =
    let cs = c.args.connections.now in
    let n = c.args.running.message.origin.connection.0 in
    let at = open-at (slice_get cs n) c.in-Some.key (sym c.key_of.ensures ∙ c.in-Some.is) in
    let kept = c.requires.keyed.kept n c.in-Some.key at in
    contains c.args.slab.now c.in-Some.key kept.0 kept.1

pub finish-requires-clause-owed : goal.finish-requires-clause-owed
finish-requires-clause-owed c =
    let cs = c.args.connections.now in
    let n = c.args.running.message.origin.connection.0 in
    let at = open-at (slice_get cs n) c.in-Some.key (sym c.key_of.ensures ∙ c.in-Some.is) in
    c.requires.owed c.index_mut.result.now
    (found-open cs c.args.slab.now n c.in-Some.key c.index_mut.result.now at c.index_mut.ensures.value)

pub returns-clause-ends : goal.returns-clause-ends
returns-clause-ends c =
    let cs = c.args.connections.now in
    let n = c.args.running.message.origin.connection.0 in
    let before = c.index_mut.result.now in
    let after = c.finish.new.on in
    let at : slice_get cs n ≡ Some (places.Open c.in-Some.key) = open-at (slice_get cs n) c.in-Some.key (sym c.key_of.ensures ∙ c.in-Some.is) in
    let was : get c.args.slab.now c.in-Some.key ≡ Some before = c.index_mut.ensures.value in
    record {
      place = Open before;
      left = Open after;
      at = found-open cs c.args.slab.now n c.in-Some.key before at was;
      put = written cs c.args.slab.now _ c.requires.keyed n c.in-Some.key at before after was refl;
      ends = λ setup w reply codec shows seen. (c.finish.ensures.finishes setup w reply codec shows seen, c.finish.ensures.count);
      owes = λ x e. (before, refl, c.finish.ensures.owed ∙ ap (λ y. owed_by y + c.args.running.message.room) (same-open after x e));
      keyed = written-keyed cs c.args.slab.now _ c.requires.keyed n c.in-Some.key at before after was refl;
      opened = written-len c.args.slab.now _ c.in-Some.key before after was refl;
    }
