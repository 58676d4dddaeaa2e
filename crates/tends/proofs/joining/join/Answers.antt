use Rattle.depot.specs.Words.{view}
use Rattle.depot_rule.specs.History.{entries_of}
use Rattle.filer_state.specs.state.Jobs.{batches_in}
use Rattle.granted_calls.specs.shared_waiting.Passes.{known}
use Rattle.tends.proofs.Joins.{even-both, hands-both, none-both}
use Rattle.tends.proofs.joining.join.Goals as goal

pub invariant_of-result : goal.invariant_of-result
invariant_of-result c =
    let x = c.args.gathered in
    let p = c.into_parts-other.result in
    let settled = c.into_parts-other.ensures.settled in
    let v = view x.seat in
    let u = view p.seat in
    let w = view c.join_seat.result in
    record {
      balance = even-both (known x.pass) (known p.pass) (known c.join_pass.result) (entries_of v) (entries_of u) (entries_of w) x.kept.items
          c.push_kept.new.messages.items p.kept c.join_pass.ensures.both c.join_seat.ensures.entries c.push_kept.ensures.items x.balance
          settled.balance;
      in_hand = hands-both (entries_of v) (entries_of u) (entries_of w) x.hands.items (batches_in p.hand) c.push_batch.new.hands.items
          c.join_seat.ensures.entries c.push_batch.ensures.items x.in_hand settled.in_hand;
      none_open = none-both v u w x.none_open settled.none_open c.join_seat.ensures.no_other;
    }
