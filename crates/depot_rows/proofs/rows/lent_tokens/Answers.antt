use Rattle.std.proofs.Common.{rules, ◌≡◌, true, []}
use Rattle.depot_rows.proofs.rows.lent_tokens.Goals as goal

pub give-given-requires-clause-hand : goal.give-given-requires-clause-hand
give-given-requires-clause-hand g c =
    let were_taken : c.take.result ≡ true = search rules in ([], c.take.ensures.taken were_taken [] c.in_ok-depot.ensures.hand)
