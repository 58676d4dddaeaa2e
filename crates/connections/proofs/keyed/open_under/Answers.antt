use Rattle.std.proofs.Common.{◌∙◌, ap}
use Rattle.slab.specs.Slab.{get}
use Rattle.connections.proofs.keyed.open_under.Goals as goal

pub returns-clause-opens : goal.returns-clause-opens
returns-clause-opens g c =
    let reserved = c.reserve.ensures.rest_kept in
    let u = c.insert_reserved.ensures.updates in (
      c.insert_reserved.ensures.key ∙ ap (λ s. s.vacant_key) reserved,
      c.in-Ok.ensures.ok,
      (
        c.new-connection.result,
        record { changed = u.changed; others = λ other n. u.others other n ∙ ap (λ s. get s other) reserved },
        c.new-connection.ensures.opened,
        c.new-connection.ensures.number ∙ c.in-Ok.ensures.number,
        c.new-connection.ensures.peer,
      ),
    )
