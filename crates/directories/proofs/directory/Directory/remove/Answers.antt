use Rattle.std.proofs.Common.{sym, arith}
use Rattle.directories.specs.Index.{cookies}
use Rattle.directories.proofs.Spots.{length-cookies, cookie-at, cookies-remove}
use Rattle.directories.proofs.Called.{found-some, found-none, name-known, removed-some, removed-none, still-indexed, name-inside, is-false}
use Rattle.directories.proofs.Called.{is-true}
use Rattle.directories.proofs.Hashed.{hashed-dropped}
use Rattle.directories.proofs.directory.Directory.remove.Goals as goal

pub returns-then-not-search-clause-there : goal.returns-then-not-search-clause-there
returns-then-not-search-clause-there c =
    let position = c.find_position-search.ensures.absent (is-false _ c.if-not-search.true) in
    rw (← c.self.view_is)
    (found-none c.self.inside.entries (cookies c.self.inside.by_name) c.find_position-search.result.position c.args.name.now c.self.invariant.0
    position)

pub returns-then-not-search-clause-left : goal.returns-then-not-search-clause-left
returns-then-not-search-clause-left c =
    let position = c.find_position-search.ensures.absent (is-false _ c.if-not-search.true) in
    rw (← c.self.view_is)
    (removed-none c.self.inside.entries (cookies c.self.inside.by_name) c.find_position-search.result.position c.args.name.now c.self.invariant.0
    position)

pub remove-spot-requires : goal.remove-spot-requires
remove-spot-requires c =
    let there = c.find_position-search.ensures.there (is-true _ c.if-not-search.false) in
    let inside = name-inside c.self.inside.entries.list (cookies c.self.inside.by_name) c.find_position-search.result.position c.args.name.now there in
    let same = length-cookies c.self.inside.by_name in
    omega (arith, inside, same)

pub invariant_of-self : goal.invariant_of-self
invariant_of-self c =
    let there = c.find_position-search.ensures.there (is-true _ c.if-not-search.false) in
    rw (c.remove.ensures, c.remove-spot.ensures.left, cookies-remove) (
      still-indexed c.self.inside.entries (cookies c.self.inside.by_name) c.find_position-search.result.position c.remove-spot.result.cookie c.args.name.now
          c.self.invariant.0 there (cookie-at c.self.inside.by_name c.find_position-search.result.position c.remove-spot.result c.remove-spot.ensures.item),
      hashed-dropped c.self.inside.entries c.self.inside.by_name c.find_position-search.result.position c.remove-spot.result c.self.invariant.0
          c.self.invariant.1 c.remove-spot.ensures.item,
    )

pub returns-clause-there : goal.returns-clause-there
returns-clause-there c =
    let there = c.find_position-search.ensures.there (is-true _ c.if-not-search.false) in
    rw (← c.self.view_is) (sym (found-some c.self.inside.entries (cookies c.self.inside.by_name) c.find_position-search.result.position c.args.name.now
    c.self.invariant.0 there))

pub returns-clause-left : goal.returns-clause-left
returns-clause-left c =
    let there = c.find_position-search.ensures.there (is-true _ c.if-not-search.false) in
    rw (c.remove.ensures, ← c.self.view_is)
    (removed-some c.self.inside.entries (cookies c.self.inside.by_name) c.find_position-search.result.position c.remove-spot.result.cookie c.args.name.now
    c.self.invariant.0 there
    (cookie-at c.self.inside.by_name c.find_position-search.result.position c.remove-spot.result c.remove-spot.ensures.item))

pub remove-requires : goal.remove-requires
remove-requires c =
    let there = c.find_position-search.ensures.there (is-true _ c.if-not-search.false) in
    name-known c.self.inside.entries (cookies c.self.inside.by_name) c.find_position-search.result.position c.remove-spot.result.cookie c.args.name.now
    c.self.invariant.0 there (cookie-at c.self.inside.by_name c.find_position-search.result.position c.remove-spot.result c.remove-spot.ensures.item)
