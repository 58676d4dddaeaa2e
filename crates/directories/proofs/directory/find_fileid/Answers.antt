use Rattle.std.proofs.Common.{arith}
use Rattle.nfs_values.specs.Answer.{entry_of}
use Rattle.directories.specs.Index.{cookies}
use Rattle.directories.proofs.Spots.{length-cookies, cookie-at}
use Rattle.directories.proofs.Called.{name-inside, name-known, fileid-there, fileid-nowhere, is-false, is-true}
use Rattle.directories.proofs.directory.find_fileid.Goals as goal

pub returns-then-not-search-clause-answer : goal.returns-then-not-search-clause-answer
returns-then-not-search-clause-answer c =
    let position = c.find_between-search.ensures.absent (is-false _ c.if-not-search.true) in
    fileid-nowhere c.args.entries.now (cookies c.args.by_name.now) c.find_between-search.result.position c.args.name.now c.requires.indexed position

pub at-spot-requires : goal.at-spot-requires
at-spot-requires c =
    let there = c.find_between-search.ensures.there (is-true _ c.if-not-search.false) in
    let inside = name-inside c.args.entries.now.list (cookies c.args.by_name.now) c.find_between-search.result.position c.args.name.now there in
    let same = length-cookies c.args.by_name.now in
    omega (arith, inside, same)

pub at-entry-requires : goal.at-entry-requires
at-entry-requires c =
    let there = c.find_between-search.ensures.there (is-true _ c.if-not-search.false) in
    name-known c.args.entries.now (cookies c.args.by_name.now) c.find_between-search.result.position c.at-spot.result.cookie c.args.name.now
    c.requires.indexed there
    (cookie-at c.args.by_name.now c.find_between-search.result.position c.at-spot.result c.at-spot.ensures)

pub returns-clause-answer : goal.returns-clause-answer
returns-clause-answer c =
    let there = c.find_between-search.ensures.there (is-true _ c.if-not-search.false) in
    fileid-there c.args.entries.now (cookies c.args.by_name.now) c.find_between-search.result.position c.at-spot.result.cookie c.args.name.now
    (entry_of c.at-entry.result.now) c.requires.indexed there
    (cookie-at c.args.by_name.now c.find_between-search.result.position c.at-spot.result c.at-spot.ensures) c.at-entry.ensures
