use Rattle.std.proofs.Common.{refl, arith}
use Rattle.nfs_values.specs.Answer.{entry_of}
use Rattle.directories.specs.Index.{cookies}
use Rattle.directories.proofs.Spots.{length-cookies, cookie-at, cookies-set}
use Rattle.directories.proofs.Called.{name-inside, name-known, fileid-there}
use Rattle.directories.proofs.Replaced.{still-has, replaced, indexed-replaced}
use Rattle.directories.proofs.Hashed.{hashed-replaced}
use Rattle.directories.proofs.directory.replace_at.Goals as goal

pub at-old-requires : goal.at-old-requires
at-old-requires c =
    let inside = name-inside c.args.entries.now.list (cookies c.args.by_name.now) c.args.position c.args.name c.requires.there in
    let same = length-cookies c.args.by_name.now in
    omega (arith, inside, same)

pub at-requires : goal.at-requires
at-requires c =
    name-known c.args.entries.now (cookies c.args.by_name.now) c.args.position c.at-old.result.cookie c.args.name c.requires.indexed c.requires.there
    (cookie-at c.args.by_name.now c.args.position c.at-old.result c.at-old.ensures)

pub remove-requires : goal.remove-requires
remove-requires c =
    rw c.in_ok-cookie.ensures.ok
    (still-has c.args.entries.now c.args.name c.args.fileid.0 c.at-old.result.cookie.0
    (name-known c.args.entries.now (cookies c.args.by_name.now) c.args.position c.at-old.result.cookie c.args.name c.requires.indexed c.requires.there
    (cookie-at c.args.by_name.now c.args.position c.at-old.result c.at-old.ensures)))

pub set-requires : goal.set-requires
set-requires c =
    let inside = name-inside c.args.entries.now.list (cookies c.args.by_name.now) c.args.position c.args.name c.requires.there in
    let same = length-cookies c.args.by_name.now in
    omega (arith, inside, same)

pub returns-clause-indexed : goal.returns-clause-indexed
returns-clause-indexed c =
    let d = c.args.entries.now in
    let index = (cookies c.args.by_name.now) in
    let next = c.in_ok-cookie.ensures.cookie in
    rw (c.set.ensures, cookies-set, c.remove.ensures, c.in_ok-cookie.ensures.ok)
    (indexed-replaced d index c.args.position c.at-old.result.cookie _ c.args.name c.args.fileid.0 c.requires.indexed c.requires.there
    (cookie-at c.args.by_name.now c.args.position c.at-old.result c.at-old.ensures) (name-inside d.list index c.args.position c.args.name c.requires.there)
    (omega (arith, next)))

pub returns-clause-hashed : goal.returns-clause-hashed
returns-clause-hashed c =
    let inside = name-inside c.args.entries.now.list (cookies c.args.by_name.now) c.args.position c.args.name c.requires.there in
    let same = length-cookies c.args.by_name.now in
    rw (c.set.ensures, c.remove.ensures, c.in_ok-cookie.ensures.ok)
    (hashed-replaced c.args.entries.now c.args.by_name.now c.args.position c.at-old.result
    (record { cookie = c.in_ok-cookie.cookie; slot = c.in_ok-cookie.slot; hash = c.at-old.result.hash }) c.args.name c.args.fileid.0 c.requires.indexed
    c.requires.hashed c.requires.there c.at-old.ensures (omega (arith, inside, same)) c.in_ok-cookie.ensures.cookie refl)

pub returns-clause-ok : goal.returns-clause-ok
returns-clause-ok c =
    rw (c.remove.ensures, c.in_ok-cookie.ensures.ok)
    (replaced c.args.entries.now (cookies c.args.by_name.now) c.args.position c.at-old.result.cookie c.args.name c.args.fileid.0 c.requires.indexed
    c.requires.there (cookie-at c.args.by_name.now c.args.position c.at-old.result c.at-old.ensures))

pub returns-clause-was : goal.returns-clause-was
returns-clause-was c =
    fileid-there c.args.entries.now (cookies c.args.by_name.now) c.args.position c.at-old.result.cookie c.args.name (entry_of c.at.result.now)
    c.requires.indexed c.requires.there
    (cookie-at c.args.by_name.now c.args.position c.at-old.result c.at-old.ensures) c.at.ensures
