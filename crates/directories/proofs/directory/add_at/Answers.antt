use Rattle.directories.specs.Index.{cookies}
use Rattle.directories.proofs.Spots.{cookies-insert}
use Rattle.directories.proofs.Found.{found-nowhere}
use Rattle.directories.proofs.Changed.{indexed-added}
use Rattle.directories.proofs.Hashed.{hashed-added}
use Rattle.directories.proofs.directory.add_at.Goals as goal

pub returns-clause-indexed : goal.returns-clause-indexed
returns-clause-indexed c =
    let d = c.args.entries.now in
    let index = cookies c.args.by_name.now in
    rw (c.insert.ensures, c.in_ok-cookie.ensures.ok, c.in_ok-room.ensures.same, cookies-insert)
    (indexed-added d index c.args.position c.in_ok-cookie.cookie c.args.name c.args.fileid.0 c.requires.indexed c.requires.position
    (found-nowhere d index c.args.position c.args.name c.requires.indexed c.requires.position) c.in_ok-cookie.ensures.cookie)

pub returns-clause-hashed : goal.returns-clause-hashed
returns-clause-hashed c =
    rw (c.insert.ensures, c.in_ok-cookie.ensures.ok, c.in_ok-room.ensures.same)
    (hashed-added c.args.entries.now c.args.by_name.now c.args.position
    (record { cookie = c.in_ok-cookie.cookie; slot = c.in_ok-cookie.slot; hash = c.args.hash }) c.args.name c.args.fileid.0 c.requires.indexed c.requires.hashed
    c.in_ok-cookie.ensures.cookie c.requires.hash)
