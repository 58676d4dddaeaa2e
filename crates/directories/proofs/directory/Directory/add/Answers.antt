use Rattle.std.proofs.Common.{◌≡◌, None}
use Rattle.nfs_model.specs.volume.Directories.{found}
use Rattle.directories.specs.Index.{cookies}
use Rattle.directories.proofs.Called.{position-of-absent}
use Rattle.directories.proofs.directory.Directory.add.Goals as goal

pub add_at-requires-clause-position : goal.add_at-requires-clause-position
add_at-requires-clause-position c =
    let absent : found c.self.inside.entries c.args.name ≡ None = rw (← c.self.view_is) at c.requires.absent in
    let there = rw c.as_bytes.ensures at c.find_position-search.ensures.there in
    let nowhere = rw c.as_bytes.ensures at c.find_position-search.ensures.absent in
    position-of-absent c.self.inside.entries
    (cookies c.self.inside.by_name) c.find_position-search.result.position c.args.name _ c.self.invariant.0 absent there nowhere
