use Rattle.std.proofs.Common.{ap}
use Rattle.nfs_model.specs.volume.Directories.{added}
use Rattle.directories.specs.Index.{cookies}
use Rattle.directories.proofs.Called.{removed-none, fileid-nowhere, is-false}
use Rattle.directories.proofs.directory.Directory.replace.Goals as goal

pub returns-then-not-search-clause-ok : goal.returns-then-not-search-clause-ok
returns-then-not-search-clause-ok c =
    let position = rw c.as_bytes.ensures at c.find_position-search.ensures.absent (is-false _ c.if-not-search.true) in
    rw (c.in_ok-add_at.ensures.ok, ← c.self.view_is)
    (ap (λ d. added c.args.name c.args.fileid.0 d) (removed-none c.self.inside.entries (cookies c.self.inside.by_name) c.find_position-search.result.position
    c.args.name c.self.invariant.0 position))

pub returns-then-not-search-clause-was : goal.returns-then-not-search-clause-was
returns-then-not-search-clause-was c =
    let position = rw c.as_bytes.ensures at c.find_position-search.ensures.absent (is-false _ c.if-not-search.true) in
    rw (← c.self.view_is) (fileid-nowhere c.self.inside.entries (cookies c.self.inside.by_name) c.find_position-search.result.position c.args.name
    c.self.invariant.0 position)
