use Rattle.std.proofs.Common.{Some}
use Rattle.affinity.specs.Affinity.{affinity_of}
use Rattle.affinity.specs.Layout.{layout_of}
use Rattle.depot.specs.Grants.{entry_of}
use Rattle.depot.proofs.depot.Depot.go_on.Given as goal

-- the entry that is stamped: of the call and its reply, with the parcels as they are
abbrev pub ghosts-stamp_call : goal.ghosts-stamp_call
ghosts-stamp_call g a = record {
  item = Some (entry_of (layout_of a.layout.now) (affinity_of a.grant.now.affinity) (g.N.Node.parcels (layout_of a.layout.now)
      (affinity_of a.grant.now.affinity) a.grant.now.held) (g.C.Entered.entered a.call.now) (g.A.Entered.entered a.reply.now));
}
