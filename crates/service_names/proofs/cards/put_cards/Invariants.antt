use Rattle.std.proofs.Common.{◌≡◌, ◌≤◌}
use Rattle.nfs_values.specs.Ownership.{ownership_of}
use Rattle.inodes.specs.Inode.{kind_value}
use Rattle.service_names.specs.Cards.{DiffersByCard, HasCard}
use Rattle.service_names.proofs.Putting.{AreFrom}
use Rattle.service_names.proofs.cards.put_cards.Given as goal

-- the cards are put into the stripes so far
abbrev pub invariant-loop-left : goal.invariant-loop-left
invariant-loop-left l = (l.left ≤ l.initial.held.own.stripes) × (l.held.own ≡ l.initial.held.own)
    × AreFrom (DiffersByCard l.fileid.0) l.initial.held.own.stripes l.initial.held.stripes.at l.left l.held.stripes.at
    × AreFrom (HasCard (ownership_of l.owner) (kind_value l.kind) l.fileid.0) l.initial.held.own.stripes l.initial.held.stripes.at l.left l.held.stripes.at

abbrev pub decreases-loop-left : goal.decreases-loop-left
decreases-loop-left l = l.left
