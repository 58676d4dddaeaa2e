use Rattle.nfs_laws.proofs.Repeated.{elsewhere_stays, unremembered_stays, places_stay, places_given}
use Rattle.nfs_laws.proofs.laws.memos_stay.Goals as goal

pub returns-clause-elsewhere : goal.returns-clause-elsewhere
returns-clause-elsewhere c = elsewhere_stays

pub returns-clause-unremembered : goal.returns-clause-unremembered
returns-clause-unremembered c = unremembered_stays

pub returns-clause-places : goal.returns-clause-places
returns-clause-places c = places_stay

pub returns-clause-opening : goal.returns-clause-opening
returns-clause-opening c = places_given
