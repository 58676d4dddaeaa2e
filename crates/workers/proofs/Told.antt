-- What is told of a turn whose answer is put.
use Rattle.std.proofs.Common.{◌≡◌, sym, subst, ap}
use Rattle.nfs_model.specs.Tree.{Layout}
use Rattle.nfs_values.specs.declared.moment.Moment.{Moment}
use Rattle.granted_calls.specs.SharedOutboxes.{Lent, HasLentShareOf}
use Rattle.turns.specs.Turns.{Did}
use Rattle.workers.specs.Works.{HasWorked, IsToldAs}
use Rattle.granted_calls.specs.declared.turned.Turn.{Turn}
use Rattle.granted_calls.specs.declared.turned.Turn.TheVariants as turns
use Rattle.workers.specs.declared.worked.Worked.{Worked}
use Rattle.turns.specs.declared.worker.Worker.{Worker}

module _ (layout : Layout) (before : Worker) (moment : Moment) (lent : Lent) (after : Worker) (lent' : Lent) where
  told-as : (x y : Worked) → y ≡ x → HasWorked layout before moment lent x after lent' → HasWorked layout before moment lent y after lent'
  told-as x y is worked = subst (λ (z : Worked). HasWorked layout before moment lent z after lent') (sym is) worked

  pub has-worked : (turn : Turn) (worked : Worked) → Did layout before moment turn after → IsToldAs turn lent worked lent'
      → HasWorked layout before moment lent worked after lent'
  has-worked (turns.Done a) worked did told = told-as _ worked told.2 (a, told.1, did, told.3)
  has-worked turns.Moved worked did told = told-as _ worked told.0 (did, told.1)
  has-worked (turns.Busy at word) worked did told = told-as _ worked told.0 (did, told.1)
  has-worked turns.Worn worked did told = told-as _ worked told.0 (did, told.1)
  has-worked turns.Idle worked did told = told-as _ worked told.0 (did, told.1)

-- a turn leaves the share as it was
same-share : (v w : Lent) → w ≡ v → HasLentShareOf v w
same-share v w is = (ap (λ (x : Lent). x.share) is, ap (λ (x : Lent). x.halvings) is)

pub has-share : (turn : Turn) (lent : Lent) (worked : Worked) (lent' : Lent) → IsToldAs turn lent worked lent' → HasLentShareOf lent lent'
has-share (turns.Done a) lent worked lent' told = let put = told.3.1 in (ap (λ (x : Lent). x.share) put, ap (λ (x : Lent). x.halvings) put)
has-share turns.Moved lent worked lent' told = same-share lent lent' told.1
has-share (turns.Busy at word) lent worked lent' told = same-share lent lent' told.1
has-share turns.Worn lent worked lent' told = same-share lent lent' told.1
has-share turns.Idle lent worked lent' told = same-share lent lent' told.1
