-- A worker that is the same but for how it uses its queue.
use Rattle.std.proofs.Common.{◌≡◌, ◌+◌, Option, Some, sym, ap, subst}
use Rattle.std.specs.Prelude.{IfSome}
use Rattle.affinity.specs.declared.layout.Layout as layouts
use Rattle.depot.specs.Words as depots
use Rattle.depot.specs.Words.{IsSeatHere}
use Rattle.depot_rule.specs.History.{entries_of}
use Rattle.nfs_model.specs.Parts.{Hand}
use Rattle.granted_calls.specs.declared.shared.Filer.{Filer}
use Rattle.granted_calls.specs.declared.shared_waiting.pass.SharedWaiting.{SharedWaiting}
use Rattle.turns.specs.declared.worker.Worker.{Worker}
use Rattle.granted_calls.specs.Balance.{Passed}
use Rattle.granted_calls.specs.Messages.{IsPlaced, Message}
use Rattle.granted_calls.specs.Filers.{layout_in, layout_known, verifier_in, HasOpened}
use Rattle.turns.specs.Words.{entries_in, seats_in, IsAt, IsHandIn, IsSameWorker}
use Rattle.turns.specs.Words.{TakesFrom}

pub same-entries : (w w' : Worker) → IsSameWorker w w' → entries_in w' ≡ entries_in w
same-entries w w' s = ap (λ x. entries_of (depots.view x)) s.seat

pub same-seats : (w w' : Worker) → IsSameWorker w w' → seats_in w' ≡ seats_in w
same-seats w w' s = ap (λ x. depots.splits_left x + 1) s.seat

pub same-inside : (filer : Filer) (queue queue' : SharedWaiting Message layouts.Layout) (w w' : Worker) → IsSameWorker w w'
    → TakesFrom queue' w' → IsAt filer queue w → IsAt filer queue' w'
same-inside filer queue queue' w w' s takes i =
    record {
      seat = subst (λ x. IsSeatHere filer.depot x) (sym s.seat) i.seat;
      opened = subst (λ x. HasOpened (layout_in filer) (verifier_in filer) (depots.view x)) (sym s.seat) i.opened;
      pass = takes;
      layout = subst (λ (v : Passed). layout_known v ≡ Some (layout_in filer)) (sym s.pass) i.layout;
      hand = subst (λ (h : Hand). IsHandIn (layout_in filer) h) (sym s.hand) i.hand;
      kept = subst (λ (o : Option Message). IfSome o (IsPlaced (layout_in filer))) (sym s.kept) i.kept;
    }
