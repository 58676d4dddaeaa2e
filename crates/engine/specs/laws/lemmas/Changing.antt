-- What workers run, where one of them begins, works or ends.
use Rattle.std.proofs.Common.{◌≡◌, ◌≢◌, ℕ, zero, suc, List, [], ◌∷◌, ◌++◌, Option, Some, None, refl, sym, ap, ◌∙◌}
use Rattle.std.proofs.Common.{subst, arith}
use Rattle.std.specs.Prelude.{slice_get, slice_set}
use mathlib.Core.Option.{some}
use lib.ListN.{get_elem?}
use Rattle.nfs_model.specs.Work.{Outcome, Replied, Starved, Moved}
use Rattle.nfs_model.specs.World.{Setup, Running, Worker, changed_at, with_running}
use Rattle.depot_rule.specs.declared.view.Entry.{Entry}
use Rattle.desk.specs.laws.Books.{Lent, settled, UnderLent}
use Rattle.filer_state.specs.state.Parcels.{FilerParcel}
use Rattle.filer_state.specs.state.Jobs.{batches_in}
use Rattle.engine.specs.laws.Store.{FilerBooks, HasOutcome, RunsOn, RunOn, batches_carried}

-- what is carried stays
pub carried-stay : (ks : List Worker) (i : ℕ) (o : Option Running) → batches_carried (changed_at (with_running o) ks i) ≡ batches_carried ks
carried-stay [] i o = refl
carried-stay (k ∷ ks) zero o = refl
carried-stay (k ∷ ks) (suc i) o = ap (λ hs. batches_in k.hand ++ hs) (carried-stay ks i o)

module _ {P C R : Type 0} (setup : Setup) (b : FilerBooks P C R) where
  -- the same books, with other entries and other things lent
  abbrev next_books : List (Entry (FilerParcel P) C R) → List (Option (Lent (FilerParcel P))) → FilerBooks P C R
  next_books es xs = record b { entries = es; lent = xs }

  -- an outcome stays where nothing changed for the finished calls under what is lent
  outcome-kept : (es : List (Entry (FilerParcel P) C R)) (xs : List (Option (Lent (FilerParcel P)))) (r : Running)
      (l : Lent (FilerParcel P)) (o : Option Outcome) → UnderLent b l (λ k. settled (next_books es xs) k ≡ settled b k)
      → HasOutcome setup b r l o → HasOutcome setup (next_books es xs) r l o
  outcome-kept es xs r l None same did = λ k pos lt c. did k pos lt c ∙ sym (same k pos lt c)
  outcome-kept es xs r l (Some (Moved a)) same did = ((λ k pos lt c. did.0 k pos lt c ∙ sym (same k pos lt c)), did.1)
  outcome-kept es xs r l (Some (Replied reply)) same did = (did.0, (λ k pos lt c. did.1 k pos lt c ∙ sym (same k pos lt c)), did.2)
  outcome-kept es xs r l (Some Starved) same did = (did.0, (λ k pos lt c. did.1 k pos lt c ∙ sym (same k pos lt c)), did.2)

  runs-kept : (es : List (Entry (FilerParcel P) C R)) (xs : List (Option (Lent (FilerParcel P)))) (o : Option Running)
      (x : Option (Lent (FilerParcel P))) → ((l : Lent (FilerParcel P)) → x ≡ Some l → UnderLent b l (λ k. settled (next_books es xs) k ≡ settled b k))
      → RunsOn setup b o x → RunsOn setup (next_books es xs) o x
  runs-kept es xs None None same run = tt
  runs-kept es xs None (Some l) same run = absurd run
  runs-kept es xs (Some r) None same run = absurd run
  runs-kept es xs (Some r) (Some l) same run = (run.0, outcome-kept es xs r l r.outcome (same l refl) run.1)

  pub all-kept : (es : List (Entry (FilerParcel P) C R)) (xs : List (Option (Lent (FilerParcel P)))) (ks : List Worker)
      (ls : List (Option (Lent (FilerParcel P))))
      → ((j : ℕ) (l : Lent (FilerParcel P)) → get_elem? ls j ≡ some (Some l) → UnderLent b l (λ k. settled (next_books es xs) k ≡ settled b k))
      → RunOn setup b ks ls → RunOn setup (next_books es xs) ks ls
  all-kept es xs [] [] same run = tt
  all-kept es xs [] (x ∷ ls) same run = absurd run
  all-kept es xs (k ∷ ks) [] same run = absurd run
  all-kept es xs (k ∷ ks) (x ∷ ls) same run =
      (runs-kept es xs k.running x (λ l is. same 0 l (ap some is)) run.0, all-kept es xs ks ls (λ j l at. same (suc j) l at) run.1)

  -- one worker runs another thing, on what it has then; the others stay
  pub run-changed : (es : List (Entry (FilerParcel P) C R)) (xs : List (Option (Lent (FilerParcel P)))) (ks : List Worker)
      (ls : List (Option (Lent (FilerParcel P)))) (i : ℕ) (o : Option Running) (x : Option (Lent (FilerParcel P)))
      → ((j : ℕ) (l : Lent (FilerParcel P)) → get_elem? ls j ≡ some (Some l) → j ≢ i → UnderLent b l (λ k. settled (next_books es xs) k ≡ settled b k))
      → RunsOn setup (next_books es xs) o x → RunOn setup b ks ls
      → RunOn setup (next_books es xs) (changed_at (with_running o) ks i) (slice_set ls i x)
  run-changed es xs [] [] i o x same here run = tt
  run-changed es xs [] (y ∷ ls) i o x same here run = absurd run
  run-changed es xs (k ∷ ks) [] i o x same here run = absurd run
  run-changed es xs (k ∷ ks) (y ∷ ls) zero o x same here run =
      (here, all-kept es xs ks ls (λ j l at. same (suc j) l at (λ e. absurd (omega arith))) run.1)
  run-changed es xs (k ∷ ks) (y ∷ ls) (suc i) o x same here run = (
    runs-kept es xs k.running y (λ l is. same 0 l (ap some is) (λ e. absurd (omega arith))) run.0,
    run-changed es xs ks ls i o x (λ j l at ne. same (suc j) l at (λ e. ne (let s : j ≡ i = omega arith in s))) here run.1,
  )

  -- what a worker was lent, by what it runs
  pub lent-at : (ks : List Worker) (ls : List (Option (Lent (FilerParcel P)))) (i : ℕ) (k : Worker) → RunOn setup b ks ls → slice_get ks i ≡ Some k
      → (x : Option (Lent (FilerParcel P))) × (get_elem? ls i ≡ some x) × RunsOn setup b k.running x
  lent-at [] ls i k run there = absurd (none-some k there)
    where
      none-some : (k : Worker) → None ≡ Some k → ⊥
      none-some k e = absurd cc
  lent-at (j ∷ ks) [] i k run there = absurd run
  lent-at (j ∷ ks) (x ∷ ls) zero k run there =
      (x, refl, subst (λ (w : Worker). RunsOn setup b w.running x) (inner j k there) run.0)
    where
      inner : (j k : Worker) → Some j ≡ Some k → j ≡ k
      inner j k e = cc
  lent-at (j ∷ ks) (x ∷ ls) (suc i) k run there = lent-at ks ls i k run.1 there
