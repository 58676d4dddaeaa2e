-- Calls that run at one time agree: the world that the books stand for is within the headline. Nothing here is by procedure.
use Rattle.std.proofs.Common.{◌≡◌, ◌≢◌, ℕ, zero, suc, ◌+◌, List, [], ◌∷◌, ◌++◌, map, Option, Some, None, refl, sym, ap, ◌∙◌}
use Rattle.std.proofs.Common.{subst, arith}
use Rattle.std.specs.Prelude.{slice_get, option_map}
use Rattle.std.specs.List.{AllByRecursion}
use Rattle.std.proofs.lemmas.Option.{slice_get-map}
use mathlib.Core.Option.{some}
use lib.ListN.{get_elem?}
use Rattle.nfs_model.specs.Server.{VolumeState, Server}
use Rattle.nfs_model.specs.Parts.{Parts, Hand, Empty, Fresh, Dead, hand_blocks, times_listed, IsPartition}
use Rattle.nfs_model.specs.World.{Setup, World, Running, Worker, with_held, all_running, hands_blocks}
use Rattle.nfs_model.specs.Headline.{worked_by, server_worked, IsOutcome}
use Rattle.nfs_model.specs.Agreed.{IsAgreed}
use Rattle.affinity.specs.Tree.{IsNode}
use Rattle.affinity.specs.Ancestors.{Covers}
use Rattle.affinity.specs.Numbers.{number_of, parents}
use Rattle.affinity.specs.lemmas.Alike.{alike}
use Rattle.affinity.specs.lemmas.Standing.{parents-tree, number-excludes}
use Rattle.depot_rule.specs.Sums.{total}
use Rattle.depot_rule.specs.History.{patched}
use Rattle.depot_rule.specs.lemmas.Trees.{cover-excludes}
use Rattle.desk.specs.laws.Books.{Lent, settled, now, stamps, HasLent}
use Rattle.desk.specs.laws.lemmas.Overlays.{all-served, IsDone, AreDone, served}
use Rattle.filer_state.specs.state.Parcels.{FilerParcel}
use Rattle.filer_state.specs.state.Contents.{VolumeContents, FilerContents, filer_contents}
use Rattle.filer_state.specs.state.Tree.{tree, volume_of}
use Rattle.filer_state.specs.state.Partition.{parts_of, times_in_hand}
use Rattle.filer_state.specs.state.Sound.{AreSound, AllSound}
use Rattle.filer_state.specs.state.Jobs.{Job, JobReply, batches_in}
use Rattle.filer_state.specs.laws.lemmas.Alike.{filer-same}
use Rattle.filer_state.specs.laws.lemmas.Steps.{sound-by-weight}
use Rattle.filer_state.specs.laws.Laws.{PartsPartition}
use Rattle.engine.specs.laws.Store.{FilerBooks, batches_carried, RunsOn, RunOn, StandsFor}
use Rattle.engine.specs.laws.lemmas.Served.{outcome-there, outcome-agrees}

-- ---- hands

total-joined : {X : Type 0} (weigh : X → ℕ) (xs ys : List X) → total weigh (xs ++ ys) ≡ total weigh xs + total weigh ys
total-joined weigh [] ys = omega arith
total-joined weigh (x ∷ xs) ys = let others = total-joined weigh xs ys in omega arith

times-joined : (n : ℕ) (xs ys : List ℕ) → times_listed n (xs ++ ys) ≡ times_listed n xs + times_listed n ys
times-joined n [] ys = omega arith
times-joined n (x ∷ xs) ys = let others = times-joined n xs ys in omega arith

batch-times : (v n : ℕ) (hand : Hand) → times_listed n (hand_blocks v hand) ≡ total (times_in_hand v n) (batches_in hand)
batch-times v n Empty = refl
batch-times v n (Fresh u blocks) = omega arith
batch-times v n (Dead u blocks) = omega arith

-- how often a number stands in the hands of workers
carried-times : (v n : ℕ) (ks : List Worker) → times_listed n (hands_blocks v ks) ≡ total (times_in_hand v n) (batches_carried ks)
carried-times v n [] = refl
carried-times v n (k ∷ ks) =
    let one = batch-times v n k.hand in
    let others = carried-times v n ks in
    let left = times-joined n (hand_blocks v k.hand) (hands_blocks v ks) in
    let right = total-joined (times_in_hand v n) (batches_in k.hand) (batches_carried ks) in
    omega (arith, one, others, left, right)

module _ {P C R : Type 0} (job : C → Job) (told : R → JobReply) (setup : Setup) (w : World) (b : FilerBooks P C R) (s : StandsFor job told setup w b) where
  abbrev ps : List ℕ
  ps = parents b.layout

  -- the machine's invariant, of this layout and of the hands of workers
  pub sound-settled : AllSound b.layout (settled b) (batches_carried w.workers) (stamps b)
  sound-settled =
      let here = s.sound in
      let good = here.2 in
      let same : AllSound b.layout (settled b) here.0 (stamps b) =
      subst (λ c. AreSound c here.0 (stamps b)) (filer-same good.0 b.layout (alike good.0 b.layout good.1.1) (settled b)) good.2 in
      sound-by-weight (filer_contents b.layout (settled b)) here.0 (batches_carried w.workers) (stamps b)
      (λ weigh. let one = here.1 weigh in let other = s.hands weigh in omega (arith, one, other)) same

  -- no two that are lent reach one node
  pub reached-once : (i j : ℕ) (l m : Lent (FilerParcel P)) → HasLent b i l → HasLent b j m → j ≢ i
      → (k : ℕ) → Covers ps (number_of b.layout l.affinity) k → Covers ps (number_of b.layout m.affinity) k → ⊥
  reached-once i j l m at there ne k c d =
      let free = s.lent.apart i j l m at there (λ e. ne (sym e)) in
      let taken = number-excludes b.layout s.lawful l.affinity m.affinity (s.lent.node i l at) (s.lent.node j m there)
      (cover-excludes ps (parents-tree b.layout s.lawful) (number_of b.layout l.affinity) (number_of b.layout m.affinity) k c d) in
      let no : ⊥ = absurd cc in no

  -- ---- the fold

  abbrev serve_one : Server → Running → Server
  serve_one server r = worked_by server r r.outcome

  abbrev running_by : List Worker → List (Option Running)
  running_by ks = map (λ (k : Worker). k.running) ks

  abbrev Holds : ℕ → (ℕ → Option (FilerParcel P)) → Type 0
  Holds n f = AllSound b.layout f (batches_carried w.workers) n

  one-done : (o : Option Running) (x : Option (Lent (FilerParcel P))) → ((l : Lent (FilerParcel P)) → x ≡ Some l → IsNode b.layout l.affinity)
      → RunsOn setup b o x → IsDone b.layout Holds (tree b.layout) serve_one (settled b) x o
  one-done None None node run = tt
  one-done None (Some l) node run = absurd run
  one-done (Some r) None node run = absurd run
  one-done (Some r) (Some l) node run = λ n f agrees sound.
      let done = outcome-there setup b s.lawful l (node l refl) r r.outcome run.1 f agrees (batches_carried w.workers) n sound in
      let next : n + 1 ≡ suc n = omega arith in
      (subst (λ m. Holds m (patched ps (number_of b.layout l.affinity) l.parcels f)) next done.0, done.1)

  all-done : (ks : List Worker) (xs : List (Option (Lent (FilerParcel P))))
      → ((i : ℕ) (l : Lent (FilerParcel P)) → get_elem? xs i ≡ some (Some l) → IsNode b.layout l.affinity) → RunOn setup b ks xs
      → AreDone b.layout Holds (tree b.layout) serve_one (settled b) xs (running_by ks)
  all-done [] [] node run = tt
  all-done [] (x ∷ xs) node run = absurd run
  all-done (k ∷ ks) [] node run = absurd run
  all-done (k ∷ ks) (x ∷ xs) node run =
      (one-done k.running x (λ l is. node 0 l (ap some is)) run.0, all-done ks xs (λ i l at. node (suc i) l at) run.1)

  abbrev Serves : Server → List (Option Running) → Server
  Serves server os = served b.layout Holds (tree b.layout) serve_one (settled b) server os

  one-served : (server : Server) (o : Option Running) (ks : List Worker) →
      ((from : Server) → Serves from (running_by ks) ≡ server_worked from (all_running ks))
      → Serves server (o ∷ running_by ks) ≡ server_worked server (with_held o (all_running ks))
  one-served server None ks others = others server
  one-served server (Some r) ks others = others (serve_one server r)

  served-running : (ks : List Worker) (server : Server) → Serves server (running_by ks) ≡ server_worked server (all_running ks)
  served-running [] server = refl
  served-running (k ∷ ks) server = one-served server k.running ks (served-running ks)

  -- all is sound as it is now, and the server is the one after all that was worked
  pub now-served : ((made : ℕ) × AllSound b.layout (now b) (batches_carried w.workers) made)
      × (tree b.layout (now b) ≡ server_worked (tree b.layout (settled b)) (all_running w.workers))
  now-served =
      let all = all-served b.layout Holds (tree b.layout) serve_one (settled b) b.lent (running_by w.workers) (stamps b) (settled b)
      (all-done w.workers b.lent s.lent.node s.workers) reached-once (λ i l at k c. refl) sound-settled in
      (all.0, all.1 ∙ served-running w.workers (tree b.layout (settled b)))

  -- ---- what has to hold where calls run at one time

  abbrev Agree : List Running → Type 0
  Agree rs = AllByRecursion (λ r. IsOutcome setup (tree b.layout (settled b)) r r.outcome) rs

  one-agrees : (o : Option Running) (x : Option (Lent (FilerParcel P))) (rs : List Running)
      → ((l : Lent (FilerParcel P)) → x ≡ Some l → IsNode b.layout l.affinity) → RunsOn setup b o x → Agree rs → Agree (with_held o rs)
  one-agrees None None rs node run others = others
  one-agrees None (Some l) rs node run others = absurd run
  one-agrees (Some r) None rs node run others = absurd run
  one-agrees (Some r) (Some l) rs node run others =
      (outcome-agrees setup b s.lawful l (node l refl) r r.outcome run.1 (batches_carried w.workers) (stamps b) sound-settled, others)

  outcomes : (ks : List Worker) (xs : List (Option (Lent (FilerParcel P))))
      → ((i : ℕ) (l : Lent (FilerParcel P)) → get_elem? xs i ≡ some (Some l) → IsNode b.layout l.affinity) → RunOn setup b ks xs
      → Agree (all_running ks)
  outcomes [] [] node run = tt
  outcomes [] (x ∷ xs) node run = absurd run
  outcomes (k ∷ ks) [] node run = absurd run
  outcomes (k ∷ ks) (x ∷ xs) node run =
      one-agrees k.running x (all_running ks) (λ l is. node 0 l (ap some is)) run.0 (outcomes ks xs (λ i l at. node (suc i) l at) run.1)

  volume-found : (volumes : List VolumeContents) (v : ℕ) (volume : VolumeState) → slice_get (map volume_of volumes) v ≡ Some volume
      → (p : VolumeContents) × (slice_get volumes v ≡ Some p) × (volume ≡ volume_of p)
  volume-found [] v volume e = absurd (none-some volume e)
    where
      none-some : (volume : VolumeState) → None ≡ Some volume → ⊥
      none-some volume e = absurd cc
  volume-found (p ∷ volumes) zero volume e = (p, refl, inner volume (volume_of p) (sym e))
    where
      inner : (x y : VolumeState) → Some x ≡ Some y → x ≡ y
      inner x y e = cc
  volume-found (p ∷ volumes) (suc v) volume e = volume-found volumes v volume e

  partition : PartsPartition → (v : ℕ) (volume : VolumeState) → slice_get w.server.volumes v ≡ Some volume
      → (p : Parts) × (slice_get w.parts v ≡ Some p) × IsPartition volume p (hands_blocks v w.workers)
  partition parts-partition v volume there =
      let c : FilerContents = filer_contents b.layout (now b) in
      let found = volume-found c.volumes v volume (ap (λ (server : Server). slice_get server.volumes v) (sym s.server) ∙ there) in
      let p : VolumeContents = found.0 in
      let sound = now-served.0.1 v p found.1 in
      let weighs : (n : ℕ) → times_listed n (hands_blocks v w.workers) ≡ total (times_in_hand p.number n) (batches_carried w.workers) =
      λ n. carried-times v n w.workers ∙ ap (λ u. total (times_in_hand u n) (batches_carried w.workers)) (sym sound.0) in (
        parts_of p,
        ap (λ ps. slice_get ps v) s.parts ∙ slice_get-map parts_of c.volumes v ∙ ap (λ o. option_map parts_of o) found.1,
        subst (λ x. IsPartition x (parts_of p) (hands_blocks v w.workers)) (sym found.2)
            (parts-partition p (batches_carried w.workers) now-served.0.0 (hands_blocks v w.workers) sound.1 weighs),
      )

  -- calls that run at one time agree
  pub agreed : PartsPartition → IsAgreed setup w
  agreed parts-partition = record {
    state = s.server ∙ now-served.1 ∙ ap (λ server. server_worked server (all_running w.workers)) (sym s.finished);
    outcomes = subst (λ server. AllByRecursion (λ r. IsOutcome setup server r r.outcome) (all_running w.workers)) (sym s.finished)
        (outcomes w.workers b.lent s.lent.node s.workers);
    partition = partition parts-partition;
  }
