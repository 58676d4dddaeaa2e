-- What running messages did, told on whatever other parcels there are.
use Rattle.std.proofs.Common.{◌≡◌, ℕ, ◌+◌, ◌<◌, true, false, List, length, Option, Some, None, refl, sym, ap, ◌∙◌}
use Rattle.std.proofs.Common.{subst, arith, ⊎_elim}
use Rattle.nfs_model.specs.Types.{Reply, SystemError}
use Rattle.nfs_model.specs.Tree.{Layout, Affinity}
use Rattle.nfs_model.specs.Parts.{Hand}
use Rattle.nfs_model.specs.Replay.{FinishedCall}
use Rattle.nfs_model.specs.Work.{Outcome, Replied, Starved, Moved}
use Rattle.nfs_model.specs.World.{Setup, Running}
use Rattle.nfs_model.specs.Headline.{worked_by, IsOutcome}
use Rattle.nfs_model.specs.Events.Step.{finished_call}
use Rattle.affinity.specs.Fault.{fault_of}
use Rattle.affinity.specs.Tree.{IsNode}
use Rattle.affinity.specs.Ancestors.{Covers}
use Rattle.affinity.specs.Numbers.{number_of, parents}
use Rattle.affinity.specs.lemmas.Standing.{parents-tree, number-place}
use Rattle.depot_rule.specs.History.{patched}
use Rattle.depot_rule.specs.lemmas.Covering.{patched-in, patched-out}
use Rattle.depot_rule.specs.lemmas.Trees.{covers-below, above-smaller}
use Rattle.desk.specs.laws.Books.{Lent, settled, IsUnchanged}
use Rattle.desk.specs.laws.lemmas.Overlays.{covers-or-not}
use Rattle.filer_state.specs.state.Parcels.{FilerParcel}
use Rattle.filer_state.specs.state.Contents.{filer_contents}
use Rattle.filer_state.specs.state.Tree.{server_of, tree}
use Rattle.filer_state.specs.state.Sound.{AllSound}
use Rattle.filer_state.specs.state.Jobs as jobs
use Rattle.filer_state.specs.state.Jobs.{Serve}
use Rattle.filer_state.specs.state.Deeds.{Serves}
use Rattle.filer_state.specs.laws.lemmas.Steps.{sound-later}
use Rattle.filer_state.specs.laws.lemmas.Lawful.{steps-local, entry-does}
use Rattle.engine.specs.laws.Store.{FilerBooks, IsServed, HasOutcome}

-- what a node covers is a node
pub covered-node : (layout : Layout) → fault_of layout ≡ None → (a : Affinity) → IsNode layout a
    → (k : ℕ) → Covers (parents layout) (number_of layout a) k → (0 < k) × (k < length (parents layout))
covered-node layout lawful a node k c =
    let place = number-place layout a node in
    let pos : 0 < k = ⊎_elim
    (λ (e : number_of layout a ≡ k). subst (λ (n : ℕ). 0 < n) e place.0)
    (λ u. let s = above-smaller (parents layout) (parents-tree layout lawful) (number_of layout a) k u in (let p : 0 < k = omega arith in p))
    c in
    (pos, covers-below (parents layout) (number_of layout a) k pos place.1 c)

-- putting in what is there changes nothing
pub patched-same : {P : Type 0} (ps : List ℕ) (a : ℕ) (g f : ℕ → Option P) → ((k : ℕ) → Covers ps a k → g k ≡ f k) → patched ps a g f ≡ f
patched-same ps a g f same = λ j k. covers-or-not ps a k
    (λ c. patched-in ps a g f k c ∙ same k c)
    (λ out. patched-out ps a g f k out)
    j

-- all stays sound with one more entry
all-later : {P : Type 0} (layout : Layout) (f : ℕ → Option (FilerParcel P)) (hands : List Hand) (n : ℕ)
    → AllSound layout f hands n → AllSound layout f hands (n + 1)
all-later layout f hands n sound v p there =
    let s = sound v p there in (s.0, sound-later p hands hands n (λ i. refl) s.1)

module _ {P C R : Type 0} (setup : Setup) (b : FilerBooks P C R) (lawful : fault_of b.layout ≡ None) (l : Lent (FilerParcel P))
    (node : IsNode b.layout l.affinity) where
  abbrev ps : List ℕ
  ps = parents b.layout

  abbrev here : ℕ
  here = number_of b.layout l.affinity

  abbrev Agrees : (ℕ → Option (FilerParcel P)) → Type 0
  Agrees f = (k : ℕ) → Covers ps here k → f k ≡ settled b k

  -- with what is lent put in
  abbrev put : (ℕ → Option (FilerParcel P)) → ℕ → Option (FilerParcel P)
  put f = patched ps here l.parcels f

  -- a call that was worked serves on whatever agrees with what it was granted
  serves-there : (call : FinishedCall) (reply : Reply) → IsServed b l call reply
      → (f : ℕ → Option (FilerParcel P)) → Agrees f → (hands : List Hand) (n : ℕ) → AllSound b.layout f hands n
      → Serves b.layout l.affinity call (filer_contents b.layout f) reply (filer_contents b.layout (put f))
      × AllSound b.layout (put f) hands (n + 1)
  serves-there call reply worked f agrees hands n sound =
      let same : (k : ℕ) → Covers ps here k → f k ≡ worked.0 k = λ k c.
      (let in_tree = covered-node b.layout lawful l.affinity node k c in agrees k c ∙ sym (worked.1 k in_tree.0 in_tree.1 c)) in
      let step = (steps-local ps here (Serve call) worked.0 f (jobs.Replied reply) l.parcels worked.2).1 same in
      entry-does b.layout lawful l.affinity node (Serve call) (jobs.Replied reply) f (put f) hands hands n step sound (λ weigh. refl)

  -- what is unchanged, put in
  put-unchanged : IsUnchanged b l → (f : ℕ → Option (FilerParcel P)) → Agrees f → put f ≡ f
  put-unchanged same f agrees = patched-same ps here l.parcels f
      (λ k c. let in_tree = covered-node b.layout lawful l.affinity node k c in same k in_tree.0 in_tree.1 c ∙ sym (agrees k c))

  -- With what a message was lent put in, the server is the one after that message, and all is sound.
  pub outcome-there : (r : Running) (o : Option Outcome) → HasOutcome setup b r l o
      → (f : ℕ → Option (FilerParcel P)) → Agrees f → (hands : List Hand) (n : ℕ) → AllSound b.layout f hands n
      → AllSound b.layout (put f) hands (n + 1) × (tree b.layout (put f) ≡ worked_by (tree b.layout f) r o)
  outcome-there r None did f agrees hands n sound =
      let same = put-unchanged did f agrees in
      (subst (λ g. AllSound b.layout g hands (n + 1)) (sym same) (all-later b.layout f hands n sound), ap (λ g. tree b.layout g) same)
  outcome-there r (Some (Moved a)) did f agrees hands n sound =
      let same = put-unchanged did.0 f agrees in
      (subst (λ g. AllSound b.layout g hands (n + 1)) (sym same) (all-later b.layout f hands n sound), ap (λ g. tree b.layout g) same)
  outcome-there r (Some (Replied reply)) did f agrees hands n sound =
      let done = serves-there (finished_call r false) reply did f agrees hands n sound in (done.1, done.0.works.2)
  outcome-there r (Some Starved) did f agrees hands n sound =
      let done = serves-there (finished_call r true) SystemError did f agrees hands n sound in
      (done.1, ap server_of (done.0.starved refl).1)

  -- finishing now gives the outcome
  pub outcome-agrees : (r : Running) (o : Option Outcome) → HasOutcome setup b r l o → (hands : List Hand) (n : ℕ) → AllSound b.layout (settled b) hands n
      → IsOutcome setup (tree b.layout (settled b)) r o
  outcome-agrees r None did hands n sound = tt
  outcome-agrees r (Some (Moved a)) did hands n sound = did.1
  outcome-agrees r (Some (Replied reply)) did hands n sound =
      (serves-there (finished_call r false) reply did (settled b) (λ k c. refl) hands n sound).0.works.1
  outcome-agrees r (Some Starved) did hands n sound =
      (serves-there (finished_call r true) SystemError did (settled b) (λ k c. refl) hands n sound).0.works.1
