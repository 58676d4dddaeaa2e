-- The end of a filer.
use Rattle.std.proofs.Common.{◌≡◌, ℕ, ◌+◌, ◌<◌, List, length, Option, None, inl, inr, refl, sym, ap, ◌∙◌, subst, arith}
use Rattle.std.specs.Prelude.{nat_lt}
use Rattle.nfs_model.specs.Parts.{Hand}
use Rattle.nfs_model.specs.Server.{Server, opening}
use Rattle.nfs_model.specs.Tree.{Layout, Serial}
use Rattle.affinity.specs.Fault.{fault_of}
use Rattle.affinity.specs.Numbers.{number_of, parents}
use Rattle.affinity.specs.lemmas.Alike.{alike}
use Rattle.affinity.specs.lemmas.Standing.{covers-under, number-place, place-node}
use Rattle.depot.specs.Grants.{IsClosed}
use Rattle.depot_rule.specs.LookingBack.{HasAll, LooksBack}
use Rattle.depot_rule.specs.Plays.{IsOnly}
use Rattle.affinity.specs.Ancestors.{Covers}
use Rattle.affinity.specs.Tree.{IsNode}
use Rattle.affinity.specs.Under.{IsUnder}
use Rattle.nfs_model.specs.Tree as trees
use Rattle.affinity.specs.Ancestors.{one_if}
use Rattle.depot_rule.specs.History.{after, entries_of, listed, AreHands, IsHistory, Legal, SoundThroughout}
use Rattle.depot_rule.specs.Sums.{total}
use Rattle.filer_state.specs.laws.lemmas.Alike.{filer-same}
use Rattle.filer_state.specs.laws.lemmas.Opening.{opening-tree}
use Rattle.filer_state.specs.laws.lemmas.SeenSets.{serial-seen}
use Rattle.filer_state.specs.state.Contents.{FilerContents, filer_contents}
use Rattle.filer_state.specs.state.Parcels.{FilerParcel}
use Rattle.filer_state.specs.state.Partition.{times_in_hand}
use Rattle.filer_state.specs.state.Replayed.{Replays}
use Rattle.filer_state.specs.state.Sets.{FilerSerial, serial_set}
use Rattle.filer_state.specs.state.Sound.{AreSound, AllSound, IsFiler}
use Rattle.filer_state.specs.state.Tree.{server_of, tree}
use Rattle.parcels.specs.Sets.{serial_parcels}
use Rattle.filer_state.specs.declared.files.Files.{Files}
use Rattle.turns.specs.Jobs.{job_steps, job_takes, job_gives}
use Rattle.granted_calls.specs.Balance.{FilerEntry, FilerView}
use Rattle.granted_calls.specs.Logs.{calls_in, replies_in}
use Rattle.granted_calls.specs.Served.{filer_behaviour}
use Rattle.granted_calls.specs.Filers.{HasOpened}
use Rattle.granted_calls.specs.lemmas.Covered.{covers-place}
use Rattle.granted_calls.specs.lemmas.Logs.{log-replays}
use Rattle.tends.specs.Ends.{HasEnded}
use Rattle.tends.proofs.Joins.{hands-again}

-- which hands there are counts by their weights alone
other-hands : (c : FilerContents) (hands others : List Hand) (n : ℕ) → ((weigh : Hand → ℕ) → total weigh hands ≡ total weigh others)
    → AreSound c hands n → AreSound c others n
other-hands c hands others n same sound v p at =
    let s = sound v p at in (
      s.0,
      record {
        well_formed = s.1.well_formed;
        young = s.1.young;
        partition = λ m. let a = s.1.partition m in let b = same (times_in_hand p.number m) in omega (arith, a, b);
      },
    )

module _ (L : Layout) (lawful : fault_of L ≡ None) (verifier : List ℕ) (v : FilerView) (of : v.tree ≡ parents L) (opened : HasOpened L verifier v)
    (all : HasAll v v.seen) where
  abbrev g : ℕ → Option (FilerParcel Files)
  g = after (parents L) (listed v.first) v.seen

  -- of any parcels that stand for what the history left
  module _ (f : ℕ → Option (FilerParcel Files)) (one-contents : filer_contents L g ≡ filer_contents L f) (closed : IsClosed filer_behaviour v f) where
    is-legal : Legal job_steps (parents L) (listed v.first) v.seen
    is-legal = subst (λ (ps : List ℕ). Legal job_steps ps (listed v.first) v.seen) of closed.0

    is-sound : SoundThroughout filer_behaviour (parents L) (listed v.first) v.seen
    is-sound = subst (λ (ps : List ℕ). SoundThroughout filer_behaviour ps (listed v.first) v.seen) of closed.1

    is-left : (k : ℕ) → 0 < k → k < length (parents L) → f k ≡ g k
    is-left = subst (λ (ps : List ℕ). (k : ℕ) → 0 < k → k < length ps → f k ≡ after ps (listed v.first) v.seen k) of closed.4

    is-replayed : Replays (opening L verifier) (tree L f) (calls_in v.seen) (replies_in v.seen)
    is-replayed =
        subst (λ (s : Server). Replays s (tree L f) (calls_in v.seen) (replies_in v.seen)) (opening-tree L lawful verifier (listed v.first) opened)
        (subst (λ (s : Server). Replays (tree L (listed v.first)) s (calls_in v.seen) (replies_in v.seen)) (ap server_of one-contents)
        (log-replays L lawful (listed v.first) v.seen is-legal is-sound))

    has-sound : (hands : List Hand) → AreHands job_takes job_gives (entries_of v) hands → AllSound L f hands (length v.seen)
    has-sound hands own =
        let there = closed.2 in
        let filer : IsFiler (parents L) g there.0 (length v.seen) =
        subst (λ (ps : List ℕ). IsFiler ps (after ps (listed v.first) v.seen) there.0 (length v.seen)) of there.2 in
        let as-laid-out : AllSound L g there.0 (length v.seen) =
        subst (λ (c : FilerContents). AreSound c there.0 (length v.seen)) (filer-same filer.0 L (alike filer.0 L filer.1.1) g) filer.2 in
        subst (λ (c : FilerContents). AreSound c hands (length v.seen)) one-contents
        (other-hands (filer_contents L g) there.0 hands (length v.seen)
        (λ weigh. let a = there.1 weigh in let b = own weigh in omega (arith, a, b)) as-laid-out)

    pub ends : (hands : List Hand) → AreHands job_takes job_gives (entries_of v) hands → HasEnded L verifier f hands v.seen
    ends hands own = record {
      first = v.first;
      opened = opened;
      legal = is-legal;
      throughout = is-sound;
      replays = is-replayed;
      left = is-left;
      are_hands = hands-again (entries_of v) v.seen hands all.entries own;
      sound = has-sound hands own;
    }

  -- a set of all parcels, which are as the history left them, stands for what it left
  pub set-contents : (held : FilerSerial Files)
      → ((k : ℕ) → 0 < k → k < length (parents L) → serial_parcels L Serial held k ≡ g k)
      → filer_contents L g ≡ filer_contents L (serial_parcels L Serial held)
  set-contents held is-left =
      let f = serial_parcels L Serial held in
      let seen = serial-seen L lawful held in
      let place = number-place L Serial tt in
      let left : filer_contents L g ≡ serial_set L held = seen.has g (λ k cover.
      let inside = covers-place (parents L) (number_of L Serial) k place.0 place.1 cover in sym (is-left k inside.0 inside.1)) in
      let here : filer_contents L f ≡ serial_set L held = seen.has f (λ k cover. refl) in
      left ∙ sym here

  pub ends-set : (held : FilerSerial Files) → IsClosed filer_behaviour v (serial_parcels L Serial held) → (hands : List Hand)
      → AreHands job_takes job_gives (entries_of v) hands → HasEnded L verifier (serial_parcels L Serial held) hands v.seen
  ends-set held closed hands own =
      ends (serial_parcels L Serial held)
      (set-contents held
      (subst (λ (ps : List ℕ). (k : ℕ) → 0 < k → k < length ps → serial_parcels L Serial held k ≡ after ps (listed v.first) v.seen k) of closed.4))
      closed hands own

  -- the parcels wherever they are
  pub ends-left : IsClosed filer_behaviour v g → (hands : List Hand) → AreHands job_takes job_gives (entries_of v) hands
      → HasEnded L verifier g hands v.seen
  ends-left closed hands own = ends g refl closed hands own

-- the root covers each node
is-under-root : (L : Layout) (a : trees.Affinity) → IsNode L a → IsUnder L Serial a
is-under-root L trees.Serial m = (m, inl refl)
is-under-root L (trees.Aggregate a) m = (m, inr refl)
is-under-root L (trees.Volume a) m = (m, inr refl)
is-under-root L (trees.Logical a) m = (m, inr refl)
is-under-root L (trees.Stripe a i) m = (m, inr refl)
is-under-root L (trees.Vbn a) m = (m, inr refl)
is-under-root L (trees.Range a i) m = (m, inr refl)

pub root-covers : (L : Layout) → fault_of L ≡ None → (k : ℕ) → 0 < k → k < length (parents L) → Covers (parents L) (number_of L Serial) k
root-covers L lawful k pos less =
    let c = place-node L k pos less in
    subst (λ n. Covers (parents L) (number_of L Serial) n) c.2 (covers-under L lawful Serial c.0 tt (is-under-root L c.0 c.1))

-- what an only seat learns that looks back, and parcels as its history left them
pub closed-of : (v : FilerView) (f : ℕ → Option (FilerParcel Files)) → LooksBack filer_behaviour v → IsOnly v
    → ((k : ℕ) → 0 < k → k < length v.tree → f k ≡ after v.tree (listed v.first) v.seen k) → IsClosed filer_behaviour v f
closed-of v f back only left =
    let all = back.all only in
    let h = subst (λ (log : List FilerEntry). IsHistory filer_behaviour v.tree v.first v log) all.seen back.history in (
      h.legal,
      h.throughout,
      (
        h.hands,
        hands-again v.seen (entries_of v) h.hands (λ weigh. sym (all.entries weigh ∙ ap (total weigh) all.seen)) h.all_hands,
        h.sound,
      ),
      (λ p. all.places p ∙ ap (λ (log : List FilerEntry). one_if (nat_lt p (length log))) all.seen),
      left,
    )

-- and then it has all that it has seen
pub has-all : (v : FilerView) → LooksBack filer_behaviour v → IsOnly v → HasAll v v.seen
has-all v back only = let all = back.all only in subst (HasAll v) all.seen all
