-- The end of a filer that someone else has still.
use Rattle.std.proofs.Common.{◌≡◌, ℕ, ◌<◌, List, length, None, ap, ◌∙◌, refl, subst, sym}
use Rattle.nfs_model.specs.Parts.{Hand}
use Rattle.nfs_model.specs.Tree.{Layout, Serial}
use Rattle.affinity.specs.Affinity.{affinity_of}
use Rattle.affinity.specs.Ancestors.{Covers}
use Rattle.affinity.specs.Fault.{fault_of}
use Rattle.affinity.specs.Numbers.{number_of, parents}
use Rattle.affinity.specs.declared.affinity.Affinity as codes
use Rattle.affinity.specs.declared.affinity.Affinity.TheVariants as nodes
use Rattle.depot.specs.Calls.{IsExcluded}
use Rattle.depot.specs.Grants.{IsAfter, IsRefused}
use Rattle.depot.specs.declared.grants.GrantRefusal.{GrantRefusal}
use Rattle.depot.specs.declared.grants.GrantRefusal.TheVariants.{Busy}
use Rattle.depot_rule.specs.History.{after, entries_of, listed, AreHands}
use Rattle.depot_rule.specs.LookingBack.{LooksBack}
use Rattle.depot_rule.specs.Plays.{IsOnly}
use Rattle.filer_state.specs.state.Parcels.{FilerParcel}
use Rattle.filer_state.specs.state.Sets.{FilerSerial}
use Rattle.filer_state.specs.declared.files.Files.{Files}
use Rattle.parcels.specs.Sets.{serial_parcels}
use Rattle.turns.specs.Jobs.{job_takes, job_gives}
use Rattle.granted_calls.specs.Balance.{FilerEntry, FilerView}
use Rattle.granted_calls.specs.Filers.{HasOpened}
use Rattle.granted_calls.specs.Served.{filer_behaviour}
use Rattle.tends.specs.Ends.{left_by, HasEnded}
use Rattle.tends.proofs.Closes.{closed-of, ends-left, ends-set, has-all, root-covers}

module _ (L : Layout) (lawful : fault_of L ≡ None) (verifier : List ℕ) (v : FilerView) (of : v.tree ≡ parents L) (opened : HasOpened L verifier v)
    (back : LooksBack filer_behaviour v) (only : IsOnly v) (hands : List Hand) (own : AreHands job_takes job_gives (entries_of v) hands) where
  -- all parcels are granted
  pub held-ends : (at : codes.Affinity) → at ≡ nodes.Serial → (held : FilerSerial Files)
      → IsAfter filer_behaviour v (number_of L (affinity_of at)) (serial_parcels L (affinity_of at) held)
      → HasEnded L verifier (serial_parcels L Serial held) hands v.seen
  held-ends at is held granted =
      let now : IsAfter filer_behaviour v (number_of L Serial) (serial_parcels L Serial held) =
      subst (λ (a : codes.Affinity). IsAfter filer_behaviour v (number_of L (affinity_of a)) (serial_parcels L (affinity_of a) held)) is granted in
      let left : (k : ℕ) → 0 < k → k < length v.tree → serial_parcels L Serial held k ≡ after v.tree (listed v.first) v.seen k = λ k pos less.
      now.4 k pos less
      (subst (λ (ps : List ℕ). Covers ps (number_of L Serial) k) (sym of)
      (root-covers L lawful k pos (subst (λ (ps : List ℕ). k < length ps) of less)))
      ∙ ap (λ (log : List FilerEntry). after v.tree (listed v.first) log k) (now.3 only) in
      ends-set L lawful verifier v of opened (has-all v back only) held (closed-of v (serial_parcels L Serial held) back only left) hands own

  -- nothing is granted any more
  pub worn-ends : HasEnded L verifier (left_by L v) hands v.seen
  worn-ends =
      ends-left L lawful verifier v of opened (has-all v back only)
      (closed-of v (left_by L v) back only (λ k pos less. ap (λ (ps : List ℕ). after ps (listed v.first) v.seen k) (sym of)))
      hands own

-- where a word refused the only seat, a grant of its own does
pub excluded-by : (L : Layout) (v w : FilerView) (a node : codes.Affinity) (word : ℕ) (r : GrantRefusal) → r ≡ Busy node word → IsRefused L v a r w → IsOnly v
    → IsExcluded v (number_of L (affinity_of a))
excluded-by L v w a node word r is refused only =
    (subst (λ (x : GrantRefusal). IsRefused L v a x w) is refused).1.5 only
