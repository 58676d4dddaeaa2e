-- Words on filers, and on seats and passes of theirs.
use Rattle.std.specs.Prelude.{◌≡◌, ℕ, List, [], Option, option_map}
use Rattle.nfs_model.specs.Tree as trees
use Rattle.affinity.specs.Layout.{layout_of}
use Rattle.depot_rule.specs.declared.view.View.{View}
use Rattle.depot_rule.specs.History.{listed, entries_of}
use Rattle.depot_rule.specs.Shares.{Has}
use Rattle.depot.specs.Words as depots
use Rattle.filer_state.specs.state.Opening.{AreOpening}
use Rattle.filer_state.specs.state.Parcels.{FilerParcel}
use Rattle.filer_state.specs.declared.files.Files.{Files}
use Rattle.granted_calls.specs.declared.shared.Filer.{Filer}
use Rattle.granted_calls.specs.Balance.{Passed, FilerView}

-- ---- of a filer

abbrev pub layout_in : Filer → trees.Layout
layout_in filer = depots.layout_in filer.depot

-- the verifier of its writes (writeverf3, RFC 1813 section 3.3.7)
abbrev pub verifier_in : Filer → List ℕ
verifier_in filer = filer.verifier.0

-- ---- of a seat and a pass

-- at the start the parcels were those with which a run of the layout begins, with this verifier
abbrev pub HasOpened : {P E : Type 0} → trees.Layout → List ℕ → View (FilerParcel P) E → Type 0
HasOpened layout verifier v = AreOpening layout verifier (listed v.first)

-- so they were for a seat with this view, which has no grant
pub record IsReady (layout : trees.Layout) (verifier : List ℕ) (v : FilerView) : Type 0 where
  pub opened : HasOpened layout verifier v
  pub none_open : (b : ℕ) (g : List (Option (FilerParcel Files))) → Has v b g → ⊥

-- the layout by which messages fit the queue
abbrev pub layout_known : Passed → Option trees.Layout
layout_known pass = option_map layout_of pass.key

-- nothing was finished by the seat, and nothing put or picked by the pass
pub record HasDoneNothing (v : FilerView) (pass : Passed) : Type 0 where
  pub entries : entries_of v ≡ []
  pub seen : v.seen ≡ []
  pub put : pass.put ≡ []
  pub picked : pass.picked ≡ []
