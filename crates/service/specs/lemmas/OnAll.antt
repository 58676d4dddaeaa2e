-- A run of a call on all that is stored is right by parcels.
use Rattle.std.proofs.Common.{◌≡◌, [], None, refl, sym, subst}
use Rattle.nfs_model.specs.Types.{Ask, Caller, Moment}
use Rattle.nfs_model.specs.Tree.{Layout, Affinity, Serial, Aggregate, Volume, Logical, Stripe, Vbn, Range}
use Rattle.nfs_model.specs.Work.{Outcome, Replied, Starved, Moved}
use Rattle.nfs_values.specs.Call.{call_of}
use Rattle.nfs_values.specs.declared.call.Call.{Call}
use Rattle.nfs_values.specs.declared.call.Call.TheVariants as calls
use Rattle.affinity.specs.Affinity.{kind_of}
use Rattle.affinity.specs.declared.affinity.Kind.TheVariants as kinds
use Rattle.affinity.specs.Fault.{fault_of}
use Rattle.parcels.specs.Sets.{serial_parcels}
use Rattle.filer_state.specs.state.Contents.{FilerContents}
use Rattle.filer_state.specs.state.Lenses.{serial_lens}
use Rattle.filer_state.specs.state.Promises.{HasAll}
use Rattle.filer_state.specs.state.Running.{HasFiler, Runs, UnlessReplied, task_under}
use Rattle.filer_state.specs.state.Sets.{FilerSerial, serial_set}
use Rattle.filer_state.specs.laws.lemmas.Granted.{serial-has}
use Rattle.service.specs.totals.Running.{RunsOnAll}
use Rattle.service.specs.totals.RunningLemmas as totals
use Rattle.service.specs.Running.{IsRunAt, MovesOn}
use Rattle.service.specs.lemmas.Homes.{only-census}
use Rattle.service.specs.lemmas.Serving.{run-tried}

pub is-serial : (a : Affinity) → kind_of a ≡ kinds.Serial → a ≡ Serial
is-serial Serial e = refl
is-serial (Aggregate g) e = absurd cc
is-serial (Volume v) e = absurd cc
is-serial (Logical v) e = absurd cc
is-serial (Stripe v i) e = absurd cc
is-serial (Vbn v) e = absurd cc
is-serial (Range v r) e = absurd cc

-- what is known of all parcels
pub serial-whole : {P : Type 0} (layout : Layout) → fault_of layout ≡ None → (a : Affinity) → a ≡ Serial → (held : FilerSerial P)
    → HasFiler layout a [] (serial_parcels layout a held) → HasAll layout serial_lens [] (serial_set layout held)
serial-whole layout lawful a is held filer =
    subst (λ (b : Affinity). HasFiler layout b [] (serial_parcels layout b held) → HasAll layout serial_lens [] (serial_set layout held)) (sym is)
    (λ has. serial-has layout lawful [] held has) filer

module _ (layout : Layout) (call : Call) (caller : Caller) (moment : Moment) where
  -- a call that was run on all of them, by the parcels
  pub serial-runs : {P : Type 0} → fault_of layout ≡ None → (a : Affinity) → a ≡ Serial → IsRunAt layout call a → (old new : FilerSerial P)
      (outcome : Outcome) → UnlessReplied outcome (new ≡ old)
      → RunsOnAll layout serial_lens (task_under Serial (Ask (call_of call) caller) moment) (serial_set layout old) outcome (serial_set layout new)
      → Runs layout a (Ask (call_of call) caller) moment (serial_parcels layout a old) outcome (serial_parcels layout a new)
  serial-runs lawful a is at old new outcome same right =
      subst (λ (b : Affinity). IsRunAt layout call b
      → Runs layout b (Ask (call_of call) caller) moment (serial_parcels layout b old) outcome (serial_parcels layout b new)) (sym is)
      (λ asks. totals.serial-runs layout lawful (Ask (call_of call) caller) moment (run-tried layout call caller Serial asks) old new outcome same
      right) at

  -- it doesn't move
  pub serial-moves-on : IsRunAt layout call Serial → (old new : FilerContents) (outcome : Outcome) → HasAll layout serial_lens [] old
      → RunsOnAll layout serial_lens (task_under Serial (Ask (call_of call) caller) moment) old outcome new → MovesOn layout call outcome
  serial-moves-on at old new (Replied reply) whole right = tt
  serial-moves-on at old new Starved whole right = tt
  serial-moves-on at old new (Moved other) w right =
      absurd (only-census layout call at (λ is.
      let there : RunsOnAll layout serial_lens (task_under Serial (Ask (call_of calls.Census) caller) moment) old (Moved other) new =
      subst (λ (c : Call). RunsOnAll layout serial_lens (task_under Serial (Ask (call_of c) caller) moment) old (Moved other) new) is right in
      let moves = (there w.0 w.1 w.2 w.3 w.4 w.5 w.8 w.7).0.0.0 in
      cc))
