-- Which events need to know that calls agree, and what is known of calls without a home.
use Rattle.std.proofs.Common.{◌≡◌, false, length, None, sym, ap, ◌∙◌}
use Rattle.nfs_model.specs.Types.{Asked}
use Rattle.nfs_model.specs.Server.{Server, start_of_times}
use Rattle.nfs_model.specs.Serial.Step.{serial}
use Rattle.nfs_model.specs.Home.{home_of_asked}
use Rattle.nfs_model.specs.World.{Setup, World, all_running}
use Rattle.nfs_model.specs.Headline.{Kept, start}
use Rattle.nfs_model.specs.Agreed.{done, IsAgreed}
use Rattle.nfs_model.specs.Events.Refusals.{Event, Work, Finish}
use Rattle.nfs_laws.proofs.Volumes.{volumes_in, start_counts, after_counts, all_worked_count, at_once_same, at_once_stays}

-- Work and Finish are the events that calls which run at one time could disturb.
abbrev pub NeedsAgreed : Setup → Event → World → Type 0
NeedsAgreed setup (Work worker) new = IsAgreed setup new
NeedsAgreed setup (Finish worker) new = IsAgreed setup new
NeedsAgreed setup event new = Unit {0}

-- ---- calls without a home

-- a call without an affinity is answered on the server as it is, and changes nothing
pub record IsAtOnce (setup : Setup) (w : World) (asked : Asked) : Type 0 where
  pub reply : (serial w.server asked start_of_times false).reply ≡ (serial (done setup w) asked start_of_times false).reply
  pub stays : (serial (done setup w) asked start_of_times false).server ≡ done setup w

-- any call is, in any run
pub at_once : (setup : Setup) (w : World) → Kept setup w → (asked : Asked) → home_of_asked setup.layout asked ≡ None → IsAtOnce setup w asked
at_once setup w h asked home =
    let in_done : length setup.layout.volumes ≡ volumes_in (done setup w) = start_counts setup ∙ sym (after_counts (start setup) w.finished) in
    let in_server : length setup.layout.volumes ≡ volumes_in w.server = in_done ∙ sym (all_worked_count (done setup w) (all_running w.workers))
    ∙ sym (ap (λ (s : Server). volumes_in s) h.headline.state) in
    record {
      reply = at_once_same setup.layout w.server (done setup w) start_of_times in_server in_done asked home;
      stays = at_once_stays setup.layout w.server (done setup w) start_of_times in_server in_done asked home;
    }
