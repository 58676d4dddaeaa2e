-- The number of volumes stays, so a call without a home is answered the same on every server of a run.
use Rattle.std.proofs.Common.{◌≡◌, ℕ, suc, ◌+◌, ◌*◌, Bool, true, false, List, [], ◌∷◌, length, Option, Some, None, slice_get, refl, sym, ap, ◌∙◌, ◌==◌}
use Rattle.std.proofs.Common.{if◌then◌else◌, nat_lt}
use Rattle.std.specs.Prelude.{slice_index_or}
use Rattle.std.proofs.lemmas.List.{length-set}
use Rattle.nfs_model.specs.Types.{Moment, Caller, Call, Null, Rename, Link, Census, Grow, Stop, Mount, MountBelow, Asked, Ask, Refused, Undecoded, Answer}
use Rattle.nfs_model.specs.Types.{Failed, GrowDone, Invalid, TooBig, NoSpace}
use Rattle.nfs_model.specs.Route.{handle_on, route}
use Rattle.nfs_model.specs.Tree.{Layout, VolumeLayout}
use Rattle.nfs_model.specs.Server.{VolumeState, Server, opening_volumes}
use Rattle.nfs_model.specs.Locate.{Effect, Fails, Tells, Changes, Located, locate}
use Rattle.nfs_model.specs.Parts.{most_ranges}
use Rattle.nfs_model.specs.Serial.Absent.{absent_parts}
use Rattle.nfs_model.specs.Serial.Grow.{Grown, grown, grow_volume}
use Rattle.nfs_model.specs.Serial.Step.{Step, placed, stay, on, on_root, on_two, serve, serial}
use Rattle.nfs_model.specs.Home.{home_of_asked}
use Rattle.nfs_model.specs.Replay.{FinishedCall, step_of, server_after}
use Rattle.nfs_model.specs.World.{Setup, Running}
use Rattle.nfs_model.specs.Work.{Outcome, Replied, Starved, Moved}
use Rattle.nfs_model.specs.Headline.{start, worked_by, server_worked}
use Rattle.nfs_laws.proofs.AtOnce.{without_home_stays}

abbrev pub volumes_in : Server → ℕ
volumes_in server = length server.volumes

module _ (server : Server) where
  placed_counts : (absent i : ℕ) (x : Effect) → volumes_in (placed server absent i x).server ≡ volumes_in server
  placed_counts absent i (Fails status) = refl
  placed_counts absent i (Tells answer) = refl
  placed_counts absent i (Changes answer v) = length-set server.volumes i v

  on_counts : (absent : ℕ) (l : Option Located) (run : VolumeState → ℕ → Effect) → volumes_in (on server absent l run).server ≡ volumes_in server
  on_counts absent None run = refl
  on_counts absent (Some l) run = placed_counts absent l.named.volume (run l.volume l.named.fileid)

  root_counts : (absent : ℕ) (l : Option Located) (run : VolumeState → ℕ → Effect) → volumes_in (on_root server absent l run).server ≡ volumes_in server
  root_counts absent None run = refl
  root_counts absent (Some l) run = placed_counts absent l.named.volume (run l.volume l.named.fileid)

  one_counts : (b : Bool) (s : Step) (answer : Answer) → volumes_in s.server ≡ volumes_in server
      → volumes_in (if b then s else stay server answer).server ≡ volumes_in server
  one_counts true s answer e = e
  one_counts false s answer e = refl

  two_counts : (absent : ℕ) (from to : Option Located) (run : VolumeState → ℕ → ℕ → Effect)
      → volumes_in (on_two server absent from to run).server ≡ volumes_in server
  two_counts absent None to run = refl
  two_counts absent (Some from) None run = refl
  two_counts absent (Some from) (Some to) run =
      one_counts (from.named.volume == to.named.volume) _ _ (placed_counts absent from.named.volume (run from.volume from.named.fileid to.named.fileid))

  grow_if : (p q r : Bool) (x y z : Answer) (g : Grown) → volumes_in g.server ≡ volumes_in server
      → volumes_in (if p then record { answer = x; server = server } else if q then record { answer = y; server = server } else if r then record
      { answer = z; server = server } else g).server ≡ volumes_in server
  grow_if true q r x y z g e = refl
  grow_if false true r x y z g e = refl
  grow_if false false true x y z g e = refl
  grow_if false false false x y z g e = e

  grow_counts : (i : ℕ) (o : Option VolumeState) (ranges : ℕ) → volumes_in (grow_volume server i o ranges).server ≡ volumes_in server
  grow_counts i None ranges = refl
  grow_counts i (Some v) ranges =
      grow_if (ranges == 0) (nat_lt (v.range_blocks * most_ranges) (v.total + v.range_blocks * ranges))
      (nat_lt (slice_index_or server.spare v.aggregate 0) ranges) (Failed Invalid 0)
      (Failed TooBig 0) (Failed NoSpace 0)
      (record { answer = GrowDone (v.total + v.range_blocks * ranges); server = grown server i v ranges })
      (length-set server.volumes i (record v { total = v.total + v.range_blocks * ranges }))

  serve_counts : (call : Call) (caller : Caller) (moment : Moment) → volumes_in (serve server call caller moment).server ≡ volumes_in server
  serve_counts Null caller moment = refl
  serve_counts (Rename from from_name to to_name) caller moment = two_counts 4 (locate server from) (locate server to) _
  serve_counts (Link handle directory name) caller moment = two_counts 3 (locate server handle) (locate server directory) _
  serve_counts Census caller moment = refl
  serve_counts Stop caller moment = refl
  serve_counts (Mount call) caller moment = refl
  serve_counts (MountBelow root path) caller moment = root_counts 0 (locate server root) _
  serve_counts (Grow volume ranges) caller moment = grow_counts volume (slice_get server.volumes volume) ranges
  serve_counts call caller moment = on_counts (absent_parts call) (locate server (handle_on (route call))) _

  -- a call on the serial server keeps the number of volumes
  serial_counts : (asked : Asked) (moment : Moment) (starved : Bool) → volumes_in (serial server asked moment starved).server ≡ volumes_in server
  serial_counts asked moment true = refl
  serial_counts (Ask call caller) moment false = serve_counts call caller moment
  serial_counts (Refused reply) moment false = refl
  serial_counts Undecoded moment false = refl

opening_counts : (verifier : List ℕ) (number : ℕ) (layout : List VolumeLayout) → length (opening_volumes verifier number layout) ≡ length layout
opening_counts verifier number [] = refl
opening_counts verifier number (v ∷ vs) = ap suc (opening_counts verifier (number + 1) vs)

pub start_counts : (setup : Setup) → length setup.layout.volumes ≡ volumes_in (start setup)
start_counts setup = sym (opening_counts setup.verifier 0 setup.layout.volumes)

pub after_counts : (server : Server) (es : List FinishedCall) → volumes_in (server_after server es) ≡ volumes_in server
after_counts server [] = refl
after_counts server (e ∷ es) = after_counts (step_of server e).server es ∙ serial_counts server e.asked e.moment e.starved

worked_counts : (server : Server) (r : Running) (o : Option Outcome) → volumes_in (worked_by server r o) ≡ volumes_in server
worked_counts server r None = refl
worked_counts server r (Some (Replied reply)) = serial_counts server r.message.asked r.moment false
worked_counts server r (Some Starved) = refl
worked_counts server r (Some (Moved a)) = refl

pub all_worked_count : (server : Server) (rs : List Running) → volumes_in (server_worked server rs) ≡ volumes_in server
all_worked_count server [] = refl
all_worked_count server (r ∷ rs) = all_worked_count (worked_by server r r.outcome) rs ∙ worked_counts server r r.outcome

-- ---- answered at once

module _ (layout : Layout) (a b : Server) (moment : Moment) (in_a : length layout.volumes ≡ volumes_in a) (in_b : length layout.volumes ≡ volumes_in b) where
  pub at_once_same : (asked : Asked) → home_of_asked layout asked ≡ None → (serial a asked moment false).reply ≡ (serial b asked moment false).reply
  at_once_same (Ask call caller) e = ap (λ (s : Step). s.reply) (without_home_stays layout a caller moment call in_a e)
      ∙ sym (ap (λ (s : Step). s.reply) (without_home_stays layout b caller moment call in_b e))
  at_once_same (Refused reply) e = refl
  at_once_same Undecoded e = refl

  pub at_once_stays : (asked : Asked) → home_of_asked layout asked ≡ None → (serial b asked moment false).server ≡ b
  at_once_stays (Ask call caller) e = ap (λ (s : Step). s.server) (without_home_stays layout b caller moment call in_b e)
  at_once_stays (Refused reply) e = refl
  at_once_stays Undecoded e = refl
