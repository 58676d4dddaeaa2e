-- A run of a call on the parcels of its home, or above it, is right by parcels.
use Rattle.std.proofs.Common.{◌≡◌, ◌⊎◌, inl, inr, ⊎_elim, ℕ, ◌-◌, ◌+◌, ◌/◌, ◌%◌, ◌<◌, [], ◌∷◌, Bool, true, false, Option, Some, None}
use Rattle.std.proofs.Common.{refl, sym, ap, ◌∙◌, subst, arith}
use Rattle.std.proofs.lemmas.Bool.{eq-eqb}
use Rattle.std.specs.Prelude.{List, length, min, nat_lt, ◌&&◌, ◌||◌, ◌==◌, IsTrue, slice_get, if◌then◌else◌}
use Rattle.std.specs.FinSet.{len}
use Rattle.nfs_model.specs.Types as types
use Rattle.nfs_model.specs.Types.{Ask, Caller, Moment}
use Rattle.nfs_model.specs.Tree.{Layout, Affinity, Serial, Aggregate, Volume, Logical, Stripe, Vbn, Range, path, begins, aggregate_of, stripes_of}
use Rattle.nfs_model.specs.Server.{Server, Named, VolumeState, handle_of, most_bytes}
use Rattle.nfs_model.specs.Route.{Route, OfBytesWritten, route}
use Rattle.nfs_model.specs.Home.{bytes_home, home_of_route, rename_home, named_by, span_bytes, stripe_of_span}
use Rattle.nfs_model.specs.Locate.{located_in, located_by, locate}
use Rattle.nfs_model.specs.Serial.Absent.{absent_parts}
use Rattle.nfs_model.specs.Serial.Link.{link}
use Rattle.nfs_model.specs.Serial.Mount.{parts_below}
use Rattle.nfs_model.specs.Serial.MountBelow.{mount_below}
use Rattle.nfs_model.specs.Serial.Once.{once}
use Rattle.nfs_model.specs.Serial.Permission.{permitted_two}
use Rattle.nfs_model.specs.Serial.Rename.{rename}
use Rattle.nfs_model.specs.Serial.Step.{on, on_root, on_two, placed, serve, stay}
use Rattle.nfs_model.specs.Parts.{Parts}
use Rattle.nfs_model.specs.Work.{Outcome, Replied, Starved, Moved, Ready, move_if, ready_at, volume_above}
use Rattle.nfs_values.specs.Call.{call_of}
use Rattle.nfs_values.specs.declared.call.Call.{Call}
use Rattle.nfs_values.specs.declared.call.Call.TheVariants as calls
use Rattle.affinity.specs.Fault.{fault_of}
use Rattle.affinity.specs.lemmas.Ways.{begins-self, begins-longer}
use Rattle.affinity.specs.Tree.{IsNode, covers}
use Rattle.parcels.specs.Sets.{volume_around, stripe_parcels, logical_parcels, volume_parcels}
use Rattle.nfs_model.specs.volume.Stripes.{StripeValue}
use Rattle.filer_state.specs.state.Calls.{IsCallOn, handle_in, located_on, move_on}
use Rattle.filer_state.specs.state.Contents.{VolumeContents, FilerContents, filer_contents}
use Rattle.filer_state.specs.state.Deeds.{IsHomeOrAbove}
use Rattle.filer_state.specs.state.Lenses.{Lens, logical_lens, stripe_lens, volume_lens, volume_or_none}
use Rattle.filer_state.specs.state.Partition.{parts_of}
use Rattle.filer_state.specs.state.Promises.{HasVolume}
use Rattle.filer_state.specs.state.Running.{HasFiler, RunsOn, UnlessReplied, Runs}
use Rattle.filer_state.specs.state.Sets.{FilerLogical, FilerStripe, FilerVolume, logical_set, logical_before, logical_after, volume_set, volume_before}
use Rattle.filer_state.specs.state.Sets.{volume_after}
use Rattle.filer_state.specs.state.Tree.{stripe_at}
use Rattle.filer_state.specs.laws.lemmas.Granted.{stripe-has, logical-has, volume-has}
use Rattle.filer_state.specs.laws.lemmas.Kinds.{stripe-step, logical-step, volume-step}
use Rattle.filer_state.specs.laws.lemmas.Running.{runs-by}
use Rattle.filer_state.specs.laws.lemmas.SeenSets.{stripe-seen, logical-seen, volume-seen}
use Rattle.filer_state.specs.laws.lemmas.Steps.{laid-out, get-some}
use Rattle.service.specs.Running.{IsRunAt, IsRunIn, LeadsTo, RunsAbove, IsStripeOf, MovesOn, call_on, fileid_in, other_in, procedure}
use Rattle.service.specs.lemmas.Homes.{IsNodeOf, at-logical, both-there, run-home, run-in}

-- ---- a call that is run is a call on its volume

-- Logical of a volume and Volume are above Logical and above each stripe
over-volume : (layout : Layout) (v : ℕ) (steps : List ℕ) (a : Affinity) → (a ≡ Logical v) ⊎ (a ≡ Volume v)
    → begins (path layout a) (aggregate_of layout v ∷ v ∷ 0 ∷ steps) ≡ true
over-volume layout v steps a above =
    let logical : List ℕ = aggregate_of layout v ∷ v ∷ 0 ∷ [] in
    let volume : List ℕ = aggregate_of layout v ∷ v ∷ [] in
    ⊎_elim
    (λ (e : a ≡ Logical v). subst (λ (b : Affinity). begins (path layout b) (aggregate_of layout v ∷ v ∷ 0 ∷ steps) ≡ true) (sym e)
    (begins-longer logical logical steps (begins-self logical)))
    (λ (e : a ≡ Volume v). subst (λ (b : Affinity). begins (path layout b) (aggregate_of layout v ∷ v ∷ 0 ∷ steps) ≡ true) (sym e)
    (begins-longer volume volume (0 ∷ steps) (begins-self volume)))
    above

-- and so above the home of bytes
over-bytes : (layout : Layout) (named : Option Named) (offset n : ℕ) (a : Affinity) → RunsAbove named a
    → (home : Affinity) × (bytes_home layout named offset n ≡ Some home) × IsTrue (covers layout a home)
over-bytes layout None offset n a above = absurd above
over-bytes layout (Some h) offset n a above = by ((n == 0) || (offset / span_bytes == (offset + n - 1) / span_bytes))
  where
    by : (b : Bool) → (home : Affinity)
        × ((if b then Some (stripe_of_span layout h (offset / span_bytes)) else Some (Logical h.volume)) ≡ Some home) × IsTrue (covers layout a home)
    by true =
        let i : ℕ = (h.fileid + offset / span_bytes) % stripes_of layout h.volume in
        (stripe_of_span layout h (offset / span_bytes), refl, over-volume layout h.volume (i ∷ []) a above)
    by false = (Logical h.volume, refl, over-volume layout h.volume [] a above)

-- a route leads to its home or above it
leads-tried : (layout : Layout) (r : Route) (a : Affinity) → LeadsTo layout r a
    → (home : Affinity) × (home_of_route layout r ≡ Some home) × IsTrue (covers layout a home)
leads-tried layout (OfBytesWritten handle offset count) a at =
    let named = named_by layout handle in
    let n : ℕ = min count most_bytes in
    ⊎_elim (λ (e : bytes_home layout named offset n ≡ Some a). (a, e, begins-self (path layout a)))
    (λ (above : RunsAbove named a). over-bytes layout named offset n a above) at
leads-tried layout r a at = (a, at, begins-self (path layout a))

-- a call is run at its home or above it
pub run-tried : (layout : Layout) (call : Call) (caller : Caller) (a : Affinity) → IsRunAt layout call a
    → IsHomeOrAbove layout (Ask (call_of call) caller) a
run-tried layout call caller a at = leads-tried layout (route (call_of call)) a at.1

-- what it names on a server of this layout
located-there : (layout : Layout) (server : Server) (volume : VolumeState) (v fileid : ℕ) (handle : List ℕ) → length server.volumes ≡ length layout.volumes
    → slice_get server.volumes v ≡ Some volume → named_by layout handle ≡ Some (record { volume = v; fileid = fileid })
    → locate server handle ≡ Some (record { named = record { volume = v; fileid = fileid }; volume = volume })
located-there layout server volume v fileid handle count there named =
    ap (λ (n : ℕ). located_by server.volumes (handle_of n handle)) count ∙ ap (located_by server.volumes) named
    ∙ ap (located_in (record { volume = v; fileid = fileid })) there

-- a call on one handle
on-handle : (layout : Layout) (a : Affinity) (call : types.Call) (caller : Caller) (moment : Moment)
    → IsNodeOf (named_by layout (handle_in call)) a → IsHomeOrAbove layout (Ask call caller) a
    → ((server : Server)
    → serve server call caller moment
    ≡ on server (absent_parts call) (locate server (handle_in call)) (procedure call (other_in layout call) caller moment))
    → IsCallOn layout (volume_around a) (call_on layout a caller moment call) caller moment
on-handle layout a call caller moment at tried serves = record {
  called = refl;
  good = at.names;
  under = at.above;
  tried = tried;
  served = λ server volume count there.
      serves server
      ∙ ap (λ o. on server (absent_parts call) o (procedure call (other_in layout call) caller moment))
      (located-there layout server volume (volume_around a) (fileid_in (named_by layout (handle_in call))) (handle_in call) count there at.names);
}

-- MNT below a root
on-a-root : (layout : Layout) (a : Affinity) (root path : List ℕ) (caller : Caller) (moment : Moment)
    → IsNodeOf (named_by layout root) a → IsHomeOrAbove layout (Ask (types.MountBelow root path) caller) a
    → IsCallOn layout (volume_around a) (call_on layout a caller moment (types.MountBelow root path)) caller moment
on-a-root layout a root path caller moment at tried = record {
  called = refl;
  good = at.names;
  under = at.above;
  tried = tried;
  served = λ server volume count there.
      ap (λ o. on_root server 0 o (mount_below (parts_below path) caller))
      (located-there layout server volume (volume_around a) (fileid_in (named_by layout root)) root count there at.names);
}

-- RENAME, on two handles of one volume
on-both : (layout : Layout) (a : Affinity) (from from_name to to_name : List ℕ) (caller : Caller) (moment : Moment)
    → rename_home (named_by layout from) (named_by layout to) ≡ Some a
    → IsHomeOrAbove layout (Ask (types.Rename from from_name to to_name) caller) a
    → IsCallOn layout (volume_around a) (call_on layout a caller moment (types.Rename from from_name to to_name)) caller moment
on-both layout a from from_name to to_name caller moment is tried =
    let both = both-there (named_by layout from) (named_by layout to) a is in
    let v : ℕ = volume_around a in
    let from_id : ℕ = fileid_in (named_by layout from) in
    let to_id : ℕ = fileid_in (named_by layout to) in
    let from_home = at-logical (named_by layout from) a both.0 in
    let to_home = at-logical (named_by layout to) a both.1 in
    let call : types.Call = types.Rename from from_name to to_name in
    let run = λ (volume : VolumeState) (fileid other : ℕ).
    once caller call moment volume (permitted_two caller call (rename from_name to_name moment) volume fileid other) in record {
      called = refl;
      good = from_home.names;
      under = from_home.above;
      tried = tried;
      served = λ server volume count there.
          ap (λ o. on_two server 4 o (locate server to) run) (located-there layout server volume v from_id from count there from_home.names)
          ∙ ap (λ o. on_two server 4 (Some (record { named = record { volume = v; fileid = from_id }; volume = volume })) o run)
          (located-there layout server volume v to_id to count there to_home.names)
          ∙ ap (λ (b : Bool). if b then placed server 4 v (run volume from_id to_id) else stay server (types.Failed types.CrossVolume 4))
          (eq-eqb v v refl);
    }

-- LINK, on two handles of one volume
on-object : (layout : Layout) (a : Affinity) (handle directory name : List ℕ) (caller : Caller) (moment : Moment)
    → rename_home (named_by layout handle) (named_by layout directory) ≡ Some a
    → IsHomeOrAbove layout (Ask (types.Link handle directory name) caller) a
    → IsCallOn layout (volume_around a) (call_on layout a caller moment (types.Link handle directory name)) caller moment
on-object layout a handle directory name caller moment is tried =
    let both = both-there (named_by layout handle) (named_by layout directory) a is in
    let v : ℕ = volume_around a in
    let object_id : ℕ = fileid_in (named_by layout handle) in
    let directory_id : ℕ = fileid_in (named_by layout directory) in
    let object_home = at-logical (named_by layout handle) a both.0 in
    let directory_home = at-logical (named_by layout directory) a both.1 in
    let call : types.Call = types.Link handle directory name in
    let run = λ (volume : VolumeState) (fileid other : ℕ).
    once caller call moment volume (permitted_two caller call (link name moment) volume fileid other) in record {
      called = refl;
      good = object_home.names;
      under = object_home.above;
      tried = tried;
      served = λ server volume count there.
          ap (λ o. on_two server 3 o (locate server directory) run)
          (located-there layout server volume v object_id handle count there object_home.names)
          ∙ ap (λ o. on_two server 3 (Some (record { named = record { volume = v; fileid = object_id }; volume = volume })) o run)
          (located-there layout server volume v directory_id directory count there directory_home.names)
          ∙ ap (λ (b : Bool). if b then placed server 3 v (run volume object_id directory_id) else stay server (types.Failed types.CrossVolume 3))
          (eq-eqb v v refl);
    }

run-is-call : (layout : Layout) (call : Call) (caller : Caller) (moment : Moment) (a : Affinity) → IsRunIn layout call a
    → IsCallOn layout (volume_around a) (call_on layout a caller moment (call_of call)) caller moment
run-is-call layout (calls.Rename from to) caller moment a at =
    on-both layout a from.directory from.name to.directory to.name caller moment at.1 (run-tried layout (calls.Rename from to) caller a at)
run-is-call layout (calls.MakeLink handle target) caller moment a at =
    on-object layout a handle target.directory target.name caller moment at.1 (run-tried layout (calls.MakeLink handle target) caller a at)
run-is-call layout calls.Null caller moment a at = absurd at.0
run-is-call layout calls.Census caller moment a at = absurd at.0
run-is-call layout (calls.Grow volume more) caller moment a at = absurd at.0
run-is-call layout calls.Stop caller moment a at = absurd at.0
run-is-call layout (calls.Mount asked) caller moment a at = absurd at.0
run-is-call layout (calls.MountBelow root path) caller moment a at =
    let call = calls.MountBelow root path in
    on-a-root layout a root path caller moment (run-home layout call a at) (run-tried layout call caller a at)
run-is-call layout call caller moment a at =
    on-handle layout a (call_of call) caller moment (run-home layout call a at) (run-tried layout call caller a at) (λ server. refl)

-- ---- the run

unless-mapped : (outcome : Outcome) (A B : Type 0) → (A → B) → UnlessReplied outcome A → UnlessReplied outcome B
unless-mapped (Replied reply) A B f a = tt
unless-mapped Starved A B f a = f a
unless-mapped (Moved other) A B f a = f a

module _ {P : Type 0} (layout : Layout) (lawful : fault_of layout ≡ None) (call : Call) (caller : Caller) (moment : Moment) where
  -- a call that was run on the set of Logical, by the set's parcels
  logical-runs-at : (v : ℕ) → IsNode layout (Logical v) → IsRunAt layout call (Logical v) → (old new : FilerLogical P) (outcome : Outcome)
      → UnlessReplied outcome (new ≡ old) → old.own.stripes ≡ stripes_of layout v
      → RunsOn v logical_lens (call_on layout (Logical v) caller moment (call_of call)) (logical_before old) outcome (logical_after old new)
      → Runs layout (Logical v) (Ask (call_of call) caller) moment
      (logical_parcels layout (Logical v) old) outcome (logical_parcels layout (Logical v) new)
  logical-runs-at v on at old new outcome same own right =
      runs-by layout v on logical_lens (λ s p. refl) (call_on layout (Logical v) caller moment (call_of call)) caller moment
      (run-is-call layout call caller moment (Logical v) (run-in layout call (Logical v) refl at))
      (logical_parcels layout (Logical v) old) (logical_parcels layout (Logical v) new)
      (logical_set (stripes_of layout v) old) (logical_set (stripes_of layout v) new) (logical-seen layout lawful v on old)
      (λ job reply step. logical-step layout lawful job reply v on old new step) outcome
      (subst (λ (n : ℕ). RunsOn v logical_lens (call_on layout (Logical v) caller moment (call_of call)) (logical_set n old) outcome
      (logical_set n new)) own right)
      (unless-mapped outcome (new ≡ old) ((k : ℕ) → logical_parcels layout (Logical v) new k ≡ logical_parcels layout (Logical v) old k)
      (λ e k. ap (λ (h : FilerLogical P). logical_parcels layout (Logical v) h k) e) same)

  pub logical-runs : (v : ℕ) (a : Affinity) → a ≡ Logical v → IsNode layout a → IsRunAt layout call a → (old new : FilerLogical P) (outcome : Outcome)
      → UnlessReplied outcome (new ≡ old) → old.own.stripes ≡ stripes_of layout v
      → RunsOn v logical_lens (call_on layout (Logical v) caller moment (call_of call)) (logical_before old) outcome (logical_after old new)
      → Runs layout a (Ask (call_of call) caller) moment (logical_parcels layout a old) outcome (logical_parcels layout a new)
  logical-runs v a is on at old new outcome same own right =
      subst (λ (b : Affinity). IsNode layout b → IsRunAt layout call b
      → Runs layout b (Ask (call_of call) caller) moment (logical_parcels layout b old) outcome (logical_parcels layout b new))
      (sym is) (λ there asks. logical-runs-at v there asks old new outcome same own right) on at

  -- one that was run on the set of Volume
  volume-runs-at : (v : ℕ) → IsNode layout (Volume v) → IsRunAt layout call (Volume v) → (old new : FilerVolume P) (outcome : Outcome)
      → UnlessReplied outcome (new ≡ old) → old.logical.own.stripes ≡ stripes_of layout v
      → RunsOn v volume_lens (call_on layout (Volume v) caller moment (call_of call)) (volume_before old) outcome (volume_after old new)
      → Runs layout (Volume v) (Ask (call_of call) caller) moment
      (volume_parcels layout (Volume v) old) outcome (volume_parcels layout (Volume v) new)
  volume-runs-at v on at old new outcome same own right =
      runs-by layout v on volume_lens (λ s p. refl) (call_on layout (Volume v) caller moment (call_of call)) caller moment
      (run-is-call layout call caller moment (Volume v) (run-in layout call (Volume v) refl at))
      (volume_parcels layout (Volume v) old) (volume_parcels layout (Volume v) new)
      (volume_set (stripes_of layout v) old) (volume_set (stripes_of layout v) new) (volume-seen layout lawful v on old)
      (λ job reply step. volume-step layout lawful job reply v on old new step) outcome
      (subst (λ (n : ℕ). RunsOn v volume_lens (call_on layout (Volume v) caller moment (call_of call)) (volume_set n old) outcome
      (volume_set n new)) own right)
      (unless-mapped outcome (new ≡ old) ((k : ℕ) → volume_parcels layout (Volume v) new k ≡ volume_parcels layout (Volume v) old k)
      (λ e k. ap (λ (h : FilerVolume P). volume_parcels layout (Volume v) h k) e) same)

  pub volume-runs : (v : ℕ) (a : Affinity) → a ≡ Volume v → IsNode layout a → IsRunAt layout call a → (old new : FilerVolume P) (outcome : Outcome)
      → UnlessReplied outcome (new ≡ old) → old.logical.own.stripes ≡ stripes_of layout v
      → RunsOn v volume_lens (call_on layout (Volume v) caller moment (call_of call)) (volume_before old) outcome (volume_after old new)
      → Runs layout a (Ask (call_of call) caller) moment (volume_parcels layout a old) outcome (volume_parcels layout a new)
  volume-runs v a is on at old new outcome same own right =
      subst (λ (b : Affinity). IsNode layout b → IsRunAt layout call b
      → Runs layout b (Ask (call_of call) caller) moment (volume_parcels layout b old) outcome (volume_parcels layout b new))
      (sym is) (λ there asks. volume-runs-at v there asks old new outcome same own right) on at

  -- one that was run on the parcel of a stripe
  stripe-runs-at : (v i : ℕ) → IsNode layout (Stripe v i) → IsRunAt layout call (Stripe v i) → (old new : FilerStripe P) (outcome : Outcome)
      → UnlessReplied outcome (new ≡ old)
      → RunsOn v (stripe_lens i) (call_on layout (Stripe v i) caller moment (call_of call)) old.own outcome new.own
      → Runs layout (Stripe v i) (Ask (call_of call) caller) moment
      (stripe_parcels layout (Stripe v i) old) outcome (stripe_parcels layout (Stripe v i) new)
  stripe-runs-at v i on at old new outcome same right =
      runs-by layout v on.0 (stripe_lens i) (λ s p. refl) (call_on layout (Stripe v i) caller moment (call_of call)) caller moment
      (run-is-call layout call caller moment (Stripe v i) (run-in layout call (Stripe v i) refl at))
      (stripe_parcels layout (Stripe v i) old) (stripe_parcels layout (Stripe v i) new) old.own new.own (stripe-seen layout lawful v on.0 i on.1 old)
      (λ job reply step. stripe-step layout lawful job reply v on.0 i on.1 old new step) outcome right
      (unless-mapped outcome (new ≡ old) ((k : ℕ) → stripe_parcels layout (Stripe v i) new k ≡ stripe_parcels layout (Stripe v i) old k)
      (λ e k. ap (λ (h : FilerStripe P). stripe_parcels layout (Stripe v i) h k) e) same)

  pub stripe-runs : (v i : ℕ) (a : Affinity) → a ≡ Stripe v i → IsNode layout a → IsRunAt layout call a → (old new : FilerStripe P) (outcome : Outcome)
      → UnlessReplied outcome (new ≡ old)
      → RunsOn v (stripe_lens i) (call_on layout (Stripe v i) caller moment (call_of call)) old.own outcome new.own
      → Runs layout a (Ask (call_of call) caller) moment (stripe_parcels layout a old) outcome (stripe_parcels layout a new)
  stripe-runs v i a is on at old new outcome same right =
      subst (λ (b : Affinity). IsNode layout b → IsRunAt layout call b
      → Runs layout b (Ask (call_of call) caller) moment (stripe_parcels layout b old) outcome (stripe_parcels layout b new))
      (sym is) (λ there asks. stripe-runs-at v i there asks old new outcome same right) on at

-- ---- where it moves

-- a WRITE moves to Logical of its volume or to Volume
moves-up : (a : Affinity) (parts : Parts) (r : Option Ready) (other : Affinity) → move_if (Some parts) a r ≡ Some other
    → (other ≡ Logical (volume_around a)) ⊎ (other ≡ Volume (volume_around a))
moves-up a parts None other e = absurd cc
moves-up (Stripe v i) parts (Some r) other e = by (r.extends || r.clears || nat_lt 0 r.need) e
  where
    by : (b : Bool) → (if b then Some (Logical v) else None) ≡ Some other → (other ≡ Logical v) ⊎ (other ≡ Volume v)
    by true is = inl cc
    by false is = absurd cc
moves-up (Logical v) parts (Some r) other e = by (nat_lt (len parts.stock) r.need) e
  where
    by : (b : Bool) → (if b then Some (Volume v) else None) ≡ Some other → (other ≡ Logical v) ⊎ (other ≡ Volume v)
    by true is = inr cc
    by false is = absurd cc
moves-up (Volume v) parts (Some r) other e = by (r.fits && nat_lt (len parts.stock + len parts.free + len parts.dead) r.need) e
  where
    by : (b : Bool) → (if b then Some (Volume v) else None) ≡ Some other → (other ≡ Logical v) ⊎ (other ≡ Volume v)
    by true is = inr cc
    by false is = absurd cc
moves-up Serial parts (Some r) other e = absurd cc
moves-up (Aggregate g) parts (Some r) other e = absurd cc
moves-up (Vbn v) parts (Some r) other e = absurd cc
moves-up (Range v n) parts (Some r) other e = absurd cc

-- the volume of a node is there
node-within : (layout : Layout) (a : Affinity) (v : ℕ) → volume_above a ≡ Some v → IsNode layout a → v < length layout.volumes
node-within layout Serial v above there = absurd cc
node-within layout (Aggregate g) v above there = absurd cc
node-within layout (Volume w) v above there = let is : w ≡ v = cc in subst (λ (n : ℕ). n < length layout.volumes) is there
node-within layout (Logical w) v above there = let is : w ≡ v = cc in subst (λ (n : ℕ). n < length layout.volumes) is there
node-within layout (Stripe w i) v above there = let is : w ≡ v = cc in subst (λ (n : ℕ). n < length layout.volumes) is there.0
node-within layout (Vbn w) v above there = let is : w ≡ v = cc in subst (λ (n : ℕ). n < length layout.volumes) is there
node-within layout (Range w r) v above there = let is : w ≡ v = cc in subst (λ (n : ℕ). n < length layout.volumes) is there.0

node-above : (layout : Layout) (v : ℕ) (other : Affinity) → v < length layout.volumes → (other ≡ Logical v) ⊎ (other ≡ Volume v) → IsNode layout other
node-above layout v other less up =
    ⊎_elim (λ (e : other ≡ Logical v). subst (IsNode layout) (sym e) less) (λ (e : other ≡ Volume v). subst (IsNode layout) (sym e) less) up

-- where a call moves from a node at which it is run, it is run
moved-there : (layout : Layout) (a : Affinity) (caller : Caller) (moment : Moment) (call : Call) → IsNode layout a → IsRunAt layout call a
    → (p : VolumeContents) (other : Affinity) → move_on (call_on layout a caller moment (call_of call)) p ≡ Some other
    → IsNode layout other × IsRunAt layout call other
moved-there layout a caller moment (calls.Write handle offset count bytes) there at p other e =
    let here = run-home layout (calls.Write handle offset count bytes) a at in
    let v : ℕ = volume_around a in
    let c = call_on layout a caller moment (call_of (calls.Write handle offset count bytes)) in
    let up : (other ≡ Logical v) ⊎ (other ≡ Volume v) =
    moves-up a (parts_of p) (ready_at (Some (located_on c p)) caller offset count (length bytes)) other e in (
      node-above layout v other (node-within layout a v here.above there) up,
      (tt, inr (subst (λ (named : Option Named). RunsAbove named other) (sym here.names) up)),
    )
moved-there layout a caller moment call there at p other e = absurd cc

-- a call that was run on a part of its volume is run where it moves
pub moves-on : {S : Type 0} (layout : Layout) (v : ℕ) (lens : Lens VolumeContents S) (a b : Affinity) → b ≡ a → (call : Call)
    → IsNode layout b → IsRunAt layout call b
    → (caller : Caller) (moment : Moment) (old new : S) (outcome : Outcome) → HasVolume v lens [] old
    → RunsOn v lens (call_on layout a caller moment (call_of call)) old outcome new → MovesOn layout call outcome
moves-on layout v lens a b is call there at caller moment old new (Replied reply) whole right = tt
moves-on layout v lens a b is call there at caller moment old new Starved whole right = tt
moves-on layout v lens a b is call there at caller moment old new (Moved other) w right =
    moved-there layout a caller moment call (subst (IsNode layout) is there) (subst (IsRunAt layout call) is at) w.0 other
    (right w.0 w.1 w.2 w.3 w.4 w.5 w.8 w.7).0.0

-- ---- what a run needs

module _ {P : Type 0} (layout : Layout) (lawful : fault_of layout ≡ None) where
  -- what is known of the parcels under Logical
  pub logical-whole : (v : ℕ) (a : Affinity) → a ≡ Logical v → IsNode layout a → (held : FilerLogical P)
      → HasFiler layout a [] (logical_parcels layout a held)
      → (held.own.stripes ≡ stripes_of layout v) × HasVolume v logical_lens [] (logical_before held)
  logical-whole v a is on held filer =
      subst (λ (b : Affinity). IsNode layout b → HasFiler layout b [] (logical_parcels layout b held)
      → (held.own.stripes ≡ stripes_of layout v) × HasVolume v logical_lens [] (logical_before held))
      (sym is) (λ there has. logical-has layout lawful [] v there held has) on filer

  -- what is known of the parcels under Volume
  pub volume-whole : (v : ℕ) (a : Affinity) → a ≡ Volume v → IsNode layout a → (held : FilerVolume P)
      → HasFiler layout a [] (volume_parcels layout a held)
      → (held.logical.own.stripes ≡ stripes_of layout v) × HasVolume v volume_lens [] (volume_before held)
  volume-whole v a is on held filer =
      subst (λ (b : Affinity). IsNode layout b → HasFiler layout b [] (volume_parcels layout b held)
      → (held.logical.own.stripes ≡ stripes_of layout v) × HasVolume v volume_lens [] (volume_before held))
      (sym is) (λ there has. volume-has layout lawful [] v there held has) on filer

  -- a stripe that a sound filer has is told how many there are
  stripe-count : (v i : ℕ) → IsNode layout (Stripe v i) → (held : FilerStripe P) → HasFiler layout (Stripe v i) [] (stripe_parcels layout (Stripe v i) held)
      → held.own.stripes ≡ stripes_of layout v
  stripe-count v i on held h =
      let c : FilerContents = filer_contents layout h.0 in
      let laid = laid-out layout h.0 in
      let found = get-some c.volumes v (let count = laid.volumes in let less = on.0 in omega (arith, count, less)) in
      let p : VolumeContents = found.0 in
      let well = (h.7 v p found.1).1.well_formed in
      let shown : length p.stripes ≡ stripes_of layout v = (laid.volume v p found.1).1 in
      let here : stripe_at p.stripes i ≡ held.own =
      ap (λ (o : Option VolumeContents). stripe_at (volume_or_none o).stripes i) (sym found.1) ∙ (stripe-seen layout lawful v on.0 i on.1 held).has h.0 h.4 in
      ap (λ (s : StripeValue). s.stripes) (sym here)
      ∙ (well.stripes i (let less = on.1 in omega (arith, less, shown))).stripes ∙ sym well.as_many ∙ shown

  -- what is known of the parcel of a stripe
  stripe-whole-at : (v i : ℕ) → IsNode layout (Stripe v i) → (held : FilerStripe P) → HasFiler layout (Stripe v i) [] (stripe_parcels layout (Stripe v i) held)
      → IsStripeOf layout v i held.own × HasVolume v (stripe_lens i) [] held.own
  stripe-whole-at v i on held filer =
      let count = stripe-count v i on held filer in (
        record { there = let less = on.1 in omega (arith, less, count); count = count },
        stripe-has layout lawful [] v on.0 i on.1 held filer,
      )

  pub stripe-whole : (v i : ℕ) (a : Affinity) → a ≡ Stripe v i → IsNode layout a → (held : FilerStripe P)
      → HasFiler layout a [] (stripe_parcels layout a held) → IsStripeOf layout v i held.own × HasVolume v (stripe_lens i) [] held.own
  stripe-whole v i a is on held filer =
      subst (λ (b : Affinity). IsNode layout b → HasFiler layout b [] (stripe_parcels layout b held)
      → IsStripeOf layout v i held.own × HasVolume v (stripe_lens i) [] held.own)
      (sym is) (λ there has. stripe-whole-at v i there held has) on filer
