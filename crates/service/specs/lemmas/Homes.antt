-- The nodes at which a call is run: what they are, and what is known of the call there.
use Rattle.std.proofs.Common.{◌≡◌, ℕ, ◌+◌, ◌-◌, ◌/◌, ◌%◌, ◌<◌, Bool, true, false, Option, Some, None, refl, sym, ap, ◌∙◌}
use Rattle.std.proofs.Common.{subst, inl, inr, ◌⊎◌, ⊎_elim, arith}
use Rattle.std.proofs.lemmas.Bool.{eqb-true}
use Rattle.std.specs.Prelude.{◌==◌, ◌||◌, min, if◌then◌else◌, zero, suc, List, [], ◌∷◌, length, is_some, slice_get}
use Rattle.nfs_model.specs.Tree.{Layout, VolumeLayout, Affinity, Serial, Aggregate, Volume, Logical, Stripe, aggregate_in, aggregate_of, stripes_of}
use Rattle.nfs_model.specs.Server.{Named, most_bytes}
use Rattle.nfs_model.specs.Route.{Route, AtOnce, OfNames, OfBytesRead, OfBytesWritten, OfTwoHandles, OfVolume, OfAggregate, OfEverything, handle_on, route}
use Rattle.nfs_model.specs.Home.{home, home_of_route, logical_home, volume_home, bytes_home, rename_home, grow_home, named_by, span_bytes, stripe_of_span}
use Rattle.nfs_model.specs.Work.{volume_above}
use Rattle.nfs_values.specs.Call.{call_of}
use Rattle.nfs_values.specs.declared.call.Call.{Call}
use Rattle.nfs_values.specs.declared.call.Call.TheVariants as calls
use Rattle.affinity.specs.Affinity.{kind_of}
use Rattle.affinity.specs.declared.affinity.Kind.TheVariants as kinds
use Rattle.parcels.specs.Sets.{volume_around}
use Rattle.filer_state.specs.state.Calls.{LieIn, handle_in}
use Rattle.service_data.specs.HomeLemmas.{home-lies}
use Rattle.service.specs.Running.{IsOnState, IsOnVolume, IsRunAt, IsRunIn, LeadsTo, RunsAbove, BytesLieIn, HasBytesIn, fileid_in}

-- what its handle names, the first of RENAME's: a fileid of the node's volume; and what the node is
pub record IsNodeOf (named : Option Named) (a : Affinity) : Type 0 where
  pub names : named ≡ Some (record { volume = volume_around a; fileid = fileid_in named })
  pub above : volume_above a ≡ Some (volume_around a)
  pub kind : (kind_of a ≡ kinds.VolumeLogical) ⊎ ((kind_of a ≡ kinds.Stripe) ⊎ (kind_of a ≡ kinds.Volume))

-- Logical of its volume
of-logical : (n : Named) (a : Affinity) → Logical n.volume ≡ a → IsNodeOf (Some n) a
of-logical n a at = subst (IsNodeOf (Some n)) at (record { names = refl; above = refl; kind = inl refl })

-- a stripe of its volume
of-stripe : (n : Named) (i : ℕ) (a : Affinity) → Stripe n.volume i ≡ a → IsNodeOf (Some n) a
of-stripe n i a at = subst (IsNodeOf (Some n)) at (record { names = refl; above = refl; kind = inr (inl refl) })

-- Volume
of-volume : (n : Named) (a : Affinity) → Volume n.volume ≡ a → IsNodeOf (Some n) a
of-volume n a at = subst (IsNodeOf (Some n)) at (record { names = refl; above = refl; kind = inr (inr refl) })

pub at-logical : (named : Option Named) (a : Affinity) → logical_home named ≡ Some a → IsNodeOf named a
at-logical None a e = absurd cc
at-logical (Some n) a e = of-logical n a cc

at-volume : (named : Option Named) (a : Affinity) → volume_home named ≡ Some a → IsNodeOf named a
at-volume None a e = absurd cc
at-volume (Some n) a e = of-volume n a cc

-- of bytes
at-bytes : (layout : Layout) (named : Option Named) (offset n : ℕ) (a : Affinity) → bytes_home layout named offset n ≡ Some a → IsNodeOf named a
at-bytes layout None offset n a e = absurd cc
at-bytes layout (Some h) offset n a e = by ((n == 0) || (offset / span_bytes == (offset + n - 1) / span_bytes)) e
  where
    by : (b : Bool) → (if b then Some (stripe_of_span layout h (offset / span_bytes)) else Some (Logical h.volume)) ≡ Some a → IsNodeOf (Some h) a
    by true is = of-stripe h ((h.fileid + offset / span_bytes) % stripes_of layout h.volume) a cc
    by false is = of-logical h a cc

-- of two handles whose volume is one
pub both-there : (from to : Option Named) (a : Affinity) → rename_home from to ≡ Some a → (logical_home from ≡ Some a) × (logical_home to ≡ Some a)
both-there None to a e = absurd cc
both-there (Some m) None a e = absurd cc
both-there (Some m) (Some n) a e = by-volumes (m.volume == n.volume) refl e
  where
    by-volumes : (b : Bool) → (m.volume == n.volume) ≡ b → (if b then Some (Logical m.volume) else None) ≡ Some a
        → (Some (Logical m.volume) ≡ Some a) × (Some (Logical n.volume) ≡ Some a)
    by-volumes false same is = absurd cc
    by-volumes true same is = (is, ap (λ (w : ℕ). Some (Logical w)) (sym (eqb-true m.volume n.volume same)) ∙ is)

at-both : (from to : Option Named) (a : Affinity) → rename_home from to ≡ Some a → IsNodeOf from a
at-both from to a e = at-logical from a (both-there from to a e).0

-- above the home of bytes
at-above : (named : Option Named) (a : Affinity) → RunsAbove named a → IsNodeOf named a
at-above None a above = absurd above
at-above (Some n) a above =
    ⊎_elim (λ (e : a ≡ Logical n.volume). of-logical n a (sym e)) (λ (e : a ≡ Volume n.volume). of-volume n a (sym e)) above

-- a route on a volume leads to a node of what its handle names
leads-within : (layout : Layout) (r : Route) (a : Affinity) → IsOnVolume r → LeadsTo layout r a → IsNodeOf (named_by layout (handle_on r)) a
leads-within layout (OfNames handle) a on at = at-logical (named_by layout handle) a at
leads-within layout (OfBytesRead handle offset count) a on at = at-bytes layout (named_by layout handle) offset (min count most_bytes) a at
leads-within layout (OfBytesWritten handle offset count) a on at =
    let named = named_by layout handle in
    ⊎_elim (λ (e : bytes_home layout named offset (min count most_bytes) ≡ Some a). at-bytes layout named offset (min count most_bytes) a e)
    (λ (above : RunsAbove named a). at-above named a above) at
leads-within layout (OfTwoHandles from to) a on at = at-both (named_by layout from) (named_by layout to) a at
leads-within layout (OfVolume handle) a on at = at-volume (named_by layout handle) a at
leads-within layout r a on at = absurd on

pub run-home : (layout : Layout) (call : Call) (a : Affinity) → IsRunIn layout call a → IsNodeOf (named_by layout (handle_in (call_of call))) a
run-home layout call a at = leads-within layout (route (call_of call)) a at.0 at.1

-- ---- GROW

-- it is run on an Aggregate
grown-on : (o : Option VolumeLayout) (a : Affinity) → grow_home o ≡ Some a → (kind_of a ≡ kinds.Aggregate) × (volume_above a ≡ None)
grown-on None a e = absurd cc
grown-on (Some v) a e =
    let same : Aggregate v.aggregate ≡ a = cc in
    subst (λ (b : Affinity). (kind_of b ≡ kinds.Aggregate) × (volume_above b ≡ None)) same (refl, refl)

-- and so not at a node of a volume
no-grow : (layout : Layout) (v : ℕ) (a : Affinity) → grow_home (slice_get layout.volumes v) ≡ Some a → is_some (volume_above a) ≡ true → ⊥
no-grow layout v a at within =
    let none : is_some (volume_above a) ≡ false = ap (λ (o : Option ℕ). is_some o) (grown-on (slice_get layout.volumes v) a at).1 in cc

-- nor is CENSUS, which is run on Serial
no-census : (a : Affinity) → Some Serial ≡ Some a → is_some (volume_above a) ≡ true → ⊥
no-census a at within = let is : a ≡ Serial = cc in let none : is_some (volume_above a) ≡ false = ap (λ (b : Affinity). is_some (volume_above b)) is in cc

-- a route that leads to a node of a volume is on the volume
on-volume : (layout : Layout) (r : Route) (a : Affinity) → is_some (volume_above a) ≡ true → LeadsTo layout r a → IsOnVolume r
on-volume layout AtOnce a within at = let no : ⊥ = cc in no
on-volume layout (OfAggregate volume) a within at = no-grow layout volume a at within
on-volume layout OfEverything a within at = no-census a at within
on-volume layout r a within at = tt

-- and so is a call that is run there
pub run-in : (layout : Layout) (call : Call) (a : Affinity) → is_some (volume_above a) ≡ true → IsRunAt layout call a → IsRunIn layout call a
run-in layout call a within at = (on-volume layout (route (call_of call)) a within at.1, at.1)

-- ---- where it is run

-- a route that has a home is on some state, and leads there
leads-home : (layout : Layout) (r : Route) (a : Affinity) → home_of_route layout r ≡ Some a → IsOnState r × LeadsTo layout r a
leads-home layout AtOnce a at = absurd cc
leads-home layout (OfBytesWritten handle offset count) a at = (tt, inl at)
leads-home layout r a at = (tt, at)

-- a call is run at its home
pub at-home : (layout : Layout) (call : Call) (a : Affinity) → home layout (call_of call) ≡ Some a → IsRunAt layout call a
at-home layout call a at = leads-home layout (route (call_of call)) a at

-- on an Aggregate only GROW of a volume that the layout puts there
pub only-grows : (layout : Layout) (call : Call) (g : ℕ) → IsRunAt layout call (Aggregate g)
    → ((volume : _) (more : ℕ) → call ≡ calls.Grow volume more → ⊥) → ⊥
only-grows layout (calls.Grow volume more) g at no_grow = no_grow volume more refl
only-grows layout calls.Census g at no_grow = let no : ⊥ = cc in no
only-grows layout call g at no_grow = let above = (run-home layout call (Aggregate g) at).above in cc

pub grows-there : (layout : Layout) (v g : ℕ) → grow_home (slice_get layout.volumes v) ≡ Some (Aggregate g)
    → (v < length layout.volumes) × (aggregate_of layout v ≡ g)
grows-there layout v g at = (within layout.volumes v at, by (slice_get layout.volumes v) at)
  where
    within : (volumes : List VolumeLayout) (v : ℕ) → grow_home (slice_get volumes v) ≡ Some (Aggregate g) → v < length volumes
    within [] v e = absurd cc
    within (x ∷ xs) zero e = omega arith
    within (x ∷ xs) (suc v) e = let less = within xs v e in omega (arith, less)

    by : (o : Option VolumeLayout) → grow_home o ≡ Some (Aggregate g) → aggregate_in o ≡ g
    by None e = absurd cc
    by (Some x) e = cc

-- on Serial only CENSUS
pub only-census : (layout : Layout) (call : Call) → IsRunAt layout call Serial → (call ≡ calls.Census → ⊥) → ⊥
only-census layout calls.Census at no_census = no_census refl
only-census layout (calls.Grow volume more) at no_census =
    let kind : kinds.Serial ≡ kinds.Aggregate = (grown-on (slice_get layout.volumes volume.0) Serial at.1).0 in cc
only-census layout call at no_census = let above = (run-home layout call Serial at).above in cc

pub is-census : (layout : Layout) (call : Call) → IsRunAt layout call Serial → call ≡ calls.Census
is-census layout calls.Census at = refl
is-census layout (calls.Grow volume more) at =
    let kind : kinds.Serial ≡ kinds.Aggregate = (grown-on (slice_get layout.volumes volume.0) Serial at.1).0 in let no : ⊥ = cc in absurd no
is-census layout call at = let above = (run-home layout call Serial at).above in let no : ⊥ = cc in absurd no

-- on Volume only a WRITE, or FSSTAT
not-volume : (named : Option Named) (v : ℕ) → logical_home named ≡ Some (Volume v) → ⊥
not-volume None v e = cc
not-volume (Some n) v e = cc

no-bytes-volume : (layout : Layout) (named : Option Named) (offset n v : ℕ) → bytes_home layout named offset n ≡ Some (Volume v) → ⊥
no-bytes-volume layout None offset n v e = cc
no-bytes-volume layout (Some h) offset n v e = by ((n == 0) || (offset / span_bytes == (offset + n - 1) / span_bytes)) e
  where
    by : (b : Bool) → (if b then Some (stripe_of_span layout h (offset / span_bytes)) else Some (Logical h.volume)) ≡ Some (Volume v) → ⊥
    by true is = cc
    by false is = cc

abbrev ReachesVolume : Route → Type 0
ReachesVolume (OfBytesWritten handle offset count) = Unit {0}
ReachesVolume (OfVolume handle) = Unit {0}
ReachesVolume r = ⊥

leads-volume : (layout : Layout) (r : Route) (v : ℕ) → LeadsTo layout r (Volume v) → ReachesVolume r
leads-volume layout AtOnce v at = let no : ⊥ = cc in no
leads-volume layout (OfNames handle) v at = not-volume (named_by layout handle) v at
leads-volume layout (OfBytesRead handle offset count) v at = no-bytes-volume layout (named_by layout handle) offset (min count most_bytes) v at
leads-volume layout (OfTwoHandles from to) v at =
    not-volume (named_by layout from) v (both-there (named_by layout from) (named_by layout to) (Volume v) at).0
leads-volume layout (OfAggregate volume) v at = no-grow layout volume (Volume v) at refl
leads-volume layout OfEverything v at = let no : ⊥ = cc in no
leads-volume layout r v at = tt

pub only-status : (layout : Layout) (call : Call) (v : ℕ) → IsRunAt layout call (Volume v)
    → ((handle : _) (offset count : ℕ) (bytes : _) → call ≡ calls.Write handle offset count bytes → ⊥)
    → ((handle : _) → call ≡ calls.FilesystemStatus handle → ⊥) → ⊥
only-status layout (calls.Write handle offset count bytes) v at no_write no_status = no_write handle offset count bytes refl
only-status layout (calls.FilesystemStatus handle) v at no_write no_status = no_status handle refl
only-status layout call v at no_write no_status = leads-volume layout (route (call_of call)) v at.1

-- in a stripe, only one on bytes that lie in it
not-stripe : (named : Option Named) (v i : ℕ) → logical_home named ≡ Some (Stripe v i) → ⊥
not-stripe None v i e = cc
not-stripe (Some n) v i e = cc

no-volume-stripe : (named : Option Named) (v i : ℕ) → volume_home named ≡ Some (Stripe v i) → ⊥
no-volume-stripe None v i e = cc
no-volume-stripe (Some n) v i e = cc

no-stripe-above : (named : Option Named) (v i : ℕ) → RunsAbove named (Stripe v i) → ⊥
no-stripe-above None v i above = above
no-stripe-above (Some n) v i above =
    ⊎_elim (λ (e : Stripe v i ≡ Logical n.volume). let no : ⊥ = cc in no) (λ (e : Stripe v i ≡ Volume n.volume). let no : ⊥ = cc in no) above

lies-there : (layout : Layout) (named : Option Named) (offset n v i stripes : ℕ) → bytes_home layout named offset n ≡ Some (Stripe v i)
    → stripes ≡ stripes_of layout v → 0 < stripes → LieIn stripes i (fileid_in named) offset n
lies-there layout None offset n v i stripes e many some = absurd cc
lies-there layout (Some h) offset n v i stripes e many some =
    let same : Some h ≡ Some (record { volume = v; fileid = h.fileid }) = (at-bytes layout (Some h) offset n (Stripe v i) e).names in
    let volume : h.volume ≡ v = cc in
    (home-lies layout h offset n v i stripes e (many ∙ sym (ap (stripes_of layout) volume)) some).2

leads-stripe : (layout : Layout) (r : Route) (v i stripes : ℕ) → LeadsTo layout r (Stripe v i) → stripes ≡ stripes_of layout v → i < stripes
    → HasBytesIn stripes i (fileid_in (named_by layout (handle_on r))) r
leads-stripe layout AtOnce v i stripes at many there = let no : ⊥ = cc in no
leads-stripe layout (OfNames handle) v i stripes at many there = not-stripe (named_by layout handle) v i at
leads-stripe layout (OfBytesRead handle offset count) v i stripes at many there =
    lies-there layout (named_by layout handle) offset (min count most_bytes) v i stripes at many (omega arith)
leads-stripe layout (OfBytesWritten handle offset count) v i stripes at many there =
    let named = named_by layout handle in
    ⊎_elim (λ (e : bytes_home layout named offset (min count most_bytes) ≡ Some (Stripe v i)).
    lies-there layout named offset (min count most_bytes) v i stripes e many (omega (arith, there)))
    (λ (above : RunsAbove named (Stripe v i)). absurd (no-stripe-above named v i above)) at
leads-stripe layout (OfTwoHandles from to) v i stripes at many there =
    not-stripe (named_by layout from) v i (both-there (named_by layout from) (named_by layout to) (Stripe v i) at).0
leads-stripe layout (OfVolume handle) v i stripes at many there = no-volume-stripe (named_by layout handle) v i at
leads-stripe layout (OfAggregate volume) v i stripes at many there = no-grow layout volume (Stripe v i) at refl
leads-stripe layout OfEverything v i stripes at many there = let no : ⊥ = cc in no

pub bytes-lie : (layout : Layout) (call : Call) (v i stripes : ℕ) → IsRunAt layout call (Stripe v i) → stripes ≡ stripes_of layout v → i < stripes
    → BytesLieIn stripes i (fileid_in (named_by layout (handle_in (call_of call)))) (call_of call)
bytes-lie layout call v i stripes at many there = leads-stripe layout (route (call_of call)) v i stripes at.1 many there
