-- That a worker is of a filer and a queue, out of that fact truncated: it can be shown in one way, but for where a WRITE is run, and that can be
-- told from its node.
use Rattle.std.specs.Prelude.{◌≡◌, ◌⊎◌, ℕ, ◌+◌, ◌-◌, ◌/◌, ◌==◌, ◌||◌, min, Bool, true, false, List, [], ◌∷◌, Option, Some, None}
use Rattle.std.specs.Prelude.{IfSome, if◌then◌else◌}
use Rattle.std.specs.Coded.{Coded, Coded-set, codes, le_prop}
use Rattle.std.proofs.Common.{inl, inr, ⊎_elim}
use Rattle.std.proofs.Math.Logic.{∥∥₁_elim, ∥∥₁_map}
use Rattle.std.proofs.Props.{props}
use Rattle.nfs_model.specs.Route.{Route, AtOnce, OfBytesWritten, route}
use Rattle.nfs_model.specs.Home.{home_of_route, bytes_home, named_by, span_bytes, stripe_of_span}
use Rattle.nfs_model.specs.Parts.{Hand, Empty, Fresh, Dead, IsAscending}
use Rattle.nfs_model.specs.Server.{Named, most_bytes}
use Rattle.nfs_model.specs.Tree.{Affinity, Layout, Serial, Aggregate, Volume, Logical, Stripe, Vbn, Range}
use Rattle.affinity.specs.Affinity.{call_node}
use Rattle.affinity.specs.Tree.{IsNode}
use Rattle.affinity.specs.declared.layout.Layout as layouts
use Rattle.granted_calls.specs.declared.shared_waiting.pass.SharedWaiting.{SharedWaiting}
use Rattle.depot.specs.Words.{IsSeatHere}
use Rattle.depot_rule.specs.History.{listed}
use Rattle.filer_state.specs.state.Opening.{AreOpening}
use Rattle.filer_state.specs.state.Parcels.{FilerParcel}
use Rattle.nfs_values.specs.Call.{call_of}
use Rattle.turns.specs.Running.{IsOnState, LeadsTo, RunsAbove}
use Rattle.granted_calls.specs.shared_waiting.Passes.{IsOf}
use Rattle.nfs_model.specs.volume.Codes.{coded_range, coded_stripe, coded_logical}
use Rattle.granted_calls.specs.Messages.{IsPlaced, Message}
use Rattle.granted_calls.specs.Filers.{layout_in, layout_known, verifier_in, HasOpened}
use Rattle.turns.specs.Words.{seat_view, passed, IsHandIn, IsAt}
use Rattle.granted_calls.specs.declared.shared.Filer.{Filer}
use Rattle.turns.specs.declared.worker.Worker.{Worker}

-- ---- facts that can be shown in one way

node-prop : (layout : Layout) (a : Affinity) → IsProp (IsNode layout a)
node-prop layout Serial = Prim.hlevel props
node-prop layout (Aggregate a) = Prim.hlevel props
node-prop layout (Volume v) = Prim.hlevel props
node-prop layout (Logical v) = Prim.hlevel props
node-prop layout (Stripe v i) = Prim.hlevel props
node-prop layout (Vbn v) = Prim.hlevel props
node-prop layout (Range v r) = Prim.hlevel props

coded-parcel : {P : Type 0} → Coded (FilerParcel P)
coded-parcel = Prim.hlevel (coded_range, coded_stripe, coded_logical, codes)

opening-prop : {P : Type 0} (layout : Layout) (verifier : List ℕ) (f : ℕ → Option (FilerParcel P)) → IsProp (AreOpening layout verifier f)
opening-prop layout verifier f = Prim.hlevel (coded-parcel, Coded-set, codes, props)

on-state-prop : (r : Route) → IsProp (IsOnState r)
on-state-prop AtOnce = Prim.hlevel props
on-state-prop r = Prim.hlevel props

at-prop : (o : Option Affinity) (a : Affinity) → IsProp (o ≡ Some a)
at-prop o a = Prim.hlevel (Coded-set, codes, props)

-- ---- where a call is run, of a truncated fact

-- the home of bytes is a stripe or Logical
home-logical : (layout : Layout) (h : Named) (offset n a : ℕ) (b : Bool)
    → (if b then Some (stripe_of_span layout h (offset / span_bytes)) else Some (Logical h.volume)) ≡ Some (Logical a) → Logical a ≡ Logical h.volume
home-logical layout h offset n a true e = let no : ⊥ = cc in absurd no
home-logical layout h offset n a false e = cc

home-volume : (layout : Layout) (h : Named) (offset n a : ℕ) (b : Bool)
    → (if b then Some (stripe_of_span layout h (offset / span_bytes)) else Some (Logical h.volume)) ≡ Some (Volume a) → ⊥
home-volume layout h offset n a true e = cc
home-volume layout h offset n a false e = cc

prop-at : (a b : Affinity) → IsProp (a ≡ b)
prop-at a b = Prim.hlevel (Coded-set, codes, props)

first : {A B : Type 0} → IsProp A → (B → ⊥) → ∥ A ⊎ B ∥₁ → A ⊎ B
first prop none t = inl (∥∥₁_elim t prop (λ x. ⊎_elim (λ a. a) (λ b. absurd (none b)) x))

bytes-there : (layout : Layout) (o : Option Named) (offset n : ℕ) (node : Affinity)
    → ∥ (bytes_home layout o offset n ≡ Some node) ⊎ RunsAbove o node ∥₁ → (bytes_home layout o offset n ≡ Some node) ⊎ RunsAbove o node
bytes-there layout None offset n node t = first (at-prop None node) (λ b. b) t
bytes-there layout (Some h) offset n (Logical a) t =
    inr (inl (∥∥₁_elim t (prop-at (Logical a) (Logical h.volume))
    (λ x. ⊎_elim (home-logical layout h offset n a ((n == 0) || (offset / span_bytes == (offset + n - 1) / span_bytes)))
    (λ y. ⊎_elim (λ e. e) (λ e. let no : ⊥ = cc in absurd no) y) x)))
bytes-there layout (Some h) offset n (Volume a) t =
    inr (inr (∥∥₁_elim t (prop-at (Volume a) (Volume h.volume))
    (λ x. ⊎_elim (λ e. absurd (home-volume layout h offset n a ((n == 0) || (offset / span_bytes == (offset + n - 1) / span_bytes)) e))
    (λ y. ⊎_elim (λ e. let no : ⊥ = cc in absurd no) (λ e. e) y) x)))
bytes-there layout (Some h) offset n (Stripe v i) t = first (at-prop (bytes_home layout (Some h) offset n) (Stripe v i)) (λ y. ⊎_elim (λ e. cc) (λ e. cc) y) t
bytes-there layout (Some h) offset n Serial t = first (at-prop (bytes_home layout (Some h) offset n) Serial) (λ y. ⊎_elim (λ e. cc) (λ e. cc) y) t
bytes-there layout (Some h) offset n (Aggregate a) t = first (at-prop (bytes_home layout (Some h) offset n) (Aggregate a)) (λ y. ⊎_elim (λ e. cc) (λ e. cc) y) t
bytes-there layout (Some h) offset n (Vbn v) t = first (at-prop (bytes_home layout (Some h) offset n) (Vbn v)) (λ y. ⊎_elim (λ e. cc) (λ e. cc) y) t
bytes-there layout (Some h) offset n (Range v r) t = first (at-prop (bytes_home layout (Some h) offset n) (Range v r)) (λ y. ⊎_elim (λ e. cc) (λ e. cc) y) t

leads-to : (layout : Layout) (r : Route) (node : Affinity) → ∥ LeadsTo layout r node ∥₁ → LeadsTo layout r node
leads-to layout (OfBytesWritten handle offset count) node t = bytes-there layout (named_by layout handle) offset (min count most_bytes) node t
leads-to layout r node t = ∥∥₁_elim t (at-prop (home_of_route layout r) node) (λ e. e)

-- ---- a message, a hand, a worker

placed : (layout : Layout) (m : Message) → ∥ IsPlaced layout m ∥₁ → IsPlaced layout m
placed layout m t =
    record {
      node = ∥∥₁_elim t (node-prop layout (call_node m.affinity)) (λ p. p.node);
      run = (
        ∥∥₁_elim t (on-state-prop (route (call_of m.call))) (λ p. p.run.0),
        leads-to layout (route (call_of m.call)) (call_node m.affinity) (∥∥₁_map t (λ p. p.run.1)),
      );
      room = ∥∥₁_elim t le_prop (λ p. p.room);
    }

ascending-prop : (blocks : List ℕ) → IsProp (IsAscending blocks)
ascending-prop [] = Prim.hlevel props
ascending-prop (b ∷ []) = Prim.hlevel props
ascending-prop (b ∷ (c ∷ rest)) = let others = ascending-prop (c ∷ rest) in Prim.hlevel (others, props)

hand-prop : (layout : Layout) (hand : Hand) → IsProp (IsHandIn layout hand)
hand-prop layout Empty = Prim.hlevel props
hand-prop layout (Fresh volume blocks) = Prim.hlevel (ascending-prop, Coded-set, codes, props)
hand-prop layout (Dead volume blocks) = Prim.hlevel (ascending-prop, Coded-set, codes, props)

kept : (layout : Layout) (o : Option Message) → ∥ IfSome o (IsPlaced layout) ∥₁ → IfSome o (IsPlaced layout)
kept layout None t = tt
kept layout (Some m) t = placed layout m t

seat-prop : (filer : Filer) (w : Worker) → IsProp (IsSeatHere filer.depot w.seat)
seat-prop filer w = Prim.hlevel (Coded-set, codes, props)

opened-prop : (filer : Filer) (w : Worker) → IsProp (HasOpened (layout_in filer) (verifier_in filer) (seat_view w))
opened-prop filer w = opening-prop (layout_in filer) (verifier_in filer) (listed (seat_view w).first)

pass-prop : (queue : SharedWaiting Message layouts.Layout) (w : Worker) → IsProp (IsOf queue w.pass)
pass-prop queue w = Prim.hlevel (Coded-set, codes, props)

known-prop : (a b : Option Layout) → IsProp (a ≡ b)
known-prop a b = Prim.hlevel (Coded-set, codes, props)

pub at-inside : (filer : Filer) (queue : SharedWaiting Message layouts.Layout) (w : Worker) → ∥ IsAt filer queue w ∥₁ → IsAt filer queue w
at-inside filer queue w t =
    record {
      seat = ∥∥₁_elim t (seat-prop filer w) (λ i. i.seat);
      opened = ∥∥₁_elim t (opened-prop filer w) (λ i. i.opened);
      pass = ∥∥₁_elim t (pass-prop queue w) (λ i. i.pass);
      layout = ∥∥₁_elim t (known-prop (layout_known (passed w)) (Some (layout_in filer))) (λ i. i.layout);
      hand = ∥∥₁_elim t (hand-prop (layout_in filer) w.hand) (λ i. i.hand);
      kept = kept (layout_in filer) w.kept (∥∥₁_map t (λ i. i.kept));
    }
