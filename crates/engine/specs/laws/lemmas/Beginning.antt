-- A message begins: it is refused where the books say so, and else the books stand for the world in which it runs.
use Rattle.std.proofs.Common.{◌≡◌, ℕ, zero, suc, ◌≤◌, ◌<◌, Bool, true, false, ◌||◌, List, [], ◌∷◌, Option, Some, None, refl, sym, ap, ◌∙◌}
use Rattle.std.proofs.Common.{subst, arith, ⊎_elim, ◌⊎◌, inl, inr}
use Rattle.std.proofs.lemmas.Bool.{or_cases, le-leb, leb-true}
use Rattle.std.specs.Prelude.{◌^◌, if◌then◌else◌}
use Rattle.std.specs.List.{list_any}
use mathlib.Core.Option.{some, some-injective, some-ne-none}
use lib.ListN.{get_elem?}
use Rattle.nfs_model.specs.Types.{Moment}
use Rattle.nfs_model.specs.Tree.{Layout, Affinity, excludes}
use Rattle.nfs_model.specs.World.{Setup, World, Message, Running, Worker, with_held, all_running, affinities, changed_at, with_running}
use Rattle.nfs_model.specs.Events.Refusals.{is_busy, is_worn, excluded}
use Rattle.nfs_model.specs.Events.Step.{begun}
use Rattle.affinity.specs.Fault.{fault_of}
use Rattle.affinity.specs.Numbers.{parents}
use Rattle.depot_rule.specs.Shares.{worn}
use Rattle.depot_rule.specs.History.{Legal}
use Rattle.desk.specs.laws.Books.{Lent, settled, now, stamps, HasLent, IsTaken, IsSame, HasHands, IsSettled}
use Rattle.desk.specs.laws.Calls.{HasBegun, IsWorn, with_lent}
use Rattle.filer_state.specs.state.Parcels.{FilerParcel}
use Rattle.filer_state.specs.state.Contents.{filer_contents}
use Rattle.filer_state.specs.state.Tree.{tree}
use Rattle.filer_state.specs.state.Partition.{all_parts}
use Rattle.filer_state.specs.state.Opening.{AreOpening}
use Rattle.filer_state.specs.state.Jobs.{Job, JobReply}
use Rattle.engine.specs.laws.Store.{FilerBooks, filer, RunsOn, RunOn, IsApart, StandsFor, batches_carried, calls_served}
use Rattle.engine.specs.laws.lemmas.Changing.{carried-stay, run-changed}

-- the same parcels at each node are the same parcels
pub same-now : {P C R : Type 0} (b c : FilerBooks P C R) → IsSame b c → now c ≡ now b
same-now b c same = λ j k. same k j

true-or : (x y : Bool) → x ≡ true → (x || y) ≡ true
true-or true y e = refl
true-or false y e = absurd cc

or-true : (x y : Bool) → y ≡ true → (x || y) ≡ true
or-true true y e = refl
or-true false y e = e

more-busy : (setup : Setup) (o : Option Running) (a : Affinity) (rs : List Running) → list_any (excludes setup.layout a) (affinities rs) ≡ true
    → list_any (excludes setup.layout a) (affinities (with_held o rs)) ≡ true
more-busy setup None a rs busy = busy
more-busy setup (Some r) a rs busy = or-true (excludes setup.layout a r.message.affinity) (list_any (excludes setup.layout a) (affinities rs)) busy

not-true : (x : Bool) → (x ≡ true → ⊥) → x ≡ false
not-true true never = absurd (never refl)
not-true false never = refl

-- 21, then 22
abbrev excluded_by : Bool → Bool → Option ℕ
excluded_by busy many = if busy then Some 21 else if many then Some 22 else None

told-busy : (x y : Bool) → x ≡ true → excluded_by x y ≡ Some 21
told-busy true y e = refl
told-busy false y e = absurd cc

told-worn : (x y : Bool) → x ≡ false → y ≡ true → excluded_by x y ≡ Some 22
told-worn true y e f = absurd cc
told-worn false true e f = refl
told-worn false false e f = absurd cc

told-neither : (x y : Bool) → x ≡ false → y ≡ false → excluded_by x y ≡ None
told-neither true y e f = absurd cc
told-neither false true e f = absurd cc
told-neither false false e f = refl

module _ {P C R : Type 0} (setup : Setup) where
  -- ---- what excludes

  one-taken : (o : Option Running) (x : Option (Lent (FilerParcel P))) (b : FilerBooks P C R) (a : Affinity) (rs : List Running) → RunsOn setup b o x
      → list_any (excludes setup.layout a) (affinities (with_held o rs)) ≡ true
      → ((l : Lent (FilerParcel P)) × (x ≡ Some l) × (excludes setup.layout a l.affinity ≡ true))
      ⊎ (list_any (excludes setup.layout a) (affinities rs) ≡ true)
  one-taken None None b a rs run busy = inr busy
  one-taken None (Some l) b a rs run busy = absurd run
  one-taken (Some r) None b a rs run busy = absurd run
  one-taken (Some r) (Some l) b a rs run busy = ⊎_elim
      (λ (here : excludes setup.layout a r.message.affinity ≡ true). inl (l, refl, ap (λ c. excludes setup.layout a c) run.0 ∙ here))
      (λ others. inr others)
      (or_cases (excludes setup.layout a r.message.affinity) (list_any (excludes setup.layout a) (affinities rs)) busy)

  taken-if-busy : (ks : List Worker) (xs : List (Option (Lent (FilerParcel P)))) (b : FilerBooks P C R) (a : Affinity) → RunOn setup b ks xs
      → list_any (excludes setup.layout a) (affinities (all_running ks)) ≡ true
      → (i : ℕ) × (l : Lent (FilerParcel P)) × (get_elem? xs i ≡ some (Some l)) × (excludes setup.layout a l.affinity ≡ true)
  taken-if-busy [] xs b a run busy = absurd (false-true busy)
    where
      false-true : false ≡ true → ⊥
      false-true e = absurd cc
  taken-if-busy (k ∷ ks) [] b a run busy = absurd run
  taken-if-busy (k ∷ ks) (x ∷ xs) b a run busy = ⊎_elim
      (λ (here : (l : Lent (FilerParcel P)) × (x ≡ Some l) × (excludes setup.layout a l.affinity ≡ true)). (0, here.0, ap some here.1, here.2))
      (λ more. let t = taken-if-busy ks xs b a run.1 more in (suc t.0, t.1, t.2, t.3))
      (one-taken k.running x b a (all_running ks) run.0 busy)

  one-busy : (o : Option Running) (b : FilerBooks P C R) (a : Affinity) (rs : List Running) (l : Lent (FilerParcel P)) → RunsOn setup b o (Some l)
      → excludes setup.layout a l.affinity ≡ true → list_any (excludes setup.layout a) (affinities (with_held o rs)) ≡ true
  one-busy None b a rs l run taken = absurd run
  one-busy (Some r) b a rs l run taken =
      true-or (excludes setup.layout a r.message.affinity) (list_any (excludes setup.layout a) (affinities rs))
      (ap (λ c. excludes setup.layout a c) (sym run.0) ∙ taken)

  busy-if-taken : (ks : List Worker) (xs : List (Option (Lent (FilerParcel P)))) (b : FilerBooks P C R) (a : Affinity) → RunOn setup b ks xs
      → (i : ℕ) (l : Lent (FilerParcel P)) → get_elem? xs i ≡ some (Some l) → excludes setup.layout a l.affinity ≡ true
      → list_any (excludes setup.layout a) (affinities (all_running ks)) ≡ true
  busy-if-taken [] [] b a run i l at taken = absurd (some-ne-none (Some l) (sym at))
  busy-if-taken [] (x ∷ xs) b a run i l at taken = absurd run
  busy-if-taken (k ∷ ks) [] b a run i l at taken = absurd run
  busy-if-taken (k ∷ ks) (x ∷ xs) b a run zero l at taken =
      one-busy k.running b a (all_running ks) l (subst (λ y. RunsOn setup b k.running y) (some-injective x (Some l) at) run.0) taken
  busy-if-taken (k ∷ ks) (x ∷ xs) b a run (suc i) l at taken =
      more-busy setup k.running a (all_running ks) (busy-if-taken ks xs b a run.1 i l at taken)

  module _ (job : C → Job) (told : R → JobReply) (w : World) (b : FilerBooks P C R) (s : StandsFor job told setup w b) (a : Affinity) where
    abbrev taken_by : Layout → Type 0
    taken_by layout = (worker : ℕ) × (l : Lent (FilerParcel P)) × HasLent b worker l × (excludes layout a l.affinity ≡ true)

    busy-taken : is_busy setup w a ≡ true → IsTaken b a
    busy-taken busy = subst taken_by (sym s.layout) (taken-if-busy w.workers b.lent b a s.workers busy)

    taken-busy : IsTaken b a → is_busy setup w a ≡ true
    taken-busy taken =
        let t : taken_by setup.layout = subst taken_by s.layout taken in
        busy-if-taken w.workers b.lent b a s.workers t.0 t.1 t.2 t.3

    -- ---- refusals

    pub told-taken : IsTaken b a → excluded setup w a ≡ Some 21
    told-taken taken = told-busy (is_busy setup w a) (is_worn w) (taken-busy taken)

    untaken : (IsTaken b a → ⊥) → is_busy setup w a ≡ false
    untaken free = not-true (is_busy setup w a) (λ busy. free (busy-taken busy))

    pub told-worn-out : IsWorn b a → excluded setup w a ≡ Some 22
    told-worn-out worn_out =
        let stamps_are = s.stamps in
        let many : 2 ^ 62 ≤ w.stamps = (let limit = worn_out.1 in omega arith) in
        told-worn (is_busy setup w a) (is_worn w) (untaken worn_out.0) (le-leb (2 ^ 62) w.stamps many)

    pub told-free : (IsTaken b a → ⊥) → stamps b < worn → excluded setup w a ≡ None
    told-free free low =
        let stamps_are = s.stamps in
        told-neither (is_busy setup w a) (is_worn w) (untaken free)
        (not-true (is_worn w) (λ e. let many = leb-true (2 ^ 62) w.stamps e in absurd (omega arith)))

    pub told-nothing : (c : FilerBooks P C R) (i : ℕ) → HasBegun b i a c → excluded setup w a ≡ None
    told-nothing c i h = told-free h.free h.low

    -- ---- what is begun

    module _ (c : FilerBooks P C R) (i : ℕ) (begins : HasBegun b i a c) (apart : IsApart c) (place : ℕ) (m : Message) (moment : Moment)
        (at : m.affinity ≡ a) where
      abbrev r : Running
      r = record { message = m; moment = moment; outcome = None }

      abbrev l : Lent (FilerParcel P)
      l = record { affinity = a; parcels = begins.parcels }

      abbrev begun_books : FilerBooks P C R
      begun_books = with_lent b i (Some l)

      -- the books stand for the world in which it runs
      pub begun-stands : StandsFor job told setup (begun w i place m moment) c
      begun-stands = record {
        layout = ap (λ (x : FilerBooks P C R). x.layout) begins.books ∙ s.layout;
        lawful = subst (λ (x : FilerBooks P C R). fault_of x.layout ≡ None) (sym begins.books) s.lawful;
        lent = apart;
        server = s.server ∙ sym (λ j. tree (ap (λ (x : FilerBooks P C R). x.layout) begins.books j) (same-now b c begins.same j));
        parts = s.parts ∙ sym (λ j. all_parts (filer_contents (ap (λ (x : FilerBooks P C R). x.layout) begins.books j) (same-now b c begins.same j)));
        finished = s.finished ∙ sym (ap (λ (x : FilerBooks P C R). tree x.layout (settled x)) begins.books);
        stamps = s.stamps ∙ sym (ap (λ (x : FilerBooks P C R). stamps x) begins.books);
        workers = subst (λ (x : FilerBooks P C R). RunOn setup x (changed_at (with_running (Some r)) w.workers i) x.lent) (sym begins.books)
            (run-changed setup b b.entries begun_books.lent w.workers b.lent i (Some r) (Some l) (λ j k there ne n pos lt d. refl)
            (sym at, begins.unchanged) s.workers);
        hands = subst (λ (x : FilerBooks P C R). HasHands (filer job told) x (batches_carried (changed_at (with_running (Some r)) w.workers i)))
            (sym begins.books)
            (subst (λ hs. HasHands (filer job told) b hs) (sym (carried-stay w.workers i (Some r))) s.hands);
        sound = subst (λ (x : FilerBooks P C R). IsSettled (filer job told) x) (sym begins.books) s.sound;
        opening = subst (λ (x : FilerBooks P C R). AreOpening x.layout setup.verifier x.first) (sym begins.books) s.opening;
        legal = subst (λ (x : FilerBooks P C R). Legal (filer job told).steps (parents x.layout) x.first x.entries) (sym begins.books) s.legal;
        calls = ap (λ (x : FilerBooks P C R). calls_served job x.entries) begins.books ∙ s.calls;
      }
