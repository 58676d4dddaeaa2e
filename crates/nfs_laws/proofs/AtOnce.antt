-- A call without a home affinity is answered at once: it reads no state and changes nothing.
use Rattle.std.proofs.Common.{◌≡◌, ℕ, zero, suc, Bool, true, false, List, [], ◌∷◌, length, Option, Some, None, is_some, slice_get, refl, sym, ap, ◌∙◌, subst}
use Rattle.std.proofs.Common.{min, arith, ◌==◌, ◌&&◌, ◌<◌, if◌then◌else◌}
use Rattle.std.proofs.lemmas.Bool.{ltb-true}
use Rattle.nfs_model.specs.Types.{Moment, Caller, Call, Null, Rename, Link, Census, Grow, Stop, Mount, MountBelow, Failed, CrossVolume, BadHandle}
use Rattle.nfs_model.specs.Types.{NoEntry, Success}
use Rattle.nfs_model.specs.Route.{Route, AtOnce, OfNames, OfBytesRead, OfBytesWritten, OfTwoHandles, OfVolume, OfAggregate, OfEverything, handle_on, route}
use Rattle.nfs_model.specs.Tree.{Layout, VolumeLayout, Affinity, Logical}
use Rattle.nfs_model.specs.Server.{VolumeState, Server, Named, named_read, handle_of, most_bytes}
use Rattle.nfs_model.specs.Home.{home, home_of_route, named_by, logical_home, volume_home, bytes_home, grow_home, rename_home}
use Rattle.nfs_model.specs.Locate.{Effect, Located, located_in, located_by}
use Rattle.nfs_model.specs.Serial.Step.{Step, serve, on, on_root, on_two, placed, stay}
use Rattle.nfs_model.specs.Serial.AtOnce.{answer_of_two, answer_without_home}
use Rattle.nfs_model.specs.Serial.Grow.{Grown, grow_volume}
use Rattle.nfs_model.specs.Serial.Mount.{mount}

-- ---- one handle

no_logical : (h : Option Named) → logical_home h ≡ None → h ≡ None
no_logical None e = refl
no_logical (Some h) e = absurd cc

no_volume : (h : Option Named) → volume_home h ≡ None → h ≡ None
no_volume None e = refl
no_volume (Some h) e = absurd cc

in_a_span : (b : Bool) (x y : Affinity) → (if b then Some x else Some y) ≡ None → ⊥
in_a_span true x y e = cc
in_a_span false x y e = cc

no_bytes : (layout : Layout) (h : Option Named) (offset n : ℕ) → bytes_home layout h offset n ≡ None → h ≡ None
no_bytes layout None offset n e = refl
no_bytes layout (Some h) offset n e = absurd (in_a_span _ _ _ e)

abbrev IsOnOneHandle : Route → Type 0
IsOnOneHandle AtOnce = ⊥
IsOnOneHandle (OfTwoHandles from to) = ⊥
IsOnOneHandle (OfAggregate volume) = ⊥
IsOnOneHandle OfEverything = ⊥
IsOnOneHandle r = Unit {0}

-- a route on one handle has no home exactly when the handle is bad
bad_handle : (layout : Layout) (r : Route) → IsOnOneHandle r → home_of_route layout r ≡ None → named_by layout (handle_on r) ≡ None
bad_handle layout (OfNames handle) one e = no_logical (named_by layout handle) e
bad_handle layout (OfBytesRead handle offset count) one e = no_bytes layout (named_by layout handle) offset (min count most_bytes) e
bad_handle layout (OfBytesWritten handle offset count) one e = no_bytes layout (named_by layout handle) offset (min count most_bytes) e
bad_handle layout (OfVolume handle) one e = no_volume (named_by layout handle) e
bad_handle layout r one e = absurd one

bad_answered : (server : Server) (absent : ℕ) (run : VolumeState → ℕ → Effect) (h : Option Named) → h ≡ None
    → on server absent (located_by server.volumes h) run ≡ stay server (Failed BadHandle absent)
bad_answered server absent run None e = refl
bad_answered server absent run (Some h) e = absurd cc

-- MNT below the root of no volume
no_root_answered : (server : Server) (absent : ℕ) (run : VolumeState → ℕ → Effect) (h : Option Named) → h ≡ None
    → on_root server absent (located_by server.volumes h) run ≡ stay server (Failed NoEntry absent)
no_root_answered server absent run None e = refl
no_root_answered server absent run (Some h) e = absurd cc

-- ---- two handles

-- a good handle names a volume that is there
record IsGood (volumes : List VolumeState) (h : Named) : Type 0 where
  volume : VolumeState
  there : slice_get volumes h.volume ≡ Some volume

there_below : (volumes : List VolumeState) (i : ℕ) → i < length volumes → (v : VolumeState) × (slice_get volumes i ≡ Some v)
there_below [] i l = absurd (omega (arith, l))
there_below (v ∷ volumes) zero l = (v, refl)
there_below (v ∷ volumes) (suc i) l = there_below volumes i (omega (arith, l))

good_if : (b : Bool) (h k : Named) → (if b then Some h else None) ≡ Some k → (b ≡ true) × (h ≡ k)
good_if true h k e = (refl, cc)
good_if false h k e = absurd cc

both_right : (a b : Bool) → (a && b) ≡ true → b ≡ true
both_right true b e = e
both_right false b e = absurd cc

good : (volumes : List VolumeState) (bytes : List ℕ) (h : Named) → handle_of (length volumes) bytes ≡ Some h → IsGood volumes h
good volumes bytes h e =
    let is = good_if _ (named_read bytes) h e in
    let below : (named_read bytes).volume < length volumes = ltb-true _ _ (both_right _ _ is.0) in
    let found = there_below volumes (named_read bytes).volume below in
    record { volume = found.0; there = ap (λ (k : Named). slice_get volumes k.volume) (sym is.1) ∙ found.1 }

module _ (server : Server) (absent : ℕ) (run : VolumeState → ℕ → ℕ → Effect) where
  two_in_one : (b : Bool) (a : Affinity) (s : Step) → (if b then Some a else None) ≡ None
      → (if b then s else stay server (Failed CrossVolume absent)) ≡ stay server (Failed CrossVolume absent)
  two_in_one true a s e = absurd cc
  two_in_one false a s e = refl

  one_answered : (from : Named) (l : Option Located) → on_two server absent l None run ≡ stay server (Failed BadHandle absent)
  one_answered from None = refl
  one_answered from (Some l) = refl

  both_answered : (from to : Named) → IsGood server.volumes from → IsGood server.volumes to → rename_home (Some from) (Some to) ≡ None
      → on_two server absent (located_in from (slice_get server.volumes from.volume)) (located_in to (slice_get server.volumes to.volume)) run ≡ stay server
      (Failed CrossVolume absent)
  both_answered from to f t e =
      ap (λ (o : Option VolumeState). on_two server absent (located_in from o) (located_in to (slice_get server.volumes to.volume)) run) f.there
      ∙ ap (λ (o : Option VolumeState). on_two server absent (located_in from (Some f.volume)) (located_in to o) run) t.there
      ∙ two_in_one (from.volume == to.volume) (Logical from.volume) (placed server absent from.volume (run f.volume from.fileid to.fileid)) e

  two_answered : (from to : Option Named) → ((h : Named) → from ≡ Some h → IsGood server.volumes h) → ((h : Named) → to ≡ Some h → IsGood server.volumes h)
      → rename_home from to ≡ None → on_two server absent (located_by server.volumes from) (located_by server.volumes to) run ≡ stay server
      (answer_of_two absent from to)
  two_answered None to f t e = refl
  two_answered (Some from) None f t e = one_answered from (located_in from (slice_get server.volumes from.volume))
  two_answered (Some from) (Some to) f t e = both_answered from to (f from refl) (t to refl) e

grow_answered : (server : Server) (i ranges : ℕ) (l : Option VolumeLayout) (v : Option VolumeState) → is_some l ≡ is_some v → grow_home l ≡ None
    → grow_volume server i v ranges ≡ record { answer = Failed NoEntry 0; server = server }
grow_answered server i ranges l None same e = refl
grow_answered server i ranges None (Some v) same e = absurd cc
grow_answered server i ranges (Some l) (Some v) same e = absurd cc

same_there : {X Y : Type 0} (xs : List X) (ys : List Y) (i : ℕ) → length xs ≡ length ys → is_some (slice_get xs i) ≡ is_some (slice_get ys i)
same_there [] [] i e = refl
same_there [] (y ∷ ys) i e = absurd (omega arith)
same_there (x ∷ xs) [] i e = absurd (omega arith)
same_there (x ∷ xs) (y ∷ ys) zero e = refl
same_there (x ∷ xs) (y ∷ ys) (suc i) e = same_there xs ys i (omega arith)

module _ (layout : Layout) (server : Server) (caller : Caller) (moment : Moment) where
  bad_there : (r : Route) → IsOnOneHandle r → length layout.volumes ≡ length server.volumes → home_of_route layout r ≡ None
      → handle_of (length server.volumes) (handle_on r) ≡ None
  bad_there r one volumes e = subst (λ n. handle_of n (handle_on r) ≡ None) volumes (bad_handle layout r one e)

  -- A call without a home affinity reads no state and changes nothing.
  pub without_home_stays : (call : Call) → length layout.volumes ≡ length server.volumes → home layout call ≡ None
      → serve server call caller moment ≡ stay server (answer_without_home layout call)
  without_home_stays Null n e = refl
  without_home_stays (Rename from from_name to to_name) n e =
      two_answered server 4 _ (handle_of (length server.volumes) from) (handle_of (length server.volumes) to)
      (good server.volumes from) (good server.volumes to)
      (subst (λ k. rename_home (handle_of k from) (handle_of k to) ≡ None) n e)
      ∙ ap (λ k. stay server (answer_of_two 4 (handle_of k from) (handle_of k to))) (sym n)
  without_home_stays (Link handle directory name) n e =
      two_answered server 3 _ (handle_of (length server.volumes) handle) (handle_of (length server.volumes) directory)
      (good server.volumes handle) (good server.volumes directory)
      (subst (λ k. rename_home (handle_of k handle) (handle_of k directory) ≡ None) n e)
      ∙ ap (λ k. stay server (answer_of_two 3 (handle_of k handle) (handle_of k directory))) (sym n)
  without_home_stays Census n e = absurd cc
  without_home_stays Stop n e = refl
  without_home_stays (Mount call) n e = ap (λ k. stay server (mount k call)) (sym n)
  without_home_stays (MountBelow root path) n e =
      no_root_answered server _ _ (handle_of (length server.volumes) root) (bad_there (route (MountBelow root path)) tt n e)
  without_home_stays (Grow volume ranges) n e =
      ap (λ (g : Grown). record { reply = Success g.answer; server = g.server })
      (grow_answered server volume ranges (slice_get layout.volumes volume) (slice_get server.volumes volume)
      (same_there layout.volumes server.volumes volume n) e)
  without_home_stays call n e =
      bad_answered server _ _ (handle_of (length server.volumes) (handle_on (route call))) (bad_there (route call) tt n e)
