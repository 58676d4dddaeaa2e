-- What is done on one volume is done on all that is stored.
use Rattle.std.proofs.Common.{◌≡◌, ℕ, zero, suc, ◌<◌, Bool, true, false, IsTrue, List, [], ◌∷◌, length, map, Some, refl, sym, ap, ◌∙◌, subst, arith}
use Rattle.std.specs.Prelude.{slice_get, slice_set}
use Rattle.std.proofs.lemmas.List.{length-map}
use Rattle.nfs_model.specs.Types.{Call, Write, Grow}
use Rattle.nfs_model.specs.Types.{Caller, Moment, Reply, Success}
use Rattle.nfs_model.specs.Tree.{Layout}
use Rattle.nfs_model.specs.Server as servers
use Rattle.nfs_model.specs.Server.{Named, Server, handle_of, with_volume}
use Rattle.nfs_model.specs.Locate.{Effect, Fails, Tells, Changes, located_in, located_by, locate}
use Rattle.nfs_model.specs.Serial.Absent.{absent_parts}
use Rattle.nfs_model.specs.Serial.Step.{Step, placed, serve}
use Rattle.nfs_model.specs.Serial.Starve.{takes_memory_to_reply}
use Rattle.nfs_model.specs.Work.{Store, Works, ready_at, move_if, parts_at, volume_above, move_of_call, changed_volume, PartsAt}
use Rattle.filer_state.specs.state.Contents.{VolumeContents, FilerContents, volume_at}
use Rattle.filer_state.specs.state.Tree.{volume_of, server_of}
use Rattle.filer_state.specs.state.Partition.{parts_of, all_parts, stored}
use Rattle.filer_state.specs.state.Lenses.{with_contents}
use Rattle.filer_state.specs.state.Promises.{IsLaidOut}
use Rattle.filer_state.specs.state.Jobs.{InnerCall, Serve, Inner, JobReply, Replied, Took, Gave, Surveyed, inner_node, inner_volume}
use Rattle.filer_state.specs.state.Deeds.{stored_all, task_at, outcome_of, DoesJob}
use Rattle.filer_state.specs.state.Calls.{VolumeCall, handle_in, located_on, answer_of, volume_left, answer_on, move_of_located, move_on, WorksOn, ServesOn}
use Rattle.filer_state.specs.state.Calls.{DoesInnerOn, finished_as, IsCallOn}
use Rattle.filer_state.specs.laws.lemmas.Each.{get-there}

-- ---- one place of a list

module _ {A : Type 0} where
  set-same : (xs : List A) (i : ℕ) (x : A) → slice_get xs i ≡ Some x → slice_set xs i x ≡ xs
  set-same [] i x e = refl
  set-same (y ∷ xs) zero x e = let same : y ≡ x = cc in ap (λ z. z ∷ xs) (sym same)
  set-same (y ∷ xs) (suc i) x e = ap (λ rest. y ∷ rest) (set-same xs i x e)

  set-here : (xs : List A) (i : ℕ) (x : A) → i < length xs → slice_get (slice_set xs i x) i ≡ Some x
  set-here [] i x less = absurd (omega arith)
  set-here (y ∷ xs) zero x less = refl
  set-here (y ∷ xs) (suc i) x less = set-here xs i x (omega arith)

  map-set : {B : Type 0} (f : A → B) (xs : List A) (i : ℕ) (x : A) → map f (slice_set xs i x) ≡ slice_set (map f xs) i (f x)
  map-set f [] i x = refl
  map-set f (y ∷ xs) zero x = refl
  map-set f (y ∷ xs) (suc i) x = ap (λ rest. f y ∷ rest) (map-set f xs i x)

  map-get : {B : Type 0} (f : A → B) (xs : List A) (i : ℕ) (x : A) → slice_get xs i ≡ Some x → slice_get (map f xs) i ≡ Some (f x)
  map-get f [] i x e = absurd cc
  map-get f (y ∷ xs) zero x e = let same : y ≡ x = cc in ap (λ z. Some (f z)) same
  map-get f (y ∷ xs) (suc i) x e = map-get f xs i x e

-- ---- a volume of all that is stored

module _ (c : FilerContents) (v : ℕ) (p : VolumeContents) (there : volume_at c v ≡ Some p) where
  server-there : slice_get (server_of c).volumes v ≡ Some (volume_of p)
  server-there = map-get volume_of c.volumes v p there

  parts-there : slice_get (all_parts c) v ≡ Some (parts_of p)
  parts-there = map-get parts_of c.volumes v p there

  contents-stay : with_contents c v p ≡ c
  contents-stay = λ j. record c { volumes = set-same c.volumes v p there j }

  server-set : (after : VolumeContents) → server_of (with_contents c v after) ≡ with_volume (server_of c) v (volume_of after)
  server-set after = λ j. record (server_of c) { volumes = map-set volume_of c.volumes v after j }

  parts-set : (after : VolumeContents) → all_parts (with_contents c v after) ≡ slice_set (all_parts c) v (parts_of after)
  parts-set after = map-set parts_of c.volumes v after

  server-stays : (after : VolumeContents) → volume_of after ≡ volume_of p → server_of (with_contents c v after) ≡ server_of c
  server-stays after same = server-set after
      ∙ (λ j. record (server_of c) {
        volumes = (ap (slice_set (server_of c).volumes v) same
            ∙ set-same (server_of c).volumes v (volume_of p) server-there) j;
      })

  contents-here : (after : VolumeContents) → volume_at (with_contents c v after) v ≡ Some after
  contents-here after = set-here c.volumes v after (get-there c.volumes v p there)

-- ---- inner calls

pub inner-lift : (layout : Layout) (call : InnerCall) (reply : JobReply) (c : FilerContents) (p after : VolumeContents)
    → volume_at c (inner_volume call) ≡ Some p → DoesInnerOn call p reply after
    → DoesJob layout (inner_node call) (Inner call) c reply (with_contents c (inner_volume call) after)
inner-lift layout call reply c p after there does = record {
  under = refl;
  server = server-stays c (inner_volume call) p there after does.0;
  before = p;
  after = after;
  volume_before = there;
  volume_after = contents-here c (inner_volume call) p there after;
  moves = does.1;
  others = parts-set c (inner_volume call) p there after;
}

-- ---- calls on a handle

placed-reply : (server : Server) (absent v : ℕ) (e : Effect) → (placed server absent v e).reply ≡ Success (answer_of absent e)
placed-reply server absent v (Fails status) = refl
placed-reply server absent v (Tells answer) = refl
placed-reply server absent v (Changes answer volume) = refl

placed-server : (server : Server) (absent v : ℕ) (e : Effect) (old : servers.VolumeState) → slice_get server.volumes v ≡ Some old
    → (placed server absent v e).server ≡ with_volume server v (volume_left old e)
placed-server server absent v (Fails status) old there = λ j. record server { volumes = sym (set-same server.volumes v old there) j }
placed-server server absent v (Tells answer) old there = λ j. record server { volumes = sym (set-same server.volumes v old there) j }
placed-server server absent v (Changes answer volume) old there = refl

-- where a call moves, by what its handle names and by the parts of its volume
move-by : (store : Store) (q : VolumeCall) (p : VolumeContents) → locate store.server (handle_in q.call) ≡ Some (located_on q p)
    → parts_at store.parts (volume_above q.node) ≡ Some (parts_of p) → move_of_call store q.node q.call q.caller ≡ move_on q p
move-by store q p located parts = by q.call located
  where
    by : (call : Call) → locate store.server (handle_in call) ≡ Some (located_on q p) → move_of_call store q.node call q.caller ≡ move_of_located call q p
    by (Write handle offset count written) e = λ j. move_if (parts j) q.node (ready_at (e j) q.caller offset count (length written))
    by call e = refl

-- a call with a handle isn't GROW, so it changes the parts of the volume above its node
changes-above : (volumes : ℕ) (q : VolumeCall) (named : Named) → handle_of volumes (handle_in q.call) ≡ Some named
    → changed_volume q.call q.node ≡ volume_above q.node
changes-above volumes q named good = by q.call good
  where
    by : (call : Call) → handle_of volumes (handle_in call) ≡ Some named → changed_volume call q.node ≡ volume_above q.node
    by (Grow volume ranges) e = absurd cc
    by call e = refl

module _ (layout : Layout) (v : ℕ) (q : VolumeCall) (connection number xid : ℕ) (caller : Caller) (moment : Moment)
    (is : IsCallOn layout v q caller moment)
    (c : FilerContents) (laid : IsLaidOut layout c) (p : VolumeContents) (there : volume_at c v ≡ Some p) (numbered : p.number ≡ v) where
  count : length (server_of c).volumes ≡ length layout.volumes
  count = length-map c.volumes volume_of ∙ laid.volumes

  located : locate (server_of c) (handle_in q.call) ≡ Some (located_on q p)
  located =
      ap (λ (n : ℕ). located_by (server_of c).volumes (handle_of n (handle_in q.call))) count
      ∙ ap (located_by (server_of c).volumes) is.good
      ∙ ap (located_in (record { volume = v; fileid = q.fileid })) (server-there c v p there)
      ∙ ap (λ (n : ℕ). Some (record { named = record { volume = n; fileid = q.fileid }; volume = volume_of p })) (sym numbered)

  step : serve (server_of c) q.call caller moment ≡ placed (server_of c) (absent_parts q.call) v (q.run (volume_of p))
  step = is.served (server_of c) (volume_of p) count (server-there c v p there)

  pub stays : move_of_call (stored_all c) q.node q.call caller ≡ move_on q p
  stays = ap (move_of_call (stored_all c) q.node q.call) (sym is.called) ∙ move-by (stored_all c) q p located (ap (parts_at (all_parts c)) is.under ∙ parts-there c v p there)

  told : (serve (server_of c) q.call caller moment).reply ≡ Success (answer_on q p)
  told = ap (λ (s : Step). s.reply) step ∙ placed-reply (server_of c) (absent_parts q.call) v (q.run (volume_of p))

  works-by : (starved : Bool) (reply : Reply) (after : VolumeContents) → WorksOn q p (outcome_of starved reply) after
      → Works (task_at (finished_as q connection number xid caller moment starved) q.node) (stored_all c) (outcome_of starved reply)
      (stored_all (with_contents c v after))
  works-by true reply after w = (
    stays ∙ w.0,
    subst IsTrue (sym (ap (takes_memory_to_reply (server_of c) q.call) told)) (w.1 (server_of c) located),
    ap stored_all (ap (with_contents c v) w.2 ∙ contents-stay c v p there),
  )
  works-by false reply after w = (
    stays ∙ w.0,
    w.1 ∙ sym told,
    server-set c v p there after ∙ ap (with_volume (server_of c) v) w.2
        ∙ sym (placed-server (server_of c) (absent_parts q.call) v (q.run (volume_of p)) (volume_of p) (server-there c v p there))
        ∙ ap (λ (s : Step). s.server) (sym step),
    subst (λ o. PartsAt o q.call q.node (stored_all c) (stored_all (with_contents c v after))) (sym (changes-above
        (length layout.volumes) q _ is.good ∙ is.under)) (record {
          before = stored p;
          after = stored after;
          volume_before = server-there c v p there;
          volume_after = map-get volume_of (with_contents c v after).volumes v after (contents-here c v p there after);
          parts_before = parts-there c v p there;
          change = w.3;
          parts = parts-set c v p there after;
        }),
  )

  -- an entry of the call on its volume is one of all that is stored
  pub serve-lift : (starved : Bool) (reply : JobReply) (after : VolumeContents) → ServesOn q starved p reply after
      → DoesJob layout q.node (Serve (finished_as q connection number xid caller moment starved)) c reply (with_contents c v after)
  serve-lift starved (Replied reply) after does = record {
    affinity = refl;
    tried = is.tried;
    works = works-by starved reply after does.0;
    starved = λ e. (does.1 e, unchanged starved reply after e does.0);
  }
    where
      unchanged : (starved : Bool) (reply : Reply) (after : VolumeContents) → starved ≡ true → WorksOn q p (outcome_of starved reply) after
          → with_contents c v after ≡ c
      unchanged true reply after e w = ap (with_contents c v) w.2 ∙ contents-stay c v p there
      unchanged false reply after e w = absurd cc
  serve-lift starved (Took hand) after does = absurd does
  serve-lift starved (Gave hand) after does = absurd does
  serve-lift starved (Surveyed counts) after does = absurd does
