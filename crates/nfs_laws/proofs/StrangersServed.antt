-- While strangers alone call, a node of a server stays as it was: one call after another.
use Rattle.std.proofs.Common.{◌≡◌, ℕ, ◌+◌, Bool, true, false, cond, List, [], ◌∷◌, Option, Some, None, refl, sym, ap, ◌∙◌, subst}
use Rattle.std.specs.Prelude.{◌*◌, ◌==◌, nat_lt, slice_get, slice_set, slice_index_or, if◌then◌else◌}
use Rattle.std.specs.FinMap.{get}
use Rattle.nfs_model.specs.Types as model
use Rattle.nfs_model.specs.Memo.{Told}
use Rattle.nfs_model.specs.Parts.{most_ranges}
use Rattle.nfs_model.specs.Server.{Node, VolumeState, Server}
use Rattle.nfs_model.specs.Locate.{Effect, Fails, Tells, Changes, Located, locate}
use Rattle.nfs_model.specs.Replay.{FinishedCall, step_of, server_after}
use Rattle.nfs_model.specs.Serial.Access.{access_given}
use Rattle.nfs_model.specs.Serial.Lookup.{looked_up, lookup}
use Rattle.nfs_model.specs.Serial.Mount.{parts_below}
use Rattle.nfs_model.specs.Serial.Grow.{Grown, grown, grow_volume}
use Rattle.nfs_model.specs.Serial.Once.{told_before, remembering, remembered, or_told, once}
use Rattle.nfs_model.specs.Serial.Step.{Step, stay, placed, on, on_root, on_two, serve, serial}
use Rattle.nfs_laws.specs.Permissions.{IsStranger, IsAskedBy, AreAskedBy, node_in, node_of, IsAsWas}
use Rattle.nfs_laws.specs.lemmas.Effects.{Ends, ends_changes, permitted_ends, name_ends, tell_ends, getattr_ends, found_ends, readlink_ends, read_ends, readdir_ends}
use Rattle.nfs_laws.specs.lemmas.Effects.{readdirplus_ends, fsstat_ends, commit_ends, mount_below_ends}
use Rattle.nfs_laws.specs.lemmas.Served.{IsIn, located}
use Rattle.nfs_laws.specs.lemmas.Sizes.{All, set_all}
use Rattle.nfs_laws.proofs.Strangers.{Stays, Staying, staying, itself, setattr_stays, write_stays, create_stays, mkdir_stays, remove_stays, rmdir_stays}
use Rattle.nfs_laws.proofs.Strangers.{symlink_stays, mknod_stays, link_stays, rename_stays}

module _ (old : Node) (i q : ℕ) where
  -- the node of a fileid in a volume stays
  abbrev StaysIn : Server → Type 0
  StaysIn server = All (λ j v. j ≡ i → Stays old q v) server.volumes

  set_stays : (server : Server) (spare : List ℕ) (j : ℕ) (before after : VolumeState) → slice_get server.volumes j ≡ Some before
      → (Stays old q before → Stays old q after) → StaysIn server
      → StaysIn (record { spare = spare; volumes = slice_set server.volumes j after })
  set_stays server spare j before after at f h =
      set_all (λ k v. k ≡ i → Stays old q v) server.volumes j after (λ same. f (h j before at same)) h

  placed_stays : (server : Server) (absent j : ℕ) (before : VolumeState) (x : Effect) → slice_get server.volumes j ≡ Some before
      → Ends (Staying old q) before x → StaysIn server → StaysIn (placed server absent j x).server
  placed_stays server absent j before (Fails status) at f h = h
  placed_stays server absent j before (Tells answer) at f h = h
  placed_stays server absent j before (Changes answer after) at f h =
      set_stays server server.spare j before after at (ends_changes (Staying old q) before answer after f).1 h

  -- what is remembered is no node
  same_nodes : (before after : VolumeState) → after.nodes ≡ before.nodes → after.next ≡ before.next → Stays old q before → Stays old q after
  same_nodes before after e f h = record {
    node = subst (λ (o : Option Node). IsAsWas old o) (sym (ap (λ n. get n q) e)) h.node;
    below = ap (λ n. nat_lt q n) f ∙ h.below;
  }

  remembered_stays : (server : Server) (absent j : ℕ) (before : VolumeState) (who : model.Caller) (call : model.Call) (moment : model.Moment)
      (t : Option Told) (x : Effect) → slice_get server.volumes j ≡ Some before → Ends (Staying old q) before x → StaysIn server
      → StaysIn (placed server absent j (or_told before t (remembered who call moment before x))).server
  remembered_stays server absent j before who call moment (Some told) x at f h = h
  remembered_stays server absent j before who call moment None (Fails status) at f h = h
  remembered_stays server absent j before who call moment None (Tells answer) at f h =
      set_stays server server.spare j before (remembering who call moment answer before) at
      (same_nodes before (remembering who call moment answer before) refl refl) h
  remembered_stays server absent j before who call moment None (Changes answer after) at f h =
      set_stays server server.spare j before (remembering who call moment answer after) at
      (λ g. same_nodes after (remembering who call moment answer after) refl refl ((ends_changes (Staying old q) before answer after f).1 g)) h

  -- ---- what handles name

  on_stays : (server : Server) (absent : ℕ) (handle : List ℕ) (o : Option Located) (run : VolumeState → ℕ → Effect) → IsIn server handle o
      → ((v : VolumeState) (k : ℕ) → Ends (Staying old q) v (run v k)) → StaysIn server → StaysIn (on server absent o run).server
  on_stays server absent handle None run at f h = h
  on_stays server absent handle (Some l) run at f h =
      placed_stays server absent l.named.volume l.volume (run l.volume l.named.fileid) at.there (f l.volume l.named.fileid) h

  root_stays : (server : Server) (absent : ℕ) (handle : List ℕ) (o : Option Located) (run : VolumeState → ℕ → Effect) → IsIn server handle o
      → ((v : VolumeState) (k : ℕ) → Ends (Staying old q) v (run v k)) → StaysIn server → StaysIn (on_root server absent o run).server
  root_stays server absent handle None run at f h = h
  root_stays server absent handle (Some l) run at f h =
      placed_stays server absent l.named.volume l.volume (run l.volume l.named.fileid) at.there (f l.volume l.named.fileid) h

  once_stays : (server : Server) (absent : ℕ) (handle : List ℕ) (o : Option Located) (who : model.Caller) (call : model.Call) (moment : model.Moment)
      (run : VolumeState → ℕ → Effect) → IsIn server handle o → ((v : VolumeState) (k : ℕ) → Ends (Staying old q) v (run v k)) → StaysIn server
      → StaysIn (on server absent o (λ v k. once who call moment v (run v k))).server
  once_stays server absent handle None who call moment run at f h = h
  once_stays server absent handle (Some l) who call moment run at f h =
      remembered_stays server absent l.named.volume l.volume who call moment (told_before l.volume.memos who call moment)
      (run l.volume l.named.fileid) at.there (f l.volume l.named.fileid) h

  in_one : (b : Bool) (server : Server) (absent : ℕ) (step : Step) → StaysIn step.server → StaysIn server
      → StaysIn (cond b step (stay server (model.Failed model.CrossVolume absent))).server
  in_one true server absent step h g = h
  in_one false server absent step h g = g

  two_stays : (server : Server) (absent : ℕ) (handle : List ℕ) (from to : Option Located) (who : model.Caller) (call : model.Call)
      (moment : model.Moment) (run : VolumeState → ℕ → ℕ → Effect) → IsIn server handle from
      → ((v : VolumeState) (k l : ℕ) → Ends (Staying old q) v (run v k l)) → StaysIn server
      → StaysIn (on_two server absent from to (λ v k l. once who call moment v (run v k l))).server
  two_stays server absent handle None to who call moment run at f h = h
  two_stays server absent handle (Some from) None who call moment run at f h = h
  two_stays server absent handle (Some from) (Some to) who call moment run at f h =
      in_one (from.named.volume == to.named.volume) server absent _
      (remembered_stays server absent from.named.volume from.volume who call moment (told_before from.volume.memos who call moment)
      (run from.volume from.named.fileid to.named.fileid) at.there (f from.volume from.named.fileid to.named.fileid) h) h

  grow_cases : (a b c : Bool) (server : Server) (x y z : model.Answer) (g : Grown) → StaysIn g.server → StaysIn server
      → let r : Grown = if a then record { answer = x; server = server } else if b then record { answer = y; server = server }
      else if c then record { answer = z; server = server } else g in
      StaysIn r.server
  grow_cases true b c server x y z g h k = k
  grow_cases false true c server x y z g h k = k
  grow_cases false false true server x y z g h k = k
  grow_cases false false false server x y z g h k = h

  grow_stays : (server : Server) (j : ℕ) (o : Option VolumeState) (ranges : ℕ) → slice_get server.volumes j ≡ o → StaysIn server
      → StaysIn (grow_volume server j o ranges).server
  grow_stays server j None ranges at h = h
  grow_stays server j (Some v) ranges at h =
      grow_cases (ranges == 0) (nat_lt (v.range_blocks * most_ranges) (v.total + v.range_blocks * ranges))
      (nat_lt (slice_index_or server.spare v.aggregate 0) ranges) server (model.Failed model.Invalid 0) (model.Failed model.TooBig 0)
      (model.Failed model.NoSpace 0)
      (record { answer = model.GrowDone (v.total + v.range_blocks * ranges); server = grown server j v ranges })
      (set_stays server (grown server j v ranges).spare j v (record v { total = v.total + v.range_blocks * ranges }) at
      (same_nodes v (record v { total = v.total + v.range_blocks * ranges }) refl refl) h) h

  -- ---- calls

  module _ (who : model.Caller) (s : IsStranger old who) (moment : model.Moment) where
    serve_stays : (server : Server) (call : model.Call) → StaysIn server → StaysIn (serve server call who moment).server
    serve_stays server model.Null h = h
    serve_stays server (model.Getattr handle) h =
        on_stays server _ handle _ _ (located server handle) (getattr_ends (Staying old q) (staying old q)) h
    serve_stays server (model.Setattr handle set guard) h =
        once_stays server _ handle (locate server handle) who (model.Setattr handle set guard) moment _ (located server handle)
        (setattr_stays old q who s handle set guard moment) h
    serve_stays server (model.Lookup directory name) h =
        on_stays server _ directory _ _ (located server directory) (permitted_ends (Staying old q) who (model.Lookup directory name) _
        (λ v k. name_ends (Staying old q) name moment lookup v k (λ n e. found_ends (Staying old q) (staying old q) n (looked_up n)))) h
    serve_stays server (model.CheckAccess handle asked) h =
        on_stays server _ handle _ _ (located server handle)
        (λ v k. tell_ends (Staying old q) (staying old q) (λ object. model.AccessDone object (access_given who asked object)) v k) h
    serve_stays server (model.Readlink handle) h =
        on_stays server _ handle _ _ (located server handle) (readlink_ends (Staying old q) (staying old q)) h
    serve_stays server (model.Read handle offset count) h =
        on_stays server _ handle _ _ (located server handle)
        (permitted_ends (Staying old q) who (model.Read handle offset count) _ (read_ends (Staying old q) (staying old q) offset count)) h
    serve_stays server (model.Write handle offset count written) h =
        on_stays server _ handle _ _ (located server handle)
        (write_stays old q who s handle (record { caller = who; offset = offset; count = count; written = written; moment = moment })) h
    serve_stays server (model.Create directory name mode) h =
        once_stays server _ directory (locate server directory) who (model.Create directory name mode) moment _ (located server directory)
        (create_stays old q who s directory name mode moment) h
    serve_stays server (model.Mkdir directory name set) h =
        once_stays server _ directory (locate server directory) who (model.Mkdir directory name set) moment _ (located server directory)
        (mkdir_stays old q who s directory name set moment) h
    serve_stays server (model.Symlink directory name set text) h =
        once_stays server _ directory (locate server directory) who (model.Symlink directory name set text) moment _ (located server directory)
        (symlink_stays old q who s directory name set text moment) h
    serve_stays server (model.Mknod directory name kind set) h =
        once_stays server _ directory (locate server directory) who (model.Mknod directory name kind set) moment _ (located server directory)
        (mknod_stays old q who s directory name kind set moment) h
    serve_stays server (model.Remove directory name) h =
        once_stays server _ directory (locate server directory) who (model.Remove directory name) moment _ (located server directory)
        (remove_stays old q who s directory name moment) h
    serve_stays server (model.Rmdir directory name) h =
        once_stays server _ directory (locate server directory) who (model.Rmdir directory name) moment _ (located server directory)
        (rmdir_stays old q who s directory name moment) h
    serve_stays server (model.Rename from from_name to to_name) h =
        two_stays server _ from (locate server from) (locate server to) who (model.Rename from from_name to to_name) moment _ (located server from)
        (rename_stays old q who s from from_name to to_name moment) h
    serve_stays server (model.Link handle directory name) h =
        two_stays server _ handle (locate server handle) (locate server directory) who (model.Link handle directory name) moment _ (located server handle)
        (link_stays old q who s handle directory name moment) h
    serve_stays server (model.Readdir directory cookie verifier count) h =
        on_stays server _ directory _ _ (located server directory) (permitted_ends (Staying old q) who (model.Readdir directory cookie verifier count) _
        (readdir_ends (Staying old q) (staying old q) cookie verifier count)) h
    serve_stays server (model.Readdirplus directory cookie verifier names_count count) h =
        on_stays server _ directory _ _ (located server directory)
        (permitted_ends (Staying old q) who (model.Readdirplus directory cookie verifier names_count count) _
        (readdirplus_ends (Staying old q) (staying old q) cookie verifier names_count count who)) h
    serve_stays server (model.Fsstat handle) h =
        on_stays server _ handle _ _ (located server handle) (fsstat_ends (Staying old q) (staying old q)) h
    serve_stays server (model.Fsinfo handle) h =
        on_stays server _ handle _ _ (located server handle)
        (λ v k. tell_ends (Staying old q) (staying old q) (λ object. model.FsinfoDone object v.largest) v k) h
    serve_stays server (model.Pathconf handle) h =
        on_stays server _ handle _ _ (located server handle)
        (λ v k. tell_ends (Staying old q) (staying old q) (λ object. model.PathconfDone object who.checked) v k) h
    serve_stays server (model.Commit handle) h =
        on_stays server _ handle _ _ (located server handle)
        (permitted_ends (Staying old q) who (model.Commit handle) _ (commit_ends (Staying old q) (staying old q))) h
    serve_stays server model.Census h = h
    serve_stays server (model.Grow volume ranges) h = grow_stays server volume (slice_get server.volumes volume) ranges refl h
    serve_stays server model.Stop h = h
    serve_stays server (model.Mount call) h = h
    serve_stays server (model.MountBelow root path) h =
        root_stays server _ root _ _ (located server root) (mount_below_ends (Staying old q) (staying old q) (parts_below path) who) h

  serial_stays : (server : Server) (asked : model.Asked) (moment : model.Moment) (starved : Bool) → IsAskedBy (IsStranger old) asked → StaysIn server
      → StaysIn (serial server asked moment starved).server
  serial_stays server asked moment true s h = h
  serial_stays server (model.Ask call who) moment false s h = serve_stays who s moment server call h
  serial_stays server (model.Refused reply) moment false s h = h
  serial_stays server model.Undecoded moment false s h = h

  after_stays : (calls : List FinishedCall) (server : Server) → AreAskedBy (IsStranger old) calls → StaysIn server → StaysIn (server_after server calls)
  after_stays [] server s h = h
  after_stays (e ∷ es) server s h =
      after_stays es (step_of server e).server s.1 (serial_stays server e.asked e.moment e.starved s.0 h)

  -- ---- from the beginning to the end

  at_first : (server : Server) (volume : VolumeState) → slice_get server.volumes i ≡ Some volume → get volume.nodes q ≡ Some old
      → nat_lt q volume.next ≡ true → StaysIn server
  at_first server volume at there below j v e same =
      let is : volume ≡ v = let f : Some volume ≡ Some v = sym at ∙ ap (λ k. slice_get server.volumes k) (sym same) ∙ e in cc in
      subst (λ (w : VolumeState). Stays old q w) is (record { node = subst (λ (o : Option Node). IsAsWas old o) (sym there) (itself old); below = below })

  at_last : (o : Option VolumeState) → ((v : VolumeState) → o ≡ Some v → Stays old q v) → IsAsWas old (node_in o q)
  at_last None f = tt
  at_last (Some v) f = (f v refl).node

  pub left_as_it_was : (server : Server) (volume : VolumeState) (calls : List FinishedCall) → slice_get server.volumes i ≡ Some volume
      → get volume.nodes q ≡ Some old → nat_lt q volume.next ≡ true → AreAskedBy (IsStranger old) calls
      → IsAsWas old (node_of (server_after server calls) i q)
  left_as_it_was server volume calls at there below s =
      at_last (slice_get (server_after server calls).volumes i)
      (λ v e. after_stays calls server s (at_first server volume at there below) i v e refl)
