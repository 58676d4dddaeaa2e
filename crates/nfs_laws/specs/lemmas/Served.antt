-- A fact of what a call comes to on the serial server, from one for each way that it can end.
use Rattle.std.proofs.Common.{◌≡◌, ℕ, Bool, true, false, cond, List, [], Option, Some, None, refl, sym, ap, ◌∙◌, length}
use Rattle.std.specs.Prelude.{◌==◌, ◌+◌, ◌*◌, ◌&&◌, is_some, nat_lt, slice_get, slice_index_or, if◌then◌else◌}
use Rattle.std.specs.Int.{w32, from_be_bytes}
use Rattle.std.specs.Prelude.{take}
use Rattle.nfs_model.specs.Types as model
use Rattle.nfs_model.specs.Memo.{Change}
use Rattle.nfs_model.specs.Server.{VolumeState, Server, Named, named_read}
use Rattle.nfs_model.specs.Locate.{Effect, Located, located_in, located_by, locate}
use Rattle.nfs_model.specs.Parts.{most_ranges}
use Rattle.nfs_model.specs.Serial.Once.{change_of, once}
use Rattle.nfs_model.specs.Serial.Access.{access_given}
use Rattle.nfs_model.specs.Serial.Lookup.{looked_up, lookup}
use Rattle.nfs_model.specs.Serial.Create.{create}
use Rattle.nfs_model.specs.Serial.Mkdir.{mkdir}
use Rattle.nfs_model.specs.Serial.Symlink.{symlink}
use Rattle.nfs_model.specs.Serial.Mknod.{mknod}
use Rattle.nfs_model.specs.Serial.Remove.{remove_name}
use Rattle.nfs_model.specs.Serial.Rmdir.{rmdir}
use Rattle.nfs_model.specs.Serial.Mount.{parts_below}
use Rattle.nfs_model.specs.Serial.Grow.{Grown, grown, grow_volume}
use Rattle.nfs_model.specs.Serial.Step.{Step, stay, placed, on, on_root, on_two, serve}
use Rattle.nfs_laws.specs.Repeated.{is_success, volume_of}
use Rattle.nfs_laws.specs.lemmas.Effects.{Ends, Keeping, Telling, keeping, permitted_ends, permitted_two_ends, name_ends, tell_ends, getattr_ends, found_ends, readlink_ends, read_ends, write_ends, setattr_ends}
use Rattle.nfs_laws.specs.lemmas.Effects.{create_ends, mkdir_ends, symlink_ends, mknod_ends, remove_ends, rmdir_ends, rename_ends, link_ends, readdir_ends, readdirplus_ends, fsstat_ends}
use Rattle.nfs_laws.specs.lemmas.Effects.{commit_ends, mount_below_ends}

-- ---- handles

-- a handle is good
abbrev pub names_one : Server → List ℕ → Bool
names_one server handle = is_some (locate server handle)

-- the handles of a call whose reply is remembered are good, and of one volume
abbrev pub is_good : Server → model.Call → Bool
is_good server (model.Setattr handle set guard) = names_one server handle
is_good server (model.Create directory name mode) = names_one server directory
is_good server (model.Mkdir directory name set) = names_one server directory
is_good server (model.Symlink directory name set text) = names_one server directory
is_good server (model.Mknod directory name kind set) = names_one server directory
is_good server (model.Remove directory name) = names_one server directory
is_good server (model.Rmdir directory name) = names_one server directory
is_good server (model.Rename from from_name to to_name) =
    names_one server from && (names_one server to && ((named_read from).volume == (named_read to).volume))
is_good server (model.Link handle directory name) =
    names_one server handle && (names_one server directory && ((named_read handle).volume == (named_read directory).volume))
is_good server call = false

-- what is located is a volume of the server, which the handle names
pub record IsAt (server : Server) (handle : List ℕ) (l : Located) : Type 0 where
  pub named : l.named ≡ named_read handle
  pub there : slice_get server.volumes l.named.volume ≡ Some l.volume

abbrev pub IsIn : Server → List ℕ → Option Located → Type 0
IsIn server handle None = Unit {0}
IsIn server handle (Some l) = IsAt server handle l

in_place : (server : Server) (handle : List ℕ) (named : Named) (o : Option VolumeState) → named ≡ named_read handle
    → slice_get server.volumes named.volume ≡ o → IsIn server handle (located_in named o)
in_place server handle named None same e = tt
in_place server handle named (Some volume) same e = record { named = same; there = e }

good_or_not : (server : Server) (handle : List ℕ) (b : Bool) → IsIn server handle (located_by server.volumes (cond b (Some (named_read handle)) None))
good_or_not server handle true = in_place server handle (named_read handle) (slice_get server.volumes (named_read handle).volume) refl refl
good_or_not server handle false = tt

pub located : (server : Server) (handle : List ℕ) → IsIn server handle (locate server handle)
located server handle = good_or_not server handle ((length handle == 12) && nat_lt (from_be_bytes w32 (take 4 handle)) (length server.volumes))

-- ---- the volume that a call changes

-- the first handle
abbrev pub first_handle : model.Call → List ℕ
first_handle (model.Setattr handle set guard) = handle
first_handle (model.Create directory name mode) = directory
first_handle (model.Mkdir directory name set) = directory
first_handle (model.Symlink directory name set text) = directory
first_handle (model.Mknod directory name kind set) = directory
first_handle (model.Remove directory name) = directory
first_handle (model.Rmdir directory name) = directory
first_handle (model.Rename from from_name to to_name) = from
first_handle (model.Link handle directory name) = handle
first_handle call = []

of_case : (b : Bool) (x change : Change) → cond b (Some x) None ≡ Some change → volume_of change ≡ volume_of x
of_case true x change e = let same : x ≡ change = cc in ap (λ (c : Change). volume_of c) (sym same)
of_case false x change e = absurd cc

pub volume_first : (call : model.Call) (change : Change) → change_of call ≡ Some change → volume_of change ≡ (named_read (first_handle call)).volume
volume_first (model.Setattr handle set guard) change e = of_case _ _ change e
volume_first (model.Create directory name mode) change e = of_case _ _ change e
volume_first (model.Mkdir directory name set) change e = of_case _ _ change e
volume_first (model.Symlink directory name set text) change e = of_case _ _ change e
volume_first (model.Mknod directory name kind set) change e = of_case _ _ change e
volume_first (model.Remove directory name) change e = of_case _ _ change e
volume_first (model.Rmdir directory name) change e = of_case _ _ change e
volume_first (model.Rename from from_name to to_name) change e = of_case _ _ change e
volume_first (model.Link handle directory name) change e = of_case _ _ change e
volume_first call change e = absurd cc

-- ---- the ways that a call can end

pub record Ways (server : Server) (call : model.Call) (who : model.Caller) (moment : model.Moment) (P : Step → Type 0) : Type 0 where
  -- it changes nothing; if its reply is one that is remembered, a handle is bad and it fails
  pub untouched : (answer : model.Answer)
      → ((change : Change) → change_of call ≡ Some change → (is_good server call ≡ false) × (is_success (model.Success answer) ≡ false))
      → P (stay server answer)
  -- on a volume, where its reply isn't remembered
  pub plain : (absent i : ℕ) (old : VolumeState) (effect : Effect) → change_of call ≡ None → slice_get server.volumes i ≡ Some old
      → Ends Keeping old effect → P (placed server absent i effect)
  -- on a volume, done once
  pub kept : (absent i : ℕ) (old : VolumeState) (effect : Effect) → is_good server call ≡ true
      → ((change : Change) → change_of call ≡ Some change → volume_of change ≡ i) → slice_get server.volumes i ≡ Some old
      → Ends Telling old effect → P (placed server absent i (once who call moment old effect))
  -- a volume has more ranges
  pub grows : (i ranges : ℕ) (old : VolumeState) → change_of call ≡ None → slice_get server.volumes i ≡ Some old
      → P (record { reply = model.Success (model.GrowDone (old.total + old.range_blocks * ranges)); server = grown server i old ranges })

module _ (server : Server) (call : model.Call) (who : model.Caller) (moment : model.Moment) (P : Step → Type 0) (w : Ways server call who moment P) where
  -- a call whose reply isn't remembered
  stays : change_of call ≡ None → (answer : model.Answer) → P (stay server answer)
  stays none answer = w.untouched answer (λ change e. absurd cc)

  on_plain : (absent : ℕ) (handle : List ℕ) (o : Option Located) (run : VolumeState → ℕ → Effect) → change_of call ≡ None → IsIn server handle o
      → ((volume : VolumeState) (fileid : ℕ) → Ends Keeping volume (run volume fileid)) → P (on server absent o run)
  on_plain absent handle None run none i f = stays none (model.Failed model.BadHandle absent)
  on_plain absent handle (Some l) run none i f = w.plain absent l.named.volume l.volume _ none i.there (f l.volume l.named.fileid)

  root_plain : (absent : ℕ) (handle : List ℕ) (o : Option Located) (run : VolumeState → ℕ → Effect) → change_of call ≡ None → IsIn server handle o
      → ((volume : VolumeState) (fileid : ℕ) → Ends Keeping volume (run volume fileid)) → P (on_root server absent o run)
  root_plain absent handle None run none i f = stays none (model.Failed model.NoEntry absent)
  root_plain absent handle (Some l) run none i f = w.plain absent l.named.volume l.volume _ none i.there (f l.volume l.named.fileid)

  -- the volume that it changes is the one that is located
  changes_it : (handle : List ℕ) (l : Located) → first_handle call ≡ handle → IsAt server handle l → (change : Change) → change_of call ≡ Some change
      → volume_of change ≡ l.named.volume
  changes_it handle l first i change e =
      volume_first call change e ∙ ap (λ (h : List ℕ). (named_read h).volume) first ∙ ap (λ (n : Named). n.volume) (sym i.named)

  on_kept : (absent : ℕ) (handle : List ℕ) (o : Option Located) (run : VolumeState → ℕ → Effect) → first_handle call ≡ handle
      → is_good server call ≡ is_some o → IsIn server handle o
      → ((volume : VolumeState) (fileid : ℕ) → Ends Telling volume (run volume fileid))
      → P (on server absent o (λ volume fileid. once who call moment volume (run volume fileid)))
  on_kept absent handle None run first good i f = w.untouched (model.Failed model.BadHandle absent) (λ change e. (good, refl))
  on_kept absent handle (Some l) run first good i f =
      w.kept absent l.named.volume l.volume _ good (changes_it handle l first i) i.there (f l.volume l.named.fileid)

  one_volume : (absent : ℕ) (b : Bool) (handle : List ℕ) (from : Located) (effect : Effect) → first_handle call ≡ handle → is_good server call ≡ b
      → IsAt server handle from → Ends Telling from.volume effect
      → P (cond b (placed server absent from.named.volume (once who call moment from.volume effect)) (stay server (model.Failed model.CrossVolume absent)))
  one_volume absent true handle from effect first good i f = w.kept absent from.named.volume from.volume effect good (changes_it handle from first i) i.there f
  one_volume absent false handle from effect first good i f = w.untouched (model.Failed model.CrossVolume absent) (λ change e. (good, refl))

  two_kept : (absent : ℕ) (handle other : List ℕ) (from to : Option Located) (run : VolumeState → ℕ → ℕ → Effect) → first_handle call ≡ handle
      → is_good server call ≡ (is_some from && (is_some to && ((named_read handle).volume == (named_read other).volume)))
      → IsIn server handle from → IsIn server other to
      → ((volume : VolumeState) (a b : ℕ) → Ends Telling volume (run volume a b))
      → P (on_two server absent from to (λ volume a b. once who call moment volume (run volume a b)))
  two_kept absent handle other None to run first good i j f = w.untouched (model.Failed model.BadHandle absent) (λ change e. (good, refl))
  two_kept absent handle other (Some from) None run first good i j f = w.untouched (model.Failed model.BadHandle absent) (λ change e. (good, refl))
  two_kept absent handle other (Some from) (Some to) run first good i j f =
      one_volume absent (from.named.volume == to.named.volume) handle from (run from.volume from.named.fileid to.named.fileid) first
      (good ∙ sym (ap (λ (n : Named). n.volume == to.named.volume) i.named ∙ ap (λ (n : Named). (named_read handle).volume == n.volume) j.named))
      i (f from.volume from.named.fileid to.named.fileid)

  grow_cases : (p q r : Bool) (x y z : model.Answer) (g : Grown) → change_of call ≡ None
      → P (record { reply = model.Success g.answer; server = g.server })
      → let h : Grown = if p then record { answer = x; server = server } else if q then record { answer = y; server = server }
      else if r then record { answer = z; server = server } else g in
      P (record { reply = model.Success h.answer; server = h.server })
  grow_cases true q r x y z g none e = stays none x
  grow_cases false true r x y z g none e = stays none y
  grow_cases false false true x y z g none e = stays none z
  grow_cases false false false x y z g none e = e

  grow_ways : (index : ℕ) (o : Option VolumeState) (ranges : ℕ) → slice_get server.volumes index ≡ o → change_of call ≡ None
      → P (record { reply = model.Success (grow_volume server index o ranges).answer; server = (grow_volume server index o ranges).server })
  grow_ways index None ranges e none = stays none (model.Failed model.NoEntry 0)
  grow_ways index (Some volume) ranges e none =
      grow_cases (ranges == 0) (nat_lt (volume.range_blocks * most_ranges) (volume.total + volume.range_blocks * ranges))
      (nat_lt (slice_index_or server.spare volume.aggregate 0) ranges) (model.Failed model.Invalid 0) (model.Failed model.TooBig 0)
      (model.Failed model.NoSpace 0)
      (record { answer = model.GrowDone (volume.total + volume.range_blocks * ranges); server = grown server index volume ranges }) none
      (w.grows index ranges volume none e)

-- it ends in one of these ways
pub served : (server : Server) (call : model.Call) (who : model.Caller) (moment : model.Moment) (P : Step → Type 0) → Ways server call who moment P
    → P (serve server call who moment)
served server model.Null who moment P w = stays server model.Null who moment P w refl _
served server (model.Getattr handle) who moment P w =
    on_plain server (model.Getattr handle) who moment P w _ handle _ _ refl (located server handle) (getattr_ends Keeping keeping)
served server (model.Setattr handle set guard) who moment P w =
    on_kept server (model.Setattr handle set guard) who moment P w _ handle _ _ refl refl (located server handle)
    (permitted_ends Telling who (model.Setattr handle set guard) _ (setattr_ends set guard who moment))
served server (model.Lookup directory name) who moment P w =
    on_plain server (model.Lookup directory name) who moment P w _ directory _ _ refl (located server directory)
    (permitted_ends Keeping who (model.Lookup directory name) _ (λ v f. name_ends Keeping name moment lookup v f (λ n e. found_ends Keeping keeping n (looked_up n))))
served server (model.CheckAccess handle asked) who moment P w =
    on_plain server (model.CheckAccess handle asked) who moment P w _ handle _ _ refl (located server handle)
    (λ v f. tell_ends Keeping keeping (λ object. model.AccessDone object (access_given who asked object)) v f)
served server (model.Readlink handle) who moment P w =
    on_plain server (model.Readlink handle) who moment P w _ handle _ _ refl (located server handle) (readlink_ends Keeping keeping)
served server (model.Read handle offset count) who moment P w =
    on_plain server (model.Read handle offset count) who moment P w _ handle _ _ refl (located server handle)
    (permitted_ends Keeping who (model.Read handle offset count) _ (read_ends Keeping keeping offset count))
served server (model.Write handle offset count written) who moment P w =
    on_plain server (model.Write handle offset count written) who moment P w _ handle _ _ refl (located server handle)
    (permitted_ends Keeping who (model.Write handle offset count written) _
    (write_ends (record { caller = who; offset = offset; count = count; written = written; moment = moment })))
served server (model.Create directory name mode) who moment P w =
    on_kept server (model.Create directory name mode) who moment P w _ directory _ _ refl refl (located server directory)
    (permitted_ends Telling who (model.Create directory name mode) _
    (λ v f. name_ends Telling name moment (create mode who) v f (create_ends mode who)))
served server (model.Mkdir directory name set) who moment P w =
    on_kept server (model.Mkdir directory name set) who moment P w _ directory _ _ refl refl (located server directory)
    (permitted_ends Telling who (model.Mkdir directory name set) _ (λ v f. name_ends Telling name moment (mkdir set who) v f (mkdir_ends set who)))
served server (model.Symlink directory name set text) who moment P w =
    on_kept server (model.Symlink directory name set text) who moment P w _ directory _ _ refl refl (located server directory)
    (permitted_ends Telling who (model.Symlink directory name set text) _
    (λ v f. name_ends Telling name moment (symlink set text who) v f (symlink_ends set text who)))
served server (model.Mknod directory name kind set) who moment P w =
    on_kept server (model.Mknod directory name kind set) who moment P w _ directory _ _ refl refl (located server directory)
    (permitted_ends Telling who (model.Mknod directory name kind set) _
    (λ v f. name_ends Telling name moment (mknod kind set who) v f (mknod_ends kind set who)))
served server (model.Remove directory name) who moment P w =
    on_kept server (model.Remove directory name) who moment P w _ directory _ _ refl refl (located server directory)
    (permitted_ends Telling who (model.Remove directory name) _ (λ v f. name_ends Telling name moment remove_name v f remove_ends))
served server (model.Rmdir directory name) who moment P w =
    on_kept server (model.Rmdir directory name) who moment P w _ directory _ _ refl refl (located server directory)
    (permitted_ends Telling who (model.Rmdir directory name) _ (λ v f. name_ends Telling name moment rmdir v f rmdir_ends))
served server (model.Rename from from_name to to_name) who moment P w =
    two_kept server (model.Rename from from_name to to_name) who moment P w _ from to _ _ _ refl refl (located server from) (located server to)
    (permitted_two_ends Telling who (model.Rename from from_name to to_name) _ (rename_ends from_name to_name moment))
served server (model.Link handle directory name) who moment P w =
    two_kept server (model.Link handle directory name) who moment P w _ handle directory _ _ _ refl refl (located server handle) (located server directory)
    (permitted_two_ends Telling who (model.Link handle directory name) _ (link_ends name moment))
served server (model.Readdir directory cookie verifier count) who moment P w =
    on_plain server (model.Readdir directory cookie verifier count) who moment P w _ directory _ _ refl (located server directory)
    (permitted_ends Keeping who (model.Readdir directory cookie verifier count) _ (readdir_ends Keeping keeping cookie verifier count))
served server (model.Readdirplus directory cookie verifier names_count count) who moment P w =
    on_plain server (model.Readdirplus directory cookie verifier names_count count) who moment P w _ directory _ _ refl (located server directory)
    (permitted_ends Keeping who (model.Readdirplus directory cookie verifier names_count count) _
    (readdirplus_ends Keeping keeping cookie verifier names_count count who))
served server (model.Fsstat handle) who moment P w =
    on_plain server (model.Fsstat handle) who moment P w _ handle _ _ refl (located server handle) (fsstat_ends Keeping keeping)
served server (model.Fsinfo handle) who moment P w =
    on_plain server (model.Fsinfo handle) who moment P w _ handle _ _ refl (located server handle)
    (λ v f. tell_ends Keeping keeping (λ object. model.FsinfoDone object v.largest) v f)
served server (model.Pathconf handle) who moment P w =
    on_plain server (model.Pathconf handle) who moment P w _ handle _ _ refl (located server handle)
    (λ v f. tell_ends Keeping keeping (λ object. model.PathconfDone object who.checked) v f)
served server (model.Commit handle) who moment P w =
    on_plain server (model.Commit handle) who moment P w _ handle _ _ refl (located server handle)
    (permitted_ends Keeping who (model.Commit handle) _ (commit_ends Keeping keeping))
served server model.Census who moment P w = stays server model.Census who moment P w refl _
served server (model.Grow volume ranges) who moment P w =
    grow_ways server (model.Grow volume ranges) who moment P w volume (slice_get server.volumes volume) ranges refl refl
served server model.Stop who moment P w = stays server model.Stop who moment P w refl _
served server (model.Mount call) who moment P w = stays server (model.Mount call) who moment P w refl _
served server (model.MountBelow root path) who moment P w =
    root_plain server (model.MountBelow root path) who moment P w _ root _ _ refl (located server root)
    (mount_below_ends Keeping keeping (parts_below path) who)
