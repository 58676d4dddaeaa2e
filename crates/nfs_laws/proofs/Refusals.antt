-- Who is refused nothing, what a refused call comes to, and that callers who aren't checked are served by what they ask alone.
use Rattle.std.proofs.Common.{◌≡◌, ℕ, ◌+◌, Bool, true, false, not, cond, ◌&&◌, List, Option, Some, None, refl, sym, ap, ◌∙◌, subst}
use Rattle.std.specs.Prelude.{◌||◌, ◌==◌, is_none, if◌then◌else◌}
use Rattle.std.specs.FinMap.{get}
use Rattle.nfs_model.specs.Types as model
use Rattle.nfs_model.specs.Memo.{Told}
use Rattle.nfs_model.specs.Server.{FileNode, DirectoryNode, Node, File, Directory, Special, VolumeState, Server}
use Rattle.nfs_model.specs.Names.{find_name}
use Rattle.nfs_model.specs.Locate.{Effect, Fails, unless, Found, child, is_node_of, Located, locate}
use Rattle.nfs_model.specs.Serial.Rights.{Protection, protected, protection, Rights, is_sticky, may_search, may_list, may_read, may_write}
use Rattle.nfs_model.specs.Serial.Rights.{without_set_ids}
use Rattle.nfs_model.specs.Serial.Access.{bit_given, bits_of_file, special_writes, writes_given, changes_given, bits_given}
use Rattle.nfs_model.specs.Serial.Absent.{absent_parts}
use Rattle.nfs_model.specs.Serial.Setattr.{given, given_mode, time_after, mode_taken, set_taken}
use Rattle.nfs_model.specs.Serial.Write.{clears_set_ids, file_taken}
use Rattle.nfs_model.specs.Serial.Create.{no_attributes, Maker, made_uid, checked_gid, made_gid, checked_mode, made_mode, over_taken, new_attributes}
use Rattle.nfs_model.specs.Serial.Readdirplus.{listed_plus, listed_bare, listed_for}
use Rattle.nfs_model.specs.Serial.Once.{told_before, or_told, once}
use Rattle.nfs_model.specs.Serial.Permission.{needs, reserved, then_asks, of_node, of_file, of_directory, set_refusal, is_no_child, new_refusal, over_refusal}
use Rattle.nfs_model.specs.Serial.Permission.{create_refusal, gone_refusal, target_refusal, moved_refusal, move_refusal, is_device, mknod_refusal}
use Rattle.nfs_model.specs.Serial.MountBelow.{search_refusal}
use Rattle.nfs_model.specs.Serial.Permission.{is_change, write_rights, refusal_by, refusal_of, refusal, write_refusal, permitted, permitted_two}
use Rattle.nfs_model.specs.Serial.Step.{Step, stay, placed, on, on_two, changing, serve}
use Rattle.nfs_laws.specs.Permissions.{refusal_on, refusal_on_two, refused, told_on, remembered_of, IsFree, bits_of, free_attributes}

-- ---- uid 0

or_none : (b : Bool) (o : Option model.Status) → o ≡ None → cond b None o ≡ None
or_none true o e = refl
or_none false o e = e

or_true : (b : Bool) → needs (b || true) ≡ None
or_true true = refl
or_true false = refl

or_truths : (b : Bool) → needs (b || true || true) ≡ None
or_truths true = refl
or_truths false = refl

and_then : (a b : Option model.Status) → a ≡ None → b ≡ None → then_asks a b ≡ None
and_then None b e f = f
and_then (Some status) b e f = e

module _ (gid : ℕ) (gids : List ℕ) where
  abbrev zero_user : model.Credential
  zero_user = record { uid = 0; gid = gid; gids = gids }

  gone_for_zero : (d : DirectoryNode) (o : Option Found) → gone_refusal zero_user (protection (Directory d)) o ≡ None
  gone_for_zero d None = refl
  gone_for_zero d (Some found) = or_truths (not (is_sticky (protection (Directory d))))

  over_for_zero : (mode : model.CreateMode) (node : Node) → over_refusal zero_user mode node ≡ None
  over_for_zero (model.Unchecked set) (File f) = or_true (is_none set.size)
  over_for_zero (model.Unchecked set) (Directory d) = refl
  over_for_zero (model.Unchecked set) (Special s) = refl
  over_for_zero (model.Guarded set) node = refl
  over_for_zero (model.Exclusive verifier) node = refl

  create_for_zero : (mode : model.CreateMode) (d : DirectoryNode) (o : Option Found) → create_refusal zero_user mode (protection (Directory d)) o ≡ None
  create_for_zero mode d None = refl
  create_for_zero mode d (Some found) = over_for_zero mode found.node

  new_for_zero : (d : DirectoryNode) (o : Option Found) → new_refusal zero_user (protection (Directory d)) o ≡ None
  new_for_zero d None = refl
  new_for_zero d (Some found) = refl

  is_for_zero : (b : Bool) → reserved (b || true) ≡ None
  is_for_zero true = refl
  is_for_zero false = refl

  mknod_for_zero : (kind : model.Kind) (d : DirectoryNode) (o : Option Found) → mknod_refusal zero_user kind (protection (Directory d)) o ≡ None
  mknod_for_zero kind d None = is_for_zero (not (is_device kind))
  mknod_for_zero kind d (Some found) = refl

  target_for_zero : (d : DirectoryNode) (o : Option Found) → target_refusal zero_user (protection (Directory d)) o ≡ None
  target_for_zero d None = refl
  target_for_zero d (Some found) = gone_for_zero d (Some found)

  moved_for_zero : (stays : Bool) (node : Node) → moved_refusal zero_user stays node ≡ None
  moved_for_zero stays (File f) = refl
  moved_for_zero stays (Directory d) = or_true stays
  moved_for_zero stays (Special s) = refl

  move_for_zero : (stays : Bool) (d e : DirectoryNode) (o target : Option Found)
      → move_refusal zero_user stays (protection (Directory d)) (protection (Directory e)) o target ≡ None
  move_for_zero stays d e None target = refl
  move_for_zero stays d e (Some found) target =
      or_none (is_node_of found.fileid target) _ (and_then _ _ (gone_for_zero d (Some found)) (and_then _ _ (target_for_zero e target) (moved_for_zero stays found.node)))

  node_for_zero : (set : model.SetAttributes) (o : Option Node) → of_node o (set_refusal zero_user set) ≡ None
  node_for_zero set None = refl
  node_for_zero set (Some node) = refl

  search_for_zero : (o : Option Node) → of_directory o (λ d. needs (may_search zero_user (protection (Directory d)))) ≡ None
  search_for_zero None = refl
  search_for_zero (Some (File f)) = refl
  search_for_zero (Some (Directory d)) = refl
  search_for_zero (Some (Special s)) = refl

  list_for_zero : (o : Option Node) → of_directory o (λ d. needs (may_list zero_user (protection (Directory d)))) ≡ None
  list_for_zero None = refl
  list_for_zero (Some (File f)) = refl
  list_for_zero (Some (Directory d)) = refl
  list_for_zero (Some (Special s)) = refl

  read_for_zero : (o : Option Node) → of_file o (λ file. needs (may_read zero_user file)) ≡ None
  read_for_zero None = refl
  read_for_zero (Some (File f)) = refl
  read_for_zero (Some (Directory d)) = refl
  read_for_zero (Some (Special s)) = refl

  write_for_zero : (o : Option Node) → of_file o (write_rights zero_user) ≡ None
  write_for_zero None = refl
  write_for_zero (Some (File f)) = refl
  write_for_zero (Some (Directory d)) = refl
  write_for_zero (Some (Special s)) = refl

  commit_for_zero : (o : Option Node) → of_file o (λ file. needs (may_read zero_user file || may_write zero_user file)) ≡ None
  commit_for_zero None = refl
  commit_for_zero (Some (File f)) = refl
  commit_for_zero (Some (Directory d)) = refl
  commit_for_zero (Some (Special s)) = refl

  name_for_zero : (name : List ℕ) (volume : VolumeState) (o : Option Node) (ask : Protection → Option Found → Option model.Status)
      → ((d : DirectoryNode) (c : Option Found) → ask (protection (Directory d)) c ≡ None)
      → of_directory o (λ d. then_asks (needs (may_search zero_user (protection (Directory d))))
      (if is_no_child name then None else ask (protection (Directory d)) (child volume (find_name name d.list)))) ≡ None
  name_for_zero name volume None ask f = refl
  name_for_zero name volume (Some (File g)) ask f = refl
  name_for_zero name volume (Some (Special s)) ask f = refl
  name_for_zero name volume (Some (Directory d)) ask f = or_none (is_no_child name) _ (f d (child volume (find_name name d.list)))

  two_for_zero : (from_name to_name : List ℕ) (volume : VolumeState) (from to : ℕ) (o p : Option Node)
      → of_directory o (λ d. of_directory p (λ e.
      then_asks (needs (may_search zero_user (protection (Directory d))))
      (then_asks (needs (may_search zero_user (protection (Directory e))))
      (if is_no_child from_name || is_no_child to_name then None
      else move_refusal zero_user (from == to) (protection (Directory d)) (protection (Directory e))
      (child volume (find_name from_name d.list)) (child volume (find_name to_name e.list)))))) ≡ None
  two_for_zero from_name to_name volume from to None p = refl
  two_for_zero from_name to_name volume from to (Some (File f)) p = refl
  two_for_zero from_name to_name volume from to (Some (Special s)) p = refl
  two_for_zero from_name to_name volume from to (Some (Directory d)) None = refl
  two_for_zero from_name to_name volume from to (Some (Directory d)) (Some (File f)) = refl
  two_for_zero from_name to_name volume from to (Some (Directory d)) (Some (Special s)) = refl
  two_for_zero from_name to_name volume from to (Some (Directory d)) (Some (Directory e)) =
      or_none (is_no_child from_name || is_no_child to_name) _
      (move_for_zero (from == to) d e (child volume (find_name from_name d.list)) (child volume (find_name to_name e.list)))

  link_for_zero : (name : List ℕ) (volume : VolumeState) (o p : Option Node)
      → of_node o (λ object. of_directory p (λ d. then_asks (needs (may_search zero_user (protection (Directory d))))
      (if is_no_child name then None else new_refusal zero_user (protection (Directory d)) (child volume (find_name name d.list))))) ≡ None
  link_for_zero name volume None p = refl
  link_for_zero name volume (Some node) p = name_for_zero name volume p (new_refusal zero_user) new_for_zero

  call_for_zero : (call : model.Call) (volume : VolumeState) (fileid other : ℕ) → refusal_by zero_user call volume fileid other ≡ None
  call_for_zero (model.Setattr handle set guard) volume fileid other = node_for_zero set (get volume.nodes fileid)
  call_for_zero (model.Lookup directory name) volume fileid other = search_for_zero (get volume.nodes fileid)
  call_for_zero (model.Read handle offset count) volume fileid other = read_for_zero (get volume.nodes fileid)
  call_for_zero (model.Write handle offset count written) volume fileid other = write_for_zero (get volume.nodes fileid)
  call_for_zero (model.Create directory name mode) volume fileid other =
      name_for_zero name volume (get volume.nodes fileid) (create_refusal zero_user mode) (create_for_zero mode)
  call_for_zero (model.Mkdir directory name set) volume fileid other =
      name_for_zero name volume (get volume.nodes fileid) (new_refusal zero_user) new_for_zero
  call_for_zero (model.Symlink directory name set text) volume fileid other =
      name_for_zero name volume (get volume.nodes fileid) (new_refusal zero_user) new_for_zero
  call_for_zero (model.Mknod directory name kind set) volume fileid other =
      name_for_zero name volume (get volume.nodes fileid) (mknod_refusal zero_user kind) (mknod_for_zero kind)
  call_for_zero (model.Link handle directory name) volume fileid other =
      link_for_zero name volume (get volume.nodes fileid) (get volume.nodes other)
  call_for_zero (model.Remove directory name) volume fileid other =
      name_for_zero name volume (get volume.nodes fileid) (gone_refusal zero_user) gone_for_zero
  call_for_zero (model.Rmdir directory name) volume fileid other =
      name_for_zero name volume (get volume.nodes fileid) (gone_refusal zero_user) gone_for_zero
  call_for_zero (model.Readdir directory cookie verifier count) volume fileid other = list_for_zero (get volume.nodes fileid)
  call_for_zero (model.Readdirplus directory cookie verifier names_count count) volume fileid other = list_for_zero (get volume.nodes fileid)
  call_for_zero (model.Commit handle) volume fileid other = commit_for_zero (get volume.nodes fileid)
  call_for_zero (model.Rename from from_name to to_name) volume fileid other =
      two_for_zero from_name to_name volume fileid other (get volume.nodes fileid) (get volume.nodes other)
  call_for_zero call volume fileid other = refl

-- who has uid 0
is_zero : (who : model.Credential) → who.uid ≡ 0 → zero_user who.gid who.gids ≡ who
is_zero who e = λ j. record who { uid = sym e j }

none_if : (b : Bool) (o : Option model.Status) → o ≡ None → cond b o None ≡ None
none_if true o e = e
none_if false o e = refl

-- nothing is refused where no right is missing, to a caller that may change
asks_nothing : (caller : model.Caller) (changes : Bool) (rights : Option model.Status) → caller.reads_only ≡ false → rights ≡ None
    → refusal_of caller changes rights ≡ None
asks_nothing caller changes rights e f =
    ap (λ b. cond (b && changes) (Some model.ReadOnly) (cond caller.checked rights None)) e
    ∙ none_if caller.checked rights f

pub zero_is_permitted : (caller : model.Caller) (call : model.Call) (volume : VolumeState) (fileid other : ℕ)
    → caller.credential.uid ≡ 0 → caller.reads_only ≡ false → refusal caller call volume fileid other ≡ None
zero_is_permitted caller call volume fileid other e f =
    asks_nothing caller (is_change call) _ f (subst (λ who. refusal_by who call volume fileid other ≡ None) (is_zero caller.credential e)
    (call_for_zero caller.credential.gid caller.credential.gids call volume fileid other))

pub zero_searches : (caller : model.Caller) (d : DirectoryNode) → caller.credential.uid ≡ 0 → caller.reads_only ≡ false
    → search_refusal caller d ≡ None
zero_searches caller d e f =
    asks_nothing caller false _ f (subst (λ who. needs (may_search who (protection (Directory d))) ≡ None) (is_zero caller.credential e) refl)

-- ---- on a server nothing is refused, where no volume refuses

module _ (caller : model.Caller) (f : (call : model.Call) (volume : VolumeState) (fileid other : ℕ) → refusal caller call volume fileid other ≡ None) where
  none_on : (call : model.Call) (o : Option Located) → refusal_on caller call o ≡ None
  none_on call None = refl
  none_on call (Some l) = f call l.volume l.named.fileid 0

  none_on_two : (call : model.Call) (from to : Option Located) → refusal_on_two caller call from to ≡ None
  none_on_two call None to = refl
  none_on_two call (Some from) None = refl
  none_on_two call (Some from) (Some to) =
      none_if (from.named.volume == to.named.volume) _ (f call from.volume from.named.fileid to.named.fileid)

  none_refused : (server : Server) (call : model.Call) → refused server call caller ≡ None
  none_refused server (model.Setattr handle set guard) = none_on (model.Setattr handle set guard) (locate server handle)
  none_refused server (model.Lookup directory name) = none_on (model.Lookup directory name) (locate server directory)
  none_refused server (model.Read handle offset count) = none_on (model.Read handle offset count) (locate server handle)
  none_refused server (model.Write handle offset count written) = none_on (model.Write handle offset count written) (locate server handle)
  none_refused server (model.Create directory name mode) = none_on (model.Create directory name mode) (locate server directory)
  none_refused server (model.Mkdir directory name set) = none_on (model.Mkdir directory name set) (locate server directory)
  none_refused server (model.Symlink directory name set text) = none_on (model.Symlink directory name set text) (locate server directory)
  none_refused server (model.Mknod directory name kind set) = none_on (model.Mknod directory name kind set) (locate server directory)
  none_refused server (model.Link handle directory name) =
      none_on_two (model.Link handle directory name) (locate server handle) (locate server directory)
  none_refused server (model.Remove directory name) = none_on (model.Remove directory name) (locate server directory)
  none_refused server (model.Rmdir directory name) = none_on (model.Rmdir directory name) (locate server directory)
  none_refused server (model.Rename from from_name to to_name) =
      none_on_two (model.Rename from from_name to to_name) (locate server from) (locate server to)
  none_refused server (model.Readdir directory cookie verifier count) = none_on (model.Readdir directory cookie verifier count) (locate server directory)
  none_refused server (model.Readdirplus directory cookie verifier names_count count) =
      none_on (model.Readdirplus directory cookie verifier names_count count) (locate server directory)
  none_refused server (model.Commit handle) = none_on (model.Commit handle) (locate server handle)
  none_refused server call = refl

pub zero_is_served : (server : Server) (call : model.Call) (caller : model.Caller) → caller.credential.uid ≡ 0 → caller.reads_only ≡ false
    → refused server call caller ≡ None
zero_is_served server call caller e f =
    none_refused caller (λ call volume fileid other. zero_is_permitted caller call volume fileid other e f) server call

-- ---- callers that aren't checked

pub free_is_asked_nothing : (caller : model.Caller) (changes : Bool) (rights : Option model.Status) → IsFree caller
    → refusal_of caller changes rights ≡ None
free_is_asked_nothing caller changes rights free =
    ap (λ b. cond (b && changes) (Some model.ReadOnly) (cond caller.checked rights None)) free.changes
    ∙ ap (λ b. cond b rights None) free.unchecked

pub free_searches : (caller : model.Caller) (d : DirectoryNode) → IsFree caller → search_refusal caller d ≡ None
free_searches caller d free = free_is_asked_nothing caller false _ free

pub free_is_permitted : (caller : model.Caller) (call : model.Call) (run : VolumeState → ℕ → Effect) (volume : VolumeState) (fileid : ℕ)
    → IsFree caller → permitted caller call run volume fileid ≡ run volume fileid
free_is_permitted caller call run volume fileid free =
    ap (λ (o : Option model.Status). unless o (run volume fileid)) (free_is_asked_nothing caller _ _ free)

pub free_is_permitted_two : (caller : model.Caller) (call : model.Call) (run : VolumeState → ℕ → ℕ → Effect) (volume : VolumeState) (from to : ℕ)
    → IsFree caller → permitted_two caller call run volume from to ≡ run volume from to
free_is_permitted_two caller call run volume from to free =
    ap (λ (o : Option model.Status). unless o (run volume from to)) (free_is_asked_nothing caller _ _ free)

pub free_is_served : (server : Server) (call : model.Call) (caller : model.Caller) → IsFree caller → refused server call caller ≡ None
free_is_served server call caller free =
    none_refused caller (λ call volume fileid other. free_is_asked_nothing caller _ _ free) server call

pub free_sets : (caller : model.Caller) (set : model.SetAttributes) (node : Node) → caller.checked ≡ false → set_taken caller set node ≡ set
free_sets caller set (File f) e = ap (λ b. cond b (record set { mode = mode_taken caller.credential set (protection (File f)) set.mode }) set) e
free_sets caller set (Directory d) e = refl
free_sets caller set (Special s) e =
    ap (λ b. cond b (record set { mode = mode_taken caller.credential set (protection (Special s)) set.mode }) set) e

pub free_sets_over : (caller : model.Caller) (set : model.SetAttributes) → caller.checked ≡ false → over_taken caller set ≡ set
free_sets_over caller set e = ap (λ b. cond b (record no_attributes { size = set.size }) set) e

pub free_writes : (caller : model.Caller) (f : FileNode) → caller.checked ≡ false → file_taken caller f ≡ f
free_writes caller f e =
    ap (λ b. cond (b && not (caller.credential.uid == 0) && not (without_set_ids f.attributes.mode == f.attributes.mode))
    (record f { attributes = record f.attributes { mode = without_set_ids f.attributes.mode } }) f) e

pub free_clears : (caller : model.Caller) (f : FileNode) → caller.checked ≡ false → clears_set_ids caller f ≡ false
free_clears caller f e =
    ap (λ b. b && not (caller.credential.uid == 0) && not (without_set_ids f.attributes.mode == f.attributes.mode)) e

pub free_is_written : (caller : model.Caller) (file : Protection) → IsFree caller → write_refusal caller file ≡ None
free_is_written caller file free = free_is_asked_nothing caller true _ free

pub free_lists : (caller : model.Caller) (volume : VolumeState) (d : DirectoryNode) (e : model.Listed) → caller.checked ≡ false
    → listed_for caller volume d e ≡ listed_plus volume e
free_lists caller volume d e same =
    ap (λ b. cond (b && not (may_search caller.credential (protection (Directory d)))) (listed_bare e) (listed_plus volume e)) same

pub free_makes : (set : model.SetAttributes) (kind : model.Kind) (mode : ℕ) (m : Maker) (moment : model.Moment) → m.caller.checked ≡ false
    → new_attributes set kind mode m moment ≡ free_attributes set mode m moment
free_makes set kind mode m moment e =
    let uid : made_uid set m ≡ given set.uid m.caller.credential.uid =
    ap (λ b. cond (b && not (m.caller.credential.uid == 0)) m.caller.credential.uid (given set.uid m.caller.credential.uid)) e in
    let gid : made_gid set m ≡ given set.gid m.caller.credential.gid =
    ap (λ b. cond b (checked_gid set.gid m.caller.credential (protected model.DirectoryKind m.directory)) (given set.gid m.caller.credential.gid)) e in
    let mode_is : made_mode m kind (made_gid set m) (given_mode set.mode mode) ≡ given_mode set.mode mode =
    ap (λ b. cond b (checked_mode m kind (made_gid set m) (given_mode set.mode mode)) (given_mode set.mode mode)) e in
    λ j. record {
      mode = mode_is j;
      uid = uid j;
      gid = gid j;
      atime = time_after set.atime moment moment;
      mtime = time_after set.mtime moment moment;
      ctime = moment;
    }

free_given : (caller : model.Caller) (r : Rights) → IsFree caller → writes_given caller r ≡ r.writes
free_given caller r free = ap (λ b. r.writes && not b) free.changes ∙ same_and r.writes
  where
    same_and : (b : Bool) → (b && true) ≡ b
    same_and true = refl
    same_and false = refl

free_given_names : (caller : model.Caller) (r : Rights) → IsFree caller → changes_given caller r ≡ r.writes
free_given_names caller r free =
    ap (λ b. b && (r.executes || not caller.checked)) (free_given caller r free) ∙ ap (λ b. r.writes && (r.executes || not b)) free.unchecked
    ∙ same_both r.writes r.executes
  where
    same_both : (a b : Bool) → (a && (b || true)) ≡ a
    same_both true true = refl
    same_both true false = refl
    same_both false b = refl

free_given_special : (caller : model.Caller) (special : model.SpecialType) (r : Rights) → IsFree caller → special_writes caller special r ≡ r.writes
free_given_special caller model.SymbolicLink r free = free_given caller r free
free_given_special caller special r free = refl

pub free_has : (caller : model.Caller) (asked : ℕ) (kind : model.Kind) (r : Rights) → IsFree caller → bits_given caller asked kind r ≡ bits_of asked kind r
free_has caller asked model.Regular r free =
    ap (λ b. bits_of_file asked r b) (free_given caller r free)
free_has caller asked model.DirectoryKind r free =
    ap (λ b. bit_given asked 1 r.reads + bit_given asked 2 r.executes + bit_given asked 4 b + bit_given asked 8 b + bit_given asked 16 b)
    (free_given_names caller r free)
free_has caller asked (model.SpecialKind special) r free = ap (λ b. bits_of_file asked r b) (free_given_special caller special r free)

-- ---- calls that are refused

module _ (server : Server) (caller : model.Caller) (call : model.Call) (moment : model.Moment) (status : model.Status) (absent : ℕ) where
  -- one whose reply isn't remembered
  on_refused : (o : Option Located) (run : VolumeState → ℕ → Effect) → refusal_on caller call o ≡ Some status
      → on server absent o (permitted caller call run) ≡ stay server (model.Failed status absent)
  on_refused None run e = absurd cc
  on_refused (Some l) run e =
      ap (λ (r : Option model.Status). placed server absent l.named.volume (unless r (run l.volume l.named.fileid))) e

  fails_once : (i : ℕ) (volume : VolumeState) (t : Option Told) → t ≡ None
      → placed server absent i (or_told volume t (Fails status)) ≡ stay server (model.Failed status absent)
  fails_once i volume None e = refl
  fails_once i volume (Some told) e = absurd cc

  stays_once : (i : ℕ) (volume : VolumeState) (t : Option Told) → (placed server absent i (or_told volume t (Fails status))).server ≡ server
  stays_once i volume None = refl
  stays_once i volume (Some told) = refl

  once_refused : (i : ℕ) (volume : VolumeState) (r : Option model.Status) (effect : Effect) → r ≡ Some status
      → once caller call moment volume (unless r effect) ≡ or_told volume (told_before volume.memos caller call moment) (Fails status)
  once_refused i volume r effect e =
      ap (λ (o : Option model.Status). once caller call moment volume (unless o effect)) e

  changing_refused : (o : Option Located) (run : VolumeState → ℕ → Effect) → refusal_on caller call o ≡ Some status → told_on caller call moment o ≡ None
      → on server absent o (changing caller call moment run) ≡ stay server (model.Failed status absent)
  changing_refused None run e none = absurd cc
  changing_refused (Some l) run e none =
      ap (λ (x : Effect). placed server absent l.named.volume x) (once_refused l.named.volume l.volume _ (run l.volume l.named.fileid) e)
      ∙ fails_once l.named.volume l.volume (told_before l.volume.memos caller call moment) none

  changing_stays : (o : Option Located) (run : VolumeState → ℕ → Effect) → refusal_on caller call o ≡ Some status
      → (on server absent o (changing caller call moment run)).server ≡ server
  changing_stays None run e = refl
  changing_stays (Some l) run e =
      ap (λ (x : Effect). (placed server absent l.named.volume x).server)
      (once_refused l.named.volume l.volume _ (run l.volume l.named.fileid) e)
      ∙ stays_once l.named.volume l.volume (told_before l.volume.memos caller call moment)

  two_refused : (b : Bool) (i : ℕ) (volume : VolumeState) (r : Option model.Status) (effect : Effect) → cond b r None ≡ Some status
      → told_before volume.memos caller call moment ≡ None
      → cond b (placed server absent i (once caller call moment volume (unless r effect))) (stay server (model.Failed model.CrossVolume absent))
      ≡ stay server (model.Failed status absent)
  two_refused true i volume r effect e none =
      ap (λ (x : Effect). placed server absent i x) (once_refused i volume r effect e)
      ∙ fails_once i volume (told_before volume.memos caller call moment) none
  two_refused false i volume r effect e none = absurd cc

  two_stays : (b : Bool) (i : ℕ) (volume : VolumeState) (r : Option model.Status) (effect : Effect) → cond b r None ≡ Some status
      → (cond b (placed server absent i (once caller call moment volume (unless r effect))) (stay server (model.Failed model.CrossVolume absent))).server
      ≡ server
  two_stays true i volume r effect e =
      ap (λ (x : Effect). (placed server absent i x).server) (once_refused i volume r effect e)
      ∙ stays_once i volume (told_before volume.memos caller call moment)
  two_stays false i volume r effect e = refl

  on_two_refused : (from to : Option Located) (run : VolumeState → ℕ → ℕ → Effect)
      → refusal_on_two caller call from to ≡ Some status → told_on caller call moment from ≡ None
      → on_two server absent from to (λ volume fileid other. once caller call moment volume (permitted_two caller call run volume fileid other))
      ≡ stay server (model.Failed status absent)
  on_two_refused None to run e none = absurd cc
  on_two_refused (Some from) None run e none = absurd cc
  on_two_refused (Some from) (Some to) run e none =
      two_refused (from.named.volume == to.named.volume) from.named.volume from.volume _ (run from.volume from.named.fileid to.named.fileid) e none

  on_two_stays : (from to : Option Located) (run : VolumeState → ℕ → ℕ → Effect) → refusal_on_two caller call from to ≡ Some status
      → (on_two server absent from to (λ volume fileid other. once caller call moment volume (permitted_two caller call run volume fileid other))).server
      ≡ server
  on_two_stays None to run e = refl
  on_two_stays (Some from) None run e = refl
  on_two_stays (Some from) (Some to) run e =
      two_stays (from.named.volume == to.named.volume) from.named.volume from.volume _ (run from.volume from.named.fileid to.named.fileid) e

-- its reply, unless one is remembered
pub refused_fails : (server : Server) (call : model.Call) (caller : model.Caller) (moment : model.Moment) (status : model.Status)
    → refused server call caller ≡ Some status → remembered_of server call caller moment ≡ None
    → serve server call caller moment ≡ stay server (model.Failed status (absent_parts call))
refused_fails server (model.Setattr handle set guard) caller moment status e none =
    changing_refused server caller (model.Setattr handle set guard) moment status (absent_parts (model.Setattr handle set guard)) (locate server handle) _ e none
refused_fails server (model.Lookup directory name) caller moment status e none =
    on_refused server caller (model.Lookup directory name) moment status (absent_parts (model.Lookup directory name)) (locate server directory) _ e
refused_fails server (model.Read handle offset count) caller moment status e none =
    on_refused server caller (model.Read handle offset count) moment status (absent_parts (model.Read handle offset count)) (locate server handle) _ e
refused_fails server (model.Write handle offset count written) caller moment status e none =
    on_refused server caller (model.Write handle offset count written) moment status (absent_parts (model.Write handle offset count written)) (locate server handle) _ e
refused_fails server (model.Create directory name mode) caller moment status e none =
    changing_refused server caller (model.Create directory name mode) moment status (absent_parts (model.Create directory name mode)) (locate server directory) _ e none
refused_fails server (model.Mkdir directory name set) caller moment status e none =
    changing_refused server caller (model.Mkdir directory name set) moment status (absent_parts (model.Mkdir directory name set)) (locate server directory) _ e none
refused_fails server (model.Symlink directory name set text) caller moment status e none =
    changing_refused server caller (model.Symlink directory name set text) moment status (absent_parts (model.Symlink directory name set text)) (locate server directory) _ e none
refused_fails server (model.Mknod directory name kind set) caller moment status e none =
    changing_refused server caller (model.Mknod directory name kind set) moment status (absent_parts (model.Mknod directory name kind set)) (locate server directory) _ e none
refused_fails server (model.Link handle directory name) caller moment status e none =
    on_two_refused server caller (model.Link handle directory name) moment status (absent_parts (model.Link handle directory name)) (locate server handle) (locate server directory) _ e none
refused_fails server (model.Remove directory name) caller moment status e none =
    changing_refused server caller (model.Remove directory name) moment status (absent_parts (model.Remove directory name)) (locate server directory) _ e none
refused_fails server (model.Rmdir directory name) caller moment status e none =
    changing_refused server caller (model.Rmdir directory name) moment status (absent_parts (model.Rmdir directory name)) (locate server directory) _ e none
refused_fails server (model.Rename from from_name to to_name) caller moment status e none =
    on_two_refused server caller (model.Rename from from_name to to_name) moment status (absent_parts (model.Rename from from_name to to_name)) (locate server from) (locate server to) _ e none
refused_fails server (model.Readdir directory cookie verifier count) caller moment status e none =
    on_refused server caller (model.Readdir directory cookie verifier count) moment status (absent_parts (model.Readdir directory cookie verifier count)) (locate server directory) _ e
refused_fails server (model.Readdirplus directory cookie verifier names_count count) caller moment status e none =
    on_refused server caller (model.Readdirplus directory cookie verifier names_count count) moment status (absent_parts (model.Readdirplus directory cookie verifier names_count count)) (locate server directory) _ e
refused_fails server (model.Commit handle) caller moment status e none =
    on_refused server caller (model.Commit handle) moment status (absent_parts (model.Commit handle)) (locate server handle) _ e
refused_fails server call caller moment status e none = absurd cc

-- the server after it
pub refused_stays : (server : Server) (call : model.Call) (caller : model.Caller) (moment : model.Moment) (status : model.Status)
    → refused server call caller ≡ Some status → (serve server call caller moment).server ≡ server
refused_stays server (model.Setattr handle set guard) caller moment status e =
    changing_stays server caller (model.Setattr handle set guard) moment status (absent_parts (model.Setattr handle set guard)) (locate server handle) _ e
refused_stays server (model.Create directory name mode) caller moment status e =
    changing_stays server caller (model.Create directory name mode) moment status (absent_parts (model.Create directory name mode)) (locate server directory) _ e
refused_stays server (model.Mkdir directory name set) caller moment status e =
    changing_stays server caller (model.Mkdir directory name set) moment status (absent_parts (model.Mkdir directory name set)) (locate server directory) _ e
refused_stays server (model.Symlink directory name set text) caller moment status e =
    changing_stays server caller (model.Symlink directory name set text) moment status (absent_parts (model.Symlink directory name set text)) (locate server directory) _ e
refused_stays server (model.Mknod directory name kind set) caller moment status e =
    changing_stays server caller (model.Mknod directory name kind set) moment status (absent_parts (model.Mknod directory name kind set)) (locate server directory) _ e
refused_stays server (model.Link handle directory name) caller moment status e =
    on_two_stays server caller (model.Link handle directory name) moment status (absent_parts (model.Link handle directory name)) (locate server handle) (locate server directory) _ e
refused_stays server (model.Remove directory name) caller moment status e =
    changing_stays server caller (model.Remove directory name) moment status (absent_parts (model.Remove directory name)) (locate server directory) _ e
refused_stays server (model.Rmdir directory name) caller moment status e =
    changing_stays server caller (model.Rmdir directory name) moment status (absent_parts (model.Rmdir directory name)) (locate server directory) _ e
refused_stays server (model.Rename from from_name to to_name) caller moment status e =
    on_two_stays server caller (model.Rename from from_name to to_name) moment status (absent_parts (model.Rename from from_name to to_name)) (locate server from) (locate server to) _ e
refused_stays server call caller moment status e = ap (λ (s : Step). s.server) (refused_fails server call caller moment status e refl)
