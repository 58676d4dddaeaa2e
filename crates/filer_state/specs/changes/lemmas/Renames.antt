-- RENAME by what is under Logical.
use Rattle.std.proofs.Common.{◌≡◌, ℕ, ◌+◌, ◌-◌, ◌==◌, ◌&&◌, ◌||◌, not, Bool, true, false, List, Option, Some, None, refl, sym, ap, ◌∙◌, subst, ne_eqb, eq-eqb}
use Rattle.std.proofs.Common.{eq-eqb}
use Rattle.std.specs.Prelude.{IsTrue, length, if◌then◌else◌, slice_get, is_some}
use Rattle.std.specs.FinMap.{get}
use Rattle.nfs_model.specs.Types.{Moment, Status, Wcc, Answer, Rename, RenameDone, Invalid, NameTooLong, Exists, Listed}
use Rattle.nfs_model.specs.Tree.{Affinity}
use Rattle.nfs_model.specs.Names.{same_name, is_dots, name_fault, find_name}
use Rattle.nfs_model.specs.Server.{VolumeState, Server, Named, handle_of, named_read, used}
use Rattle.nfs_model.specs.Shown.{before_of}
use Rattle.nfs_model.specs.Parts.{Hand}
use Rattle.nfs_model.specs.Moves.{Emptied}
use Rattle.nfs_model.specs.Locate.{Effect, Fails, unless, Found, named_child, Located, located_in, located_by, locate, is_node_of, node_named}
use Rattle.nfs_model.specs.Serial.Rename as renames
use Rattle.nfs_model.specs.Serial.Rename.{Renaming, Climb, PastIt, ToIt, TooFar, climb_fault, may_go, with_moved, with_entry, without_entry, renamed_volume, met_above}
use Rattle.nfs_model.specs.Serial.Rename.{rename_told, same_told, rename_at, rename_in}
use Rattle.nfs_model.specs.Serial.Starve.{takes_memory, name_one, entry_in, entry_named}
use Rattle.nfs_model.specs.volume.Inodes.{Inode}
use Rattle.nfs_model.specs.volume.Directories.{found, fileid_found}
use Rattle.nfs_model.specs.volume.lemmas.Directories.{same-is}
use Rattle.filer_state.specs.state.Contents.{VolumeContents}
use Rattle.filer_state.specs.state.Tree.{node_of, volume_of}
use Rattle.filer_state.specs.state.Names.{parent_in, parent_directory, is_directory, directory_above}
use Rattle.filer_state.specs.state.WellFormed.{WellFormed}
use Rattle.filer_state.specs.state.Partition.{parts_of}
use Rattle.filer_state.specs.state.Sound.{IsSound}
use Rattle.filer_state.specs.state.Lenses.{LogicalSet, logical_lens}
use Rattle.filer_state.specs.state.Calls.{VolumeCall}
use Rattle.filer_state.specs.state.Changes.{LogicalAnswer}
use Rattle.filer_state.specs.laws.lemmas.Steps.{sound-later}
use Rattle.filer_state.specs.names.Answers.{entries_of}
use Rattle.filer_state.specs.nodes.Laws.{WeighAlike}
use Rattle.filer_state.specs.changes.Named.{HeldNode, node_under}
use Rattle.filer_state.specs.changes.Renaming.{HeldRenaming, fails_both, unless_both, held_above, target_may_go, child_taken, child_hung, is_held}
use Rattle.filer_state.specs.changes.Renaming.{target_gone, set_renamed, held_renamed, rename_by, held_rename}
use Rattle.filer_state.specs.changes.Laws.{IsDone, MayStarve, rename_call, rename_done}
use Rattle.filer_state.specs.changes.lemmas.Named.{RightFor, done-right-for, naming_held, naming_seen, IsDirectoryHere, entered-here, before-shown}
use Rattle.filer_state.specs.changes.lemmas.Named.{IsChildHere, found_seen, child-right}
use Rattle.filer_state.specs.changes.lemmas.Setattr.{unchanged}
use Rattle.filer_state.specs.changes.lemmas.Makes.{may-starve, EntrySeen, NoEntryThere, ThatEntry, entry-seen}
use Rattle.filer_state.specs.changes.lemmas.Hanging.{q_hung, sound-hung, from-some, to-some, volume-hung, parts-hung, used-hung}
use Rattle.filer_state.specs.changes.lemmas.Replacing.{IsFree, free-by}
use Rattle.filer_state.specs.changes.lemmas.Told.{directory-right, directory-told, met-seen, may-go-seen, clear-of}
use Rattle.filer_state.specs.permissions.Refusing.{are_one}
use Rattle.std.specs.Option.{option_map}

module _ (from to : List ℕ) (node : Affinity) (from_id : ℕ) (from_name : List ℕ) (to_id : ℕ) (to_name : List ℕ) (moment : Moment) where
  abbrev call : VolumeCall
  call = rename_call from to node from_id from_name to_id to_name moment

  module _ (p : VolumeContents) (hands hands' : List Hand) (made : ℕ) (sound : IsSound p hands made) (weigh : WeighAlike p.number hands hands') where
    abbrev Right : LogicalAnswer → Effect → Type 0
    Right done effect = RightFor 4 call p hands' (made + 1) done effect

    failure : (status : Status) → Right (fails_both status (logical_lens.of p)) (Fails status)
    failure status = (refl, refl, unchanged p, sound-later p hands hands' made weigh sound)

    checked : (o : Option Status) (done : LogicalAnswer) (effect : Effect) → Right done effect
        → Right (unless_both o (logical_lens.of p) done) (unless o effect)
    checked None done effect right = right
    checked (Some status) done effect right = failure status

    -- both directories are there
    module _ (fi : Inode) (fp : ℕ) (here_from : IsDirectoryHere p from_id from_name moment fi fp)
        (ti : Inode) (tp : ℕ) (here_to : IsDirectoryHere p to_id to_name moment ti tp) where
      abbrev h : HeldRenaming
      h = record { from = naming_held p from_id from_name moment fi; to = naming_held p to_id to_name moment ti }

      abbrev r : Renaming
      r = record { from = naming_seen p from_id from_name moment fi fp; to = naming_seen p to_id to_name moment ti tp }

      -- what is told of them, where this is left
      told : (set : LogicalSet) (new : VolumeState) → WellFormed (logical_lens.put set p) → volume_of (logical_lens.put set p) ≡ new
          → is_some (get set.own.directories from_id) ≡ true → is_some (get set.own.directories to_id) ≡ true
          → (held_renamed h set).answer ≡ RenameDone (renames.directory_change r.from new) (renames.directory_change r.to new)
      told set new well is from_some to_some =
          let f0 = ap before_of (sym (before-shown p from_id from_name moment sound.well_formed fi fp here_from)) in
          let t0 = ap before_of (sym (before-shown p to_id to_name moment sound.well_formed ti tp here_to)) in
          let f1 = sym (directory-told (logical_lens.put set p) well h.from new r.from.directory is from_some) in
          let t1 = sym (directory-told (logical_lens.put set p) well h.to new r.to.directory is to_some) in
          λ j. RenameDone (record { before = f0 j; after = f1 j }) (record { before = t0 j; after = t1 j })

      -- the same entry
      same-right : Right (held_renamed h (logical_lens.of p)) (same_told r)
      same-right = (
        told (logical_lens.of p) (volume_of p) sound.well_formed refl (ap (λ o. is_some o) here_from.entered) (ap (λ o. is_some o) here_to.entered),
        refl,
        unchanged p,
        sound-later p hands hands' made weigh sound,
      )

      module _ (child : HeldNode) (under : IsChildHere p from_id from_name child) where
        -- a node that may move, once its target is gone
        moved-right : (set : LogicalSet) (target : Option Found)
            → IsFree p (logical_lens.put set p) h.from h.to child fp tp r.to target hands made
            → Right (held_renamed h (child_hung h.to child (child_taken h.from child set))) (rename_told r (renamed_volume r child.fileid target))
        moved-right set target free =
            let q : VolumeContents = logical_lens.put set p in
            let after : VolumeContents = q_hung q h.from h.to child fp tp free.may hands made free.sound in
            let good = sound-hung q h.from h.to child fp tp free.may hands made free.sound hands' weigh in
            let seen = volume-hung q h.from h.to child fp tp free.may hands made free.sound r.from.volume r.to.volume r.from.directory r.to.directory
            ∙ ap (λ (v : VolumeState). record v {
              nodes = with_moved r.to child.fileid (with_entry r.to child.fileid (without_entry r.from v.nodes));
            }) free.volume in
            let emptied : Emptied (used (volume_of p) - used (volume_of after)) (parts_of p) (parts_of after) =
            subst (λ (n : ℕ). Emptied (used (volume_of p) - n) (parts_of p) (parts_of after))
            (sym (used-hung q h.from h.to child fp tp free.may hands made free.sound))
            (subst (Emptied (used (volume_of p) - used (volume_of q)) (parts_of p))
            (sym (parts-hung q h.from h.to child fp tp free.may hands made free.sound)) free.emptied) in (
              told (child_hung h.to child (child_taken h.from child set)) (renamed_volume r child.fileid target) good.well_formed seen
                  (from-some q h.from h.to child fp tp free.may hands made free.sound) (to-some q h.from h.to child fp tp free.may hands made free.sound),
              seen,
              emptied,
              good,
            )

        to-directory : is_directory (get p.logical.inodes.inodes to_id) ≡ true
        to-directory = ap (λ (i : Option Inode). is_directory i) here_to.there ∙ ap (λ (o : Option ℕ). is_some o) here_to.says

        clear : held_above h child.fileid child.inode.kind ≡ PastIt
            → (k : ℕ) → (directory_above p.logical.inodes.inodes k to_id == child.fileid) ≡ false
        clear = clear-of p sound.well_formed from_id from_name child under here_from.entered h refl refl to-directory

        -- there is no target
        free-none : found (entries_of p.logical to_id) to_name ≡ None → held_above h child.fileid child.inode.kind ≡ PastIt
            → IsFree p p h.from h.to child fp tp r.to None hands made
        free-none absent passes = record {
          sound = sound;
          volume = refl;
          may = record {
            from_says = ap parent_directory here_from.there ∙ here_from.says;
            from_entered = here_from.entered;
            under = under;
            to_says = ap parent_directory here_to.there ∙ here_to.says;
            to_entered = here_to.entered;
            absent = absent;
            clear = clear passes;
          };
          emptied = unchanged p;
        }

        -- the checks, and what follows
        module _ (target : Option HeldNode) (found_target : Option Found)
            (one_node : is_node_of child.fileid found_target ≡ is_held child target)
            (go : may_go (node_of p.stripes p.logical.directories p.logical.texts child.fileid child.inode) found_target ≡ target_may_go (logical_lens.of p) child target)
            (goes : is_held child target ≡ false → held_above h child.fileid child.inode.kind ≡ PastIt → target_may_go (logical_lens.of p) child target ≡ true
            → Right (held_renamed h (set_renamed h child target)) (rename_told r (renamed_volume r child.fileid found_target))) where
          abbrev seen_by : Bool → Climb → Bool → Effect
          seen_by one met may =
              if one then same_told r
              else unless (climb_fault met)
              (if not may then Fails Exists else rename_told r (renamed_volume r child.fileid found_target))

          passed : (a : Bool) (m : Climb) (d : Bool) → is_held child target ≡ a → held_above h child.fileid child.inode.kind ≡ m
              → target_may_go (logical_lens.of p) child target ≡ d
              → Right (if a then held_renamed h (logical_lens.of p)
              else unless_both (climb_fault m) (logical_lens.of p)
              (if not d then fails_both Exists (logical_lens.of p) else held_renamed h (set_renamed h child target)))
              (if a then same_told r else unless (climb_fault m)
              (if not d then Fails Exists else rename_told r (renamed_volume r child.fileid found_target)))
          passed true m d one met may = same-right
          passed false ToIt d one met may = failure Invalid
          passed false TooFar d one met may = failure NameTooLong
          passed false PastIt false one met may = failure Exists
          passed false PastIt true one met may = goes one met may

          there-right : Right (rename_by h (Some child) target) (rename_at r (Some (found_seen p child)) found_target)
          there-right =
              subst (λ (a : Bool). Right (rename_by h (Some child) target) (seen_by a (met_above r child.fileid (found_seen p child).node)
              (may_go (node_of p.stripes p.logical.directories p.logical.texts child.fileid child.inode) found_target))) (sym one_node)
              (subst (λ (m : Climb). Right (rename_by h (Some child) target)
              (seen_by (is_held child target) m (may_go (node_of p.stripes p.logical.directories p.logical.texts child.fileid child.inode) found_target)))
              (sym (met-seen p r h child.fileid child.inode refl refl refl refl))
              (subst (λ (d : Bool). Right (rename_by h (Some child) target) (seen_by (is_held child target) (held_above h child.fileid child.inode.kind) d)) (sym go)
              (passed (is_held child target) (held_above h child.fileid child.inode.kind) (target_may_go (logical_lens.of p) child target) refl refl refl)))

        -- by whether there is a target
        target-right : Right (rename_by h (Some child) (node_under h.to)) (rename_at r (Some (found_seen p child)) (named_child r.to))
        target-right = child-right p sound.well_formed to_id to_name moment ti tp here_to
            (λ (o : Option HeldNode) (x : Option Found). Right (rename_by h (Some child) o) (rename_at r (Some (found_seen p child)) x))
            (λ absent. there-right None None refl refl (λ one met may. moved-right (logical_lens.of p) None (free-none absent met)))
            (λ target upon. there-right (Some target) (Some (found_seen p target)) refl (may-go-seen p child target)
            (λ one met may. moved-right (target_gone h.to (Some target)) (Some (found_seen p target))
            (free-by p hands made sound from_id from_name to_id to_name moment fi fp here_from ti tp here_to child under target upon one
            (clear met) may)))

      child-there : Right (rename_by h (node_under h.from) (node_under h.to)) (rename_at r (named_child r.from) (named_child r.to))
      child-there = child-right p sound.well_formed from_id from_name moment fi fp here_from
          (λ (o : Option HeldNode) (x : Option Found). Right (rename_by h o (node_under h.to)) (rename_at r x (named_child r.to)))
          (λ absent. failure _) (λ child under. target-right child under)

      by-dots : (b : Bool) → Right (if b then fails_both Invalid (logical_lens.of p) else rename_by h (node_under h.from) (node_under h.to))
          (if b then Fails Invalid else rename_at r (named_child r.from) (named_child r.to))
      by-dots true = failure Invalid
      by-dots false = child-there

      names-right : Right (held_rename h) (rename_in r)
      names-right = checked (name_fault from_name) _ _ (checked (name_fault to_name) _ _ (by-dots (is_dots from_name || is_dots to_name)))

    here : (fileid : ℕ) (name : List ℕ) (inode : Inode) (parent : ℕ) → get p.logical.inodes.inodes fileid ≡ Some inode
        → parent_in inode.kind ≡ Some parent → IsDirectoryHere p fileid name moment inode parent
    here fileid name inode parent there says = record {
      there = there;
      says = says;
      entered = entered-here p fileid name moment sound.well_formed inode parent there says;
    }

    renames-right : Right (rename_done p.number from_id from_name to_id to_name moment (logical_lens.of p)) (call.run (volume_of p))
    renames-right = directory-right p from_id Right _ _ failure (λ fi fp there is.
        directory-right p to_id Right _ _ failure (λ ti tp to_there to_is.
        names-right fi fp (here from_id from_name fi fp there is) ti tp (here to_id to_name ti tp to_there to_is)))

  -- RENAME
  pub rename-is-done : (v : ℕ) (s : LogicalSet) → IsDone v call s (rename_done v from_id from_name to_id to_name moment s)
  rename-is-done v s = done-right-for 4 v call (λ w t. rename_done w from_id from_name to_id to_name moment t) (λ p. refl) refl renames-right s

-- ---- memory may run out

-- what is located is what its handle names
located-named : (volumes : List VolumeState) (o : Option Named) (l : Located) → located_by volumes o ≡ Some l → o ≡ Some l.named
located-named volumes None l is = absurd cc
located-named volumes (Some named) l is = by (slice_get volumes named.volume) is
  where
    by : (v : Option VolumeState) → located_in named v ≡ Some l → Some named ≡ Some l.named
    by None at = absurd cc
    by (Some volume) at =
        let same : record { named = named; volume = volume } ≡ l = cc in
        ap (λ (x : Located). Some x.named) same

-- and its volume is there
located-volume : (volumes : List VolumeState) (o : Option Named) (l : Located) → located_by volumes o ≡ Some l
    → slice_get volumes l.named.volume ≡ Some l.volume
located-volume volumes None l is = absurd cc
located-volume volumes (Some named) l is = by (slice_get volumes named.volume) refl is
  where
    by : (v : Option VolumeState) → slice_get volumes named.volume ≡ v → located_in named v ≡ Some l → slice_get volumes l.named.volume ≡ Some l.volume
    by None e at = absurd cc
    by (Some volume) e at =
        let same : record { named = named; volume = volume } ≡ l = cc in
        ap (λ (x : Located). slice_get volumes x.named.volume) (sym same) ∙ e ∙ ap (λ (x : Located). Some x.volume) same

handle-read : (volumes : ℕ) (bytes : List ℕ) (named : Named) → handle_of volumes bytes ≡ Some named → named_read bytes ≡ named
handle-read volumes bytes named is = by _ is
  where
    by : (b : Bool) → (if b then Some (named_read bytes) else None) ≡ Some named → named_read bytes ≡ named
    by true e = cc
    by false e = absurd cc

pub rename-starves : (v from_id to_id volumes : ℕ) (from from_name to to_name : List ℕ) (node : Affinity) (moment : Moment) (s : LogicalSet)
    (from_change to_change : Wcc)
    → handle_of volumes to ≡ Some (record { volume = v; fileid = to_id })
    → are_one (fileid_found (entries_of s.own from_id) from_name) (fileid_found (entries_of s.own to_id) to_name) ≡ false
    → (rename_done v from_id from_name to_id to_name moment s).answer ≡ RenameDone from_change to_change
    → MayStarve v (rename_call from to node from_id from_name to_id to_name moment) s
rename-starves v from_id to_id volumes from from_name to to_name node moment s from_change to_change names two is =
    may-starve 4 v (rename_call from to node from_id from_name to_id to_name moment) (λ w t. rename_done w from_id from_name to_id to_name moment t)
    (λ p. refl) refl
    (λ p hands count sound. (renames-right from to node from_id from_name to_id to_name moment p hands hands count sound (λ n. refl)).0) s
    (λ p server numbered has at. subst (λ (a : Answer). IsTrue (takes_memory server (Rename from from_name to to_name) a)) (sym is)
    (ap (λ (b : Bool). not b) (apart p server numbered has at)))
  where
    -- of names whose entries are these, or which have none as the serial server sees them
    apart-by : (seen_from seen_to from_entry to_entry : Option Listed) → EntrySeen seen_from from_entry → EntrySeen seen_to to_entry
        → are_one (option_map (λ (e : Listed). e.fileid) from_entry) (option_map (λ (e : Listed). e.fileid) to_entry) ≡ false
        → name_one seen_from seen_to ≡ false
    apart-by seen_from seen_to from_entry to_entry (NoEntryThere none) other differ = ap (λ (o : Option Listed). name_one o seen_to) none
    apart-by seen_from seen_to from_entry to_entry (ThatEntry a) (NoEntryThere none) differ =
        ap (λ (o : Option Listed). name_one seen_from o) none ∙ nothing seen_from
      where
        nothing : (o : Option Listed) → name_one o None ≡ false
        nothing None = refl
        nothing (Some e) = refl
    apart-by seen_from seen_to from_entry to_entry (ThatEntry a) (ThatEntry b) differ = (λ j. name_one (a j) (b j)) ∙ both from_entry to_entry differ
      where
        both : (x y : Option Listed) → are_one (option_map (λ (e : Listed). e.fileid) x) (option_map (λ (e : Listed). e.fileid) y) ≡ false
            → name_one x y ≡ false
        both None y h = refl
        both (Some x) None h = refl
        both (Some x) (Some y) h = ne_eqb x.fileid y.fileid (λ (e : x.fileid ≡ y.fileid).
            let t : (y.fileid == x.fileid) ≡ true = eq-eqb y.fileid x.fileid (sym e) in cc)

    -- the other name is of the same volume, if its handle is good there
    located-to : (p : VolumeContents) (server : Server) → p.number ≡ v
        → locate server from ≡ Some (record { named = record { volume = p.number; fileid = from_id }; volume = volume_of p })
        → EntrySeen (entry_in (node_named (locate server to)) to_name) (find_name to_name (entries_of p.logical to_id).list)
    located-to p server numbered at = by (handle_of (length server.volumes) to) refl
      where
        volume-there : slice_get server.volumes p.number ≡ Some (volume_of p)
        volume-there = located-volume server.volumes (handle_of (length server.volumes) from) _ at

        by : (o : Option Named) → handle_of (length server.volumes) to ≡ o
            → EntrySeen (entry_in (node_named (located_by server.volumes o)) to_name) (find_name to_name (entries_of p.logical to_id).list)
        by None e = NoEntryThere refl
        by (Some named) e =
            let same : named ≡ record { volume = v; fileid = to_id } = sym (handle-read (length server.volumes) to named e) ∙ handle-read volumes to _ names in
            subst (λ (n : Named). EntrySeen (entry_in (node_named (located_by server.volumes (Some n))) to_name) (find_name to_name (entries_of p.logical to_id).list))
            (sym same)
            (subst (λ (o : Option VolumeState). EntrySeen (entry_in (node_named (located_in (record { volume = v; fileid = to_id }) o)) to_name)
            (find_name to_name (entries_of p.logical to_id).list))
            (sym (ap (slice_get server.volumes) (sym numbered) ∙ volume-there)) (entry-seen p to_id to_name))

    apart : (p : VolumeContents) (server : Server) → p.number ≡ v → logical_lens.of p ≡ s
        → locate server from ≡ Some (record { named = record { volume = p.number; fileid = from_id }; volume = volume_of p })
        → name_one (entry_named server from from_name) (entry_named server to to_name) ≡ false
    apart p server numbered has at =
        apart-by (entry_named server from from_name) (entry_named server to to_name)
        (find_name from_name (entries_of p.logical from_id).list) (find_name to_name (entries_of p.logical to_id).list)
        (subst (λ (o : Option Located). EntrySeen (entry_in (node_named o) from_name) (find_name from_name (entries_of p.logical from_id).list)) (sym at)
        (entry-seen p from_id from_name))
        (located-to p server numbered at)
        (ap (λ (t : LogicalSet). are_one (fileid_found (entries_of t.own from_id) from_name) (fileid_found (entries_of t.own to_id) to_name)) has ∙ two)
