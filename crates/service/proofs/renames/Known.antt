-- What is known of the set that a RENAME holds, and of the set that it leaves.
use Rattle.std.proofs.Common.{◌≡◌, ℕ, ◌+◌, ◌<◌, ◌^◌, ◌==◌, ◌&&◌, Bool, true, false, List, [], ◌∷◌, Option, Some, None}
use Rattle.std.proofs.Common.{refl, sym, ap, ◌∙◌, subst, arith}
use Rattle.std.proofs.lemmas.Bool.{eqb-true}
use Rattle.std.specs.Prelude.{nat_le, IfSome, if◌then◌else◌}
use Rattle.std.specs.Option.{option_map}
use Rattle.std.specs.FinMap.{get, remove}
use Rattle.nfs_model.specs.Names.{same_name}
use Rattle.nfs_model.specs.Parts.{Hand}
use Rattle.nfs_model.specs.Serial.Rename.{is_empty_list}
use Rattle.nfs_model.specs.Types.{Listed}
use Rattle.depot_rule.specs.Shares.{too_many}
use Rattle.nfs_model.specs.volume.Directories.{DirectoryValue, found, fileid_found}
use Rattle.nfs_model.specs.volume.Inodes.{InodeKind, RegularFile, DirectoryKind, SpecialFile, Inode}
use Rattle.nfs_model.specs.volume.lemmas.Inodes.{filled-within}
use Rattle.nfs_model.specs.volume.lemmas.Directories.{same-is}
use Rattle.nfs_model.specs.volume.lemmas.Numbered.{itself, get-remove_at}
use Rattle.inodes.specs.Inode.{inode_value}
use Rattle.filer_state.specs.permissions.Refusing.{are_one}
use Rattle.filer_state.specs.state.Calls.{VolumeCall}
use Rattle.filer_state.specs.state.Changes.{LogicalAnswer}
use Rattle.filer_state.specs.state.Contents.{VolumeContents}
use Rattle.filer_state.specs.state.Lenses.{LogicalSet, logical_lens}
use Rattle.filer_state.specs.state.Promises.{HasVolume}
use Rattle.filer_state.specs.state.Sound.{IsSound}
use Rattle.service_names.specs.NameAnswers.{entries_of}
use Rattle.service_names.specs.ChangeLaws.{IsDone}
use Rattle.service_names.specs.NamedChanges.{HeldNode, node_there, node_at}
use Rattle.service_names.specs.RenamingChanges.{is_held, may_replace, target_may_go}
use Rattle.service_names.specs.lemmas.May.{whole-absent}
use Rattle.service_names.specs.lemmas.Nodes.{used-most, whole-used, whole-may-be-set, whole-entered}
use Rattle.service_names.specs.lemmas.Whole.{few-links, whole-few}
use Rattle.service.specs.declared.renames.between.Between.{Between}
use Rattle.service.specs.renames.Moving.{AreThere, MayMove, left_as, target_left}
use Rattle.service.specs.renames.Renaming.{IsWithin, AllWithin}
use Rattle.service.proofs.renames.Entered.{removed-absent}

-- ---- bounds

module _ (p : VolumeContents) (hands : List Hand) (made : ℕ) (sound : IsSound p hands made) where
  volume-within : AllWithin p.logical.inodes.inodes
  volume-within q = by (get p.logical.inodes.inodes q) refl
    where
      by : (o : Option Inode) → get p.logical.inodes.inodes q ≡ o → IfSome o (λ (i : Inode). IsWithin i.kind)
      by None e = tt
      by (Some i) e = record {
        links = few-links p sound.well_formed q i e;
        filled =
            let one = filled-within p.logical.inodes q i sound.well_formed.logical.inodes e in
            let most = used-most p hands made sound in
            omega (arith, one, most);
      }

  volume-cookies : made < too_many → (d : ℕ) → IfSome (get p.logical.directories d) (λ (e : DirectoryValue). e.next < 2 ^ 63)
  volume-cookies few d = by (get p.logical.directories d) refl
    where
      by : (o : Option DirectoryValue) → get p.logical.directories d ≡ o → IfSome o (λ (e : DirectoryValue). e.next < 2 ^ 63)
      by None is = tt
      by (Some e) is = let young = sound.young.cookies d e is in omega (arith, few, young)

module _ (v : ℕ) (s : LogicalSet) (whole : HasVolume v logical_lens [] s) where
  pub whole-within : AllWithin s.own.inodes.inodes
  whole-within = subst (λ (x : LogicalSet). AllWithin x.own.inodes.inodes) whole.4 (volume-within whole.0 whole.1 whole.3 whole.8)

  pub within-at : (q : ℕ) (i : Inode) → get s.own.inodes.inodes q ≡ Some i → IsWithin i.kind
  within-at q i e = subst (λ o. IfSome o (λ (x : Inode). IsWithin x.kind)) e (whole-within q)

  whole-cookies : (d : ℕ) → IfSome (get s.own.directories d) (λ (e : DirectoryValue). e.next < 2 ^ 63)
  whole-cookies d =
      subst (λ (x : LogicalSet). IfSome (get x.own.directories d) (λ (e : DirectoryValue). e.next < 2 ^ 63)) whole.4
      (volume-cookies whole.0 whole.1 whole.3 whole.8 whole.6 d)

  -- what a call leaves by its law
  pub left-within : (call : VolumeCall) (done : LogicalAnswer) → IsDone v call s done → AllWithin done.set.own.inodes.inodes
  left-within call done law =
      let right = law whole.0 whole.1 whole.1 whole.3 whole.4 whole.5 whole.8 (λ weigh. refl) in
      volume-within (logical_lens.put done.set whole.0) whole.1 (whole.3 + 1) right.1

-- ---- nodes under names

module _ (s : LogicalSet) where
  node-there : (o : Option ℕ) (t : HeldNode) → node_at s o ≡ Some t → get s.own.inodes.inodes t.fileid ≡ Some t.inode
  node-there None t e = absurd cc
  node-there (Some q) t e = by (get s.own.inodes.inodes q) refl e
    where
      by : (o : Option Inode) → get s.own.inodes.inodes q ≡ o → node_there q o ≡ Some t → get s.own.inodes.inodes t.fileid ≡ Some t.inode
      by None is h = absurd cc
      by (Some i) is h =
          let found : HeldNode = record { fileid = q; inode = i } in
          let same : found ≡ t = cc in
          subst (λ (x : HeldNode). get s.own.inodes.inodes x.fileid ≡ Some x.inode) same is

  unnamed : (d : DirectoryValue) (name : List ℕ) → d.list ≡ [] → fileid_found d name ≡ None
  unnamed d name none = ap (λ (list : List Listed). fileid_found (record d { list = list }) name) none

  -- a directory that has an entry isn't an empty one
  stays : (d q : ℕ) (name : List ℕ) (node : HeldNode) → node_at s (fileid_found (entries_of s.own d) name) ≡ Some node
      → (entries_of s.own q).list ≡ [] → get s.own.directories d ≡ Some (entries_of s.own d)
      → get (remove s.own.directories q) d ≡ Some (entries_of s.own d)
  stays d q name node under none entered = get-remove_at s.own.directories q d ∙ by (d == q) refl
    where
      by : (b : Bool) → (d == q) ≡ b → (if b then None else get s.own.directories d) ≡ Some (entries_of s.own d)
      by false e = entered
      by true e =
          let empty : (entries_of s.own d).list ≡ [] = subst (λ (f : ℕ). (entries_of s.own f).list ≡ []) (sym (eqb-true d q e)) none in
          let gone : None ≡ Some node = ap (node_at s) (sym (unnamed (entries_of s.own d) name empty)) ∙ under in
          absurd cc

  empty-list : (list : List Listed) → is_empty_list list ≡ true → list ≡ []
  empty-list [] e = refl
  empty-list (x ∷ list) e = absurd cc

  emptied : (moved : InodeKind) (t parent subs : ℕ) → may_replace s moved t (DirectoryKind parent subs) ≡ true → (entries_of s.own t).list ≡ []
  emptied (RegularFile size filled verifier) t parent subs may = absurd cc
  emptied (SpecialFile special size) t parent subs may = absurd cc
  emptied (DirectoryKind p m) t parent subs may = empty-list (entries_of s.own t).list may

  kind-stays : (moved : InodeKind) (t : ℕ) (kind : InodeKind) → may_replace s moved t kind ≡ true
      → (d : ℕ) (name : List ℕ) (node : HeldNode) → node_at s (fileid_found (entries_of s.own d) name) ≡ Some node
      → get s.own.directories d ≡ Some (entries_of s.own d)
      → (c : Bool) → get (left_as c kind t s.own.directories) d ≡ Some (entries_of s.own d)
  kind-stays moved t kind may d name node under entered false = entered
  kind-stays moved t (RegularFile size filled verifier) may d name node under entered true = entered
  kind-stays moved t (SpecialFile special size) may d name node under entered true = entered
  kind-stays moved t (DirectoryKind parent subs) may d name node under entered true =
      stays d t name node under (emptied moved t parent subs may) entered

  target-stays : (moved : InodeKind) (a : HeldNode) → may_replace s moved a.fileid a.inode.kind ≡ true
      → (d : ℕ) (name : List ℕ) (node : HeldNode) → node_at s (fileid_found (entries_of s.own d) name) ≡ Some node
      → get s.own.directories d ≡ Some (entries_of s.own d) → get (target_left (Some a) s.own.directories) d ≡ Some (entries_of s.own d)
  target-stays moved a may d name node under entered =
      kind-stays moved a.fileid a.inode.kind may d name node under entered (nat_le a.inode.names 1)

-- the node itself is the one that moves
held-itself : (child : HeldNode) → is_held child (Some child) ≡ true
held-itself child = itself child.fileid

module _ (s : LogicalSet) (child : HeldNode) where
  one-held : (target : Option HeldNode) → target ≡ Some child → is_held child target ≡ false → ⊥
  one-held target is two =
      let no : true ≡ false = sym (held-itself child) ∙ ap (is_held child) (sym is) ∙ two in absurd cc

  -- where the nodes of two entries are two, the entries are of two fileids
  not-one : (target : Option HeldNode) (from to : Option ℕ) → Some child ≡ node_at s from → target ≡ node_at s to → is_held child target ≡ false
      → are_one from to ≡ false
  not-one target None to under upon two = refl
  not-one target (Some from) None under upon two = refl
  not-one target (Some from) (Some to) under upon two = by (to == from) refl
    where
      by : (b : Bool) → (to == from) ≡ b → b ≡ false
      by false is = refl
      by true is =
          absurd (one-held target (upon ∙ ap (λ (q : ℕ). node_at s (Some q)) (eqb-true to from is) ∙ sym under) two)

not-found : (o : Option Listed) → option_map (λ (e : Listed). e.fileid) o ≡ None → o ≡ None
not-found None e = refl
not-found (Some x) e = absurd cc

-- ---- what moving a node takes

module _ (b : Between) (from_name to_name : List ℕ) (s : LogicalSet) (whole : HasVolume b.volume.0 logical_lens [] s) (there : AreThere b s)
    (child : HeldNode) (under : Some child ≡ node_at s (fileid_found (entries_of s.own b.from.fileid.0) from_name)) where
  abbrev v : ℕ
  v = b.volume.0

  abbrev f : ℕ
  f = b.from.fileid.0

  abbrev t : ℕ
  t = b.to.fileid.0

  from-entered : get s.own.directories f ≡ Some (entries_of s.own f)
  from-entered = whole-entered v s whole f (inode_value b.from.inode) there.from there.from_is_directory

  to-entered : get s.own.directories t ≡ Some (entries_of s.own t)
  to-entered = whole-entered v s whole t (inode_value b.to.inode) there.to there.to_is_directory

  -- the names are of two nodes, so that they aren't of one entry
  pub two-nodes : (target : Option HeldNode) → target ≡ node_at s (fileid_found (entries_of s.own t) to_name) → is_held child target ≡ false
      → are_one (fileid_found (entries_of s.own f) from_name) (fileid_found (entries_of s.own t) to_name) ≡ false
  two-nodes target upon two =
      not-one s child target (fileid_found (entries_of s.own f) from_name) (fileid_found (entries_of s.own t) to_name) under upon two

  apart : (target : Option HeldNode) → target ≡ node_at s (fileid_found (entries_of s.own t) to_name) → is_held child target ≡ false
      → ((f == t) && same_name from_name to_name) ≡ false
  apart target upon two = by (f == t) refl (same_name from_name to_name) refl
    where
      by : (x : Bool) → (f == t) ≡ x → (y : Bool) → same_name from_name to_name ≡ y → (x && y) ≡ false
      by false is y names = refl
      by true is false names = refl
      by true is true names =
          let same : fileid_found (entries_of s.own f) from_name ≡ fileid_found (entries_of s.own t) to_name =
          λ j. fileid_found (entries_of s.own (eqb-true f t is j)) (same-is from_name to_name names j) in
          absurd (one-held s child target (upon ∙ ap (node_at s) (sym same) ∙ sym under) two)

  pub may-move : (target : Option HeldNode) → target ≡ node_at s (fileid_found (entries_of s.own t) to_name)
      → target_may_go s child target ≡ true → is_held child target ≡ false
      → MayMove b from_name to_name target s
  may-move None none goes two = record {
    few = whole-few v s whole;
    used = whole-used v s whole;
    sized = tt;
    cookies = whole-cookies v s whole t;
    within = whole-within v s whole;
    from_within = within-at v s whole f (inode_value b.from.inode) there.from;
    to_within = within-at v s whole t (inode_value b.to.inode) there.to;
    target_within = tt;
    from_entered = from-entered;
    to_entered = to-entered;
    from_stays = from-entered;
    to_stays = to-entered;
    absent = λ e.
        removed-absent (entries_of s.own t) to_name (not-found (found (entries_of s.own t) to_name)
        (whole-absent v s whole t (inode_value b.to.inode) to_name there.to there.to_is_directory (sym none)));
    apart = apart None none two;
  }
  may-move (Some a) at goes two = record {
    few = whole-few v s whole;
    used = whole-used v s whole;
    sized = whole-may-be-set v s whole a.fileid a.inode (node-there s (fileid_found (entries_of s.own t) to_name) a (sym at));
    cookies = whole-cookies v s whole t;
    within = whole-within v s whole;
    from_within = within-at v s whole f (inode_value b.from.inode) there.from;
    to_within = within-at v s whole t (inode_value b.to.inode) there.to;
    target_within = within-at v s whole a.fileid a.inode (node-there s (fileid_found (entries_of s.own t) to_name) a (sym at));
    from_entered = from-entered;
    to_entered = to-entered;
    from_stays = target-stays s child.inode.kind a goes f from_name child (sym under) from-entered;
    to_stays = target-stays s child.inode.kind a goes t to_name a (sym at) to-entered;
    absent = λ e. absurd cc;
    apart = apart (Some a) at two;
  }
