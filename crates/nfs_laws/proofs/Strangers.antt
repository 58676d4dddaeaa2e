-- What strangers leave of a node: a call of one keeps its mode, owner and group, and its bytes or names.
use Rattle.std.proofs.Common.{◌≡◌, ℕ, Bool, true, false, not, cond, List, [], length, Option, Some, None, refl, sym, ap, ◌∙◌, subst, arith}
use Rattle.std.specs.Prelude.{◌&&◌, ◌||◌, ◌==◌, is_some, is_none, nat_lt, if◌then◌else◌}
use Rattle.std.proofs.lemmas.Bool.Decides.{nat_tests}
use Rattle.std.specs.Ordering.{nat_cmp, is_eq}
use Rattle.std.specs.declared.cmp.Ordering.{Ordering}
use Rattle.std.specs.declared.cmp.Ordering.TheVariants.{Less, Equal, Greater}
use Rattle.std.specs.Cmp.{nat_cmp_total}
use Rattle.std.specs.FinMap.{get, insert, remove, get-insert, get-remove, nat_cmp-IsAntisymmetric}
use Rattle.nfs_model.specs.Types as model
use Rattle.nfs_model.specs.Server.{Attributes, FileNode, DirectoryNode, Node, File, Directory, Special, VolumeState}
use Rattle.nfs_model.specs.Shown.{effective_attributes}
use Rattle.nfs_model.specs.Names.{find_name, is_dots, name_fault, same_name, dot, dot_dot}
use Rattle.nfs_model.specs.Locate.{Effect, Fails, Tells, unless, on_node, on_directory, on_file, Found, child, is_node_of, Naming, on_name}
use Rattle.nfs_model.specs.Serial.Rights.{Protection, protected, protection, rights_of, is_owner_or_root, may_write, may_change, may_search}
use Rattle.nfs_model.specs.Serial.Permission.{needs, reserved, then_asks, of_node, of_file, of_directory, sets_owned, set_refusal}
use Rattle.nfs_model.specs.Serial.Permission.{is_no_child, new_refusal, over_refusal, create_refusal, gone_refusal, target_refusal, moved_refusal, move_refusal}
use Rattle.nfs_model.specs.Serial.Permission.{mknod_refusal, write_rights, is_change, refusal_by, permitted, permitted_two}
use Rattle.nfs_model.specs.Serial.Setattr.{given, given_mode, set_node, set_taken, setattr_fault, replaced, with_node, setattr}
use Rattle.nfs_model.specs.Serial.Write.{Writing, write_some, write}
use Rattle.nfs_model.specs.Serial.Create.{with_child, made, is_verifier, new_file, maker, create_over, create_at, create}
use Rattle.nfs_model.specs.Serial.Mkdir.{new_directory, mkdir_at, mkdir}
use Rattle.nfs_model.specs.Serial.Symlink.{text_fault, new_special, symlink_at, symlink}
use Rattle.nfs_model.specs.Serial.Mknod.{if_made, mknod_at, mknod}
use Rattle.nfs_model.specs.Serial.Links.{with_link, without_link, node_left}
use Rattle.nfs_model.specs.Serial.Remove.{without_child, gone, remove_found, remove_at, remove_name}
use Rattle.nfs_model.specs.Serial.Rmdir.{rmdir_found, rmdir_at, rmdir}
use Rattle.nfs_model.specs.Serial.Link.{directory_fault, links_fault, with_another, linked, link_at, link_name, link}
use Rattle.nfs_model.specs.Serial.Rename.{Renaming, Nodes, changed_node, in_directory, moved_node, without_entry, with_entry, without_target}
use Rattle.nfs_model.specs.Serial.Rename.{renamed_nodes, renamed_volume, climb_fault, met_above, may_go, rename_at, rename_in, rename}
use Rattle.nfs_laws.specs.Permissions.{IsStranger, IsAsIt, IsAsWas}
use Rattle.nfs_laws.specs.lemmas.Fileids.{AreThere, below_more, found_there, child_there}
use Rattle.nfs_laws.specs.lemmas.Effects.{Fact, Ends, fails, tells, changes, unless_ends, if_ends, empty_ends}

-- ---- refusals

needs_true : (b : Bool) → needs b ≡ None → b ≡ true
needs_true true e = refl
needs_true false e = absurd cc

first_none : (a b : Option model.Status) → then_asks a b ≡ None → a ≡ None
first_none None b e = refl
first_none (Some status) b e = absurd cc

second_none : (a b : Option model.Status) → then_asks a b ≡ None → b ≡ None
second_none None b e = e
second_none (Some status) b e = absurd cc

no_truth : (b : Bool) → b ≡ true → b ≡ false → ⊥
no_truth true e f = absurd cc
no_truth false e f = absurd cc

-- another than uid 0 and the owner, who is permitted a SETATTR, gives nothing that is for the owner
none_owned : (zero own gives : Bool) (rest : Option model.Status) → (zero || own) ≡ false
    → cond zero None (then_asks (reserved (not gives || own)) rest) ≡ None → gives ≡ false
none_owned true own gives rest e f = absurd cc
none_owned false true gives rest e f = absurd cc
none_owned false false true rest e f = absurd cc
none_owned false false false rest e f = refl

-- and needs w
some_written : (zero own gives keeps may : Bool) → (zero || own) ≡ false
    → cond zero None (then_asks (reserved (not gives || own)) (then_asks (reserved keeps) (needs may))) ≡ None → may ≡ true
some_written true own gives keeps may e f = absurd cc
some_written false true gives keeps may e f = absurd cc
some_written false false true keeps may e f = absurd cc
some_written false false false false may e f = absurd cc
some_written false false false true may e f = needs_true may f

-- ---- what is given of attributes

same_protection : (mode uid gid : Option ℕ) (s t : Bool) (kind : model.Kind) (a : Attributes)
    → (is_some mode || is_some uid || is_some gid || s || t) ≡ false
    → protected kind (record a { mode = given_mode mode a.mode; uid = given uid a.uid; gid = given gid a.gid }) ≡ protected kind a
same_protection None None None s t kind a e = refl
same_protection (Some n) uid gid s t kind a e = absurd cc
same_protection None (Some n) gid s t kind a e = absurd cc
same_protection None None (Some n) s t kind a e = absurd cc

-- settling and a new ctime leave them
moved_protection : (touch : Option model.Moment) (a : Attributes) (moment : model.Moment)
    → protected model.Regular (record (effective_attributes touch a) { ctime = moment }) ≡ protected model.Regular a
moved_protection None a moment = refl
moved_protection (Some t) a moment = refl

if_or_none : (b : Bool) (x y : Node) → cond b None (Some x) ≡ Some y → x ≡ y
if_or_none true x y e = absurd cc
if_or_none false x y e = cc

-- ---- a node, and who is a stranger to it

pub itself : (node : Node) → IsAsIt node node
itself (File f) = (refl, refl)
itself (Directory d) = (refl, refl)
itself (Special s) = (refl, refl)

moved_as : (old node : Node) (parent : ℕ) (moment : model.Moment) → IsAsIt old node → IsAsIt old (moved_node parent moment node)
moved_as (File f) (File g) parent moment a = (moved_protection g.touch g.attributes moment ∙ a.0, a.1)
moved_as (File f) (Directory e) parent moment a = absurd a
moved_as (File f) (Special t) parent moment a = absurd a
moved_as (Directory d) (File g) parent moment a = absurd a
moved_as (Directory d) (Directory e) parent moment a = (a.0, a.1)
moved_as (Directory d) (Special t) parent moment a = absurd a
moved_as (Special s) (File g) parent moment a = absurd a
moved_as (Special s) (Directory e) parent moment a = absurd a
moved_as (Special s) (Special t) parent moment a = (a.0, a.1)

-- one more name, or one less, leaves it
linked_as : (old node : Node) (moment : model.Moment) → IsAsIt old node → IsAsIt old (with_link moment node)
linked_as (File f) (File g) moment a = (moved_protection g.touch g.attributes moment ∙ a.0, a.1)
linked_as (File f) (Directory e) moment a = absurd a
linked_as (File f) (Special t) moment a = absurd a
linked_as (Directory d) (File g) moment a = absurd a
linked_as (Directory d) (Directory e) moment a = a
linked_as (Directory d) (Special t) moment a = absurd a
linked_as (Special s) (File g) moment a = absurd a
linked_as (Special s) (Directory e) moment a = absurd a
linked_as (Special s) (Special t) moment a = (a.0, a.1)

unlinked_as : (old node left : Node) (moment : model.Moment) → without_link moment node ≡ Some left → IsAsIt old node → IsAsIt old left
unlinked_as (File f) (File g) left moment e a =
    subst (λ (x : Node). IsAsIt (File f) x) (if_or_none _ _ left e) (moved_protection g.touch g.attributes moment ∙ a.0, a.1)
unlinked_as old (Directory e) left moment none a = absurd cc
unlinked_as (File f) (Special t) left moment e a = absurd a
unlinked_as (Directory d) (File g) left moment e a = absurd a
unlinked_as (Directory d) (Special t) left moment e a = absurd a
unlinked_as (Special s) (File g) left moment e a = absurd a
unlinked_as (Special s) (Special t) left moment e a = subst (λ (x : Node). IsAsIt (Special s) x) (if_or_none _ _ left e) (a.0, a.1)

-- a stranger may not write it
no_write : (old : Node) (caller : model.Caller) → IsStranger old caller → (g : FileNode) → IsAsIt old (File g)
    → may_write caller.credential (protection (File g)) ≡ false
no_write (File f) caller s g a =
    ap (λ (p : Protection). may_write caller.credential p) a.0
    ∙ ap (λ b. b || (rights_of caller.credential (protection (File f))).writes) s.owns ∙ s.writes
no_write (Directory d) caller s g a = absurd a
no_write (Special t) caller s g a = absurd a

-- nor change its names
no_change : (old : Node) (caller : model.Caller) → IsStranger old caller → (e : DirectoryNode) → IsAsIt old (Directory e)
    → may_change caller.credential (protection (Directory e)) ≡ false
no_change (File f) caller s e a = absurd a
no_change (Directory d) caller s e a = ap (λ (p : Protection). may_change caller.credential p) a.0 ∙ s.changes
no_change (Special t) caller s e a = absurd a

not_owned : (old : Node) (caller : model.Caller) → IsStranger old caller → (node : Node) → IsAsIt old node
    → is_owner_or_root caller.credential (protection node) ≡ false
not_owned (File f) caller s (File g) a = ap (λ (p : Protection). is_owner_or_root caller.credential p) a.0 ∙ s.owns
not_owned (File f) caller s (Directory e) a = absurd a
not_owned (File f) caller s (Special t) a = absurd a
not_owned (Directory d) caller s (File g) a = absurd a
not_owned (Directory d) caller s (Special t) a = absurd a
not_owned (Special t) caller s (File g) a = absurd a
not_owned (Special t) caller s (Directory e) a = absurd a
not_owned (Special t) caller s (Special u) a = ap (λ (p : Protection). is_owner_or_root caller.credential p) a.0 ∙ s.owns
not_owned (Directory d) caller s (Directory e) a = ap (λ (p : Protection). is_owner_or_root caller.credential p) a.0 ∙ s.owns

is_checked : (old : Node) (caller : model.Caller) → IsStranger old caller → caller.checked ≡ true
is_checked (File f) caller s = s.checked
is_checked (Directory d) caller s = s.checked
is_checked (Special t) caller s = s.checked

-- what it is permitted to set
set_as : (old : Node) (caller : model.Caller) → IsStranger old caller → (set : model.SetAttributes) (moment : model.Moment) (node : Node)
    → IsAsIt old node → set_refusal caller.credential set (protection node) ≡ None → IsAsIt old (set_node (set_taken caller set node) moment node)
set_as (File f) caller s set moment (Directory e) a none = absurd a
set_as (File f) caller s set moment (Special u) a none = absurd a
set_as (Directory d) caller s set moment (File g) a none = absurd a
set_as (Directory d) caller s set moment (Special u) a none = absurd a
set_as (Special t) caller s set moment (File g) a none = absurd a
set_as (Special t) caller s set moment (Directory e) a none = absurd a
set_as (Special t) caller s set moment (Special u) a none =
    let not_mine : is_owner_or_root caller.credential (protection (Special u)) ≡ false = not_owned (Special t) caller s (Special u) a in
    absurd (no_truth (may_write caller.credential (protection (Special u)))
    (some_written (caller.credential.uid == 0) (caller.credential.uid == u.attributes.uid) (sets_owned set) _ _ not_mine none)
    (ap (λ (p : Protection). may_write caller.credential p) a.0
    ∙ ap (λ b. b || (rights_of caller.credential (protection (Special t))).writes) s.owns ∙ s.writes))
set_as (File f) caller s set moment (File g) a none =
    absurd (no_truth (may_write caller.credential (protection (File g)))
    (some_written (caller.credential.uid == 0) (caller.credential.uid == g.attributes.uid) (sets_owned set) _ _
    (not_owned (File f) caller s (File g) a) none)
    (no_write (File f) caller s g a))
set_as (Directory d) caller s set moment (Directory e) a none =
    let owned : sets_owned set ≡ false = none_owned (caller.credential.uid == 0) (caller.credential.uid == e.attributes.uid) (sets_owned set) _
    (not_owned (Directory d) caller s (Directory e) a) none in
    (same_protection set.mode set.uid set.gid _ _ model.DirectoryKind e.attributes owned ∙ a.0, a.1)

-- ---- the nodes of a volume

module _ (old : Node) (q : ℕ) where
  as_put : (o : Ordering) (node : Node) (there : Option Node) → (o ≡ Equal → IsAsIt old node) → IsAsWas old there
      → IsAsWas old (cond (is_eq o) (Some node) there)
  as_put Less node there a w = w
  as_put Equal node there a w = a refl
  as_put Greater node there a w = w

  as_gone : (b : Bool) (there : Option Node) → IsAsWas old there → IsAsWas old (cond b None there)
  as_gone true there w = tt
  as_gone false there w = w

  insert_as : (nodes : Nodes) (k : ℕ) (node : Node) → (k ≡ q → IsAsIt old node) → IsAsWas old (get nodes q) → IsAsWas old (get (insert nodes k node) q)
  insert_as nodes k node a w =
      subst (λ (o : Option Node). IsAsWas old o) (sym (get-insert nat_cmp_total nodes k node q))
      (as_put (nat_cmp q k) node (get nodes q) (λ e. a (sym (nat_cmp-IsAntisymmetric q k e))) w)

  remove_as : (nodes : Nodes) (k : ℕ) → IsAsWas old (get nodes q) → IsAsWas old (get (remove nodes k) q)
  remove_as nodes k w =
      subst (λ (o : Option Node). IsAsWas old o) (sym (get-remove nat_cmp_total nodes k q)) (as_gone (is_eq (nat_cmp q k)) (get nodes q) w)

  left_as : (nodes : Nodes) (k : ℕ) (left : Option Node) → (k ≡ q → (node : Node) → left ≡ Some node → IsAsIt old node) → IsAsWas old (get nodes q)
      → IsAsWas old (get (node_left nodes k left) q)
  left_as nodes k None a w = remove_as nodes k w
  left_as nodes k (Some node) a w = insert_as nodes k node (λ same. a same node refl) w

  -- the node that is there
  as_there : (nodes : Nodes) (k : ℕ) (node : Node) → get nodes k ≡ Some node → k ≡ q → IsAsWas old (get nodes q) → IsAsIt old node
  as_there nodes k node e same w =
      let here : get nodes q ≡ Some node = ap (λ (i : ℕ). get nodes i) (sym same) ∙ e in
      subst (λ (o : Option Node). IsAsWas old o) here w

  changed_as : (change : Node → Node) (k : ℕ) (o : Option Node) (nodes : Nodes) → get nodes k ≡ o
      → (k ≡ q → (node : Node) → IsAsIt old node → IsAsIt old (change node)) → IsAsWas old (get nodes q)
      → IsAsWas old (get (changed_node change k o nodes) q)
  changed_as change k None nodes e a w = w
  changed_as change k (Some node) nodes e a w = insert_as nodes k (change node) (λ same. a same node (as_there nodes k node e same w)) w

  -- ---- a volume

  -- the node is as it was, and its fileid isn't given again
  pub record Stays (volume : VolumeState) : Type 0 where
    pub node : IsAsWas old (get volume.nodes q)
    pub below : nat_lt q volume.next ≡ true

  -- so after a call, if so before
  abbrev pub Staying : Fact
  Staying before answer after = Stays before → Stays after

  pub staying : (volume : VolumeState) (answer : model.Answer) → Staying volume answer volume
  staying volume answer h = h

  with_node_stays : (volume : VolumeState) (k : ℕ) (node : Node) → (k ≡ q → IsAsIt old node) → Stays volume → Stays (with_node volume k node)
  with_node_stays volume k node a h = record { node = insert_as volume.nodes k node a h.node; below = h.below }

not_next : (q next : ℕ) → nat_lt q next ≡ true → next ≡ q → ⊥
not_next q next e f = grind (arith, nat_tests)

-- ---- procedures

module _ (old : Node) (q : ℕ) (caller : model.Caller) (s : IsStranger old caller) where
  abbrev S : Fact
  S = Staying old q

  asked : (v : VolumeState) (changes checked : Bool) (rights : Option model.Status) (x : Effect) → checked ≡ true
      → (rights ≡ None → Ends S v x) → Ends S v (unless (cond changes (Some model.ReadOnly) (cond checked rights None)) x)
  asked v true checked rights x e f = fails S v model.ReadOnly
  asked v false true None x e f = f refl
  asked v false true (Some status) x e f = fails S v status
  asked v false false rights x e f = absurd cc

  pub permitted_stays : (call : model.Call) (run : VolumeState → ℕ → Effect) (v : VolumeState) (k : ℕ)
      → (refusal_by caller.credential call v k 0 ≡ None → Ends S v (run v k)) → Ends S v (permitted caller call run v k)
  permitted_stays call run v k f =
      asked v (caller.reads_only && is_change call) caller.checked (refusal_by caller.credential call v k 0) (run v k) (is_checked old caller s) f

  pub permitted_two_stays : (call : model.Call) (run : VolumeState → ℕ → ℕ → Effect) (v : VolumeState) (k l : ℕ)
      → (refusal_by caller.credential call v k l ≡ None → Ends S v (run v k l)) → Ends S v (permitted_two caller call run v k l)
  permitted_two_stays call run v k l f =
      asked v (caller.reads_only && is_change call) caller.checked (refusal_by caller.credential call v k l) (run v k l) (is_checked old caller s) f

  -- a directory that may be changed is another
  another : (v : VolumeState) (k : ℕ) (d : DirectoryNode) → get v.nodes k ≡ Some (Directory d)
      → may_change caller.credential (protection (Directory d)) ≡ true → Stays old q v → k ≡ q → ⊥
  another v k d e may h same = no_truth _ may (no_change old caller s d (as_there old q v.nodes k (Directory d) e same h.node))

  -- and so is a file that may be written
  another_file : (v : VolumeState) (k : ℕ) (g : FileNode) → get v.nodes k ≡ Some (File g) → may_write caller.credential (protection (File g)) ≡ true
      → Stays old q v → k ≡ q → ⊥
  another_file v k g e may h same = no_truth _ may (no_write old caller s g (as_there old q v.nodes k (File g) e same h.node))

  -- ---- attributes and bytes

  setattr_of : (set : model.SetAttributes) (guard : Option model.Moment) (moment : model.Moment) (v : VolumeState) (k : ℕ) (o : Option Node)
      → get v.nodes k ≡ o → of_node o (set_refusal caller.credential set) ≡ None
      → Ends S v (on_node o (λ node. unless (setattr_fault v set guard node) (replaced v k node (set_node (set_taken caller set node) moment node))))
  setattr_of set guard moment v k None e none = fails S v model.Stale
  setattr_of set guard moment v k (Some node) e none =
      unless_ends S v (setattr_fault v set guard node) _ (changes S v _ (with_node v k (set_node (set_taken caller set node) moment node)) refl
      (λ h. with_node_stays old q v k (set_node (set_taken caller set node) moment node)
      (λ same. set_as old caller s set moment node (as_there old q v.nodes k node e same h.node) none) h))

  pub setattr_stays : (handle : List ℕ) (set : model.SetAttributes) (guard : Option model.Moment) (moment : model.Moment) (v : VolumeState) (k : ℕ)
      → Ends S v (permitted caller (model.Setattr handle set guard) (setattr set guard caller moment) v k)
  setattr_stays handle set guard moment v k =
      permitted_stays (model.Setattr handle set guard) (setattr set guard caller moment) v k (setattr_of set guard moment v k (get v.nodes k) refl)

  write_some_stays : (v : VolumeState) (k : ℕ) (g : FileNode) (w : Writing) → get v.nodes k ≡ Some (File g)
      → may_write caller.credential (protection (File g)) ≡ true → Ends S v (write_some v k g w)
  write_some_stays v k g w e may =
      unless_ends S v _ _ (unless_ends S v _ _ (changes S v _ _ refl
      (λ h. with_node_stays old q v k _ (λ same. absurd (another_file v k g e may h same)) h)))

  write_of : (w : Writing) (v : VolumeState) (k : ℕ) (o : Option Node) → get v.nodes k ≡ o → of_file o (write_rights caller.credential) ≡ None
      → Ends S v (on_file o (λ g.
      if not (w.count == length w.written) then Fails model.Invalid
      else if w.count == 0 then Tells (model.WriteDone 0 v.verifier) else write_some v k g w))
  write_of w v k None e none = fails S v model.Stale
  write_of w v k (Some (Directory d)) e none = fails S v model.Invalid
  write_of w v k (Some (Special t)) e none = fails S v model.Invalid
  write_of w v k (Some (File g)) e none =
      if_ends S v (not (w.count == length w.written)) _ _ (fails S v model.Invalid)
      (if_ends S v (w.count == 0) _ _ (tells S v _ (λ h. h)) (write_some_stays v k g w e (needs_true _ none)))

  pub write_stays : (handle : List ℕ) (w : Writing) (v : VolumeState) (k : ℕ)
      → Ends S v (permitted caller (model.Write handle w.offset w.count w.written) (write w) v k)
  write_stays handle w v k =
      permitted_stays (model.Write handle w.offset w.count w.written) (write w) v k (write_of w v k (get v.nodes k) refl)

  -- ---- names

  made_stays : (n : Naming) (node : Node) → get n.volume.nodes n.fileid ≡ Some (Directory n.directory)
      → may_change caller.credential (protection (Directory n.directory)) ≡ true → Ends S n.volume (made n node)
  made_stays n node e may =
      changes S n.volume _ (with_child n node) refl (λ h. record {
        node = insert_as old q (insert n.volume.nodes n.volume.next node) n.fileid _
            (λ same. absurd (another n.volume n.fileid n.directory e may h same))
            (insert_as old q n.volume.nodes n.volume.next node (λ same. absurd (not_next q n.volume.next h.below same)) h.node);
        below = below_more q n.volume.next h.below;
      })

  -- a name less of a node that is there
  unnamed_as : (nodes : Nodes) (found : Found) (moment : model.Moment) → get nodes found.fileid ≡ Some found.node → IsAsWas old (get nodes q)
      → IsAsWas old (get (node_left nodes found.fileid (without_link moment found.node)) q)
  unnamed_as nodes found moment there w =
      left_as old q nodes found.fileid (without_link moment found.node)
      (λ same node e. unlinked_as old found.node node moment e (as_there old q nodes found.fileid found.node there same w)) w

  gone_stays : (n : Naming) (found : Found) → get n.volume.nodes n.fileid ≡ Some (Directory n.directory)
      → get n.volume.nodes found.fileid ≡ Some found.node
      → may_change caller.credential (protection (Directory n.directory)) ≡ true → Ends S n.volume (gone n found)
  gone_stays n found e there may =
      changes S n.volume _ (without_child n found) refl (λ h. record {
        node = insert_as old q (node_left n.volume.nodes found.fileid (without_link n.moment found.node)) n.fileid _
            (λ same. absurd (another n.volume n.fileid n.directory e may h same))
            (unnamed_as n.volume.nodes found n.moment there h.node);
        below = h.below;
      })

  name_of : (v : VolumeState) (fault : Option model.Status) (dots : Bool) (bad : model.Status) (search : Bool) (asks : Option model.Status) (x : Effect)
      → then_asks (needs search) (cond (is_some fault || dots) None asks) ≡ None → (asks ≡ None → Ends S v x)
      → Ends S v (unless fault (cond dots (Fails bad) x))
  name_of v (Some fault) dots bad search asks x e f = fails S v fault
  name_of v None true bad search asks x e f = fails S v bad
  name_of v None false bad true asks x e f = f e
  name_of v None false bad false asks x e f = absurd cc

  name_of_two : (v : VolumeState) (fault : Option model.Status) (one two : Bool) (search : Bool) (asks : Option model.Status) (x : Effect)
      → then_asks (needs search) (cond (is_some fault || (one || two)) None asks) ≡ None → (asks ≡ None → Ends S v x)
      → Ends S v (unless fault (cond one (Fails model.Invalid) (cond two (Fails model.Exists) x)))
  name_of_two v (Some fault) one two search asks x e f = fails S v fault
  name_of_two v None true two search asks x e f = fails S v model.Invalid
  name_of_two v None false true search asks x e f = fails S v model.Exists
  name_of_two v None false false true asks x e f = f e
  name_of_two v None false false false asks x e f = absurd cc

  -- a name in a directory, with what is asked of it
  abbrev asks_of : Protection → List ℕ → VolumeState → DirectoryNode → (Protection → Option Found → Option model.Status) → Option model.Status
  asks_of p name v d ask =
      then_asks (needs (may_search caller.credential p)) (if is_no_child name then None else ask p (child v (find_name name d.list)))

  in_directory_of : (v : VolumeState) (name : List ℕ) (ask : Protection → Option Found → Option model.Status) (run : DirectoryNode → Effect) (o : Option Node)
      → of_directory o (λ d. asks_of (protection (Directory d)) name v d ask) ≡ None
      → ((d : DirectoryNode) → o ≡ Some (Directory d) → asks_of (protection (Directory d)) name v d ask ≡ None → Ends S v (run d))
      → Ends S v (on_directory o run)
  in_directory_of v name ask run None none f = fails S v model.Stale
  in_directory_of v name ask run (Some (File g)) none f = fails S v model.NotDirectory
  in_directory_of v name ask run (Some (Special t)) none f = fails S v model.NotDirectory
  in_directory_of v name ask run (Some (Directory d)) none f = f d refl none

  -- CREATE

  sized_over : (v : VolumeState) (checked unsized may : Bool) (x y : Effect) → checked ≡ true → needs (unsized || may) ≡ None → Ends S v x
      → (may ≡ true → Ends S v y) → Ends S v (cond (checked && unsized) x y)
  sized_over v true true may x y e none f g = f
  sized_over v true false may x y e none f g = g (needs_true may none)
  sized_over v false unsized may x y e none f g = absurd cc

  over_stays : (n : Naming) (mode : model.CreateMode) (k : ℕ) (node : Node) → get n.volume.nodes k ≡ Some node
      → over_refusal caller.credential mode node ≡ None → Ends S n.volume (create_over n mode caller k node)
  over_stays n (model.Guarded set) k node e none = fails S n.volume model.Exists
  over_stays n (model.Unchecked set) k (Directory d) e none = fails S n.volume model.Exists
  over_stays n (model.Exclusive verifier) k (Directory d) e none = fails S n.volume model.Exists
  over_stays n (model.Unchecked set) k (Special t) e none = fails S n.volume model.Exists
  over_stays n (model.Exclusive verifier) k (Special t) e none = fails S n.volume model.Exists
  over_stays n (model.Exclusive verifier) k (File g) e none =
      if_ends S n.volume (is_verifier g.verifier verifier) _ _ (tells S n.volume _ (λ h. h)) (fails S n.volume model.Exists)
  over_stays n (model.Unchecked set) k (File g) e none =
      sized_over n.volume caller.checked (is_none set.size) (may_write caller.credential (protection (File g))) _ _ (is_checked old caller s) none
      (tells S n.volume _ (λ h. h))
      (λ may. unless_ends S n.volume _ _ (changes S n.volume _ _ refl
      (λ h. with_node_stays old q n.volume k _ (λ same. absurd (another_file n.volume k g e may h same)) h)))

  create_at_stays : (n : Naming) (mode : model.CreateMode) (o : Option Found) → child n.volume (find_name n.name n.directory.list) ≡ o
      → get n.volume.nodes n.fileid ≡ Some (Directory n.directory) → create_refusal caller.credential mode (protection (Directory n.directory)) o ≡ None
      → Ends S n.volume (create_at n mode caller o)
  create_at_stays n mode None c e none = unless_ends S n.volume _ _ (made_stays n (new_file mode (maker caller n) n.moment) e (needs_true _ none))
  create_at_stays n mode (Some found) c e none = over_stays n mode found.fileid found.node (found_there n.volume _ found c) none

  pub create_stays : (directory name : List ℕ) (mode : model.CreateMode) (moment : model.Moment) (v : VolumeState) (k : ℕ)
      → Ends S v (permitted caller (model.Create directory name mode) (on_name name moment (create mode caller)) v k)
  create_stays directory name mode moment v k =
      permitted_stays (model.Create directory name mode) (on_name name moment (create mode caller)) v k (λ none.
      in_directory_of v name (create_refusal caller.credential mode) _ (get v.nodes k) none (λ d e asks.
      let n : Naming = record { volume = v; fileid = k; directory = d; name = name; moment = moment } in
      name_of v (name_fault name) (is_dots name) model.Exists _ _ _ asks (create_at_stays n mode (child v (find_name name d.list)) refl e)))

  -- MKDIR

  mkdir_at_stays : (n : Naming) (set : model.SetAttributes) (o : Option Found) → get n.volume.nodes n.fileid ≡ Some (Directory n.directory)
      → new_refusal caller.credential (protection (Directory n.directory)) o ≡ None → Ends S n.volume (mkdir_at n set caller o)
  mkdir_at_stays n set None e none =
      unless_ends S n.volume _ _ (made_stays n (new_directory n.fileid set (maker caller n) n.moment) e (needs_true _ none))
  mkdir_at_stays n set (Some found) e none = fails S n.volume model.Exists

  pub mkdir_stays : (directory name : List ℕ) (set : model.SetAttributes) (moment : model.Moment) (v : VolumeState) (k : ℕ)
      → Ends S v (permitted caller (model.Mkdir directory name set) (on_name name moment (mkdir set caller)) v k)
  mkdir_stays directory name set moment v k =
      permitted_stays (model.Mkdir directory name set) (on_name name moment (mkdir set caller)) v k (λ none.
      in_directory_of v name (new_refusal caller.credential) _ (get v.nodes k) none (λ d e asks.
      let n : Naming = record { volume = v; fileid = k; directory = d; name = name; moment = moment } in
      name_of v (name_fault name) (is_dots name) model.Exists _ _ _ asks (mkdir_at_stays n set (child v (find_name name d.list)) e)))

  -- SYMLINK and MKNOD

  symlink_at_stays : (n : Naming) (set : model.SetAttributes) (text : List ℕ) (o : Option Found)
      → get n.volume.nodes n.fileid ≡ Some (Directory n.directory) → new_refusal caller.credential (protection (Directory n.directory)) o ≡ None
      → Ends S n.volume (symlink_at n set text caller o)
  symlink_at_stays n set text None e none =
      unless_ends S n.volume (text_fault text) _
      (unless_ends S n.volume _ _ (made_stays n (new_special model.SymbolicLink 511 set text (maker caller n) n.moment) e (needs_true _ none)))
  symlink_at_stays n set text (Some found) e none = fails S n.volume model.Exists

  pub symlink_stays : (directory name : List ℕ) (set : model.SetAttributes) (text : List ℕ) (moment : model.Moment) (v : VolumeState) (k : ℕ)
      → Ends S v (permitted caller (model.Symlink directory name set text) (on_name name moment (symlink set text caller)) v k)
  symlink_stays directory name set text moment v k =
      permitted_stays (model.Symlink directory name set text) (on_name name moment (symlink set text caller)) v k (λ none.
      in_directory_of v name (new_refusal caller.credential) _ (get v.nodes k) none (λ d e asks.
      let n : Naming = record { volume = v; fileid = k; directory = d; name = name; moment = moment } in
      name_of v (name_fault name) (is_dots name) model.Exists _ _ _ asks (symlink_at_stays n set text (child v (find_name name d.list)) e)))

  made_kind : (v : VolumeState) (special : model.SpecialType) (x : Effect) → Ends S v x → Ends S v (if_made special x)
  made_kind v model.SymbolicLink x f = fails S v model.BadType
  made_kind v model.Fifo x f = f
  made_kind v model.Socket x f = f
  made_kind v (model.BlockDevice device) x f = f
  made_kind v (model.CharacterDevice device) x f = f

  mknod_at_stays : (n : Naming) (kind : model.Kind) (set : model.SetAttributes) (o : Option Found)
      → get n.volume.nodes n.fileid ≡ Some (Directory n.directory)
      → mknod_refusal caller.credential kind (protection (Directory n.directory)) o ≡ None → Ends S n.volume (mknod_at n kind set caller o)
  mknod_at_stays n model.Regular set None e none = fails S n.volume model.BadType
  mknod_at_stays n model.DirectoryKind set None e none = fails S n.volume model.BadType
  mknod_at_stays n (model.SpecialKind special) set None e none =
      made_kind n.volume special _ (unless_ends S n.volume _ _ (made_stays n (new_special special 420 set [] (maker caller n) n.moment) e
      (needs_true _ (first_none _ _ none))))
  mknod_at_stays n kind set (Some found) e none = fails S n.volume model.Exists

  pub mknod_stays : (directory name : List ℕ) (kind : model.Kind) (set : model.SetAttributes) (moment : model.Moment) (v : VolumeState) (k : ℕ)
      → Ends S v (permitted caller (model.Mknod directory name kind set) (on_name name moment (mknod kind set caller)) v k)
  mknod_stays directory name kind set moment v k =
      permitted_stays (model.Mknod directory name kind set) (on_name name moment (mknod kind set caller)) v k (λ none.
      in_directory_of v name (mknod_refusal caller.credential kind) _ (get v.nodes k) none (λ d e asks.
      let n : Naming = record { volume = v; fileid = k; directory = d; name = name; moment = moment } in
      name_of v (name_fault name) (is_dots name) model.Exists _ _ _ asks (mknod_at_stays n kind set (child v (find_name name d.list)) e)))

  -- LINK

  linked_stays : (object : Found) (n : Naming) → get n.volume.nodes n.fileid ≡ Some (Directory n.directory)
      → get n.volume.nodes object.fileid ≡ Some object.node
      → may_change caller.credential (protection (Directory n.directory)) ≡ true → Ends S n.volume (linked n object)
  linked_stays object n e there may =
      changes S n.volume _ (with_another n object) refl (λ h. record {
        node = insert_as old q (insert n.volume.nodes object.fileid (with_link n.moment object.node)) n.fileid _
            (λ same. absurd (another n.volume n.fileid n.directory e may h same))
            (insert_as old q n.volume.nodes object.fileid (with_link n.moment object.node)
            (λ same. linked_as old object.node n.moment (as_there old q n.volume.nodes object.fileid object.node there same h.node)) h.node);
        below = h.below;
      })

  link_at_stays : (object : Found) (n : Naming) (o : Option Found) → get n.volume.nodes n.fileid ≡ Some (Directory n.directory)
      → get n.volume.nodes object.fileid ≡ Some object.node
      → new_refusal caller.credential (protection (Directory n.directory)) o ≡ None → Ends S n.volume (link_at object n o)
  link_at_stays object n None e there none = unless_ends S n.volume (links_fault object.node) _ (linked_stays object n e there (needs_true _ none))
  link_at_stays object n (Some found) e there none = fails S n.volume model.Exists

  link_of : (name : List ℕ) (moment : model.Moment) (v : VolumeState) (k directory : ℕ) (o : Option Node) → get v.nodes k ≡ o
      → of_node o (λ object. of_directory (get v.nodes directory) (λ d. asks_of (protection (Directory d)) name v d (new_refusal caller.credential))) ≡ None
      → Ends S v (on_node o (λ node. unless (directory_fault node)
      (on_name name moment (link_name (record { fileid = k; node = node })) v directory)))
  link_of name moment v k directory None e none = fails S v model.Stale
  link_of name moment v k directory (Some node) e none =
      unless_ends S v (directory_fault node) _
      (in_directory_of v name (new_refusal caller.credential) _ (get v.nodes directory) none (λ d f asks.
      let n : Naming = record { volume = v; fileid = directory; directory = d; name = name; moment = moment } in
      name_of v (name_fault name) (is_dots name) model.Exists _ _ _ asks
      (link_at_stays (record { fileid = k; node = node }) n (child v (find_name name d.list)) f e)))

  pub link_stays : (handle directory name : List ℕ) (moment : model.Moment) (v : VolumeState) (k l : ℕ)
      → Ends S v (permitted_two caller (model.Link handle directory name) (link name moment) v k l)
  link_stays handle directory name moment v k l =
      permitted_two_stays (model.Link handle directory name) (link name moment) v k l (link_of name moment v k l (get v.nodes k) refl)

  -- REMOVE and RMDIR

  remove_at_stays : (n : Naming) (o : Option Found) → get n.volume.nodes n.fileid ≡ Some (Directory n.directory) → AreThere n.volume.nodes o
      → gone_refusal caller.credential (protection (Directory n.directory)) o ≡ None → Ends S n.volume (remove_at n o)
  remove_at_stays n None e there none = fails S n.volume model.NoEntry
  remove_at_stays n (Some found) e there none = of_kind found.node
    where
      of_kind : (node : Node) → Ends S n.volume (remove_found n found node)
      of_kind (File g) = gone_stays n found e there (needs_true _ (first_none _ _ none))
      of_kind (Directory d) = fails S n.volume model.IsDirectory
      of_kind (Special t) = gone_stays n found e there (needs_true _ (first_none _ _ none))

  pub remove_stays : (directory name : List ℕ) (moment : model.Moment) (v : VolumeState) (k : ℕ)
      → Ends S v (permitted caller (model.Remove directory name) (on_name name moment remove_name) v k)
  remove_stays directory name moment v k =
      permitted_stays (model.Remove directory name) (on_name name moment remove_name) v k (λ none.
      in_directory_of v name (gone_refusal caller.credential) _ (get v.nodes k) none (λ d e asks.
      let n : Naming = record { volume = v; fileid = k; directory = d; name = name; moment = moment } in
      name_of v (name_fault name) (is_dots name) model.Invalid _ _ _ asks (remove_at_stays n (child v (find_name name d.list)) e
      (child_there v (find_name name d.list) (child v (find_name name d.list)) refl))))

  rmdir_at_stays : (n : Naming) (o : Option Found) → get n.volume.nodes n.fileid ≡ Some (Directory n.directory) → AreThere n.volume.nodes o
      → gone_refusal caller.credential (protection (Directory n.directory)) o ≡ None → Ends S n.volume (rmdir_at n o)
  rmdir_at_stays n None e there none = fails S n.volume model.NoEntry
  rmdir_at_stays n (Some found) e there none = of_kind found.node
    where
      of_kind : (node : Node) → Ends S n.volume (rmdir_found n found node)
      of_kind (File g) = fails S n.volume model.NotDirectory
      of_kind (Directory d) = empty_ends S n.volume d.list _ (gone_stays n found e there (needs_true _ (first_none _ _ none)))
      of_kind (Special t) = fails S n.volume model.NotDirectory

  pub rmdir_stays : (directory name : List ℕ) (moment : model.Moment) (v : VolumeState) (k : ℕ)
      → Ends S v (permitted caller (model.Rmdir directory name) (on_name name moment rmdir) v k)
  rmdir_stays directory name moment v k =
      permitted_stays (model.Rmdir directory name) (on_name name moment rmdir) v k (λ none.
      in_directory_of v name (gone_refusal caller.credential) _ (get v.nodes k) none (λ d e asks.
      let n : Naming = record { volume = v; fileid = k; directory = d; name = name; moment = moment } in
      name_of_two v (name_fault name) (same_name name dot) (same_name name dot_dot) _ _ _ asks
      (rmdir_at_stays n (child v (find_name name d.list)) e (child_there v (find_name name d.list) (child v (find_name name d.list)) refl))))

  -- RENAME

  if_by : (v : VolumeState) (b : Bool) (x y : Effect) → Ends S v x → (b ≡ false → Ends S v y) → Ends S v (cond b x y)
  if_by v true x y f g = f
  if_by v false x y f g = g refl

  -- directories whose names change
  apart_as : (change : DirectoryNode → DirectoryNode) (k : ℕ) (nodes : Nodes) → (k ≡ q → ⊥) → IsAsWas old (get nodes q)
      → IsAsWas old (get (changed_node (in_directory change) k (get nodes k) nodes) q)
  apart_as change k nodes n w = changed_as old q (in_directory change) k (get nodes k) nodes refl (λ same. absurd (n same)) w

  target_as : (to : Naming) (target : Option Found) (nodes : Nodes) → (to.fileid ≡ q → ⊥) → AreThere nodes target → IsAsWas old (get nodes q)
      → IsAsWas old (get (without_target to target nodes) q)
  target_as to None nodes n there w = w
  target_as to (Some target) nodes n there w = apart_as _ to.fileid _ n (unnamed_as nodes target to.moment there w)

  renamed_as : (r : Renaming) (k : ℕ) (target : Option Found) (nodes : Nodes) → (r.from.fileid ≡ q → ⊥) → (r.to.fileid ≡ q → ⊥)
      → AreThere nodes target → IsAsWas old (get nodes q) → IsAsWas old (get (renamed_nodes r k target nodes) q)
  renamed_as r k target nodes from to there w =
      let one : Nodes = without_target r.to target nodes in
      let two : Nodes = without_entry r.from one in
      let three : Nodes = with_entry r.to k two in
      changed_as old q (moved_node r.to.fileid r.to.moment) k (get three k) three refl
      (λ same node a. moved_as old node r.to.fileid r.to.moment a)
      (apart_as _ r.to.fileid two to (apart_as _ r.from.fileid one from (target_as r.to target nodes to there w)))

  may_of_gone : (p : Protection) (found : Found) → gone_refusal caller.credential p (Some found) ≡ None → may_change caller.credential p ≡ true
  may_of_gone p found none = needs_true _ (first_none _ _ none)

  may_of_target : (p : Protection) (o : Option Found) → target_refusal caller.credential p o ≡ None → may_change caller.credential p ≡ true
  may_of_target p None none = needs_true _ none
  may_of_target p (Some found) none = may_of_gone p found none

  asked_other : (one : Bool) (asks : Option model.Status) → one ≡ false → cond one None asks ≡ None → asks ≡ None
  asked_other true asks e f = absurd cc
  asked_other false asks e f = f

  -- what moves leaves a directory that may be changed, and comes into one
  may_leave : (stays : Bool) (from to : Protection) (found : Found) (target : Option Found) → is_node_of found.fileid target ≡ false
      → move_refusal caller.credential stays from to (Some found) target ≡ None → may_change caller.credential from ≡ true
  may_leave stays from to found target other none =
      may_of_gone from found (first_none (gone_refusal caller.credential from (Some found))
      (then_asks (target_refusal caller.credential to target) (moved_refusal caller.credential stays found.node)) (asked_other _ _ other none))

  may_come : (stays : Bool) (from to : Protection) (found : Found) (target : Option Found) → is_node_of found.fileid target ≡ false
      → move_refusal caller.credential stays from to (Some found) target ≡ None → may_change caller.credential to ≡ true
  may_come stays from to found target other none =
      may_of_target to target (first_none (target_refusal caller.credential to target) (moved_refusal caller.credential stays found.node)
      (second_none (gone_refusal caller.credential from (Some found))
      (then_asks (target_refusal caller.credential to target) (moved_refusal caller.credential stays found.node)) (asked_other _ _ other none)))

  rename_at_stays : (r : Renaming) (stays : Bool) (from to : Option Found)
      → get r.from.volume.nodes r.from.fileid ≡ Some (Directory r.from.directory)
      → get r.from.volume.nodes r.to.fileid ≡ Some (Directory r.to.directory)
      → AreThere r.from.volume.nodes to
      → move_refusal caller.credential stays (protection (Directory r.from.directory)) (protection (Directory r.to.directory)) from to ≡ None
      → Ends S r.from.volume (rename_at r from to)
  rename_at_stays r stays None to e f at asks = fails S r.from.volume model.NoEntry
  rename_at_stays r stays (Some found) to e f at asks =
      let v = r.from.volume in
      let here : Protection = protection (Directory r.from.directory) in
      let there : Protection = protection (Directory r.to.directory) in
      if_by v (is_node_of found.fileid to) _ _ (tells S v _ (λ h. h)) (λ other.
      unless_ends S v (climb_fault (met_above r found.fileid found.node)) _
      (if_ends S v (not (may_go found.node to)) _ _ (fails S v model.Exists)
      (changes S v _ (renamed_volume r found.fileid to) refl (λ h. record {
        node = renamed_as r found.fileid to v.nodes
            (another v r.from.fileid r.from.directory e (may_leave stays here there found to other asks) h)
            (another v r.to.fileid r.to.directory f (may_come stays here there found to other asks) h)
            at
            h.node;
        below = h.below;
      }))))

  rename_names : (v : VolumeState) (fa fb : Option model.Status) (da db sd se : Bool) (asks : Option model.Status) (x : Effect)
      → then_asks (needs sd) (then_asks (needs se) (cond ((is_some fa || da) || (is_some fb || db)) None asks)) ≡ None
      → (asks ≡ None → Ends S v x) → Ends S v (unless fa (unless fb (cond (da || db) (Fails model.Invalid) x)))
  rename_names v (Some a) fb da db sd se asks x e f = fails S v a
  rename_names v None (Some b) da db sd se asks x e f = fails S v b
  rename_names v None None true db sd se asks x e f = fails S v model.Invalid
  rename_names v None None false true sd se asks x e f = fails S v model.Invalid
  rename_names v None None false false true true asks x e f = f e
  rename_names v None None false false true false asks x e f = absurd cc
  rename_names v None None false false false se asks x e f = absurd cc

  rename_in_stays : (v : VolumeState) (a b : List ℕ) (moment : model.Moment) (from to : ℕ) (o p : Option Node)
      → get v.nodes from ≡ o → get v.nodes to ≡ p
      → of_directory o (λ d. of_directory p (λ e.
      then_asks (needs (may_search caller.credential (protection (Directory d))))
      (then_asks (needs (may_search caller.credential (protection (Directory e))))
      (if is_no_child a || is_no_child b then None
      else move_refusal caller.credential (from == to) (protection (Directory d)) (protection (Directory e))
      (child v (find_name a d.list)) (child v (find_name b e.list)))))) ≡ None
      → Ends S v (on_directory o (λ d. on_directory p (λ e. rename_in (record {
        from = record { volume = v; fileid = from; directory = d; name = a; moment = moment };
        to = record { volume = v; fileid = to; directory = e; name = b; moment = moment };
      }))))
  rename_in_stays v a b moment from to None p e f none = fails S v model.Stale
  rename_in_stays v a b moment from to (Some (File g)) p e f none = fails S v model.NotDirectory
  rename_in_stays v a b moment from to (Some (Special t)) p e f none = fails S v model.NotDirectory
  rename_in_stays v a b moment from to (Some (Directory d)) None e f none = fails S v model.Stale
  rename_in_stays v a b moment from to (Some (Directory d)) (Some (File g)) e f none = fails S v model.NotDirectory
  rename_in_stays v a b moment from to (Some (Directory d)) (Some (Special t)) e f none = fails S v model.NotDirectory
  rename_in_stays v a b moment from to (Some (Directory d)) (Some (Directory c)) e f none =
      let r : Renaming = record {
        from = record { volume = v; fileid = from; directory = d; name = a; moment = moment };
        to = record { volume = v; fileid = to; directory = c; name = b; moment = moment };
      } in
      rename_names v (name_fault a) (name_fault b) (is_dots a) (is_dots b) _ _ _ _ none (λ asks.
      rename_at_stays r (from == to) (child v (find_name a d.list)) (child v (find_name b c.list)) e f
      (child_there v (find_name b c.list) (child v (find_name b c.list)) refl) asks)

  pub rename_stays : (from_handle a to_handle b : List ℕ) (moment : model.Moment) (v : VolumeState) (from to : ℕ)
      → Ends S v (permitted_two caller (model.Rename from_handle a to_handle b) (rename a b moment) v from to)
  rename_stays from_handle a to_handle b moment v from to =
      permitted_two_stays (model.Rename from_handle a to_handle b) (rename a b moment) v from to
      (rename_in_stays v a b moment from to (get v.nodes from) (get v.nodes to) refl refl)
