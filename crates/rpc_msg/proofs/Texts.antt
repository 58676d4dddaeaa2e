-- What leaves the texts of symbolic links short.
use Rattle.std.proofs.Common.{◌≡◌, ℕ, ◌-◌, Bool, true, false, cond, [], ◌∷◌, Option, Some, None, sym, subst}
use Rattle.std.specs.Prelude.{IfSome, nat_le}
use Rattle.std.specs.Ordering.{nat_cmp, is_eq}
use Rattle.std.specs.FinMap.{get, insert, remove, from_sorted, get-insert, get-remove, get-from_sorted}
use Rattle.std.specs.Cmp.{nat_cmp_total}
use Rattle.nfs_model.specs.Types as model
use Rattle.nfs_model.specs.Server.{FileNode, DirectoryNode, Node, File, Directory, Special, VolumeState}
use Rattle.nfs_model.specs.Names.{dropped_name, with_name, find_name}
use Rattle.nfs_model.specs.Locate.{Found, found_at, child, Naming, named_child}
use Rattle.nfs_model.specs.Serial.Setattr.{set_node}
use Rattle.nfs_model.specs.Serial.Links.{linked_file, linked_special, with_link, without_link, node_left}
use Rattle.nfs_model.specs.Serial.Rename.{Nodes, Renaming, changed_node, in_directory, without_entry, with_entry, without_target}
use Rattle.nfs_model.specs.Serial.Rename.{moved_node, with_moved, renamed_nodes}
use Rattle.rpc_msg.specs.Room.{HasShortText, HaveShortTexts}

abbrev IsShortIn : Option Node → Type 0
IsShortIn o = IfSome o HasShortText

-- ---- nodes

pub insert_short : (nodes : Nodes) (k : ℕ) (node : Node) → HasShortText node → HaveShortTexts nodes → HaveShortTexts (insert nodes k node)
insert_short nodes k node h all q = subst (λ (o : Option Node). IsShortIn o) (sym (get-insert nat_cmp_total nodes k node q)) (by (is_eq (nat_cmp q k)))
  where
    by : (b : Bool) → IsShortIn (cond b (Some node) (get nodes q))
    by true = h
    by false = all q

pub remove_short : (nodes : Nodes) (k : ℕ) → HaveShortTexts nodes → HaveShortTexts (remove nodes k)
remove_short nodes k all q = subst (λ (o : Option Node). IsShortIn o) (sym (get-remove nat_cmp_total nodes k q)) (by (is_eq (nat_cmp q k)))
  where
    by : (b : Bool) → IsShortIn (cond b None (get nodes q))
    by true = tt
    by false = all q

-- a file, which has no text
pub file_short : (nodes : Nodes) (k : ℕ) (f : FileNode) → HaveShortTexts nodes → HaveShortTexts (insert nodes k (File f))
file_short nodes k f all = insert_short nodes k (File f) tt all

-- the node of a fileid
pub short_there : (nodes : Nodes) (fileid : ℕ) (node : Node) → get nodes fileid ≡ Some node → HaveShortTexts nodes → HasShortText node
short_there nodes fileid node e all = subst (λ (o : Option Node). IsShortIn o) e (all fileid)

-- of what was found
abbrev pub IsShortFound : Option Found → Type 0
IsShortFound o = IfSome o (λ (f : Found). HasShortText f.node)

found_short : (fileid : ℕ) (o : Option Node) → IsShortIn o → IsShortFound (found_at fileid o)
found_short fileid None h = tt
found_short fileid (Some node) h = h

child_short : (volume : VolumeState) (o : Option model.Listed) → HaveShortTexts volume.nodes → IsShortFound (child volume o)
child_short volume None all = tt
child_short volume (Some e) all = found_short e.fileid (get volume.nodes e.fileid) (all e.fileid)

pub named_short : (n : Naming) → HaveShortTexts n.volume.nodes → IsShortFound (named_child n)
named_short n all = child_short n.volume (find_name n.name n.directory.list) all

-- ---- changes of a node

pub set_short : (set : model.SetAttributes) (moment : model.Moment) (node : Node) → HasShortText node → HasShortText (set_node set moment node)
set_short set moment (File f) h = tt
set_short set moment (Directory d) h = tt
set_short set moment (Special s) h = h

pub linked_short : (moment : model.Moment) (node : Node) → HasShortText node → HasShortText (with_link moment node)
linked_short moment (File f) h = tt
linked_short moment (Directory d) h = tt
linked_short moment (Special s) h = h

if_left : (b : Bool) (node : Node) → HasShortText node → IsShortIn (cond b None (Some node))
if_left true node h = tt
if_left false node h = h

unlinked_short : (moment : model.Moment) (node : Node) → HasShortText node → IsShortIn (without_link moment node)
unlinked_short moment (File f) h = if_left (nat_le f.links 1) (File (linked_file (f.links - 1) moment f)) tt
unlinked_short moment (Directory d) h = tt
unlinked_short moment (Special s) h = if_left (nat_le s.links 1) (Special (linked_special (s.links - 1) moment s)) h

moved_short : (parent : ℕ) (moment : model.Moment) (node : Node) → HasShortText node → HasShortText (moved_node parent moment node)
moved_short parent moment (File f) h = tt
moved_short parent moment (Directory d) h = tt
moved_short parent moment (Special s) h = h

entry_short : (change : DirectoryNode → DirectoryNode) (node : Node) → HasShortText node → HasShortText (in_directory change node)
entry_short change (File f) h = tt
entry_short change (Directory d) h = tt
entry_short change (Special s) h = h

-- ---- changes of nodes

left_by : (nodes : Nodes) (fileid : ℕ) (o : Option Node) → IsShortIn o → HaveShortTexts nodes → HaveShortTexts (node_left nodes fileid o)
left_by nodes fileid None h all = remove_short nodes fileid all
left_by nodes fileid (Some node) h all = insert_short nodes fileid node h all

-- without one of its names
pub left_short : (moment : model.Moment) (nodes : Nodes) (fileid : ℕ) (node : Node) → HasShortText node → HaveShortTexts nodes
    → HaveShortTexts (node_left nodes fileid (without_link moment node))
left_short moment nodes fileid node h all = left_by nodes fileid (without_link moment node) (unlinked_short moment node h) all

changed_by : (change : Node → Node) → ((node : Node) → HasShortText node → HasShortText (change node)) → (fileid : ℕ) (o : Option Node) (nodes : Nodes)
    → IsShortIn o → HaveShortTexts nodes → HaveShortTexts (changed_node change fileid o nodes)
changed_by change keeps fileid None nodes h all = all
changed_by change keeps fileid (Some node) nodes h all = insert_short nodes fileid (change node) (keeps node h) all

without_entry_short : (n : Naming) (nodes : Nodes) → HaveShortTexts nodes → HaveShortTexts (without_entry n nodes)
without_entry_short n nodes all =
    let change : DirectoryNode → DirectoryNode = λ d. dropped_name d n.name n.moment in
    changed_by (in_directory change) (entry_short change) n.fileid (get nodes n.fileid) nodes (all n.fileid) all

with_entry_short : (n : Naming) (child : ℕ) (nodes : Nodes) → HaveShortTexts nodes → HaveShortTexts (with_entry n child nodes)
with_entry_short n child nodes all =
    let change : DirectoryNode → DirectoryNode = λ d. with_name d n.name child n.moment in
    changed_by (in_directory change) (entry_short change) n.fileid (get nodes n.fileid) nodes (all n.fileid) all

with_moved_short : (n : Naming) (child : ℕ) (nodes : Nodes) → HaveShortTexts nodes → HaveShortTexts (with_moved n child nodes)
with_moved_short n child nodes all =
    changed_by (moved_node n.fileid n.moment) (moved_short n.fileid n.moment) child (get nodes child) nodes (all child) all

without_target_short : (n : Naming) (o : Option Found) (nodes : Nodes) → IsShortFound o → HaveShortTexts nodes → HaveShortTexts (without_target n o nodes)
without_target_short n None nodes h all = all
without_target_short n (Some target) nodes h all =
    without_entry_short n (node_left nodes target.fileid (without_link n.moment target.node)) (left_short n.moment nodes target.fileid target.node h all)

-- a RENAME, whose target was found
pub renamed_short : (r : Renaming) (child : ℕ) (target : Option Found) (nodes : Nodes) → IsShortFound target → HaveShortTexts nodes
    → HaveShortTexts (renamed_nodes r child target nodes)
renamed_short r child target nodes h all =
    with_moved_short r.to child _ (with_entry_short r.to child _ (without_entry_short r.from _ (without_target_short r.to target nodes h all)))

-- ---- as a volume begins: a root alone, which has no text

pub root_short : (root : DirectoryNode) → HaveShortTexts (from_sorted ((1, Directory root) ∷ []))
root_short root q = subst (λ (o : Option Node). IsShortIn o) (sym (get-from_sorted nat_cmp ((1, Directory root) ∷ []) q tt)) (by (is_eq (nat_cmp q 1)))
  where
    by : (b : Bool) → IsShortIn (cond b (Some (Directory root)) None)
    by true = tt
    by false = tt
