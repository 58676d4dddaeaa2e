-- The fileids of a volume's nodes lie below the next one, which is why none is used again.
use Rattle.std.proofs.Common.{◌≡◌, ℕ, ◌+◌, Bool, true, false, cond, Option, Some, None, refl, sym, ap, ◌∙◌, subst, arith}
use Rattle.std.specs.Prelude.{nat_lt}
use Rattle.std.proofs.lemmas.Bool.Decides.{nat_tests}
use Rattle.std.specs.Ordering.{nat_cmp, is_eq}
use Rattle.std.specs.declared.cmp.Ordering.{Ordering}
use Rattle.std.specs.declared.cmp.Ordering.TheVariants.{Less, Equal, Greater}
use Rattle.std.specs.Cmp.{nat_cmp_total}
use Rattle.std.specs.FinMap.{get, insert, remove, get-insert, get-remove, nat_cmp-IsAntisymmetric}
use Rattle.nfs_model.specs.Types as model
use Rattle.nfs_model.specs.Server.{DirectoryNode, Node, VolumeState}
use Rattle.nfs_model.specs.Locate.{Found, found_at, child, Naming}
use Rattle.nfs_model.specs.Serial.Links.{without_link, node_left}
use Rattle.nfs_model.specs.Serial.Rename.{Renaming, Nodes, changed_node, in_directory, moved_node, without_entry, with_entry, without_target, renamed_nodes}

-- every fileid of these nodes is below a number
abbrev pub AreBelow : ℕ → Nodes → Type 0
AreBelow next nodes = (k : ℕ) (node : Node) → get nodes k ≡ Some node → nat_lt k next ≡ true

-- ---- one more, one less, one changed

put_below : (o : Ordering) (next x : ℕ) (new : Node) (there : Option Node) (node : Node) → (o ≡ Equal → nat_lt x next ≡ true)
    → (there ≡ Some node → nat_lt x next ≡ true) → cond (is_eq o) (Some new) there ≡ Some node → nat_lt x next ≡ true
put_below Less next x new there node f g e = g e
put_below Equal next x new there node f g e = f refl
put_below Greater next x new there node f g e = g e

pub insert_below : (next : ℕ) (nodes : Nodes) (k : ℕ) (new : Node) → nat_lt k next ≡ true → AreBelow next nodes → AreBelow next (insert nodes k new)
insert_below next nodes k new b all x node e =
    put_below (nat_cmp x k) next x new (get nodes x) node (λ same. ap (λ (i : ℕ). nat_lt i next) (nat_cmp-IsAntisymmetric x k same) ∙ b)
    (all x node) (sym (get-insert nat_cmp_total nodes k new x) ∙ e)

gone_below : (b : Bool) (next x : ℕ) (there : Option Node) (node : Node) → (there ≡ Some node → nat_lt x next ≡ true)
    → cond b None there ≡ Some node → nat_lt x next ≡ true
gone_below true next x there node g e = absurd cc
gone_below false next x there node g e = g e

pub remove_below : (next : ℕ) (nodes : Nodes) (k : ℕ) → AreBelow next nodes → AreBelow next (remove nodes k)
remove_below next nodes k all x node e =
    gone_below (is_eq (nat_cmp x k)) next x (get nodes x) node (all x node) (sym (get-remove nat_cmp_total nodes k x) ∙ e)

pub left_below : (next : ℕ) (nodes : Nodes) (k : ℕ) (left : Option Node) → nat_lt k next ≡ true → AreBelow next nodes → AreBelow next (node_left nodes k left)
left_below next nodes k None b all = remove_below next nodes k all
left_below next nodes k (Some node) b all = insert_below next nodes k node b all

changed_below : (next : ℕ) (change : Node → Node) (k : ℕ) (o : Option Node) (nodes : Nodes) → get nodes k ≡ o → AreBelow next nodes
    → AreBelow next (changed_node change k o nodes)
changed_below next change k None nodes e all = all
changed_below next change k (Some node) nodes e all = insert_below next nodes k (change node) (all k node e) all

pub below_more : (k next : ℕ) → nat_lt k next ≡ true → nat_lt k (next + 1) ≡ true
below_more k next e = grind (arith, nat_tests)

pub below_next : (next : ℕ) → nat_lt next (next + 1) ≡ true
below_next next = grind (arith, nat_tests)

pub more_below : (next : ℕ) (nodes : Nodes) → AreBelow next nodes → AreBelow (next + 1) nodes
more_below next nodes all k node e = below_more k next (all k node e)

-- ---- a RENAME

entry_below : (next : ℕ) (change : DirectoryNode → DirectoryNode) (k : ℕ) (nodes : Nodes) → AreBelow next nodes
    → AreBelow next (changed_node (in_directory change) k (get nodes k) nodes)
entry_below next change k nodes all = changed_below next (in_directory change) k (get nodes k) nodes refl all

-- what is found is there
abbrev pub AreThere : Nodes → Option Found → Type 0
AreThere nodes None = Unit {0}
AreThere nodes (Some found) = get nodes found.fileid ≡ Some found.node

target_below : (next : ℕ) (to : Naming) (target : Option Found) (nodes : Nodes) → AreThere nodes target → AreBelow next nodes
    → AreBelow next (without_target to target nodes)
target_below next to None nodes there all = all
target_below next to (Some target) nodes there all =
    entry_below next _ to.fileid _ (left_below next nodes target.fileid (without_link to.moment target.node) (all target.fileid target.node there) all)

pub renamed_below : (next : ℕ) (r : Renaming) (k : ℕ) (target : Option Found) (nodes : Nodes) → AreThere nodes target → AreBelow next nodes
    → AreBelow next (renamed_nodes r k target nodes)
renamed_below next r k target nodes there all =
    let one : Nodes = without_target r.to target nodes in
    let two : Nodes = without_entry r.from one in
    let three : Nodes = with_entry r.to k two in
    changed_below next (moved_node r.to.fileid r.to.moment) k (get three k) three refl
    (entry_below next _ r.to.fileid two (entry_below next _ r.from.fileid one (target_below next r.to target nodes there all)))

-- ---- what names stand for

found_node : (k : ℕ) (volume : VolumeState) (o : Option Node) (found : Found) → get volume.nodes k ≡ o → found_at k o ≡ Some found
    → get volume.nodes found.fileid ≡ Some found.node
found_node k volume None found e f = absurd cc
found_node k volume (Some node) found e f =
    let same : Prim.Path Found (record { fileid = k; node = node }) found = cc in
    subst (λ (x : Found). get volume.nodes x.fileid ≡ Some x.node) same e

-- the child that a name stands for is there
pub found_there : (volume : VolumeState) (o : Option model.Listed) (found : Found) → child volume o ≡ Some found
    → get volume.nodes found.fileid ≡ Some found.node
found_there volume None found e = absurd cc
found_there volume (Some x) found e = found_node x.fileid volume (get volume.nodes x.fileid) found refl e

pub child_there : (volume : VolumeState) (o : Option model.Listed) (x : Option Found) → child volume o ≡ x → AreThere volume.nodes x
child_there volume o None e = tt
child_there volume o (Some found) e = found_there volume o found e
