-- What keeps names and links in agreement, for the nodes of a volume.
use Rattle.std.proofs.Common.{◌≡◌, ℕ, ◌+◌, ◌-◌, ◌≤◌, Bool, true, false, cond, List, [], ◌∷◌, Option, Some, None, refl, sym, ap, ◌∙◌, subst}
use Rattle.std.proofs.Common.{arith, eq-eqb, ne_eqb, ◌&&◌}
use Rattle.std.specs.Prelude.{◌==◌, nat_lt, nat_le, is_some, if◌then◌else◌}
use Rattle.std.proofs.lemmas.Bool.{eqb-true, leb-true, leb-false}
use Rattle.std.proofs.lemmas.Bool.Decides.{nat_tests}
use Rattle.std.specs.Ordering.{nat_cmp, is_eq}
use Rattle.std.specs.declared.cmp.Ordering.{Ordering}
use Rattle.std.specs.declared.cmp.Ordering.TheVariants.{Less, Equal, Greater}
use Rattle.std.specs.Cmp.{nat_cmp_total}
use Rattle.std.specs.FinMap.{get, find, put, insert, remove, entries, get-entries, entries-insert}
use Rattle.std.specs.FinMap.Entries.{by_order}
use Rattle.nfs_model.specs.Types as model
use Rattle.nfs_model.specs.Types.{Listed}
use Rattle.nfs_model.specs.Server.{FileNode, DirectoryNode, Node, File, Directory, Special, VolumeState}
use Rattle.nfs_model.specs.Names.{same_name, find_name, without_name, with_name, dropped_name}
use Rattle.nfs_model.specs.Parts.{one_if, count}
use Rattle.nfs_model.specs.Locate.{Found, found_at, child, is_node_of, Naming}
use Rattle.nfs_model.specs.Serial.Links.{linked_file, linked_special, with_link, without_link, node_left}
use Rattle.nfs_model.specs.Shown.{settled}
use Rattle.nfs_model.specs.Serial.Setattr.{resized, set_node}
use Rattle.nfs_model.specs.Serial.Write.{clears_set_ids, file_taken, written_file}
use Rattle.nfs_model.specs.Serial.Create.{with_child}
use Rattle.nfs_model.specs.Serial.Link.{directory_fault, with_another}
use Rattle.nfs_model.specs.Serial.Rename.{Renaming, Nodes, changed_node, in_directory, moved_node, without_entry, with_entry, without_target, with_moved}
use Rattle.nfs_model.specs.Serial.Rename.{renamed_nodes, directory_in, is_empty_list, may_replace}
use Rattle.nfs_model.specs.volume.Directories.{NamesDiffer}
use Rattle.nfs_model.specs.volume.lemmas.Numbered.{itself, get-insert_at, get-remove_at, insert-same, insert-removed, removed-absent}
use Rattle.nfs_model.specs.volume.lemmas.Directories.{find-gone, find-left, same-is}
use Rattle.nfs_model.specs.volume.lemmas.Listing.{count-more, differ-more, differ-without, count-without, count-found}
use Rattle.nfs_laws.specs.Links.{list_in, names_in, names_among, names_said}
use Rattle.nfs_laws.specs.lemmas.Fileids.{AreBelow, found_there}

-- ---- names among nodes, where one of them changes

names-put : (q k : ℕ) (x : Node) (es : List (ℕ × Node)) → find nat_cmp k es ≡ None
    → names_among q (put nat_cmp k x es) ≡ names_in q x + names_among q es
names-put q k x [] h = refl
names-put q k x (e ∷ es) h = by (nat_cmp k e.0) (names-put q k x es) h
  where
    by : (r : Ordering) → (find nat_cmp k es ≡ None → names_among q (put nat_cmp k x es) ≡ names_in q x + names_among q es)
        → cond (is_eq r) (Some e.1) (find nat_cmp k es) ≡ None
        → names_among q (by_order r ((k, x) ∷ e ∷ es) ((e.0, x) ∷ es) (e ∷ put nat_cmp k x es))
        ≡ names_in q x + (names_in q e.1 + names_among q es)
    by Less rest g = refl
    by Equal rest g = absurd (grind (arith, g))
    by Greater rest g = let others = rest g in omega (arith, others)

abbrev pub names_of : ℕ → Nodes → ℕ
names_of q nodes = names_among q (entries nodes)

pub names-insert : (q : ℕ) (nodes : Nodes) (k : ℕ) (x : Node) → get nodes k ≡ None → names_of q (insert nodes k x) ≡ names_in q x + names_of q nodes
names-insert q nodes k x h = ap (names_among q) (entries-insert nat_cmp_total nodes k x) ∙ names-put q k x (entries nodes) (sym (get-entries nodes k) ∙ h)

names-replaced : (q : ℕ) (nodes : Nodes) (k : ℕ) (x : Node) → names_of q (insert nodes k x) ≡ names_in q x + names_of q (remove nodes k)
names-replaced q nodes k x =
    ap (λ (n : Nodes). names_of q n) (sym (insert-removed nodes k x)) ∙ names-insert q (remove nodes k) k x (removed-absent nodes k)

pub names-split : (q : ℕ) (nodes : Nodes) (k : ℕ) (x : Node) → get nodes k ≡ Some x → names_of q nodes ≡ names_in q x + names_of q (remove nodes k)
names-split q nodes k x h = ap (λ (n : Nodes). names_of q n) (sym (insert-same nodes k x h)) ∙ names-replaced q nodes k x

pub names-set : (q : ℕ) (nodes : Nodes) (k : ℕ) (old x : Node) → get nodes k ≡ Some old
    → names_in q old + names_of q (insert nodes k x) ≡ names_in q x + names_of q nodes
names-set q nodes k old x h = let was = names-split q nodes k old h in let is = names-replaced q nodes k x in omega (arith, was, is)

-- ---- agreement, while names are counted before links or links before names

-- what is said, where so many names are still to come and so many still to go
abbrev pub Agree : (to_come to_go : ℕ → ℕ) → Nodes → Type 0
Agree to_come to_go nodes = (q : ℕ) → names_of q nodes + to_come q ≡ names_said q (get nodes q) + to_go q

-- nothing, and a name of a node
abbrev pub nothing : ℕ → ℕ
nothing q = 0

abbrev pub one_of : ℕ → ℕ → ℕ
one_of k q = one_if (k == q)

-- the names of each directory differ
abbrev pub ListsDiffer : Nodes → Type 0
ListsDiffer nodes = (k : ℕ) (node : Node) → get nodes k ≡ Some node → NamesDiffer (list_in node)

-- as many to come as to go
pub even : (come go : ℕ → ℕ) (nodes : Nodes) → ((q : ℕ) → come q ≡ go q) → Agree come go nodes → Agree nothing nothing nodes
even come go nodes same a q = let is = a q in let both = same q in omega (arith, is, both)

-- ---- what is found in nodes after a change at another

pub at_other : (nodes : Nodes) (k : ℕ) (x : Node) (q : ℕ) → (q == k) ≡ false → get (insert nodes k x) q ≡ get nodes q
at_other nodes k x q ne = get-insert_at nodes k x q ∙ ap (λ (b : Bool). if b then Some x else get nodes q) ne

pub at_itself : (nodes : Nodes) (k : ℕ) (x : Node) → get (insert nodes k x) k ≡ Some x
at_itself nodes k x = get-insert_at nodes k x k ∙ ap (λ (b : Bool). if b then Some x else get nodes k) (itself k)

pub left_other : (nodes : Nodes) (k : ℕ) (left : Option Node) (q : ℕ) → (q == k) ≡ false → get (node_left nodes k left) q ≡ get nodes q
left_other nodes k None q ne = get-remove_at nodes k q ∙ ap (λ (b : Bool). if b then None else get nodes q) ne
left_other nodes k (Some x) q ne = at_other nodes k x q ne

-- what is said of nodes, by what is said of the one that changes
said-by : (nodes : Nodes) (k : ℕ) (old new : Option Node) (more less : ℕ → ℕ) → get nodes k ≡ old
    → names_said k new + less k ≡ names_said k old + more k → ((q : ℕ) → (q == k) ≡ false → less q ≡ more q) → (q : ℕ)
    → names_said q (if q == k then new else get nodes q) + less q ≡ names_said q (get nodes q) + more q
said-by nodes k old new more less h is others q = by (q == k) refl
  where
    by : (b : Bool) → (q == k) ≡ b → names_said q (if b then new else get nodes q) + less q ≡ names_said q (get nodes q) + more q
    by true e =
        let same : q ≡ k = eqb-true q k e in
        subst (λ (i : ℕ). names_said i new + less i ≡ names_said i (get nodes i) + more i) (sym same)
        (is ∙ ap (λ (o : Option Node). names_said k o + more k) (sym h))
    by false e = ap (λ (n : ℕ). names_said q (get nodes q) + n) (others q e)

-- ---- one step

module _ (to_come to_go : ℕ → ℕ) (nodes : Nodes) (k : ℕ) (old new : Node) (there : get nodes k ≡ Some old) where
  abbrev after : Nodes
  after = insert nodes k new

  said-after : (more less : ℕ → ℕ) → names_said k (Some new) + less k ≡ names_said k (Some old) + more k
      → ((q : ℕ) → (q == k) ≡ false → less q ≡ more q) → (q : ℕ) → names_said q (get after q) + less q ≡ names_said q (get nodes q) + more q
  said-after more less is others q =
      ap (λ (o : Option Node). names_said q o + less q) (get-insert_at nodes k new q)
      ∙ said-by nodes k (Some old) (Some new) more less there is others q

  -- a node in the place of one that says the same, whose entries are so many more and so many less
  pub entries_change : (come go : ℕ → ℕ) → names_said k (Some new) ≡ names_said k (Some old)
      → ((q : ℕ) → names_in q new + come q + to_go q ≡ names_in q old + to_come q + go q)
      → Agree to_come to_go nodes → Agree come go after
  entries_change come go is more a q =
      let set = names-set q nodes k old new there in
      let was = a q in
      let now = more q in
      let said = said-after nothing nothing (ap (λ (n : ℕ). n + 0) is) (λ i ne. refl) q in
      omega (arith, set, was, now, said)

  -- one that says one name more, with the same entries
  pub links_rise : list_in new ≡ list_in old → names_said k (Some new) ≡ names_said k (Some old) + 1
      → Agree to_come to_go nodes → Agree (λ q. to_come q + one_of k q) to_go after
  links_rise same is a q =
      let set = names-set q nodes k old new there in
      let alike : names_in q new ≡ names_in q old = ap (λ (l : List Listed). count (λ (e : Listed). e.fileid == q) l) same in
      let was = a q in
      let here : one_of k k ≡ 1 = ap one_if (itself k) in
      let said = said-after (one_of k) nothing (omega (arith, is, here)) (λ i ne. sym (ap one_if (ne_turned i ne))) q in
      omega (arith, set, was, alike, said)
    where
      ne_turned : (i : ℕ) → (i == k) ≡ false → (k == i) ≡ false
      ne_turned i ne = ne_eqb k i (λ e. let t : (i == k) ≡ true = eq-eqb i k (sym e) in cc)

  pub lists_after : NamesDiffer (list_in new) → ListsDiffer nodes → ListsDiffer after
  lists_after d all q node e = by (q == k) refl (sym (get-insert_at nodes k new q) ∙ e)
    where
      by : (b : Bool) → (q == k) ≡ b → (if b then Some new else get nodes q) ≡ Some node → NamesDiffer (list_in node)
      by true is f = let same : new ≡ node = cc in subst (λ (n : Node). NamesDiffer (list_in n)) same d
      by false is f = all q node f

-- ---- a name of a node less

-- what a node says after it, beside what it said
less_said : (k : ℕ) (moment : model.Moment) (node : Node) → 1 ≤ names_said k (Some node)
    → names_said k (without_link moment node) + 1 ≡ names_said k (Some node)
less_said k moment (File f) some = by (nat_le f.links 1) refl
  where
    by : (b : Bool) → nat_le f.links 1 ≡ b
        → names_said k (if b then None else Some (File (linked_file (f.links - 1) moment f))) + 1 ≡ f.links
    by true e = let few = leb-true f.links 1 e in omega (arith, few, some)
    by false e = let more = leb-false f.links 1 e in omega (arith, more)
less_said k moment (Directory d) some = by (k == 1) some
  where
    by : (b : Bool) → 1 ≤ (if b then 0 else 1) → ◌≡◌ {A = ℕ} 1 (if b then 0 else 1)
    by true none = absurd (omega (arith, none))
    by false none = refl
less_said k moment (Special s) some = by (nat_le s.links 1) refl
  where
    by : (b : Bool) → nat_le s.links 1 ≡ b
        → names_said k (if b then None else Some (Special (linked_special (s.links - 1) moment s))) + 1 ≡ s.links
    by true e = let few = leb-true s.links 1 e in omega (arith, few, some)
    by false e = let more = leb-false s.links 1 e in omega (arith, more)

-- it has the entries that it had
same_list : (moment : model.Moment) (node left : Node) → without_link moment node ≡ Some left → list_in left ≡ list_in node
same_list moment (File f) left e = by (nat_le f.links 1) left e
  where
    by : (b : Bool) (left : Node) → (if b then None else Some (File (linked_file (f.links - 1) moment f))) ≡ Some left → list_in left ≡ []
    by true left e = absurd cc
    by false left e = let same : File (linked_file (f.links - 1) moment f) ≡ left = cc in ap list_in (sym same)
same_list moment (Directory d) left e = absurd cc
same_list moment (Special s) left e = by (nat_le s.links 1) left e
  where
    by : (b : Bool) (left : Node) → (if b then None else Some (Special (linked_special (s.links - 1) moment s))) ≡ Some left → list_in left ≡ []
    by true left e = absurd cc
    by false left e = let same : Special (linked_special (s.links - 1) moment s) ≡ left = cc in ap list_in (sym same)

ne_turned : (i k : ℕ) → (i == k) ≡ false → (k == i) ≡ false
ne_turned i k ne = ne_eqb k i (λ e. let t : (i == k) ≡ true = eq-eqb i k (sym e) in cc)

module _ (nodes : Nodes) (k : ℕ) (moment : model.Moment) (node : Node) (there : get nodes k ≡ Some node) (empty : list_in node ≡ []) where
  none-in : (q : ℕ) → names_in q node ≡ 0
  none-in q = ap (λ (l : List Listed). count (λ (e : Listed). e.fileid == q) l) empty

  -- nobody's names change by it
  names-left : (o : Option Node) → without_link moment node ≡ o → (q : ℕ) → names_of q (node_left nodes k o) ≡ names_of q nodes
  names-left None e q = let split = names-split q nodes k node there in let none = none-in q in omega (arith, split, none)
  names-left (Some left) e q =
      let set = names-set q nodes k node left there in
      let same : names_in q left ≡ names_in q node = ap (λ (l : List Listed). count (λ (x : Listed). x.fileid == q) l) (same_list moment node left e) in
      omega (arith, set, same)

  found-left : (o : Option Node) (q : ℕ) → get (node_left nodes k o) q ≡ (if q == k then o else get nodes q)
  found-left None q = get-remove_at nodes k q
  found-left (Some left) q = get-insert_at nodes k left q

  pub unlinked_agrees : 1 ≤ names_said k (Some node) → (to_come to_go : ℕ → ℕ) → Agree to_come to_go nodes
      → Agree to_come (λ q. to_go q + one_of k q) (node_left nodes k (without_link moment node))
  unlinked_agrees some to_come to_go a q =
      let left : Option Node = without_link moment node in
      let names = names-left left refl q in
      let less = less_said k moment node some in
      let here : one_of k k ≡ 1 = ap one_if (itself k) in
      let said : names_said q (get (node_left nodes k left) q) + one_of k q ≡ names_said q (get nodes q) + 0 =
      ap (λ (o : Option Node). names_said q o + one_of k q) (found-left left q)
      ∙ said-by nodes k (Some node) left nothing (one_of k) there (omega (arith, less, here)) (λ i ne. ap one_if (ne_turned i k ne)) q in
      let was = a q in
      omega (arith, names, said, was)

  pub unlinked_lists : (o : Option Node) → without_link moment node ≡ o → ListsDiffer nodes → ListsDiffer (node_left nodes k o)
  unlinked_lists None e all q n f = by (q == k) (sym (get-remove_at nodes k q) ∙ f)
    where
      by : (b : Bool) → (if b then None else get nodes q) ≡ Some n → NamesDiffer (list_in n)
      by true g = absurd cc
      by false g = all q n g
  unlinked_lists (Some left) e all q n f =
      lists_after nothing nothing nodes k node left there
      (subst (λ (l : List Listed). NamesDiffer l) (sym (same_list moment node left e ∙ empty)) tt) all q n f

-- ---- an entry less, and an entry more

module _ (nodes : Nodes) (k : ℕ) (d : DirectoryNode) (there : get nodes k ≡ Some (Directory d)) (name : List ℕ) (moment : model.Moment) where
  abbrev pub dropped : Nodes
  dropped = insert nodes k (Directory (dropped_name d name moment))

  pub dropped_agrees : (to_come to_go : ℕ → ℕ) (e : Listed) → NamesDiffer d.list → find_name name d.list ≡ Some e → Agree to_come to_go nodes
      → Agree (λ q. to_come q + one_of e.fileid q) to_go dropped
  dropped_agrees to_come to_go e differ found =
      entries_change to_come to_go nodes k (Directory d) (Directory (dropped_name d name moment)) there (λ q. to_come q + one_of e.fileid q) to_go refl
      (λ q. let one = count-without (λ (x : Listed). x.fileid == q) name d.list e differ found in omega (arith, one))

  pub dropped_lists : ListsDiffer nodes → ListsDiffer dropped
  dropped_lists all =
      lists_after nothing nothing nodes k (Directory d) (Directory (dropped_name d name moment)) there
      (differ-without name d.list (all k (Directory d) there)) all

  abbrev pub named : ℕ → Nodes
  named child = insert nodes k (Directory (with_name d name child moment))

  pub named_agrees : (to_come to_go : ℕ → ℕ) (child : ℕ) → Agree to_come to_go nodes → Agree to_come (λ q. to_go q + one_of child q) (named child)
  named_agrees to_come to_go child =
      entries_change to_come to_go nodes k (Directory d) (Directory (with_name d name child moment)) there to_come (λ q. to_go q + one_of child q) refl
      (λ q. let one = count-more (λ (x : Listed). x.fileid == q) d.list (record { cookie = d.next; name = name; fileid = child }) in omega (arith, one))

  pub named_lists : (child : ℕ) → find_name name d.list ≡ None → ListsDiffer nodes → ListsDiffer (named child)
  named_lists child absent all =
      lists_after nothing nothing nodes k (Directory d) (Directory (with_name d name child moment)) there
      (differ-more d.list (record { cookie = d.next; name = name; fileid = child }) absent (all k (Directory d) there)) all

-- ---- volumes

pub record IsLinked (volume : VolumeState) : Type 0 where
  pub agree : Agree nothing nothing volume.nodes
  pub differ : ListsDiffer volume.nodes
  pub below : AreBelow volume.next volume.nodes
  pub begun : nat_lt 1 volume.next ≡ true

-- a node in the place of one with the same entries, that says the same
pub record IsAlike (k : ℕ) (old new : Node) : Type 0 where
  pub entries : list_in new ≡ list_in old
  pub said : names_said k (Some new) ≡ names_said k (Some old)

pub alike_agrees : (to_come to_go : ℕ → ℕ) (nodes : Nodes) (k : ℕ) (old new : Node) → get nodes k ≡ Some old → IsAlike k old new
    → Agree to_come to_go nodes → Agree to_come to_go (insert nodes k new)
alike_agrees to_come to_go nodes k old new there alike =
    entries_change to_come to_go nodes k old new there to_come to_go alike.said (λ q.
    let same : names_in q new ≡ names_in q old = ap (λ (l : List Listed). count (λ (e : Listed). e.fileid == q) l) alike.entries in
    omega (arith, same))

pub alike_lists : (nodes : Nodes) (k : ℕ) (old new : Node) → get nodes k ≡ Some old → IsAlike k old new → ListsDiffer nodes → ListsDiffer (insert nodes k new)
alike_lists nodes k old new there alike all =
    lists_after nothing nothing nodes k old new there (subst (λ (l : List Listed). NamesDiffer l) (sym alike.entries) (all k old there)) all

-- ---- what an entry names is there

some-said : (k : ℕ) (o : Option Node) → 1 ≤ names_said k o → o ≡ None → ⊥
some-said k None some e = absurd (omega (arith, some))
some-said k (Some node) some e = absurd cc

pub entry_said : (nodes : Nodes) (k : ℕ) (d : DirectoryNode) (name : List ℕ) (e : Listed) → Agree nothing nothing nodes → get nodes k ≡ Some (Directory d)
    → find_name name d.list ≡ Some e → 1 ≤ names_said e.fileid (get nodes e.fileid)
entry_said nodes k d name e agree there found =
    let split = names-split e.fileid nodes k (Directory d) there in
    let some = count-found (λ (x : Listed). x.fileid == e.fileid) name d.list e found (itself e.fileid) in
    let all = agree e.fileid in
    omega (arith, split, some, all)

pub none-listed : (nodes : Nodes) (k : ℕ) (d : DirectoryNode) (name : List ℕ) (o : Option Listed) → Agree nothing nothing nodes
    → get nodes k ≡ Some (Directory d) → find_name name d.list ≡ o → (volume : VolumeState) → volume.nodes ≡ nodes → child volume o ≡ None → o ≡ None
none-listed nodes k d name None agree there found volume same none = refl
none-listed nodes k d name (Some e) agree there found volume same none =
    let some = entry_said nodes k d name e agree there found in
    absurd (some-said e.fileid (get nodes e.fileid) some (by (get volume.nodes e.fileid) refl none))
  where
    by : (o : Option Node) → get volume.nodes e.fileid ≡ o → found_at e.fileid o ≡ None → get nodes e.fileid ≡ None
    by None g f = ap (λ (n : Nodes). get n e.fileid) (sym same) ∙ g
    by (Some node) g f = absurd cc

-- ---- a node made

not_below : (next : ℕ) → nat_lt next next ≡ true → ⊥
not_below next e = grind (arith, nat_tests)

no_next : (next : ℕ) (nodes : Nodes) (o : Option Node) → AreBelow next nodes → get nodes next ≡ o → o ≡ None
no_next next nodes None b e = refl
no_next next nodes (Some node) b e = absurd (not_below next (b next node e))

other_than : (nodes : Nodes) (k q : ℕ) (x : Option Node) (y : Node) → get nodes q ≡ x → get nodes k ≡ Some y → (x ≡ Some y → ⊥) → (k == q) ≡ false
other_than nodes k q x y at there differ =
    ne_eqb k q (λ e. differ (sym at ∙ ap (λ (i : ℕ). get nodes i) (sym e) ∙ there))

no_node : (node : Node) → None ≡ Some node → ⊥
no_node node e = absurd cc

pub made_agrees : (n : Naming) (node : Node) → get n.volume.nodes n.fileid ≡ Some (Directory n.directory) → list_in node ≡ []
    → names_said n.volume.next (Some node) ≡ 1 → IsLinked n.volume → Agree nothing nothing (with_child n node).nodes
made_agrees n node there empty one l =
    let v = n.volume in
    let absent : get v.nodes v.next ≡ None = no_next v.next v.nodes (get v.nodes v.next) l.below refl in
    let with_node : Nodes = insert v.nodes v.next node in
    let apart : (n.fileid == v.next) ≡ false = other_than v.nodes n.fileid v.next None (Directory n.directory) absent there (no_node _) in
    let in_it : get with_node n.fileid ≡ Some (Directory n.directory) = at_other v.nodes v.next node n.fileid apart ∙ there in
    let more : Agree (one_of v.next) nothing with_node = (λ q.
    let names = names-insert q v.nodes v.next node absent in
    let none : names_in q node ≡ 0 = ap (λ (es : List Listed). count (λ (e : Listed). e.fileid == q) es) empty in
    let here : one_of v.next v.next ≡ 1 = ap one_if (itself v.next) in
    let said : names_said q (get with_node q) + 0 ≡ names_said q (get v.nodes q) + one_of v.next q =
    ap (λ (o : Option Node). names_said q o + 0) (get-insert_at v.nodes v.next node q)
    ∙ said-by v.nodes v.next None (Some node) (one_of v.next) nothing absent (omega (arith, one, here)) (λ i ne. sym (ap one_if (ne_turned i v.next ne))) q in
    let was = l.agree q in
    omega (arith, names, none, said, was)) in
    even (one_of v.next) (λ q. nothing q + one_of v.next q) (with_child n node).nodes (λ q. omega arith)
    (named_agrees with_node n.fileid n.directory in_it n.name n.moment (one_of v.next) nothing v.next more)

pub made_lists : (n : Naming) (node : Node) → get n.volume.nodes n.fileid ≡ Some (Directory n.directory) → list_in node ≡ []
    → find_name n.name n.directory.list ≡ None → IsLinked n.volume → ListsDiffer (with_child n node).nodes
made_lists n node there empty absent_name l =
    let v = n.volume in
    let absent : get v.nodes v.next ≡ None = no_next v.next v.nodes (get v.nodes v.next) l.below refl in
    let with_node : Nodes = insert v.nodes v.next node in
    let apart : (n.fileid == v.next) ≡ false = other_than v.nodes n.fileid v.next None (Directory n.directory) absent there (no_node _) in
    let in_it : get with_node n.fileid ≡ Some (Directory n.directory) = at_other v.nodes v.next node n.fileid apart ∙ there in
    named_lists with_node n.fileid n.directory in_it n.name n.moment v.next absent_name (lists v.nodes v.next node empty l.differ)
  where
    lists : (nodes : Nodes) (k : ℕ) (x : Node) → list_in x ≡ [] → ListsDiffer nodes → ListsDiffer (insert nodes k x)
    lists nodes k x none all q y f = by (q == k) (sym (get-insert_at nodes k x q) ∙ f)
      where
        by : (b : Bool) → (if b then Some x else get nodes q) ≡ Some y → NamesDiffer (list_in y)
        by true g = let same : x ≡ y = cc in subst (λ (z : Node). NamesDiffer (list_in z)) same (subst (λ (es : List Listed). NamesDiffer es) (sym none) tt)
        by false g = all q y g

-- ---- one more name of a node

linked_says : (k : ℕ) (moment : model.Moment) (node : Node) → directory_fault node ≡ None
    → names_said k (Some (with_link moment node)) ≡ names_said k (Some node) + 1
linked_says k moment (File f) e = refl
linked_says k moment (Directory d) e = absurd cc
linked_says k moment (Special s) e = refl

linked_lists : (moment : model.Moment) (node : Node) → list_in (with_link moment node) ≡ list_in node
linked_lists moment (File f) = refl
linked_lists moment (Directory d) = refl
linked_lists moment (Special s) = refl

no_directory : (node : Node) (d : DirectoryNode) → directory_fault node ≡ None → Some node ≡ Some (Directory d) → ⊥
no_directory (File f) d e g = absurd cc
no_directory (Directory c) d e g = absurd cc
no_directory (Special s) d e g = absurd cc

module _ (n : Naming) (object : Found) (there : get n.volume.nodes n.fileid ≡ Some (Directory n.directory))
    (at : get n.volume.nodes object.fileid ≡ Some object.node) (fault : directory_fault object.node ≡ None) (l : IsLinked n.volume) where
  abbrev nodes : Nodes
  nodes = n.volume.nodes

  abbrev with_more : Nodes
  with_more = insert nodes object.fileid (with_link n.moment object.node)

  in_more : get with_more n.fileid ≡ Some (Directory n.directory)
  in_more =
      let apart : (n.fileid == object.fileid) ≡ false =
      other_than nodes n.fileid object.fileid (Some object.node) (Directory n.directory) at there (no_directory object.node n.directory fault) in
      at_other nodes object.fileid (with_link n.moment object.node) n.fileid apart ∙ there

  pub another_agrees : Agree nothing nothing (with_another n object).nodes
  another_agrees =
      even (λ q. nothing q + one_of object.fileid q) (λ q. nothing q + one_of object.fileid q) (with_another n object).nodes (λ q. refl)
      (named_agrees with_more n.fileid n.directory in_more n.name n.moment (λ q. nothing q + one_of object.fileid q) nothing object.fileid
      (links_rise nothing nothing nodes object.fileid object.node (with_link n.moment object.node) at (linked_lists n.moment object.node)
      (linked_says object.fileid n.moment object.node fault) l.agree))

  pub another_lists : find_name n.name n.directory.list ≡ None → ListsDiffer (with_another n object).nodes
  another_lists absent =
      named_lists with_more n.fileid n.directory in_more n.name n.moment object.fileid absent
      (lists_after nothing nothing nodes object.fileid object.node (with_link n.moment object.node) at
      (subst (λ (es : List Listed). NamesDiffer es) (sym (linked_lists n.moment object.node)) (l.differ object.fileid object.node at)) l.differ)

-- ---- a name gone

-- a directory with an entry isn't what is empty
full : (d : DirectoryNode) (name : List ℕ) (e : Listed) (node : Node) → find_name name d.list ≡ Some e → list_in node ≡ [] → Some node ≡ Some (Directory d) → ⊥
full d name e node found empty same =
    let is : node ≡ Directory d = cc in
    let none : d.list ≡ [] = ap list_in (sym is) ∙ empty in
    let nothing_found : find_name name d.list ≡ None = ap (find_name name) none in
    absurd cc

module _ (n : Naming) (x : Found) (e : Listed) (there : get n.volume.nodes n.fileid ≡ Some (Directory n.directory))
    (at : get n.volume.nodes x.fileid ≡ Some x.node) (found : find_name n.name n.directory.list ≡ Some e) (is : e.fileid ≡ x.fileid)
    (empty : list_in x.node ≡ []) (l : IsLinked n.volume) where
  abbrev here : Nodes
  here = n.volume.nodes

  abbrev pub less : Nodes
  less = node_left here x.fileid (without_link n.moment x.node)

  pub in_less : get less n.fileid ≡ Some (Directory n.directory)
  in_less =
      let apart : (n.fileid == x.fileid) ≡ false =
      other_than here n.fileid x.fileid (Some x.node) (Directory n.directory) at there (full n.directory n.name e x.node found empty) in
      left_other here x.fileid (without_link n.moment x.node) n.fileid apart ∙ there

  some_name : 1 ≤ names_said x.fileid (Some x.node)
  some_name =
      let some = entry_said here n.fileid n.directory n.name e l.agree there found in
      subst (λ (o : Option Node). 1 ≤ names_said x.fileid o) at (subst (λ (k : ℕ). 1 ≤ names_said k (get here k)) is some)

  less_lists : ListsDiffer less
  less_lists = unlinked_lists here x.fileid n.moment x.node at empty (without_link n.moment x.node) refl l.differ

  abbrev pub gone_nodes : Nodes
  gone_nodes = dropped less n.fileid n.directory in_less n.name n.moment

  pub gone_agrees : Agree nothing nothing gone_nodes
  gone_agrees =
      even (λ q. nothing q + one_of e.fileid q) (λ q. nothing q + one_of x.fileid q) gone_nodes (λ q. ap (λ (k : ℕ). nothing q + one_of k q) is)
      (dropped_agrees less n.fileid n.directory in_less n.name n.moment nothing (λ q. nothing q + one_of x.fileid q) e
      (less_lists n.fileid (Directory n.directory) in_less) found
      (unlinked_agrees here x.fileid n.moment x.node at empty some_name nothing nothing l.agree))

  pub gone_lists : ListsDiffer gone_nodes
  gone_lists = dropped_lists less n.fileid n.directory in_less n.name n.moment less_lists

-- ---- RENAME

-- the node of a directory changes
changed : (change : DirectoryNode → DirectoryNode) (k : ℕ) (nodes : Nodes) (d : DirectoryNode) → get nodes k ≡ Some (Directory d)
    → changed_node (in_directory change) k (get nodes k) nodes ≡ insert nodes k (Directory (change d))
changed change k nodes d there = ap (λ (o : Option Node). changed_node (in_directory change) k o nodes) there

moved_alike : (k parent : ℕ) (moment : model.Moment) (node : Node) → IsAlike k node (moved_node parent moment node)
moved_alike k parent moment (File f) = record { entries = refl; said = refl }
moved_alike k parent moment (Directory d) = record { entries = refl; said = refl }
moved_alike k parent moment (Special s) = record { entries = refl; said = refl }

-- what may be replaced has no entries
pub may_be_empty : (moved node : Node) → may_replace moved node ≡ true → list_in node ≡ []
may_be_empty moved (File f) may = refl
may_be_empty moved (Directory d) may = by d.list (and_right (is_some (directory_in moved)) (is_empty_list d.list) may)
  where
    and_right : (a b : Bool) → (a && b) ≡ true → b ≡ true
    and_right true b e = e
    and_right false b e = absurd cc

    by : (list : List Listed) → is_empty_list list ≡ true → list ≡ []
    by [] e = refl
    by (x ∷ xs) e = absurd cc
may_be_empty moved (Special s) may = refl

-- nodes in which names and links agree but for what moves, and what the two directories are in them
record Half (to_come : ℕ → ℕ) (nodes : Nodes) (from to : ℕ) (a b : List ℕ) (found absent : Option Listed) : Type 0 where
  agree : Agree to_come nothing nodes
  lists : ListsDiffer nodes
  source : DirectoryNode
  source_at : get nodes from ≡ Some (Directory source)
  source_has : find_name a source.list ≡ found
  goal : DirectoryNode
  goal_at : get nodes to ≡ Some (Directory goal)
  goal_has : find_name b goal.list ≡ absent

-- the child that an entry names
abbrev child_of : VolumeState → Option Listed → Option Found → Type 0
child_of volume o target = child volume o ≡ target

pub named_fileid : (volume : VolumeState) (y : Listed) (t : Found) → child volume (Some y) ≡ Some t → y.fileid ≡ t.fileid
named_fileid volume y t c = by (get volume.nodes y.fileid) c
  where
    by : (o : Option Node) → found_at y.fileid o ≡ Some t → y.fileid ≡ t.fileid
    by None g = absurd cc
    by (Some node) g = let same : Prim.Path Found (record { fileid = y.fileid; node = node }) t = cc in ap (λ (f : Found). f.fileid) same

-- a directory that is found twice is one
one_directory : (nodes : Nodes) (k l : ℕ) (d e : DirectoryNode) → get nodes k ≡ Some (Directory d) → get nodes l ≡ Some (Directory e) → k ≡ l → d ≡ e
one_directory nodes k l d e f g same =
    let both : Some (Directory d) ≡ Some (Directory e) = sym f ∙ ap (λ (i : ℕ). get nodes i) same ∙ g in
    cc

-- what is found in another directory after one changes, or in that one
seen : (nodes : Nodes) (k : ℕ) (c : DirectoryNode) (q : ℕ) (d : DirectoryNode) → get nodes q ≡ Some (Directory d)
    → (x : DirectoryNode) × ((get (insert nodes k (Directory c)) q ≡ Some (Directory x)) × (((q == k) ≡ false → x ≡ d) × ((q == k) ≡ true → x ≡ c)))
seen nodes k c q d there = by (q == k) refl
  where
    by : (b : Bool) → (q == k) ≡ b
        → (x : DirectoryNode) × ((get (insert nodes k (Directory c)) q ≡ Some (Directory x)) × (((q == k) ≡ false → x ≡ d) × ((q == k) ≡ true → x ≡ c)))
    by true e = (
      c,
      (
        ap (λ (i : ℕ). get (insert nodes k (Directory c)) i) (eqb-true q k e) ∙ at_itself nodes k (Directory c),
        ((λ ne. absurd cc), (λ is. refl)),
      ),
    )
    by false e = (d, (at_other nodes k (Directory c) q e ∙ there, ((λ ne. refl), (λ is. absurd cc))))

module _ (volume : VolumeState) (from to : ℕ) (d e : DirectoryNode) (a b : List ℕ) (moment : model.Moment)
    (from_at : get volume.nodes from ≡ Some (Directory d)) (to_at : get volume.nodes to ≡ Some (Directory e)) (l : IsLinked volume) where
  abbrev r : Renaming
  r = record {
    from = record { volume = volume; fileid = from; directory = d; name = a; moment = moment };
    to = record { volume = volume; fileid = to; directory = e; name = b; moment = moment };
  }

  abbrev old : Nodes
  old = volume.nodes

  -- the name that goes isn't the other one of the same directory
  names_apart : (x : Listed) (child : ℕ) (t : Found) (y : Listed) → find_name a d.list ≡ Some x → find_name b e.list ≡ Some y → x.fileid ≡ child
      → y.fileid ≡ t.fileid → is_node_of child (Some t) ≡ false → from ≡ to → same_name b a ≡ false
  names_apart x child t y fa fb xc yt other same = by (same_name b a) refl
    where
      by : (c : Bool) → same_name b a ≡ c → same_name b a ≡ false
      by true is =
          let name : b ≡ a = same-is b a is in
          let list : d ≡ e = one_directory old from to d e from_at to_at same in
          let entry : Some x ≡ Some y = sym fa ∙ ap (λ (c : DirectoryNode). find_name a c.list) list ∙ ap (λ (n : List ℕ). find_name n e.list) (sym name) ∙ fb in
          let one : x ≡ y = cc in
          let here : t.fileid ≡ child = sym yt ∙ ap (λ (z : Listed). z.fileid) (sym one) ∙ xc in
          let t_is : (t.fileid == child) ≡ true = eq-eqb t.fileid child here in
          absurd cc
      by false is = is

  -- a directory and what is empty are two
  apart_from : (k : ℕ) (c : DirectoryNode) (name : List ℕ) (z : Listed) (t : Found) → get old k ≡ Some (Directory c) → find_name name c.list ≡ Some z
      → get old t.fileid ≡ Some t.node → list_in t.node ≡ [] → (k == t.fileid) ≡ false
  apart_from k c name z t there found at empty =
      other_than old k t.fileid (Some t.node) (Directory c) at there (full c name z t.node found empty)

  abbrev less_nodes : Found → Nodes
  less_nodes t = node_left old t.fileid (without_link moment t.node)

  -- the target goes
  target_gone : (x : Listed) (child : ℕ) (t : Found) (y : Listed) → find_name a d.list ≡ Some x → x.fileid ≡ child → find_name b e.list ≡ Some y
      → y.fileid ≡ t.fileid → get old t.fileid ≡ Some t.node → is_node_of child (Some t) ≡ false → list_in t.node ≡ []
      → Half nothing (without_target r.to (Some t) old) from to a b (Some x) None
  target_gone x child t y fa xc fb yt at other empty =
      let to_less : get (less_nodes t) to ≡ Some (Directory e) = in_less r.to t y to_at at fb yt empty l in
      let is : without_target r.to (Some t) old ≡ gone_nodes r.to t y to_at at fb yt empty l =
      changed (λ c. dropped_name c b moment) to (less_nodes t) e to_less in
      let from_less : get (less_nodes t) from ≡ Some (Directory d) =
      left_other old t.fileid (without_link moment t.node) from (apart_from from d a x t from_at fa at empty) ∙ from_at in
      let source_seen = seen (less_nodes t) to (dropped_name e b moment) from d from_less in
      subst (λ (n : Nodes). Half nothing n from to a b (Some x) None) (sym is) (record {
        agree = gone_agrees r.to t y to_at at fb yt empty l;
        lists = gone_lists r.to t y to_at at fb yt empty l;
        source = source_seen.0;
        source_at = source_seen.1.0;
        source_has = has source_seen.0 source_seen.1.1.0 source_seen.1.1.1 (from == to) refl;
        goal = dropped_name e b moment;
        goal_at = at_itself (less_nodes t) to (Directory (dropped_name e b moment));
        goal_has = find-gone e.list b;
      })
    where
      has : (c : DirectoryNode) → ((from == to) ≡ false → c ≡ d) → ((from == to) ≡ true → c ≡ dropped_name e b moment) → (same : Bool)
          → (from == to) ≡ same → find_name a c.list ≡ Some x
      has c as_it dropped_too false ne = ap (λ (n : DirectoryNode). find_name a n.list) (as_it ne) ∙ fa
      has c as_it dropped_too true is =
          let same : from ≡ to = eqb-true from to is in
          let list : d ≡ e = one_directory old from to d e from_at to_at same in
          ap (λ (n : DirectoryNode). find_name a n.list) (dropped_too is)
          ∙ find-left e.list b a (names_apart x child t y fa fb xc yt other same)
          ∙ ap (λ (n : DirectoryNode). find_name a n.list) (sym list) ∙ fa

  -- there is none
  no_target : (x : Listed) → find_name a d.list ≡ Some x → find_name b e.list ≡ None → Half nothing (without_target r.to None old) from to a b (Some x) None
  no_target x fa fb = record {
    agree = l.agree;
    lists = l.differ;
    source = d;
    source_at = from_at;
    source_has = fa;
    goal = e;
    goal_at = to_at;
    goal_has = fb;
  }

  -- the entry goes from the one directory
  entry_gone : (x : Listed) (nodes : Nodes) → Half nothing nodes from to a b (Some x) None
      → Half (λ q. nothing q + one_of x.fileid q) (without_entry r.from nodes) from to a b None None
  entry_gone x nodes h =
      let is : without_entry r.from nodes ≡ dropped nodes from h.source h.source_at a moment =
      changed (λ c. dropped_name c a moment) from nodes h.source h.source_at in
      let goal_seen = seen nodes from (dropped_name h.source a moment) to h.goal h.goal_at in
      subst (λ (n : Nodes). Half (λ q. nothing q + one_of x.fileid q) n from to a b None None) (sym is) (record {
        agree = dropped_agrees nodes from h.source h.source_at a moment nothing nothing x (h.lists from (Directory h.source) h.source_at) h.source_has h.agree;
        lists = dropped_lists nodes from h.source h.source_at a moment h.lists;
        source = dropped_name h.source a moment;
        source_at = at_itself nodes from (Directory (dropped_name h.source a moment));
        source_has = find-gone h.source.list a;
        goal = goal_seen.0;
        goal_at = goal_seen.1.0;
        goal_has = has goal_seen.0 goal_seen.1.1.0 goal_seen.1.1.1 (to == from) refl;
      })
    where
      -- a name that isn't there isn't there when another goes
      still_absent : (list : List Listed) → find_name b list ≡ None → find_name b (without_name a list) ≡ None
      still_absent list none = by (same_name a b) refl
        where
          by : (same : Bool) → same_name a b ≡ same → find_name b (without_name a list) ≡ None
          by true is = ap (λ (n : List ℕ). find_name n (without_name a list)) (sym (same-is a b is)) ∙ find-gone list a
          by false ne = find-left list a b ne ∙ none

      has : (c : DirectoryNode) → ((to == from) ≡ false → c ≡ h.goal) → ((to == from) ≡ true → c ≡ dropped_name h.source a moment) → (same : Bool)
          → (to == from) ≡ same → find_name b c.list ≡ None
      has c as_it dropped_too false ne = ap (λ (n : DirectoryNode). find_name b n.list) (as_it ne) ∙ h.goal_has
      has c as_it dropped_too true is =
          let same : to ≡ from = eqb-true to from is in
          let list : h.goal ≡ h.source = one_directory nodes to from h.goal h.source h.goal_at h.source_at same in
          ap (λ (n : DirectoryNode). find_name b n.list) (dropped_too is)
          ∙ still_absent h.source.list (ap (λ (n : DirectoryNode). find_name b n.list) (sym list) ∙ h.goal_has)

  -- it comes into the other, and the node moves
  entry_come : (x : Listed) (child : ℕ) (nodes : Nodes) → x.fileid ≡ child → Half (λ q. nothing q + one_of x.fileid q) nodes from to a b None None
      → Agree nothing nothing (with_moved r.to child (with_entry r.to child nodes)) × ListsDiffer (with_moved r.to child (with_entry r.to child nodes))
  entry_come x child nodes xc h =
      let is : with_entry r.to child nodes ≡ named nodes to h.goal h.goal_at b moment child =
      changed (λ c. with_name c b child moment) to nodes h.goal h.goal_at in
      let agree : Agree nothing nothing (named nodes to h.goal h.goal_at b moment child) =
      even (λ q. nothing q + one_of x.fileid q) (λ q. nothing q + one_of child q) (named nodes to h.goal h.goal_at b moment child)
      (λ q. ap (λ (k : ℕ). nothing q + one_of k q) xc)
      (named_agrees nodes to h.goal h.goal_at b moment (λ q. nothing q + one_of x.fileid q) nothing child h.agree) in
      subst (λ (n : Nodes). Agree nothing nothing (with_moved r.to child n) × ListsDiffer (with_moved r.to child n)) (sym is)
      (moved (named nodes to h.goal h.goal_at b moment child) agree (named_lists nodes to h.goal h.goal_at b moment child h.goal_has h.lists)
      (get (named nodes to h.goal h.goal_at b moment child) child) refl)
    where
      moved : (n : Nodes) → Agree nothing nothing n → ListsDiffer n → (o : Option Node) → get n child ≡ o
          → Agree nothing nothing (changed_node (moved_node to moment) child o n) × ListsDiffer (changed_node (moved_node to moment) child o n)
      moved n agree lists None at = (agree, lists)
      moved n agree lists (Some node) at = (
        alike_agrees nothing nothing n child node (moved_node to moment node) at (moved_alike child to moment node) agree,
        alike_lists n child node (moved_node to moment node) at (moved_alike child to moment node) lists,
      )

  pub renamed_agrees : (x : Listed) (child : ℕ) (target : Option Found) (o : Option Listed) → find_name a d.list ≡ Some x → x.fileid ≡ child
      → find_name b e.list ≡ o → child_of volume o target → is_node_of child target ≡ false
      → ((t : Found) → target ≡ Some t → list_in t.node ≡ [])
      → Agree nothing nothing (renamed_nodes r child target old) × ListsDiffer (renamed_nodes r child target old)
  renamed_agrees x child None o fa xc fb c other empty =
      entry_come x child _ xc (entry_gone x _ (no_target x fa (fb ∙ none-listed old to e b o l.agree to_at fb volume refl c)))
  renamed_agrees x child (Some t) None fa xc fb c other empty = absurd cc
  renamed_agrees x child (Some t) (Some y) fa xc fb c other empty =
      let at : get old t.fileid ≡ Some t.node = found_there volume (Some y) t c in
      entry_come x child _ xc (entry_gone x _ (target_gone x child t y fa xc fb (named_fileid volume y t c) at other (empty t refl)))

-- ---- what SETATTR, CREATE and WRITE leave

resized_links : (size : Option ℕ) (f : FileNode) → (resized size f).links ≡ f.links
resized_links None f = refl
resized_links (Some n) f = refl

pub set_alike : (k : ℕ) (set : model.SetAttributes) (moment : model.Moment) (node : Node) → IsAlike k node (set_node set moment node)
set_alike k set moment (File f) = record { entries = refl; said = resized_links set.size (settled f) }
set_alike k set moment (Directory d) = record { entries = refl; said = refl }
set_alike k set moment (Special s) = record { entries = refl; said = refl }

taken_links : (b : Bool) (f g : FileNode) → g.links ≡ f.links → (cond b g f).links ≡ f.links
taken_links true f g e = e
taken_links false f g e = refl

pub written_alike : (k : ℕ) (caller : model.Caller) (f : FileNode) (offset : ℕ) (bytes : List ℕ) (moment : model.Moment)
    → IsAlike k (File f) (File (written_file (file_taken caller f) offset bytes moment))
written_alike k caller f offset bytes moment = record { entries = refl; said = taken_links (clears_set_ids caller f) f _ refl }
