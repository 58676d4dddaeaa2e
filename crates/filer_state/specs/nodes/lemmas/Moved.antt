-- A node that moves to another name: all stays sound, and so the volume is seen.
use Rattle.std.proofs.Common.{◌≡◌, ℕ, ◌+◌, ◌<◌, ◌≤◌, ◌==◌, Bool, true, false, List, length, Option, Some, None}
use Rattle.std.proofs.Common.{refl, sym, ap, ◌∙◌, subst, arith}
use Rattle.std.specs.Prelude.{IfSome, ◌-◌}
use Rattle.std.proofs.lemmas.List.{length-map}
use Rattle.std.proofs.lemmas.Bool.{eqb-true}
use Rattle.std.specs.Option.{option_map}
use Rattle.std.specs.FinMap.{get, len}
use Rattle.std.specs.FinSet as sets
use Rattle.nfs_model.specs.Types.{Moment}
use Rattle.nfs_model.specs.Server.{Attributes}
use Rattle.nfs_model.specs.Parts.{Hand}
use Rattle.depot_rule.specs.Sums.{total}
use Rattle.nfs_model.specs.volume.Directories.{DirectoryValue, added, removed}
use Rattle.nfs_model.specs.volume.Inodes.{InodeKind, Inode, InodesValue, IsInodes, filled_blocks, inode_of, inode_set}
use Rattle.nfs_model.specs.volume.Stripes.{StripeValue, touch_taken}
use Rattle.nfs_model.specs.volume.lemmas.Inodes.{len-set, set-is, next-set, used-set-same, inode-set-there, inode-set-other}
use Rattle.filer_state.specs.state.Contents.{VolumeContents}
use Rattle.filer_state.specs.state.Tree.{stripe_at, file_filled, file_touch}
use Rattle.filer_state.specs.state.Names.{DirectoryMap, size_in, size_of, AreNamed, text_length_in, text_length_of, names_of}
use Rattle.filer_state.specs.state.WellFormed.{StripeFits, WellFormed, owner_by, owner_in}
use Rattle.filer_state.specs.state.Partition.{times_in_stripe, times_in_hand}
use Rattle.filer_state.specs.state.Sound.{IsSound}
use Rattle.filer_state.specs.state.Changes.{attributes_now, touches_taken}
use Rattle.filer_state.specs.laws.lemmas.InodeKinds as kinds
use Rattle.filer_state.specs.laws.lemmas.SameBlocks as blocks
use Rattle.filer_state.specs.attributes.lemmas.Kept.{shown-stays, owner-stays}
use Rattle.filer_state.specs.nodes.Making.{directories_in, with_subdirectories}
use Rattle.filer_state.specs.nodes.Dropping.{without_subdirectories}
use Rattle.filer_state.specs.nodes.Moving.{Naming, dated_inode, inodes_untied, entries_untied, with_parent, node_hung, inodes_hung, entries_hung}
use Rattle.filer_state.specs.nodes.Laws.{StandsUnder, MayHang, moved_in}
use Rattle.filer_state.specs.nodes.lemmas.Named as made
use Rattle.filer_state.specs.nodes.lemmas.Unnamed as unnamed
use Rattle.filer_state.specs.nodes.lemmas.Untied.{AreNamedBut, names-same, named-untied, untied-entries, untied-others}
use Rattle.filer_state.specs.nodes.lemmas.Hung.{named-hung, hung-entries, hung-others, still}

-- ---- inodes that keep their sizes and blocks

abbrev shown_size : Inode → Option ℕ
shown_size inode = size_in inode.kind

abbrev filled_of : Inode → ℕ
filled_of inode = filled_blocks inode.kind

-- the same inodes but for times and places in the tree
pub record SameFiles (new old : InodesValue) : Type 0 where
  pub lengths : (q : ℕ) → text_length_of (inode_of new q) ≡ text_length_of (inode_of old q)
  pub sizes : (q : ℕ) → option_map shown_size (inode_of new q) ≡ option_map shown_size (inode_of old q)
  pub owners : (q : ℕ) → option_map owner_in (inode_of new q) ≡ option_map owner_in (inode_of old q)
  pub blocks : (q : ℕ) → option_map filled_of (inode_of new q) ≡ option_map filled_of (inode_of old q)
  pub used : new.used ≡ old.used
  pub next : new.next ≡ old.next
  pub few : len new.inodes ≡ len old.inodes
  pub lawful : IsInodes old → IsInodes new

pub same-then : (a b c : InodesValue) → SameFiles c b → SameFiles b a → SameFiles c a
same-then a b c two one = record {
  lengths = λ q. two.lengths q ∙ one.lengths q;
  sizes = λ q. two.sizes q ∙ one.sizes q;
  owners = λ q. two.owners q ∙ one.owners q;
  blocks = λ q. two.blocks q ∙ one.blocks q;
  used = two.used ∙ one.used;
  next = two.next ∙ one.next;
  few = two.few ∙ one.few;
  lawful = λ is. two.lawful (one.lawful is);
}

-- an inode set of a file of the same size and blocks, or of a directory
pub same-set : (v : InodesValue) (fileid : ℕ) (old inode : Inode) → IsInodes v → inode_of v fileid ≡ Some old
    → size_in inode.kind ≡ size_in old.kind → owner_in inode ≡ owner_in old → filled_blocks inode.kind ≡ filled_blocks old.kind
    → text_length_in inode.kind ≡ text_length_in old.kind → SameFiles (inode_set fileid inode v) v
same-set v fileid old inode is there size owner filled text = record {
  lengths = λ q. length-by q (q == fileid) refl;
  sizes = λ q. by shown_size size q (q == fileid) refl;
  owners = λ q. by owner_in owner q (q == fileid) refl;
  blocks = λ q. by filled_of filled q (q == fileid) refl;
  used = used-set-same v fileid old inode is there filled;
  next = next-set v fileid inode;
  few = len-set v fileid inode;
  lawful = λ lawful. set-is v fileid inode lawful;
}
  where
    by : {A : Type 0} (g : Inode → A) → g inode ≡ g old → (q : ℕ) (b : Bool) → (q == fileid) ≡ b
        → option_map g (inode_of (inode_set fileid inode v) q) ≡ option_map g (inode_of v q)
    by g same q true e =
        ap (λ (k : ℕ). option_map g (inode_of (inode_set fileid inode v) k)) (eqb-true q fileid e)
        ∙ ap (option_map g) (inode-set-there v fileid old inode there) ∙ ap Some same
        ∙ sym (ap (λ (k : ℕ). option_map g (inode_of v k)) (eqb-true q fileid e) ∙ ap (option_map g) there)
    by g same q false e = ap (option_map g) (inode-set-other v fileid inode q e)

    length-by : (q : ℕ) (b : Bool) → (q == fileid) ≡ b → text_length_of (inode_of (inode_set fileid inode v) q) ≡ text_length_of (inode_of v q)
    length-by q true e =
        ap (λ (k : ℕ). text_length_of (inode_of (inode_set fileid inode v) k)) (eqb-true q fileid e)
        ∙ ap text_length_of (inode-set-there v fileid old inode there) ∙ text
        ∙ sym (ap (λ (k : ℕ). text_length_of (inode_of v k)) (eqb-true q fileid e) ∙ ap text_length_of there)
    length-by q false e = ap text_length_of (inode-set-other v fileid inode q e)

abbrev size_found : Option (Option ℕ) → Option ℕ
size_found None = None
size_found (Some size) = size

size-is : (o : Option Inode) → size_of o ≡ size_found (option_map shown_size o)
size-is None = refl
size-is (Some inode) = refl

-- the volume with other inodes and directories, in which a file settled
abbrev with_names : InodesValue → DirectoryMap → ℕ → VolumeContents → VolumeContents
with_names inodes directories f p = record p {
  logical = record p.logical { inodes = inodes; directories = directories };
  stripes = touches_taken f p.stripes;
}

module _ (p : VolumeContents) (inodes : InodesValue) (directories : DirectoryMap) (f : ℕ) (well : WellFormed p) (same : SameFiles inodes p.logical.inodes)
    (named : AreNamed inodes.inodes directories) where
  abbrev then_volume : VolumeContents
  then_volume = with_names inodes directories f p

  size-same : (q : ℕ) → size_of (inode_of inodes q) ≡ size_of (inode_of p.logical.inodes q)
  size-same q = size-is (inode_of inodes q) ∙ ap size_found (same.sizes q) ∙ sym (size-is (inode_of p.logical.inodes q))

  fits-then : (i : ℕ) (s : StripeValue) → StripeFits p.logical i s → StripeFits then_volume.logical i (touch_taken f s)
  fits-then i s fits = record {
    verifier = fits.verifier;
    stripes = fits.stripes;
    largest = fits.largest;
    cards = λ q. shown-stays f s q ∙ fits.cards q ∙ sym (same.sizes q);
    owners = λ q. owner-stays f s q ∙ fits.owners q ∙ sym (same.owners q);
    long = record { long = fits.long.long };
    blocks = λ q block b e. let was = fits.blocks q block b e in (was.0, size-same q ∙ was.1, was.2);
  }

  filled-then : (q : ℕ) (x : Inode) → inode_of inodes q ≡ Some x → filled_blocks x.kind ≡ sets.len (file_filled then_volume.stripes q)
  filled-then q x e = by (inode_of p.logical.inodes q) refl ∙ sym (ap sets.len (blocks.filled-stays (touch_taken f) (λ s. refl) p.stripes q))
    where
      by : (o : Option Inode) → inode_of p.logical.inodes q ≡ o → filled_blocks x.kind ≡ sets.len (file_filled p.stripes q)
      by None was = let no : Some (filled_blocks x.kind) ≡ None = sym (ap (option_map filled_of) e) ∙ same.blocks q ∙ ap (option_map filled_of) was in absurd cc
      by (Some y) was =
          let some : Some (filled_blocks x.kind) ≡ Some (filled_blocks y.kind) =
          sym (ap (option_map filled_of) e) ∙ same.blocks q ∙ ap (option_map filled_of) was in
          let here : filled_blocks x.kind ≡ filled_blocks y.kind = cc in
          here ∙ well.filled q y was

  well-then : WellFormed then_volume
  well-then = record {
    striped = well.striped;
    largest = well.largest;
    most_inodes = well.most_inodes;
    size = well.size;
    logical = record {
      inodes = same.lawful well.logical.inodes;
      few = let count = same.few in let few = well.logical.few in omega (arith, count, few);
      sizes = λ q. subst (λ o. IfSome o (λ size. size ≤ p.logical.largest)) (sym (size-same q)) (well.logical.sizes q);
      named = named;
      texts = λ q. well.logical.texts q ∙ sym (same.lengths q);
    };
    as_many = length-map p.stripes (touch_taken f) ∙ well.as_many;
    stripes = λ i less.
        let long = length-map p.stripes (touch_taken f) in
        let on : i < length p.stripes = omega (arith, less, long) in
        subst (StripeFits then_volume.logical i) (sym (blocks.stripe-mapped (touch_taken f) p.stripes i on))
        (fits-then i (stripe_at p.stripes i) (well.stripes i on));
    used = same.used ∙ well.used ∙ sym (blocks.total-mapped (touch_taken f) (λ (s : StripeValue). len s.blocks) (λ s. refl) p.stripes);
    filled = filled-then;
    sixteen = well.sixteen;
    some = well.some;
    ranges = well.ranges;
  }

  pub sound-then : (hands hands' : List Hand) (made now : ℕ) → made ≤ now
      → ((n : ℕ) → total (times_in_hand p.number n) hands' ≡ total (times_in_hand p.number n) hands)
      → ((q : ℕ) (d : DirectoryValue) → get directories q ≡ Some d → d.next ≤ 3 + now)
      → IsSound p hands made → IsSound then_volume hands' now
  sound-then hands hands' made now later weigh cookies s = record {
    well_formed = well-then;
    young = record {
      fileids = (let next = same.next in let y = s.young.fileids in omega (arith, next, y, later));
      cookies = cookies;
    };
    partition = λ n.
        let e = weigh n in
        let o = s.partition n in
        let stripes = blocks.total-mapped (touch_taken f) (times_in_stripe n) (λ t. refl) p.stripes in
        omega (arith, e, o, stripes);
  }

-- ---- a node moved

-- the node has as many names as before its entry was taken
pub node-names : (p : VolumeContents) (from to : Naming) → StandsUnder from p.logical.inodes p.logical.directories
    → MayHang to (inodes_untied from p.logical.inodes) (entries_untied from p.logical.directories) → to.fileid ≡ from.fileid
    → to.node.names ≡ from.node.names
node-names p from to stands may one =
    sym (ap names_of (ap (λ (k : ℕ). inode_of (inodes_untied from p.logical.inodes) k) (sym one) ∙ may.node))
    ∙ names-same p.logical.inodes p.logical.directories from stands from.fileid ∙ ap names_of stands.node

pub size-with : (parent : ℕ) (k : InodeKind) → size_in (with_parent parent k) ≡ size_in k
size-with parent k = kinds.size-changed (λ old. parent) (λ n. n) k

-- the owner stays where a node settles and has another parent
pub owner-with : (parent : ℕ) (touch : Option Moment) (moment : Moment) (a : Attributes) (k : InodeKind)
    → owner_by (record (attributes_now touch a k) { ctime = moment }) (with_parent parent k) ≡ owner_by a k
owner-with parent touch moment a k = kinds.owner-alike a (record (attributes_now touch a k) { ctime = moment }) k (with_parent parent k)
    (kinds.owner-now touch a k) (size-with parent k)

module _ (p : VolumeContents) (from to : Naming) (well : WellFormed p)
    (stands : StandsUnder from p.logical.inodes p.logical.directories)
    (may : MayHang to (inodes_untied from p.logical.inodes) (entries_untied from p.logical.directories)) (one : to.fileid ≡ from.fileid)
    (as_many : to.names ≡ from.node.names) where
  abbrev touch : Option Moment
  touch = file_touch p.stripes to.fileid

  abbrev taken : InodesValue
  taken = inodes_untied from p.logical.inodes

  abbrev untied : Inode
  untied = dated_inode from.moment (without_subdirectories (directories_in from.node.kind) from.inode.kind) from.inode

  same-taken : SameFiles taken p.logical.inodes
  same-taken = same-set p.logical.inodes from.directory from.inode untied well.logical.inodes stands.there
      (unnamed.size-kept (directories_in from.node.kind) from.inode.kind)
      (kinds.owner-alike from.inode.attributes untied.attributes from.inode.kind untied.kind refl
      (unnamed.size-kept (directories_in from.node.kind) from.inode.kind))
      (unnamed.blocks-kept (directories_in from.node.kind) from.inode.kind)
      (kinds.text-changed (λ parent. parent) (λ n. n - directories_in from.node.kind) from.inode.kind)

  abbrev dated : Inode
  dated = dated_inode to.moment (with_subdirectories (directories_in to.node.kind) to.inode.kind) to.inode

  same-dated : SameFiles (inode_set to.directory dated taken) taken
  same-dated = same-set taken to.directory to.inode dated (same-taken.lawful well.logical.inodes) may.there
      (made.size-kept (directories_in to.node.kind) to.inode.kind)
      (kinds.owner-alike to.inode.attributes dated.attributes to.inode.kind dated.kind refl
      (made.size-kept (directories_in to.node.kind) to.inode.kind))
      (made.blocks-kept (directories_in to.node.kind) to.inode.kind)
      (kinds.text-changed (λ parent. parent) (λ n. n + directories_in to.node.kind) to.inode.kind)

  same-hung : SameFiles (inodes_hung to touch taken) (inode_set to.directory dated taken)
  same-hung = same-set (inode_set to.directory dated taken) to.fileid to.node (node_hung to touch)
      (same-dated.lawful (same-taken.lawful well.logical.inodes))
      (still taken (entries_untied from p.logical.directories) to touch may) (size-with to.directory to.node.kind)
      (owner-with to.directory touch to.moment to.node.attributes to.node.kind)
      (kinds.blocks-changed (λ old. to.directory) (λ n. n) to.node.kind)
      (kinds.text-changed (λ old. to.directory) (λ n. n) to.node.kind)

  same-all : SameFiles (inodes_hung to touch taken) p.logical.inodes
  same-all = same-then p.logical.inodes taken (inodes_hung to touch taken)
      (same-then taken (inode_set to.directory dated taken) (inodes_hung to touch taken) same-hung same-dated) same-taken

  named-moved : AreNamed (inodes_hung to touch taken).inodes (entries_hung to (entries_untied from p.logical.directories))
  named-moved = named-hung taken (entries_untied from p.logical.directories) to touch may
      (subst (λ (f : ℕ). AreNamedBut f to.names taken.inodes (entries_untied from p.logical.directories)) (sym one)
      (subst (λ (n : ℕ). AreNamedBut from.fileid n taken.inodes (entries_untied from p.logical.directories)) (sym as_many)
      (named-untied p.logical.inodes p.logical.directories from stands well.logical.named)))

  -- cookies: one more was given
  cookies-moved : (now : ℕ) → ((q : ℕ) (d : DirectoryValue) → get p.logical.directories q ≡ Some d → d.next + 1 ≤ 3 + now)
      → (q : ℕ) (d : DirectoryValue) → get (entries_hung to (entries_untied from p.logical.directories)) q ≡ Some d → d.next ≤ 3 + now
  cookies-moved now young q d e = by (q == to.directory) refl
    where
      before : (r : ℕ) (x : DirectoryValue) → get (entries_untied from p.logical.directories) r ≡ Some x → x.next + 1 ≤ 3 + now
      before r x h = first (r == from.directory) refl
        where
          first : (b : Bool) → (r == from.directory) ≡ b → x.next + 1 ≤ 3 + now
          first true is =
              let same : removed from.name from.entries ≡ x =
              (let at = sym (ap (get (entries_untied from p.logical.directories)) (eqb-true r from.directory is))
              ∙ h in let here = untied-entries p.logical.inodes p.logical.directories from stands in cc) in
              let next : from.entries.next ≡ x.next = ap (λ (y : DirectoryValue). y.next) same in
              let y = young from.directory from.entries stands.entered in
              omega (arith, next, y)
          first false is = young r x (sym (untied-others p.logical.inodes p.logical.directories from stands r is) ∙ h)

      by : (b : Bool) → (q == to.directory) ≡ b → d.next ≤ 3 + now
      by true is =
          let same : added to.name to.fileid to.entries ≡ d =
          (let at = sym (ap (get (entries_hung to (entries_untied from p.logical.directories))) (eqb-true q to.directory is)) ∙ e in
          let here = hung-entries taken (entries_untied from p.logical.directories) to touch may in cc) in
          let next : to.entries.next + 1 ≡ d.next = ap (λ (y : DirectoryValue). y.next) same in
          let y = before to.directory to.entries may.entered in
          omega (arith, next, y)
      by false is =
          let y = before q d (sym (hung-others taken (entries_untied from p.logical.directories) to touch may q is) ∙ e) in
          omega (arith, y)

  -- all stays sound
  pub sound-moved : (hands hands' : List Hand) (made : ℕ) → ((n : ℕ) → total (times_in_hand p.number n) hands' ≡ total (times_in_hand p.number n) hands)
      → IsSound p hands made → IsSound (moved_in from to p) hands' (made + 1)
  sound-moved hands hands' made weigh s =
      sound-then p (inodes_hung to touch taken) (entries_hung to (entries_untied from p.logical.directories)) to.fileid well same-all named-moved
      hands hands' made (made + 1) (omega arith) weigh
      (cookies-moved (made + 1) (λ q d e. let y = s.young.cookies q d e in omega (arith, y))) s
