-- The parcels as a run begins are sound, and stand for the server as it begins.
use Rattle.std.proofs.Common.{◌≡◌, ℕ, zero, suc, ◌+◌, ◌*◌, ◌/◌, ◌<◌, ◌≤◌, ◌==◌, Bool, true, false, not, ◌&&◌, cond, List, [], ◌∷◌, ◌++◌, length, map}
use Rattle.std.proofs.Common.{Option, Some, None, replicate}
use Rattle.std.proofs.Common.{refl, sym, ap, ◌∙◌, subst, arith, eqb, nat_lt, nat_eq, ⊎_elim}
use Rattle.std.specs.Prelude.{slice_get, slice_index_or, is_some, IfSome, nat_le}
use Rattle.std.proofs.lemmas.Bool.{cases_lt, lt-ltb, le-ltb, eqb-true, leb-true, and_parts}
use Rattle.std.specs.List.{range_with_len, list_any, list_all}
use Rattle.std.specs.Option.{option_map}
use Rattle.std.specs.Ordering.{nat_cmp}
use Rattle.std.specs.Cmp.{nat_cmp_total, unsigned_tied}
use Rattle.std.specs.FinMap as maps
use Rattle.std.specs.FinMap.{get, from_sorted, get-from_sorted, entries, entries-from_sorted, len-entries, get-empty, same_map, nat_cmp-IsAntisymmetric}
use Rattle.std.specs.FinSet as sets
use Rattle.std.specs.FinSet.{contains, from_list, contains-from_list_nat, contains-empty}
use Rattle.nfs_model.specs.Parts.{one_if, most_ranges}
use Rattle.depot_rule.specs.Sums.{total}
use Rattle.nfs_model.specs.volume.Ranges.{RangeValue, IsRangeSize, range_numbers}
use Rattle.filer_state.specs.state.Contents.{filer_contents, each}
use Rattle.filer_state.specs.state.Tree.{ranges_used}
use Rattle.affinity.specs.Fault.{fault_of, is_sized}
use Rattle.affinity.specs.Largest.{mebibyte, largest_of, mebibytes_in, inodes_in, inodes_of, steps_in, steps_of, begun_in, begun_of, root_in, root_of, remembered_in, remembered_of}
use Rattle.affinity.specs.lemmas.Lawful.{keeps_rules, stripes_either, mebibytes_between, inodes_between, range_blocks_size}
use Rattle.nfs_model.specs.Types.{Listed, Moment, Ownership}
use Rattle.nfs_model.specs.Tree as trees
use Rattle.nfs_model.specs.Tree.{Layout, VolumeLayout, stripes_of, aggregate_of, aggregate_in, range_blocks_of, range_blocks_in}
use Rattle.nfs_model.specs.Server.{VolumeState, root_node, opening_volume, opening_volumes, opening}
use Rattle.nfs_model.specs.Parts.{count}
use Rattle.nfs_model.specs.volume.Maps.{map_values}
use Rattle.nfs_model.specs.volume.lemmas.Maps.{get-map_values}
use Rattle.nfs_model.specs.volume.Directories.{DirectoryValue, empty_directory}
use Rattle.nfs_model.specs.volume.Inodes.{Inode, IsInodes, root_inode, filled_blocks, blocks_filled}
use Rattle.nfs_model.specs.volume.Stripes.{OfDirectory, Block, FileBlock, file_block_cmp, StripeValue, stripe_of, is_filled}
use Rattle.filer_state.specs.state.Parcels.{FilerParcel, no_stripe, no_range}
use Rattle.filer_state.specs.state.Contents.{VolumeContents, at, contents_of, logical_in, stripe_in, range_in, spare_in}
use Rattle.filer_state.specs.state.Tree.{stripe_at, file_filled, home_stripe, most_file_blocks, node_of, node_by, volume_of, tree}
use Rattle.filer_state.specs.state.Names.{root, size_of, size_in, parent_directory, is_directory, subdirectories_of, DirectoryFits, AreNamed, IsLogical, names_of, text_length_of}
use Rattle.filer_state.specs.state.Names.{InodeMap, DirectoryMap}
use Rattle.filer_state.specs.state.WellFormed.{size_shown, owner_shown, owner_in, StripeFits, RangeFits, WellFormed}
use Rattle.filer_state.specs.state.Partition.{StandOnce, times_in_stripe}
use Rattle.filer_state.specs.state.Sound.{IsSound, AllSound}
use Rattle.filer_state.specs.state.Opening.{opening_logical, opening_stripe, opening_range, ranges_in, AreOpening}
use Rattle.filer_state.specs.laws.lemmas.Each.{each-same, each-get, each-index, each-length, each-map, get-there}
use Rattle.filer_state.specs.laws.lemmas.OpeningRanges.{one-below, none-below, same-below, listed-once, opening-used, opening-unused, all-used, all-free}
use Rattle.filer_state.specs.laws.lemmas.Sizes.{quotient-is}
use Rattle.filer_state.specs.laws.lemmas.Counted.{free-times}
use Rattle.filer_state.specs.state.Partition.{all_numbers, free_in, numbers_in, parts_of, all_parts}
use Rattle.nfs_model.specs.Headline.{opening_parts}

-- ---- maps of the root alone

single-get : {X : Type 0} (x : X) (q : ℕ) → get (from_sorted {R = nat_cmp} ((root, x) ∷ [])) q ≡ cond (eqb q root) (Some x) None
single-get x q = get-from_sorted nat_cmp ((root, x) ∷ []) q tt ∙ ap (λ (b : Bool). cond b (Some x) None) (unsigned_tied q root)

single-is : {X : Type 0} (x y : X) (q : ℕ) → get (from_sorted {R = nat_cmp} ((root, x) ∷ [])) q ≡ Some y → (q ≡ root) × (y ≡ x)
single-is x y q e = by (eqb q root) (λ h. eqb-true q root h) (sym (single-get x q) ∙ e)
  where
    by : (b : Bool) → (b ≡ true → q ≡ root) → cond b (Some x) None ≡ Some y → (q ≡ root) × (y ≡ x)
    by true is h = (is refl, (let same : y ≡ x = cc in same))
    by false is h = absurd cc

single-entries : {X : Type 0} (x : X) → entries (from_sorted {R = nat_cmp} ((root, x) ∷ [])) ≡ (root, x) ∷ []
single-entries x = entries-from_sorted nat_cmp ((root, x) ∷ []) tt

-- ---- names

abbrev root_inodes : Ownership → Moment → InodeMap
root_inodes owner begun = from_sorted ((root, root_inode owner begun) ∷ [])

abbrev root_directories : DirectoryMap
root_directories = from_sorted ((root, empty_directory) ∷ [])

of-root : {X : Type 0} (owner : Ownership) (begun : Moment) (f : Option Inode → X) (q : ℕ)
    → f (get (root_inodes owner begun) q) ≡ f (cond (eqb q root) (Some (root_inode owner begun)) None)
of-root owner begun f q = ap f (single-get (root_inode owner begun) q)

opening-named : (owner : Ownership) (begun : Moment) → AreNamed (root_inodes owner begun) root_directories
opening-named owner begun = record {
  root_there = of-root owner begun parent_directory root;
  as_directories = λ q. ap is_some (single-get empty_directory q) ∙ same (eqb q root) ∙ sym (of-root owner begun is_directory q);
  fits = λ q d e. let is = single-is empty_directory d q e in
      subst (λ x. DirectoryFits (root_inodes owner begun) q x) (sym is.1) (subst (λ (k : ℕ). DirectoryFits (root_inodes owner begun) k empty_directory) (sym is.0) (record {
        list = record { cookies = omega arith; names = tt };
        children = tt;
        links = of-root owner begun subdirectories_of root;
      }));
  counted = λ q. ap (λ (es : List (ℕ × DirectoryValue)). total (λ (d : ℕ
      × DirectoryValue). count (λ (e : Listed). e.fileid == q) d.1.list) es) (single-entries empty_directory)
      ∙ sym (of-root owner begun names_of q ∙ unnamed (q == root));
  once = λ q e. of-root owner begun names_of q ∙ unnamed (q == root)
      ∙ sym (ap (λ (k : ℕ). one_if (not (k == root))) (directory-root (eqb q root) q (λ h. eqb-true q root h) (sym (of-root owner begun is_directory q) ∙ e)));
  rooted = λ q e. (0, directory-root (eqb q root) q (λ h. eqb-true q root h) (sym (of-root owner begun is_directory q) ∙ e));
}
  where
    same : (b : Bool) → is_some (cond b (Some empty_directory) None) ≡ is_directory (cond b (Some (root_inode owner begun)) None)
    same true = refl
    same false = refl

    unnamed : (b : Bool) → names_of (cond b (Some (root_inode owner begun)) None) ≡ 0
    unnamed true = refl
    unnamed false = refl

    directory-root : (b : Bool) (q : ℕ) → (b ≡ true → q ≡ root) → is_directory (cond b (Some (root_inode owner begun)) None) ≡ true → q ≡ root
    directory-root true q is e = is refl
    directory-root false q is e = absurd cc

opening-inodes : (owner : Ownership) (begun : Moment) → IsInodes (record { next = 2; used = 0; inodes = root_inodes owner begun })
opening-inodes owner begun = record {
  fileids = λ q inode e. let is = (single-is (root_inode owner begun) inode q e).0 in omega arith;
  filled = sym (ap (λ es. blocks_filled es) (single-entries (root_inode owner begun)));
}

opening-sizes : (owner : Ownership) (begun : Moment) (largest q : ℕ) → IfSome (size_of (get (root_inodes owner begun) q)) (λ size. size ≤ largest)
opening-sizes owner begun largest q = subst (λ o. IfSome (size_of o) (λ size. size ≤ largest)) (sym (single-get (root_inode owner begun) q)) (by (eqb q root))
  where
    by : (b : Bool) → IfSome (size_of (cond b (Some (root_inode owner begun)) None)) (λ size. size ≤ largest)
    by true = tt
    by false = tt

opening-is-logical : (verifier : List ℕ) (stripes largest most steps : ℕ) (owner : Ownership) (begun : Moment) (size remembered : ℕ) → 0 < most
    → IsLogical (opening_logical verifier stripes largest most steps owner begun size remembered)
opening-is-logical verifier stripes largest most steps owner begun size remembered some = record {
  inodes = opening-inodes owner begun;
  few = let one = len-entries (root_inodes owner begun) ∙ ap length (single-entries (root_inode owner begun)) in omega (arith, one, some);
  sizes = opening-sizes owner begun largest;
  named = opening-named owner begun;
  texts = λ q. ap (option_map length) (get-empty nat_cmp q) ∙ sym (of-root owner begun text_length_of q ∙ untold (eqb q root));
}
  where
    untold : (b : Bool) → text_length_of (cond b (Some (root_inode owner begun)) None) ≡ None
    untold true = refl
    untold false = refl

-- ---- stripes without blocks

module _ (s : StripeValue) (bare : s.blocks ≡ maps.empty) where
  no-block : (fileid block : ℕ) → get s.blocks (fileid, block) ≡ None
  no-block fileid block = ap (λ m. get m (fileid, block)) bare ∙ get-empty file_block_cmp (fileid, block)

  none-listed : numbers_in s ≡ []
  none-listed = ap (λ (es : List (FileBlock × Block)). map (λ (e : FileBlock × Block). e.1.number) es) (no-items (entries s.blocks)
      (sym (len-entries s.blocks) ∙ ap (λ m. maps.len m) bare ∙ maps.len-empty file_block_cmp Block))
    where
      no-items : (xs : List (FileBlock × Block)) → length xs ≡ 0 → xs ≡ []
      no-items [] e = refl
      no-items (x ∷ xs) e = absurd (omega arith)

no-numbers : (s : StripeValue) → s.blocks ≡ maps.empty → (q : ℕ) → times_in_stripe q s ≡ 0
no-numbers s bare q = ap (λ ns. count (λ b. b == q) ns) (none-listed s bare)

total-none : {A : Type 0} (f : A → ℕ) (g : ℕ → A) (from n : ℕ) → ((i : ℕ) → f (g i) ≡ 0) → total f (each g from n) ≡ 0
total-none f g from zero h = refl
total-none f g from (suc n) h = let here = h from in let others = total-none f g (from + 1) n h in omega arith

none-retained : (l : sets.FinSet nat_cmp) → sets.retain l (λ b. false) ≡ sets.empty
none-retained l = sets.same_set nat_cmp_total nat_cmp-IsAntisymmetric (sets.retain l (λ b. false)) sets.empty
    (λ q. sets.contains-retain l (λ b. false) q (λ x e. refl) ∙ neither (contains l q) ∙ sym (contains-empty nat_cmp q))
  where
    neither : (b : Bool) → (b && false) ≡ false
    neither true = refl
    neither false = refl

-- stripes of one kind
stripe-any : (Q : StripeValue → Type 0) (s : StripeValue) (from n i : ℕ) → Q s → Q no_stripe → Q (stripe_at (each (λ k. s) from n) i)
stripe-any Q s from zero i here none = none
stripe-any Q s from (suc n) zero here none = here
stripe-any Q s from (suc n) (suc i) here none = stripe-any Q s (from + 1) n i here none

none-filled : (s : StripeValue) → s.blocks ≡ maps.empty → (n fileid : ℕ) → sets.len (file_filled (each (λ k. s) 0 n) fileid) ≡ 0
none-filled s bare n fileid =
    let stripes : List StripeValue = each (λ k. s) 0 n in
    let all : (block : ℕ) → is_filled (home_stripe stripes fileid block) fileid block ≡ false = λ block.
    stripe-any (λ t. is_filled t fileid block ≡ false) s 0 n (stripe_of (length stripes) fileid block)
    (ap is_some (no-block s bare fileid block)) (ap is_some (get-empty file_block_cmp (fileid, block))) in
    ap sets.len ((λ j. sets.retain (from_list (range_with_len 0 most_file_blocks)) (λ block. all block j))
    ∙ none-retained (from_list (range_with_len 0 most_file_blocks)))
    ∙ sets.len-empty nat_cmp

-- ---- a range

pub in-own : (size r b : ℕ) → contains (from_list {R = nat_cmp} (range_numbers size r)) b ≡ true → b / size ≡ r
in-own size r b h =
    let one : one_if (list_any (λ y. nat_eq y b) (range_numbers size r)) ≡ 1 = ap one_if (sym (contains-from_list_nat (range_numbers size r) b) ∙ h) in
    let once = listed-once (size * r) size b in
    ⊎_elim
    (λ (less : b < size * r).
    let low = one-below b (size * r) less in
    let high = one-below b (size * r + size) (omega arith) in
    absurd (omega arith))
    (λ (more : size * r ≤ b). ⊎_elim
    (λ (less : b < size * r + size). quotient-is size r b more less)
    (λ (past : size * r + size ≤ b).
    let low = none-below b (size * r) more in
    let high = none-below b (size * r + size) past in
    absurd (omega arith))
    (cases_lt b (size * r + size)))
    (cases_lt b (size * r))

range-fits : (size u r : ℕ) → IsRangeSize size → RangeFits size u r (opening_range size u r)
range-fits size u r is = ⊎_elim
    (λ (less : r < u). subst (RangeFits size u r) (sym (opening-used size u r less)) (record {
      blocks = refl;
      number = refl;
      in_use = sym (lt-ltb r u less);
      free = record { size = is; own = λ b h. in-own size r b h; used = λ e. absurd cc };
    }))
    (λ (more : u ≤ r). subst (RangeFits size u r) (sym (opening-unused size u r more)) (record {
      blocks = refl;
      number = refl;
      in_use = sym (le-ltb r u more);
      free = record { size = is; own = λ b h. let none = contains-empty nat_cmp b in absurd cc; used = λ e. refl };
    }))
    (cases_lt r u)

-- ---- a stripe

opening-fits : (verifier : List ℕ) (stripes largest most steps : ℕ) (owner : Ownership) (begun : Moment) (size remembered i : ℕ)
    → StripeFits (opening_logical verifier stripes largest most steps owner begun size remembered) i (opening_stripe verifier stripes largest)
opening-fits verifier stripes largest most steps owner begun size remembered i = record {
  verifier = refl;
  stripes = refl;
  largest = refl;
  cards = λ q. ap (option_map size_shown) (single-get OfDirectory q) ∙ same (eqb q root)
      ∙ sym (of-root owner begun (option_map (λ (inode : Inode). size_in inode.kind)) q);
  owners = λ q. ap (option_map owner_shown) (single-get OfDirectory q) ∙ unowned (eqb q root) ∙ sym (of-root owner begun (option_map owner_in) q);
  long = record { long = λ place b e. let none = get-empty {X = Block} file_block_cmp place in absurd cc };
  blocks = λ fileid block b e. let none = get-empty {X = Block} file_block_cmp (fileid, block) in absurd cc;
}
  where
    same : (b : Bool) → option_map size_shown (cond b (Some OfDirectory) None)
        ≡ option_map (λ (inode : Inode). size_in inode.kind) (cond b (Some (root_inode owner begun)) None)
    same true = refl
    same false = refl

    unowned : (b : Bool) → option_map owner_shown (cond b (Some OfDirectory) None) ≡ option_map owner_in (cond b (Some (root_inode owner begun)) None)
    unowned true = refl
    unowned false = refl

-- ---- a volume

abbrev opening_contents : Layout → List ℕ → ℕ → VolumeContents
opening_contents layout verifier v = record {
  number = v;
  aggregate = aggregate_of layout v;
  logical = opening_logical verifier (stripes_of layout v) (largest_of layout v) (inodes_of layout v) (steps_of layout v) (root_of layout v) (begun_of layout v)
      (range_blocks_of layout v) (remembered_of layout v);
  stripes = each (λ i. opening_stripe verifier (stripes_of layout v) (largest_of layout v)) 0 (stripes_of layout v);
  ranges = each (opening_range (range_blocks_of layout v) (ranges_in (slice_get layout.volumes v))) 0 most_ranges;
}

contents-open : {P : Type 0} (layout : Layout) (verifier : List ℕ) (f : ℕ → Option (FilerParcel P)) → AreOpening layout verifier f
    → (v : ℕ) → v < length layout.volumes → contents_of layout f v ≡ opening_contents layout verifier v
contents-open layout verifier f is v on = λ j. record {
  number = v;
  aggregate = aggregate_of layout v;
  logical = logical_in (is (trees.Logical v) on j);
  stripes = each-same (λ i. stripe_in (at layout f (trees.Stripe v i)))
      (λ i. opening_stripe verifier (stripes_of layout v) (largest_of layout v)) 0 (stripes_of layout v)
      (λ i low high. ap stripe_in (is (trees.Stripe v i) (on, omega arith))) j;
  ranges = each-same (λ r. range_in (at layout f (trees.Range v r)))
      (opening_range (range_blocks_of layout v) (ranges_in (slice_get layout.volumes v))) 0 most_ranges
      (λ r low high. ap range_in (is (trees.Range v r) (on, omega arith))) j;
}

-- a volume of a lawful layout begins with at most 16 ranges
sized : (layout : Layout) → fault_of layout ≡ None → list_all is_sized layout.volumes ≡ true
sized layout h = (keeps_rules layout h).sized

ranges-some : (layout : Layout) → fault_of layout ≡ None → (v : ℕ) → v < length layout.volumes → 0 < ranges_in (slice_get layout.volumes v)
ranges-some layout h v on = at-least layout.volumes v on (sized layout h)
  where
    at-least : (volumes : List VolumeLayout) (v : ℕ) → v < length volumes → list_all is_sized volumes ≡ true → 0 < ranges_in (slice_get volumes v)
    at-least [] v on e = absurd (omega arith)
    at-least (x ∷ xs) zero on e =
        let some = leb-true 1 x.ranges (and_parts (nat_le 1 x.ranges) (nat_le x.ranges 16) (and_parts (is_sized x)
        (list_all is_sized xs) e).0).0 in omega arith
    at-least (x ∷ xs) (suc v) on e = at-least xs v (omega arith) (and_parts (is_sized x) (list_all is_sized xs) e).1

ranges-most : (layout : Layout) → fault_of layout ≡ None → (v : ℕ) → ranges_in (slice_get layout.volumes v) ≤ 16
ranges-most layout h v = at-most layout.volumes v (sized layout h)
  where
    at-most : (volumes : List VolumeLayout) (v : ℕ) → list_all is_sized volumes ≡ true → ranges_in (slice_get volumes v) ≤ 16
    at-most [] v e = omega arith
    at-most (x ∷ xs) zero e = leb-true x.ranges 16 (and_parts (nat_le 1 x.ranges) (nat_le x.ranges 16) (and_parts (is_sized x) (list_all is_sized xs) e).0).1
    at-most (x ∷ xs) (suc v) e = at-most xs v (and_parts (is_sized x) (list_all is_sized xs) e).1

module _ (layout : Layout) (lawful : fault_of layout ≡ None) (verifier : List ℕ) (v : ℕ) (on : v < length layout.volumes) where
  abbrev n : ℕ
  n = stripes_of layout v

  abbrev u : ℕ
  u = ranges_in (slice_get layout.volumes v)

  abbrev blocks : ℕ
  blocks = range_blocks_of layout v

  abbrev first : StripeValue
  first = opening_stripe verifier n (largest_of layout v)

  abbrev p : VolumeContents
  p = opening_contents layout verifier v

  in-use : ranges_used p.ranges ≡ u
  in-use = let most = ranges-most layout lawful v in let all = all-used blocks u 0 most_ranges (omega arith) (omega arith) in omega arith

  opening-well-formed : WellFormed p
  opening-well-formed = record {
    striped = stripes_either layout v lawful;
    largest = record {
      mebibytes = mebibytes_in (slice_get layout.volumes v);
      is = refl;
      least = (mebibytes_between layout v lawful).0;
      most = (mebibytes_between layout v lawful).1;
    };
    most_inodes = inodes_between layout v lawful;
    size = range_blocks_size layout v lawful;
    logical = opening-is-logical verifier n (largest_of layout v) (inodes_of layout v) (steps_of layout v) (root_of layout v) (begun_of layout v) blocks
        (remembered_of layout v) (let least = (inodes_between layout v lawful).0 in omega (arith, least));
    as_many = each-length (λ i. first) 0 n;
    stripes = λ i less.
        let long = each-length (λ k. first) 0 n in
        subst (StripeFits p.logical i) (sym (each-index (λ k. first) no_stripe n i (omega arith)))
        (opening-fits verifier n (largest_of layout v) (inodes_of layout v) (steps_of layout v) (root_of layout v) (begun_of layout v) blocks
        (remembered_of layout v) i);
    used = sym (total-none (λ s. maps.len s.blocks) (λ i. first) 0 n (λ i. maps.len-empty file_block_cmp Block));
    filled = λ q inode e.
        let is = single-is (root_inode (root_of layout v) (begun_of layout v)) inode q e in
        ap (λ (x : Inode). filled_blocks x.kind) is.1 ∙ sym (none-filled first refl n q);
    sixteen = each-length (opening_range blocks u) 0 most_ranges;
    some = (let used = in-use in let least = ranges-some layout lawful v on in omega arith);
    ranges = λ r less.
        let long = each-length (opening_range blocks u) 0 most_ranges in
        subst (λ (x : RangeValue). RangeFits blocks (ranges_used p.ranges) r x) (sym (each-index (opening_range blocks u) no_range most_ranges r (omega arith)))
        (subst (λ (k : ℕ). RangeFits blocks k r (opening_range blocks u r)) (sym in-use) (range-fits blocks u r (range_blocks_size layout v lawful)));
  }

  opening-partition : StandOnce p []
  opening-partition q =
      let most = ranges-most layout lawful v in
      let stripes = total-none (times_in_stripe q) (λ i. first) 0 n (λ i. no-numbers first refl q) in
      let empty_set : one_if (contains (sets.empty {R = nat_cmp}) q) ≡ 0 = ap one_if (contains-empty nat_cmp q) in
      let free = all-free blocks u q 0 most_ranges (omega arith) (omega arith) in
      let low = none-below q (blocks * 0) (let zero_blocks : blocks * 0 ≤ q = omega arith in zero_blocks) in
      let same = same-below q (blocks * u) (blocks * ranges_used p.ranges) (ap (λ (k : ℕ). blocks * k) (sym in-use)) in
      omega arith

  opening-is-sound : IsSound p [] 0
  opening-is-sound = record {
    well_formed = opening-well-formed;
    young = record {
      fileids = omega arith;
      cookies = λ q d e. let is = single-is empty_directory d q e in let same : d.next ≡ 3 = ap (λ (x : DirectoryValue). x.next) is.1 in omega arith;
    };
    partition = opening-partition;
  }

-- ---- all volumes

module _ {P : Type 0} (layout : Layout) (lawful : fault_of layout ≡ None) (verifier : List ℕ) (f : ℕ
    → Option (FilerParcel P)) (is : AreOpening layout verifier f) where
  pub opening-sound : AllSound layout f [] 0
  opening-sound v p at_v =
      let count : ℕ = length layout.volumes in
      let less = get-there (each (contents_of layout f) 0 count) v p at_v in
      let long = each-length (contents_of layout f) 0 count in
      let on : v < count = omega arith in
      let same : contents_of layout f v ≡ p = (let e = sym (each-get (contents_of layout f) count v on) ∙ at_v in cc) in
      let opens : p ≡ opening_contents layout verifier v = sym same ∙ contents-open layout verifier f is v on in
      subst (λ (x : VolumeContents). (x.number ≡ v) × IsSound x [] 0) (sym opens) (refl, opening-is-sound layout lawful verifier v on)

root-nodes : (owner : Ownership) (begun : Moment) (stripes : List StripeValue)
    → map_values (node_of stripes root_directories maps.empty) (root_inodes owner begun) ≡ from_sorted ((root, root_node owner begun) ∷ [])
root-nodes owner begun stripes = same_map nat_cmp_total nat_cmp-IsAntisymmetric _ _ (λ q.
    get-map_values nat_cmp_total nat_cmp-IsAntisymmetric (node_of stripes root_directories maps.empty) (root_inodes owner begun) q
    ∙ of-root owner begun (option_map (node_of stripes root_directories maps.empty q)) q
    ∙ by (eqb q root) q (λ h. eqb-true q root h)
    ∙ sym (single-get (root_node owner begun) q))
  where
    by : (b : Bool) (q : ℕ) → (b ≡ true → q ≡ root)
        → option_map (node_of stripes root_directories maps.empty q) (cond b (Some (root_inode owner begun)) None) ≡ cond b (Some (root_node owner begun)) None
    by true q h = ap (λ (k : ℕ). Some (node_of stripes root_directories maps.empty k (root_inode owner begun))) (h refl)
        ∙ ap (λ o. Some (node_by stripes o (get (maps.empty {R = nat_cmp}) root) root (root_inode owner begun).attributes 0 (root_inode owner begun).kind)) (single-get empty_directory root)
    by false q h = refl

volume-opens : (layout : Layout) (verifier : List ℕ) (v : ℕ) (x : VolumeLayout) → fault_of layout ≡ None → slice_get layout.volumes v ≡ Some x
    → volume_of (opening_contents layout verifier v) ≡ opening_volume verifier v x
volume-opens layout verifier v x lawful there =
    let used = in-use layout lawful verifier v (get-there layout.volumes v x there) in
    let total : range_blocks_of layout v * ranges_used (opening_contents layout verifier v).ranges ≡ x.range_blocks * x.ranges =
    λ j. range_blocks_in (there j) * (used ∙ ap ranges_in there) j in
    let largest : largest_of layout v ≡ mebibyte * x.mebibytes = ap (λ o. mebibyte * mebibytes_in o) there in
    λ j. record {
      number = v;
      aggregate = aggregate_in (there j);
      total = total j;
      largest = largest j;
      range_blocks = range_blocks_in (there j);
      most_inodes = inodes_in (there j);
      most_steps = steps_in (there j);
      verifier = verifier;
      next = 2;
      nodes = (root-nodes (root_of layout v) (begun_of layout v) (opening_contents layout verifier v).stripes
          ∙ ap (λ o. from_sorted ((root, root_node (root_in o) (begun_in o)) ∷ [])) there) j;
      memos = replicate (remembered_in (there j)) None;
    }

each-volume : (verifier : List ℕ) (h : ℕ → VolumeState) (vs : List VolumeLayout) (from : ℕ)
    → ((i : ℕ) (x : VolumeLayout) → slice_get vs i ≡ Some x → h (from + i) ≡ opening_volume verifier (from + i) x)
    → each h from (length vs) ≡ opening_volumes verifier from vs
each-volume verifier h [] from same = refl
each-volume verifier h (x ∷ vs) from same =
    let here : from + 0 ≡ from = omega arith in
    λ j. subst (λ (k : ℕ). h k ≡ opening_volume verifier k x) here (same 0 x refl) j
    ∷ each-volume verifier h vs (from + 1)
    (λ i y e. let next : from + suc i ≡ from + 1 + i = omega arith in subst (λ (k : ℕ). h k ≡ opening_volume verifier k y) next (same (suc i) y e)) j

each-listed : (xs : List ℕ) (h : ℕ → ℕ) (from : ℕ) → ((i : ℕ) → i < length xs → h (from + i) ≡ slice_index_or xs i 0) → each h from (length xs) ≡ xs
each-listed [] h from same = refl
each-listed (x ∷ xs) h from same =
    let here : from ≡ from + 0 = omega arith in
    λ j. (ap h here ∙ same 0 (omega arith)) j
    ∷ each-listed xs h (from + 1) (λ i less. let next : from + 1 + i ≡ from + suc i = omega arith in ap h next ∙ same (suc i) (omega arith)) j

module _ {P : Type 0} (layout : Layout) (lawful : fault_of layout ≡ None) (verifier : List ℕ) (f : ℕ
    → Option (FilerParcel P)) (is : AreOpening layout verifier f) where
  pub opening-tree : tree layout f ≡ opening layout verifier
  opening-tree = λ j. record {
    spare = each-listed layout.spare (λ a. spare_in (at layout f (trees.Aggregate a))) 0
        (λ i less. let here : 0 + i ≡ i = omega arith in
        ap (λ (a : ℕ). spare_in (at layout f (trees.Aggregate a))) here ∙ ap spare_in (is (trees.Aggregate i) less)) j;
    volumes = (each-map volume_of (contents_of layout f) 0 (length layout.volumes)
        ∙ each-volume verifier (λ v. volume_of (contents_of layout f v)) layout.volumes 0 (λ i x e.
        let less = get-there layout.volumes i x e in
        let here : i ≡ 0 + i = omega arith in
        subst (λ (k : ℕ). volume_of (contents_of layout f k) ≡ opening_volume verifier k x) here
        (ap volume_of (contents-open layout verifier f is i less) ∙ volume-opens layout verifier i x lawful e))) j;
  }

-- ---- where the block numbers are

one-same-bool : (a b : Bool) → one_if a ≡ one_if b → a ≡ b
one-same-bool true true e = refl
one-same-bool true false e = absurd (omega arith)
one-same-bool false true e = absurd (omega arith)
one-same-bool false false e = refl

no-numbers-in : (s : StripeValue) → s.blocks ≡ maps.empty → (from n : ℕ) → all_numbers (each (λ i. s) from n) ≡ []
no-numbers-in s bare from zero = refl
no-numbers-in s bare from (suc n) = λ j. none-listed s bare j ++ no-numbers-in s bare (from + 1) n j

-- all numbers below total are free, and no other
opening-free : (size u : ℕ) → u ≤ 16 → free_in (each (opening_range size u) 0 most_ranges) ≡ from_list (range_with_len 0 (size * u))
opening-free size u most = sets.same_set nat_cmp_total nat_cmp-IsAntisymmetric (free_in (each (opening_range size u) 0 most_ranges)) (from_list
    (range_with_len 0 (size * u)))
    (λ q.
    let free = all-free size u q 0 most_ranges (omega arith) (omega arith) in
    let low = none-below q (size * 0) (let zero_blocks : size * 0 ≤ q = omega arith in zero_blocks) in
    let at_most = at-most-one (nat_lt q (size * u)) in
    let counted = free-times q (each (opening_range size u) 0 most_ranges) (omega arith) in
    let listed = listed-once 0 (size * u) q in
    let start = none-below q 0 (omega arith) in
    let end = same-below q (0 + size * u) (size * u) (omega arith) in
    let has = ap one_if (contains-from_list_nat (range_with_len 0 (size * u)) q) in
    one-same-bool (contains (free_in (each (opening_range size u) 0 most_ranges)) q) (contains (from_list {R = nat_cmp} (range_with_len 0
    (size * u))) q) (omega arith))
  where
    at-most-one : (b : Bool) → one_if b ≤ 1
    at-most-one true = omega arith
    at-most-one false = omega arith

each-mapped : {A B : Type 0} (g : A → B) (h : ℕ → B) (xs : List A) (from : ℕ) → ((i : ℕ) (x : A) → slice_get xs i ≡ Some x → h (from + i) ≡ g x)
    → each h from (length xs) ≡ map g xs
each-mapped g h [] from same = refl
each-mapped g h (x ∷ xs) from same =
    let here : from ≡ from + 0 = omega arith in
    λ j. (ap h here ∙ same 0 x refl) j
    ∷ each-mapped g h xs (from + 1) (λ i y e. let next : from + 1 + i ≡ from + suc i = omega arith in ap h next ∙ same (suc i) y e) j

module _ {P : Type 0} (layout : Layout) (lawful : fault_of layout ≡ None) (verifier : List ℕ) (f : ℕ
    → Option (FilerParcel P)) (is : AreOpening layout verifier f) where
  -- the parts are as a run begins
  pub opening-parts : all_parts (filer_contents layout f) ≡ map opening_parts layout.volumes
  opening-parts =
      each-map parts_of (contents_of layout f) 0 (length layout.volumes)
      ∙ each-mapped opening_parts (λ v. parts_of (contents_of layout f v)) layout.volumes 0 (λ i x e.
      let less = get-there layout.volumes i x e in
      let here : 0 + i ≡ i = omega arith in
      ap (λ (k : ℕ). parts_of (contents_of layout f k)) here
      ∙ ap parts_of (contents-open layout verifier f is i less)
      ∙ (λ j. record {
        files = from_list (no-numbers-in (opening_stripe verifier (stripes_of layout i) (largest_of layout i)) refl 0 (stripes_of layout i) j);
        stock = sets.empty;
        dead = sets.empty;
        free = opening-free (range_blocks_of layout i) (ranges_in (slice_get layout.volumes i)) (ranges-most layout lawful i) j;
      })
      ∙ ap (λ (o : Option VolumeLayout). record {
        files = sets.empty;
        stock = sets.empty;
        dead = sets.empty;
        free = from_list (range_with_len 0
            (range_blocks_in o * ranges_in o));
      }) e)
