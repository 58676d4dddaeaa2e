-- Limits that follow where a volume is sound: what sums and conditions of the code rest on.
use Rattle.std.proofs.Common.{Option, ◌≡◌, ◌≢◌, ℕ, zero, suc, ◌+◌, ◌-◌, ◌*◌, ◌<◌, ◌≤◌, ◌==◌, Bool, true, false, cond, not, ◌&&◌, List, [], ◌∷◌, length, map}
use Rattle.std.proofs.Common.{Some, None}
use Rattle.std.proofs.Common.{refl, sym, ap, ◌∙◌, arith, eq-eqb, nat_lt, ⊎_elim, inl, inr, ◌⊎◌}
use Rattle.std.specs.Prelude.{is_some, if◌then◌else◌}
use Rattle.std.proofs.lemmas.Bool.{cases_eq, cases_lt, lt-ltb, le-ltb, eqb-true}
use Rattle.std.proofs.lemmas.List.{length-map}
use Rattle.std.specs.List.{filter}
use Rattle.std.specs.Ordering.{nat_cmp}
use Rattle.std.specs.Cmp.{nat_cmp_total, unsigned_tied}
use Rattle.std.specs.FinMap.{FinMap, get, remove, len, get-remove, len-remove, get-empty, empty_of_len, nat_cmp-IsAntisymmetric}
use Rattle.nfs_model.specs.Parts.{Hand, one_if, times_listed}
use Rattle.nfs_model.specs.Types.{Listed}
use Rattle.nfs_model.specs.volume.Directories.{DirectoryValue}
use Rattle.nfs_model.specs.volume.Ranges.{RangeValue}
use Rattle.filer_state.specs.state.Contents.{VolumeContents}
use Rattle.filer_state.specs.state.Tree.{ranges_used}
use Rattle.filer_state.specs.state.Names.{root, InodeMap, DirectoryMap, AreNamed, is_directory, times_in_list, directories_listed}
use Rattle.filer_state.specs.state.WellFormed.{WellFormed}
use Rattle.filer_state.specs.state.Partition.{all_numbers, StandOnce}
use Rattle.filer_state.specs.laws.lemmas.Mapped.{entry-at-least}
use Rattle.filer_state.specs.laws.lemmas.Counted.{all-times, all-length}
use Rattle.nfs_model.specs.volume.Inodes.{Inode}

-- ---- this many different numbers

without_it : ℕ → List ℕ → List ℕ
without_it t ns = filter (λ b. not (b == t)) ns

unfolded-length : (t : ℕ) (ns : List ℕ) → length ns ≡ times_listed t ns + length (without_it t ns)
unfolding without_it
unfolded-length t [] = refl
unfolded-length t (b ∷ ns) = by (b == t) (unfolded-length t ns)
  where
    by : (x : Bool) → length ns ≡ times_listed t ns + length (without_it t ns)
        → suc (length ns) ≡ (one_if x + times_listed t ns) + length (if not x then b ∷ without_it t ns else without_it t ns)
    by true e = omega arith
    by false e = omega arith

times-without : (t n : ℕ) (ns : List ℕ) → times_listed n (without_it t ns) ≤ times_listed n ns
unfolding without_it
times-without t n [] = omega arith
times-without t n (b ∷ ns) = by (b == t) (times-without t n ns)
  where
    by : (x : Bool) → times_listed n (without_it t ns) ≤ times_listed n ns
        → times_listed n (if not x then b ∷ without_it t ns else without_it t ns) ≤ one_if (b == n) + times_listed n ns
    by true e = omega arith
    by false e = omega arith

times-gone : (t : ℕ) (ns : List ℕ) → times_listed t (without_it t ns) ≡ 0
unfolding without_it
times-gone t [] = refl
times-gone t (b ∷ ns) = by (b == t) refl (times-gone t ns)
  where
    by : (x : Bool) → (b == t) ≡ x → times_listed t (without_it t ns) ≡ 0
        → times_listed t (if not x then b ∷ without_it t ns else without_it t ns) ≡ 0
    by true h e = e
    by false h e = let none : one_if (b == t) ≡ 0 = ap one_if h in omega arith

none-at-all : (ns : List ℕ) → ((n : ℕ) → times_listed n ns ≤ 0) → length ns ≡ 0
none-at-all [] h = refl
none-at-all (b ∷ ns) h = let here : one_if (b == b) ≡ 1 = ap one_if (eq-eqb b b refl) in let most = h b in absurd (omega arith)

-- of numbers below t, each at most once, there are at most t
pub few-below : (t : ℕ) (ns : List ℕ) → ((n : ℕ) → times_listed n ns ≤ one_if (nat_lt n t)) → length ns ≤ t
few-below zero ns h =
    let none = none-at-all ns (λ n. let most = h n in
    let below : one_if (nat_lt n 0) ≡ 0 = ap one_if (le-ltb n 0 (omega arith)) in omega arith) in omega arith
few-below (suc t) ns h =
    let others = few-below t (without_it t ns) (λ n.
    let most = h n in
    let fewer = times-without t n ns in
    ⊎_elim
    (λ (e : n ≡ t). let gone = times-gone t ns in
    let same : times_listed n (without_it t ns) ≡ times_listed t (without_it t ns) = ap (λ (k : ℕ). times_listed k (without_it t ns)) e in omega arith)
    (λ (ne : n ≢ t). ⊎_elim
    (λ (less : n < t). let below : one_if (nat_lt n t) ≡ 1 = ap one_if (lt-ltb n t less) in
    let also : one_if (nat_lt n (suc t)) ≡ 1 = ap one_if (lt-ltb n (suc t) (omega arith)) in omega arith)
    (λ (more : t ≤ n). let past : one_if (nat_lt n (suc t)) ≡ 0 = ap one_if (le-ltb n (suc t) (omega (arith, ne))) in omega arith)
    (cases_lt n t))
    (cases_eq n t)) in
    let all = unfolded-length t ns in
    let once = h t in
    let here : one_if (nat_lt t (suc t)) ≡ 1 = ap one_if (lt-ltb t (suc t) (omega arith)) in
    omega arith

-- ---- blocks

module _ (p : VolumeContents) (hands : List Hand) (well : WellFormed p) (once : StandOnce p hands) where
  -- no more blocks are used than there are
  pub used-fits : p.logical.inodes.used ≤ p.logical.dead.range_blocks * ranges_used p.ranges
  used-fits =
      let most = few-below (p.logical.dead.range_blocks * ranges_used p.ranges) (all_numbers p.stripes) (λ n. let o = once n in
      let listed = all-times n p.stripes in omega arith) in
      let size = all-length p.stripes in
      let used = well.used in
      omega arith

-- at most 16 ranges are in use
pub ranges-fit : (ranges : List RangeValue) → ranges_used ranges ≤ length ranges
ranges-fit [] = omega arith
ranges-fit (r ∷ ranges) = by r.is_used (ranges-fit ranges)
  where
    by : (b : Bool) → ranges_used ranges ≤ length ranges → (if b then 1 else 0) + ranges_used ranges ≤ suc (length ranges)
    by true h = omega arith
    by false h = omega arith

-- ---- names

-- different keys of a map are at most as many as it has
few-keys : {X : Type 0} (xs : List ℕ) (m : FinMap nat_cmp X) → ((n : ℕ) → times_listed n xs ≤ one_if (is_some (get m n))) → length xs ≤ len m
few-keys [] m h = omega arith
few-keys {X} (x ∷ xs) m h =
    let here : one_if (x == x) ≡ 1 = ap one_if (eq-eqb x x refl) in
    let most = h x in
    let others = few-keys xs (remove m x) (λ n. left n (n == x) refl) in
    let size = len-remove nat_cmp_total m x in
    found (is_some (get m x)) refl (omega arith) size others
  where
    one-most : (b : Bool) → one_if b ≤ 1
    one-most true = omega arith
    one-most false = omega arith

    left : (n : ℕ) (b : Bool) → (n == x) ≡ b → times_listed n xs ≤ one_if (is_some (get (remove m x) n))
    left n true e =
        let same : n ≡ x = eqb-true n x e in
        let here : one_if (x == n) ≡ 1 = ap one_if (eq-eqb x n (sym same)) in
        let most = h n in
        let at_most = one-most (is_some (get m n)) in
        omega arith
    left n false e =
        let stays : get (remove m x) n ≡ get m n = get-remove nat_cmp_total m x n ∙ ap (λ b. cond b None (get m n)) (unsigned_tied n x ∙ e) in
        let same : one_if (is_some (get (remove m x) n)) ≡ one_if (is_some (get m n)) = ap (λ o. one_if (is_some o)) stays in
        let most = h n in
        omega arith

    some-len : (n : ℕ) → len m ≡ n → get m x ≡ None ⊎ (0 < n)
    some-len zero e = inl (ap (λ k. get k x) (empty_of_len m e) ∙ get-empty nat_cmp x)
    some-len (suc n) e = inr (omega arith)

    found : (b : Bool) → is_some (get m x) ≡ b → 1 ≤ one_if b → len (remove m x) ≡ cond b (len m - 1) (len m) → length xs ≤ len (remove m x)
        → suc (length xs) ≤ len m
    found false is some size others = absurd (omega arith)
    found true is some size others = ⊎_elim
        (λ (gone : get m x ≡ None). let no : is_some (get m x) ≡ false = ap is_some gone in absurd cc)
        (λ (more : 0 < len m). omega arith)
        (some-len (len m) refl)

module _ (inodes : InodeMap) (directories : DirectoryMap) (named : AreNamed inodes directories) (fileid : ℕ) (d : DirectoryValue)
    (there : get directories fileid ≡ Some d) where
  -- the entries that are directories
  directory_fileids : List Listed → List ℕ
  directory_fileids [] = []
  directory_fileids (e ∷ list) = if is_directory (get inodes e.fileid) then e.fileid ∷ directory_fileids list else directory_fileids list

  as-many : (list : List Listed) → length (directory_fileids list) ≡ directories_listed inodes list
  unfolding directory_fileids
  as-many [] = refl
  as-many (e ∷ list) = by (is_directory (get inodes e.fileid)) (as-many list)
    where
      by : (b : Bool) → length (directory_fileids list) ≡ directories_listed inodes list
          → length (if b then e.fileid ∷ directory_fileids list else directory_fileids list) ≡ one_if b + directories_listed inodes list
      by true h = omega arith
      by false h = omega arith

  at-most : (n : ℕ) (list : List Listed) → times_listed n (directory_fileids list) ≤ times_in_list n list
  unfolding directory_fileids
  at-most n [] = omega arith
  at-most n (e ∷ list) = by (is_directory (get inodes e.fileid)) (at-most n list)
    where
      by : (b : Bool) → times_listed n (directory_fileids list) ≤ times_in_list n list
          → times_listed n (if b then e.fileid ∷ directory_fileids list else directory_fileids list) ≤ one_if (e.fileid == n) + times_in_list n list
      by true h = omega arith
      by false h = omega arith

  none-else : (n : ℕ) → is_directory (get inodes n) ≡ false → (list : List Listed) → times_listed n (directory_fileids list) ≡ 0
  unfolding directory_fileids
  none-else n isnt [] = refl
  none-else n isnt (e ∷ list) = by (is_directory (get inodes e.fileid)) refl (none-else n isnt list)
    where
      apart : (b : Bool) → (e.fileid == n) ≡ b → is_directory (get inodes e.fileid) ≡ true → one_if b ≡ 0
      apart true same is = let not_one : is_directory (get inodes n) ≡ true = sym (ap (λ (k : ℕ). is_directory (get inodes k)) (eqb-true e.fileid n same)) ∙ is in absurd cc
      apart false same is = refl

      by : (b : Bool) → is_directory (get inodes e.fileid) ≡ b → times_listed n (directory_fileids list) ≡ 0
          → times_listed n (if b then e.fileid ∷ directory_fileids list else directory_fileids list) ≡ 0
      by true is h = let here = apart (e.fileid == n) refl is in omega arith
      by false is h = h

  -- a directory has no more subdirectories than there are inodes
  pub few-directories : directories_listed inodes d.list ≤ len inodes
  few-directories =
      let most = few-keys (directory_fileids d.list) inodes (λ n. by n (is_directory (get inodes n)) refl) in
      let size = as-many d.list in
      omega arith
    where
      some : (o : Option Inode) → is_directory o ≡ true → one_if (is_some o) ≡ 1
      some None is = absurd cc
      some (Some inode) is = refl

      one-most : (b : Bool) → one_if b ≤ 1
      one-most true = omega arith
      one-most false = omega arith

      by : (n : ℕ) (b : Bool) → is_directory (get inodes n) ≡ b → times_listed n (directory_fileids d.list) ≤ one_if (is_some (get inodes n))
      by n true is =
          let less = at-most n d.list in
          let all = entry-at-least nat_cmp-IsAntisymmetric (λ (e : ℕ × DirectoryValue). times_in_list n e.1.list) directories fileid d there in
          let counted = named.counted n in
          let once = named.once n is in
          let one = one-most (not (n == root)) in
          let here = some (get inodes n) is in
          omega arith
      by n false is = let none = none-else n is d.list in omega arith
