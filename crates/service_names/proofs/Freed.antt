-- Blocks that leave a file, one after the other.
use Rattle.std.proofs.Common.{◌≡◌, ℕ, suc, ◌-◌, Bool, true, false, ◌||◌, List, [], ◌∷◌, ◌++◌, length, refl, sym, ap, ◌∙◌, subst, arith}
use Rattle.std.proofs.Common.{nat_eq, ◌+◌, ◌*◌, ◌<◌, length-append}
use Rattle.std.specs.List.{list_any}
use Rattle.std.specs.Ordering.{nat_cmp}
use Rattle.std.specs.Cmp.{nat_cmp_total}
use Rattle.std.specs.FinMap.{nat_cmp-IsAntisymmetric}
use Rattle.std.specs.FinSet.{FinSet, contains, from_list, same_set, contains-union, contains-from_list_nat}
use Rattle.nfs_model.specs.Parts.{most_ranges}
use Rattle.nfs_model.specs.volume.Ranges.{DeadValue, with_numbers, dead_marked}
use Rattle.nfs_model.specs.volume.Stripes.{StripeValue, cut, numbers_freed}
use Rattle.nfs_values.specs.declared.number.BlockNumber.{BlockNumber}
use Rattle.stripes.specs.Numbers.{numbers}
use Rattle.service_names.specs.Changing.{AreNumbers}

-- ---- numbers added to a set

among : List ℕ → ℕ → Bool
among ns q = list_any (λ y. nat_eq y q) ns

has-more : (ns : List ℕ) (d : FinSet nat_cmp) (q : ℕ) → contains (with_numbers ns d) q ≡ (contains d q || among ns q)
unfolding among
has-more ns d q = contains-union nat_cmp_total d (from_list ns) q ∙ ap (λ b. contains d q || b) (contains-from_list_nat ns q)

either : (a b c : Bool) → ((a || b) || c) ≡ (a || (b || c))
either true b c = refl
either false b c = refl

other : (a b : Bool) → (a || b) ≡ (b || a)
other true true = refl
other true false = refl
other false true = refl
other false false = refl

none-more : (a : Bool) → (a || false) ≡ a
none-more true = refl
none-more false = refl

among-both : (xs ys : List ℕ) (q : ℕ) → among (xs ++ ys) q ≡ (among xs q || among ys q)
unfolding among
among-both [] ys q = refl
among-both (x ∷ xs) ys q =
    ap (λ b. nat_eq x q || b) (among-both xs ys q) ∙ sym (either (nat_eq x q) (list_any (λ y. nat_eq y q) xs) (list_any (λ y. nat_eq y q) ys))

same : (s t : FinSet nat_cmp) → ((q : ℕ) → contains s q ≡ contains t q) → s ≡ t
same s t is = same_set nat_cmp_total nat_cmp-IsAntisymmetric s t is

added-none : (d : FinSet nat_cmp) → with_numbers [] d ≡ d
unfolding among
added-none d = same (with_numbers [] d) d (λ q. has-more [] d q ∙ none-more (contains d q))

added-then : (xs ys : List ℕ) (d : FinSet nat_cmp) → with_numbers ys (with_numbers xs d) ≡ with_numbers (xs ++ ys) d
added-then xs ys d = same (with_numbers ys (with_numbers xs d)) (with_numbers (xs ++ ys) d) (λ q.
    has-more ys (with_numbers xs d) q ∙ ap (λ b. b || among ys q) (has-more xs d q) ∙ either (contains d q) (among xs q) (among ys q)
    ∙ ap (λ b. contains d q || b) (sym (among-both xs ys q)) ∙ sym (has-more (xs ++ ys) d q))

added-before : (xs ys : List ℕ) (d : FinSet nat_cmp) → with_numbers xs (with_numbers ys d) ≡ with_numbers (xs ++ ys) d
added-before xs ys d = same (with_numbers xs (with_numbers ys d)) (with_numbers (xs ++ ys) d) (λ q.
    has-more xs (with_numbers ys d) q ∙ ap (λ b. b || among xs q) (has-more ys d q) ∙ either (contains d q) (among ys q) (among xs q)
    ∙ ap (λ b. contains d q || b) (other (among ys q) (among xs q) ∙ sym (among-both xs ys q)) ∙ sym (has-more (xs ++ ys) d q))

-- the same of dead blocks
pub marked-none : (d : DeadValue) → dead_marked [] d ≡ d
marked-none d = λ j. record d { blocks = added-none d.blocks j }

marked-then : (xs ys : List ℕ) (d : DeadValue) → dead_marked ys (dead_marked xs d) ≡ dead_marked (xs ++ ys) d
marked-then xs ys d = λ j. record d { blocks = added-then xs ys d.blocks j }

pub marked-before : (xs ys : List ℕ) (d : DeadValue) → dead_marked xs (dead_marked ys d) ≡ dead_marked (xs ++ ys) d
marked-before xs ys d = λ j. record d { blocks = added-before xs ys d.blocks j }

-- ---- the first of some numbers, and the rest

module _ (b : BlockNumber) (blocks rest : List BlockNumber) (is : blocks ≡ b ∷ rest) where
  pub first-number : (size : ℕ) → AreNumbers size (numbers blocks) → b.0 < most_ranges * size
  first-number size are =
      let all : AreNumbers size (b.0 ∷ numbers rest) = subst (λ (l : List BlockNumber). AreNumbers size (numbers l)) is are in
      all.0

  pub rest-numbers : (old mid : DeadValue) → mid ≡ dead_marked (b.0 ∷ []) old → AreNumbers old.range_blocks (numbers blocks)
      → AreNumbers mid.range_blocks (numbers rest)
  rest-numbers old mid marks are =
      let all : AreNumbers old.range_blocks (b.0 ∷ numbers rest) =
      subst (λ (l : List BlockNumber). AreNumbers old.range_blocks (numbers l)) is are in
      subst (λ (d : DeadValue). AreNumbers d.range_blocks (numbers rest)) (sym marks) all.1

  pub fewer-left : (filled fewer left : ℕ) → fewer ≡ filled - 1 → left ≡ fewer - length (numbers rest) → left ≡ filled - length (numbers blocks)
  fewer-left filled fewer left one others =
      let long : length (numbers blocks) ≡ suc (length (numbers rest)) = ap (λ (l : List BlockNumber). length (numbers l)) is in
      omega (arith, one, others, long)

  pub all-marked : (old mid new : DeadValue) → mid ≡ dead_marked (b.0 ∷ []) old → new ≡ dead_marked (numbers rest) mid
      → new ≡ dead_marked (numbers blocks) old
  all-marked old mid new first others =
      others ∙ ap (dead_marked (numbers rest)) first ∙ marked-then (b.0 ∷ []) (numbers rest) old
      ∙ ap (λ (l : List BlockNumber). dead_marked (numbers l) old) (sym is)

pub none-fewer : (blocks : List BlockNumber) (filled : ℕ) → length blocks ≡ 0 → filled ≡ filled - length (numbers blocks)
none-fewer [] filled none = omega arith
none-fewer (b ∷ bs) filled none = absurd (omega arith)

pub none-marked : (blocks : List BlockNumber) (dead : DeadValue) → length blocks ≡ 0 → dead ≡ dead_marked (numbers blocks) dead
none-marked [] dead none = sym (marked-none dead)
none-marked (b ∷ bs) dead none = absurd (omega arith)

-- ---- one stripe, span by span

-- numbers of a volume whose ranges have this many blocks, in two parts
pub numbers-parted : (blocks : ℕ) (xs ys : List ℕ) → AreNumbers blocks (xs ++ ys) → AreNumbers blocks xs × AreNumbers blocks ys
numbers-parted blocks [] ys are = (tt, are)
numbers-parted blocks (x ∷ xs) ys are = let rest = numbers-parted blocks xs ys are.1 in ((are.0, rest.0), rest.1)

-- what has left a file and what is still to leave are all that was to leave
pub record IsCutOn (fileid size : ℕ) (old : StripeValue) (dead : DeadValue) (filled : ℕ) (now : StripeValue) (marked : DeadValue)
    (left : ℕ) : Type 0 where
  pub are_numbers : AreNumbers marked.range_blocks (numbers_freed fileid size now)
  pub stays : left - length (numbers_freed fileid size now) ≡ filled - length (numbers_freed fileid size old)
  pub added : dead_marked (numbers_freed fileid size now) marked ≡ dead_marked (numbers_freed fileid size old) dead
  pub cuts : cut fileid size now ≡ cut fileid size old

module _ (fileid size : ℕ) (old : StripeValue) (dead : DeadValue) (filled : ℕ) where
  -- what leaves first, and what is left, are numbers of the volume
  pub both-numbers : (now next : StripeValue) (marked : DeadValue) (left : ℕ) (ns : List ℕ) → IsCutOn fileid size old dead filled now marked left
      → numbers_freed fileid size now ≡ ns ++ numbers_freed fileid size next
      → AreNumbers marked.range_blocks ns × AreNumbers marked.range_blocks (numbers_freed fileid size next)
  both-numbers now next marked left ns is freed =
      numbers-parted marked.range_blocks ns (numbers_freed fileid size next) (subst (AreNumbers marked.range_blocks) freed is.are_numbers)

  pub cut-some : (now next : StripeValue) (marked more : DeadValue) (left fewer : ℕ) (ns : List ℕ) → IsCutOn fileid size old dead filled now marked left
      → numbers_freed fileid size now ≡ ns ++ numbers_freed fileid size next → cut fileid size next ≡ cut fileid size now
      → more ≡ dead_marked ns marked → fewer ≡ left - length ns → IsCutOn fileid size old dead filled next more fewer
  cut-some now next marked more left fewer ns is freed rest marks less =
      let both = both-numbers now next marked left ns is freed in
      let size_is : length (numbers_freed fileid size now) ≡ length ns + length (numbers_freed fileid size next) =
      ap length freed ∙ length-append ns (numbers_freed fileid size next) in
      let was = is.stays in
      record {
        are_numbers = subst (λ (d : DeadValue). AreNumbers d.range_blocks (numbers_freed fileid size next)) (sym marks) both.1;
        stays = omega arith;
        added = ap (dead_marked (numbers_freed fileid size next)) marks ∙ marked-then ns (numbers_freed fileid size next) marked
            ∙ ap (λ ns. dead_marked ns marked) (sym freed) ∙ is.added;
        cuts = rest ∙ is.cuts;
      }

  pub cut-last : (now : StripeValue) (marked : DeadValue) (left : ℕ) → IsCutOn fileid size old dead filled now marked left
      → numbers_freed fileid size now ≡ [] → marked ≡ dead_marked (numbers_freed fileid size old) dead
  cut-last now marked left is none = sym (marked-none marked) ∙ ap (λ ns. dead_marked ns marked) (sym none) ∙ is.added
