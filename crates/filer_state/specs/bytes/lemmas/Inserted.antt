-- A stripe in which a block of zeros fills a hole.
use Rattle.std.proofs.Common.{◌≡◌, ℕ, zero, suc, ◌+◌, ◌==◌, ◌&&◌, Bool, false, cond, List, [], ◌∷◌, map, Some, None, refl, sym, ap, ◌∙◌, arith, Ordering}
use Rattle.std.specs.Prelude.{is_some, slice_index_or, replicate}
use Rattle.std.specs.declared.cmp.Ordering.TheVariants.{Less, Equal, Greater}
use Rattle.std.specs.Ordering.{nat_cmp, is_eq, eq_by_cmp, ordering_then}
use Rattle.std.specs.Cmp.{unsigned_tied}
use Rattle.std.specs.FinMap.{find, put, get, len, entries, get-entries, get-insert, len-insert, entries-insert}
use Rattle.std.specs.FinMap.Entries.{by_order}
use Rattle.nfs_model.specs.Parts.{one_if, times_listed}
use Rattle.nfs_model.specs.Server.{block_size}
use Rattle.nfs_model.specs.volume.Stripes.{FileBlock, file_block_cmp, Block, StripeValue, byte_of, zero_block, block_inserted}
use Rattle.nfs_model.specs.volume.lemmas.Entries.{place_total}
use Rattle.nfs_model.specs.volume.lemmas.Numbered.{itself}
use Rattle.filer_state.specs.state.Partition.{times_in_stripe}

-- ---- zeros

zeros-read : (m i : ℕ) → slice_index_or (replicate {A = ℕ} m 0) i 0 ≡ 0
zeros-read zero i = refl
zeros-read (suc m) zero = refl
zeros-read (suc m) (suc i) = zeros-read m i

pub zero-byte : (n i : ℕ) → byte_of (Some (zero_block n)) i ≡ 0
zero-byte n i = zeros-read block_size i

-- ---- places

order-both : (r t : Ordering) → is_eq (ordering_then r t) ≡ (is_eq r && is_eq t)
order-both Less t = refl
order-both Equal t = refl
order-both Greater t = refl

place-is : (p q : FileBlock) → eq_by_cmp file_block_cmp p q ≡ ((p.0 == q.0) && (p.1 == q.1))
place-is p q = order-both (nat_cmp p.0 q.0) (nat_cmp p.1 q.1) ∙ (λ j. unsigned_tied p.0 q.0 j && unsigned_tied p.1 q.1 j)

-- ---- sums over entries

module _ (g : Block → ℕ) where
  abbrev sum : List (FileBlock × Block) → ℕ
  sum [] = 0
  sum (e ∷ es) = g e.1 + sum es

  sum-put : (k : FileBlock) (x : Block) (es : List (FileBlock × Block)) → find file_block_cmp k es ≡ None → sum (put file_block_cmp k x es) ≡ g x + sum es
  sum-put k x [] h = refl
  sum-put k x (e ∷ es) h = by (file_block_cmp k e.0) (sum-put k x es) h
    where
      by : (r : Ordering) → (find file_block_cmp k es ≡ None → sum (put file_block_cmp k x es) ≡ g x + sum es)
          → cond (is_eq r) (Some e.1) (find file_block_cmp k es) ≡ None
          → sum (by_order r ((k, x) ∷ e ∷ es) ((e.0, x) ∷ es) (e ∷ put file_block_cmp k x es)) ≡ g x + (g e.1 + sum es)
      by Less rest h = refl
      by Equal rest h = absurd (grind (arith, h))
      by Greater rest h = let others = rest h in omega (arith, others)

times-sum : (m : ℕ) (es : List (FileBlock × Block))
    → times_listed m (map (λ (e : FileBlock × Block). e.1.number) es) ≡ sum (λ (b : Block). one_if (b.number == m)) es
times-sum m [] = refl
times-sum m (e ∷ es) = let others = times-sum m es in omega (arith, others)

-- ---- the stripe

module _ (f b n : ℕ) (s : StripeValue) where
  abbrev now : StripeValue
  now = block_inserted f b n s

  found : (q c : ℕ) → get now.blocks (q, c) ≡ cond ((q == f) && (c == b)) (Some (zero_block n)) (get s.blocks (q, c))
  found q c =
      get-insert place_total s.blocks (f, b) (zero_block n) (q, c)
      ∙ ap (λ t. cond t (Some (zero_block n)) (get s.blocks (q, c))) (place-is (q, c) (f, b))

  pub insert-other : (q c : ℕ) → (q == f) ≡ false → get now.blocks (q, c) ≡ get s.blocks (q, c)
  insert-other q c ne = found q c ∙ ap (λ (t : Bool). cond (t && (c == b)) (Some (zero_block n)) (get s.blocks (q, c))) ne

  at-file : (c : ℕ) → get now.blocks (f, c) ≡ cond (c == b) (Some (zero_block n)) (get s.blocks (f, c))
  at-file c = found f c ∙ ap (λ (t : Bool). cond (t && (c == b)) (Some (zero_block n)) (get s.blocks (f, c))) (itself f)

  pub insert-else : (c : ℕ) → (c == b) ≡ false → get now.blocks (f, c) ≡ get s.blocks (f, c)
  insert-else c ne = at-file c ∙ ap (λ (t : Bool). cond t (Some (zero_block n)) (get s.blocks (f, c))) ne

  pub insert-here : get now.blocks (f, b) ≡ Some (zero_block n)
  insert-here = at-file b ∙ ap (λ (t : Bool). cond t (Some (zero_block n)) (get s.blocks (f, b))) (itself b)

  module _ (hole : get s.blocks (f, b) ≡ None) where
    pub insert-len : len now.blocks ≡ len s.blocks + 1
    insert-len = len-insert place_total s.blocks (f, b) (zero_block n) ∙ ap (λ o. cond (is_some o) (len s.blocks) (len s.blocks + 1)) hole

    pub insert-times : (m : ℕ) → times_in_stripe m now ≡ one_if (n == m) + times_in_stripe m s
    insert-times m =
        ap (λ es. times_listed m (map (λ (e : FileBlock × Block). e.1.number) es)) (entries-insert place_total s.blocks (f, b) (zero_block n))
        ∙ times-sum m (put file_block_cmp (f, b) (zero_block n) (entries s.blocks))
        ∙ sum-put (λ (x : Block). one_if (x.number == m)) (f, b) (zero_block n) (entries s.blocks) (sym (get-entries s.blocks (f, b)) ∙ hole)
        ∙ ap (λ (k : ℕ). one_if (n == m) + k) (sym (times-sum m (entries s.blocks)))
