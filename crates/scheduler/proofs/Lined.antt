-- The tables of lines when a cell is added to a queue, and when one leaves it.
use Rattle.std.proofs.Common.{◌≡◌, ◌≢◌, ◌⊎◌, refl, sym, subst, ap, ◌∙◌, ℕ, zero, suc, ◌+◌, ◌<◌, ◌≤◌, List, [], ◌∷◌, ◌++◌, length, take, drop, get_or}
use Rattle.std.proofs.Common.{Option, Some, None, set, replicate, arith, inl, inr, ⊎_elim, length-set, length-append}
use Rattle.std.proofs.lemmas.List.{length-replicate}
use Rattle.std.proofs.lemmas.Option.{same_Some, none-some, slice_get_read}
use Rattle.scheduler.specs.Lines.{IsIn, IsFirstFrom, IsLastBelow, AreLined, IsLinked, IsEnded, entry, held}
use Rattle.scheduler.proofs.Tables.{get-set, get-set-other, get-before, get-end, get-past, within, whole, either, same, entry-set, entry-other}
use Rattle.scheduler.proofs.Tables.{entry-before, entry-end, first-same, last-same, first-more, first-new, first-kept, first-after, first-is}
use Rattle.scheduler.proofs.Tables.{last-is}
use Rattle.scheduler.proofs.Tables.{last-kept, last-before}

-- a cell is in one queue
one-queue : (cells : List (Option ℕ)) (q a i : ℕ) → IsIn cells q i → IsIn cells a i → q ≡ a
one-queue cells q a i e f = same_Some _ _ (same_Some _ _ (sym e ∙ f))

-- ---- a cell added

module _ (cells : List (Option ℕ)) (a : ℕ) where
  to-longer : (q j : ℕ) → IsIn cells q j → IsIn (cells ++ Some a ∷ []) q j
  to-longer q j e = get-before cells (Some a) j (within cells j (Some q) e) ∙ e

  from-longer : (q j : ℕ) → IsIn (cells ++ Some a ∷ []) q j → IsIn cells q j ⊎ ((j ≡ length cells) × (q ≡ a))
  from-longer q j e =
      ⊎_elim (λ (l : j < length cells). inl (sym (get-before cells (Some a) j l) ∙ e))
      (λ (t : (j ≡ length cells) × (Some a ≡ Some q)). inr (t.0, sym (same_Some _ _ t.1))) (get-past cells (Some a) (Some q) j e)

  from-own : (j : ℕ) → IsIn (cells ++ Some a ∷ []) a j → IsIn cells a j ⊎ (j ≡ length cells)
  from-own j e = ⊎_elim (λ (p : IsIn cells a j). inl p) (λ (t : (j ≡ length cells) × (a ≡ a)). inr t.0) (from-longer a j e)

  from-other : (q j : ℕ) → q ≢ a → IsIn (cells ++ Some a ∷ []) q j → IsIn cells q j
  from-other q j n e = ⊎_elim (λ (p : IsIn cells q j). p) (λ (t : (j ≡ length cells) × (q ≡ a)). absurd (n t.1)) (from-longer q j e)

  fresh : IsIn (cells ++ Some a ∷ []) a (length cells)
  fresh = get-end cells (Some a)

  -- the first of another queue, and of its own where there is one
  first-still : (q low : ℕ) (r : Option ℕ) → q ≢ a → IsFirstFrom (IsIn cells q) low r → IsFirstFrom (IsIn (cells ++ Some a ∷ []) q) low r
  first-still q low r n s = first-same (IsIn cells q) (IsIn (cells ++ Some a ∷ []) q) low r (to-longer q) (λ j. from-other q j n) s

  first-own : (low b : ℕ) (r : Option ℕ) → low ≤ b → IsIn cells a b → IsFirstFrom (IsIn cells a) low r → IsFirstFrom (IsIn (cells ++ Some a ∷ []) a) low r
  first-own low b r l is s =
      first-more (IsIn cells a) (IsIn (cells ++ Some a ∷ []) a) low (length cells) b r (to-longer a) (λ j p. within cells j (Some a) p) from-own l is s

  first-fresh : (low : ℕ) → low ≤ length cells → ((j : ℕ) → low ≤ j → j < length cells → IsIn cells a j → ⊥)
      → IsFirstFrom (IsIn (cells ++ Some a ∷ []) a) low (Some (length cells))
  first-fresh low l none = first-new (IsIn cells a) (IsIn (cells ++ Some a ∷ []) a) low (length cells) from-own l fresh none

  -- the fields, by the queue's last cell before
  firsts-longer : (firsts lasts nexts firsts' nexts' : List (Option ℕ)) (o : Option ℕ) → a < 283 → AreLined cells firsts lasts nexts
      → IsLastBelow (IsIn cells a) (length cells) o → IsLinked firsts nexts a o (Some (length cells)) firsts' nexts' → (q : ℕ) → (q ≡ a) ⊎ (q ≢ a)
      → IsFirstFrom (IsIn (cells ++ Some a ∷ []) q) 0 (entry firsts' q)
  firsts-longer firsts lasts nexts firsts' nexts' None l r s k q t =
      let size = r.first_size in
      let at : entry firsts' a ≡ Some (length cells)
      = ap (λ (x : List (Option ℕ)). entry x a) k.0 ∙ entry-set firsts a (Some (length cells)) (omega (arith, l, size)) in
      ⊎_elim (λ (e : q ≡ a). subst (λ (x : ℕ). IsFirstFrom (IsIn (cells ++ Some a ∷ []) x) 0 (entry firsts' x)) (sym e)
      (subst (λ (x : Option ℕ). IsFirstFrom (IsIn (cells ++ Some a ∷ []) a) 0 x) (sym at)
      (first-fresh 0 (omega arith) (λ j g m p. s j m p))))
      (λ (n : q ≢ a). subst (λ (x : Option ℕ). IsFirstFrom (IsIn (cells ++ Some a ∷ []) q) 0 x)
      (sym (ap (λ (x : List (Option ℕ)). entry x q) k.0 ∙ entry-other firsts a q (Some (length cells)) n))
      (first-still q 0 (entry firsts q) n (r.first q))) t
  firsts-longer firsts lasts nexts firsts' nexts' (Some b) l r s k q t =
      subst (λ (x : List (Option ℕ)). IsFirstFrom (IsIn (cells ++ Some a ∷ []) q) 0 (entry x q)) (sym k.0)
      (⊎_elim (λ (e : q ≡ a). subst (λ (x : ℕ). IsFirstFrom (IsIn (cells ++ Some a ∷ []) x) 0 (entry firsts x)) (sym e)
      (first-own 0 b (entry firsts a) (omega arith) s.1 (r.first a)))
      (λ (n : q ≢ a). first-still q 0 (entry firsts q) n (r.first q)) t)

  linked-size : (firsts nexts firsts' nexts' : List (Option ℕ)) (o x : Option ℕ) → IsLinked firsts nexts a o x firsts' nexts'
      → (length firsts' ≡ length firsts) × (length nexts' ≡ length nexts)
  linked-size firsts nexts firsts' nexts' None x k = (ap length k.0 ∙ length-set firsts a x, ap length k.1)
  linked-size firsts nexts firsts' nexts' (Some b) x k = (ap length k.0, ap length k.1 ∙ length-set nexts b x)

  -- the next after a cell that was there
  nexts-longer : (firsts lasts nexts firsts' nexts' : List (Option ℕ)) (o : Option ℕ) → AreLined cells firsts lasts nexts
      → IsLastBelow (IsIn cells a) (length cells) o → IsLinked firsts nexts a o (Some (length cells)) firsts' nexts' → (q j : ℕ) → (q ≡ a) ⊎ (q ≢ a)
      → IsIn cells q j → IsFirstFrom (IsIn (cells ++ Some a ∷ []) q) (j + 1) (entry nexts' j)
  nexts-longer firsts lasts nexts firsts' nexts' None r s k q j t p =
      subst (λ (x : List (Option ℕ)). IsFirstFrom (IsIn (cells ++ Some a ∷ []) q) (j + 1) (entry x j)) (sym k.1)
      (⊎_elim (λ (e : q ≡ a). absurd (s j (within cells j (Some q) p) (subst (λ (x : ℕ). IsIn cells x j) e p)))
      (λ (n : q ≢ a). first-still q (j + 1) (entry nexts j) n (r.next q j p)) t)
  nexts-longer firsts lasts nexts firsts' nexts' (Some b) r s k q j t p = ⊎_elim (λ (e : j ≡ b).
      let at : entry nexts' j ≡ Some (length cells)
      = ap (λ (x : List (Option ℕ)). entry x j) k.1 ∙ ap (entry (set nexts b (Some (length cells)))) e
      ∙ entry-set nexts b (Some (length cells)) (let l = s.0 in let size = r.next_size in omega (arith, l, size)) in
      let own : q ≡ a = one-queue cells q a b (subst (λ (x : ℕ). IsIn cells q x) e p) s.1 in
      subst (λ (x : Option ℕ). IsFirstFrom (IsIn (cells ++ Some a ∷ []) q) (j + 1) x) (sym at)
      (subst (λ (x : ℕ). IsFirstFrom (IsIn (cells ++ Some a ∷ []) x) (j + 1) (Some (length cells))) (sym own)
      (first-fresh (j + 1) (let l = s.0 in omega (arith, l, e)) (λ i g m z. s.2 i (omega (arith, g, e)) m z))))
      (λ (d : j ≢ b). subst (λ (x : Option ℕ). IsFirstFrom (IsIn (cells ++ Some a ∷ []) q) (j + 1) x)
      (sym (ap (λ (x : List (Option ℕ)). entry x j) k.1 ∙ entry-other nexts b j (Some (length cells)) d))
      (⊎_elim (λ (e : q ≡ a).
      let pa : IsIn cells a j = subst (λ (x : ℕ). IsIn cells x j) e p in
      let under : j < b = ⊎_elim (λ (l : j < b). l) (λ (u : (j ≡ b) ⊎ (b < j)). absurd (⊎_elim d
      (λ (l : b < j). s.2 j l (within cells j (Some a) pa) pa) u)) (either b j) in
      subst (λ (x : ℕ). IsFirstFrom (IsIn (cells ++ Some a ∷ []) x) (j + 1) (entry nexts j)) (sym e)
      (first-own (j + 1) b (entry nexts j) (omega (arith, under)) s.1 (r.next a j pa)))
      (λ (n : q ≢ a). first-still q (j + 1) (entry nexts j) n (r.next q j p)) t)) (same j b)

  pushed : (firsts lasts nexts firsts' nexts' : List (Option ℕ)) → a < 283 → AreLined cells firsts lasts nexts
      → IsLinked firsts nexts a (entry lasts a) (Some (length cells)) firsts' nexts'
      → AreLined (cells ++ Some a ∷ []) firsts' (set lasts a (Some (length cells))) (nexts' ++ None ∷ [])
  pushed firsts lasts nexts firsts' nexts' l r k =
      let sizes = linked-size firsts nexts firsts' nexts' (entry lasts a) (Some (length cells)) k in
      let size : length nexts' ≡ length cells = sizes.1 ∙ r.next_size in
      let longer : length (cells ++ Some a ∷ []) ≡ length cells + 1 = length-append cells (Some a ∷ []) in
      record {
        first_size = sizes.0 ∙ r.first_size;
        last_size = length-set lasts a (Some (length cells)) ∙ r.last_size;
        next_size = length-append nexts' (None ∷ []) ∙ ap (λ (n : ℕ). n + 1) size ∙ sym longer;
        known = λ q j p. ⊎_elim (λ (z : IsIn cells q j). r.known q j z) (λ (z : (j ≡ length cells) × (q ≡ a)). let e = z.1 in omega (arith, e, l))
            (from-longer q j p);
        first = λ q. firsts-longer firsts lasts nexts firsts' nexts' (entry lasts a) l r (r.last a) k q (same q a);
        last = λ q. ⊎_elim (λ (e : q ≡ a). subst (λ (x : ℕ). IsLastBelow (IsIn (cells ++ Some a ∷ []) x) (length (cells ++ Some a ∷ []))
            (entry (set lasts a (Some (length cells))) x)) (sym e)
            (subst (λ (x : Option ℕ). IsLastBelow (IsIn (cells ++ Some a ∷ []) a) (length (cells ++ Some a ∷ [])) x)
            (sym (entry-set lasts a (Some (length cells)) (let s = r.last_size in omega (arith, l, s))))
            (omega (arith, longer), fresh, λ j g m p. absurd (omega (arith, g, m, longer)))))
            (λ (n : q ≢ a). subst (λ (x : Option ℕ). IsLastBelow (IsIn (cells ++ Some a ∷ []) q) (length (cells ++ Some a ∷ [])) x)
            (sym (entry-other lasts a q (Some (length cells)) n))
            (last-same (IsIn cells q) (IsIn (cells ++ Some a ∷ []) q) (length cells) (length (cells ++ Some a ∷ [])) (entry lasts q) (omega (arith, longer))
            (to-longer q)
            (λ j p. let z = from-other q j n p in (z, within cells j (Some q) z)) (r.last q))) (same q a);
        next = λ q j p. ⊎_elim (λ (z : IsIn cells q j). subst (λ (x : Option ℕ). IsFirstFrom (IsIn (cells ++ Some a ∷ []) q) (j + 1) x)
            (sym (entry-before nexts' None j (let w = within cells j (Some q) z in omega (arith, w, size))))
            (nexts-longer firsts lasts nexts firsts' nexts' (entry lasts a) r (r.last a) k q j (same q a) z))
            (λ (z : (j ≡ length cells) × (q ≡ a)). subst (λ (x : Option ℕ). IsFirstFrom (IsIn (cells ++ Some a ∷ []) q) (j + 1) x)
            (sym (entry-end nexts' None j (z.0 ∙ sym size)))
            (λ i g y. let w = within (cells ++ Some a ∷ []) i (Some q) y in let e = z.0 in absurd (omega (arith, e, g, w, longer)))) (from-longer q j p);
      }

-- ---- no cell

entry-none : (n q : ℕ) → entry (replicate n None) q ≡ None
entry-none zero q = refl
entry-none (suc n) zero = refl
entry-none (suc n) (suc q) = entry-none n q

pub cleared : (n m : ℕ) (firsts lasts : List (Option ℕ)) → n ≡ 283 → m ≡ 283 → firsts ≡ replicate n None → lasts ≡ replicate m None
    → AreLined [] firsts lasts []
cleared n m firsts lasts en em f l = record {
  first_size = ap length f ∙ length-replicate n None ∙ en;
  last_size = ap length l ∙ length-replicate m None ∙ em;
  next_size = refl;
  known = λ q j p. absurd (none-some (Some q) p);
  first = λ q. subst (λ (z : Option ℕ). IsFirstFrom (IsIn [] q) 0 z) (sym (ap (λ (z : List (Option ℕ)). entry z q) f ∙ entry-none n q))
      (λ j g p. none-some (Some q) p);
  last = λ q. subst (λ (z : Option ℕ). IsLastBelow (IsIn [] q) 0 z) (sym (ap (λ (z : List (Option ℕ)). entry z q) l ∙ entry-none m q))
      (λ j g p. none-some (Some q) p);
  next = λ q j p. absurd (none-some (Some q) p);
}

-- ---- a cell that leaves

module _ (cells : List (Option ℕ)) (a i : ℕ) (there : IsIn cells a i) where
  to-less : (q j : ℕ) → IsIn cells q j → j ≢ i → IsIn (set cells i None) q j
  to-less q j e n = get-set-other cells i j None n ∙ e

  from-less : (q j : ℕ) → IsIn (set cells i None) q j → IsIn cells q j × (j ≢ i)
  from-less q j e =
      let apart : j ≢ i = λ z. none-some q (same_Some _ _ (sym (get-set cells i None (within cells i (Some a) there))
      ∙ subst (λ (x : ℕ). IsIn (set cells i None) q x) z e)) in
      (sym (get-set-other cells i j None apart) ∙ e, apart)

  -- a cell's number that isn't the one that leaves
  first-still-less : (q low : ℕ) (r : Option ℕ) → r ≢ Some i → IsFirstFrom (IsIn cells q) low r → IsFirstFrom (IsIn (set cells i None) q) low r
  first-still-less q low r n s = first-kept (IsIn cells q) (IsIn (set cells i None) q) low i r (to-less q) (from-less q) n s

  last-still-less : (q high : ℕ) (r : Option ℕ) → r ≢ Some i → IsLastBelow (IsIn cells q) high r → IsLastBelow (IsIn (set cells i None) q) high r
  last-still-less q high r n s = last-kept (IsIn cells q) (IsIn (set cells i None) q) high i r (to-less q) (from-less q) n s

  not-first : (q low : ℕ) (r : Option ℕ) → q ≢ a → IsFirstFrom (IsIn cells q) low r → r ≢ Some i
  not-first q low r n s e = n (one-queue cells q a i (first-is (IsIn cells q) low i r s e).1 there)

  not-last : (q high : ℕ) (r : Option ℕ) → q ≢ a → IsLastBelow (IsIn cells q) high r → r ≢ Some i
  not-last q high r n s e = n (one-queue cells q a i (last-is (IsIn cells q) high i r s e).1 there)

  firsts-less : (firsts lasts nexts firsts' nexts' : List (Option ℕ)) (o x : Option ℕ) → AreLined cells firsts lasts nexts
      → IsLastBelow (IsIn cells a) i o → IsFirstFrom (IsIn cells a) (i + 1) x → IsLinked firsts nexts a o x firsts' nexts' → (q : ℕ) → (q ≡ a) ⊎ (q ≢ a)
      → IsFirstFrom (IsIn (set cells i None) q) 0 (entry firsts' q)
  firsts-less firsts lasts nexts firsts' nexts' None x r s f k q t =
      let l = r.known a i there in let size = r.first_size in
      ⊎_elim (λ (e : q ≡ a). subst (λ (z : ℕ). IsFirstFrom (IsIn (set cells i None) z) 0 (entry firsts' z)) (sym e)
      (subst (λ (z : Option ℕ). IsFirstFrom (IsIn (set cells i None) a) 0 z)
      (sym (ap (λ (z : List (Option ℕ)). entry z a) k.0 ∙ entry-set firsts a x (omega (arith, l, size))))
      (first-after (IsIn cells a) (IsIn (set cells i None) a) 0 i x (to-less a) (from-less a) (omega arith) (λ j g m p. s j m p) f)))
      (λ (n : q ≢ a). subst (λ (z : Option ℕ). IsFirstFrom (IsIn (set cells i None) q) 0 z)
      (sym (ap (λ (z : List (Option ℕ)). entry z q) k.0 ∙ entry-other firsts a q x n))
      (first-still-less q 0 (entry firsts q) (not-first q 0 (entry firsts q) n (r.first q)) (r.first q))) t
  firsts-less firsts lasts nexts firsts' nexts' (Some b) x r s f k q t =
      let before = s.0 in
      subst (λ (z : List (Option ℕ)). IsFirstFrom (IsIn (set cells i None) q) 0 (entry z q)) (sym k.0)
      (first-still-less q 0 (entry firsts q) (⊎_elim (λ (e : q ≡ a) (h : entry firsts q ≡ Some i).
      (first-is (IsIn cells q) 0 i (entry firsts q) (r.first q) h).2 b (omega arith) before (subst (λ (z : ℕ). IsIn cells z b) (sym e) s.1))
      (λ (n : q ≢ a). not-first q 0 (entry firsts q) n (r.first q)) t) (r.first q))

  nexts-less : (firsts lasts nexts firsts' nexts' : List (Option ℕ)) (o x : Option ℕ) → AreLined cells firsts lasts nexts
      → IsLastBelow (IsIn cells a) i o → IsFirstFrom (IsIn cells a) (i + 1) x → IsLinked firsts nexts a o x firsts' nexts' → (q j : ℕ) → (q ≡ a) ⊎ (q ≢ a)
      → IsIn cells q j → j ≢ i → IsFirstFrom (IsIn (set cells i None) q) (j + 1) (entry nexts' j)
  nexts-less firsts lasts nexts firsts' nexts' None x r s f k q j t p d =
      subst (λ (z : List (Option ℕ)). IsFirstFrom (IsIn (set cells i None) q) (j + 1) (entry z j)) (sym k.1)
      (first-still-less q (j + 1) (entry nexts j) (⊎_elim (λ (e : q ≡ a) (h : entry nexts j ≡ Some i).
      let g = (first-is (IsIn cells q) (j + 1) i (entry nexts j) (r.next q j p) h).0 in
      s j (omega (arith, g)) (subst (λ (z : ℕ). IsIn cells z j) e p))
      (λ (n : q ≢ a). not-first q (j + 1) (entry nexts j) n (r.next q j p)) t) (r.next q j p))
  nexts-less firsts lasts nexts firsts' nexts' (Some b) x r s f k q j t p d = ⊎_elim (λ (e : j ≡ b).
      let at : entry nexts' j ≡ x
      = ap (λ (z : List (Option ℕ)). entry z j) k.1 ∙ ap (entry (set nexts b x)) e
      ∙ entry-set nexts b x (let l = within cells b (Some a) s.1 in let size = r.next_size in omega (arith, l, size)) in
      let own : q ≡ a = one-queue cells q a b (subst (λ (z : ℕ). IsIn cells q z) e p) s.1 in
      let before = s.0 in
      subst (λ (z : Option ℕ). IsFirstFrom (IsIn (set cells i None) q) (j + 1) z) (sym at)
      (subst (λ (z : ℕ). IsFirstFrom (IsIn (set cells i None) z) (j + 1) x) (sym own)
      (first-after (IsIn cells a) (IsIn (set cells i None) a) (j + 1) i x (to-less a) (from-less a) (omega (arith, before, e))
      (λ c g m z. s.2 c (omega (arith, g, e)) m z) f)))
      (λ (c : j ≢ b). subst (λ (z : Option ℕ). IsFirstFrom (IsIn (set cells i None) q) (j + 1) z)
      (sym (ap (λ (z : List (Option ℕ)). entry z j) k.1 ∙ entry-other nexts b j x c))
      (first-still-less q (j + 1) (entry nexts j) (⊎_elim (λ (e : q ≡ a) (h : entry nexts j ≡ Some i).
      let g = first-is (IsIn cells q) (j + 1) i (entry nexts j) (r.next q j p) h in
      let low = g.0 in
      let before = s.0 in
      ⊎_elim (λ (l : j < b). g.2 b (omega (arith, l)) before (subst (λ (z : ℕ). IsIn cells z b) (sym e) s.1))
      (λ (u : (j ≡ b) ⊎ (b < j)). ⊎_elim c (λ (l : b < j). s.2 j l (omega (arith, low)) (subst (λ (z : ℕ). IsIn cells z j) e p)) u) (either b j))
      (λ (n : q ≢ a). not-first q (j + 1) (entry nexts j) n (r.next q j p)) t) (r.next q j p))) (same j b)

  lasts-less : (firsts lasts nexts lasts' : List (Option ℕ)) (o x : Option ℕ) → AreLined cells firsts lasts nexts
      → IsLastBelow (IsIn cells a) i o → IsFirstFrom (IsIn cells a) (i + 1) x → IsEnded lasts a o x lasts' → (q : ℕ) → (q ≡ a) ⊎ (q ≢ a)
      → IsLastBelow (IsIn (set cells i None) q) (length cells) (entry lasts' q)
  lasts-less firsts lasts nexts lasts' o None r s f k q t =
      let l = r.known a i there in let size = r.last_size in
      ⊎_elim (λ (e : q ≡ a). subst (λ (z : ℕ). IsLastBelow (IsIn (set cells i None) z) (length cells) (entry lasts' z)) (sym e)
      (subst (λ (z : Option ℕ). IsLastBelow (IsIn (set cells i None) a) (length cells) z)
      (sym (ap (λ (z : List (Option ℕ)). entry z a) k ∙ entry-set lasts a o (omega (arith, l, size))))
      (last-before (IsIn cells a) (IsIn (set cells i None) a) (length cells) i o (to-less a) (from-less a) (within cells i (Some a) there)
      (λ j g p. f j (omega (arith, g)) p) s)))
      (λ (n : q ≢ a). subst (λ (z : Option ℕ). IsLastBelow (IsIn (set cells i None) q) (length cells) z)
      (sym (ap (λ (z : List (Option ℕ)). entry z q) k ∙ entry-other lasts a q o n))
      (last-still-less q (length cells) (entry lasts q) (not-last q (length cells) (entry lasts q) n (r.last q)) (r.last q))) t
  lasts-less firsts lasts nexts lasts' o (Some c) r s f k q t =
      let after = f.0 in
      subst (λ (z : List (Option ℕ)). IsLastBelow (IsIn (set cells i None) q) (length cells) (entry z q)) (sym k)
      (last-still-less q (length cells) (entry lasts q) (⊎_elim (λ (e : q ≡ a) (h : entry lasts q ≡ Some i).
      (last-is (IsIn cells q) (length cells) i (entry lasts q) (r.last q) h).2 c (omega (arith, after)) (within cells c (Some a) f.1)
      (subst (λ (z : ℕ). IsIn cells z c) (sym e) f.1))
      (λ (n : q ≢ a). not-last q (length cells) (entry lasts q) n (r.last q)) t) (r.last q))

  ended-size : (lasts lasts' : List (Option ℕ)) (o x : Option ℕ) → IsEnded lasts a o x lasts' → length lasts' ≡ length lasts
  ended-size lasts lasts' o None k = ap length k ∙ length-set lasts a o
  ended-size lasts lasts' o (Some c) k = ap length k

  vacated : (firsts lasts nexts firsts' lasts' nexts' : List (Option ℕ)) (o : Option ℕ) → AreLined cells firsts lasts nexts
      → IsLastBelow (IsIn cells a) i o → IsLinked firsts nexts a o (entry nexts i) firsts' nexts' → IsEnded lasts a o (entry nexts i) lasts'
      → AreLined (set cells i None) firsts' lasts' nexts'
  vacated firsts lasts nexts firsts' lasts' nexts' o r s k m =
      let sizes = linked-size cells a firsts nexts firsts' nexts' o (entry nexts i) k in
      let same-size : length (set cells i None) ≡ length cells = length-set cells i None in
      let after = r.next a i there in
      record {
        first_size = sizes.0 ∙ r.first_size;
        last_size = ended-size lasts lasts' o (entry nexts i) m ∙ r.last_size;
        next_size = sizes.1 ∙ r.next_size ∙ sym same-size;
        known = λ q j p. r.known q j (from-less q j p).0;
        first = λ q. firsts-less firsts lasts nexts firsts' nexts' o (entry nexts i) r s after k q (same q a);
        last = λ q. subst (λ (z : ℕ). IsLastBelow (IsIn (set cells i None) q) z (entry lasts' q)) (sym same-size)
            (lasts-less firsts lasts nexts lasts' o (entry nexts i) r s after m q (same q a));
        next = λ q j p. let z = from-less q j p in nexts-less firsts lasts nexts firsts' nexts' o (entry nexts i) r s after k q j (same q a) z.0 z.1;
      }

-- ---- as the code does it: slices written back into their vectors

read-entry : (table : List (Option ℕ)) (i : ℕ) (o : Option ℕ) → i < length table → o ≡ get_or table i o → o ≡ entry table i
read-entry table i o l e = sym (ap held (slice_get_read table (length table) i o refl l e))

pub push-lined : (cells firsts lasts nexts firsts' nexts' cells' nexts'' : List (Option ℕ)) (a n nf nn : ℕ) (before : Option ℕ) → a < 283
    → AreLined cells firsts lasts nexts → n ≡ length cells → nf ≡ length firsts → nn ≡ length nexts → before ≡ get_or lasts a before
    → IsLinked firsts nexts a before (Some n) firsts' nexts' → cells' ≡ cells ++ Some a ∷ []
    → nexts'' ≡ take nn (nexts' ++ drop (length nexts') nexts) ++ None ∷ []
    → AreLined cells' (take nf (firsts' ++ drop (length firsts') firsts)) (set lasts a (Some n)) nexts''
push-lined cells firsts lasts nexts firsts' nexts' cells' nexts'' a n nf nn before l r en ef ex eb k ec ey =
    let size = r.last_size in
    let is : before ≡ entry lasts a = read-entry lasts a before (omega (arith, l, size)) eb in
    let k2 : IsLinked firsts nexts a (entry lasts a) (Some (length cells)) firsts' nexts'
    = subst (λ (z : ℕ). IsLinked firsts nexts a (entry lasts a) (Some z) firsts' nexts') en
    (subst (λ (z : Option ℕ). IsLinked firsts nexts a z (Some n) firsts' nexts') is k) in
    let sizes = linked-size cells a firsts nexts firsts' nexts' (entry lasts a) (Some (length cells)) k2 in
    subst (λ (z : List (Option ℕ)). AreLined z (take nf (firsts' ++ drop (length firsts') firsts)) (set lasts a (Some n)) nexts'') (sym ec)
    (subst (λ (z : List (Option ℕ)). AreLined (cells ++ Some a ∷ []) (take nf (firsts' ++ drop (length firsts') firsts)) (set lasts a (Some n)) z)
    (sym (ey ∙ ap (λ (y : List (Option ℕ)). y ++ None ∷ []) (whole nn nexts nexts' ex sizes.1)))
    (subst (λ (z : List (Option ℕ)). AreLined (cells ++ Some a ∷ []) z (set lasts a (Some n)) (nexts' ++ None ∷ [])) (sym (whole nf firsts firsts' ef sizes.0))
    (subst (λ (z : ℕ). AreLined (cells ++ Some a ∷ []) firsts' (set lasts a (Some z)) (nexts' ++ None ∷ [])) (sym en)
    (pushed cells a firsts lasts nexts firsts' nexts' l r k2))))

pub vacate-lined : (cells firsts lasts nexts firsts' lasts' nexts' : List (Option ℕ)) (a i nf nl nn : ℕ) (before next : Option ℕ) → IsIn cells a i
    → AreLined cells firsts lasts nexts → nf ≡ length firsts → nl ≡ length lasts → nn ≡ length nexts → next ≡ get_or nexts i next
    → IsLastBelow (IsIn cells a) i before
    → IsLinked firsts nexts a before next firsts' nexts' → IsEnded lasts a before next lasts'
    → AreLined (set cells i None) (take nf (firsts' ++ drop (length firsts') firsts)) (take nl (lasts' ++ drop (length lasts') lasts))
    (take nn (nexts' ++ drop (length nexts') nexts))
vacate-lined cells firsts lasts nexts firsts' lasts' nexts' a i nf nl nn before next p r ef el ex e s k m =
    let size = r.next_size in
    let l = within cells i (Some a) p in
    let is : next ≡ entry nexts i = read-entry nexts i next (omega (arith, l, size)) e in
    let k2 : IsLinked firsts nexts a before (entry nexts i) firsts' nexts' = subst (λ (z : Option ℕ). IsLinked firsts nexts a before z firsts' nexts') is k in
    let m2 : IsEnded lasts a before (entry nexts i) lasts' = subst (λ (z : Option ℕ). IsEnded lasts a before z lasts') is m in
    let sizes = linked-size cells a firsts nexts firsts' nexts' before (entry nexts i) k2 in
    let end-size = ended-size cells a i p lasts lasts' before (entry nexts i) m2 in
    subst (λ (z : List (Option ℕ)). AreLined (set cells i None) z (take nl (lasts' ++ drop (length lasts') lasts))
    (take nn (nexts' ++ drop (length nexts') nexts)))
    (sym (whole nf firsts firsts' ef sizes.0))
    (subst (λ (z : List (Option ℕ)). AreLined (set cells i None) firsts' z (take nn (nexts' ++ drop (length nexts') nexts)))
    (sym (whole nl lasts lasts' el end-size))
    (subst (λ (z : List (Option ℕ)). AreLined (set cells i None) firsts' lasts' z) (sym (whole nn nexts nexts' ex sizes.1))
    (vacated cells a i p firsts lasts nexts firsts' lasts' nexts' before r s k2 m2)))
