-- Messages in cells and the lines of the cells.
use Rattle.std.proofs.Common.{◌≡◌, ◌≢◌, ◌⊎◌, refl, sym, subst, ap, ◌∙◌, ℕ, zero, suc, ◌+◌, ◌<◌, ◌≤◌, List, [], ◌∷◌, ◌++◌, length, map, take, Option}
use Rattle.std.proofs.Common.{Some, None, is_some, get_or, set, arith, ⊎_elim}
use Rattle.std.specs.List.{slice_get}
use Rattle.std.specs.Option.{option_map}
use Rattle.std.proofs.lemmas.List.{map-set, map-append, length-map}
use Rattle.std.proofs.lemmas.Option.{same_Some, none-some, slice_get-map, slice_get-get_or}
use Rattle.affinity.specs.Affinity.{call_node}
use Rattle.affinity.specs.declared.affinity.CallNode.{CallNode}
use Rattle.affinity.specs.declared.affinity.CallNode.TheVariants.{Serial, Aggregate, Volume, Logical, Stripe}
use Rattle.scheduler.specs.QueueNumber.{queue_of, HasQueue}
use Rattle.scheduler.specs.declared.message.Message.{Message}
use Rattle.scheduler.specs.Lines.{IsIn, IsFirstFrom}
use Rattle.scheduler.specs.Waiting.{IsFirstOf, NoneTries, Tries}
use Rattle.scheduler.specs.Kept.{present, line_of, lines_of, HaveQueues, HasMessage}
use Rattle.scheduler.proofs.Tables.{get-set, get-set-other, get-past, get-before, same, either}
use Rattle.scheduler.proofs.Present.{present-at, present-all, cell-of, count-rises, count-below, read-is, present-some, none-more, one-more}

-- ---- one affinity, one queue

same-affinity : (a b : CallNode) → HasQueue (call_node a) → HasQueue (call_node b) → queue_of (call_node a) ≡ queue_of (call_node b) → a ≡ b
same-affinity Serial Serial h k e = refl
same-affinity (Aggregate a) (Aggregate b) h k e = let p : a ≡ b = omega (arith, e) in ap Aggregate p
same-affinity (Volume a) (Volume b) h k e = let p : a ≡ b = omega (arith, e) in ap Volume p
same-affinity (Logical a) (Logical b) h k e = let p : a ≡ b = omega (arith, e) in ap Logical p
same-affinity (Stripe a i) (Stripe b j) h k e =
    let hi = h.1 in let kj = k.1 in
    let p : a ≡ b = omega (arith, e, hi, kj) in
    let q : i ≡ j = omega (arith, e, p) in
    ap (λ (x : ℕ). Stripe x i) p ∙ ap (λ (x : ℕ). Stripe b x) q
same-affinity a b h k e = absurd (omega (arith, e, h, k))

module _ {C : Type 0} where
  pub line-at : (xs : List (Option (Message C))) (lines : List (Option ℕ)) (i q : ℕ) (m : Message C) → lines ≡ lines_of xs
      → slice_get xs i ≡ Some (Some m) → q ≡ queue_of (call_node m.affinity) → IsIn lines q i
  line-at xs lines i q m l e f =
      ap (λ (z : List (Option ℕ)). slice_get z i) l ∙ slice_get-map line_of xs i ∙ ap (option_map line_of) e ∙ ap (λ (z : ℕ). Some (Some z)) (sym f)

  -- the message of a cell that is in a queue
  pub in-line : (xs : List (Option (Message C))) (i q : ℕ) → IsIn (lines_of xs) q i → (m : Message C) × (slice_get xs i ≡ Some (Some m))
      × (queue_of (call_node m.affinity) ≡ q)
  in-line [] i q e = absurd (none-some (Some q) e)
  in-line (None ∷ xs) zero q e = absurd (none-some q (same_Some None (Some q) e))
  in-line (Some m ∷ xs) zero q e = (m, refl, same_Some _ _ (same_Some _ _ e))
  in-line (None ∷ xs) (suc i) q e = in-line xs i q e
  in-line (Some m ∷ xs) (suc i) q e = in-line xs i q e

  pub lines-set : (xs : List (Option (Message C))) (lines lines' : List (Option ℕ)) (i : ℕ) (o : Option (Message C)) → o ≡ None → lines ≡ lines_of xs
      → lines' ≡ set lines i None
      → lines' ≡ lines_of (set xs i o)
  lines-set xs lines lines' i o n l e =
      e ∙ ap (λ (z : List (Option ℕ)). set z i None) l ∙ sym (map-set line_of xs i None) ∙ ap (λ (z : Option (Message C)). lines_of (set xs i z)) (sym n)

  pub taken-is : (xs : List (Option (Message C))) (i : ℕ) (r o : Option (Message C)) (m : Message C) → i < length xs → o ≡ get_or xs i r → o ≡ Some m
      → slice_get xs i ≡ Some (Some m)
  taken-is xs i r o m l e h = slice_get-get_or xs i r l ∙ ap (λ (z : Option (Message C)). Some z) (sym e ∙ h)

  pub not-none : (xs : List (Option (Message C))) (i : ℕ) (r o : Option (Message C)) → i < length xs → o ≡ get_or xs i r → o ≡ None → HasMessage xs i → ⊥
  not-none xs i r o l e h t = none-some t.0 (same_Some None (Some t.0)
      (sym (slice_get-get_or xs i r l ∙ ap (λ (z : Option (Message C)). Some z) (sym e ∙ h)) ∙ t.1))

  -- ---- lines made anew

  pub lines-room : (xs : List (Option (Message C))) (lines : List (Option ℕ)) (i : ℕ) → lines ≡ lines_of (map (λ x. Some x) (present (take i xs)))
      → i < length xs
      → length xs ≤ 2048 → length lines < 2048
  lines-room xs lines i e l m =
      let n : length lines ≡ length (present (take i xs)) = ap length e ∙ length-map (map (λ (x : Message C). Some x) (present (take i xs))) line_of
      ∙ length-map (present (take i xs)) (λ (x : Message C). Some x) in
      let b = count-below xs i in
      omega (arith, n, b, l, m)

  pub lines-more : (xs : List (Option (Message C))) (lines lines' : List (Option ℕ)) (i q : ℕ) (r : Option (Message C)) (m : Message C) → i < length xs
      → r ≡ get_or xs i r
      → r ≡ Some m → lines ≡ lines_of (map (λ x. Some x) (present (take i xs))) → q ≡ queue_of (call_node m.affinity)
      → lines' ≡ lines ++ Some q ∷ [] → lines' ≡ lines_of (map (λ x. Some x) (present (take (i + 1) xs)))
  lines-more xs lines lines' i q r m l e s k f g =
      let more : present (take (i + 1) xs) ≡ present (take i xs) ++ m ∷ []
      = ap (λ (z : ℕ). present (take z xs)) (one-more i) ∙ present-some xs i m (read-is xs i r l e ∙ ap (λ (z : Option (Message C)). Some z) s) in
      g ∙ ap (λ (z : List (Option ℕ)). z ++ Some q ∷ []) k
      ∙ ap (λ (z : ℕ). lines_of (map (λ (x : Message C). Some x) (present (take i xs))) ++ Some z ∷ []) f
      ∙ sym (map-append line_of (map (λ (x : Message C). Some x) (present (take i xs))) (Some m ∷ []))
      ∙ ap (λ (z : List (Option (Message C))). lines_of z) (sym (map-append (λ (x : Message C). Some x) (present (take i xs)) (m ∷ [])))
      ∙ ap (λ (z : List (Message C)). lines_of (map (λ (x : Message C). Some x) z)) (sym more)

  pub lines-same : (xs : List (Option (Message C))) (lines lines' : List (Option ℕ)) (i : ℕ) (r : Option (Message C)) → i < length xs → r ≡ get_or xs i r
      → r ≡ None → lines ≡ lines_of (map (λ x. Some x) (present (take i xs)))
      → lines' ≡ lines → lines' ≡ lines_of (map (λ x. Some x) (present (take (i + 1) xs)))
  lines-same xs lines lines' i r l e s k g =
      g ∙ k ∙ ap (λ (z : List (Message C)). lines_of (map (λ (x : Message C). Some x) z)) (sym (none-more xs i r l e (ap is_some s)))

  -- ---- what stays kept

  pub queues-set : (xs : List (Option (Message C))) (i : ℕ) → HaveQueues xs → i < length xs → HaveQueues (set xs i None)
  queues-set xs i h l j m e = ⊎_elim (λ (s : j ≡ i). absurd (none-some m (same_Some None (Some m)
      (sym (get-set xs i None l) ∙ subst (λ (z : ℕ). slice_get (set xs i None) z ≡ Some (Some m)) s e))))
      (λ (n : j ≢ i). h j m (sym (get-set-other xs i j None n) ∙ e)) (same j i)

  pub queues-push : (xs : List (Option (Message C))) (m : Message C) → HaveQueues xs → HasQueue (call_node m.affinity) → HaveQueues (xs ++ Some m ∷ [])
  queues-push xs m h k j y e = ⊎_elim (λ (l : j < length xs). h j y (sym (get-before xs (Some m) j l) ∙ e))
      (λ (t : (j ≡ length xs) × (Some m ≡ Some y)). subst (λ (z : Message C). HasQueue (call_node z.affinity)) (same_Some m y t.1) k)
      (get-past xs (Some m) (Some y) j e)

  queues-all : (xs : List (Option (Message C))) → HaveQueues xs → HaveQueues (map (λ x. Some x) (present xs))
  queues-all xs h j m e =
      let r = cell-of xs j m (from-all (present xs) j m e) in h r.0 m r.1
    where
      from-all : (ys : List (Message C)) (j : ℕ) (m : Message C) → slice_get (map (λ (x : Message C). Some x) ys) j ≡ Some (Some m) → slice_get ys j ≡ Some m
      from-all [] j m e = absurd (none-some (Some m) e)
      from-all (y ∷ ys) zero m e = same_Some (Some y) (Some m) e
      from-all (y ∷ ys) (suc j) m e = from-all ys j m e

  -- ---- messages moved together

  pub packed-present : (xs ys : List (Option (Message C))) → ys ≡ map (λ x. Some x) (present xs) → present ys ≡ present xs
  packed-present xs ys e = ap present e ∙ present-all (present xs)

  pub packed-queues : (xs ys : List (Option (Message C))) → ys ≡ map (λ x. Some x) (present xs) → HaveQueues xs → HaveQueues ys
  packed-queues xs ys e h = subst (λ (z : List (Option (Message C))). HaveQueues z) (sym e) (queues-all xs h)

  pub packed-length : (xs ys : List (Option (Message C))) → ys ≡ map (λ x. Some x) (present xs) → length ys ≡ length (present xs)
  packed-length xs ys e = ap length e ∙ length-map (present xs) (λ (x : Message C). Some x)

  pub packed-lined : (xs ys zs : List (Option (Message C))) (lines : List (Option ℕ)) → ys ≡ map (λ x. Some x) (present xs) → zs ≡ ys
      → lines ≡ lines_of (map (λ x. Some x) (present zs)) → lines ≡ lines_of ys
  packed-lined xs ys zs lines e f l =
      l ∙ ap (λ (z : List (Option (Message C))). lines_of (map (λ (x : Message C). Some x) (present z))) f
      ∙ ap (λ (z : List (Message C)). lines_of (map (λ (x : Message C). Some x) z)) (packed-present xs ys e)
      ∙ ap (λ (z : List (Option (Message C))). lines_of z) (sym e)

  -- ---- the first of an affinity

  pub first-none : (xs : List (Option (Message C))) (lines : List (Option ℕ)) (a : CallNode) (q : ℕ) → lines ≡ lines_of xs → q ≡ queue_of (call_node a)
      → IsFirstFrom (IsIn lines q) 0 None → IsFirstOf a (present xs) None
  first-none xs lines a q l eq s p m e f =
      let r = cell-of xs p m e in
      s r.0 (omega arith) (line-at xs lines r.0 q m l r.1 (eq ∙ ap (λ (z : CallNode). queue_of (call_node z)) (sym f)))

  pub first-tries : (xs : List (Option (Message C))) (lines : List (Option ℕ)) (a : CallNode) (q k : ℕ) → lines ≡ lines_of xs → q ≡ queue_of (call_node a)
      → HaveQueues xs → HasQueue (call_node a) → IsFirstFrom (IsIn lines q) 0 (Some k)
      → (m : Message C) × (slice_get xs k ≡ Some (Some m)) × Tries a (present xs) (length (present (take k xs))) m
      × NoneTries a (present xs) (length (present (take k xs)))
  first-tries xs lines a q k l eq h ha s =
      let t = in-line xs k q (subst (λ (z : List (Option ℕ)). IsIn z q k) l s.1) in
      let m = t.0 in (
        m,
        t.1,
        record { there = present-at xs k m t.1; affinity_is = same-affinity m.affinity a (h k m t.1) ha (t.2 ∙ eq) },
        λ p n b e f. let r = cell-of xs p n e in
            let counted = r.2 in
            let below : r.0 < k = ⊎_elim (λ (u : r.0 < k). u) (λ (u : (r.0 ≡ k) ⊎ (k < r.0)).
            absurd (let c = count-rises xs k r.0 (⊎_elim (λ (w : r.0 ≡ k). omega (arith, w)) (λ (w : k < r.0). omega (arith, w)) u) in omega
            (arith, c, b, counted))) (either k r.0) in
            s.2 r.0 (omega arith) below (line-at xs lines r.0 q n l r.1 (eq ∙ ap (λ (z : CallNode). queue_of (call_node z)) (sym f))),
      )
