-- What is kept after a message comes, and after one leaves.
use Rattle.std.proofs.Common.{◌≡◌, refl, sym, subst, ap, ◌∙◌, ℕ, zero, suc, ◌+◌, ◌-◌, ◌<◌, ◌≤◌, List, [], ◌∷◌, ◌++◌, length, take, drop, get_or}
use Rattle.std.proofs.Common.{Option, Some, None, set, length-set, length-append, arith}
use Rattle.std.specs.List.{slice_get, remove}
use Rattle.std.proofs.lemmas.Option.{same_Some, none-some, get_or_from_slice_get}
use Rattle.affinity.specs.Affinity.{call_node}
use Rattle.affinity.specs.declared.affinity.CallNode.{CallNode}
use Rattle.scheduler.specs.QueueNumber.{queue_of, HasQueue}
use Rattle.scheduler.specs.declared.message.Message.{Message}
use Rattle.scheduler.specs.Lines.{IsIn, IsFirstFrom}
use Rattle.scheduler.specs.Waiting.{IsFirstOf, NoneTries, Tries, IsFront, TakesFront}
use Rattle.scheduler.specs.Kept.{present, lines_of, HaveQueues, HasMessage, AreKept}
use Rattle.scheduler.proofs.Tables.{whole, within, first-is}
use Rattle.scheduler.proofs.Present.{present-at, present-set, present-push, vacant-push, vacant-set}
use Rattle.scheduler.proofs.Seated.{first-none, first-tries, in-line, queues-set, queues-push}

module _ {C : Type 0} where
  one-less : (xs : List (Option (Message C))) (i : ℕ) (m : Message C) → slice_get xs i ≡ Some (Some m)
      → length (present (set xs i None)) + 1 ≡ length (present xs)
  one-less [] i m e = absurd (none-some (Some m) e)
  one-less (None ∷ xs) zero m e = absurd (none-some m (same_Some None (Some m) e))
  one-less (Some y ∷ xs) zero m e = omega arith
  one-less (None ∷ xs) (suc i) m e = one-less xs i m e
  one-less (Some y ∷ xs) (suc i) m e = let r = one-less xs i m e in omega (arith, r)

  -- a cell emptied in a slice of the vector
  pub written : (n i : ℕ) (xs w xs' : List (Option (Message C))) → n ≡ length xs → w ≡ xs → xs' ≡ set w i None
      → take n (xs' ++ drop (length xs') xs) ≡ set xs i None
  written n i xs w xs' e f g =
      let size : length xs' ≡ length xs = ap length g ∙ length-set w i None ∙ ap length f in
      whole n xs xs' e size ∙ g ∙ ap (λ (z : List (Option (Message C))). set z i None) f

  pub still-vacant : (xs zs : List (Option (Message C))) (i start : ℕ) → zs ≡ set xs i None → present (take start xs) ≡ [] → present (take start zs) ≡ []
  still-vacant xs zs i start e v = ap (λ (z : List (Option (Message C))). present (take start z)) e ∙ vacant-set xs i start v

  pub taken : (xs ys zs : List (Option (Message C))) (lines lines' : List (Option ℕ)) (count start start' i : ℕ) (m : Message C) → AreKept xs lines count start
      → slice_get xs i ≡ Some (Some m) → ys ≡ set xs i None → zs ≡ ys → lines' ≡ lines_of (set xs i None) → start' ≤ length zs → present (take start' zs) ≡ []
      → AreKept ys lines' (count - 1) start'
  taken xs ys zs lines lines' count start start' i m k e f z l w v =
      let less = one-less xs i m e in
      let counted = k.counted in
      let most = k.most in
      let same-size : length zs ≡ length (set xs i None) = ap length (z ∙ f) in
      subst (λ (t : List (Option (Message C))). AreKept t lines' (count - 1) start') (sym f) (record {
        lined = l;
        queues = queues-set xs i k.queues (within xs i (Some m) e);
        counted = omega (arith, less, counted);
        most = omega (arith, most);
        within = omega (arith, w, same-size);
        vacant = ap (λ (t : List (Option (Message C))). present (take start' t)) (sym (z ∙ f)) ∙ v;
      })

  pub lined-again : (xs w xs' : List (Option (Message C))) (lines' : List (Option ℕ)) (i : ℕ) → w ≡ xs → xs' ≡ set w i None → lines' ≡ lines_of xs'
      → lines' ≡ lines_of (set xs i None)
  lined-again xs w xs' lines' i e f l = l ∙ ap (λ (t : List (Option (Message C))). lines_of t) (f ∙ ap (λ (t : List (Option (Message C))). set t i None) e)

  pub message-there : (xs w : List (Option (Message C))) (i : ℕ) (m : Message C) → w ≡ xs → slice_get w i ≡ Some (Some m) → slice_get xs i ≡ Some (Some m)
  message-there xs w i m e f = ap (λ (t : List (Option (Message C))). slice_get t i) (sym e) ∙ f

  -- the list before and after
  pub picked : (xs w : List (Option (Message C))) (old : List (Message C)) (i place : ℕ) (m : Message C) → present xs ≡ old → w ≡ xs
      → slice_get xs i ≡ Some (Some m)
      → length (present (take i w)) ≡ place → slice_get old place ≡ Some m
  picked xs w old i place m o e f p =
      ap (λ (t : List (Message C)). slice_get t place) (sym o)
      ∙ ap (slice_get (present xs)) (sym p ∙ ap (λ (t : List (Option (Message C))). length (present (take i t))) e) ∙ present-at xs i m f

  -- what is read at its cell
  pub got : (xs w : List (Option (Message C))) (old : List (Message C)) (i place : ℕ) (r x : Option (Message C)) → present xs ≡ old → w ≡ xs → HasMessage w i
      → length (present (take i w)) ≡ place → r ≡ get_or xs i r → x ≡ r → x ≡ slice_get old place
  got xs w old i place r x o e h p re xe =
      let there = message-there xs w i h.0 e h.1 in
      xe ∙ re ∙ get_or_from_slice_get xs i (Some h.0) r there ∙ sym (picked xs w old i place h.0 o e there p)

  pub rest : (xs ys w : List (Option (Message C))) (old : List (Message C)) (i place : ℕ) (m : Message C) → present xs ≡ old → ys ≡ set xs i None → w ≡ xs
      → slice_get xs i ≡ Some (Some m) → length (present (take i w)) ≡ place → present ys ≡ remove old place
  rest xs ys w old i place m o f e h p =
      ap present f ∙ present-set xs i m h ∙ ap (remove (present xs)) (ap (λ (t : List (Option (Message C))). length (present (take i t))) (sym e) ∙ p)
      ∙ ap (λ (t : List (Message C)). remove t place) o

  pub pushed-kept : (xs xs' ys : List (Option (Message C))) (lines lines' : List (Option ℕ)) (count start start' : ℕ) (m : Message C) (old : List (Message C))
      → AreKept xs lines count start → present xs ≡ old → length old < 1024 → present xs' ≡ present xs → HaveQueues xs' → HasQueue (call_node m.affinity)
      → start' ≤ length xs' → present (take start' xs') ≡ [] → ys ≡ xs' ++ Some m ∷ [] → lines' ≡ lines_of ys → AreKept ys lines' (count + 1) start'
  pushed-kept xs xs' ys lines lines' count start start' m old k o few p h q w v e l =
      let size : length (present (xs' ++ Some m ∷ [])) ≡ length (present xs) + 1
      = ap length (present-push xs' m) ∙ length-append (present xs') (m ∷ []) ∙ ap (λ (t : List (Message C)). length t + 1) p in
      let longer = length-append xs' (Some m ∷ []) in
      let counted = k.counted in
      let old-size : length (present xs) ≡ length old = ap length o in
      record {
        lined = l;
        queues = subst (λ (t : List (Option (Message C))). HaveQueues t) (sym e) (queues-push xs' m h q);
        counted = ap (λ (t : ℕ). t + 1) counted ∙ sym size ∙ ap (λ (t : List (Option (Message C))). length (present t)) (sym e);
        most = omega (arith, counted, old-size, few);
        within = subst (λ (t : List (Option (Message C))). start' ≤ length t) (sym e) (omega (arith, w, longer));
        vacant = ap (λ (t : List (Option (Message C))). present (take start' t)) e ∙ vacant-push xs' (Some m) start' w v;
      }

  pub pushed-list : (xs xs' ys : List (Option (Message C))) (m : Message C) (old : List (Message C)) → present xs ≡ old → present xs' ≡ present xs
      → ys ≡ xs' ++ Some m ∷ [] → present ys ≡ old ++ m ∷ []
  pushed-list xs xs' ys m old o p e = ap present e ∙ present-push xs' m ∙ ap (λ (t : List (Message C)). t ++ m ∷ []) (p ∙ o)

  -- ---- by affinity

  pub none-first : (xs : List (Option (Message C))) (lines : List (Option ℕ)) (count start q : ℕ) (a : CallNode) (o : Option ℕ) (old : List (Message C))
      → AreKept xs lines count start → present xs ≡ old → q ≡ queue_of (call_node a) → IsFirstFrom (IsIn lines q) 0 o → o ≡ None → IsFirstOf a old None
  none-first xs lines count start q a o old k e f s n =
      subst (λ (t : List (Message C)). IsFirstOf a t None) e
      (first-none xs lines a q k.lined f (subst (λ (t : Option ℕ). IsFirstFrom (IsIn lines q) 0 t) n s))

  pub cell-first : (xs : List (Option (Message C))) (lines : List (Option ℕ)) (count start q i : ℕ) (o : Option ℕ) → AreKept xs lines count start
      → IsFirstFrom (IsIn lines q) 0 o → o ≡ Some i → HasMessage xs i
  cell-first xs lines count start q i o k s n =
      let t = in-line xs i q (subst (λ (z : List (Option ℕ)). IsIn z q i) k.lined (first-is (IsIn lines q) 0 i o s n).1) in (t.0, t.1)

  pub some-there : (xs : List (Option (Message C))) (lines : List (Option ℕ)) (count start i : ℕ) → AreKept xs lines count start → HasMessage xs i → 1 ≤ count
  some-there xs lines count start i k t = let less = one-less xs i t.0 t.1 in let counted = k.counted in omega (arith, less, counted)

  pub cell-within : (xs : List (Option (Message C))) (i : ℕ) → HasMessage xs i → i < length xs
  cell-within xs i t = within xs i (Some t.0) t.1

  -- the message of the first cell of an affinity's queue
  tried : (xs : List (Option (Message C))) (lines : List (Option ℕ)) (count start q i : ℕ) (a : CallNode) (o : Option ℕ) (m : Message C)
      (old : List (Message C))
      → AreKept xs lines count start → present xs ≡ old → q ≡ queue_of (call_node a) → HasQueue (call_node a) → IsFirstFrom (IsIn lines q) 0 o → o ≡ Some i
      → slice_get xs i ≡ Some (Some m) → Tries a old (length (present (take i xs))) m × NoneTries a old (length (present (take i xs)))
  tried xs lines count start q i a o m old k e f h s n there =
      let t = first-tries xs lines a q i k.lined f k.queues h (first-is (IsIn lines q) 0 i o s n) in
      let is : t.0 ≡ m = same_Some _ _ (same_Some _ _ (sym t.1 ∙ there)) in
      subst (λ (z : List (Message C)). Tries a z (length (present (take i xs))) m × NoneTries a z (length (present (take i xs)))) e
      (subst (λ (z : Message C). Tries a (present xs) (length (present (take i xs))) z × NoneTries a (present xs) (length (present (take i xs)))) is (t.2, t.3))

  pub placed : (xs w : List (Option (Message C))) (lines : List (Option ℕ)) (count start q i place : ℕ) (a : CallNode) (o : Option ℕ) (old : List (Message C))
      → AreKept xs lines count start → present xs ≡ old → q ≡ queue_of (call_node a) → HasQueue (call_node a) → IsFirstFrom (IsIn lines q) 0 o → o ≡ Some i
      → w ≡ xs → place ≡ length (present (take i w)) → IsFirstOf a old (Some place)
  placed xs w lines count start q i place a o old k e f h s n we p =
      let c = cell-first xs lines count start q i o k s n in
      let t = tried xs lines count start q i a o c.0 old k e f h s n c.1 in
      subst (λ (z : ℕ). IsFirstOf a old (Some z)) (sym (p ∙ ap (λ (z : List (Option (Message C))). length (present (take i z))) we)) ((c.0, t.0), t.1)

  pub front : (xs : List (Option (Message C))) (lines : List (Option ℕ)) (count start q i : ℕ) (a : CallNode) (o : Option ℕ) (r x : Option (Message C))
      (old : List (Message C))
      → AreKept xs lines count start → present xs ≡ old → q ≡ queue_of (call_node a) → HasQueue (call_node a) → IsFirstFrom (IsIn lines q) 0 o → o ≡ Some i
      → r ≡ get_or xs i r → x ≡ r → IsFront a old x
  front xs lines count start q i a o r x old k e f h s n re xe =
      let c = cell-first xs lines count start q i o k s n in
      let t = tried xs lines count start q i a o c.0 old k e f h s n c.1 in
      let is : r ≡ Some c.0 = re ∙ get_or_from_slice_get xs i (Some c.0) r c.1 in
      subst (λ (z : Option (Message C)). IsFront a old z) (sym (xe ∙ is)) (length (present (take i xs)), t.0, t.1)

  pub takes-front : (xs ys : List (Option (Message C))) (lines : List (Option ℕ)) (count start q i : ℕ) (a : CallNode) (o : Option ℕ) (m : Message C)
      (old : List (Message C))
      → AreKept xs lines count start → present xs ≡ old → q ≡ queue_of (call_node a) → HasQueue (call_node a) → IsFirstFrom (IsIn lines q) 0 o → o ≡ Some i
      → slice_get xs i ≡ Some (Some m) → ys ≡ set xs i None → TakesFront a old (Some m) (present ys)
  takes-front xs ys lines count start q i a o m old k e f h s n there ye =
      let t = tried xs lines count start q i a o m old k e f h s n there in
      (length (present (take i xs)), t.0, t.1, rest xs ys xs old i (length (present (take i xs))) m e ye refl there refl)
