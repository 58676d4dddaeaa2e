-- Replies that are taken one after another.
use Rattle.std.proofs.Common.{◌≡◌, ◌≢◌, ℕ, ◌<◌, cond, List, [], ◌∷◌, ◌++◌, length, drop, Option, Some, None, refl, sym, ap, subst}
use Rattle.std.proofs.Common.{◌∙◌, append_assoc, ne_eqb, arith}
use Rattle.std.specs.FinMap.{FinMap, get}
use Rattle.std.specs.Option.{option_map}
use Rattle.std.specs.Ordering.{nat_cmp}
use Rattle.nfs_model.specs.volume.Maps.{changed_at}
use Rattle.nfs_model.specs.volume.lemmas.Numbered.{itself, get-changed_at}
use Rattle.outboxes.specs.Boxes.{Boxes, first_in, oldest, taken}
use Rattle.outboxes.specs.Messages.{ReplyMessage}
use Rattle.connections.specs.Taking.{IsOut, Takes, TakesOf}

-- how many wait
abbrev pub count_in : Option (List ReplyMessage) → ℕ
count_in None = 0
count_in (Some waiting) = length waiting

abbrev pub waits : ℕ → Boxes → ℕ
waits number b = count_in (get b.waiting number)

-- ---- one map

module _ (g : List ReplyMessage → List ReplyMessage) (k : ℕ) (m : FinMap nat_cmp (List ReplyMessage)) where
  at-own : get (changed_at g k m) k ≡ option_map g (get m k)
  at-own = get-changed_at g k m k ∙ ap (λ b. cond b (option_map g (get m k)) (get m k)) (itself k)

  at-other : (q : ℕ) → q ≢ k → get (changed_at g k m) q ≡ get m q
  at-other q n = get-changed_at g k m q ∙ ap (λ b. cond b (option_map g (get m k)) (get m q)) (ne_eqb q k n)

-- ---- what is taken

none-of : (o : Option (List ReplyMessage)) → TakesOf o [] o
none-of None = (refl, refl)
none-of (Some waiting) = refl

more-of : (x y z : Option (List ReplyMessage)) (ms ks : List ReplyMessage) → TakesOf x ms y → TakesOf y ks z → TakesOf x (ms ++ ks) z
more-of None None z ms ks p q = (ap (λ (l : List ReplyMessage). l ++ ks) p.0 ∙ q.0, q.1)
more-of None (Some v) z ms ks p q = let e : Some v ≡ None = p.1 in absurd cc
more-of (Some w) None z ms ks p q = absurd p
more-of (Some w) (Some v) None ms ks p q = absurd q
more-of (Some w) (Some v) (Some u) ms ks p q = p ∙ ap (λ (l : List ReplyMessage). ms ++ l) q ∙ sym (append_assoc ms ks u)

first-of : (o : Option (List ReplyMessage)) (m : ReplyMessage) → Some m ≡ first_in o → TakesOf o (m ∷ []) (option_map (drop 1) o)
first-of None m e = absurd cc
first-of (Some []) m e = absurd cc
first-of (Some (x ∷ xs)) m e = let same : x ≡ m = cc in ap (λ (y : ReplyMessage). y ∷ xs) same

out-of : (o : Option (List ReplyMessage)) → None ≡ first_in o → TakesOf o [] (option_map (drop 1) o) × IsOut (option_map (drop 1) o)
out-of None e = ((refl, refl), tt)
out-of (Some []) e = (refl, refl)
out-of (Some (x ∷ xs)) e = absurd cc

fewer-of : (o : Option (List ReplyMessage)) (m : ReplyMessage) → Some m ≡ first_in o → count_in (option_map (drop 1) o) < count_in o
fewer-of None m e = absurd cc
fewer-of (Some []) m e = absurd cc
fewer-of (Some (x ∷ xs)) m e = omega arith

-- ---- in all outboxes

pub takes-none : (number : ℕ) (b : Boxes) → Takes number [] b b
takes-none number b = record { next = refl; step = refl; others = λ q n. refl; own = none-of (get b.waiting number) }

pub takes-more : (number : ℕ) (ms ks : List ReplyMessage) (a b c : Boxes) → Takes number ms a b → Takes number ks b c
    → Takes number (ms ++ ks) a c
takes-more number ms ks a b c f g = record {
  next = g.next ∙ f.next;
  step = g.step ∙ f.step;
  others = λ q n. g.others q n ∙ f.others q n;
  own = more-of (get a.waiting number) (get b.waiting number) (get c.waiting number) ms ks f.own g.own;
}

pub takes-first : (number : ℕ) (b : Boxes) (m : ReplyMessage) → Some m ≡ oldest number b → Takes number (m ∷ []) b (taken number b)
takes-first number b m e = record {
  next = refl;
  step = refl;
  others = at-other (drop 1) number b.waiting;
  own = subst (TakesOf (get b.waiting number) (m ∷ [])) (sym (at-own (drop 1) number b.waiting)) (first-of (get b.waiting number) m e);
}

pub takes-out : (number : ℕ) (b : Boxes) → None ≡ oldest number b → Takes number [] b (taken number b)
    × IsOut (get (taken number b).waiting number)
takes-out number b e =
    let is = sym (at-own (drop 1) number b.waiting) in
    let h = out-of (get b.waiting number) e in (
      record { next = refl; step = refl; others = at-other (drop 1) number b.waiting; own = subst (TakesOf (get b.waiting number) []) is h.0 },
      subst IsOut is h.1,
    )

pub takes-fewer : (number : ℕ) (b : Boxes) (m : ReplyMessage) → Some m ≡ oldest number b → waits number (taken number b) < waits number b
takes-fewer number b m e = subst (λ (o : Option (List ReplyMessage)). count_in o < waits number b)
    (sym (at-own (drop 1) number b.waiting)) (fewer-of (get b.waiting number) m e)
