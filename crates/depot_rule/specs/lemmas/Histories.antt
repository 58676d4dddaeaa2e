-- Histories as lists: what an entry more does.
use Rattle.std.proofs.Common.{◌≡◌, ℕ, ◌+◌, List, [], ◌∷◌, ◌++◌, sym, refl, ap, ◌∙◌, arith, append_assoc, Option}
use Rattle.depot_rule.specs.declared.view.Entry.{Entry}
use Rattle.depot_rule.specs.Sums.{total}
use Rattle.depot_rule.specs.History.{put_in, after, Legal, batches_of, StartsWith}
use Rattle.depot_rule.specs.lemmas.Sums.{total-append}

module _ {P C R : Type 0} where
  pub after-snoc : (ps : List ℕ) (f : ℕ → Option P) (es : List (Entry P C R)) (e : Entry P C R) → after ps f (es ++ e ∷ []) ≡ put_in ps e (after ps f es)
  after-snoc ps f [] e = refl
  after-snoc ps f (d ∷ es) e = after-snoc ps (put_in ps d f) es e

  pub legal-snoc : (steps : List ℕ → ℕ → C → (ℕ → Option P) → R → (ℕ → Option P) → Type 0) (ps : List ℕ) (f : ℕ → Option P) (es : List (Entry P C R))
      (e : Entry P C R)
      → Legal steps ps f es → steps ps e.node e.call (after ps f es) e.reply (put_in ps e (after ps f es)) → Legal steps ps f (es ++ e ∷ [])
  legal-snoc steps ps f [] e l s = (s, tt)
  legal-snoc steps ps f (d ∷ es) e l s = (l.0, legal-snoc steps ps (put_in ps d f) es e l.1 s)

  -- batches of entries, and of one entry more
  pub moved-snoc : {B : Type 0} (batches : C → R → List B) (weigh : B → ℕ) (es : List (Entry P C R)) (e : Entry P C R)
      → total weigh (batches_of batches (es ++ e ∷ [])) ≡ total weigh (batches_of batches es) + total weigh (batches e.call e.reply)
  moved-snoc batches weigh [] e = let a = total-append weigh (batches e.call e.reply) [] in omega arith
  moved-snoc batches weigh (d ∷ es) e =
      let r = moved-snoc batches weigh es e in
      let a = total-append weigh (batches d.call d.reply) (batches_of batches (es ++ e ∷ [])) in
      let b = total-append weigh (batches d.call d.reply) (batches_of batches es) in omega arith

module _ {A : Type 0} where
  pub starts-itself : (xs : List A) → StartsWith xs xs
  starts-itself xs = ([], append-none xs)
    where
      append-none : {A : Type 0} (ys : List A) → ys ++ [] ≡ ys
      append-none [] = refl
      append-none (y ∷ ys) = ap (λ zs. y ∷ zs) (append-none ys)

  pub starts-more : (xs ys start : List A) → StartsWith xs start → StartsWith (xs ++ ys) start
  starts-more xs ys start s = (s.0 ++ ys, sym (append_assoc start s.0 ys) ∙ ap (λ zs. zs ++ ys) s.1)
