-- The grants of one seat are apart.
use Rattle.std.proofs.Common.{◌≡◌, ◌≢◌, ℕ, List, [], ◌∷◌, replicate, set, sym, ◌∙◌, subst, ⊎_elim, Option, Some, None}
use mathlib.Core.Option.{some}
use lib.ListN.{get_elem?}
use Rattle.atomic_table.proofs.Lists.{at_set}
use Rattle.depot_rule.specs.declared.view.View.{View}
use Rattle.affinity.specs.Ancestors.{Excludes}
use Rattle.depot_rule.specs.Seats.{both_held}
use Rattle.depot_rule.specs.lemmas.Trees.{excludes-back}
use Rattle.depot_rule.proofs.Joining.{none-held, held-of}
use Rattle.depot.specs.Calls.{known}
use Rattle.depot.specs.Holds.{IsApart}

module _ {G : Type 0} (ps : List ℕ) where
  -- no grant of the list excludes another
  abbrev pub Apart : List (Option G) → Type 0
  Apart held = (b c : ℕ) (g h : G) → get_elem? held b ≡ some (Some g) → get_elem? held c ≡ some (Some h) → Excludes ps b c → b ≡ c

  -- a grant more, which none of the list excludes
  pub more-apart : (held : List (Option G)) (b : ℕ) (g : G) → ((c : ℕ) (h : G) → get_elem? held c ≡ some (Some h) → Excludes ps b c → ⊥) → Apart held
      → Apart (set held b (Some g))
  more-apart held b g none before x y p q hx hy ex = ⊎_elim
      (λ (t : (x ≡ b) × (Some g ≡ Some p)). ⊎_elim
      (λ (u : (y ≡ b) × (Some g ≡ Some q)). t.0 ∙ sym u.0)
      (λ (u : (y ≢ b) × (get_elem? held y ≡ some (Some q))). absurd (none y q u.1 (subst (λ (n : ℕ). Excludes ps n y) t.0 ex)))
      (at_set held b y (Some g) (Some q) hy))
      (λ (t : (x ≢ b) × (get_elem? held x ≡ some (Some p))). ⊎_elim
      (λ (u : (y ≡ b) × (Some g ≡ Some q)). absurd (none x p t.1 (excludes-back ps x b (subst (λ (n : ℕ). Excludes ps x n) u.0 ex))))
      (λ (u : (y ≢ b) × (get_elem? held y ≡ some (Some q))). before x y p q t.1 u.1 ex)
      (at_set held b y (Some g) (Some q) hy))
      (at_set held b x (Some g) (Some p) hx)

  -- a grant that stays, or is no more
  still-held : (held : List (Option G)) (b x : ℕ) (o : Option G) (p : G) → ((g : G) → o ≡ Some g → (f : G) × (get_elem? held b ≡ some (Some f)))
      → get_elem? (set held b o) x ≡ some (Some p) → (f : G) × (get_elem? held x ≡ some (Some f))
  still-held held b x o p was h = ⊎_elim
      (λ (t : (x ≡ b) × (o ≡ Some p)). let f = was p t.1 in (f.0, subst (λ (n : ℕ). get_elem? held n ≡ some (Some f.0)) (sym t.0) f.1))
      (λ (t : (x ≢ b) × (get_elem? held x ≡ some (Some p))). (p, t.1))
      (at_set held b x o (Some p) h)

  set-apart : (held : List (Option G)) (b : ℕ) (o : Option G) → ((g : G) → o ≡ Some g → (f : G) × (get_elem? held b ≡ some (Some f))) → Apart held
      → Apart (set held b o)
  set-apart held b o was before x y p q hx hy ex =
      let s = still-held held b x o p was hx in let t = still-held held b y o q was hy in before x y s.0 t.0 s.1 t.1 ex

  pub less-apart : (held : List (Option G)) (b : ℕ) → Apart held → Apart (set held b None)
  less-apart held b before = set-apart held b None (λ g e. let no_way : ⊥ = cc in absurd no_way) before

  pub again-apart : (held : List (Option G)) (b : ℕ) (f g : G) → get_elem? held b ≡ some (Some f) → Apart held → Apart (set held b (Some g))
  again-apart held b f g here before = set-apart held b (Some g) (λ h e. (f, here)) before

  pub none-apart : (n : ℕ) → Apart (replicate n None)
  none-apart n b c g h has = absurd (none-held n b g has)

  -- the grants of two seats
  pub both-apart : (xs ys : List (Option G)) → Apart xs → Apart ys
      → ((b c : ℕ) (g h : G) → get_elem? xs b ≡ some (Some g) → get_elem? ys c ≡ some (Some h) → Excludes ps b c → ⊥) → Apart (both_held xs ys)
  both-apart xs ys mine others cross b c g h hb hc ex = ⊎_elim
      (λ (t : get_elem? xs b ≡ some (Some g)). ⊎_elim
      (λ (u : get_elem? xs c ≡ some (Some h)). mine b c g h t u ex)
      (λ (u : get_elem? ys c ≡ some (Some h)). absurd (cross b c g h t u ex))
      (held-of xs ys c h hc))
      (λ (t : get_elem? ys b ≡ some (Some g)). ⊎_elim
      (λ (u : get_elem? xs c ≡ some (Some h)). absurd (cross c b h g u t (excludes-back ps b c ex)))
      (λ (u : get_elem? ys c ≡ some (Some h)). others b c g h t u ex)
      (held-of xs ys c h hc))
      (held-of xs ys b g hb)

module _ {P E : Type 0} where
  -- a seat between two calls, of whose views this is known
  pub apart-of : {views : List (List (View P E))} (u : View P E) → views ≡ (u ∷ []) ∷ [] → IsApart u → IsApart (known views)
  apart-of u is h = subst (λ l. IsApart (known l)) (sym is) h
