-- Seats: what one view is said of, and what becomes of views where seats part, join or meet.
use Rattle.std.specs.Prelude.{ℕ, ◌+◌, ◌-◌, Bool, true, false, nat_lt, List, [], ◌∷◌, ◌++◌, map, length, replicate, Option, Some, None}
use Rattle.depot_rule.specs.declared.view.View.{View}
use Rattle.depot_rule.specs.Shares.{opening_view}

abbrev pub if_less : {A : Type 0} → Bool → A → A → A
if_less true less others = less
if_less false less others = others

-- the longer of two lists
abbrev pub longer : {A : Type 0} → List A → List A → List A
longer xs ys = if_less (nat_lt (length xs) (length ys)) ys xs

-- of two lists by node, what stands in the first, else in the second
abbrev pub either_held : {A : Type 0} → Option A → Option A → Option A
either_held None y = y
either_held (Some x) y = Some x

abbrev pub both_held : {A : Type 0} → List (Option A) → List (Option A) → List (Option A)
both_held [] ys = ys
both_held (x ∷ xs) [] = x ∷ xs
both_held (x ∷ xs) (y ∷ ys) = either_held x y ∷ both_held xs ys

-- a number put into an ascending list, and two such lists as one
abbrev pub put_among : ℕ → List ℕ → List ℕ
put_among x [] = x ∷ []
put_among x (y ∷ ys) = if_less (nat_lt y x) (y ∷ put_among x ys) (x ∷ y ∷ ys)

abbrev pub in_order : List ℕ → List ℕ → List ℕ
in_order [] ys = ys
in_order (x ∷ xs) ys = put_among x (in_order xs ys)

module _ {P E : Type 0} where
  -- P of the view of a seat that has one
  abbrev pub OnOne : (View P E → Type 0) → List (View P E) → Type 0
  OnOne Q [] = Unit {0}
  OnOne Q (v ∷ []) = Q v
  OnOne Q (v ∷ u ∷ us) = Unit {0}

  -- the view of a seat that has one
  abbrev pub view_of : List (View P E) → View P E
  view_of [] = opening_view [] []
  view_of (v ∷ vs) = v

  -- a seat that parts has one part less; the other gets one part, nothing open, and has seen the same
  abbrev pub parted : List (View P E) → List (View P E)
  parted [] = []
  parted (v ∷ vs) = record v { parts = v.parts - 1 } ∷ vs

  abbrev pub fresh : View P E → View P E
  fresh v = record v {
    parts = 1;
    unsure = 0;
    looked = 0;
    stamped = 0;
    path = [];
    held = replicate (length v.tree) None;
    out = 0;
    gone = [];
    reads = [];
    mine = [];
  }

  abbrev pub fresh_of : List (View P E) → List (View P E)
  fresh_of [] = []
  fresh_of (v ∷ vs) = fresh v ∷ []

  -- two views between calls as one. A right to an entry is dropped; the second has nothing entered, out or stamped
  abbrev pub merge : View P E → View P E → View P E
  merge v w = record v {
    parts = v.parts + w.parts;
    looked = 0;
    held = both_held v.held w.held;
    gone = v.gone ++ w.gone;
    reads = v.reads ++ w.reads;
    seen = longer v.seen w.seen;
    mine = in_order v.mine w.mine;
  }

  abbrev pub merged : List (View P E) → List (View P E) → List (View P E)
  merged [] ws = ws
  merged (v ∷ vs) [] = v ∷ vs
  merged (v ∷ vs) (w ∷ ws) = merge v w ∷ (vs ++ ws)

  -- of two seats that met, each with the longer history of the two: the one, and the other
  abbrev pub having_seen : List E → View P E → View P E
  having_seen es v = record v { seen = es }

  abbrev pub longest : List (View P E) → List E
  longest [] = []
  longest (v ∷ []) = v.seen
  longest (v ∷ w ∷ us) = longer v.seen w.seen

  abbrev pub first_told : List E → List (View P E) → List (View P E)
  first_told es [] = []
  first_told es (v ∷ vs) = having_seen es v ∷ []

  abbrev pub others_told : List E → List (View P E) → List (View P E)
  others_told es [] = []
  others_told es (v ∷ vs) = map (having_seen es) vs

  abbrev pub first_of : List (View P E) → List (View P E)
  first_of vs = first_told (longest vs) vs

  abbrev pub others_of : List (View P E) → List (View P E)
  others_of vs = others_told (longest vs) vs
