-- What a pass of a shared queue knows, and the rule over all passes: what went in came out or is there, and fits the queue's key (our profile).
use Rattle.std.specs.Prelude.{◌≡◌, ◌≤◌, ◌<◌, ℕ, ◌+◌, ◌*◌, ◌-◌, ◌^◌, List, [], ◌∷◌, ◌++◌, length, drop, Option, Some, None}
use mathlib.Core.Option.{some}
use lib.ListN.{get_elem?}
use Rattle.depot_rule.specs.Sums.{total}
use Rattle.granted_calls.specs.declared.shared_waiting.view.View.{View}

module _ {T K : Type 0} where
  -- ---- what a pass knows

  -- it has this many parts of 1 / 2^halvings of the right to know the whole, has put and picked these, and knows the queue's key
  abbrev pub viewed : ℕ → ℕ → List T → List T → Option K → View T K
  viewed parts halvings put picked key = record { share = parts; halvings = halvings; put = put; picked = picked; key = key }

  -- the only pass of a new queue, whose key isn't fixed yet
  abbrev pub opening : View T K
  opening = viewed 1 0 [] [] None

  -- a pass that was joined to another
  abbrev pub spent : View T K
  spent = viewed 0 0 [] [] None

  -- with a key
  abbrev pub keyed : Option K → View T K → View T K
  keyed key v = record v { key = key }

  -- with a message more that it has put
  abbrev pub added : View T K → T → View T K
  added v x = record v { put = v.put ++ x ∷ [] }

  -- with a message more that it has picked
  abbrev pub taken : View T K → T → View T K
  taken v x = record v { picked = v.picked ++ x ∷ [] }

  -- the first of two passes that it is cut in has half of its share, and what it has put and picked
  abbrev pub left : View T K → View T K
  left v = record v { halvings = v.halvings + 1 }

  -- the second has the other half, and has put and picked nothing
  abbrev pub right : View T K → View T K
  right v = viewed v.share (v.halvings + 1) [] [] v.key

  -- two passes joined, with the key of the first
  abbrev pub both : View T K → View T K → View T K
  both v w = viewed (v.share * 2 ^ w.halvings + w.share * 2 ^ v.halvings) (v.halvings + w.halvings) (v.put ++ w.put) (v.picked ++ w.picked) v.key

  -- ---- two passes of one owner

  -- a pass that took in another and was parted from it: it has its share, and what was put and picked since beside what it had
  abbrev pub grown : View T K → View T K → View T K → View T K
  grown own other v = record own {
    put = own.put ++ drop (length (own.put ++ other.put)) v.put;
    picked = own.picked ++ drop (length (own.picked ++ other.picked)) v.picked;
  }

  -- a pass that took in another has what both had, and what was put and picked since
  pub record HasGrown (own other v : View T K) : Type 0 where
    pub share : v.share ≡ (both own other).share
    pub halvings : v.halvings ≡ (both own other).halvings
    pub key : v.key ≡ own.key
    pub more_put : List T
    pub put : v.put ≡ (own.put ++ other.put) ++ more_put
    pub more_picked : List T
    pub picked : v.picked ≡ (own.picked ++ other.picked) ++ more_picked

  -- ---- the whole

  -- its share, counted in parts of 1 / 2^k
  abbrev pub part : ℕ → View T K → ℕ
  part k v = v.share * 2 ^ (k - v.halvings)

  -- it has all of the share
  abbrev pub IsWhole : View T K → Type 0
  IsWhole v = v.share ≡ 2 ^ v.halvings

  -- where it is the only one, what it has put is, as often, what it has picked and these messages, however messages are weighed
  abbrev pub Leaves : View T K → List T → Type 0
  Leaves v items = IsWhole v → (weigh : T → ℕ) → total weigh v.put ≡ total weigh v.picked + total weigh items

module _ {T K : Type 0} (Fits : K → T → Type 0) where
  -- a message fits the key, once that is fixed
  abbrev pub FitsIn : Option K → T → Type 0
  FitsIn None x = ⊥
  FitsIn (Some key) x = Fits key x

  abbrev pub AllFit : Option K → List T → Type 0
  AllFit key [] = Unit {0}
  AllFit key (x ∷ xs) = FitsIn key x × AllFit key xs

  -- The rule over all passes: their shares are one whole; what all have put is, as often, what all have picked and what is there;
  -- a pass without a share has put and picked nothing; each pass that has one knows the key, which all that is there fits.
  pub record Balanced (items : List T) (views : List (View T K)) : Type 0 where
    pub level : ℕ
    pub whole : (k : ℕ) → level ≤ k → total (part k) views ≡ 2 ^ k
    pub even : (weigh : T → ℕ)
        → total (λ (v : View T K). total weigh v.put) views ≡ total (λ (v : View T K). total weigh v.picked) views + total weigh items
    pub idle : (port : ℕ) (v : View T K) → get_elem? views port ≡ some v → v.share ≡ 0 → (v.put ≡ []) × (v.picked ≡ [])
    pub key : Option K
    pub same : (port : ℕ) (v : View T K) → get_elem? views port ≡ some v → 0 < v.share → v.key ≡ key
    pub fit : AllFit key items
