-- What becomes of a map by fileids, key by key.
use Rattle.std.specs.Prelude.{◌≡◌, ℕ, Some, if◌then◌else◌}
use Rattle.std.specs.Option.{option_map}
use Rattle.std.specs.Ordering.{nat_cmp}
use Rattle.std.specs.BTreeMap as btree
use Rattle.std.specs.BTreeMap.{BTreeMap, is_at}

-- a map with a value put at a key
abbrev pub Puts : {X : Type 0} → ℕ → X → BTreeMap ℕ X → BTreeMap ℕ X → Type 0
Puts key x old new = (q : ℕ) → btree.get nat_cmp new q ≡ (if is_at (nat_cmp key) q then Some x else btree.get nat_cmp old q)

-- a map with the value at a key changed, where it has one
abbrev pub Changes : {X : Type 0} → (X → X) → ℕ → BTreeMap ℕ X → BTreeMap ℕ X → Type 0
Changes g key old new = (q : ℕ) → btree.get nat_cmp new q ≡
    (if is_at (nat_cmp key) q then option_map g (btree.get nat_cmp old q) else btree.get nat_cmp old q)
