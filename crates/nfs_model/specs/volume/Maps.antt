-- Changes of a finite map's values.
use Rattle.std.specs.Prelude.{map, Option, Some, None}
use Rattle.std.specs.declared.cmp.Ordering.{Ordering}
use Rattle.std.specs.FinMap.{FinMap, from_entries, entries, get, insert}

-- a map with g of its key and value at each key
unfoldable pub map_values : {K X Y : Type 0} {R : K → K → Ordering} → (K → X → Y) → FinMap R X → FinMap R Y
map_values {K} {X} {Y} {R} g m = from_entries {R = R} (map (λ (e : K × X). (e.0, g e.0 e.1)) (entries m))

-- a value changed, if there is one
abbrev pub changed_value : {K X : Type 0} {R : K → K → Ordering} → (X → X) → Option X → K → FinMap R X → FinMap R X
changed_value g None key m = m
changed_value g (Some x) key m = insert m key (g x)

-- the value at a key changed, where the key has one
abbrev pub changed_at : {K X : Type 0} {R : K → K → Ordering} → (X → X) → K → FinMap R X → FinMap R X
changed_at g key m = changed_value g (get m key) key m
