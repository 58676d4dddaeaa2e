-- Workers and threads, handed from one list to another.
use Rattle.std.proofs.Common.{◌≡◌, ℕ, ◌+◌, List, [], ◌∷◌, ◌++◌, Some, All, ap, arith, sym, subst}
use Rattle.std.proofs.lemmas.List.Elements.{All-push, All-pop}
use Rattle.depot_rule.specs.Sums.{total}
use Rattle.depot_rule.specs.lemmas.Sums.{total-append}

-- the last of one list becomes the last of another
pub handed : {X Y : Type 0} → (f : X → ℕ) (g : Y → ℕ) (xs ys : List X) (hs rest : List Y) (y : X) (h : Y)
    → ys ≡ xs ++ y ∷ [] → hs ≡ rest ++ h ∷ [] → f y ≡ g h → total f ys + total g rest ≡ total f xs + total g hs
handed f g xs ys hs rest y h is was same =
    let a = ap (total f) is in
    let b = total-append f xs (y ∷ []) in
    let c = ap (total g) was in
    let d = total-append g rest (h ∷ []) in
    omega (arith, a, b, c, d, same)

pub all-pushed : {X : Type 0} → (P : X → Type 0) (xs ys : List X) (y : X) → ys ≡ xs ++ y ∷ [] → All P xs → P y → All P ys
all-pushed P xs ys y is all one = subst (All P) (sym is) (All-push P xs y all one)

pub all-popped : {X : Type 0} → (P : X → Type 0) (xs rest : List X) (x : X) → xs ≡ rest ++ x ∷ [] → All P xs → All P rest × P x
all-popped P xs rest x is all = All-pop P xs rest (Some x) is all
