-- What is written piece by piece.
use Rattle.std.proofs.Common.{◌≡◌, ℕ, ◌+◌, ◌<◌, List, ◌++◌, length, get_or, drop, map, ap, sym, ◌∙◌, append_assoc, add-one}
use Rattle.std.proofs.Math.Seq.{drop-cons}
use Rattle.xdr.specs.Shape.{word, linked}

-- two pieces
pub joined_two : (out a n x y : List ℕ) → a ≡ out ++ x → n ≡ a ++ y → n ≡ out ++ (x ++ y)
joined_two out a n x y first second = second ∙ ap (λ l. l ++ y) first ∙ append_assoc out x y

-- four pieces
pub joined_four : (out a b c n x y z w : List ℕ) → a ≡ out ++ x → b ≡ a ++ y → c ≡ b ++ z → n ≡ c ++ w → n ≡ out ++ (x ++ (y ++ (z ++ w)))
joined_four out a b c n x y z w first second third fourth =
    let end : n ≡ b ++ (z ++ w) = joined_two b c n z w third fourth in
    let middle : n ≡ a ++ (y ++ (z ++ w)) = joined_two a b n y (z ++ w) second end in
    joined_two out a n x (y ++ (z ++ w)) first middle

-- a list that is linked goes on with the element at its front
pub linked-drop : {A B : Type 0} (spell : B → List ℕ) (view : A → B) (xs : List A) (i : ℕ) (d : A) → i < length xs
    → linked spell (map view (drop i xs)) ≡ word 1 ++ (spell (view (get_or xs i d)) ++ linked spell (map view (drop (i + 1) xs)))
linked-drop spell view xs i d within =
    ap (λ l. linked spell (map view l)) (drop-cons xs i d within)
    ∙ ap (λ j. word 1 ++ (spell (view (get_or xs i d)) ++ linked spell (map view (drop j xs)))) (sym (add-one i))

-- an element is written behind TRUE, and then what is left
pub linked_goes_on : {A B : Type 0} (spell : B → List ℕ) (view : A → B) (xs : List A) (i : ℕ) (d : A) (out a n whole : List ℕ) → i < length xs
    → a ≡ out ++ word 1 → n ≡ a ++ spell (view (get_or xs i d))
    → out ++ linked spell (map view (drop i xs)) ≡ whole
    → n ++ linked spell (map view (drop (i + 1) xs)) ≡ whole
linked_goes_on spell view xs i d out a n whole within flag element so_far =
    let rest = linked spell (map view (drop (i + 1) xs)) in
    let piece = spell (view (get_or xs i d)) in
    ap (λ l. l ++ rest) (joined_two out a n (word 1) piece flag element)
    ∙ append_assoc out (word 1 ++ piece) rest
    ∙ ap (λ l. out ++ l) (append_assoc (word 1) piece rest)
    ∙ ap (λ l. out ++ l) (sym (linked-drop spell view xs i d within))
    ∙ so_far
