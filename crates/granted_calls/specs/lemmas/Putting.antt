-- Answers that are put into the outboxes add up.
use Rattle.std.proofs.Common.{◌≡◌, refl, ap, ◌∙◌, sym, List, [], ◌∷◌, ◌++◌}
use Rattle.outboxes.specs.Boxes.{Addressed, Boxes, put}
use Rattle.granted_calls.specs.Chains.{puts, HasPutAll}

puts-append : (xs ys : List Addressed) (b : Boxes) → puts (xs ++ ys) b ≡ puts ys (puts xs b)
puts-append [] ys b = refl
puts-append (x ∷ xs) ys b = puts-append xs ys (put x b)

pub put_none : (b : Boxes) → HasPutAll b [] b
put_none b = refl

pub put_more : (b c d : Boxes) (xs ys : List Addressed) → HasPutAll b xs c → HasPutAll c ys d → HasPutAll b (xs ++ ys) d
put_more b c d xs ys one two = two ∙ ap (puts ys) one ∙ sym (puts-append xs ys b)
