-- Bytes that are read, one read after another.
use Rattle.std.proofs.Common.{◌≡◌, ℕ, List, [], ◌++◌, refl, sym, ap, ◌∙◌, append_assoc, append-nil}
use Rattle.connections.specs.Incoming.{Incoming, Untold, Unread, GivenSoFar, Gives, GivesNone}

pub gives-none : (a : Incoming) → Gives a a []
gives-none Untold = tt
gives-none (Unread xs) = refl
gives-none (GivenSoFar xs) = sym (append-nil xs)

pub gives-none-still : (a : Incoming) → GivesNone a a
gives-none-still Untold = tt
gives-none-still (Unread xs) = refl
gives-none-still (GivenSoFar xs) = refl

pub gives-more : (a b c : Incoming) (bs cs : List ℕ) → Gives a b bs → Gives b c cs → Gives a c (bs ++ cs)
gives-more Untold b c bs cs p q = tt
gives-more (Unread x) Untold c bs cs p q = absurd p
gives-more (Unread x) (Unread y) Untold bs cs p q = absurd q
gives-more (Unread x) (Unread y) (Unread z) bs cs p q = p ∙ ap (λ l. bs ++ l) q ∙ sym (append_assoc bs cs z)
gives-more (Unread x) (Unread y) (GivenSoFar z) bs cs p q = absurd q
gives-more (Unread x) (GivenSoFar y) c bs cs p q = absurd p
gives-more (GivenSoFar x) Untold c bs cs p q = absurd p
gives-more (GivenSoFar x) (Unread y) c bs cs p q = absurd p
gives-more (GivenSoFar x) (GivenSoFar y) Untold bs cs p q = absurd q
gives-more (GivenSoFar x) (GivenSoFar y) (Unread z) bs cs p q = absurd q
gives-more (GivenSoFar x) (GivenSoFar y) (GivenSoFar z) bs cs p q = q ∙ ap (λ l. l ++ cs) p ∙ append_assoc x bs cs

pub gives-kept : (a b c : Incoming) (bs : List ℕ) → Gives a b bs → GivesNone b c → Gives a c bs
gives-kept Untold b c bs p q = tt
gives-kept (Unread x) Untold c bs p q = absurd p
gives-kept (Unread x) (Unread y) Untold bs p q = absurd q
gives-kept (Unread x) (Unread y) (Unread z) bs p q = p ∙ ap (λ l. bs ++ l) (sym q)
gives-kept (Unread x) (Unread y) (GivenSoFar z) bs p q = absurd q
gives-kept (Unread x) (GivenSoFar y) c bs p q = absurd p
gives-kept (GivenSoFar x) Untold c bs p q = absurd p
gives-kept (GivenSoFar x) (Unread y) c bs p q = absurd p
gives-kept (GivenSoFar x) (GivenSoFar y) Untold bs p q = absurd q
gives-kept (GivenSoFar x) (GivenSoFar y) (Unread z) bs p q = absurd q
gives-kept (GivenSoFar x) (GivenSoFar y) (GivenSoFar z) bs p q = q ∙ p
