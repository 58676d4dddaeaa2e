-- What a device tells of the bytes that are read of it.
use Rattle.std.specs.Prelude.{◌≡◌, ℕ, ⊤, List, [], ◌++◌}

-- nothing; the bytes that reads will give, where they are known before; or those that reads gave so far
pub data Incoming : Type 0 where
  Untold : Incoming
  Unread : (bytes : List ℕ) → Incoming
  GivenSoFar : (bytes : List ℕ) → Incoming

-- these bytes were read
abbrev pub Gives : Incoming → Incoming → List ℕ → Type 0
Gives Untold new bytes = ⊤
Gives (Unread xs) Untold bytes = ⊥
Gives (Unread xs) (Unread ys) bytes = xs ≡ bytes ++ ys
Gives (Unread xs) (GivenSoFar ys) bytes = ⊥
Gives (GivenSoFar xs) Untold bytes = ⊥
Gives (GivenSoFar xs) (Unread ys) bytes = ⊥
Gives (GivenSoFar xs) (GivenSoFar ys) bytes = ys ≡ xs ++ bytes

-- none was
abbrev pub GivesNone : Incoming → Incoming → Type 0
GivesNone Untold new = ⊤
GivesNone (Unread xs) Untold = ⊥
GivesNone (Unread xs) (Unread ys) = ys ≡ xs
GivesNone (Unread xs) (GivenSoFar ys) = ⊥
GivesNone (GivenSoFar xs) Untold = ⊥
GivesNone (GivenSoFar xs) (Unread ys) = ⊥
GivesNone (GivenSoFar xs) (GivenSoFar ys) = ys ≡ xs

-- none is left, where that is known before
abbrev pub IsAllRead : Incoming → Type 0
IsAllRead Untold = ⊤
IsAllRead (Unread xs) = xs ≡ []
IsAllRead (GivenSoFar xs) = ⊤
