-- Messages that wait, as one list in the order of arrival.
use Rattle.std.specs.Prelude.{◌≡◌, ◌≢◌, ℕ, ◌<◌, List, Option, Some, None}
use Rattle.std.specs.List.{slice_get, remove}
use Rattle.affinity.specs.declared.affinity.CallNode.{CallNode}
use Rattle.scheduler.specs.declared.message.Message.{Message}

-- no message of a list, before a place, tries an affinity
abbrev pub NoneTries : {C : Type 0} → CallNode → List (Message C) → ℕ → Type 0
NoneTries {C} affinity list place = (p : ℕ) (m : Message C) → p < place → slice_get list p ≡ Some m → m.affinity ≢ affinity

-- a message of a list tries an affinity
pub record Tries {C : Type 0} (affinity : CallNode) (list : List (Message C)) (place : ℕ) (m : Message C) : Type 0 where
  pub there : slice_get list place ≡ Some m
  pub affinity_is : m.affinity ≡ affinity

-- the smallest place whose message tries an affinity; none where no message does
abbrev pub IsFirstOf : {C : Type 0} → CallNode → List (Message C) → Option ℕ → Type 0
IsFirstOf {C} affinity list None = (p : ℕ) (m : Message C) → slice_get list p ≡ Some m → m.affinity ≢ affinity
IsFirstOf {C} affinity list (Some place) = ((m : Message C) × Tries affinity list place m) × NoneTries affinity list place

-- the message at that place
abbrev pub IsFront : {C : Type 0} → CallNode → List (Message C) → Option (Message C) → Type 0
IsFront affinity list None = IsFirstOf affinity list None
IsFront affinity list (Some m) = (place : ℕ) × Tries affinity list place m × NoneTries affinity list place

-- the message at that place leaves the list
abbrev pub TakesFront : {C : Type 0} → CallNode → List (Message C) → Option (Message C) → List (Message C) → Type 0
TakesFront affinity old None new = IsFirstOf affinity old None × (new ≡ old)
TakesFront affinity old (Some m) new = (place : ℕ) × Tries affinity old place m × NoneTries affinity old place × (new ≡ remove old place)
