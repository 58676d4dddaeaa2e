-- Touches, counted by classes of fileids.
use Rattle.std.specs.Prelude.{◌≡◌, ℕ, ◌+◌, ◌-◌, ◌%◌, ◌<◌, ◌≤◌, ◌==◌, ◌&&◌, not, nat_lt, Bool, false, List, [], ◌∷◌, length, Option, Some, None, is_some}
use Rattle.std.specs.Prelude.{get_or, if◌then◌else◌}
use Rattle.std.specs.Ordering.{nat_cmp}
use Rattle.std.specs.FinMap.{FinMap, entries}
use Rattle.nfs_model.specs.volume.Stripes.{Card, OfFile, OfDirectory, touch_of}
use Rattle.chunk_maps.specs.Chunks.{one_if}

-- whether a card is there, of a file without a touch
abbrev pub is_untouched : Option Card → Bool
is_untouched (Some (OfFile size touch owner)) = not (is_some touch)
is_untouched (Some OfDirectory) = false
is_untouched None = false

-- how many touches of a class are on the card of a fileid
abbrev pub touches_on : ℕ → ℕ → Option Card → ℕ
touches_on class fileid card = one_if ((class == fileid % 256) && is_some (touch_of card))

-- and on these cards
abbrev pub touched_in : ℕ → List (ℕ × Card) → ℕ
touched_in class [] = 0
touched_in class (e ∷ es) = touches_on class e.0 (Some e.1) + touched_in class es

-- Each class has a count, and where it is below 255 there are no more touches.
pub record AreCounted (counts : List ℕ) (cards : FinMap nat_cmp Card) : Type 0 where
  pub size : length counts ≡ 256
  pub most : (class : ℕ) → class < 256 → get_or counts class 0 < 255 → touched_in class (entries cards) ≤ get_or counts class 0

abbrev pub one_more : ℕ → ℕ
one_more n = if nat_lt n 255 then n + 1 else n

abbrev pub one_less : ℕ → ℕ
one_less n = if nat_lt n 255 then n - 1 else n

-- the count of a class changes
pub record ChangesCount (f : ℕ → ℕ) (class : ℕ) (old new : List ℕ) : Type 0 where
  pub size : length new ≡ length old
  pub counts : (q : ℕ) → get_or new q 0 ≡ (if q == class then f (get_or old q 0) else get_or old q 0)
