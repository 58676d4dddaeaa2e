-- Bytes taken one after another, with more to come.
use Rattle.std.specs.Prelude.{◌≡◌, ℕ, List, [], ◌∷◌, take, Option, Some, None}
use Rattle.nfs_model.specs.World.{Setup, World}
use Rattle.nfs_model.specs.Events.Feed.{feeding}
use Rattle.nfs_laws.specs.Walk.{reached, Takes, Walks}
use Rattle.engine_feed.specs.declared.stop.Stop.{Stop}
use Rattle.engine_feed.specs.Numbers.{stop_number}

-- all of these bytes are taken, and taking goes on
abbrev pub TakesAll : Setup → ℕ → World → List ℕ → World → Type 0
TakesAll setup c w [] new = new ≡ w
TakesAll setup c w (b ∷ bytes) new = (middle : World) × Takes setup w c b (reached setup w c b) middle × TakesAll setup c middle bytes new

-- what part of a feed comes to: bytes are taken and more may follow, or taking stopped
abbrev pub FeedsPart : Setup → ℕ → World → List ℕ → ℕ → Option Stop → World → Type 0
FeedsPart setup c w bytes taken None new = TakesAll setup c w (take taken bytes) new
FeedsPart setup c w bytes taken (Some stop) new = Walks setup (feeding c bytes taken (stop_number stop)) w new
