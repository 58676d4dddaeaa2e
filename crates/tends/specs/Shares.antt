-- What workers and passes come to, added up.
use Rattle.std.specs.Prelude.{◌≡◌, ◌≤◌, ℕ, ◌+◌, ◌^◌, List}
use Rattle.nfs_model.specs.Parts.{Hand}
use Rattle.affinity.specs.declared.layout.Layout.{Layout}
use Rattle.depot_rule.specs.Sums.{total}
use Rattle.filer_state.specs.state.Jobs.{batches_in}
use Rattle.granted_calls.specs.shared_waiting.Balance.{part}
use Rattle.granted_calls.specs.shared_waiting.Passes.{known}
use Rattle.granted_calls.specs.declared.shared_waiting.pass.Pass.{Pass}
use Rattle.granted_calls.specs.Messages.{Message}
use Rattle.turns.specs.declared.worker.Worker.{Worker}
use Rattle.granted_calls.specs.Balance.{FilerEntry, Passed, Weight, by_key, by_kept}
use Rattle.turns.specs.Words.{entries_in, passed}

-- a pass of a filer's queue
abbrev pub FilerPass : Type 0
FilerPass = Pass Message Layout

-- ---- shares of the right to know the whole queue, counted in parts of 1 / 2^k

abbrev pub share_of : ℕ → Worker → ℕ
share_of k w = part k (passed w)

abbrev pub share_in : ℕ → FilerPass → ℕ
share_in k p = part k (known p)

-- with what this one has, the shares of these workers and passes are the whole
abbrev pub AreAllWith : Passed → List Worker → List FilerPass → Type 0
AreAllWith v ws ps = (level : ℕ) × ((k : ℕ) → level ≤ k → part k v + (total (share_of k) ws + total (share_in k) ps) ≡ 2 ^ k)

-- no pass is missing: the shares of these workers and passes are the whole
abbrev pub AreAll : List Worker → List FilerPass → Type 0
AreAll ws ps = (level : ℕ) × ((k : ℕ) → level ≤ k → total (share_of k) ws + total (share_in k) ps ≡ 2 ^ k)

-- ---- messages, weighed

abbrev pub put_by : Weight → FilerPass → ℕ
put_by weight p = total (by_key weight) (known p).put

abbrev pub picked_by : Weight → FilerPass → ℕ
picked_by weight p = total (by_key weight) (known p).picked

abbrev pub kept_by : Weight → Worker → ℕ
kept_by weight w = by_kept weight w.kept

-- ---- batches in hands, weighed

abbrev pub carried_by : (Hand → ℕ) → Worker → ℕ
carried_by weigh w = total weigh (batches_in w.hand)

-- ---- what workers have done, weighed

-- the calls that a worker's seat finished
abbrev pub entries_by : (FilerEntry → ℕ) → Worker → ℕ
entries_by weigh w = total weigh (entries_in w)

-- the messages that its pass put
abbrev pub puts_by : (Message → ℕ) → Worker → ℕ
puts_by weigh w = total weigh (passed w).put

-- the messages that its pass picked
abbrev pub picks_by : (Message → ℕ) → Worker → ℕ
picks_by weigh w = total weigh (passed w).picked
