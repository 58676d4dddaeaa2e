use Rattle.std.proofs.Common.{◌≡◌, ◌-◌, ◌^◌, ◌++◌, drop, replicate}
use Rattle.vbn_ranges.proofs.levels.fill_words.Given as goal

-- the first words are full, and the others as they were
abbrev pub invariant-loop-place : goal.invariant-loop-place
invariant-loop-place l = l.words.items ≡ replicate l.place (2 ^ 64 - 1) ++ drop l.place l.fn.words.items
