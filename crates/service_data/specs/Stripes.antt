-- The stripes that are held under Logical.
use Rattle.std.specs.Prelude.{◌≡◌, ℕ, ◌<◌, ◌≤◌, true, is_some}
use Rattle.filer_state.specs.state.Sets.{FilerLogical, placed}

-- there are from 1 to 16, each in its place
pub record HasStripes {P : Type 0} (held : FilerLogical P) : Type 0 where
  pub some : 0 < held.own.stripes
  pub few : held.own.stripes ≤ 16
  pub there : (i : ℕ) → i < held.own.stripes → is_some (placed held.stripes.at i) ≡ true
