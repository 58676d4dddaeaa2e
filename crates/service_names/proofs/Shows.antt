-- A file as it is shown.
use Rattle.std.proofs.Common.{◌≡◌, ℕ, ◌*◌, List, Option, Some, None, refl, ◌∙◌}
use Rattle.nfs_model.specs.Types.{Moment, Shown, Regular}
use Rattle.nfs_model.specs.Server.{Attributes, block_size}
use Rattle.nfs_model.specs.Shown.{effective_attributes}
use Rattle.nfs_model.specs.volume.Inodes.{RegularFile}
use Rattle.filer_state.specs.state.Changes.{shown_kind}

-- by what an empty file with the attributes that hold would show
pub file-shown : (v f : ℕ) (a now : Attributes) (touch : Option Moment) (names size filled : ℕ) (verifier : Option (List ℕ)) (empty : Shown)
    → now ≡ effective_attributes touch a → empty ≡ shown_kind v f now 1 (RegularFile 0 0 None) None
    → record empty { kind = Regular; links = names; size = size; used = block_size * filled }
    ≡ shown_kind v f a names (RegularFile size filled verifier) touch
file-shown v f a now touch names size filled verifier empty same is =
    (λ j. record (is j) { kind = Regular; links = names; size = size; used = block_size * filled })
    ∙ (λ j. record (shown_kind v f (same j) 1 (RegularFile 0 0 None) None) { kind = Regular; links = names; size = size; used = block_size * filled })
    ∙ by touch
  where
    by : (t : Option Moment)
        → record (shown_kind v f (effective_attributes t a) 1 (RegularFile 0 0 None) None) {
          kind = Regular;
          links = names;
          size = size;
          used = block_size * filled;
        } ≡ shown_kind v f a names (RegularFile size filled verifier) t
    by None = refl
    by (Some moment) = refl
