-- What is refused by what is under Logical is what the serial server refuses.
use Rattle.std.specs.Prelude.{◌≡◌, ℕ}
use Rattle.nfs_model.specs.Types.{Call, Caller}
use Rattle.nfs_model.specs.Serial.Permission.{refusal}
use Rattle.filer_state.specs.state.Contents.{VolumeContents}
use Rattle.filer_state.specs.state.Tree.{volume_of}
use Rattle.filer_state.specs.state.Lenses.{logical_lens}
use Rattle.filer_state.specs.permissions.Refusing.{refusal_held}

abbrev pub RefusalsAreRight : Type 0
RefusalsAreRight = (p : VolumeContents) (caller : Caller) (call : Call) (fileid other : ℕ)
    → refusal caller call (volume_of p) fileid other ≡ refusal_held caller call (logical_lens.of p) fileid other
