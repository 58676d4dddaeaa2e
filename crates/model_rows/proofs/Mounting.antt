-- MNT and EXPORT (RFC 1813 appendix I, sections 5.2.1 and 5.2.5) of eight volumes, the most that a layout has: `/vol0` to `/vol7` (our profile).
use Rattle.std.proofs.Common.{◌≡◌, ℕ, false, List, [], ◌∷◌, replicate, refl}
use Rattle.nfs_model.specs.Types.{Mount, MountCall, Mnt, Exports, Reply, Ask, Success, Failed, MountDone, ExportsDone, NoEntry}
use Rattle.nfs_model.specs.Tree.{VolumeLayout}
use Rattle.nfs_model.specs.Server.{opening, start_of_times, root_of_root}
use Rattle.nfs_model.specs.Serial.Step.{serial}
use Rattle.model_rows.proofs.Cases.{at, nobody, verifier}

abbrev one_range : VolumeLayout
one_range = record { aggregate = 0; ranges = 1; stripes = 8; mebibytes = 16; range_blocks = 1024; inodes = 65536; most_steps = 4; begun = start_of_times; root = root_of_root; remembered = 0 }

-- what MOUNT answers of eight volumes
abbrev mounting : MountCall → Reply
mounting call = (serial (opening (record { spare = 0 ∷ []; volumes = replicate 8 one_range }) verifier) (Ask (Mount call) nobody) (at 1) false).reply

-- `/vol` and a character
abbrev vol : ℕ → List ℕ
vol c = 0x2f ∷ 0x76 ∷ 0x6f ∷ 0x6c ∷ c ∷ []

-- the root of a volume
abbrev root_of : ℕ → List ℕ
root_of volume = 0 ∷ 0 ∷ 0 ∷ volume ∷ 0 ∷ 0 ∷ 0 ∷ 0 ∷ 0 ∷ 0 ∷ 0 ∷ 1 ∷ []

mount_of_the_first : mounting (Mnt (vol 0x30)) ≡ Success (MountDone (root_of 0))
mount_of_the_first = refl

mount_of_the_third : mounting (Mnt (vol 0x32)) ≡ Success (MountDone (root_of 2))
mount_of_the_third = refl

mount_of_the_seventh : mounting (Mnt (vol 0x36)) ≡ Success (MountDone (root_of 6))
mount_of_the_seventh = refl

mount_of_the_eighth : mounting (Mnt (vol 0x37)) ≡ Success (MountDone (root_of 7))
mount_of_the_eighth = refl

mount_of_a_ninth : mounting (Mnt (vol 0x38)) ≡ Success (Failed NoEntry 0)
mount_of_a_ninth = refl

eight_are_exported :
    mounting Exports
    ≡ Success (ExportsDone (vol 0x30 ∷ vol 0x31 ∷ vol 0x32 ∷ vol 0x33 ∷ vol 0x34 ∷ vol 0x35 ∷ vol 0x36 ∷ vol 0x37 ∷ []))
eight_are_exported = refl
