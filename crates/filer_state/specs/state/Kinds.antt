-- What is said of an inode's kind, and what changes it: the numbers of a file, or those of a directory. Nothing else has such numbers,
-- and it stays as it is.
use Rattle.std.specs.Prelude.{◌≡◌, ℕ, List, Option}
use Rattle.nfs_model.specs.volume.Inodes.{InodeKind, RegularFile, DirectoryKind}

-- a file's kind, with its size, the number of its blocks and the verifier of its exclusive creation
abbrev pub IsFile : InodeKind → ℕ → ℕ → Option (List ℕ) → Type 0
IsFile kind size filled verifier = kind ≡ RegularFile size filled verifier

-- a file's size changed, and the number of its blocks
abbrev pub file_changed : (ℕ → ℕ) → (ℕ → ℕ) → InodeKind → InodeKind
file_changed f g (RegularFile size filled verifier) = RegularFile (f size) (g filled) verifier
file_changed f g kind = kind

-- a directory's parent changed, and the number of its subdirectories
abbrev pub directory_changed : (ℕ → ℕ) → (ℕ → ℕ) → InodeKind → InodeKind
directory_changed f g (DirectoryKind parent subdirectories) = DirectoryKind (f parent) (g subdirectories)
directory_changed f g kind = kind
