-- What follows of an inode's kind from what it has, a size or a parent, and what stays where its numbers change. Lemmas of nodes and of
-- calls go by these, and not by each kind.
use Rattle.std.proofs.Common.{◌≡◌, ℕ, ◌+◌, ◌*◌, ◌==◌, Bool, true, false, List, length, Option, Some, None, refl, sym, ap, ◌∙◌}
use Rattle.std.proofs.lemmas.Bool.{eqb-true}
use Rattle.std.specs.Prelude.{is_some, if◌then◌else◌}
use Rattle.std.specs.Option.{option_map}
use Rattle.std.specs.Ordering.{nat_cmp}
use Rattle.std.specs.FinSet.{FinSet}
use Rattle.std.specs.FinSet as sets
use Rattle.nfs_model.specs.Types.{Moment}
use Rattle.nfs_model.specs.Server.{Attributes, Directory, VolumeState, block_size}
use Rattle.nfs_model.specs.Shown.{effective_attributes, shown, subdirectories}
use Rattle.nfs_model.specs.Serial.Rights.{ownership_of}
use Rattle.nfs_model.specs.volume.Directories.{DirectoryValue}
use Rattle.nfs_model.specs.volume.Inodes.{InodeKind, RegularFile, DirectoryKind, SpecialFile, filled_blocks}
use Rattle.nfs_model.specs.volume.Stripes.{StripeValue}
use Rattle.filer_state.specs.state.Tree.{directory_or_empty, text_or_empty, node_with, node_by}
use Rattle.filer_state.specs.state.Names.{size_in, parent_in, subdirectories_in, text_length_in}
use Rattle.filer_state.specs.state.Kinds.{directory_changed}
use Rattle.filer_state.specs.state.WellFormed.{owner_by}
use Rattle.filer_state.specs.state.Changes.{attributes_now, shown_kind}

-- ---- what it is, by what it has

-- what has a parent is a directory
pub directory-is : (k : InodeKind) (parent : ℕ) → parent_in k ≡ Some parent → (subs : ℕ) × (k ≡ DirectoryKind parent subs)
directory-is (DirectoryKind up subs) parent says = let same : up ≡ parent = cc in (subs, ap (λ (n : ℕ). DirectoryKind n subs) same)
directory-is kind parent says = absurd cc

-- what has a size is a file
pub file-is : (k : InodeKind) (size : ℕ) → size_in k ≡ Some size → (filled : ℕ) × (verifier : Option (List ℕ)) × (k ≡ RegularFile size filled verifier)
file-is (RegularFile own filled verifier) size says =
    let same : own ≡ size = cc in (filled, verifier, ap (λ (n : ℕ). RegularFile n filled verifier) same)
file-is kind size says = absurd cc

-- a directory is seen as one, with these entries
pub directory-seen : (stripes : List StripeValue) (o : Option DirectoryValue) (t : Option (List ℕ)) (q : ℕ) (a : Attributes) (names : ℕ)
    (k : InodeKind) (parent : ℕ)
    → parent_in k ≡ Some parent
    → node_by stripes o t q a names k
    ≡ Directory (record { attributes = a; parent = parent; next = (directory_or_empty o).next; list = (directory_or_empty o).list })
directory-seen stripes o t q a names k parent says = ap (node_by stripes o t q a names) (directory-is k parent says).1

-- it has no touch
pub directory-untouched : (touch : Option Moment) (a : Attributes) (k : InodeKind) (parent : ℕ) → parent_in k ≡ Some parent → attributes_now touch a k ≡ a
directory-untouched touch a k parent says = ap (attributes_now touch a) (directory-is k parent says).1

-- what counts subdirectories is a directory
pub counted-directory : (k : InodeKind) (n : ℕ) → subdirectories_in k ≡ Some n → is_some (parent_in k) ≡ true
counted-directory (DirectoryKind up subs) n says = refl
counted-directory kind n says = absurd cc

-- ---- as it is shown

-- the length of a special node's text; nothing else has one
abbrev pub text_size : InodeKind → ℕ
text_size (SpecialFile special size) = size
text_size kind = 0

-- a text of the length that the inode says
pub text-told : (o : Option (List ℕ)) (k : InodeKind) → option_map length o ≡ text_length_in k → length (text_or_empty o) ≡ text_size k
text-told o (SpecialFile special size) says = by o (size == 0) refl says
  where
    by : (o : Option (List ℕ)) (b : Bool) → (size == 0) ≡ b → option_map length o ≡ (if b then None else Some size)
        → length (text_or_empty o) ≡ size
    by None true e says = sym (eqb-true size 0 e)
    by None false e says = absurd cc
    by (Some text) true e says = absurd cc
    by (Some text) false e says = cc
text-told None (RegularFile size filled verifier) says = refl
text-told None (DirectoryKind parent subs) says = refl
text-told (Some text) (RegularFile size filled verifier) says = absurd cc
text-told (Some text) (DirectoryKind parent subs) says = absurd cc

-- a node is shown by its inode, where its bytes are as many as its size, its blocks and subdirectories as many as its inode counts
pub shown-with : (volume : VolumeState) (q : ℕ) (bytes : ℕ → List ℕ) (blocks : FinSet nat_cmp) (touch : Option Moment) (d : DirectoryValue)
    (text : List ℕ) (a : Attributes) (names : ℕ) → ((size : ℕ) → length (bytes size) ≡ size) → (k : InodeKind) → filled_blocks k ≡ sets.len blocks
    → ((subs : ℕ) → subdirectories_in k ≡ Some subs → subdirectories volume.nodes d.list ≡ subs) → length text ≡ text_size k
    → shown volume q (node_with bytes blocks touch d text a names k) ≡ shown_kind volume.number q a names k touch
shown-with volume q bytes blocks touch d text a names long (RegularFile size filled verifier) many counted told =
    λ j. record (shown_kind volume.number q a names (RegularFile size filled verifier) touch) { size = long size j; used = block_size * sym many j }
shown-with volume q bytes blocks touch d text a names long (DirectoryKind parent subs) many counted told =
    λ j. record (shown_kind volume.number q a names (DirectoryKind parent subs) touch) { links = 2 + counted subs refl j }
shown-with volume q bytes blocks touch d text a names long (SpecialFile special size) many counted told =
    λ j. record (shown_kind volume.number q a names (SpecialFile special size) touch) { size = told j }

-- ---- the owner

pub owner-effective : (touch : Option Moment) (a : Attributes) → ownership_of (effective_attributes touch a) ≡ ownership_of a
owner-effective None a = refl
owner-effective (Some moment) a = refl

pub owner-now : (touch : Option Moment) (a : Attributes) (k : InodeKind) → ownership_of (attributes_now touch a k) ≡ ownership_of a
owner-now touch a (RegularFile size filled verifier) = owner-effective touch a
owner-now touch a kind = refl

-- cards show the same owner of what has the same size
pub owner-alike : (a b : Attributes) (k l : InodeKind) → ownership_of b ≡ ownership_of a → size_in l ≡ size_in k → owner_by b l ≡ owner_by a k
owner-alike a b k l owned sized = λ j. option_map (λ (size : ℕ). owned j) (sized j)

-- ---- a directory with other numbers

module _ (f g : ℕ → ℕ) where
  pub size-changed : (k : InodeKind) → size_in (directory_changed f g k) ≡ size_in k
  size-changed (DirectoryKind parent subs) = refl
  size-changed kind = refl

  pub blocks-changed : (k : InodeKind) → filled_blocks (directory_changed f g k) ≡ filled_blocks k
  blocks-changed (DirectoryKind parent subs) = refl
  blocks-changed kind = refl

  pub text-changed : (k : InodeKind) → text_length_in (directory_changed f g k) ≡ text_length_in k
  text-changed (DirectoryKind parent subs) = refl
  text-changed kind = refl

  pub parent-changed : (k : InodeKind) → parent_in (directory_changed f g k) ≡ option_map f (parent_in k)
  parent-changed (DirectoryKind parent subs) = refl
  parent-changed kind = refl

  pub count-changed : (k : InodeKind) → subdirectories_in (directory_changed f g k) ≡ option_map g (subdirectories_in k)
  count-changed (DirectoryKind parent subs) = refl
  count-changed kind = refl

-- what is the same stays the same
pub same-mapped : (o : Option ℕ) → option_map (λ n. n) o ≡ o
same-mapped None = refl
same-mapped (Some n) = refl

pub parent-kept : (g : ℕ → ℕ) (k : InodeKind) → parent_in (directory_changed (λ parent. parent) g k) ≡ parent_in k
parent-kept g k = parent-changed (λ parent. parent) g k ∙ same-mapped (parent_in k)

pub count-kept : (f : ℕ → ℕ) (k : InodeKind) → subdirectories_in (directory_changed f (λ n. n) k) ≡ subdirectories_in k
count-kept f k = count-changed f (λ n. n) k ∙ same-mapped (subdirectories_in k)

-- it is a directory as before
pub some-kept : (f g : ℕ → ℕ) (k : InodeKind) → is_some (parent_in (directory_changed f g k)) ≡ is_some (parent_in k)
some-kept f g k = ap (λ o. is_some o) (parent-changed f g k) ∙ by (parent_in k)
  where
    by : (o : Option ℕ) → is_some (option_map f o) ≡ is_some o
    by None = refl
    by (Some parent) = refl
