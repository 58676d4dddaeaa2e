-- What a new node has beside its inode, put in and taken out again.
use Rattle.std.proofs.Common.{◌≡◌, ℕ, ◌==◌, Bool, false, List, Option, Some, None, Result, Ok, Err}
use Rattle.std.proofs.Common.{refl, sym, ap, ◌∙◌, subst}
use Rattle.std.specs.Prelude.{OnErr, IfSome, if◌then◌else◌}
use Rattle.std.specs.FinMap.{get, remove}
use Rattle.nfs_model.specs.volume.Directories.{DirectoryValue, empty_directory}
use Rattle.nfs_model.specs.volume.Inodes.{InodeKind, RegularFile, DirectoryKind, SpecialFile}
use Rattle.nfs_model.specs.volume.Logical.{LogicalValue}
use Rattle.nfs_model.specs.volume.lemmas.Numbered.{get-insert_at}
use Rattle.filer_state.specs.changes.NodesMade.{directories_made, texts_made}
use Rattle.service_names.specs.Changing.{with_directories, with_texts}
use Rattle.service_names.specs.Making.{without_parts}
use Rattle.service_names.proofs.Putting.{remove-put}

module _ {A E : Type 0} {X : Type 0} where
  pub on-err : (r : Result A E) → X → OnErr r X
  on-err (Ok a) x = tt
  on-err (Err e) x = x

  pub on-err-then : {Y : Type 0} (r : Result A E) → (X → Y) → OnErr r X → OnErr r Y
  on-err-then (Ok a) f x = tt
  on-err-then (Err e) f x = f x

module _ (k : InodeKind) (t : Option (List ℕ)) (f : ℕ) (own : LogicalValue) where
  -- the other directories stay
  pub made-get : (q : ℕ) → (q == f) ≡ false → get (directories_made k f own.directories) q ≡ get own.directories q
  made-get q ne = by k
    where
      by : (kind : InodeKind) → get (directories_made kind f own.directories) q ≡ get own.directories q
      by (RegularFile size filled verifier) = refl
      by (DirectoryKind parent subdirectories) =
          get-insert_at own.directories f empty_directory q
          ∙ ap (λ (b : Bool). if b then Some empty_directory else get own.directories q) ne
      by (SpecialFile special size) = refl

  made-without : without_parts f (with_directories (directories_made k f own.directories) own) ≡ without_parts f own
  made-without = by k
    where
      by : (kind : InodeKind) → without_parts f (with_directories (directories_made kind f own.directories) own) ≡ without_parts f own
      by (RegularFile size filled verifier) = refl
      by (DirectoryKind parent subdirectories) =
          λ j. record own { directories = remove-put own.directories f empty_directory j; texts = remove own.texts f }
      by (SpecialFile special size) = refl

  abbrev tied : LogicalValue
  tied = with_texts (texts_made t f own.texts) (with_directories (directories_made k f own.directories) own)

  text-without : without_parts f tied ≡ without_parts f (with_directories (directories_made k f own.directories) own)
  text-without = by t
    where
      by : (o : Option (List ℕ)) → without_parts f (with_texts (texts_made o f own.texts) (with_directories (directories_made k f own.directories) own))
          ≡ without_parts f (with_directories (directories_made k f own.directories) own)
      by None = refl
      by (Some text) =
          λ j. record own { directories = remove (directories_made k f own.directories) f; texts = remove-put own.texts f text j }

  -- where there was no memory for the text
  pub without-first : (now : LogicalValue) → now ≡ with_directories (directories_made k f own.directories) own → without_parts f now ≡ without_parts f own
  without-first now put = ap (without_parts f) put ∙ made-without

  module _ (mid next now : LogicalValue) (put : mid ≡ with_directories (directories_made k f own.directories) own)
      (text : next ≡ with_texts (texts_made t f mid.texts) mid) (kept : now ≡ next) where
    all-put : now ≡ tied
    all-put = kept ∙ text ∙ ap (λ (l : LogicalValue). with_texts (texts_made t f l.texts) l) put

    -- what held of a directory holds of it still
    pub directory-kept : (Q : DirectoryValue → Type 0) (q : ℕ) → (q == f) ≡ false → IfSome (get own.directories q) Q → IfSome (get now.directories q) Q
    directory-kept Q q ne holds =
        subst (λ o. IfSome o Q) (sym (ap (λ (l : LogicalValue). get l.directories q) all-put ∙ made-get q ne)) holds

    pub without-kept : without_parts f now ≡ without_parts f own
    without-kept = ap (without_parts f) all-put ∙ text-without ∙ made-without
