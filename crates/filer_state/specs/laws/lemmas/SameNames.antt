-- Inodes that change, but not their places in the tree of names: names stay lawful.
use Rattle.std.proofs.Common.{◌≡◌, ℕ, zero, suc, ◌==◌, ◌&&◌, not, List, [], ◌∷◌, Some, refl, sym, ap, ◌∙◌, subst, arith}
use Rattle.std.specs.Prelude.{is_some, IfSome}
use Rattle.std.specs.List.{AllByRecursion}
use Rattle.std.specs.FinMap.{get}
use Rattle.nfs_model.specs.Types.{Listed}
use Rattle.nfs_model.specs.Parts.{one_if}
use Rattle.filer_state.specs.state.Names.{root, InodeMap, DirectoryMap, parent_directory, subdirectories_of, is_directory, parent_or, names_of}
use Rattle.filer_state.specs.state.Names.{directory_above, directories_listed, AreNamed}

-- each fileid with the same parent and as many subdirectories, if it is a directory's
pub record SamePlaces (new old : InodeMap) : Type 0 where
  pub parents : (q : ℕ) → parent_directory (get new q) ≡ parent_directory (get old q)
  pub subdirectories : (q : ℕ) → subdirectories_of (get new q) ≡ subdirectories_of (get old q)

module _ (new old : InodeMap) (same : SamePlaces new old) where
  pub directories-same : (list : List Listed) → directories_listed new list ≡ directories_listed old list
  directories-same [] = refl
  directories-same (e ∷ list) =
      let here : one_if (is_directory (get new e.fileid)) ≡ one_if (is_directory (get old e.fileid)) =
      ap (λ o. one_if (is_some o)) (same.parents e.fileid) in
      let others = directories-same list in
      omega arith

  abbrev IsChildOf : InodeMap → ℕ → Listed → Type 0
  IsChildOf inodes fileid e = IfSome (parent_directory (get inodes e.fileid)) (λ parent. parent ≡ fileid)

  pub children-same : (fileid : ℕ) (list : List Listed) → AllByRecursion (IsChildOf old fileid) list → AllByRecursion (IsChildOf new fileid) list
  children-same fileid [] all = tt
  children-same fileid (e ∷ list) all = (
    subst (λ o. IfSome o (λ parent. parent ≡ fileid)) (sym (same.parents e.fileid)) all.0,
    children-same fileid list all.1,
  )

  pub above-same : (n q : ℕ) → directory_above new n q ≡ directory_above old n q
  above-same zero q = refl
  above-same (suc n) q =
      above-same n (parent_or (parent_directory (get new q)) q)
      ∙ ap (λ o. directory_above old n (parent_or o q)) (same.parents q)

  -- names stay lawful
  pub named-same : ((q : ℕ) → names_of (get new q) ≡ names_of (get old q)) → (directories : DirectoryMap) → AreNamed old directories
      → AreNamed new directories
  named-same counts directories named = record {
    root_there = same.parents root ∙ named.root_there;
    as_directories = λ q. named.as_directories q ∙ sym (ap (λ o. is_some o) (same.parents q));
    fits = λ q d e. let fits = named.fits q d e in record {
      list = fits.list;
      children = children-same q d.list fits.children;
      links = same.subdirectories q ∙ fits.links ∙ ap Some (sym (directories-same d.list));
    };
    counted = λ q. named.counted q ∙ sym (counts q);
    once = λ q e. counts q ∙ named.once q (sym (ap (λ o. is_some o) (same.parents q)) ∙ e);
    rooted = λ q e.
        let reaches = named.rooted q (sym (ap (λ o. is_some o) (same.parents q)) ∙ e) in
        (reaches.0, above-same reaches.0 q ∙ reaches.1);
  }
