-- The parts of a volume as a run begins, made step by step.
use Rattle.std.proofs.Common.{◌≡◌, ℕ, cond, List, [], ◌∷◌, replicate, Option, Some, None, sym, ap, ◌∙◌}
use Rattle.std.proofs.Common.{Result, Ok, Err, IfOk}
use Rattle.std.specs.Ordering.{nat_cmp, eq_by_cmp}
use Rattle.std.specs.Cmp.{nat_cmp_total}
use Rattle.std.specs.FinMap as maps
use Rattle.std.specs.FinMap.{FinMap, insert, from_sorted, get-from_sorted, get-insert, get-empty, nat_cmp-IsAntisymmetric, same_map}
use Rattle.std.specs.FinSet as sets
use Rattle.std.specs.FinSet.{FinSet}
use Rattle.nfs_model.specs.Types.{Moment, Ownership}
use Rattle.nfs_model.specs.Memo.{Memo}
use Rattle.nfs_model.specs.volume.Directories.{DirectoryValue, empty_directory}
use Rattle.nfs_model.specs.volume.Inodes.{InodesValue, opening_inodes}
use Rattle.nfs_model.specs.volume.Logical.{LogicalValue}
use Rattle.nfs_model.specs.volume.Ranges.{DeadValue, no_dead}
use Rattle.nfs_model.specs.volume.Stripes.{StripeValue, OfDirectory, empty_stripe, directory_card_set}
use Rattle.filer_state.specs.state.Names.{root}
use Rattle.filer_state.specs.state.Opening.{opening_logical, opening_stripe}

-- what follows of a result where a call has succeeded
pub if_ok : {T E : Type 0} {P Q : T → Type 0} → ((x : T) → P x → Q x) → (r : Result T E) → IfOk r P → IfOk r Q
if_ok f (Ok x) p = f x p
if_ok f (Err e) p = p

-- a map of one key
single-insert : {X : Type 0} (k : ℕ) (x : X) → insert (maps.empty {R = nat_cmp}) k x ≡ from_sorted ((k, x) ∷ [])
single-insert {X} k x =
    same_map nat_cmp_total nat_cmp-IsAntisymmetric _ _ (λ q. get-insert nat_cmp_total (maps.empty {X = X} {R = nat_cmp}) k x q
    ∙ ap (cond (eq_by_cmp nat_cmp q k) (Some x)) (get-empty nat_cmp q) ∙ sym (get-from_sorted nat_cmp ((k, x) ∷ []) q tt))

pub stripe-begun : (verifier : List ℕ) (stripes largest : ℕ) (made s : StripeValue) → made ≡ empty_stripe verifier stripes largest
    → s ≡ directory_card_set root made → s ≡ opening_stripe verifier stripes largest
stripe-begun verifier stripes largest made s is with_card =
    with_card ∙ ap (directory_card_set root) is ∙ (λ j. record (empty_stripe verifier stripes largest) { cards = single-insert root OfDirectory j })

module _ (verifier : List ℕ) (stripes largest most steps : ℕ) (owner : Ownership) (begun : Moment) (size remembered : ℕ) where
  -- of these parts
  abbrev pub logical_of : (s l m t : ℕ) → InodesValue → FinMap nat_cmp DirectoryValue → FinMap nat_cmp (List ℕ) → FinSet nat_cmp → DeadValue → List (Option Memo) → LogicalValue
  logical_of s l m t inodes directories texts stock dead memos = record {
    verifier = verifier;
    stripes = s;
    largest = l;
    most_inodes = m;
    most_steps = t;
    inodes = inodes;
    directories = directories;
    texts = texts;
    stock = stock;
    dead = dead;
    memos = memos;
  }

  pub logical-begun : (s l m t n : ℕ) → s ≡ stripes → l ≡ largest → m ≡ most → t ≡ steps → n ≡ size
      → (o : Ownership) → o ≡ owner → (b : Moment) → b ≡ begun
      → (inodes : InodesValue) (none directories : FinMap nat_cmp DirectoryValue) (d : DirectoryValue) (texts : FinMap nat_cmp (List ℕ)) (stock : FinSet nat_cmp)
      (dead : DeadValue)
      → (r : ℕ) → r ≡ remembered → (memos : List (Option Memo)) → memos ≡ replicate r None
      → inodes ≡ opening_inodes o b → none ≡ maps.empty → d ≡ empty_directory → directories ≡ insert none root d → texts ≡ maps.empty → stock ≡ sets.empty → dead ≡ no_dead n
      → logical_of s l m t inodes directories texts stock dead memos ≡ opening_logical verifier stripes largest most steps owner begun size remembered
  logical-begun s l m t n s_is l_is m_is t_is n_is o o_is b b_is inodes none directories d texts stock dead r r_is memos no_memos inodes_are nothing empty with_root no_texts
      no_stock none_dead =
      let directories_are : directories ≡ from_sorted ((root, empty_directory) ∷ []) =
      with_root ∙ (λ j. insert (nothing j) root (empty j)) ∙ single-insert root empty_directory in
      let dead_is : dead ≡ no_dead size = none_dead ∙ ap no_dead n_is in
      let memos_are : memos ≡ replicate remembered None = no_memos ∙ ap (λ (n : ℕ). let m : List (Option Memo) = replicate n None in m) r_is in
      let begun_are : inodes ≡ opening_inodes owner begun = inodes_are ∙ (λ j. opening_inodes (o_is j) (b_is j)) in
      λ j. logical_of (s_is j) (l_is j) (m_is j) (t_is j) (begun_are j) (directories_are j) (no_texts j) (no_stock j) (dead_is j) (memos_are j)
