-- READDIR of a set under Logical, as its checks come out.
use Rattle.std.proofs.Common.{◌≡◌, ℕ, ◌-◌, ◌<◌, ◌≤◌, Bool, true, false, List, [], ◌∷◌, length, None, sym, ap, ◌∙◌, refl, subst, arith, Result, Ok, Err}
use Rattle.std.proofs.lemmas.Bool.Decides.{nat_tests}
use Rattle.std.specs.Prelude.{min, not, ◌&&◌, ◌==◌, nat_lt, nat_le, if◌then◌else◌}
use Rattle.std.specs.Result.{IsErr}
use Rattle.std.specs.declared.alloc.AllocError.{AllocError}
use Rattle.nfs_model.specs.Types.{Listed, Shown, Answer, Success, ReaddirDone, Failed, BadCookie, TooSmall}
use Rattle.nfs_model.specs.Tree.{Logical}
use Rattle.nfs_model.specs.Server.{most_bytes}
use Rattle.nfs_model.specs.Work as works
use Rattle.nfs_model.specs.Locate.{Fails}
use Rattle.nfs_model.specs.Serial.Readdir.{above_cookie, entry_size, fitting, paged, readdir_from}
use Rattle.nfs_model.specs.Serial.Readdir as readdirs
use Rattle.nfs_values.specs.Answer as answers
use Rattle.nfs_values.specs.declared.answer.Answer.TheVariants.{ReadDirectory}
use Rattle.nfs_values.specs.declared.answer.ReadDirectoryResults.{ReadDirectoryResults}
use Rattle.nfs_values.specs.declared.status.Status.{Status}
use Rattle.nfs_model.specs.volume.Directories.{Page, page_of}
use Rattle.nfs_model.specs.volume.Inodes.{Inode}
use Rattle.filer_state.specs.state.Lenses.{LogicalSet, logical_lens}
use Rattle.filer_state.specs.state.Running.{RunsOn}
use Rattle.filer_state.specs.state.Calls.{answer_of}
use Rattle.filer_state.specs.state.Changes.{shown_inode}
use Rattle.filer_state.specs.changes.NameAnswers.{is_bad_cookie, readdir_answer}
use Rattle.filer_state.specs.changes.NameLaws.{readdir_call}
use Rattle.filer_state.specs.changes.ListingLemmas.{readdir-right, readdir-starves}
use Rattle.service_names.specs.Listing.{all_under, tells_nothing}
use Rattle.service_names.specs.Promises.{Lists}
use Rattle.service_names.specs.declared.listing.PageAsked.{PageAsked}

-- ---- pages

module _ (n : ℕ) (directory : Shown) where
  paged-nothing : (remaining page : List Listed) → ((length page == 0) && not (length page == length remaining)) ≡ true
      → answer_of 1 (paged n directory remaining page) ≡ Failed TooSmall 1
  paged-nothing [] page nothing = absurd (by (length page == 0) nothing)
    where
      by : (b : Bool) → (b && not b) ≡ true → ⊥
      by true e = cc
      by false e = cc
  paged-nothing (e ∷ es) [] nothing = refl
  paged-nothing (e ∷ es) (x ∷ xs) nothing = absurd (grind (arith, nat_tests, nothing))

  paged-some : (remaining page : List Listed) → 104 ≤ n → ((length page == 0) && not (length page == length remaining)) ≡ false
      → answer_of 1 (paged n directory remaining page) ≡ ReaddirDone directory page (length page == length remaining)
  paged-some [] page enough some = by (nat_lt n 104) refl
    where
      by : (b : Bool) → nat_lt n 104 ≡ b
          → answer_of 1 (if b then Fails TooSmall else readdirs.page_of directory [] page) ≡ ReaddirDone directory page (length page == 0)
      by true e = absurd (grind (arith, nat_tests, e, enough))
      by false e = refl
  paged-some (e ∷ es) [] enough some = absurd (grind (arith, nat_tests, some))
  paged-some (e ∷ es) (x ∷ xs) enough some = refl

  -- by the page that was made
  pub page-nothing : (remaining : List Listed) (p : Page) → p ≡ page_of (n - 104) remaining → tells_nothing p ≡ true
      → answer_of 1 (readdir_from n directory remaining) ≡ Failed TooSmall 1
  page-nothing remaining p is nothing = paged-nothing remaining (fitting (n - 104) remaining) (sym (ap tells_nothing is) ∙ nothing)

  pub page-some : (remaining : List Listed) (p : Page) → p ≡ page_of (n - 104) remaining → 104 ≤ n → tells_nothing p ≡ false
      → answer_of 1 (readdir_from n directory remaining) ≡ ReaddirDone directory p.entries p.is_last
  page-some remaining p is enough some =
      paged-some remaining (fitting (n - 104) remaining) enough (sym (ap tells_nothing is) ∙ some)
      ∙ sym (ap (λ (q : Page). ReaddirDone directory q.entries q.is_last) is)

  -- where an entry fits
  pub page-fits : (remaining : List Listed) → 104 ≤ n → 0 < length (fitting (n - 104) remaining)
      → answer_of 1 (readdir_from n directory remaining)
      ≡ ReaddirDone directory (fitting (n - 104) remaining) (length (fitting (n - 104) remaining) == length remaining)
  page-fits remaining enough fits =
      paged-some remaining (fitting (n - 104) remaining) enough
      (by (length (fitting (n - 104) remaining)) (length (fitting (n - 104) remaining) == length remaining) fits)
    where
      by : (m : ℕ) (b : Bool) → 0 < m → ((m == 0) && not b) ≡ false
      by m true some = grind (arith, nat_tests, some)
      by m false some = grind (arith, nat_tests, some)

  none-fits : (remaining : List Listed) → n < 104 → fitting (n - 104) remaining ≡ []
  none-fits [] less = refl
  none-fits (e ∷ es) less = by (nat_le (entry_size e) (n - 104)) refl
    where
      by : (b : Bool) → nat_le (entry_size e) (n - 104) ≡ b → (if b then e ∷ fitting (n - 104 - entry_size e) es else []) ≡ []
      by true is = absurd (grind (arith, nat_tests, is, less))
      by false is = refl

  -- where nothing fits
  pub page-small : (remaining : List Listed) → n < 104 → answer_of 1 (readdir_from n directory remaining) ≡ Failed TooSmall 1
  page-small remaining less = ap (λ p. answer_of 1 (paged n directory remaining p)) (none-fits remaining less) ∙ by remaining
    where
      small : (b : Bool) → nat_lt n 104 ≡ b → answer_of 1 (if b then Fails TooSmall else readdirs.page_of directory [] []) ≡ Failed TooSmall 1
      small true e = refl
      small false e = absurd (grind (arith, nat_tests, e, less))

      by : (es : List Listed) → answer_of 1 (paged n directory es []) ≡ Failed TooSmall 1
      by [] = small (nat_lt n 104) refl
      by (e ∷ es) = refl

-- ---- what it comes to

module _ (v fileid : ℕ) (asked : PageAsked) (set : LogicalSet) where
  abbrev answer : Answer
  answer = readdir_answer v fileid asked.cookie.0 asked.verifier.0 asked.count set

  -- a result is right where it tells what the inode and the entries do
  pub lists : (told : Result ReadDirectoryResults Status) → answers.answer_of (ReadDirectory told) ≡ answer → Lists v fileid asked set (Ok told)
  lists told is handle =
      subst (λ (a : Answer). RunsOn v logical_lens (readdir_call handle (Logical v) fileid asked.cookie.0 asked.verifier.0 asked.count) set
      (works.Replied (Success a)) set) (sym is)
      (λ p hands hands' made has numbered sound moved.
      let r = readdir-right v fileid handle (Logical v) asked.cookie.0 asked.verifier.0 asked.count set p hands hands' made has numbered sound moved in
      (r.0.0, r.1))

  -- and memory may run out where it would list
  pub starves : (r : Result (Result ReadDirectoryResults Status) AllocError) → IsErr r → (directory : Shown) (page : List Listed) (eof : Bool)
      → answer ≡ ReaddirDone directory page eof → Lists v fileid asked set r
  starves (Ok told) failed directory page eof would handle = absurd cc
  starves (Err e) failed directory page eof would handle =
      readdir-starves v fileid handle (Logical v) asked.cookie.0 asked.verifier.0 asked.count set directory page eof would

  -- what is told of a directory
  abbrev pub listed_in : Inode → ℕ → Answer
  listed_in inode parent =
      if is_bad_cookie asked.cookie.0 asked.verifier.0 then Failed BadCookie 1
      else answer_of 1 (readdir_from (min asked.count most_bytes) (shown_inode v fileid inode None)
      (above_cookie asked.cookie.0 (all_under set.own fileid parent)))

  module _ (inode : Inode) (parent : ℕ) (as_directory : answer ≡ listed_in inode parent) where
    checked : (b : Bool) → is_bad_cookie asked.cookie.0 asked.verifier.0 ≡ b
        → answer ≡ (if b then Failed BadCookie 1
        else answer_of 1 (readdir_from (min asked.count most_bytes) (shown_inode v fileid inode None)
        (above_cookie asked.cookie.0 (all_under set.own fileid parent))))
    checked b is =
        as_directory ∙ ap (λ (x : Bool). if x then Failed BadCookie 1
        else answer_of 1 (readdir_from (min asked.count most_bytes) (shown_inode v fileid inode None)
        (above_cookie asked.cookie.0 (all_under set.own fileid parent)))) is

    pub bad-cookie : is_bad_cookie asked.cookie.0 asked.verifier.0 ≡ true → answer ≡ Failed BadCookie 1
    bad-cookie bad = checked true bad

    pub good-cookie : is_bad_cookie asked.cookie.0 asked.verifier.0 ≡ false → (n : ℕ) → n ≡ min asked.count most_bytes
        → answer ≡ answer_of 1 (readdir_from n (shown_inode v fileid inode None) (above_cookie asked.cookie.0 (all_under set.own fileid parent)))
    good-cookie good n is =
        checked false good
        ∙ ap (λ (m : ℕ). answer_of 1 (readdir_from m (shown_inode v fileid inode None) (above_cookie asked.cookie.0 (all_under set.own fileid parent))))
        (sym is)
