-- READDIRPLUS of a set under Logical, as its checks come out.
use Rattle.std.proofs.Common.{◌≡◌, ℕ, ◌-◌, ◌<◌, ◌≤◌, Bool, true, false, List, [], ◌∷◌, length, map, None, sym, ap, ◌∙◌, refl, subst}
use Rattle.std.proofs.Common.{arith, Result, Ok, Err}
use Rattle.std.proofs.lemmas.Bool.Decides.{nat_tests}
use Rattle.std.specs.Prelude.{min, not, ◌&&◌, ◌==◌, nat_lt, if◌then◌else◌}
use Rattle.std.specs.Result.{IsErr}
use Rattle.std.specs.declared.alloc.AllocError.{AllocError}
use Rattle.nfs_model.specs.Types.{Caller, DirectoryKind, Listed, ListedPlus, Shown, Answer, Success, ReaddirplusDone, Failed, BadCookie, TooSmall}
use Rattle.nfs_model.specs.Tree.{Logical}
use Rattle.nfs_model.specs.Server.{most_bytes}
use Rattle.nfs_model.specs.Work as works
use Rattle.nfs_model.specs.Locate.{Fails}
use Rattle.nfs_model.specs.Serial.Readdir.{above_cookie, fitting}
use Rattle.nfs_model.specs.Serial.Readdirplus.{page_plus, page_plus_of, paged_plus, readdirplus_from}
use Rattle.nfs_values.specs.Answer as answers
use Rattle.nfs_values.specs.declared.answer.Answer.TheVariants.{ReadDirectoryPlus}
use Rattle.nfs_values.specs.declared.answer.ReadDirectoryPlusResults.{ReadDirectoryPlusResults}
use Rattle.nfs_values.specs.declared.status.Status.{Status}
use Rattle.nfs_model.specs.volume.Inodes.{Inode}
use Rattle.filer_state.specs.state.Lenses.{LogicalSet, logical_lens}
use Rattle.filer_state.specs.state.Running.{RunsOn}
use Rattle.filer_state.specs.state.Calls.{answer_of}
use Rattle.filer_state.specs.state.Changes.{shown_inode}
use Rattle.filer_state.specs.changes.NameAnswers.{is_bad_cookie, entry_for, readdirplus_answer}
use Rattle.filer_state.specs.changes.NameLaws.{readdirplus_call}
use Rattle.filer_state.specs.changes.ListingPlusLemmas.{readdirplus-right, readdirplus-starves}
use Rattle.nfs_model.specs.Serial.Rights.{may_search, protected}
use Rattle.service_names.specs.Listing.{all_under, entry_if, PageWithNodes, with_nodes, tells_no_node}
use Rattle.service_names.specs.Listing as listings
use Rattle.service_names.specs.Promises.{ListsPlus}
use Rattle.service_names.specs.declared.listing_plus.PagePlusAsked.{PagePlusAsked}
use Rattle.service_names.proofs.Fitted.{none-fits-whole}

-- ---- pages

module _ (n : ℕ) (told : Listed → ListedPlus) (directory : Shown) where
  paged-nothing : (remaining page : List Listed) → tells_no_node (with_nodes told remaining page) ≡ true
      → answer_of 1 (paged_plus n told directory remaining page) ≡ Failed TooSmall 1
  paged-nothing [] [] nothing = absurd (let no : false ≡ true = nothing in cc)
  paged-nothing [] (x ∷ xs) nothing = absurd (grind (arith, nat_tests, nothing))
  paged-nothing (e ∷ es) [] nothing = refl
  paged-nothing (e ∷ es) (x ∷ xs) nothing = absurd (grind (arith, nat_tests, nothing))

  paged-some : (remaining page : List Listed) → 104 ≤ n → tells_no_node (with_nodes told remaining page) ≡ false
      → answer_of 1 (paged_plus n told directory remaining page) ≡ ReaddirplusDone directory (map told page) (length page == length remaining)
  paged-some [] page enough some = by (nat_lt n 104) refl
    where
      by : (b : Bool) → nat_lt n 104 ≡ b
          → answer_of 1 (if b then Fails TooSmall else page_plus_of told directory [] page)
          ≡ ReaddirplusDone directory (map told page) (length page == 0)
      by true e = absurd (grind (arith, nat_tests, e, enough))
      by false e = refl
  paged-some (e ∷ es) [] enough some = absurd (grind (arith, nat_tests, some))
  paged-some (e ∷ es) (x ∷ xs) enough some = refl

  module _ (names : ℕ) (remaining : List Listed) where
    abbrev page : List Listed
    page = page_plus names n remaining

    -- by the page that was made
    module _ (p : PageWithNodes) (is : p ≡ listings.page_plus_of told names (n - 104) remaining) where
      pub plus-nothing : tells_no_node p ≡ true → answer_of 1 (readdirplus_from names n told directory remaining) ≡ Failed TooSmall 1
      plus-nothing nothing = paged-nothing remaining page (sym (ap tells_no_node is) ∙ nothing)

      pub plus-some : 104 ≤ n → tells_no_node p ≡ false
          → answer_of 1 (readdirplus_from names n told directory remaining) ≡ ReaddirplusDone directory p.entries p.is_last
      plus-some enough some =
          paged-some remaining page enough (sym (ap tells_no_node is) ∙ some)
          ∙ sym (ap (λ (q : PageWithNodes). ReaddirplusDone directory q.entries q.is_last) is)

    -- where an entry fits
    pub plus-fits : 104 ≤ n → 0 < length page
        → answer_of 1 (readdirplus_from names n told directory remaining)
        ≡ ReaddirplusDone directory (map told page) (length page == length remaining)
    plus-fits enough fits = paged-some remaining page enough (by page fits (length page == length remaining))
      where
        by : (es : List Listed) → 0 < length es → (b : Bool) → ((length (map told es) == 0) && not b) ≡ false
        by [] fits b = absurd (omega (arith, fits))
        by (x ∷ xs) fits true = grind (arith, nat_tests)
        by (x ∷ xs) fits false = grind (arith, nat_tests)

    -- where nothing fits
    pub plus-small : n < 104 → answer_of 1 (readdirplus_from names n told directory remaining) ≡ Failed TooSmall 1
    plus-small less =
        ap (λ p. answer_of 1 (paged_plus n told directory remaining p)) (none-fits-whole (fitting names remaining) (n - 104) (omega (arith, less)))
        ∙ by remaining
      where
        small : (b : Bool) → nat_lt n 104 ≡ b → answer_of 1 (if b then Fails TooSmall else page_plus_of told directory [] []) ≡ Failed TooSmall 1
        small true e = refl
        small false e = absurd (grind (arith, nat_tests, e, less))

        by : (es : List Listed) → answer_of 1 (paged_plus n told directory es []) ≡ Failed TooSmall 1
        by [] = small (nat_lt n 104) refl
        by (e ∷ es) = refl

-- ---- what it comes to

module _ (v fileid : ℕ) (asked : PagePlusAsked) (caller : Caller) (set : LogicalSet) where
  abbrev answer : Answer
  answer = readdirplus_answer v fileid asked.cookie.0 asked.verifier.0 asked.names_count asked.count caller set

  -- a result is right where it tells what the inode and the entries do
  pub lists : (told : Result ReadDirectoryPlusResults Status) → answers.answer_of (ReadDirectoryPlus told) ≡ answer
      → ListsPlus v fileid asked caller set (Ok told)
  lists told is handle =
      subst (λ (a : Answer). RunsOn v logical_lens
      (readdirplus_call handle (Logical v) fileid asked.cookie.0 asked.verifier.0 asked.names_count asked.count caller) set
      (works.Replied (Success a)) set) (sym is)
      (λ p hands hands' made has numbered sound moved.
      let r = readdirplus-right v fileid handle (Logical v) asked.cookie.0 asked.verifier.0 asked.names_count asked.count caller set p hands hands' made has
      numbered sound moved in
      (r.0.0, r.1))

  -- and memory may run out where it would list
  pub starves : (r : Result (Result ReadDirectoryPlusResults Status) AllocError) → IsErr r → (directory : Shown) (page : List ListedPlus) (eof : Bool)
      → answer ≡ ReaddirplusDone directory page eof → ListsPlus v fileid asked caller set r
  starves (Ok told) failed directory page eof would handle = absurd cc
  starves (Err e) failed directory page eof would handle =
      readdirplus-starves v fileid handle (Logical v) asked.cookie.0 asked.verifier.0 asked.names_count asked.count caller set directory page eof would

  -- what is told of a directory by a count
  abbrev pub told_by : ℕ → Inode → ℕ → Answer
  told_by count inode parent =
      answer_of 1 (readdirplus_from (min asked.names_count most_bytes) count (entry_for caller v set inode) (shown_inode v fileid inode None)
      (above_cookie asked.cookie.0 (all_under set.own fileid parent)))

  abbrev pub listed_in : Inode → ℕ → Answer
  listed_in inode parent =
      if is_bad_cookie asked.cookie.0 asked.verifier.0 then Failed BadCookie 1 else told_by (min asked.count most_bytes) inode parent

  module _ (inode : Inode) (parent : ℕ) (as_directory : answer ≡ listed_in inode parent) where
    checked : (b : Bool) → is_bad_cookie asked.cookie.0 asked.verifier.0 ≡ b
        → answer ≡ (if b then Failed BadCookie 1 else told_by (min asked.count most_bytes) inode parent)
    checked b is =
        as_directory ∙ ap (λ (x : Bool). if x then Failed BadCookie 1 else told_by (min asked.count most_bytes) inode parent) is

    pub bad-cookie : is_bad_cookie asked.cookie.0 asked.verifier.0 ≡ true → answer ≡ Failed BadCookie 1
    bad-cookie bad = checked true bad

    pub good-cookie : is_bad_cookie asked.cookie.0 asked.verifier.0 ≡ false → (n : ℕ) → n ≡ min asked.count most_bytes
        → answer ≡ told_by n inode parent
    good-cookie good n is = checked false good ∙ ap (λ (m : ℕ). told_by m inode parent) (sym is)

    -- by whether names alone are told
    pub good-page : is_bad_cookie asked.cookie.0 asked.verifier.0 ≡ false → (n : ℕ) → n ≡ min asked.count most_bytes
        → (is_bare : Bool) → is_bare ≡ (caller.checked && not (may_search caller.credential (protected DirectoryKind inode.attributes)))
        → answer ≡ answer_of 1 (readdirplus_from (min asked.names_count most_bytes) n (entry_if is_bare v set) (shown_inode v fileid inode None)
        (above_cookie asked.cookie.0 (all_under set.own fileid parent)))
    good-page good n is is_bare bare =
        good-cookie good n is
        ∙ ap (λ (b : Bool). answer_of 1 (readdirplus_from (min asked.names_count most_bytes) n (entry_if b v set) (shown_inode v fileid inode None)
        (above_cookie asked.cookie.0 (all_under set.own fileid parent)))) (sym bare)
