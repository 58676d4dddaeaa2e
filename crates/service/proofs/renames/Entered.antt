-- The directories after a RENAME: the entry of the new name comes first, or last.
use Rattle.std.proofs.Common.{◌≡◌, ℕ, ◌+◌, ◌==◌, ◌&&◌, Bool, true, false, List, [], ◌∷◌, ◌++◌, Some, None, refl, sym, ap, ◌∙◌, subst, eq-eqb}
use Rattle.std.proofs.lemmas.Bool.{eqb-true}
use Rattle.std.specs.Prelude.{not, if◌then◌else◌}
use Rattle.std.specs.FinMap.{get, insert, remove}
use Rattle.nfs_model.specs.Types.{Listed}
use Rattle.nfs_model.specs.Names.{same_name, find_name, without_name}
use Rattle.nfs_model.specs.volume.Directories.{DirectoryValue, added, removed, found, entry_added}
use Rattle.nfs_model.specs.volume.Maps.{changed_at, changed_value}
use Rattle.nfs_model.specs.volume.lemmas.Directories.{same-turned}
use Rattle.nfs_model.specs.volume.lemmas.Numbered.{itself, get-insert_at, get-remove_at, same-answers, insert-same, insert-twice}
use Rattle.filer_state.specs.state.Names.{DirectoryMap}
use Rattle.filer_state.specs.state.Tree.{directory_or_empty}
use Rattle.service.specs.renames.Moving.{replaced}

-- ---- one directory

without-more : (name : List ℕ) (list : List Listed) (e : Listed) → same_name e.name name ≡ false
    → without_name name (list ++ e ∷ []) ≡ without_name name list ++ e ∷ []
without-more name [] e other = ap (λ (b : Bool). if not b then e ∷ [] else []) other
without-more name (x ∷ list) e other = by (same_name x.name name) (without-more name list e other)
  where
    by : (b : Bool) → without_name name (list ++ e ∷ []) ≡ without_name name list ++ e ∷ []
        → (if not b then x ∷ without_name name (list ++ e ∷ []) else without_name name (list ++ e ∷ []))
        ≡ (if not b then x ∷ without_name name list else without_name name list) ++ e ∷ []
    by true rest = rest
    by false rest = ap (λ (l : List Listed). x ∷ l) rest

removed-added : (d : DirectoryValue) (gone name : List ℕ) (fileid : ℕ) → same_name gone name ≡ false
    → removed gone (added name fileid d) ≡ added name fileid (removed gone d)
removed-added d gone name fileid other = λ j. record {
  next = d.next + 1;
  list = without-more gone d.list (entry_added name fileid d) (same-turned name gone ∙ other) j;
}

-- a name that isn't there can't be removed
kept-all : (name : List ℕ) (list : List Listed) → find_name name list ≡ None → without_name name list ≡ list
kept-all name [] none = refl
kept-all name (x ∷ list) none = by (same_name x.name name) none (kept-all name list)
  where
    by : (b : Bool) → (if b then Some x else find_name name list) ≡ None → (find_name name list ≡ None → without_name name list ≡ list)
        → (if not b then x ∷ without_name name list else without_name name list) ≡ x ∷ list
    by true h rest = absurd cc
    by false h rest = ap (λ (l : List Listed). x ∷ l) (rest h)

pub removed-absent : (d : DirectoryValue) (name : List ℕ) → found d name ≡ None → removed name d ≡ d
removed-absent d name none = λ j. record { next = d.next; list = kept-all name d.list none j }

-- ---- the map

get-put : (m : DirectoryMap) (k : ℕ) (d : DirectoryValue) → get (insert m k d) k ≡ Some d
get-put m k d = get-insert_at m k d k ∙ ap (λ (b : Bool). if b then Some d else get m k) (itself k)

get-put-other : (m : DirectoryMap) (k : ℕ) (d : DirectoryValue) (q : ℕ) → (q == k) ≡ false → get (insert m k d) q ≡ get m q
get-put-other m k d q other = get-insert_at m k d q ∙ ap (λ (b : Bool). if b then Some d else get m q) other

-- two keys of which one is another
both-keys : (q f t : ℕ) → (f == t) ≡ false → (q == f) ≡ true → (q == t) ≡ true → ⊥
both-keys q f t other is_f is_t =
    let same : f ≡ t = sym (eqb-true q f is_f) ∙ eqb-true q t is_t in
    let no : false ≡ true = sym other ∙ eq-eqb f t same in
    absurd cc

-- a value put in before another or after it
put-across : (m : DirectoryMap) (f t : ℕ) (x a r : DirectoryValue) → (f == t) ≡ false
    → insert (insert m t a) f x ≡ insert (insert (insert m t r) f x) t a
put-across m f t x a r other = same-answers (insert (insert m t a) f x) (insert (insert (insert m t r) f x) t a) (λ q.
    get-insert_at (insert m t a) f x q ∙ ap (λ o. if q == f then Some x else o) (get-insert_at m t a q)
    ∙ by q (q == f) refl (q == t) refl
    ∙ sym (get-insert_at (insert (insert m t r) f x) t a q ∙ ap (λ o. if q == t then Some a else o)
    (get-insert_at (insert m t r) f x q ∙ ap (λ o. if q == f then Some x else o) (get-insert_at m t r q))))
  where
    by : (q : ℕ) (b : Bool) → (q == f) ≡ b → (c : Bool) → (q == t) ≡ c
        → (if b then Some x else if c then Some a else get m q) ≡ (if c then Some a else if b then Some x else if c then Some r else get m q)
    by q true is_f true is_t = absurd (both-keys q f t other is_f is_t)
    by q true is_f false is_t = refl
    by q false is_f true is_t = refl
    by q false is_f false is_t = refl

-- as it is done: the entry of the new name comes first
abbrev pub first : DirectoryMap → ℕ → ℕ → ℕ → List ℕ → List ℕ → DirectoryMap
first m f t c from_name to_name = changed_at (removed from_name) f (changed_at (replaced to_name c) t m)

-- as it is told, where the old entry of the new name is gone: that of the old name goes
abbrev pub then_gone : ℕ → List ℕ → DirectoryMap → DirectoryMap
then_gone f from_name gone = insert gone f (removed from_name (directory_or_empty (get gone f)))

-- and then comes that of the new name
abbrev pub last : ℕ → ℕ → ℕ → List ℕ → List ℕ → DirectoryMap → DirectoryMap
last f t c from_name to_name gone =
    insert (then_gone f from_name gone) t (added to_name c (directory_or_empty (get (then_gone f from_name gone) t)))

-- in one directory
same-directory : (m : DirectoryMap) (t c : ℕ) (from_name to_name : List ℕ) (d : DirectoryValue) → get m t ≡ Some d
    → same_name from_name to_name ≡ false
    → first m t t c from_name to_name ≡ last t t c from_name to_name (insert m t (removed to_name d))
same-directory m t c from_name to_name d there other =
    ap (changed_at (removed from_name) t) (ap (λ o. changed_value (replaced to_name c) o t m) there)
    ∙ ap (λ o. changed_value (removed from_name) o t (insert m t a)) (get-put m t a)
    ∙ insert-twice m t a (removed from_name a)
    ∙ ap (insert m t) (removed-added r from_name to_name c other)
    ∙ sym (insert-twice gone t x (added to_name c (directory_or_empty (get (insert gone t x) t)))
    ∙ ap (λ o. insert gone t (added to_name c (directory_or_empty o))) (get-put gone t x)
    ∙ ap (λ o. insert gone t (added to_name c (removed from_name (directory_or_empty o)))) (get-put m t r)
    ∙ insert-twice m t r (added to_name c (removed from_name r)))
  where
    a : DirectoryValue
    a = replaced to_name c d

    r : DirectoryValue
    r = removed to_name d

    gone : DirectoryMap
    gone = insert m t r

    x : DirectoryValue
    x = removed from_name (directory_or_empty (get gone t))

-- in two
two-directories : (m : DirectoryMap) (f t c : ℕ) (from_name to_name : List ℕ) (e d : DirectoryValue) → get m f ≡ Some e → get m t ≡ Some d
    → (f == t) ≡ false
    → first m f t c from_name to_name ≡ last f t c from_name to_name (insert m t (removed to_name d))
two-directories m f t c from_name to_name e d from_there there other =
    ap (changed_at (removed from_name) f) (ap (λ o. changed_value (replaced to_name c) o t m) there)
    ∙ ap (λ o. changed_value (removed from_name) o f (insert m t a)) (get-put-other m t a f other ∙ from_there)
    ∙ put-across m f t (removed from_name e) a r other
    ∙ sym (ap (λ o. insert (insert gone f (removed from_name (directory_or_empty o))) t
    (added to_name c (directory_or_empty (get (insert gone f (removed from_name (directory_or_empty o))) t)))) (get-put-other m t r f other ∙ from_there)
    ∙ ap (λ o. insert (insert gone f x) t (added to_name c (directory_or_empty o))) (get-put-other gone f x t turned ∙ get-put m t r))
  where
    a : DirectoryValue
    a = replaced to_name c d

    r : DirectoryValue
    r = removed to_name d

    gone : DirectoryMap
    gone = insert m t r

    x : DirectoryValue
    x = removed from_name e

    turned : (t == f) ≡ false
    turned = by (t == f) refl
      where
        by : (b : Bool) → (t == f) ≡ b → (t == f) ≡ false
        by true h = absurd (let no : false ≡ true = sym other ∙ eq-eqb f t (sym (eqb-true t f h)) in cc)
        by false h = h

pub either-way : (m : DirectoryMap) (f t c : ℕ) (from_name to_name : List ℕ) (e d : DirectoryValue) → get m f ≡ Some e → get m t ≡ Some d
    → ((f == t) && same_name from_name to_name) ≡ false
    → first m f t c from_name to_name ≡ last f t c from_name to_name (insert m t (removed to_name d))
either-way m f t c from_name to_name e d from_there there apart = by (f == t) refl
  where
    by : (b : Bool) → (f == t) ≡ b → first m f t c from_name to_name ≡ last f t c from_name to_name (insert m t (removed to_name d))
    by true h =
        subst (λ (q : ℕ). first m q t c from_name to_name ≡ last q t c from_name to_name (insert m t (removed to_name d))) (sym (eqb-true f t h))
        (same-directory m t c from_name to_name d there (sym (ap (λ (x : Bool). x && same_name from_name to_name) h) ∙ apart))
    by false h = two-directories m f t c from_name to_name e d from_there there h

-- where nothing goes
pub either-way-none : (m : DirectoryMap) (f t c : ℕ) (from_name to_name : List ℕ) (e d : DirectoryValue) → get m f ≡ Some e → get m t ≡ Some d
    → ((f == t) && same_name from_name to_name) ≡ false → removed to_name d ≡ d
    → first m f t c from_name to_name ≡ last f t c from_name to_name m
either-way-none m f t c from_name to_name e d from_there there apart kept =
    either-way m f t c from_name to_name e d from_there there apart
    ∙ ap (last f t c from_name to_name) (insert-same m t (removed to_name d) (there ∙ ap (λ (x : DirectoryValue). Some x) (sym kept)))

-- a directory that goes with its entries isn't one that changes
pub removed-across : (m : DirectoryMap) (k t : ℕ) (change : DirectoryValue → DirectoryValue) (d : DirectoryValue) → get m t ≡ Some d
    → get (remove m k) t ≡ Some d → remove (changed_at change t m) k ≡ changed_at change t (remove m k)
removed-across m k t change d there stays =
    ap (λ o. remove (changed_value change o t m) k) there
    ∙ same-answers (remove (insert m t (change d)) k) (insert (remove m k) t (change d)) (λ q.
    get-remove_at (insert m t (change d)) k q ∙ ap (λ o. if q == k then None else o) (get-insert_at m t (change d) q)
    ∙ by q (q == k) refl (q == t) refl
    ∙ sym (get-insert_at (remove m k) t (change d) q ∙ ap (λ o. if q == t then Some (change d) else o) (get-remove_at m k q)))
    ∙ sym (ap (λ o. changed_value change o t (remove m k)) stays)
  where
    other : (b : Bool) → (t == k) ≡ b → (t == k) ≡ false
    other false h = h
    other true h =
        let gone : None ≡ Some d = sym (ap (λ (x : Bool). if x then None else get m t) h) ∙ sym (get-remove_at m k t) ∙ stays in absurd cc

    by : (q : ℕ) (b : Bool) → (q == k) ≡ b → (c : Bool) → (q == t) ≡ c
        → (if b then None else if c then Some (change d) else get m q) ≡ (if c then Some (change d) else if b then None else get m q)
    by q true is_k true is_t = absurd (both-keys q t k (other (t == k) refl) is_t is_k)
    by q true is_k false is_t = refl
    by q false is_k true is_t = refl
    by q false is_k false is_t = refl
