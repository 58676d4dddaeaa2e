-- The numbers of blocks past a size, in the order of their places.
use Rattle.std.proofs.Common.{◌≡◌, Bool, true, false, cond, List, [], ◌∷◌, refl, sym, ap, ◌∙◌, inl, inr, Option, Some, None, is_some, Ordering}
use Rattle.std.specs.List.{filter}
use Rattle.std.specs.declared.cmp.Ordering.TheVariants.{Less, Equal, Greater}
use Rattle.std.specs.Ordering.{eq_by_cmp}
use Rattle.std.specs.BTreeMap.{is_at}
use Rattle.std.specs.FinMap.{FinMap, get, insert, entries, find, get-entries, get-insert, entries-insert, same_map}
use Rattle.std.specs.FinMap.Entries.{put, by_order}
use Rattle.nfs_model.specs.volume.Stripes.{Block, FileBlock, file_block_cmp}
use Rattle.nfs_model.specs.volume.lemmas.Entries.{place_total, place_same}
use Rattle.stripes.proofs.Keys.{key-cases, key-itself, key-turned}

abbrev PlacedBlock : Type 0
PlacedBlock = FileBlock × Block

found-here : (e : PlacedBlock) (es : List PlacedBlock) → is_some (find file_block_cmp e.0 (e ∷ es)) ≡ true
found-here e es = ap (λ t. is_some (cond t (Some e.1) (find file_block_cmp e.0 es))) (key-itself e.0)

found-later : (q : FileBlock) (e : PlacedBlock) (es : List PlacedBlock) → is_some (find file_block_cmp q es) ≡ true
    → is_some (find file_block_cmp q (e ∷ es)) ≡ true
found-later q e es h = by (eq_by_cmp file_block_cmp q e.0)
  where
    by : (t : Bool) → is_some (cond t (Some e.1) (find file_block_cmp q es)) ≡ true
    by true = refl
    by false = h

-- none of the entries passes
filter-none : (test : FileBlock → Bool) (es : List PlacedBlock) → ((q : FileBlock) → is_some (find file_block_cmp q es) ≡ true → test q ≡ false)
    → filter (λ (e : PlacedBlock). test e.0) es ≡ []
filter-none test [] none = refl
filter-none test (e ∷ es) none =
    ap (λ t. cond t (e ∷ filter (λ (e : PlacedBlock). test e.0) es) (filter (λ (e : PlacedBlock). test e.0) es)) (none e.0 (found-here e es))
    ∙ filter-none test es (λ q h. none q (found-later q e es h))

-- an entry before all others that pass
filter-first : (test : FileBlock → Bool) (k : FileBlock) (v : Block) (es : List PlacedBlock) → test k ≡ true
    → ((q : FileBlock) → is_some (find file_block_cmp q es) ≡ true → file_block_cmp k q ≡ Equal → ⊥)
    → ((q : FileBlock) → is_some (find file_block_cmp q es) ≡ true → file_block_cmp k q ≡ Greater → test q ≡ false)
    → filter (λ (e : PlacedBlock). test e.0) (put file_block_cmp k v es) ≡ (k, v) ∷ filter (λ (e : PlacedBlock). test e.0) es
filter-first test k v [] passes other before = ap (λ t. cond t ((k, v) ∷ []) []) passes
filter-first test k v (e ∷ es) passes other before =
    by (file_block_cmp k e.0) refl (filter-first test k v es passes (λ q f. other q (found-later q e es f)) (λ q f. before q (found-later q e es f)))
  where
    rest : List PlacedBlock
    rest = filter (λ (x : PlacedBlock). test x.0) es

    by : (r : Ordering) → file_block_cmp k e.0 ≡ r → filter (λ (x : PlacedBlock). test x.0) (put file_block_cmp k v es) ≡ (k, v) ∷ rest
        → filter (λ (x : PlacedBlock). test x.0) (by_order r ((k, v) ∷ e ∷ es) ((e.0, v) ∷ es) (e ∷ put file_block_cmp k v es))
        ≡ (k, v) ∷ filter (λ (x : PlacedBlock). test x.0) (e ∷ es)
    by Less h next = ap (λ t. cond t ((k, v) ∷ cond (test e.0) (e ∷ rest) rest) (cond (test e.0) (e ∷ rest) rest)) passes
    by Equal h next = absurd (other e.0 (found-here e es) h)
    by Greater h next =
        let fails : test e.0 ≡ false = before e.0 (found-here e es) h in
        ap (λ t. cond t (e ∷ filter (λ (x : PlacedBlock). test x.0) (put file_block_cmp k v es)) (filter (λ (x : PlacedBlock). test x.0)
        (put file_block_cmp k v es))) fails
        ∙ next ∙ ap (λ t. (k, v) ∷ cond t (e ∷ rest) rest) (sym fails)

-- what a map without a place has past a size, and what it had before
pub freed-first : (test : FileBlock → Bool) (k : FileBlock) (v : Block) (old new : FinMap file_block_cmp Block) → test k ≡ true → get old k ≡ Some v
    → ((q : FileBlock) → get new q ≡ cond (is_at (file_block_cmp k) q) None (get old q))
    → ((q : FileBlock) → test q ≡ true → file_block_cmp k q ≡ Greater → get old q ≡ None)
    → filter (λ (e : PlacedBlock). test e.0) (entries old) ≡ (k, v) ∷ filter (λ (e : PlacedBlock). test e.0) (entries new)
freed-first test k v old new passes there gone first =
    ap (λ m. filter (λ (e : PlacedBlock). test e.0) (entries m)) again ∙ ap (filter (λ (e : PlacedBlock). test e.0)) (entries-insert place_total new k v)
    ∙ filter-first test k v (entries new) passes
    (λ q f h. let same = place_same k q h in absurd (let no : false ≡ true = sym (ap is_some (left q) ∙ ap (λ t. is_some (cond t None (get old q)))
    (ap (λ p. is_at (file_block_cmp k) p) (sym same) ∙ key-itself k)) ∙ f in cc))
    (λ q f h. by (test q) (test q) refl (λ t. absurd (let no : false ≡ true = sym
    (ap is_some (left q ∙ ap (cond (is_at (file_block_cmp k) q) None) (first q t h)) ∙ neither (is_at (file_block_cmp k) q)) ∙ f in cc)))
  where
    left : (q : FileBlock) → find file_block_cmp q (entries new) ≡ cond (is_at (file_block_cmp k) q) None (get old q)
    left q = sym (get-entries new q) ∙ gone q

    nothing : Option Block
    nothing = None

    neither : (t : Bool) → is_some (cond t nothing nothing) ≡ false
    neither true = refl
    neither false = refl

    by : (t x : Bool) → x ≡ t → (x ≡ true → x ≡ false) → x ≡ false
    by true x e h = h e
    by false x e h = e

    again : old ≡ insert new k v
    again = same_map place_total place_same _ _ (λ q. elim (key-cases k q) [
      | inl same ↦ ap (get old) (sym same) ∙ there ∙ sym (get-insert place_total new k v q
          ∙ ap (λ t. cond t (Some v) (get new q)) (sym (key-turned k q) ∙ ap (λ p. is_at (file_block_cmp k) p) (sym same) ∙ key-itself k))
      | inr other ↦ sym (get-insert place_total new k v q ∙ ap (λ t. cond t (Some v) (get new q)) (sym (key-turned k q) ∙ other)
          ∙ gone q ∙ ap (λ t. cond t None (get old q)) other)
    ])

-- none is past a size
pub freed-none : (test : FileBlock → Bool) (m : FinMap file_block_cmp Block) → ((q : FileBlock) → test q ≡ true → get m q ≡ None)
    → filter (λ (e : PlacedBlock). test e.0) (entries m) ≡ []
freed-none test m none = filter-none test (entries m) (λ q f. by (test q) (test q) refl
    (λ t. absurd (let no : false ≡ true = sym (ap is_some (sym (get-entries m q) ∙ none q t)) ∙ f in cc)))
  where
    by : (t x : Bool) → x ≡ t → (x ≡ true → x ≡ false) → x ≡ false
    by true x e h = h e
    by false x e h = e
