-- What becomes of a page where one of its chunks does.
use Rattle.std.proofs.Common.{◌≡◌, ℕ, ◌/◌, ◌<◌, ◌==◌, cond, List, length, get_or, set}
use Rattle.std.proofs.Common.{Option, None, sym, ap, ◌∙◌, inl, inr, arith}
use Rattle.std.proofs.lemmas.Bool.{cases_eq}
use Rattle.std.proofs.lemmas.List.{get_or-set_same, get_or-set_other, get_or_read}
use Rattle.chunk_maps.specs.SlotLaws.{unlike}
use Rattle.chunk_maps.specs.Chunks.{chunk_size, page_size, place_of, chunk_at, slot_by, value_on, SetsAmong, SameAt}

chunk-in-page : (q : ℕ) → q / chunk_size / 256 ≡ q / page_size
chunk-in-page q = omega arith

-- one place of one page has one chunk's fileids
same-chunk : (q f : ℕ) → place_of q ≡ place_of f → q / page_size ≡ f / page_size → q / chunk_size ≡ f / chunk_size
same-chunk q f place page = let a = chunk-in-page q in let b = chunk-in-page f in omega (arith, place, page, a, b)

module _ {C V : Type 0} (slot : C → ℕ → Option V) (page : List (Option C)) (i : ℕ) (old new : Option C) (within : i < length page)
    (read : old ≡ get_or page i old) where
  was : old ≡ chunk_at page i
  was = get_or_read page i old within read None

  at-place : (j : ℕ) → j ≡ i → chunk_at (set page i new) j ≡ new
  at-place j e = ap (chunk_at (set page i new)) e ∙ get_or-set_same page i new None within

  -- what is under one fileid of the chunk set
  pub page-set : (f : ℕ) (value : Option V) → i ≡ place_of f → SetsAmong chunk_size f value (slot_by slot old) (slot_by slot new)
      → SetsAmong page_size f value (value_on slot page) (value_on slot (set page i new))
  page-set f value is sets q same = elim (cases_eq (place_of q) i) [
    | inl e ↦
        ap (λ chunk. slot_by slot chunk q) (at-place (place_of q) e) ∙ sets q (same-chunk q f (e ∙ is) same)
        ∙ ap (λ chunk. cond (q == f) value (slot_by slot chunk q)) (was ∙ ap (chunk_at page) (sym e))
    | inr apart ↦
        ap (λ chunk. slot_by slot chunk q) (get_or-set_other page i (place_of q) new None apart)
        ∙ sym (ap (λ b. cond b value (value_on slot page q)) (unlike q f (λ e. apart (ap place_of e ∙ sym is))))
  ]

  -- the chunk as it was
  pub page-same : new ≡ old → SameAt (value_on slot page) (value_on slot (set page i new))
  page-same same q = elim (cases_eq (place_of q) i) [
    | inl e ↦ ap (λ chunk. slot_by slot chunk q) (at-place (place_of q) e ∙ same ∙ was ∙ ap (chunk_at page) (sym e))
    | inr apart ↦ ap (λ chunk. slot_by slot chunk q) (get_or-set_other page i (place_of q) new None apart)
  ]
