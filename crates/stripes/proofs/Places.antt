-- Places of a span's array, as the code reads and writes them.
use Rattle.std.proofs.Common.{◌≡◌, ◌≢◌, eq-eqb, ℕ, zero, suc, ◌%◌, ◌<◌, ◌==◌, false, cond, [], ◌∷◌, length, get_or, set, replicate, refl, sym, ap, ◌∙◌, arith}
use Rattle.std.proofs.Common.{Option, Some, None, inl, inr}
use Rattle.std.proofs.lemmas.Bool.{cases_eq, cases_lt}
use Rattle.std.proofs.lemmas.Bool.Decides.{nat_tests}
use Rattle.std.proofs.lemmas.List.{get_or-set_same, get_or-set_other, get_or-replicate, get_or_past, length-replicate}
use Rattle.nfs_model.specs.volume.Stripes.{Block, span_blocks}
use Rattle.stripes.specs.Spans.{Places, place_of}

pub unlike : (a b : ℕ) → a ≢ b → (a == b) ≡ false
unlike a b h = grind (arith, nat_tests)

same-default : (xs : Places) (i : ℕ) (d e : Option Block) → i < length xs → get_or xs i d ≡ get_or xs i e
same-default [] i d e h = absurd (omega arith)
same-default (x ∷ xs) zero d e h = refl
same-default (x ∷ xs) (suc i) d e h = same-default xs i d e (omega arith)

-- what an index gives
pub at-place : (xs ys : Places) (i block : ℕ) (d : Option Block) → ys ≡ xs → i ≡ block % span_blocks → i < length xs → get_or ys i d ≡ place_of xs block
at-place xs ys i block d e h below = ap (λ l. get_or l i d) e ∙ same-default xs i d None below ∙ ap (λ j. get_or xs j None) h

abbrev pub none_here : Option Block
none_here = None

pub nothing-there : (n i : ℕ) → get_or (replicate n none_here) i None ≡ None
nothing-there n i = elim (cases_lt i n) [
  | inl below ↦ get_or-replicate n i none_here None below
  | inr past ↦ get_or_past (replicate n none_here) i None (omega (arith, length-replicate n none_here))
]

-- a block put among no others
pub put-alone : (xs : Places) (i number b : ℕ) (block : Block) → xs ≡ replicate 64 none_here → i ≡ number % span_blocks
    → place_of (set xs i (Some block)) b ≡ cond (b % span_blocks == number % span_blocks) (Some block) None
put-alone xs i number b block none h =
    let long : length xs ≡ 64 = ap length none ∙ length-replicate 64 none_here in
    elim (cases_eq (b % span_blocks) (number % span_blocks)) [
      | inl same ↦ ap (λ j. get_or (set xs i (Some block)) j None) (same ∙ sym h) ∙ get_or-set_same xs i (Some block) None (omega arith)
          ∙ sym (ap (λ t. cond t (Some block) none_here) (eq-eqb _ _ same))
      | inr other ↦ get_or-set_other xs i (b % span_blocks) (Some block) None (λ e. other (e ∙ h))
          ∙ ap (λ l. get_or l (b % span_blocks) None) none ∙ nothing-there 64 (b % span_blocks)
          ∙ sym (ap (λ t. cond t (Some block) none_here) (unlike _ _ other))
    ]
