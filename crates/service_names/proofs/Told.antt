-- Entries become entries with attributes and handles, one by one.
use Rattle.std.proofs.Common.{◌≡◌, ℕ, ◌-◌, ◌<◌, ◌≤◌, List, [], ◌∷◌, ◌++◌, length, map, refl, sym, ap, ◌∙◌, append_assoc, append-nil, arith}
use Rattle.nfs_model.specs.Types.{Listed, ListedPlus}
use Rattle.nfs_model.specs.Serial.Readdirplus.{entry_plus_size, fitting_plus}
use Rattle.nfs_values.specs.Answer.{entry_of, entry_plus_of}
use Rattle.nfs_values.specs.declared.answer.DirectoryEntry.{DirectoryEntry}
use Rattle.nfs_values.specs.declared.answer.DirectoryEntryPlus.{DirectoryEntryPlus}
use Rattle.service_names.proofs.Fitted.{plus-one, plus-none}

-- told so far, and what fits of the rest
abbrev pub SoFar : (Listed → ListedPlus) → List DirectoryEntryPlus → ℕ → List DirectoryEntry → List ListedPlus → Type 0
SoFar f told left rest whole = map entry_plus_of told ++ map f (fitting_plus left (map entry_of rest)) ≡ whole

told-append : (xs ys : List DirectoryEntryPlus) → map entry_plus_of (xs ++ ys) ≡ map entry_plus_of xs ++ map entry_plus_of ys
told-append [] ys = refl
told-append (x ∷ xs) ys = ap (λ (l : List ListedPlus). entry_plus_of x ∷ l) (told-append xs ys)

pub no-more : {X : Type 0} (xs : List X) (n : ℕ) → n ≡ length xs → n ≡ 0 → xs ≡ []
no-more [] n same none = refl
no-more (x ∷ xs) n same none = absurd (omega (arith, same, none))

module _ (f : Listed → ListedPlus) (told : List DirectoryEntryPlus) (left : ℕ) (rest : List DirectoryEntry) (whole : List ListedPlus)
    (so_far : SoFar f told left rest whole) where
  -- none is left
  pub all-told : rest ≡ [] → map entry_plus_of told ≡ whole
  all-told none =
      sym (append-nil (map entry_plus_of told))
      ∙ ap (λ (es : List DirectoryEntry). map entry_plus_of told ++ map f (fitting_plus left (map entry_of es))) (sym none) ∙ so_far

  module _ (e : DirectoryEntry) (behind : List DirectoryEntry) (next : rest ≡ e ∷ behind) (size : ℕ) (is : size ≡ entry_plus_size (entry_of e)) where
    -- the next one doesn't fit
    pub page-full : left < size → map entry_plus_of told ≡ whole
    page-full less =
        let none : fitting_plus left (map entry_of rest) ≡ [] =
        ap (λ (es : List DirectoryEntry). fitting_plus left (map entry_of es)) next
        ∙ plus-none left (entry_of e) (map entry_of behind) (omega (arith, is, less)) in
        sym (append-nil (map entry_plus_of told)) ∙ ap (λ (es : List Listed). map entry_plus_of told ++ map f es) (sym none) ∙ so_far

    -- the next one fits
    pub one-told : size ≤ left → (x : DirectoryEntryPlus) → entry_plus_of x ≡ f (entry_of e) → SoFar f (told ++ x ∷ []) (left - size) behind whole
    one-told fits x same =
        let one : fitting_plus left (map entry_of rest) ≡ entry_of e ∷ fitting_plus (left - size) (map entry_of behind) =
        ap (λ (es : List DirectoryEntry). fitting_plus left (map entry_of es)) next
        ∙ plus-one left (entry_of e) (map entry_of behind) (omega (arith, is, fits))
        ∙ ap (λ (n : ℕ). entry_of e ∷ fitting_plus (left - n) (map entry_of behind)) (sym is) in
        let rest_told = map f (fitting_plus (left - size) (map entry_of behind)) in
        ap (λ (l : List ListedPlus). l ++ rest_told) (told-append told (x ∷ []))
        ∙ append_assoc (map entry_plus_of told) (entry_plus_of x ∷ []) rest_told
        ∙ ap (λ (y : ListedPlus). map entry_plus_of told ++ y ∷ rest_told) same
        ∙ ap (λ (es : List Listed). map entry_plus_of told ++ map f es) (sym one) ∙ so_far
