-- The cookies of an index whose spots change.
use Rattle.std.proofs.Common.{◌≡◌, refl, ◌∙◌, ap, ℕ, zero, suc, List, [], ◌∷◌, length, Some, Option, slice_set}
use Rattle.std.specs.List.{slice_get, insert, remove}
use Rattle.std.specs.Option.{option_map}
use Rattle.std.proofs.lemmas.List.{length-map}
use Rattle.std.proofs.lemmas.Option.{slice_get-map}
use Rattle.nfs_values.specs.declared.number.Cookie.{Cookie}
use Rattle.directories.specs.declared.spot.Spot.{Spot}
use Rattle.directories.specs.Index.{cookies}

abbrev cookie_of : Spot → Cookie
cookie_of s = s.cookie

pub length-cookies : (spots : List Spot) → length (cookies spots) ≡ length spots
length-cookies spots = length-map spots cookie_of

pub cookie-at : (spots : List Spot) (position : ℕ) (s : Spot) → slice_get spots position ≡ Some s → slice_get (cookies spots) position ≡ Some s.cookie
cookie-at spots position s g = slice_get-map cookie_of spots position ∙ ap (λ (o : Option Spot). option_map cookie_of o) g

pub cookies-insert : (spots : List Spot) (position : ℕ) (s : Spot) → cookies (insert spots position s) ≡ insert (cookies spots) position s.cookie
cookies-insert [] zero s = refl
cookies-insert [] (suc position) s = refl
cookies-insert (x ∷ spots) zero s = refl
cookies-insert (x ∷ spots) (suc position) s = ap (λ (l : List Cookie). x.cookie ∷ l) (cookies-insert spots position s)

pub cookies-remove : (spots : List Spot) (position : ℕ) → cookies (remove spots position) ≡ remove (cookies spots) position
cookies-remove [] zero = refl
cookies-remove [] (suc position) = refl
cookies-remove (x ∷ spots) zero = refl
cookies-remove (x ∷ spots) (suc position) = ap (λ (l : List Cookie). x.cookie ∷ l) (cookies-remove spots position)

pub cookies-set : (spots : List Spot) (position : ℕ) (s : Spot) → cookies (slice_set spots position s) ≡ slice_set (cookies spots) position s.cookie
cookies-set [] position s = refl
cookies-set (x ∷ spots) zero s = refl
cookies-set (x ∷ spots) (suc position) s = ap (λ (l : List Cookie). x.cookie ∷ l) (cookies-set spots position s)
