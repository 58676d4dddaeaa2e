-- What the calls of a directory have from a search, on plain values.
use Rattle.std.proofs.Common.{◌≡◌, refl, sym, ap, ℕ, zero, suc, ◌<◌, Bool, true, false, List, [], ◌∷◌, length, Option, Some, None, is_some, not, arith}
use Rattle.std.specs.List.{slice_get, remove}
use Rattle.std.specs.Option.{option_map}
use Rattle.nfs_model.specs.Types.{Listed}
use Rattle.nfs_values.specs.declared.number.Cookie.{Cookie}
use Rattle.nfs_model.specs.volume.Directories.{DirectoryValue, found, fileid_found, removed}
use Rattle.directories.specs.Entries.{under, has, dropped}
use Rattle.directories.specs.Index.{name_at, IsIndexed, IsPosition}
use Rattle.directories.proofs.Names.{without-absent}
use Rattle.directories.proofs.Found.{found-there, found-nowhere, known-here}
use Rattle.directories.proofs.Middle.{read_at, at-position}
use Rattle.directories.proofs.Changed.{indexed-dropped, dropped-removed}

pub name-inside : (es : List Listed) (index : List Cookie) (position : ℕ) (name : List ℕ) → name_at es index position ≡ Some name → position < length index
name-inside es [] position name n = absurd (grind (arith, n))
name-inside es (x ∷ index) zero name n = omega arith
name-inside es (x ∷ index) (suc position) name n = let r = name-inside es index position name n in omega (arith, r)

name-position : (es : List Listed) (index : List Cookie) (position : ℕ) (name : List ℕ) → name_at es index position ≡ Some name
    → slice_get index position ≡ Some (read_at index position)
name-position es index position name n = at-position index position (name-inside es index position name n)

pub name-known : (d : DirectoryValue) (index : List Cookie) (position : ℕ) (c : Cookie) (name : List ℕ) → IsIndexed d index
    → name_at d.list index position ≡ Some name
    → slice_get index position ≡ Some c → has d.list c.0 ≡ true
name-known d index position c name x n is = known-here d.list index position c x.index is

pub fileid-there : (d : DirectoryValue) (index : List Cookie) (position : ℕ) (c : Cookie) (name : List ℕ) (e : Listed) → IsIndexed d index
    → name_at d.list index position ≡ Some name → slice_get index position ≡ Some c → under c.0 d.list ≡ Some e → Some e.fileid ≡ fileid_found d name
fileid-there d index position c name e x n is u =
    ap (λ (o : Option Listed). option_map (λ (l : Listed). l.fileid) o)
    (sym (found-there d index position c e name x n is u))

pub found-some : (d : DirectoryValue) (index : List Cookie) (position : ℕ) (name : List ℕ) → IsIndexed d index → name_at d.list index position ≡ Some name
    → is_some (found d name) ≡ true
found-some d index position name x n = by (under (read_at index position).0 d.list) refl
  where
    by : (o : Option Listed) → o ≡ under (read_at index position).0 d.list → is_some (found d name) ≡ true
    by None p = let k = known-here d.list index position (read_at index position) x.index (name-position d.list index position name n) in
        absurd (grind (arith, p, k))
    by (Some e) p = ap (λ (o : Option Listed). is_some o)
        (found-there d index position (read_at index position) e name x n (name-position d.list index position name n) (sym p))

pub fileid-nowhere : (d : DirectoryValue) (index : List Cookie) (position : ℕ) (name : List ℕ) → IsIndexed d index → IsPosition d index name position
    → option_map (λ (l : Listed). l.fileid) None ≡ fileid_found d name
fileid-nowhere d index position name x p = ap (λ (o : Option Listed). option_map (λ (l : Listed). l.fileid) o) (sym (found-nowhere d index position name x p))

pub found-none : (d : DirectoryValue) (index : List Cookie) (position : ℕ) (name : List ℕ) → IsIndexed d index → IsPosition d index name position
    → false ≡ is_some (found d name)
found-none d index position name x p = ap (λ (o : Option Listed). is_some o) (sym (found-nowhere d index position name x p))

-- nothing is removed where the name isn't there
pub removed-none : (d : DirectoryValue) (index : List Cookie) (position : ℕ) (name : List ℕ) → IsIndexed d index → IsPosition d index name position
    → d ≡ removed name d
removed-none d index position name x p = ap (λ (l : List Listed). record d { list = l })
    (sym (without-absent d.list name (found-nowhere d index position name x p)))

pub removed-some : (d : DirectoryValue) (index : List Cookie) (position : ℕ) (c : Cookie) (name : List ℕ) → IsIndexed d index
    → name_at d.list index position ≡ Some name
    → slice_get index position ≡ Some c → dropped c.0 d ≡ removed name d
removed-some d index position c name x n is = dropped-removed d index position c name x n is

pub still-indexed : (d : DirectoryValue) (index : List Cookie) (position : ℕ) (c : Cookie) (name : List ℕ) → IsIndexed d index
    → name_at d.list index position ≡ Some name
    → slice_get index position ≡ Some c → IsIndexed (dropped c.0 d) (remove index position)
still-indexed d index position c name x n is = indexed-dropped d index position c x is

-- a name that isn't there has a position in the index
pub position-of-absent : (d : DirectoryValue) (index : List Cookie) (position : ℕ) (name : List ℕ) (is_there : Bool) → IsIndexed d index → found d name ≡ None
    → (is_there ≡ true → name_at d.list index position ≡ Some name) → (is_there ≡ false → IsPosition d index name position) → IsPosition d index name position
position-of-absent d index position name false x f t a = a refl
position-of-absent d index position name true x f t a = let s = found-some d index position name x (t refl) in absurd (grind (arith, s, f))

pub is-false : (b : Bool) → not b ≡ true → b ≡ false
is-false true e = absurd (grind (arith, e))
is-false false e = refl

pub is-true : (b : Bool) → not b ≡ false → b ≡ true
is-true true e = refl
is-true false e = absurd (grind (arith, e))
