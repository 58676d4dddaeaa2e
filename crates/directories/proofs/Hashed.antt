-- The hashes of spots when entries come and go.
use Rattle.std.proofs.Common.{◌≡◌, sym, subst, ◌∙◌, ap, ℕ, zero, suc, ◌<◌, List, [], ◌∷◌, length, Some, slice_set}
use Rattle.std.specs.List.{AllByRecursion, slice_get, insert, remove}
use Rattle.nfs_model.specs.Types.{Listed}
use Rattle.nfs_model.specs.volume.Directories.{DirectoryValue, added, entry_added}
use Rattle.directories.specs.declared.spot.Spot.{Spot}
use Rattle.directories.specs.Hash.{name_hash}
use Rattle.directories.specs.Entries.{without, dropped}
use Rattle.directories.specs.Index.{cookies, name_under, name_at, IsIndexed, AreHashed}
use Rattle.directories.proofs.Orders.{all-at, all-insert}
use Rattle.directories.proofs.Found.{known-here}
use Rattle.directories.proofs.Spots.{cookie-at, cookies-remove}
use Rattle.directories.proofs.Changed.{names-kept, name-added, names-left, index-removed}
use Rattle.directories.proofs.Called.{still-indexed}
use Rattle.directories.proofs.Replaced.{name-there, set-is, dropped-added}

abbrev HasHash : List Listed → Spot → Type 0
HasHash es s = s.hash ≡ name_hash (name_under es s.cookie)

-- entries in which the cookies of spots have the same names
hashed-agree : (es fs : List Listed) (spots : List Spot) → AllByRecursion (λ c. name_under fs c ≡ name_under es c) (cookies spots) → AreHashed es spots
    → AreHashed fs spots
hashed-agree es fs [] e h = tt
hashed-agree es fs (s ∷ spots) e h = (h.0 ∙ ap name_hash (sym e.0), hashed-agree es fs spots e.1 h.1)

hashed-remove : (es : List Listed) (spots : List Spot) (position : ℕ) → AreHashed es spots → AreHashed es (remove spots position)
hashed-remove es [] zero h = tt
hashed-remove es [] (suc position) h = tt
hashed-remove es (s ∷ spots) zero h = h.1
hashed-remove es (s ∷ spots) (suc position) h = (h.0, hashed-remove es spots position h.1)

pub hashed-added : (d : DirectoryValue) (spots : List Spot) (position : ℕ) (s : Spot) (name : List ℕ) (fileid : ℕ) → IsIndexed d (cookies spots)
    → AreHashed d.list spots → s.cookie.0 ≡ d.next → s.hash ≡ name_hash name → AreHashed (added name fileid d).list (insert spots position s)
hashed-added d spots position s name fileid x h next is =
    let es = (added name fileid d).list in
    all-insert (HasHash es) spots position s
    (hashed-agree d.list es spots (names-kept d.list (cookies spots) (entry_added name fileid d) x.index) h)
    (is ∙ ap name_hash (sym (name-added d (cookies spots) s.cookie name fileid x next)))

pub hashed-dropped : (d : DirectoryValue) (spots : List Spot) (position : ℕ) (s : Spot) → IsIndexed d (cookies spots) → AreHashed d.list spots
    → slice_get spots position ≡ Some s → AreHashed (dropped s.cookie.0 d).list (remove spots position)
hashed-dropped d spots position s x h g =
    let es = without s.cookie.0 d.list in
    let gone = index-removed d.list (cookies spots) position s.cookie x.index.sorted (cookie-at spots position s g) in
    hashed-agree d.list es (remove spots position)
    (subst (λ l. AllByRecursion (λ c. name_under es c ≡ name_under d.list c) l) (sym (cookies-remove spots position ∙ gone))
    (names-left d.list s.cookie.0 (cookies spots)))
    (hashed-remove d.list spots position h)

-- what the spot of a name has as its hash
hash-there : (d : DirectoryValue) (spots : List Spot) (position : ℕ) (s : Spot) (name : List ℕ) → AreHashed d.list spots
    → name_at d.list (cookies spots) position ≡ Some name → slice_get spots position ≡ Some s → s.hash ≡ name_hash name
hash-there d spots position s name h n g =
    all-at (HasHash d.list) spots position s h g
    ∙ ap name_hash (name-there d.list (cookies spots) position s.cookie name n (cookie-at spots position s g))

pub hashed-replaced : (d : DirectoryValue) (spots : List Spot) (position : ℕ) (old new : Spot) (name : List ℕ) (fileid : ℕ) → IsIndexed d (cookies spots)
    → AreHashed d.list spots → name_at d.list (cookies spots) position ≡ Some name → slice_get spots position ≡ Some old → position < length spots
    → new.cookie.0 ≡ d.next → new.hash ≡ old.hash → AreHashed (dropped old.cookie.0 (added name fileid d)).list (slice_set spots position new)
hashed-replaced d spots position old new name fileid x h n g l next same =
    let index = cookies spots in
    let there = cookie-at spots position old g in
    let less : IsIndexed (dropped old.cookie.0 d) (cookies (remove spots position)) =
    subst (λ i. IsIndexed (dropped old.cookie.0 d) i) (sym (cookies-remove spots position)) (still-indexed d index position old.cookie name x n there) in
    subst (λ (e : DirectoryValue). AreHashed e.list (slice_set spots position new))
    (sym (dropped-added d index old.cookie.0 name fileid x (known-here d.list index position old.cookie x.index there)))
    (subst (λ i. AreHashed (added name fileid (dropped old.cookie.0 d)).list i) (sym (set-is spots position new l))
    (hashed-added (dropped old.cookie.0 d) (remove spots position) position new name fileid less (hashed-dropped d spots position old x h g) next
    (same ∙ hash-there d spots position old name h n g)))
