-- What is still to be written of a list.
use Rattle.std.proofs.Common.{◌≡◌, ℕ, ◌+◌, ◌*◌, ◌<◌, List, ◌∷◌, ◌++◌, length, map, drop, get_or, sym, ap, ◌∙◌, append_assoc}
use Rattle.std.specs.List.{flat_map}
use Rattle.std.proofs.lemmas.List.{length-map, at_drop_more}
use Rattle.std.proofs.lemmas.Simd.{map-map}
use Rattle.xdr.specs.Shape.{Shape, Chain, Value, word, spelling}
use Rattle.nfs_values.specs.declared.answer.VolumeCount.{VolumeCount}
use Rattle.nfs_values.specs.declared.answer.DirectoryEntry.{DirectoryEntry}
use Rattle.nfs_values.specs.Answer.{count_of, entry_of}
use Rattle.nfs_types.specs.Results.{count_shape, count_value, entry_shape, entry_value}
use Rattle.nfs_types.specs.lemmas.Lists as lists

-- the items of a list
abbrev pub chain_spelled : {T : Type 0} (shape : Shape) → (T → Value shape) → List T → List ℕ
chain_spelled shape value items = spelling (Chain shape) (map value items)

pub chain_more : {T : Type 0} (shape : Shape) (value : T → Value shape) (items : List T) (i : ℕ) (x : T) → i < length items → x ≡ get_or items i x
    → chain_spelled shape value (drop i items) ≡ word 1 ++ (spelling shape (value x) ++ chain_spelled shape value (drop (i + 1) items))
chain_more {T} shape value items i x lt e =
    at_drop_more (chain_spelled shape value) items i x lt
    ∙ ap (λ (y : T). chain_spelled shape value (y ∷ drop (i + 1) items)) (sym e)

-- the entries of a list, and one of them
abbrev pub entries_spelled : List DirectoryEntry → List ℕ
entries_spelled entries = chain_spelled entry_shape (λ e. entry_value (entry_of e)) entries

abbrev pub entry_spelled : DirectoryEntry → List ℕ
entry_spelled e = spelling entry_shape (entry_value (entry_of e))

-- what the items of a list that was lent stand for, in two steps
pub told_twice : {A B C : Type 0} (g : B → C) (f : A → B) (lent items : List A) → lent ≡ items → map g (map f items) ≡ map (λ x. g (f x)) lent
told_twice {A} g f lent items e = map-map g f items ∙ ap (λ (l : List A). map (λ x. g (f x)) l) (sym e)

-- the counts of a list, and one of them
abbrev pub counts_spelled : List VolumeCount → List ℕ
counts_spelled volumes = flat_map (λ v. spelling count_shape v) (map count_value (map count_of volumes))

abbrev pub count_spelled : VolumeCount → List ℕ
count_spelled volume = spelling count_shape (count_value (count_of volume))

pub counts_more : (volumes : List VolumeCount) (i : ℕ) (d : VolumeCount) → i < length volumes
    → counts_spelled (drop i volumes) ≡ count_spelled (get_or volumes i d) ++ counts_spelled (drop (i + 1) volumes)
counts_more volumes i d lt = at_drop_more counts_spelled volumes i d lt

-- one more item is written
pub item_more : (out new item rest old all : List ℕ) → old ≡ item ++ rest → out ++ old ≡ all → new ≡ out ++ item → new ++ rest ≡ all
item_more out new item rest old all e h n = rw n (append_assoc out item rest ∙ ap (λ (t : List ℕ). out ++ t) (sym e) ∙ h)

-- a count takes twenty bytes
pub length-counts : (volumes : List VolumeCount) → length (counts_spelled volumes) ≡ 20 * length volumes
length-counts volumes = lists.length-counts (map count_of volumes) ∙ ap (λ (n : ℕ). 20 * n) (length-map volumes count_of)
