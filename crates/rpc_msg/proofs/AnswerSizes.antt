-- How many bytes results take that have bytes, lists or handles of any number.
use Rattle.std.proofs.Common.{◌≡◌, ◌^◌, ℕ, min, take, Option, Some, None, ◌+◌, ◌-◌, ◌*◌, ◌≤◌, Bool, true, false}
use Rattle.std.proofs.Common.{cond, List, [], ◌∷◌, ◌++◌, length, map, replicate, refl, sym, subst, ap, ◌∙◌, arith}
use Rattle.std.specs.Prelude.{nat_le, IfSome}
use Rattle.std.specs.Option.{option_map}
use Rattle.std.proofs.lemmas.Bool.{leb-true}
use Rattle.std.proofs.lemmas.List.{length-append, length-replicate, length-take}
use Rattle.xdr.specs.Shape.{Array, Word, Chain, Optional, Boolean, word, hyper, flag, padding, padded, linked, spelling}
use Rattle.nfs_model.specs.Types as model
use Rattle.nfs_model.specs.Serial.Readdir.{entry_size, fitting}
use Rattle.nfs_model.specs.Serial.Readdirplus.{entry_plus_size, fitting_plus}
use Rattle.nfs_types.specs.Shapes.{◌&◌, handle_shape, after_shape, attributes_value, change_shape, change_value}
use Rattle.nfs_model.specs.Serial.Mount.{root_of, mounted, mount, parts}
use Rattle.nfs_types.specs.Results.{entry_shape, entry_value, entry_plus_shape, entry_plus_value, answer_bytes}
use Rattle.nfs_types.specs.lemmas.Absent.{length-absent_bytes}
use Rattle.nfs_types.specs.lemmas.Lists.{length-counts, length-exports}
use Rattle.rpc_msg.specs.HandleForm.{told_in_run, verifier_of}
use Rattle.rpc_msg.specs.Handles.{answer_with, listed_with}
use Rattle.rpc_msg.specs.Replies.{reply_record}
use Rattle.rpc_msg.specs.Room.{padded_size}

-- ---- bytes with their padding

padded_is : (n : ℕ) → n + padding n ≡ padded_size n
padded_is n = omega arith

padded_more : (n m : ℕ) → n ≤ m → padded_size n ≤ padded_size m
padded_more n m h = omega arith

pub length-padded : (bytes : List ℕ) → length (padded bytes) ≡ padded_size (length bytes)
length-padded bytes =
    length-append bytes (replicate (padding (length bytes)) 0)
    ∙ ap (λ (k : ℕ). length bytes + k) (length-replicate (padding (length bytes)) 0)
    ∙ padded_is (length bytes)

-- ---- results with their handles

-- how many bytes more they take where their handles are told in a run
abbrev pub more_of : model.Answer → ℕ
more_of (model.LookupDone handle object directory) = 8
more_of (model.MadeDone handle object directory) = 8
more_of (model.ReaddirplusDone directory page eof) = 8 * length page
more_of (model.MountDone handle) = 8
more_of answer = 0

-- the results take at most this many bytes, however their handles are told
pub record Takes (n : ℕ) (answer : model.Answer) : Type 0 where
  pub bytes : more_of answer + length (answer_bytes answer) ≤ n

-- ---- what MOUNT answers

mounted_size : (volume : Option ℕ) → Takes 204 (root_of volume)
mounted_size None = record { bytes = omega arith }
mounted_size (Some volume) = record { bytes = omega arith }

either_size : (b : Bool) (x y : model.Answer) → Takes 204 x → Takes 204 y → Takes 204 (cond b x y)
either_size true x y a c = a
either_size false x y a c = c

-- whatever MOUNT answers
pub mount_size : (volumes : ℕ) (call : model.MountCall) → Takes 204 (mount volumes call)
mount_size volumes (model.Mnt path) =
    let long : Takes 204 (model.Failed model.NameTooLong 0) = record { bytes = omega arith } in
    let bad : Takes 204 (model.Failed model.Invalid 0) = record { bytes = omega arith } in
    either_size _ _ _ long (either_size _ _ _ bad (mounted_size (mounted volumes (parts path))))
mount_size volumes model.Dump = record { bytes = omega arith }
mount_size volumes model.Exports = record { bytes = omega (arith, length-exports 0 (min volumes 10)) }
mount_size volumes model.Unmount = record { bytes = omega arith }

pub failed_size : (status : model.Status) (absent : ℕ) → length (answer_bytes (model.Failed status absent)) ≡ 4 + 4 * absent
failed_size status absent = omega (arith, length-absent_bytes absent)

-- ---- bytes that were read

pub read_size : (count : ℕ) (eof : Bool) (bytes : List ℕ) (most : ℕ) → length bytes ≤ most → Takes (20 + padded_size most) (model.ReadDone count eof bytes)
read_size count eof bytes most h = record { bytes = omega (arith, length-padded bytes, padded_more (length bytes) most h) }

-- a text of at most this many bytes
pub readlink_size : (object : model.Shown) (text : List ℕ) (most : ℕ) → length text ≤ most
    → Takes (96 + padded_size most) (model.ReadlinkDone object text)
readlink_size object text most h = record { bytes = omega (arith, length-padded text, padded_more (length text) most h) }

-- ---- entries

-- the bytes of entries, without the flags of the list's end
abbrev pub entries_size : List model.Listed → ℕ
entries_size [] = 0
entries_size (e ∷ es) = entry_size e + entries_size es

length-entry : (e : model.Listed) → length (spelling entry_shape (entry_value e)) + 4 ≡ entry_size e
length-entry e = omega (arith, length-append (padded e.name) (hyper e.cookie), length-padded e.name)

length-entries : (es : List model.Listed) → length (linked (λ v. spelling entry_shape v) (map entry_value es)) ≡ 4 + entries_size es
length-entries [] = refl
length-entries (e ∷ es) =
    omega (
      arith,
      length-entries es,
      length-entry e,
      length-append (spelling entry_shape (entry_value e))
          (linked (λ v. spelling entry_shape v) (map entry_value es)),
    )

pub readdir_size : (directory : model.Shown) (page : List model.Listed) (eof : Bool)
    → length (answer_bytes (model.ReaddirDone directory page eof)) ≡ 108 + entries_size page
readdir_size directory page eof =
    let chain = linked (λ v. spelling entry_shape v) (map entry_value page) in
    let rest = spelling (Chain entry_shape & Boolean) (map entry_value page, eof) in
    let verifier = padded (replicate 8 0) in
    let front : length (verifier ++ rest) ≡ 8 + length rest = length-append verifier rest in
    omega (arith, front, length-entries page, length-append chain (word (flag eof)))

fitting_by : (b : Bool) (e : model.Listed) (rest : List model.Listed) (room : ℕ) → (b ≡ true → entry_size e ≤ room) → entries_size rest ≤ room - entry_size e
    → entries_size (cond b (e ∷ rest) []) ≤ room
fitting_by true e rest room h le =
    let fits : entry_size e ≤ room = h refl in
    omega (arith, fits, le)
fitting_by false e rest room h le = omega arith

pub fitting_fits : (es : List model.Listed) (room : ℕ) → entries_size (fitting room es) ≤ room
fitting_fits [] room = omega arith
fitting_fits (e ∷ es) room =
    fitting_by (nat_le (entry_size e) room) e (fitting (room - entry_size e) es) room (leb-true (entry_size e) room) (fitting_fits es (room - entry_size e))

-- ---- entries with attributes and handles

-- the bytes that are reserved for entries, without the flags of the list's end
abbrev pub entries_plus_size : List model.Listed → ℕ
entries_plus_size [] = 0
entries_plus_size (e ∷ es) = entry_plus_size e + entries_plus_size es

-- what is told of an entry takes no more than is reserved for it, with 8 bytes more for its handle
abbrev pub IsShort : model.Listed → model.ListedPlus → Type 0
IsShort e told = length (spelling entry_plus_shape (entry_plus_value told)) + 12 ≤ entry_plus_size e

attributes_told : Option model.Shown → List ℕ
attributes_told attributes = spelling after_shape (option_map attributes_value attributes)

handle_told : Option (List ℕ) → List ℕ
handle_told handle = spelling (Optional handle_shape) handle

length-attributes : (attributes : Option model.Shown) → length (attributes_told attributes) ≤ 88
unfolding attributes_told
length-attributes None = omega arith
length-attributes (Some a) = omega arith

-- a handle, if there is one, has at most 12 bytes
abbrev pub IsShortHandle : Option (List ℕ) → Type 0
IsShortHandle handle = IfSome handle (λ (bytes : List ℕ). length bytes ≤ 12)

length-handle : (handle : Option (List ℕ)) → IsShortHandle handle → length (handle_told handle) ≤ 20
unfolding handle_told
length-handle None h = omega arith
length-handle (Some handle) h = omega (arith, length-padded handle, padded_more (length handle) 12 h)

length-optional : (handle : List ℕ) → length (handle_told (Some handle)) ≡ 8 + length (padded handle)
unfolding handle_told
length-optional handle = omega arith

length-entry_plus : (t : model.ListedPlus)
    → length (spelling entry_plus_shape (entry_plus_value t))
    ≡ 20 + length (padded t.entry.name) + (length (attributes_told t.attributes) + length (handle_told t.handle))
unfolding attributes_told handle_told
length-entry_plus t =
    let attributes = spelling after_shape (option_map attributes_value t.attributes) in
    let handle = spelling (Optional handle_shape) t.handle in
    omega (arith, length-append (padded t.entry.name) (hyper t.entry.cookie ++ (attributes ++ handle)), length-append attributes handle)

pub entry_is_short : (e : model.Listed) (attributes : Option model.Shown) (handle : Option (List ℕ)) → IsShortHandle handle
    → IsShort e (record { entry = e; attributes = attributes; handle = handle })
entry_is_short e attributes handle h =
    omega (
      arith,
      length-entry_plus (record { entry = e; attributes = attributes; handle = handle }),
      length-padded e.name,
      length-attributes attributes,
      length-handle handle h,
    )

length-entries_plus : (told : model.Listed → model.ListedPlus) → ((e : model.Listed) → IsShort e (told e)) → (es : List model.Listed)
    → 8 * length es + length (linked (λ v. spelling entry_plus_shape v) (map entry_plus_value (map told es))) ≤ 4 + entries_plus_size es
length-entries_plus told h [] = omega arith
length-entries_plus told h (e ∷ es) =
    omega (
      arith,
      length-entries_plus told h es,
      h e,
      length-append (spelling entry_plus_shape (entry_plus_value (told e)))
          (linked (λ v. spelling entry_plus_shape v) (map entry_plus_value (map told es))),
    )

pub readdirplus_size : (told : model.Listed → model.ListedPlus) → ((e : model.Listed) → IsShort e (told e)) → (directory : model.Shown)
    (page : List model.Listed) (eof : Bool)
    → 8 * length page + length (answer_bytes (model.ReaddirplusDone directory (map told page) eof)) ≤ 108 + entries_plus_size page
readdirplus_size told h directory page eof =
    let chain = linked (λ v. spelling entry_plus_shape v) (map entry_plus_value (map told page)) in
    let rest = spelling (Chain entry_plus_shape & Boolean) (map entry_plus_value (map told page), eof) in
    let verifier = padded (replicate 8 0) in
    let front : length (verifier ++ rest) ≡ 8 + length rest = length-append verifier rest in
    omega (arith, front, length-entries_plus told h page, length-append chain (word (flag eof)))

fitting_plus_by : (b : Bool) (e : model.Listed) (rest : List model.Listed) (room : ℕ) → (b ≡ true → entry_plus_size e ≤ room)
    → entries_plus_size rest ≤ room - entry_plus_size e → entries_plus_size (cond b (e ∷ rest) []) ≤ room
fitting_plus_by true e rest room h le =
    let fits : entry_plus_size e ≤ room = h refl in
    omega (arith, fits, le)
fitting_plus_by false e rest room h le = omega arith

pub fitting_plus_fits : (es : List model.Listed) (room : ℕ) → entries_plus_size (fitting_plus room es) ≤ room
fitting_plus_fits [] room = omega arith
fitting_plus_fits (e ∷ es) room =
    fitting_plus_by (nat_le (entry_plus_size e) room) e (fitting_plus (room - entry_plus_size e) es) room (leb-true (entry_plus_size e) room)
    (fitting_plus_fits es (room - entry_plus_size e))

-- ---- counts of volumes

pub census_size : (volumes : List model.VolumeCount) → length (answer_bytes (model.CensusDone volumes)) ≡ 4 + 20 * length volumes
census_size volumes = omega (arith, length-counts volumes)

-- ---- records

length-told : (run : ℕ) (handle : List ℕ) → length (told_in_run run handle) ≡ min 12 (length handle) + 8
length-told run handle = length-append (take 12 handle) (verifier_of run) ∙ ap (λ (k : ℕ). k + 8) (length-take 12 handle)

told_padded : (n : ℕ) → padded_size (min 12 n + 8) ≤ 8 + padded_size n
told_padded n = omega arith

handle_more : (run : ℕ) (handle rest : List ℕ) → length (padded (told_in_run run handle) ++ rest) ≤ 8 + length (padded handle ++ rest)
handle_more run handle rest =
    let a = length-append (padded (told_in_run run handle)) rest in
    let b = length-append (padded handle) rest in
    let c = length-padded (told_in_run run handle) ∙ ap padded_size (length-told run handle) in
    omega (arith, a, b, c, length-padded handle, told_padded (length handle))

-- a handle, an entry and a page, as they are told, take 8 bytes more at most, a page of them 8 for each
told_handle : (run : ℕ) (handle : Option (List ℕ))
    → length (handle_told (option_map (told_in_run run) handle)) ≤ 8 + length (handle_told handle)
told_handle run None = omega arith
told_handle run (Some handle) =
    let c = length-padded (told_in_run run handle) ∙ ap padded_size (length-told run handle) in
    omega (
      arith,
      c,
      length-padded handle,
      told_padded (length handle),
      length-optional handle,
      length-optional (told_in_run run handle),
    )

told_entry : (run : ℕ) (t : model.ListedPlus)
    → length (spelling entry_plus_shape (entry_plus_value (listed_with (told_in_run run) t)))
    ≤ 8 + length (spelling entry_plus_shape (entry_plus_value t))
told_entry run t =
    let front = 20 + length (padded t.entry.name) in
    let attributes = length (attributes_told t.attributes) in
    let old = length (handle_told t.handle) in
    let new = length (handle_told (option_map (told_in_run run) t.handle)) in
    let more : new ≤ 8 + old = told_handle run t.handle in
    let both : front + (attributes + new) ≤ 8 + (front + (attributes + old)) = omega (arith, more) in
    subst (λ (n : ℕ). n ≤ 8 + length (spelling entry_plus_shape (entry_plus_value t))) (sym (length-entry_plus (listed_with (told_in_run run) t)))
    (subst (λ (n : ℕ). front + (attributes + new) ≤ 8 + n) (sym (length-entry_plus t)) both)

told_entries : (run : ℕ) (page : List model.ListedPlus)
    → length (linked (λ v. spelling entry_plus_shape v) (map entry_plus_value (map (listed_with (told_in_run run)) page)))
    ≤ 8 * length page + length (linked (λ v. spelling entry_plus_shape v) (map entry_plus_value page))
told_entries run [] = omega arith
told_entries run (t ∷ ts) =
    omega (
      arith,
      told_entries run ts,
      told_entry run t,
      length-append (spelling entry_plus_shape (entry_plus_value (listed_with (told_in_run run) t)))
          (linked (λ v. spelling entry_plus_shape v) (map entry_plus_value (map (listed_with (told_in_run run)) ts))),
      length-append (spelling entry_plus_shape (entry_plus_value t))
          (linked (λ v. spelling entry_plus_shape v) (map entry_plus_value ts)),
    )

length-readdirplus : (directory : model.Shown) (page : List model.ListedPlus) (eof : Bool)
    → length (answer_bytes (model.ReaddirplusDone directory page eof))
    ≡ 104 + length (linked (λ v. spelling entry_plus_shape v) (map entry_plus_value page))
length-readdirplus directory page eof =
    let chain = linked (λ v. spelling entry_plus_shape v) (map entry_plus_value page) in
    let rest = spelling (Chain entry_plus_shape & Boolean) (map entry_plus_value page, eof) in
    let verifier = padded (replicate 8 0) in
    let front : length (verifier ++ rest) ≡ 8 + length rest = length-append verifier rest in
    omega (arith, front, length-append chain (word (flag eof)))

-- results take this many bytes more at most, as they are told
pub told_size : (run : ℕ) (answer : model.Answer)
    → length (answer_bytes (answer_with (told_in_run run) answer)) ≤ more_of answer + length (answer_bytes answer)
told_size run (model.LookupDone handle object directory) =
    omega (arith, handle_more run handle (spelling (after_shape & after_shape) (Some (attributes_value object), Some (attributes_value directory))))
told_size run (model.MadeDone handle object directory) =
    omega (arith, handle_more run handle (spelling (after_shape & change_shape) (Some (attributes_value object), change_value directory)))
told_size run (model.ReaddirplusDone directory page eof) =
    omega (
      arith,
      told_entries run page,
      length-readdirplus directory page eof,
      length-readdirplus directory (map (listed_with (told_in_run run)) page) eof,
    )
told_size run (model.MountDone handle) = omega (arith, handle_more run handle (spelling (Array (2 ^ 32 - 1) Word) (1 ∷ 0 ∷ [])))
told_size run answer = omega arith

pub success_size : (xid : ℕ) (answer : model.Answer) → length (reply_record xid (model.Success answer)) ≡ 28 + length (answer_bytes answer)
success_size xid answer = omega arith
