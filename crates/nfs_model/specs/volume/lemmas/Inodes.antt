-- What is found after an inode is made, set, settled or dropped, and that fileids stay below the next one and the used
-- count that of all filled blocks.
use Rattle.std.proofs.Common.{◌≡◌, refl, sym, ap, ◌∙◌, ℕ, ◌+◌, ◌-◌, ◌<◌, ◌≤◌, Bool, true, false, cond, ◌==◌}
use Rattle.std.proofs.Common.{◌&&◌, List, [], ◌∷◌, length, Option, Some, None, is_some, if◌then◌else◌, arith}
use Rattle.std.specs.declared.cmp.Ordering.{Ordering}
use Rattle.std.specs.declared.cmp.Ordering.TheVariants.{Less, Equal, Greater}
use Rattle.std.specs.Ordering.{nat_cmp, is_eq}
use Rattle.std.specs.Cmp.{nat_cmp_total, unsigned_tied}
use Rattle.std.specs.FinMap.{FinMap, get, insert, remove, entries, len, find, put}
use Rattle.std.specs.FinMap.{get-from_sorted, get-entries, entries-insert, entries-from_sorted, len-entries}
use Rattle.std.specs.FinMap.{len-insert, len-remove}
use Rattle.std.specs.FinMap.Entries.{by_order}
use Rattle.std.proofs.lemmas.Map.Views.{exact_unsigned_eq}
use Rattle.nfs_model.specs.Types.{Moment, Ownership}
use Rattle.nfs_model.specs.volume.Maps.{changed_value}
use Rattle.nfs_model.specs.volume.lemmas.Numbered.{itself, get-insert_at, get-remove_at, len-changed_at, insert-same, insert-twice}
use Rattle.nfs_model.specs.volume.lemmas.Numbered.{insert-removed, removed-absent, remove-inserted, remove-absent}
use Rattle.nfs_model.specs.volume.Inodes.{Inode, InodesValue, inode_of, filled_blocks, blocks_filled, settled_inode, inode_settled}
use Rattle.nfs_model.specs.volume.Inodes.{inode_replaced, inode_set, inode_created, used_without, inode_dropped, inode_unmade}
use Rattle.nfs_model.specs.volume.Inodes.{IsInodes, opening_inodes, root_inode}

-- ---- the blocks of inodes

past : (a b c d : ℕ) → b ≡ c + d → a + b ≡ c + (a + d)
past a b c d h = omega (arith, h)

filled-put : (k : ℕ) (x : Inode) (es : List (ℕ × Inode)) → find nat_cmp k es ≡ None
    → blocks_filled (put nat_cmp k x es) ≡ filled_blocks x.kind + blocks_filled es
filled-put k x [] h = refl
filled-put k x (e ∷ es) h = by (nat_cmp k e.0) (filled-put k x es) h
  where
    by : (r : Ordering) → (find nat_cmp k es ≡ None → blocks_filled (put nat_cmp k x es) ≡ filled_blocks x.kind + blocks_filled es)
        → cond (is_eq r) (Some e.1) (find nat_cmp k es) ≡ None
        → blocks_filled (by_order r ((k, x) ∷ e ∷ es) ((e.0, x) ∷ es) (e ∷ put nat_cmp k x es))
        ≡ filled_blocks x.kind + (filled_blocks e.1.kind + blocks_filled es)
    by Less rest g = refl
    by Equal rest g = absurd (grind (arith, g))
    by Greater rest g = past (filled_blocks e.1.kind) (blocks_filled (put nat_cmp k x es)) (filled_blocks x.kind) (blocks_filled es) (rest g)

filled-insert : (m : FinMap nat_cmp Inode) (k : ℕ) (x : Inode) → get m k ≡ None
    → blocks_filled (entries (insert m k x)) ≡ filled_blocks x.kind + blocks_filled (entries m)
filled-insert m k x h = ap blocks_filled (entries-insert nat_cmp_total m k x) ∙ filled-put k x (entries m) (sym (get-entries m k) ∙ h)

-- an inode in place of whatever was there
filled-set : (m : FinMap nat_cmp Inode) (k : ℕ) (x : Inode)
    → blocks_filled (entries (insert m k x)) ≡ filled_blocks x.kind + blocks_filled (entries (remove m k))
filled-set m k x = ap (λ n. blocks_filled (entries n)) (sym (insert-removed m k x)) ∙ filled-insert (remove m k) k x (removed-absent m k)

filled-split : (m : FinMap nat_cmp Inode) (k : ℕ) (x : Inode) → get m k ≡ Some x
    → blocks_filled (entries m) ≡ filled_blocks x.kind + blocks_filled (entries (remove m k))
filled-split m k x h = ap (λ n. blocks_filled (entries n)) (sym (insert-same m k x h)) ∙ filled-set m k x

-- an inode's blocks are among all
pub filled-within : (v : InodesValue) (fileid : ℕ) (inode : Inode) → IsInodes v → inode_of v fileid ≡ Some inode → filled_blocks inode.kind ≤ v.used
filled-within v fileid inode i h = let s = filled-split v.inodes fileid inode h in let u = i.filled in omega (arith, s, u)

-- ---- what is found

pub inode-opening : (owner : Ownership) (moment : Moment) (q : ℕ)
    → inode_of (opening_inodes owner moment) q ≡ (if q == 1 then Some (root_inode owner moment) else None)
inode-opening owner moment q =
    get-from_sorted nat_cmp ((1, root_inode owner moment) ∷ []) q tt ∙ ap (λ b. cond b (Some (root_inode owner moment)) None) (unsigned_tied q 1)

-- nothing stands under the next fileid
pub next-absent : (v : InodesValue) → IsInodes v → inode_of v v.next ≡ None
next-absent v i = by (inode_of v v.next) refl
  where
    by : (o : Option Inode) → inode_of v v.next ≡ o → o ≡ None
    by None h = refl
    by (Some x) h = let l = i.fileids v.next x h in absurd (omega (arith, l))

inode-created : (v : InodesValue) (inode : Inode) (q : ℕ) → inode_of (inode_created inode v) q ≡ (if q == v.next then Some inode else inode_of v q)
inode-created v inode q = get-insert_at v.inodes v.next inode q

pub inode-created-there : (v : InodesValue) (inode : Inode) → inode_of (inode_created inode v) v.next ≡ Some inode
inode-created-there v inode = inode-created v inode v.next ∙ ap (λ b. if b then Some inode else inode_of v v.next) (itself v.next)

pub inode-created-other : (v : InodesValue) (inode : Inode) (q : ℕ) → (q == v.next) ≡ false → inode_of (inode_created inode v) q ≡ inode_of v q
inode-created-other v inode q o = inode-created v inode q ∙ ap (λ b. if b then Some inode else inode_of v q) o

inode-set : (v : InodesValue) (fileid : ℕ) (inode : Inode) (q : ℕ)
    → inode_of (inode_set fileid inode v) q ≡ (if (q == fileid) && is_some (inode_of v fileid) then Some inode else inode_of v q)
inode-set v fileid inode q = by (get v.inodes fileid)
  where
    by : (o : Option Inode) → inode_of (inode_replaced o fileid inode v) q ≡ (if (q == fileid) && is_some o then Some inode else inode_of v q)
    by None = ap (λ b. if b then Some inode else inode_of v q) (never (q == fileid))
      where
        never : (b : Bool) → false ≡ (b && false)
        never true = refl
        never false = refl
    by (Some old) = get-insert_at v.inodes fileid inode q ∙ ap (λ b. if b then Some inode else inode_of v q) (and (q == fileid))
      where
        and : (b : Bool) → b ≡ (b && true)
        and true = refl
        and false = refl

pub inode-set-there : (v : InodesValue) (fileid : ℕ) (old inode : Inode) → inode_of v fileid ≡ Some old
    → inode_of (inode_set fileid inode v) fileid ≡ Some inode
inode-set-there v fileid old inode h = inode-set v fileid inode fileid ∙ rw (itself fileid, h) refl

pub inode-set-absent : (v : InodesValue) (fileid : ℕ) (inode : Inode) → inode_of v fileid ≡ None → inode_set fileid inode v ≡ v
inode-set-absent v fileid inode h = ap (λ o. inode_replaced o fileid inode v) h

pub inode-set-other : (v : InodesValue) (fileid : ℕ) (inode : Inode) (q : ℕ) → (q == fileid) ≡ false → inode_of (inode_set fileid inode v) q ≡ inode_of v q
inode-set-other v fileid inode q o = inode-set v fileid inode q ∙ ap (λ b. if b && is_some (inode_of v fileid) then Some inode else inode_of v q) o

inode-dropped : (v : InodesValue) (fileid q : ℕ) → inode_of (inode_dropped fileid v) q ≡ (if q == fileid then None else inode_of v q)
inode-dropped v fileid q = get-remove_at v.inodes fileid q

pub inode-dropped-there : (v : InodesValue) (fileid : ℕ) → inode_of (inode_dropped fileid v) fileid ≡ None
inode-dropped-there v fileid = removed-absent v.inodes fileid

pub inode-dropped-other : (v : InodesValue) (fileid q : ℕ) → (q == fileid) ≡ false → inode_of (inode_dropped fileid v) q ≡ inode_of v q
inode-dropped-other v fileid q o = inode-dropped v fileid q ∙ ap (λ b. if b then None else inode_of v q) o

-- ---- changes that change nothing, or nothing more

pub inode-set-same : (v : InodesValue) (fileid : ℕ) (inode : Inode) → IsInodes v → inode_of v fileid ≡ Some inode → inode_set fileid inode v ≡ v
inode-set-same v fileid inode i h =
    let w = filled-within v fileid inode i h in
    let u : v.used - filled_blocks inode.kind + filled_blocks inode.kind ≡ v.used = omega (arith, w) in
    ap (λ o. inode_replaced o fileid inode v) h ∙ (λ x. record v { used = u x; inodes = insert-same v.inodes fileid inode h x })

-- of two inodes set one after the other the last stays
pub inode-set-twice : (v : InodesValue) (fileid : ℕ) (one two : Inode) → inode_set fileid two (inode_set fileid one v) ≡ inode_set fileid two v
inode-set-twice v fileid one two = by (get v.inodes fileid) refl
  where
    by : (o : Option Inode) → get v.inodes fileid ≡ o
        → inode_set fileid two (inode_replaced o fileid one v) ≡ inode_replaced o fileid two v
    by None h = inode-set-absent v fileid two h
    by (Some old) h =
        let used = v.used - filled_blocks old.kind in
        let there : get (insert v.inodes fileid one) fileid ≡ Some one =
        get-insert_at v.inodes fileid one fileid ∙ ap (λ b. if b then Some one else get v.inodes fileid) (itself fileid) in
        let u : used + filled_blocks one.kind - filled_blocks one.kind + filled_blocks two.kind ≡ used + filled_blocks two.kind = omega arith in
        ap (λ o. inode_replaced o fileid two (inode_replaced (Some old) fileid one v)) there
        ∙ (λ x. record v { used = u x; inodes = insert-twice v.inodes fileid one two x })

-- ---- what is next, and what is used

pub next-set : (v : InodesValue) (fileid : ℕ) (inode : Inode) → (inode_set fileid inode v).next ≡ v.next
next-set v fileid inode = by (get v.inodes fileid)
  where
    by : (o : Option Inode) → (inode_replaced o fileid inode v).next ≡ v.next
    by None = refl
    by (Some old) = refl

pub used-set : (v : InodesValue) (fileid : ℕ) (old inode : Inode) → IsInodes v → inode_of v fileid ≡ Some old
    → (inode_set fileid inode v).used + filled_blocks old.kind ≡ v.used + filled_blocks inode.kind
used-set v fileid old inode i h =
    let w = filled-within v fileid old i h in
    let set = ap (λ o. (inode_replaced o fileid inode v).used) h in
    omega (arith, w, set)

-- an inode set with as many filled blocks as before
pub used-set-same : (v : InodesValue) (fileid : ℕ) (old inode : Inode) → IsInodes v → inode_of v fileid ≡ Some old
    → filled_blocks inode.kind ≡ filled_blocks old.kind → (inode_set fileid inode v).used ≡ v.used
used-set-same v fileid old inode i h f = let u = used-set v fileid old inode i h in omega (arith, u, f)

pub used-dropped : (v : InodesValue) (fileid : ℕ) (inode : Inode) → IsInodes v → inode_of v fileid ≡ Some inode
    → (inode_dropped fileid v).used + filled_blocks inode.kind ≡ v.used
used-dropped v fileid inode i h =
    let w = filled-within v fileid inode i h in
    let left = ap (λ o. used_without v.used o) h in
    omega (arith, w, left)

-- ---- how many

pub len-opening : (owner : Ownership) (moment : Moment) → len (opening_inodes owner moment).inodes ≡ 1
len-opening owner moment = len-entries (opening_inodes owner moment).inodes ∙ ap length (entries-from_sorted nat_cmp ((1, root_inode owner moment) ∷ []) tt)

pub len-created : (v : InodesValue) (inode : Inode) → IsInodes v → len (inode_created inode v).inodes ≡ len v.inodes + 1
len-created v inode i = len-insert nat_cmp_total v.inodes v.next inode ∙ ap (λ o. cond (is_some o) (len v.inodes) (len v.inodes + 1)) (next-absent v i)

pub len-set : (v : InodesValue) (fileid : ℕ) (inode : Inode) → len (inode_set fileid inode v).inodes ≡ len v.inodes
len-set v fileid inode = by (get v.inodes fileid) refl
  where
    by : (o : Option Inode) → get v.inodes fileid ≡ o → len (inode_replaced o fileid inode v).inodes ≡ len v.inodes
    by None h = refl
    by (Some old) h = len-insert nat_cmp_total v.inodes fileid inode ∙ ap (λ o. cond (is_some o) (len v.inodes) (len v.inodes + 1)) h

pub len-settled : (v : InodesValue) (fileid : ℕ) (touch : Option Moment) → len (inode_settled fileid touch v).inodes ≡ len v.inodes
len-settled v fileid touch = len-changed_at (settled_inode touch) fileid v.inodes

pub len-dropped : (v : InodesValue) (fileid : ℕ)
    → len (inode_dropped fileid v).inodes ≡ (if is_some (inode_of v fileid) then len v.inodes - 1 else len v.inodes)
len-dropped v fileid = len-remove nat_cmp_total v.inodes fileid

-- ---- what holds stays so

-- fileids stay below a bound where none but a fileid below it is new
fileids-insert : (m : FinMap nat_cmp Inode) (k bound : ℕ) (x : Inode) → k < bound
    → ((f : ℕ) (y : Inode) → get m f ≡ Some y → f < bound) → (f : ℕ) (y : Inode) → get (insert m k x) f ≡ Some y → f < bound
fileids-insert m k bound x l old f y h = by (f == k) refl (sym (get-insert_at m k x f) ∙ h)
  where
    by : (b : Bool) → b ≡ (f == k) → (if b then Some x else get m f) ≡ Some y → f < bound
    by true p g = let e = exact_unsigned_eq f k (sym p) in omega (arith, e, l)
    by false p g = old f y g

fileids-remove : (m : FinMap nat_cmp Inode) (k bound : ℕ)
    → ((f : ℕ) (y : Inode) → get m f ≡ Some y → f < bound) → (f : ℕ) (y : Inode) → get (remove m k) f ≡ Some y → f < bound
fileids-remove m k bound old f y h = by (f == k) (sym (get-remove_at m k f) ∙ h)
  where
    by : (b : Bool) → (if b then None else get m f) ≡ Some y → f < bound
    by true g = absurd (grind (arith, g))
    by false g = old f y g

pub opening-is : (owner : Ownership) (moment : Moment) → IsInodes (opening_inodes owner moment)
opening-is owner moment = record {
  fileids = λ f y h. by f y (f == 1) refl (sym (inode-opening owner moment f) ∙ h);
  filled = sym (ap blocks_filled (entries-from_sorted nat_cmp ((1, root_inode owner moment) ∷ []) tt));
}
  where
    by : (f : ℕ) (y : Inode) (b : Bool) → b ≡ (f == 1) → (if b then Some (root_inode owner moment) else None) ≡ Some y → f < 2
    by f y true p g = let e = exact_unsigned_eq f 1 (sym p) in omega (arith, e)
    by f y false p g = absurd (grind (arith, g))

pub created-is : (v : InodesValue) (inode : Inode) → IsInodes v → IsInodes (inode_created inode v)
created-is v inode i = record {
  fileids = fileids-insert v.inodes v.next (v.next + 1) inode (omega arith) (λ f y h. let l = i.fileids f y h in omega (arith, l));
  filled = let f = filled-insert v.inodes v.next inode (next-absent v i) in let u = i.filled in omega (arith, f, u);
}

replaced-is : (v : InodesValue) (fileid : ℕ) (old inode : Inode) → inode_of v fileid ≡ Some old → IsInodes v
    → IsInodes (inode_replaced (Some old) fileid inode v)
replaced-is v fileid old inode h i = record {
  fileids = fileids-insert v.inodes fileid v.next inode (i.fileids fileid old h) i.fileids;
  filled =
      let s = filled-split v.inodes fileid old h in
      let n = filled-set v.inodes fileid inode in
      let u = i.filled in
      omega (arith, s, n, u);
}

pub set-is : (v : InodesValue) (fileid : ℕ) (inode : Inode) → IsInodes v → IsInodes (inode_set fileid inode v)
set-is v fileid inode i = by (get v.inodes fileid) refl
  where
    by : (o : Option Inode) → get v.inodes fileid ≡ o → IsInodes (inode_replaced o fileid inode v)
    by None h = i
    by (Some old) h = replaced-is v fileid old inode h i

pub settled-is : (v : InodesValue) (fileid : ℕ) (touch : Option Moment) → IsInodes v → IsInodes (inode_settled fileid touch v)
settled-is v fileid touch i = by (get v.inodes fileid) refl
  where
    by : (o : Option Inode) → get v.inodes fileid ≡ o → IsInodes (record v { inodes = changed_value (settled_inode touch) o fileid v.inodes })
    by None h = i
    by (Some old) h = record {
      fileids = fileids-insert v.inodes fileid v.next (settled_inode touch old) (i.fileids fileid old h) i.fileids;
      filled =
          let s = filled-split v.inodes fileid old h in
          let n = filled-set v.inodes fileid (settled_inode touch old) in
          let u = i.filled in
          omega (arith, s, n, u);
    }

pub dropped-is : (v : InodesValue) (fileid : ℕ) → IsInodes v → IsInodes (inode_dropped fileid v)
dropped-is v fileid i = record {
  fileids = fileids-remove v.inodes fileid v.next i.fileids;
  filled = by (get v.inodes fileid) refl;
}
  where
    by : (o : Option Inode) → get v.inodes fileid ≡ o → used_without v.used o ≡ blocks_filled (entries (remove v.inodes fileid))
    by None h = i.filled ∙ ap (λ m. blocks_filled (entries m)) (sym (remove-absent v.inodes fileid h))
    by (Some old) h = let s = filled-split v.inodes fileid old h in let u = i.filled in omega (arith, s, u)

-- one made and unmade leaves all as it was
pub unmade-created : (v : InodesValue) (inode : Inode) → IsInodes v → inode_unmade (inode_created inode v) ≡ v
unmade-created v inode i =
    let made = insert v.inodes v.next inode in
    let last : v.next + 1 - 1 ≡ v.next = omega arith in
    let found : get made (v.next + 1 - 1) ≡ Some inode = ap (get made) last ∙ inode-created-there v inode in
    let gone : v.used + filled_blocks inode.kind - filled_blocks inode.kind ≡ v.used = omega arith in
    let back : remove made v.next ≡ v.inodes = remove-inserted v.inodes v.next inode (next-absent v i) in
    λ x. record {
      next = last x;
      used = (ap (used_without (v.used + filled_blocks inode.kind)) found ∙ gone) x;
      inodes = (ap (remove made) last ∙ back) x;
    }
