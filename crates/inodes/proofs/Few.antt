-- That inodes are few and their counts small, whatever is done, and so the used count is.
use Rattle.std.proofs.Common.{◌≡◌, refl, sym, ap, subst, ◌∙◌, ℕ, ◌+◌, ◌-◌, ◌*◌, ◌^◌, ◌<◌, ◌≤◌, ◌==◌, Bool, true, false, cond, zero, suc, List, [], ◌∷◌}
use Rattle.std.proofs.Common.{length, Option, Some, None, is_some, if◌then◌else◌, arith}
use Rattle.std.specs.Ordering.{nat_cmp}
use Rattle.std.specs.Cmp.{nat_cmp_total, unsigned_tied}
use Rattle.std.specs.FinMap.{FinMap, get, insert, remove, entries, len, find, get-entries, len-entries, len-insert, len-remove}
use Rattle.nfs_model.specs.Types.{Moment, Ownership}
use Rattle.nfs_model.specs.volume.Inodes.{inodes_of_a_volume}
use Rattle.nfs_model.specs.volume.Maps.{changed_value}
use Rattle.nfs_model.specs.volume.lemmas.Numbered.{itself, get-insert_at, get-remove_at}
use Rattle.nfs_model.specs.volume.lemmas.Inodes.{dropped-is, inode-opening, inode-set-absent, len-opening, len-created, len-settled}
use Rattle.nfs_model.specs.volume.Inodes.{Inode, InodesValue, IsInodes, inode_of, blocks_filled, opening_inodes, root_inode, filled_blocks, settled_inode}
use Rattle.nfs_model.specs.volume.Inodes.{inode_settled, inode_set, inode_replaced, inode_created, inode_dropped, used_without}
use Rattle.inodes.specs.Inode.{AreFew}

-- each inode of a map has a small count
abbrev AreSmall : FinMap nat_cmp Inode → Type 0
AreSmall m = (k : ℕ) (x : Inode) → get m k ≡ Some x → filled_blocks x.kind < 2 ^ 32

some-is : (x y : Inode) → Some x ≡ Some y → x ≡ y
some-is x y h = cc

small-insert : (m : FinMap nat_cmp Inode) (k : ℕ) (x : Inode) → filled_blocks x.kind < 2 ^ 32 → AreSmall m → AreSmall (insert m k x)
small-insert m k x less old q y h = by (q == k) (sym (get-insert_at m k x q) ∙ h)
  where
    by : (b : Bool) → (if b then Some x else get m q) ≡ Some y → filled_blocks y.kind < 2 ^ 32
    by true g = subst (λ (i : Inode). filled_blocks i.kind < 2 ^ 32) (some-is x y g) less
    by false g = old q y g

small-remove : (m : FinMap nat_cmp Inode) (k : ℕ) → AreSmall m → AreSmall (remove m k)
small-remove m k old q y h = by (q == k) (sym (get-remove_at m k q) ∙ h)
  where
    by : (b : Bool) → (if b then None else get m q) ≡ Some y → filled_blocks y.kind < 2 ^ 32
    by true g = absurd (grind (arith, g))
    by false g = old q y g

-- ---- the used count

fewer : (n : ℕ) (m : FinMap nat_cmp Inode) (k : ℕ) (x : Inode) → get m k ≡ Some x → len m ≤ suc n → len (remove m k) ≤ n
fewer n m k x there most =
    let size : len (remove m k) ≡ len m - 1 = len-remove nat_cmp_total m k ∙ ap (λ o. cond (is_some o) (len m - 1) (len m)) there in
    omega (arith, size, most)

head : (e : ℕ × Inode) (es : List (ℕ × Inode)) → find nat_cmp e.0 (e ∷ es) ≡ Some e.1
head e es = ap (λ b. cond b (Some e.1) (find nat_cmp e.0 es)) (unsigned_tied e.0 e.0 ∙ itself e.0)

-- with one inode more than those of which it is known
used-more : (n : ℕ) (v : InodesValue) → IsInodes v → AreSmall v.inodes → len v.inodes ≤ suc n
    → ((w : InodesValue) → IsInodes w → AreSmall w.inodes → len w.inodes ≤ n → w.used ≤ n * 4294967296) → v.used ≤ suc n * 4294967296
used-more n v i small most below = by (entries v.inodes) refl
  where
    by : (es : List (ℕ × Inode)) → entries v.inodes ≡ es → v.used ≤ suc n * 4294967296
    by [] is = let none : v.used ≡ 0 = i.filled ∙ ap blocks_filled is in omega (arith, none)
    by (e ∷ es) is =
        let there : get v.inodes e.0 ≡ Some e.1 = get-entries v.inodes e.0 ∙ (ap (find nat_cmp e.0) is ∙ head e es) in
        let rest = below (inode_dropped e.0 v) (dropped-is v e.0 i) (small-remove v.inodes e.0 small) (fewer n v.inodes e.0 e.1 there most) in
        let left : v.used - filled_blocks e.1.kind ≤ n * 4294967296 = subst (λ o. used_without v.used o ≤ n * 4294967296) there rest in
        let less : filled_blocks e.1.kind < 4294967296 = small e.0 e.1 there in
        omega (arith, left, less)

used-few : (n : ℕ) (v : InodesValue) → IsInodes v → AreSmall v.inodes → len v.inodes ≤ n → v.used ≤ n * 4294967296
used-few zero v i small most = by (entries v.inodes) refl
  where
    by : (es : List (ℕ × Inode)) → entries v.inodes ≡ es → v.used ≤ 0
    by [] is = let none : v.used ≡ 0 = i.filled ∙ ap blocks_filled is in omega (arith, none)
    by (e ∷ es) is = let size : len v.inodes ≡ suc (length es) = len-entries v.inodes ∙ ap length is in absurd (omega (arith, size, most))
used-few (suc n) v i small most = used-more n v i small most (used-few n)

pub used-most : (v : InodesValue) → IsInodes v → AreFew v → v.used ≤ 288230376151711744
used-most v i a = let most = used-few 67108864 v i a.counts a.few in omega (arith, most)

-- ---- what holds stays so

-- what is equal to few inodes is few inodes
pub kept-few : (v w : InodesValue) → v ≡ w → AreFew w → AreFew v
kept-few v w e a = subst AreFew (sym e) a

pub opening-few : (owner : Ownership) (moment : Moment) → AreFew (opening_inodes owner moment)
opening-few owner moment = record {
  few = let one = len-opening owner moment in omega (arith, one);
  counts = λ q y h. by y (q == 1) (sym (inode-opening owner moment q) ∙ h);
}
  where
    by : (y : Inode) (b : Bool) → (if b then Some (root_inode owner moment) else None) ≡ Some y → filled_blocks y.kind < 2 ^ 32
    by y true g = subst (λ (i : Inode). filled_blocks i.kind < 2 ^ 32) (some-is (root_inode owner moment) y g) (omega arith)
    by y false g = absurd (grind (arith, g))

pub created-few : (v : InodesValue) (inode : Inode) → IsInodes v → AreFew v → len v.inodes < inodes_of_a_volume → filled_blocks inode.kind < 2 ^ 32
    → AreFew (inode_created inode v)
created-few v inode i a room less = record {
  few = let size = len-created v inode i in omega (arith, size, room);
  counts = small-insert v.inodes v.next inode less a.counts;
}

replaced-few : (v : InodesValue) (fileid : ℕ) (old inode : Inode) → inode_of v fileid ≡ Some old → AreFew v → filled_blocks inode.kind < 2 ^ 32
    → AreFew (inode_replaced (Some old) fileid inode v)
replaced-few v fileid old inode h a less = record {
  few =
      let size : len (insert v.inodes fileid inode) ≡ len v.inodes =
      len-insert nat_cmp_total v.inodes fileid inode ∙ ap (λ o. cond (is_some o) (len v.inodes) (len v.inodes + 1)) h in
      let few = a.few in
      omega (arith, size, few);
  counts = small-insert v.inodes fileid inode less a.counts;
}

pub set-few : (v : InodesValue) (fileid : ℕ) (inode : Inode) → AreFew v → filled_blocks inode.kind < 2 ^ 32 → AreFew (inode_set fileid inode v)
set-few v fileid inode a less = by (get v.inodes fileid) refl
  where
    by : (o : Option Inode) → get v.inodes fileid ≡ o → AreFew (inode_replaced o fileid inode v)
    by None h = a
    by (Some old) h = replaced-few v fileid old inode h a less

pub set-few-absent : (v : InodesValue) (fileid : ℕ) (inode : Inode) → inode_of v fileid ≡ None → AreFew v → AreFew (inode_set fileid inode v)
set-few-absent v fileid inode h a = kept-few (inode_set fileid inode v) v (inode-set-absent v fileid inode h) a

pub settled-few : (v : InodesValue) (fileid : ℕ) (touch : Option Moment) → AreFew v → AreFew (inode_settled fileid touch v)
settled-few v fileid touch a = record {
  few = let size = len-settled v fileid touch in let few = a.few in omega (arith, size, few);
  counts = by (get v.inodes fileid) refl;
}
  where
    by : (o : Option Inode) → get v.inodes fileid ≡ o → AreSmall (changed_value (settled_inode touch) o fileid v.inodes)
    by None h = a.counts
    by (Some old) h = small-insert v.inodes fileid (settled_inode touch old) (a.counts fileid old h) a.counts

pub dropped-few : (v : InodesValue) (fileid : ℕ) → AreFew v → AreFew (inode_dropped fileid v)
dropped-few v fileid a = record {
  few = let size = len-remove nat_cmp_total v.inodes fileid in let few = a.few in by (is_some (get v.inodes fileid)) size few;
  counts = small-remove v.inodes fileid a.counts;
}
  where
    by : (b : Bool) → len (remove v.inodes fileid) ≡ cond b (len v.inodes - 1) (len v.inodes) → len v.inodes ≤ inodes_of_a_volume
        → len (remove v.inodes fileid) ≤ inodes_of_a_volume
    by true size few = omega (arith, size, few)
    by false size few = omega (arith, size, few)

pub lowered-few : (v : InodesValue) (next : ℕ) → AreFew v → AreFew (record v { next = next })
lowered-few v next a = record { few = a.few; counts = a.counts }
