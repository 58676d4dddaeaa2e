-- What the calls do to the values: each change of the table with the next fileid and the used count.
use Rattle.std.proofs.Common.{◌≡◌, refl, sym, subst, ap, ◌∙◌, ℕ, ◌+◌, ◌-◌, ◌<◌, ◌≤◌, ◌==◌, Bool, true, false, cond, [], ◌∷◌, Option, Some, None, arith}
use Rattle.std.specs.Ordering.{nat_cmp, eq_by_cmp}
use Rattle.std.specs.Cmp.{nat_cmp_total}
use Rattle.std.specs.FinMap.{FinMap, get, insert, remove, empty, from_sorted, get-empty, get-insert, get-from_sorted, same_map, nat_cmp-IsAntisymmetric}
use Rattle.std.proofs.lemmas.Bool.Decides.{nat_tests}
use Rattle.std.proofs.lemmas.Map.Views.{exact_unsigned_eq}
use Rattle.nfs_model.specs.Types.{Moment, Ownership}
use Rattle.nfs_model.specs.volume.Maps.{changed_value, changed_at}
use Rattle.nfs_model.specs.volume.Inodes as values
use Rattle.nfs_values.specs.declared.number.Fileid.{Fileid}
use Rattle.nfs_model.specs.volume.Inodes.{IsInodes, InodesValue, filled_blocks, opening_inodes, root_inode}
use Rattle.nfs_model.specs.volume.Inodes.{settled_inode, inode_settled, inode_replaced, inode_set, inode_created, inode_dropped, inode_unmade, used_without}
use Rattle.nfs_model.specs.volume.lemmas.Inodes.{filled-within, inode-dropped-there}
use Rattle.inodes.specs.declared.inode.Inode.{Inode}
use Rattle.inodes.specs.Inode.{inode_value, kind_value, inodes_value}

-- what is equal to inodes is inodes
pub kept : (v w : InodesValue) → v ≡ w → IsInodes w → IsInodes v
kept v w e i = subst IsInodes (sym e) i

first-alone : (root : values.Inode) → insert (empty {R = nat_cmp}) 1 root ≡ from_sorted ((1, root) ∷ [])
first-alone root = same_map nat_cmp_total nat_cmp-IsAntisymmetric (insert empty 1 root) (from_sorted ((1, root) ∷ [])) (λ q.
    get-insert nat_cmp_total empty 1 root q ∙ (ap (cond (eq_by_cmp nat_cmp q 1) (Some root)) (get-empty nat_cmp q)
    ∙ sym (get-from_sorted nat_cmp ((1, root) ∷ []) q tt)))

pub opened : (owner : Ownership) (begun : Moment) (root : values.Inode) (first new : FinMap nat_cmp values.Inode) → root ≡ root_inode owner begun → first ≡ empty
    → new ≡ insert first 1 root → inodes_value (record { 0 = 2 }) 0 new ≡ opening_inodes owner begun
opened owner begun root first new is none h =
    ap (λ m. record { next = 2; used = 0; inodes = m })
    (h ∙ ap (λ m. insert m 1 root) none ∙ first-alone root ∙ ap (λ (i : values.Inode). from_sorted ((1, i) ∷ [])) is)

-- the next fileid has no inode
pub none-next : (next : Fileid) (used : ℕ) (m : FinMap nat_cmp values.Inode) → IsInodes (inodes_value next used m) → get m next.0 ≡ None
none-next next used m i = by (get m next.0) refl
  where
    by : (o : Option values.Inode) → get m next.0 ≡ o → o ≡ None
    by None h = refl
    by (Some x) h = let less = i.fileids next.0 x h in absurd (omega (arith, less))

module _ (next : Fileid) (used : ℕ) (old new : FinMap nat_cmp values.Inode) where
  pub created : (x : Inode) (blocks : ℕ) → blocks ≡ filled_blocks (kind_value x.kind) → new ≡ insert old next.0 (inode_value x)
      → inodes_value (record { 0 = next.0 + 1 }) (used + blocks) new ≡ inode_created (inode_value x) (inodes_value next used old)
  created x blocks b h = λ i. record { next = next.0 + 1; used = used + b i; inodes = h i }

  pub settled : (k : ℕ) (touch : Option Moment) → new ≡ changed_at (settled_inode touch) k old
      → inodes_value next used new ≡ inode_settled k touch (inodes_value next used old)
  settled k touch h = ap (λ m. record { next = next.0; used = used; inodes = m }) h

  -- what is there is among the used blocks
  pub within : (k : ℕ) (y : Inode) (blocks : ℕ) → IsInodes (inodes_value next used old) → Some (inode_value y) ≡ get old k
      → blocks ≡ filled_blocks (kind_value y.kind) → blocks ≤ used
  within k y blocks i h b = subst (λ n. n ≤ used) (sym b) (filled-within (inodes_value next used old) k (inode_value y) i (sym h))

  pub set : (k : ℕ) (x y : Inode) (less more : ℕ) → less ≡ filled_blocks (kind_value y.kind) → more ≡ filled_blocks (kind_value x.kind)
      → Some (inode_value y) ≡ get old k → new ≡ changed_at (λ _. inode_value x) k old
      → inodes_value next (used - less + more) new ≡ inode_set k (inode_value x) (inodes_value next used old)
  set k x y less more l m h f =
      let put : new ≡ insert old k (inode_value x) = f ∙ ap (λ o. changed_value (λ _. inode_value x) o k old) (sym h) in
      (λ i. record { next = next.0; used = used - l i + m i; inodes = put i })
      ∙ ap (λ o. inode_replaced o k (inode_value x) (inodes_value next used old)) h

  pub set-nothing : (k : ℕ) (x : Inode) → None ≡ get old k → new ≡ changed_at (λ _. inode_value x) k old
      → inodes_value next used new ≡ inode_set k (inode_value x) (inodes_value next used old)
  set-nothing k x h f =
      let same : new ≡ old = f ∙ ap (λ o. changed_value (λ _. inode_value x) o k old) (sym h) in
      ap (λ m. record { next = next.0; used = used; inodes = m }) same
      ∙ ap (λ o. inode_replaced o k (inode_value x) (inodes_value next used old)) h

  pub dropped : (k : ℕ) (y : Inode) (less : ℕ) → less ≡ filled_blocks (kind_value y.kind) → Some (inode_value y) ≡ get old k → new ≡ remove old k
      → inodes_value next (used - less) new ≡ inode_dropped k (inodes_value next used old)
  dropped k y less l h f =
      (λ i. record { next = next.0; used = used - l i; inodes = f i })
      ∙ ap (λ o. record { next = next.0; used = used_without used o; inodes = remove old k }) h

  pub dropped-nothing : (k : ℕ) → None ≡ get old k → new ≡ remove old k
      → inodes_value next used new ≡ inode_dropped k (inodes_value next used old)
  dropped-nothing k h f =
      ap (λ m. record { next = next.0; used = used; inodes = m }) f
      ∙ ap (λ o. record { next = next.0; used = used_without used o; inodes = remove old k }) h

-- what is left without the inode made last
pub unmade : (v w : InodesValue) (fileid : ℕ) → v.next ≡ fileid + 1 → w ≡ inode_dropped fileid v → record w { next = fileid } ≡ inode_unmade v
unmade v w fileid n e =
    let last : fileid ≡ v.next - 1 = omega (arith, n) in
    ap (λ (x : InodesValue). record x { next = fileid }) e ∙ ap (λ (q : ℕ). record (inode_dropped q v) { next = q }) last

-- its fileid is the next again: no inode stands there
pub lowered-is : (v w : InodesValue) (fileid : ℕ) → v.next ≡ fileid + 1 → w ≡ inode_dropped fileid v → IsInodes w → IsInodes (record w { next = fileid })
lowered-is v w fileid n e i = record {
  fileids = λ q y h. by q y (q == fileid) refl h;
  filled = i.filled;
}
  where
    absent : get w.inodes fileid ≡ None
    absent = ap (λ (x : InodesValue). get x.inodes fileid) e ∙ inode-dropped-there v fileid

    by : (q : ℕ) (y : values.Inode) (b : Bool) → b ≡ (q == fileid) → get w.inodes q ≡ Some y → q < fileid
    by q y true p h =
        let none : Some y ≡ None = sym h ∙ (ap (get w.inodes) (exact_unsigned_eq q fileid (sym p)) ∙ absent) in
        absurd cc
    by q y false p h =
        let l = i.fileids q y h in
        let last : w.next ≡ fileid + 1 = ap (λ (x : InodesValue). x.next) e ∙ n in
        grind (arith, nat_tests, p, l, last)
