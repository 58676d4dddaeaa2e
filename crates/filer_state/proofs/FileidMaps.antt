-- Maps by fileids, after what the code does to a `BTreeMap`.
use Rattle.std.proofs.Common.{◌≡◌, ℕ, Bool, true, false, cond, List, [], ◌∷◌, Some, None, refl, sym, ap, ◌∙◌}
use Rattle.std.proofs.Common.{Result, Ok, Err, OnOk, OnErr, Ordering}
use Rattle.std.specs.Option.{option_map}
use Rattle.std.specs.Ordering.{nat_cmp, eq_by_cmp}
use Rattle.std.specs.Cmp.{nat_cmp_total, eq_by_cmp_equiv}
use Rattle.std.specs.FinMap.{FinMap, from_entries, find, get, insert, remove, get-from_entries, get-insert, get-remove, nat_cmp-IsAntisymmetric, same_map}
use Rattle.std.specs.Map.{lookup}
use Rattle.std.specs.BTreeMap as btree
use Rattle.std.specs.BTreeMap.{BTreeMap, is_at}
use Rattle.nfs_model.specs.volume.Maps.{changed_at}
use Rattle.nfs_model.specs.volume.lemmas.Maps.{get-changed_at}
use Rattle.filer_state.specs.FileidMap.{Puts, Changes}

found-lookup : {K X : Type 0} (R : K → K → Ordering) (es : List (K × X)) (q : K) → find R q es ≡ lookup (is_at (R q)) es
found-lookup R [] q = refl
found-lookup {K} {X} R (e ∷ es) q = by (eq_by_cmp R q e.0) (found-lookup R es q)
  where
    by : (b : Bool) → find R q es ≡ lookup (is_at (R q)) es → cond b (Some e.1) (find R q es) ≡ cond b (Some e.1) (lookup (is_at (R q)) es)
    by true rest = refl
    by false rest = rest

either-way : (k q : ℕ) → eq_by_cmp nat_cmp k q ≡ eq_by_cmp nat_cmp q k
either-way k q = (eq_by_cmp_equiv nat_cmp_total).symm k q

module _ {X : Type 0} where
  abbrev pub map_of : BTreeMap ℕ X → FinMap nat_cmp X
  map_of m = from_entries m.entries

  -- what is under a fileid
  pub get-at : (m : BTreeMap ℕ X) (q : ℕ) → get (map_of m) q ≡ btree.get nat_cmp m q
  get-at m q = get-from_entries nat_cmp_total m.entries q ∙ found-lookup nat_cmp m.entries q

  -- maps that have the same
  pub same-all : (old new : BTreeMap ℕ X) → ((q : ℕ) → btree.get nat_cmp new q ≡ btree.get nat_cmp old q)
      → map_of new ≡ map_of old
  same-all old new same =
      same_map nat_cmp_total nat_cmp-IsAntisymmetric _ _ (λ q. get-at new q ∙ same q ∙ sym (get-at old q))

  pub put-one : (k : ℕ) (x : X) (old new : BTreeMap ℕ X) → Puts k x old new
      → map_of new ≡ insert (map_of old) k x
  put-one k x old new puts =
      same_map nat_cmp_total nat_cmp-IsAntisymmetric _ _ (λ q. get-at new q ∙ puts q
      ∙ ap (λ b. cond b (Some x) (btree.get nat_cmp old q)) (either-way k q)
      ∙ sym (get-insert nat_cmp_total _ k x q ∙ ap (cond (eq_by_cmp nat_cmp q k) (Some x)) (get-at old q)))

  pub changed-one : (g : X → X) (k : ℕ) (old new : BTreeMap ℕ X) → Changes g k old new
      → map_of new ≡ changed_at g k (map_of old)
  changed-one g k old new changes =
      same_map nat_cmp_total nat_cmp-IsAntisymmetric _ _ (λ q. get-at new q ∙ changes q
      ∙ ap (λ b. cond b (option_map g (btree.get nat_cmp old q)) (btree.get nat_cmp old q)) (either-way k q)
      ∙ sym (get-changed_at nat_cmp_total g k _ q ∙ ap (λ o. cond (eq_by_cmp nat_cmp q k) (option_map g o) o) (get-at old q)))

  pub removed-one : (k : ℕ) (old new : BTreeMap ℕ X)
      → ((q : ℕ) → btree.get nat_cmp new q ≡ cond (is_at (nat_cmp k) q) None (btree.get nat_cmp old q))
      → map_of new ≡ remove (map_of old) k
  removed-one k old new gone =
      same_map nat_cmp_total nat_cmp-IsAntisymmetric _ _ (λ q. get-at new q ∙ gone q
      ∙ ap (λ b. cond b None (btree.get nat_cmp old q)) (either-way k q)
      ∙ sym (get-remove nat_cmp_total _ k q ∙ ap (cond (eq_by_cmp nat_cmp q k) None) (get-at old q)))

-- what follows where a call has succeeded, and where it has failed
pub on_ok : {T E P Q : Type 0} → (P → Q) → (r : Result T E) → OnOk r P → OnOk r Q
on_ok f (Ok x) p = f p
on_ok f (Err e) p = p

pub on_err : {T E P Q : Type 0} → (P → Q) → (r : Result T E) → OnErr r P → OnErr r Q
on_err f (Ok x) p = p
on_err f (Err e) p = f p
