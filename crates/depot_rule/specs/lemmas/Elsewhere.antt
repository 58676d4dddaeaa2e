-- What is put in at one node leaves what another covers, where the two don't exclude each other.
use Rattle.std.proofs.Common.{◌≡◌, ℕ, suc, List, [], ◌∷◌, ◌++◌, Option, refl, ap, ◌∙◌}
use Rattle.depot_rule.specs.declared.view.Entry.{Entry}
use Rattle.affinity.specs.Ancestors.{IsTree, Covers}
use Rattle.depot_rule.specs.History.{listed, put_in, after}
use Rattle.depot_rule.specs.Laws.{AreElsewhere, PutInElsewhere, StaysElsewhere}
use Rattle.depot_rule.specs.lemmas.Trees.{cover-excludes}
use Rattle.depot_rule.specs.lemmas.Covering.{patched-out}

pub put-elsewhere : (P : Type 0) → PutInElsewhere P
put-elsewhere P ps tree a b k inner outer apart cover =
    patched-out ps b inner outer k (λ both. apart (cover-excludes ps tree a b k cover both))

module _ {P C R : Type 0} where
  after-append : (ps : List ℕ) (f : ℕ → Option P) (es more : List (Entry P C R)) → after ps f (es ++ more) ≡ after ps (after ps f es) more
  after-append ps f [] more = refl
  after-append ps f (e ∷ es) more = after-append ps (put_in ps e f) es more

  after-elsewhere : (ps : List ℕ) → IsTree ps → (f : ℕ → Option P) (more : List (Entry P C R)) (a k : ℕ) → AreElsewhere ps a more → Covers ps a k
      → after ps f more k ≡ f k
  after-elsewhere ps tree f [] a k apart cover = refl
  after-elsewhere ps tree f (e ∷ es) a k apart cover =
      after-elsewhere ps tree (put_in ps e f) es a k (λ i d at. apart (suc i) d at) cover
      ∙ put-elsewhere P ps tree a e.node k (listed e.left) f (apart 0 e refl) cover

pub stays-elsewhere : (P C R : Type 0) → StaysElsewhere P C R
stays-elsewhere P C R ps tree f es more a k apart cover =
    ap (λ g. g k) (after-append ps f es more) ∙ after-elsewhere ps tree (after ps f es) more a k apart cover
