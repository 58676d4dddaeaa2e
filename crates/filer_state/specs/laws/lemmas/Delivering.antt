-- A fresh batch that is put down comes from the hand into the stock.
use Rattle.std.proofs.Common.{◌≡◌, ℕ, ◌+◌, ◌*◌, ◌<◌, ◌≤◌, ◌||◌, Bool, true, false, List, [], ◌∷◌, length}
use Rattle.std.proofs.Common.{refl, sym, ap, ◌∙◌, subst, arith, eq-eqb, nat_lt}
use Rattle.std.specs.Prelude.{if◌then◌else◌}
use Rattle.std.specs.Ordering.{nat_cmp}
use Rattle.std.specs.Cmp.{nat_cmp_total}
use Rattle.std.specs.FinSet.{FinSet, contains, from_list, contains-union}
use Rattle.nfs_model.specs.Parts.{Fresh, IsBatch, range_of, one_if, times_listed}
use Rattle.nfs_model.specs.volume.Ranges.{with_numbers}
use Rattle.filer_state.specs.state.Contents.{VolumeContents}
use Rattle.filer_state.specs.state.Tree.{ranges_used}
use Rattle.filer_state.specs.state.WellFormed.{WellFormed}
use Rattle.filer_state.specs.state.Partition.{times_in_hand}
use Rattle.filer_state.specs.state.Sound.{IsSound}
use Rattle.filer_state.specs.state.Jobs.{Deliver, Gave}
use Rattle.filer_state.specs.state.Lenses.{LogicalSet, logical_lens}
use Rattle.filer_state.specs.state.Promises.{RightOnVolume}
use Rattle.filer_state.specs.state.Calls.{DoesInnerOn}
use Rattle.filer_state.specs.laws.lemmas.Counted.{listed-times}

-- other numbers in the stock and among the dead leave all else as it has to be
abbrev pub restocked : FinSet nat_cmp → FinSet nat_cmp → VolumeContents → VolumeContents
restocked stock dead p = record p { logical = record p.logical { stock = stock; dead = record p.logical.dead { blocks = dead } } }

pub well-restocked : (p : VolumeContents) (stock dead : FinSet nat_cmp) → WellFormed p → WellFormed (restocked stock dead p)
well-restocked p stock dead well = record {
  striped = well.striped;
  largest = well.largest;
  most_inodes = well.most_inodes;
  size = well.size;
  logical = record {
    inodes = well.logical.inodes;
    few = well.logical.few;
    sizes = well.logical.sizes;
    named = well.logical.named;
    texts = well.logical.texts;
  };
  as_many = well.as_many;
  stripes = λ i less. let fits = well.stripes i less in record {
    verifier = fits.verifier;
    stripes = fits.stripes;
    largest = fits.largest;
    cards = fits.cards;
    owners = fits.owners;
    long = fits.long;
    blocks = fits.blocks;
  };
  used = well.used;
  filled = well.filled;
  sixteen = well.sixteen;
  some = well.some;
  ranges = well.ranges;
}

-- numbers added to the stock
abbrev pub delivered : List ℕ → LogicalSet → LogicalSet
delivered blocks set = record set { own = record set.own { stock = with_numbers blocks set.own.stock } }

both-once : (c d : Bool) → one_if c + one_if d ≤ 1 → one_if (c || d) ≡ one_if c + one_if d
both-once true true h = absurd (omega arith)
both-once true false h = refl
both-once false d h = omega arith

at-most-one : (b : Bool) → one_if b ≤ 1
at-most-one true = omega arith
at-most-one false = omega arith

pub deliver-right : (v : ℕ) (blocks : List ℕ) (set : LogicalSet) → 0 < length blocks
    → IsBatch set.own.dead.range_blocks (range_of set.own.dead.range_blocks blocks) blocks
    → RightOnVolume v logical_lens (DoesInnerOn (Deliver v)) [] (Fresh v blocks ∷ []) set (Gave (Fresh v blocks)) (delivered blocks set)
deliver-right v blocks set some batch p hands hands' made has numbered sound moved =
    let q : VolumeContents = logical_lens.put (delivered blocks (logical_lens.of p)) p in
    let same : logical_lens.put (delivered blocks set) p ≡ q = λ j. logical_lens.put (delivered blocks (sym has j)) p in
    subst (λ (x : VolumeContents). DoesInnerOn (Deliver v) p (Gave (Fresh v blocks)) x × IsSound x hands' (made + 1)) (sym same) (
      (
        refl,
        (
          refl,
          (
            some,
            subst (λ (s : LogicalSet). IsBatch s.own.dead.range_blocks (range_of s.own.dead.range_blocks blocks) blocks) (sym has) batch,
            (refl, refl),
          ),
        ),
      ),
      record {
        well_formed = well-restocked p (with_numbers blocks p.logical.stock) p.logical.dead.blocks sound.well_formed;
        young = record {
          fileids = (let y = sound.young.fileids in omega arith);
          cookies = λ fileid d e. let y = sound.young.cookies fileid d e in omega arith;
        };
        partition = λ n.
            let e = moved (times_in_hand p.number n) in
            let o = sound.partition n in
            let most = at-most-one (nat_lt n (p.logical.dead.range_blocks * ranges_used p.ranges)) in
            let mine : times_in_hand p.number n (Fresh v blocks) ≡ times_listed n blocks =
            ap (λ (b : Bool). times_listed n (if b then blocks else [])) (eq-eqb p.number v numbered) in
            let listed = listed-times n blocks (omega arith) in
            let both = both-once (contains p.logical.stock n) (contains (from_list {R = nat_cmp} blocks) n) (omega arith) in
            let now : one_if (contains (with_numbers blocks p.logical.stock) n) ≡ one_if (contains p.logical.stock n) + times_listed n blocks =
            ap one_if (contains-union nat_cmp_total p.logical.stock (from_list blocks) n) ∙ both
            ∙ ap (λ (k : ℕ). one_if (contains p.logical.stock n) + k) listed in
            omega arith;
      },
    )
