-- The opening world meets the headline.
use Rattle.std.proofs.Common.{◌≡◌, ℕ, zero, suc, ◌+◌, ◌*◌, Bool, false, ◌&&◌, ◌||◌, List, [], ◌∷◌, map, replicate, Option, Some, None, slice_get, refl, sym}
use Rattle.std.proofs.Common.{subst, ap, ◌∙◌, nat_eq, nat_lt, nat_le, arith}
use Rattle.std.proofs.lemmas.Bool.Decides.{nat_tests}
use Rattle.std.specs.List.{range_with_len, list_any}
use Rattle.std.specs.Ordering.{nat_cmp}
use Rattle.std.specs.FinSet as sets
use Rattle.nfs_model.specs.Tree.{VolumeLayout}
use Rattle.nfs_model.specs.Server as servers
use Rattle.nfs_model.specs.World.{Setup, Worker, all_running, hands_blocks, affinities}
use Rattle.nfs_model.specs.Parts.{Empty, Parts}
use Rattle.nfs_model.specs.Headline.{Kept, opening_parts, opening_world, IsOwnMessage, IsTried, IsOutcome, Apart, messages, server_worked, start}
use Rattle.nfs_model.specs.Parts.{IsPartition, one_if}
use Rattle.std.specs.List.{AllByRecursion}
use Rattle.nfs_laws.specs.lemmas.Evaluate.{contains_empty, set_len_empty, entries_sorted_list}

any_range : (k a n : ℕ) → list_any (λ y. nat_eq y n) (range_with_len a k) ≡ (nat_le a n && nat_lt n (a + k))
any_range zero a n = grind (arith, nat_tests)
any_range (suc k) a n = ap (λ b. nat_eq a n || b) (any_range k (a + 1) n) ∙ grind (arith, nat_tests)

from_some : {X : Type 0} → X → Option X → X
from_some d None = d
from_some d (Some x) = x

some_is : {X : Type 0} (x y : X) → Some x ≡ Some y → x ≡ y
unfolding from_some
some_is x y e = ap (λ o. from_some x o) e

contains_all : (total n : ℕ) → sets.contains (sets.from_list {R = nat_cmp} (range_with_len 0 total)) n ≡ nat_lt n total
contains_all total n = sets.contains-from_list_nat (range_with_len 0 total) n ∙ any_range total 0 n ∙ grind (arith, nat_tests)

alone : (x : ℕ) → 0 + 0 + 0 + x + 0 ≡ x
alone x = omega arith

once_free : (a d t : Bool) → a ≡ false → d ≡ t → one_if a + one_if a + one_if a + one_if d + 0 ≡ one_if t
once_free a d t none free = ap (λ b. one_if b + one_if b + one_if b + one_if d + 0) none ∙ alone (one_if d) ∙ ap (λ b. one_if b) free

opening_partition : (verifier : List ℕ) (k : ℕ) (l : VolumeLayout) → IsPartition (servers.opening_volume verifier k l) (opening_parts l) []
opening_partition verifier k l = record {
  once = λ n. once_free (sets.contains (sets.empty {R = nat_cmp}) n) _ _ (contains_empty n) (contains_all (l.range_blocks * l.ranges) n);
  in_files = set_len_empty ∙ sym (ap (λ es. servers.blocks_of es) (entries_sorted_list ((1, servers.root_node l.root l.begun) ∷ []) refl));
}

partition_at : (verifier : List ℕ) (k : ℕ) (ls : List VolumeLayout) (v : ℕ) (volume : servers.VolumeState)
    → slice_get (servers.opening_volumes verifier k ls) v ≡ Some volume
    → (p : Parts) × (slice_get (map opening_parts ls) v ≡ Some p) × IsPartition volume p []
partition_at verifier k [] v volume e = absurd (cc)
partition_at verifier k (l ∷ ls) zero volume e =
    (opening_parts l, refl, subst (λ x. IsPartition x (opening_parts l) []) (some_is _ _ e) (opening_partition verifier k l))
partition_at verifier k (l ∷ ls) (suc v) volume e = partition_at verifier (k + 1) ls v volume e

abbrev idle : Worker
idle = record { running = None; hand = Empty }

none_running : (n : ℕ) → all_running (replicate n idle) ≡ []
none_running zero = refl
none_running (suc n) = none_running n

no_hands : (v n : ℕ) → hands_blocks v (replicate n idle) ≡ []
no_hands v zero = refl
no_hands v (suc n) = no_hands v n

pub opening_headline : (setup : Setup) → Kept setup (opening_world setup)
opening_headline setup = record {
  headline = record {
    output = λ c x e. absurd (cc);
    each_once = λ c x e. absurd (cc);
    own_finished = tt;
    own_waiting = tt;
    own_running = subst (λ rs. AllByRecursion (IsOwnMessage setup (opening_world setup)) (messages rs)) (sym (none_running setup.workers)) tt;
    lawful = tt;
    state = ap (λ rs. server_worked (start setup) rs) (sym (none_running setup.workers));
    partition = λ v volume e. subst (λ hands. (p : Parts) × (slice_get (map opening_parts setup.layout.volumes) v ≡ Some p) × IsPartition volume p hands)
        (sym (no_hands v setup.workers)) (partition_at setup.verifier 0 setup.layout.volumes v volume e);
    apart = subst (λ rs. Apart setup.layout (affinities rs)) (sym (none_running setup.workers)) tt;
  };
  outcomes = subst (λ rs. AllByRecursion (λ r. IsOutcome setup (start setup) r r.outcome) rs) (sym (none_running setup.workers)) tt;
  tried_waiting = tt;
  tried_running = subst (λ rs. AllByRecursion (IsTried setup) (messages rs)) (sym (none_running setup.workers)) tt;
  tried_finished = tt;
  until = λ c x e. absurd (cc);
}
