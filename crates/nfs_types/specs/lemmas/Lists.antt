-- How many bytes lists of results take.
use Rattle.std.proofs.Common.{◌≡◌, ℕ, zero, suc, ◌+◌, ◌*◌, List, [], ◌∷◌, length, map, refl, arith}
use Rattle.std.specs.List.{flat_map, range_with_len}
use Rattle.std.proofs.lemmas.List.{length-append}
use Rattle.xdr.specs.Shape.{spelling}
use Rattle.nfs_model.specs.Types as model
use Rattle.nfs_model.specs.Serial.Mount.{volume_path}
use Rattle.nfs_types.specs.Results.{count_shape, count_value, export_value, exports_shape}

-- an export takes twenty bytes with the TRUE before it
pub length-exports : (first count : ℕ)
    → length (spelling exports_shape (map export_value (map volume_path (range_with_len first count)))) ≡ 20 * count + 4
length-exports first zero = refl
length-exports first (suc count) = omega (arith, length-exports (first + 1) count)

-- a count takes twenty bytes
pub length-counts : (volumes : List model.VolumeCount) → length (flat_map (λ v. spelling count_shape v) (map count_value volumes)) ≡ 20 * length volumes
length-counts [] = refl
length-counts (v ∷ vs) =
    omega (arith, length-counts vs, length-append (spelling count_shape (count_value v)) (flat_map (λ v. spelling count_shape v) (map count_value vs)))
