-- Exports, one after the other.
use Rattle.std.proofs.Common.{◌≡◌, ℕ, zero, suc, ◌+◌, ◌-◌, ◌<◌, ◌++◌, map, ap, arith}
use Rattle.std.specs.List.{range_with_len}
use Rattle.xdr.specs.Shape.{spelling, word}
use Rattle.nfs_model.specs.Serial.Mount.{volume_path}
use Rattle.nfs_types.specs.Results.{export_shape, export_value, exports_shape}

-- the first of the exports stands before the others
pub exports_more : (first count : ℕ) → 0 < count
    → spelling exports_shape (map export_value (map volume_path (range_with_len first count)))
    ≡ word 1 ++ (spelling export_shape (export_value (volume_path first))
    ++ spelling exports_shape (map export_value (map volume_path (range_with_len (first + 1) (count - 1)))))
exports_more first zero some = absurd (omega (arith, some))
exports_more first (suc count) some = ap (λ n. word 1 ++ (spelling export_shape (export_value (volume_path first))
    ++ spelling exports_shape (map export_value (map volume_path (range_with_len (first + 1) n))))) (omega arith)
