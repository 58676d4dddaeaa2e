-- Which layouts a run may have, and the number by which another is refused (our profile).
use Rattle.std.specs.Prelude.{ℕ, Bool, ◌*◌, ◌^◌, ◌&&◌, ◌||◌, ◌==◌, not, nat_le, nat_lt, List, length, map, Option, Some, None, if◌then◌else◌}
use Rattle.std.specs.List.{list_all, list_any, range_with_len}
use Rattle.nfs_model.specs.Tree.{Layout, VolumeLayout}
use Rattle.nfs_model.specs.volume.Inodes.{inodes_of_a_volume}
use Rattle.affinity.specs.declared.fault.LayoutFault.{LayoutFault}
use Rattle.affinity.specs.declared.fault.LayoutFault.TheVariants as faults

abbrev pub is_within : ℕ → ℕ → ℕ → Bool
is_within low high n = nat_le low n && nat_le n high

-- on an aggregate that is there
abbrev pub is_known : ℕ → VolumeLayout → Bool
is_known aggregates v = nat_lt v.aggregate aggregates

-- of 1 to 16 ranges
abbrev pub is_sized : VolumeLayout → Bool
is_sized v = is_within 1 16 v.ranges

-- at most 128 spare ranges
abbrev pub is_spare : ℕ → Bool
is_spare n = nat_le n 128

-- of 8 or 16 stripes
abbrev pub is_striped : VolumeLayout → Bool
is_striped v = (v.stripes == 8) || (v.stripes == 16)

-- the largest files have 16 or 64 mebibytes
abbrev pub is_limited : VolumeLayout → Bool
is_limited v = (v.mebibytes == 16) || (v.mebibytes == 64)

-- the numbers of blocks that a range may have: 1,024 times a power of two, at most 16,777,216
abbrev pub range_sizes : List ℕ
range_sizes = map (λ k. 1024 * 2 ^ k) (range_with_len 0 15)

-- with ranges of one of these
abbrev pub has_lawful_ranges : VolumeLayout → Bool
has_lawful_ranges v = list_any (λ n. n == v.range_blocks) range_sizes

-- the largest files have 16 to 1,048,576 mebibytes
abbrev pub has_lawful_files : VolumeLayout → Bool
has_lawful_files v = is_within 16 1048576 v.mebibytes

-- it has 65,536 to 67,108,864 inodes at most
abbrev pub has_lawful_inodes : VolumeLayout → Bool
has_lawful_inodes v = is_within 65536 inodes_of_a_volume v.inodes

-- The first rule of the tree that a layout breaks: 1 to 2 aggregates, 1 to 8 volumes, each volume on an aggregate that is there and of 1 to 16
-- ranges, each aggregate with at most 128 spare ranges, each volume of 8 or 16 stripes.
abbrev pub tree_fault : Layout → Option ℕ
tree_fault layout =
    if not (is_within 1 2 (length layout.spare)) then Some 51
    else if not (is_within 1 8 (length layout.volumes)) then Some 52
    else if not (list_all (is_known (length layout.spare)) layout.volumes) then Some 53
    else if not (list_all is_sized layout.volumes) then Some 54
    else if not (list_all is_spare layout.spare) then Some 55
    else if not (list_all is_striped layout.volumes) then Some 56
    else None

-- The first rule on sizes that volumes break: of each the ranges have 1,024 blocks times a power of two, at most 16,777,216, the largest files
-- 16 to 1,048,576 mebibytes, and it has 65,536 to 67,108,864 inodes at most.
abbrev pub sizes_fault : List VolumeLayout → Option ℕ
sizes_fault volumes =
    if not (list_all has_lawful_ranges volumes) then Some 58
    else if not (list_all has_lawful_files volumes) then Some 59
    else if not (list_all has_lawful_inodes volumes) then Some 67
    else None

-- the first of two rules that is broken
abbrev pub first_broken : Option ℕ → Option ℕ → Option ℕ
first_broken None further = further
first_broken (Some number) further = Some number

-- the first rule that a layout breaks
abbrev pub fault_of : Layout → Option ℕ
fault_of layout = first_broken (tree_fault layout) (sizes_fault layout.volumes)

-- The first rule that a layout breaks whose volumes' sizes aren't given: those of the tree, and the largest files of each volume have 16 or 64
-- mebibytes.
abbrev pub fault_without_sizes : Layout → Option ℕ
fault_without_sizes layout =
    first_broken (tree_fault layout) (if not (list_all is_limited layout.volumes) then Some 57 else None)

abbrev pub fault_number : LayoutFault → ℕ
fault_number faults.AggregateCount = 51
fault_number faults.VolumeCount = 52
fault_number faults.UnknownAggregate = 53
fault_number faults.RangeCount = 54
fault_number faults.SpareRanges = 55
fault_number faults.StripeCount = 56
fault_number faults.FileLimit = 57
fault_number faults.RangeBlocks = 58
fault_number faults.FileSize = 59
fault_number faults.InodeCount = 67
fault_number faults.NoMemory = 90

-- the rule that a fault says is broken: want of memory breaks none
abbrev pub rule_broken : LayoutFault → Option ℕ
rule_broken faults.NoMemory = None
rule_broken fault = Some (fault_number fault)
