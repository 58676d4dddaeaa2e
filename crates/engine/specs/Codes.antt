-- The codes of the nodes of a volume, and of what is in the parcels of a history, which the engine's value needs.
use Rattle.std.specs.Prelude.{◌≡◌, refl, ℕ, List, Option, ◌⊎◌}
use Rattle.std.proofs.Common.{inl, inr}
use Rattle.std.specs.Coded.{Coded, code_by, coded×, coded⊎, coded_ℕ, coded_list, coded_option}
use Rattle.std.specs.FinMap as maps
use Rattle.std.specs.FinMap.{FinMap}
use Rattle.std.specs.FinSet as sets
use Rattle.std.specs.FinSet.{FinSet}
use Rattle.std.specs.Ordering.{nat_cmp}
use Rattle.nfs_model.specs.Types.{Moment, Listed, SpecialType}
use Rattle.nfs_model.specs.Server.{Attributes, FileNode, DirectoryNode, SpecialNode, Node, File, Directory, Special}
use Rattle.nfs_model.specs.volume.Codes as volumes
use Rattle.nfs_model.specs.volume.Codes.{coded_moment, coded_attributes, coded_listed, coded_special}
use Rattle.nfs_model.specs.volume.Logical.{LogicalValue}
use Rattle.nfs_model.specs.volume.Ranges.{RangeValue}
use Rattle.nfs_model.specs.volume.Stripes.{StripeValue}

abbrev pub coded_file : Coded FileNode
coded_file =
    code_by (Attributes × (List ℕ × (FinSet nat_cmp × (Option Moment × (Option (List ℕ) × ℕ)))))
    (coded× coded_attributes
    (coded× (coded_list coded_ℕ)
    (coded× (sets.code coded_ℕ) (coded× (coded_option coded_moment) (coded× (coded_option (coded_list coded_ℕ)) coded_ℕ)))))
    (λ f. (f.attributes, (f.bytes, (f.filled, (f.touch, (f.verifier, f.links))))))
    (λ p. record { attributes = p.0; bytes = p.1.0; filled = p.1.1.0; touch = p.1.1.1.0; verifier = p.1.1.1.1.0; links = p.1.1.1.1.1 }) (λ _. refl)

abbrev pub coded_directory : Coded DirectoryNode
coded_directory =
    code_by (Attributes × (ℕ × (ℕ × List Listed))) (coded× coded_attributes (coded× coded_ℕ (coded× coded_ℕ (coded_list coded_listed))))
    (λ d. (d.attributes, (d.parent, (d.next, d.list)))) (λ p. record { attributes = p.0; parent = p.1.0; next = p.1.1.0; list = p.1.1.1 }) (λ _. refl)

abbrev pub coded_special_node : Coded SpecialNode
coded_special_node =
    code_by (Attributes × (SpecialType × (List ℕ × ℕ))) (coded× coded_attributes (coded× coded_special (coded× (coded_list coded_ℕ) coded_ℕ)))
    (λ n. (n.attributes, (n.special, (n.text, n.links)))) (λ p. record { attributes = p.0; special = p.1.0; text = p.1.1.0; links = p.1.1.1 }) (λ _. refl)

-- a file, or a directory, or all else
abbrev pub Nodes : Type 0
Nodes = FileNode ⊎ (DirectoryNode ⊎ SpecialNode)

abbrev pub node_out : Node → Nodes
node_out (File f) = inl f
node_out (Directory d) = inr (inl d)
node_out (Special n) = inr (inr n)

abbrev pub node_back : Nodes → Node
node_back (inl f) = File f
node_back (inr (inl d)) = Directory d
node_back (inr (inr n)) = Special n

pub node_again : (n : Node) → node_back (node_out n) ≡ n
node_again (File f) = refl
node_again (Directory d) = refl
node_again (Special n) = refl

abbrev pub coded_node : Coded Node
coded_node = code_by Nodes (coded⊎ coded_file (coded⊎ coded_directory coded_special_node)) node_out node_back node_again

abbrev pub coded_nodes : Coded (FinMap nat_cmp Node)
coded_nodes = maps.code coded_ℕ coded_node

abbrev pub coded_filled : Coded (FinSet nat_cmp)
coded_filled = sets.code coded_ℕ

-- ---- what is in parcels

abbrev pub coded_range : Coded RangeValue
coded_range = volumes.coded_range

abbrev pub coded_stripe : Coded StripeValue
coded_stripe = volumes.coded_stripe

abbrev pub coded_logical : Coded LogicalValue
coded_logical = volumes.coded_logical
