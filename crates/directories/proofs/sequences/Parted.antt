-- A tree in its parts.
use Rattle.std.proofs.Common.{◌≡◌, refl, sym, subst, ◌∙◌, ap, ◌<◌, ◌^◌, Box, length}
use Rattle.std.specs.declared.alloc.Global.{Global}
use Rattle.directories.specs.sequences.Values.{TreeValue}
use Rattle.directories.specs.sequences.Trees.{items_of, tree_of, IsNode, IsTree}
use Rattle.directories.specs.sequences.Opened.{IsParted}
use Rattle.directories.specs.declared.sequences.tree.Node.{Node}
use Rattle.directories.specs.declared.sequences.tree.Parts.{Parts}
use Rattle.directories.specs.declared.sequences.tree.Root.{Root}
use Rattle.directories.specs.declared.sequences.tree.Root.TheVariants.{Fork}

-- what the parts of a node are
pub parted : {T : Type 0} (v : TreeValue T) (n : Root T) (chunk : Box (Node T) Global) (p : Parts T) → tree_of n ≡ v → IsTree n → n ≡ Fork chunk
    → p.left ≡ chunk.value.left → p.chunk.value.items ≡ chunk.value.items → p.right ≡ chunk.value.right → chunk.value.count < 2 ^ 64 → IsParted v p
parted {T} v n chunk p view sound is left items right fits =
    let node : IsNode chunk.value.left chunk.value.items.items chunk.value.right chunk.value.before chunk.value.count chunk.value.height =
    subst (λ (m : Root T). IsTree m) is sound in
    let tree : v ≡ tree_of (Fork chunk) = sym view ∙ ap (λ (m : Root T). tree_of m) is in
    rw (tree, left, items, right) record {
      some = node.some;
      items = refl;
      levels = node.levels;
      balanced = node.balanced;
      fits = subst (λ k. k < 2 ^ 64) node.all fits;
    }

-- what is known of a tree at its node
pub node-items : {T : Type 0} (v : TreeValue T) (n : Root T) (b : Box (Node T) Global) (node : Node T) → tree_of n ≡ v → n ≡ Fork b → node ≡ b.value
    → v.items ≡ items_of node.left node.items.items node.right
node-items {T} v n b node view is same =
    ap (λ (w : TreeValue T). w.items) (sym view ∙ ap (λ (m : Root T). tree_of m) is)
    ∙ ap (λ (m : Node T). items_of m.left m.items.items m.right) (sym same)

pub node-start : {T : Type 0} (n : Root T) (b : Box (Node T) Global) (node : Node T) → IsTree n → n ≡ Fork b → node ≡ b.value
    → node.before ≡ length node.left.items
node-start {T} n b node sound is same =
    let it : IsNode b.value.left b.value.items.items b.value.right b.value.before b.value.count b.value.height = subst (λ (m : Root T). IsTree m) is sound in
    subst (λ (m : Node T). m.before ≡ length m.left.items) (sym same) it.start
