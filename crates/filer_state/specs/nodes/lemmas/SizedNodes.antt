-- The volume that is seen after a file gets a size: its bytes are cut, or grown by zeros.
use Rattle.std.proofs.Common.{◌≡◌, ℕ, zero, suc, ◌+◌, ◌-◌, ◌*◌, ◌/◌, ◌%◌, ◌<◌, ◌≤◌, ◌==◌, ◌&&◌, Bool, true, false, cond, List, [], ◌∷◌, ◌++◌, length, map}
use Rattle.std.proofs.Common.{take, replicate, Option, Some, None, refl, sym, ap, ◌∙◌, arith, nat_lt, ⊎_elim}
use Rattle.std.specs.Prelude.{if◌then◌else◌, is_some}
use Rattle.std.proofs.lemmas.Bool.{eqb-true, cases_lt}
use Rattle.std.proofs.lemmas.Bool.Decides.{nat_tests}
use Rattle.std.proofs.lemmas.List.{take_all}
use Rattle.std.proofs.lemmas.List.FromFn.{take-map-range_with_len, length-map-range_with_len}
use Rattle.std.specs.List.{range_with_len}
use Rattle.std.specs.Option.{option_map}
use Rattle.std.specs.Ordering.{nat_cmp}
use Rattle.std.specs.Cmp.{nat_cmp_total}
use Rattle.std.specs.FinMap.{get, insert, nat_cmp-IsAntisymmetric}
use Rattle.std.specs.FinSet as sets
use Rattle.std.specs.FinSet.{contains, retain, contains-retain}
use Rattle.nfs_model.specs.Server.{Node, File, FileNode, block_size}
use Rattle.nfs_model.specs.Serial.Rights.{ownership_of}
use Rattle.nfs_model.specs.Serial.Setattr.{resized_bytes, with_node}
use Rattle.nfs_model.specs.volume.Inodes.{Inode, InodesValue, inode_of}
use Rattle.nfs_model.specs.volume.Stripes.{OfFile, Block, StripeValue, byte_of, byte_cut, block_mapped, touch_of, stripe_of, is_filled}
use Rattle.nfs_model.specs.volume.lemmas.Inodes.{inode-set-there, inode-set-other, next-set}
use Rattle.nfs_model.specs.volume.lemmas.Maps.{get-map_values}
use Rattle.nfs_model.specs.volume.lemmas.Numbered.{get-insert_at, same-answers, itself}
use Rattle.filer_state.specs.state.Contents.{VolumeContents}
use Rattle.filer_state.specs.state.Tree.{stripe_at, home_stripe, file_byte, file_bytes, file_filled, file_touch, later, most_file_blocks, node_by, node_of, text_or_empty}
use Rattle.filer_state.specs.state.Tree.{directory_or_empty, node_with, volume_of}
use Rattle.filer_state.specs.state.Names.{size_of, size_in}
use Rattle.filer_state.specs.state.Kinds.{IsFile}
use Rattle.filer_state.specs.state.WellFormed.{WellFormed}
use Rattle.filer_state.specs.laws.lemmas.SameBlocks.{stripe-mapped}
use Rattle.filer_state.specs.nodes.Sizing.{Sizing, stripe_sized, all_freed, kind_sized, inode_sized}
use Rattle.filer_state.specs.nodes.Laws.{file_resized, file_seen}
use Rattle.filer_state.specs.nodes.lemmas.Cutting.{cut-here, cut-other, cut-byte}
use Rattle.filer_state.specs.nodes.lemmas.Sized.{sized_in, card-sized, filled-other}

-- ---- lists by a range

test-less : (a b : ℕ) → a < b → nat_lt a b ≡ true
test-less a b h = grind (arith, nat_tests)

same-range : (g h : ℕ → ℕ) (a n : ℕ) → ((k : ℕ) → a ≤ k → k < a + n → g k ≡ h k) → map g (range_with_len a n) ≡ map h (range_with_len a n)
same-range g h a zero same = refl
same-range g h a (suc n) same = λ j.
    same a (omega arith) (omega arith) j ∷ same-range g h (a + 1) n (λ k low less. same k (omega (arith, low)) (omega (arith, less))) j

zero-range : (g : ℕ → ℕ) (a n : ℕ) → ((k : ℕ) → a ≤ k → g k ≡ 0) → map g (range_with_len a n) ≡ replicate n 0
zero-range g a zero none = refl
zero-range g a (suc n) none = λ j. none a (omega arith) j ∷ zero-range g (a + 1) n (λ k low. none k (omega (arith, low))) j

-- a longer range, whose further numbers give zeros
longer-range : (g : ℕ → ℕ) (a n more : ℕ) → ((k : ℕ) → a + n ≤ k → g k ≡ 0) → (all : ℕ) → all ≡ n + more
    → map g (range_with_len a all) ≡ map g (range_with_len a n) ++ replicate more 0
longer-range g a zero more none all is =
    ap (λ (k : ℕ). map g (range_with_len a k)) (let e : all ≡ more = omega (arith, is) in e)
    ∙ zero-range g a more (λ k low. none k (omega (arith, low)))
longer-range g a (suc n) more none all is =
    ap (λ (k : ℕ). map g (range_with_len a k)) (let e : all ≡ suc (n + more) = omega (arith, is) in e)
    ∙ ap (λ (xs : List ℕ). g a ∷ xs) (longer-range g (a + 1) n more (λ k low. none k (omega (arith, low))) (n + more) refl)

-- the bytes of a file after a size is set
resized-range : (g h : ℕ → ℕ) (old size : ℕ) → ((k : ℕ) → k < size → h k ≡ g k) → ((k : ℕ) → old ≤ k → g k ≡ 0)
    → map h (range_with_len 0 size) ≡ resized_bytes size (map g (range_with_len 0 old))
resized-range g h old size same none =
    same-range h g 0 size (λ k low less. same k (omega (arith, less)))
    ∙ ⊎_elim
    (λ (more : old < size).
    longer-range g 0 old (size - old) (λ k low. none k (omega (arith, low))) size (omega (arith, more))
    ∙ (λ j. sym (take_all size (map g (range_with_len 0 old)) (let l = length-map-range_with_len g 0 old in omega (arith, more, l))) j
    ++ replicate (size - sym (length-map-range_with_len g 0 old) j) 0))
    (λ (fewer : size ≤ old).
    sym (take-map-range_with_len g 0 old size fewer) ∙ sym (nothing (take size (map g (range_with_len 0 old))))
    ∙ ap (λ (n : ℕ). take size (map g (range_with_len 0 old)) ++ replicate n 0)
    (let l = length-map-range_with_len g 0 old in let z : 0 ≡ size - length (map g (range_with_len 0 old)) = omega (arith, fewer, l) in z))
    (cases_lt old size)
  where
    nothing : (xs : List ℕ) → xs ++ [] ≡ xs
    nothing [] = refl
    nothing (x ∷ xs) = ap (λ (ys : List ℕ). x ∷ ys) (nothing xs)

-- ---- the volume after it

module _ (p : VolumeContents) (m : Sizing) (well : WellFormed p) (there : get p.logical.inodes.inodes m.fileid ≡ Some m.inode)
    (old_size filled : ℕ) (verifier : Option (List ℕ)) (is_file : IsFile m.inode.kind old_size filled verifier)
    (small : m.size ≤ p.logical.largest) where
  abbrev f : ℕ
  f = m.fileid

  abbrev old : InodesValue
  old = p.logical.inodes

  abbrev next_inode : Inode
  next_inode = inode_sized m (length (all_freed f m.size p.stripes))

  abbrev after : VolumeContents
  after = sized_in m p

  many-after : length after.stripes ≡ length p.stripes
  many-after = length-mapped p.stripes
    where
      length-mapped : (stripes : List StripeValue) → length (map (stripe_sized f m.size (ownership_of m.attributes)) stripes) ≡ length stripes
      length-mapped [] = refl
      length-mapped (s ∷ stripes) = ap suc (length-mapped stripes)

  some-stripes : 0 < length p.stripes
  some-stripes =
      let as_many = well.as_many in
      ⊎_elim (λ (e : p.logical.stripes ≡ 8). omega (arith, e, as_many)) (λ (e : p.logical.stripes ≡ 16). omega (arith, e, as_many)) well.striped

  -- the stripe of a block
  home-after : (q block : ℕ) → home_stripe after.stripes q block ≡ stripe_sized f m.size (ownership_of m.attributes) (home_stripe p.stripes q block)
  home-after q block =
      ap (λ (n : ℕ). stripe_at after.stripes (stripe_of n q block)) many-after
      ∙ stripe-mapped (stripe_sized f m.size (ownership_of m.attributes)) p.stripes (stripe_of (length p.stripes) q block) (let some = some-stripes in omega (arith, some))

  -- ---- bytes

  byte-before : (k : ℕ) → k < m.size → file_byte after.stripes f k ≡ file_byte p.stripes f k
  byte-before k less =
      ap (λ (s : StripeValue). byte_of (get s.blocks (f, k / block_size)) (k % block_size)) (home-after f (k / block_size))
      ∙ ap (λ o. byte_of o (k % block_size)) (cut-here f m.size (home_stripe p.stripes f (k / block_size)) (k / block_size)
      ∙ ap (λ (t : Bool). option_map (block_mapped (byte_cut m.size) (k / block_size)) (cond t (get (home_stripe p.stripes f (k / block_size)).blocks
      (f, k / block_size)) None)) (test-less (block_size * (k / block_size)) m.size (omega (arith, less))))
      ∙ by (get (home_stripe p.stripes f (k / block_size)).blocks (f, k / block_size))
    where
      by : (o : Option Block) → byte_of (option_map (block_mapped (byte_cut m.size) (k / block_size)) o) (k % block_size) ≡ byte_of o (k % block_size)
      by None = refl
      by (Some x) =
          cut-byte f m.size (k / block_size) (k % block_size) x (omega arith)
          ∙ ap (λ (t : Bool). if t then byte_of (Some x) (k % block_size) else 0)
          (test-less (block_size * (k / block_size) + k % block_size) m.size (omega (arith, less)))

  byte-past : (k : ℕ) → old_size ≤ k → file_byte p.stripes f k ≡ 0
  byte-past k past = by (get (home_stripe p.stripes f (k / block_size)).blocks (f, k / block_size)) refl
    where
      by : (o : Option Block) → get (home_stripe p.stripes f (k / block_size)).blocks (f, k / block_size) ≡ o → byte_of o (k % block_size) ≡ 0
      by None e = refl
      by (Some x) e =
          let fitted = (well.stripes (stripe_of (length p.stripes) f (k / block_size)) (let some = some-stripes in omega (arith, some))).blocks f
          (k / block_size) x e in
          let size : fitted.0 ≡ old_size = (let says = sym fitted.1 ∙ ap size_of there ∙ ap size_in is_file in cc) in
          fitted.2.zeros (k % block_size) (omega (arith, past, size))

  bytes-after : file_bytes after.stripes f m.size ≡ resized_bytes m.size (file_bytes p.stripes f old_size)
  bytes-after = resized-range (file_byte p.stripes f) (file_byte after.stripes f) old_size m.size byte-before byte-past

  -- ---- filled blocks

  filled-at : (block : ℕ) → is_filled (home_stripe after.stripes f block) f block
      ≡ (is_filled (home_stripe p.stripes f block) f block && nat_lt (block_size * block) m.size)
  filled-at block =
      ap (λ (s : StripeValue). is_some (get s.blocks (f, block))) (home-after f block)
      ∙ ap (λ o. is_some o) (cut-here f m.size (home_stripe p.stripes f block) block)
      ∙ by (nat_lt (block_size * block) m.size) (get (home_stripe p.stripes f block).blocks (f, block))
    where
      by : (t : Bool) (o : Option Block) → is_some (option_map (block_mapped (byte_cut m.size) block) (cond t o None)) ≡ (is_some o && t)
      by true None = refl
      by true (Some x) = refl
      by false None = refl
      by false (Some x) = refl

  and-grouped : (a b c : Bool) → (a && (b && c)) ≡ ((a && b) && c)
  and-grouped true b c = refl
  and-grouped false b c = refl

  filled-after : file_filled after.stripes f ≡ retain (file_filled p.stripes f) (λ b. nat_lt (block_size * b) m.size)
  filled-after = sets.same_set nat_cmp_total nat_cmp-IsAntisymmetric _ _ (λ q.
      contains-retain all (λ b. is_filled (home_stripe after.stripes f b) f b) q
      (λ x same. ap (λ (b : ℕ). is_filled (home_stripe after.stripes f b) f b) (sym (nat_cmp-IsAntisymmetric q x same)))
      ∙ ap (λ t. contains all q && t) (filled-at q)
      ∙ and-grouped (contains all q) (is_filled (home_stripe p.stripes f q) f q) (nat_lt (block_size * q) m.size)
      ∙ ap (λ t. t && nat_lt (block_size * q) m.size) (sym (contains-retain all (λ b. is_filled (home_stripe p.stripes f b) f b) q
      (λ x same. ap (λ (b : ℕ). is_filled (home_stripe p.stripes f b) f b) (sym (nat_cmp-IsAntisymmetric q x same)))))
      ∙ sym (contains-retain (file_filled p.stripes f) (λ b. nat_lt (block_size * b) m.size) q
      (λ x same. ap (λ (b : ℕ). nat_lt (block_size * b) m.size) (sym (nat_cmp-IsAntisymmetric q x same)))))
    where
      all : sets.FinSet nat_cmp
      all = sets.from_list (range_with_len 0 most_file_blocks)

  -- ---- touches

  touch-gone : (stripes : List StripeValue) → file_touch (map (stripe_sized f m.size (ownership_of m.attributes)) stripes) f ≡ None
  touch-gone [] = refl
  touch-gone (s ∷ stripes) = λ j. later
      ((ap touch_of (card-sized f m.size (ownership_of m.attributes) s f) ∙ ap (λ (b : Bool). touch_of (if b then Some (OfFile m.size None (ownership_of m.attributes)) else get s.cards f)) (itself f)) j)
      (touch-gone stripes j)

  touch-other : (stripes : List StripeValue) (q : ℕ) → (q == f) ≡ false → file_touch (map (stripe_sized f m.size (ownership_of m.attributes)) stripes) q ≡ file_touch stripes q
  touch-other [] q ne = refl
  touch-other (s ∷ stripes) q ne = λ j. later
      ((ap touch_of (card-sized f m.size (ownership_of m.attributes) s q) ∙ ap (λ (b : Bool). touch_of (if b then Some (OfFile m.size None (ownership_of m.attributes)) else get s.cards q)) ne) j)
      (touch-other stripes q ne j)

  -- ---- nodes

  abbrev now : ℕ → Inode → Node
  now = node_of after.stripes after.logical.directories after.logical.texts

  abbrev was : ℕ → Inode → Node
  was = node_of p.stripes p.logical.directories p.logical.texts

  abbrev file_was : FileNode
  file_was = file_seen p m old_size verifier

  pub was-file : was f m.inode ≡ File file_was
  was-file = ap (node_by p.stripes (get p.logical.directories f) (get p.logical.texts f) f m.inode.attributes m.inode.names) is_file

  is-file : now f next_inode ≡ File (file_resized m.size m.attributes file_was)
  is-file =
      ap (λ k. node_by after.stripes (get p.logical.directories f) (get p.logical.texts f) f m.attributes m.inode.names (kind_sized m.size (length (all_freed f m.size p.stripes)) k)) is_file
      ∙ (λ j. File (record {
        attributes = m.attributes;
        bytes = bytes-after j;
        filled = filled-after j;
        touch = touch-gone p.stripes j;
        verifier = verifier;
        links = m.inode.names;
      }))

  byte-other : (q : ℕ) → (q == f) ≡ false → (k : ℕ) → file_byte after.stripes q k ≡ file_byte p.stripes q k
  byte-other q ne k =
      ap (λ (s : StripeValue). byte_of (get s.blocks (q, k / block_size)) (k % block_size)) (home-after q (k / block_size))
      ∙ ap (λ o. byte_of o (k % block_size)) (cut-other f m.size (home_stripe p.stripes q (k / block_size)) q (k / block_size) ne)

  other-node : (q : ℕ) → (q == f) ≡ false → (inode : Inode) → now q inode ≡ was q inode
  other-node q ne inode = λ j. node_with
      (λ size. map (λ k. byte-other q ne k j) (range_with_len 0 size)) (filled-other p m well there old_size filled verifier is_file small q ne j)
      (touch-other p.stripes q ne j) (directory_or_empty (get p.logical.directories q)) (text_or_empty (get p.logical.texts q))
      inode.attributes inode.names inode.kind

  abbrev sized_node : Node
  sized_node = File (file_resized m.size m.attributes file_was)

  nodes-sized : (volume_of after).nodes ≡ insert (volume_of p).nodes f sized_node
  nodes-sized = same-answers _ _ (λ q.
      get-map_values nat_cmp_total nat_cmp-IsAntisymmetric now after.logical.inodes.inodes q
      ∙ by q (q == f) refl
      ∙ sym (get-insert_at (volume_of p).nodes f sized_node q))
    where
      others : (q : ℕ) → (q == f) ≡ false → (o : Option Inode) → option_map (now q) o ≡ option_map (was q) o
      others q ne None = refl
      others q ne (Some inode) = ap Some (other-node q ne inode)

      by : (q : ℕ) (b : Bool) → (q == f) ≡ b
          → option_map (now q) (get after.logical.inodes.inodes q) ≡ (if b then Some sized_node else get (volume_of p).nodes q)
      by q true e =
          ap (λ (k : ℕ). option_map (now k) (get after.logical.inodes.inodes k)) (eqb-true q f e)
          ∙ ap (option_map (now f)) (inode-set-there old f m.inode next_inode there) ∙ ap Some is-file
      by q false e =
          ap (option_map (now q)) (inode-set-other old f next_inode q e) ∙ others q e (inode_of old q)
          ∙ sym (get-map_values nat_cmp_total nat_cmp-IsAntisymmetric was old.inodes q)

  -- the volume after it
  pub volume-sized : volume_of after ≡ with_node (volume_of p) f sized_node
  volume-sized = λ j. record (volume_of p) { next = next-set old f next_inode j; nodes = nodes-sized j }
