-- A file that bytes extend, or whose holes they fill, with the numbers of a hand: all stays sound, and the file is the one that was written.
use Rattle.std.proofs.Common.{◌≡◌, ℕ, zero, suc, ◌+◌, ◌-◌, ◌*◌, ◌/◌, ◌<◌, ◌≤◌, ◌==◌, ◌||◌, ◌&&◌, max, Bool, true, false, List, [], ◌∷◌}
use Rattle.std.proofs.Common.{length, map, Option, Some, nat_eq, refl, sym, ap, ◌∙◌, subst, arith}
use Rattle.std.specs.Prelude.{if◌then◌else◌, is_some}
use Rattle.std.proofs.lemmas.Bool.{eqb-true}
use Rattle.std.proofs.lemmas.Bool.Decides.{nat_tests}
use Rattle.std.specs.List.{range_with_len}
use Rattle.std.specs.Option.{option_map}
use Rattle.std.specs.Ordering.{nat_cmp}
use Rattle.std.specs.Cmp.{nat_cmp_total}
use Rattle.std.specs.FinMap.{get, nat_cmp-IsAntisymmetric}
use Rattle.std.specs.FinSet as sets
use Rattle.std.specs.FinSet.{contains, from_list, contains-from_list_nat}
use Rattle.nfs_model.specs.Parts.{Hand, Fresh}
use Rattle.nfs_model.specs.Server.{Node, File, FileNode, block_size}
use Rattle.nfs_model.specs.Home.{span_bytes}
use Rattle.nfs_model.specs.Shown.{touched}
use Rattle.nfs_model.specs.Serial.Setattr.{with_node}
use Rattle.nfs_model.specs.Serial.Write.{blocks_met, with_blocks, written_bytes, written_file}
use Rattle.nfs_model.specs.volume.Inodes.{Inode, InodesValue, inode_set, filled_blocks}
use Rattle.nfs_model.specs.volume.Stripes.{StripeValue, is_filled, byte_written}
use Rattle.nfs_model.specs.volume.lemmas.Inodes.{inode-set-there, inode-set-twice, used-set, next-set}
use Rattle.filer_state.specs.state.Contents.{VolumeContents}
use Rattle.filer_state.specs.state.Tree.{home_stripe, file_byte, file_bytes, file_filled, file_touch, most_file_blocks, node_of, volume_of}
use Rattle.filer_state.specs.state.Kinds.{IsFile}
use Rattle.filer_state.specs.state.WellFormed.{WellFormed, IsLargest}
use Rattle.filer_state.specs.state.Partition.{times_in_stripe}
use Rattle.filer_state.specs.state.Sound.{IsSound}
use Rattle.filer_state.specs.state.Lenses.{logical_lens}
use Rattle.filer_state.specs.attributes.lemmas.Getting.{node-at}
use Rattle.filer_state.specs.laws.lemmas.SameBlocks.{total-mapped, homes-stay}
use Rattle.filer_state.specs.bytes.Extending.{Extending, end_of, holes, kind_extended, inodes_extended, stripe_grown, filled_with, spans_written, file_extended}
use Rattle.filer_state.specs.bytes.lemmas.Refiled.{refiled, next_inode, sound-refiled, some-stripes}
use Rattle.filer_state.specs.bytes.lemmas.Else.{SeenAlike, seen-alike, put-same}
use Rattle.filer_state.specs.bytes.lemmas.Grown.{grows, touch-grown, byte-grown, byte-past}
use Rattle.filer_state.specs.bytes.lemmas.Holes.{AreHoles, is_listed, any-below, met-listed, listed-or, contains-blocks, seen-filled-at, met-holes}
use Rattle.filer_state.specs.bytes.lemmas.HolesFilled.{FilledUp, filled-up, size-small}
use Rattle.filer_state.specs.bytes.lemmas.SpansWritten.{AreThere, restriped, Overwrites, spans-written}
use Rattle.filer_state.specs.bytes.lemmas.Commuted.{holes-grown, filled-grown}
use Rattle.filer_state.specs.bytes.lemmas.Patched.{bytes-written}
use Rattle.filer_state.specs.bytes.lemmas.Padded.{written-longer}
use Rattle.filer_state.specs.bytes.lemmas.WrittenNodes.{file_before}

-- the inode of a file, and the count of all blocks, extended
extended-is : (v : InodesValue) (f end more : ℕ) (inode : Inode) (size blocks : ℕ) (verifier : Option (List ℕ)) → get v.inodes f ≡ Some inode
    → IsFile inode.kind size blocks verifier
    → inodes_extended f end more (get v.inodes f) v ≡ inode_set f (next_inode inode (max size end) (blocks + more) verifier) v
extended-is v f end more inode size blocks verifier there is_file =
    ap (λ o. inodes_extended f end more o v) there
    ∙ ap (λ k. inode_set f (record inode { kind = kind_extended end more k }) v) is_file

-- within the blocks that a file has at most
largest-small : (largest size : ℕ) → IsLargest largest → size ≤ largest → size ≤ block_size * most_file_blocks
unfolding most_file_blocks
largest-small largest size is less = let whole = is.is in let few = is.most in omega (arith, whole, few, less)

-- ---- the blocks met

listed-below : (q a n : ℕ) → is_listed q (range_with_len a n) ≡ true → q < a + n
listed-below q a zero h = absurd cc
listed-below q a (suc n) h = by (nat_eq a q) refl h (listed-below q (a + 1) n)
  where
    by : (t : Bool) → nat_eq a q ≡ t → (t || is_listed q (range_with_len (a + 1) n)) ≡ true
        → (is_listed q (range_with_len (a + 1) n) ≡ true → q < a + 1 + n) → q < a + suc n
    by true e g rest = let same : a ≡ q = eqb-true a q e in omega (arith, same)
    by false e g rest = let less = rest g in omega (arith, less)

met-below : (q offset n : ℕ) → offset + n ≤ block_size * most_file_blocks → is_listed q (blocks_met offset n) ≡ true → q < most_file_blocks
met-below q offset n small h = by (n == 0) refl h
  where
    by : (none : Bool) → (n == 0) ≡ none
        → is_listed q (if none then [] else range_with_len (offset / block_size) (((offset + n - 1) / block_size + 1) - offset / block_size)) ≡ true
        → q < most_file_blocks
    by true e g = absurd cc
    by false e g =
        let less = listed-below q (offset / block_size) (((offset + n - 1) / block_size + 1) - offset / block_size) g in
        let some : 0 < n = grind (arith, nat_tests) in
        omega (arith, less, small, some)

-- ---- all of it

module _ (p : VolumeContents) (m : Extending) (inode : Inode) (size blocks : ℕ) (verifier : Option (List ℕ))
    (there : get p.logical.inodes.inodes m.fileid ≡ Some inode) (is_file : IsFile inode.kind size blocks verifier)
    (hands : List Hand) (made : ℕ) (sound : IsSound p (Fresh p.number m.numbers ∷ hands) made)
    (as_many : length m.numbers ≡ length (holes p.stripes m.fileid m.offset (length m.written)))
    (some : 0 < length m.written) (few : length m.written ≤ span_bytes) (fits : end_of m ≤ p.logical.largest) where
  abbrev f : ℕ
  f = m.fileid

  abbrev n : ℕ
  n = length m.written

  abbrev end : ℕ
  end = end_of m

  abbrev well : WellFormed p
  well = sound.well_formed

  abbrev found : List ℕ
  found = holes p.stripes f m.offset n

  abbrev longer : ℕ
  longer = max size end

  within : longer ≤ p.logical.largest
  within = let was = size-small p f inode size blocks verifier well there is_file in omega (arith, was, fits)

  small : longer ≤ block_size * most_file_blocks
  small = largest-small p.logical.largest longer well.largest within

  -- ---- grown

  abbrev grown : List StripeValue
  grown = map (stripe_grown f end) p.stripes

  abbrev inode_1 : Inode
  inode_1 = next_inode inode longer (blocks + 0) verifier

  abbrev p_1 : VolumeContents
  p_1 = refiled f inode_1 grown p

  sound-1 : IsSound p_1 (Fresh p.number m.numbers ∷ hands) made
  sound-1 = sound-refiled p f inode size blocks verifier longer 0 grown there is_file well within
      (grows p f end inode size blocks verifier there is_file well) (Fresh p.number m.numbers ∷ hands) (Fresh p.number m.numbers ∷ hands) made
      (λ k. let same = total-mapped (stripe_grown f end) (times_in_stripe k) (λ s. refl) p.stripes in omega (arith, same)) sound

  there-1 : get p_1.logical.inodes.inodes f ≡ Some inode_1
  there-1 = inode-set-there p.logical.inodes f inode inode_1 there

  seen-1 : SeenAlike f p_1 p
  seen-1 = seen-alike p f inode size blocks verifier longer 0 grown there is_file well within (grows p f end inode size blocks verifier there is_file well)

  -- ---- its holes filled

  abbrev inode_2 : Inode
  inode_2 = next_inode inode longer (blocks + 0 + length m.numbers) verifier

  abbrev p_2 : VolumeContents
  p_2 = refiled f inode_2 (filled_with f found m.numbers grown) p_1

  up : FilledUp f found p_1 hands made p_2
  up = filled-up f longer verifier hands made found m.numbers as_many p_1 inode_1 (blocks + 0) 0 there-1 refl
      (subst (AreHoles f longer grown 0) (holes-grown f end p.stripes m.offset n)
      (met-holes f longer grown m.offset n (omega arith))) sound-1

  there-2 : get p_2.logical.inodes.inodes f ≡ Some inode_2
  there-2 = inode-set-there p_1.logical.inodes f inode_1 inode_2 there-1

  filled-1 : (b : ℕ) → is_filled (home_stripe grown f b) f b ≡ is_filled (home_stripe p.stripes f b) f b
  filled-1 b = λ j. is_some (get (homes-stay (stripe_grown f end) (λ s. refl) p.stripes f b j) (f, b))

  -- what is filled then
  filled-2 : (q : ℕ) → is_filled (home_stripe p_2.stripes f q) f q ≡ (is_listed q (blocks_met m.offset n) || is_filled (home_stripe p.stripes f q) f q)
  filled-2 q = up.filled q ∙ ap (λ t. is_listed q found || t) (filled-1 q)
      ∙ listed-or (λ b. is_filled (home_stripe p.stripes f b) f b) q (blocks_met m.offset n)

  all-there : AreThere f m.offset n p_2.stripes
  all-there b more from below =
      filled-2 b ∙ ap (λ (t : Bool). t || is_filled (home_stripe p.stripes f b) f b) (met-listed b m.offset n more from below)

  -- ---- and written

  abbrev stripes_3 : List StripeValue
  stripes_3 = spans_written f m.offset m.written m.moment p_2.stripes

  abbrev p_3 : VolumeContents
  p_3 = restriped stripes_3 p_2

  over : Overwrites f m.offset m.written m.moment p_2 hands (made + 2) stripes_3
  over = spans-written p_2 f inode_2 longer (blocks + 0 + length m.numbers) verifier there-2 refl m.moment hands small made up.sound m.offset m.written
      some few (omega arith) all-there

  -- ---- that is what is under Logical after it

  abbrev final : VolumeContents
  final = logical_lens.put (file_extended m (logical_lens.of p)) p

  inodes-final : final.logical.inodes ≡ inode_set f (next_inode inode longer (blocks + length m.numbers) verifier) p.logical.inodes
  inodes-final = extended-is p.logical.inodes f end (length m.numbers) inode size blocks verifier there is_file

  inodes-3 : inode_set f (next_inode inode longer (blocks + length m.numbers) verifier) p.logical.inodes ≡ p_3.logical.inodes
  inodes-3 =
      (let count : blocks + length m.numbers ≡ blocks + 0 + length m.numbers = omega arith in
      ap (λ (k : ℕ). inode_set f (next_inode inode longer k verifier) p.logical.inodes) count)
      ∙ sym (inode-set-twice p.logical.inodes f inode_1 inode_2)

  is-final : p_3 ≡ final
  is-final = λ j. record p {
    logical = record p.logical { inodes = sym (inodes-final ∙ inodes-3) j };
    stripes = spans_written f m.offset m.written m.moment (sym (filled-grown f end found m.numbers p.stripes (some-stripes p well)) j);
  }

  pub sound-extended : IsSound final hands (made + 2)
  sound-extended = subst (λ (q : VolumeContents). IsSound q hands (made + 2)) is-final over.sound

  -- ---- counts

  pub used-extended : final.logical.inodes.used ≡ p.logical.inodes.used + length m.numbers
  used-extended =
      let set = used-set p.logical.inodes f inode (next_inode inode longer (blocks + length m.numbers) verifier) well.logical.inodes there in
      let is : final.logical.inodes.used ≡ (inode_set f (next_inode inode longer (blocks + length m.numbers) verifier) p.logical.inodes).used =
      ap (λ (v : InodesValue). v.used) inodes-final in
      let file = ap filled_blocks is_file in
      omega (arith, set, is, file)

  pub next-extended : final.logical.inodes.next ≡ p.logical.inodes.next
  next-extended =
      ap (λ (v : InodesValue). v.next) inodes-final
      ∙ next-set p.logical.inodes f (next_inode inode longer (blocks + length m.numbers) verifier)

  -- ---- the file

  byte-3 : (k : ℕ) → file_byte stripes_3 f k ≡ byte_written m.offset m.written k (file_byte p.stripes f k)
  byte-3 k = over.bytes k ∙ ap (byte_written m.offset m.written k) (up.bytes k ∙ byte-grown p f end inode size blocks verifier there is_file well k)

  abbrev file : FileNode
  file = file_before p f inode size verifier

  bytes-3 : file_bytes stripes_3 f longer ≡ written_bytes file.bytes m.offset m.written
  bytes-3 =
      bytes-written (file_byte p.stripes f) (file_byte stripes_3 f) m.offset longer m.written (omega arith) byte-3
      ∙ written-longer (file_byte p.stripes f) m.offset m.written size
      (λ k past. byte-past p f end inode size blocks verifier there is_file well k (some-stripes p well) past)

  abbrev all : sets.FinSet nat_cmp
  all = from_list (range_with_len 0 most_file_blocks)

  filled-3 : file_filled stripes_3 f ≡ with_blocks file.filled (blocks_met m.offset n)
  filled-3 = over.filled ∙ sets.same_set nat_cmp_total nat_cmp-IsAntisymmetric _ _ (λ q.
      seen-filled-at p_2.stripes f q ∙ ap (λ t. contains all q && t) (filled-2 q)
      ∙ spread (contains all q) (is_listed q (blocks_met m.offset n)) (is_filled (home_stripe p.stripes f q) f q)
      (λ e. contains-from_list_nat (range_with_len 0 most_file_blocks) q
      ∙ any-below q 0 most_file_blocks (omega arith) (let less = met-below q m.offset n (omega (arith, small)) e in omega (arith, less)))
      ∙ ap (λ t. is_listed q (blocks_met m.offset n) || t) (sym (seen-filled-at p.stripes f q))
      ∙ sym (contains-blocks file.filled (blocks_met m.offset n) q))
    where
      spread : (a l t : Bool) → (l ≡ true → a ≡ true) → (a && (l || t)) ≡ (l || (a && t))
      spread true l t h = refl
      spread false true t h = h refl
      spread false false t h = refl

  touch-3 : file_touch stripes_3 f ≡ Some (touched file.touch m.moment)
  touch-3 = over.touch
      ∙ ap (λ o. Some (touched o m.moment))
      (up.touch ∙ touch-grown p f end inode size blocks verifier there is_file well)

  abbrev node : Node
  node = File (written_file file m.offset m.written m.moment)

  node-3 : get (volume_of p_3).nodes f ≡ Some node
  node-3 =
      node-at p_3 f ∙ ap (option_map (node_of stripes_3 p.logical.directories p.logical.texts f)) there-2
      ∙ (λ j. Some (File (record {
        attributes = inode.attributes;
        bytes = bytes-3 j;
        filled = filled-3 j;
        touch = touch-3 j;
        verifier = verifier;
        links = inode.names;
      })))

  -- the volume after it
  pub volume-extended : volume_of final ≡ with_node (volume_of p) f node
  volume-extended =
      ap volume_of (sym is-final) ∙ put-same (volume_of p_3) f node node-3 ∙ over.seen node ∙ up.seen node ∙ seen-1 node
