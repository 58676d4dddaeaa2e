-- Codes of the records, which the value of a Model needs.
use Rattle.std.specs.Prelude.{◌≡◌, refl, ℕ, zero, suc, List, Option, Some, None, ◌⊎◌}
use Rattle.std.proofs.Common.{inl, inr}
use Rattle.std.specs.Coded.{Coded, code_by, coded×, coded⊎, coded_ℕ, coded_bool, coded_list, coded_option}
use Rattle.std.specs.FinMap as maps
use Rattle.std.specs.FinMap.{FinMap}
use Rattle.std.specs.FinSet as sets
use Rattle.std.specs.FinSet.{FinSet}
use Rattle.std.specs.Ordering.{nat_cmp}
use Rattle.std.specs.Prelude.{Bool, true, false}
use Rattle.nfs_model.specs.Types as types
use Rattle.nfs_model.specs.Types.{Moment, Ownership, Listed, Caller, SetTime, Keep, ServerTime, ClientTime, SetAttributes, CreateMode, Unchecked, Guarded}
use Rattle.nfs_model.specs.Types.{Exclusive, Device, SpecialType, SymbolicLink, Fifo, Socket, BlockDevice, CharacterDevice}
use Rattle.nfs_model.specs.Types.{Kind, Regular, SpecialKind, Shown, Wcc}
use Rattle.nfs_model.specs.Memo.{Change, Sets, Creates, MakesDirectory, MakesSymbolicLink, MakesNode, Removes, RemovesDirectory, Renames, Links}
use Rattle.nfs_model.specs.Memo.{Told, ToldSet, ToldMade, ToldGone, ToldRenamed, ToldLinked, Memo}
use Rattle.nfs_model.specs.Server.{Attributes}
use Rattle.nfs_model.specs.volume.Directories.{DirectoryValue}
use Rattle.nfs_model.specs.volume.Inodes.{InodeKind, RegularFile, DirectoryKind, SpecialFile, Inode, InodesValue}
use Rattle.nfs_model.specs.volume.Stripes.{Card, OfFile, OfDirectory, Block, file_block_cmp, StripeValue}
use Rattle.nfs_model.specs.volume.Ranges.{RangeValue, DeadValue}
use Rattle.nfs_model.specs.volume.Logical.{LogicalValue}

abbrev pub coded_moment : Coded Moment
coded_moment = code_by (ℕ × ℕ) (coded× coded_ℕ coded_ℕ) (λ m. (m.seconds, m.nanoseconds)) (λ p. record { seconds = p.0; nanoseconds = p.1 }) (λ _. refl)

-- ---- directories

abbrev pub coded_listed : Coded Listed
coded_listed =
    code_by (ℕ × (List ℕ × ℕ)) (coded× coded_ℕ (coded× (coded_list coded_ℕ) coded_ℕ)) (λ e. (e.cookie, (e.name, e.fileid)))
    (λ p. record { cookie = p.0; name = p.1.0; fileid = p.1.1 }) (λ _. refl)

abbrev pub coded_directory : Coded DirectoryValue
coded_directory = code_by (ℕ × List Listed) (coded× coded_ℕ (coded_list coded_listed)) (λ d. (d.next, d.list))
    (λ p. record { next = p.0; list = p.1 }) (λ _. refl)

-- ---- kinds of objects

abbrev pub coded_device : Coded Device
coded_device = code_by (ℕ × ℕ) (coded× coded_ℕ coded_ℕ) (λ d. (d.major, d.minor)) (λ p. record { major = p.0; minor = p.1 }) (λ _. refl)

-- which of three has no device, or a device of one of two kinds
abbrev pub Specials : Type 0
Specials = ℕ ⊎ (Device ⊎ Device)

abbrev pub special_out : SpecialType → Specials
special_out SymbolicLink = inl 0
special_out Fifo = inl 1
special_out Socket = inl 2
special_out (BlockDevice device) = inr (inl device)
special_out (CharacterDevice device) = inr (inr device)

abbrev pub special_back : Specials → SpecialType
special_back (inl zero) = SymbolicLink
special_back (inl (suc zero)) = Fifo
special_back (inl (suc (suc n))) = Socket
special_back (inr (inl device)) = BlockDevice device
special_back (inr (inr device)) = CharacterDevice device

pub special_again : (s : SpecialType) → special_back (special_out s) ≡ s
special_again SymbolicLink = refl
special_again Fifo = refl
special_again Socket = refl
special_again (BlockDevice device) = refl
special_again (CharacterDevice device) = refl

abbrev pub coded_special : Coded SpecialType
coded_special = code_by Specials (coded⊎ coded_ℕ (coded⊎ coded_device coded_device)) special_out special_back special_again

-- ---- inodes

abbrev pub coded_attributes : Coded Attributes
coded_attributes =
    code_by ((ℕ × (ℕ × ℕ)) × (Moment × (Moment × Moment))) (coded× (coded× coded_ℕ (coded× coded_ℕ coded_ℕ)) (coded× coded_moment
    (coded× coded_moment coded_moment)))
    (λ a. ((a.mode, (a.uid, a.gid)), (a.atime, (a.mtime, a.ctime))))
    (λ p. record { mode = p.0.0; uid = p.0.1.0; gid = p.0.1.1; atime = p.1.0; mtime = p.1.1.0; ctime = p.1.1.1 }) (λ _. refl)

abbrev pub InodeKinds : Type 0
InodeKinds = (ℕ × (ℕ × Option (List ℕ))) ⊎ ((ℕ × ℕ) ⊎ (SpecialType × ℕ))

abbrev pub kind_out : InodeKind → InodeKinds
kind_out (RegularFile size filled verifier) = inl (size, (filled, verifier))
kind_out (DirectoryKind parent subdirectories) = inr (inl (parent, subdirectories))
kind_out (SpecialFile special size) = inr (inr (special, size))

abbrev pub kind_back : InodeKinds → InodeKind
kind_back (inl p) = RegularFile p.0 p.1.0 p.1.1
kind_back (inr (inl p)) = DirectoryKind p.0 p.1
kind_back (inr (inr p)) = SpecialFile p.0 p.1

pub kind_again : (k : InodeKind) → kind_back (kind_out k) ≡ k
kind_again (RegularFile size filled verifier) = refl
kind_again (DirectoryKind parent subdirectories) = refl
kind_again (SpecialFile special size) = refl

abbrev pub coded_kind : Coded InodeKind
coded_kind = code_by InodeKinds (coded⊎ (coded× coded_ℕ (coded× coded_ℕ (coded_option (coded_list coded_ℕ))))
    (coded⊎ (coded× coded_ℕ coded_ℕ) (coded× coded_special coded_ℕ))) kind_out kind_back kind_again

abbrev pub coded_inode : Coded Inode
coded_inode =
    code_by (Attributes × (ℕ × InodeKind)) (coded× coded_attributes (coded× coded_ℕ coded_kind))
    (λ i. (i.attributes, (i.names, i.kind))) (λ p. record { attributes = p.0; names = p.1.0; kind = p.1.1 }) (λ _. refl)

abbrev pub coded_inodes : Coded InodesValue
coded_inodes =
    code_by (ℕ × (ℕ × FinMap nat_cmp Inode)) (coded× coded_ℕ (coded× coded_ℕ (maps.code coded_ℕ coded_inode)))
    (λ v. (v.next, (v.used, v.inodes))) (λ p. record { next = p.0; used = p.1.0; inodes = p.1.1 }) (λ _. refl)

-- ---- stripes

abbrev pub coded_ownership : Coded Ownership
coded_ownership =
    code_by (ℕ × (ℕ × ℕ)) (coded× coded_ℕ (coded× coded_ℕ coded_ℕ)) (λ o. (o.mode, (o.uid, o.gid)))
    (λ p. record { mode = p.0; uid = p.1.0; gid = p.1.1 }) (λ _. refl)

abbrev pub card_out : Card → Option (ℕ × (Option Moment × Ownership))
card_out (OfFile size touch owner) = Some (size, (touch, owner))
card_out OfDirectory = None

abbrev pub card_back : Option (ℕ × (Option Moment × Ownership)) → Card
card_back None = OfDirectory
card_back (Some p) = OfFile p.0 p.1.0 p.1.1

pub card_again : (c : Card) → card_back (card_out c) ≡ c
card_again (OfFile size touch owner) = refl
card_again OfDirectory = refl

abbrev pub coded_card : Coded Card
coded_card =
    code_by (Option (ℕ × (Option Moment × Ownership)))
    (coded_option (coded× coded_ℕ (coded× (coded_option coded_moment) coded_ownership))) card_out card_back card_again

abbrev pub coded_block : Coded Block
coded_block = code_by (ℕ × List ℕ) (coded× coded_ℕ (coded_list coded_ℕ)) (λ b. (b.number, b.bytes)) (λ p. record { number = p.0; bytes = p.1 }) (λ _. refl)

abbrev pub coded_stripe : Coded StripeValue
coded_stripe =
    code_by ((List ℕ × (ℕ × ℕ)) × (FinMap nat_cmp Card × FinMap file_block_cmp Block))
    (coded× (coded× (coded_list coded_ℕ) (coded× coded_ℕ coded_ℕ)) (coded× (maps.code coded_ℕ coded_card) (maps.code (coded× coded_ℕ coded_ℕ) coded_block)))
    (λ s. ((s.verifier, (s.stripes, s.largest)), (s.cards, s.blocks)))
    (λ p. record { verifier = p.0.0; stripes = p.0.1.0; largest = p.0.1.1; cards = p.1.0; blocks = p.1.1 }) (λ _. refl)

-- ---- ranges

abbrev pub coded_range : Coded RangeValue
coded_range =
    code_by ((ℕ × ℕ) × (Bool × FinSet nat_cmp)) (coded× (coded× coded_ℕ coded_ℕ) (coded× coded_bool (sets.code coded_ℕ)))
    (λ r. ((r.range_blocks, r.number), (r.is_used, r.free)))
    (λ p. record { range_blocks = p.0.0; number = p.0.1; is_used = p.1.0; free = p.1.1 }) (λ _. refl)

abbrev pub coded_dead : Coded DeadValue
coded_dead =
    code_by (ℕ × FinSet nat_cmp) (coded× coded_ℕ (sets.code coded_ℕ)) (λ d. (d.range_blocks, d.blocks))
    (λ p. record { range_blocks = p.0; blocks = p.1 }) (λ _. refl)

-- ---- what is remembered of calls

abbrev pub coded_caller : Coded Caller
coded_caller =
    code_by ((ℕ × (ℕ × List ℕ)) × ((ℕ × ℕ) × (Bool × Bool)))
    (coded× (coded× coded_ℕ (coded× coded_ℕ (coded_list coded_ℕ))) (coded× (coded× coded_ℕ coded_ℕ) (coded× coded_bool coded_bool)))
    (λ c. ((c.credential.uid, (c.credential.gid, c.credential.gids)), ((c.xid, c.peer), (c.checked, c.reads_only))))
    (λ p. record {
      credential = record { uid = p.0.0; gid = p.0.1.0; gids = p.0.1.1 };
      xid = p.1.0.0;
      peer = p.1.0.1;
      checked = p.1.1.0;
      reads_only = p.1.1.1;
    })
    (λ _. refl)

abbrev pub time_out : SetTime → Bool ⊎ Moment
time_out Keep = inl false
time_out ServerTime = inl true
time_out (ClientTime t) = inr t

abbrev pub time_back : Bool ⊎ Moment → SetTime
time_back (inl false) = Keep
time_back (inl true) = ServerTime
time_back (inr t) = ClientTime t

pub time_again : (t : SetTime) → time_back (time_out t) ≡ t
time_again Keep = refl
time_again ServerTime = refl
time_again (ClientTime t) = refl

abbrev pub coded_time : Coded SetTime
coded_time = code_by (Bool ⊎ Moment) (coded⊎ coded_bool coded_moment) time_out time_back time_again

abbrev pub coded_set : Coded SetAttributes
coded_set =
    code_by ((Option ℕ × Option ℕ) × ((Option ℕ × Option ℕ) × (SetTime × SetTime)))
    (coded× (coded× (coded_option coded_ℕ) (coded_option coded_ℕ))
    (coded× (coded× (coded_option coded_ℕ) (coded_option coded_ℕ)) (coded× coded_time coded_time)))
    (λ s. ((s.mode, s.uid), ((s.gid, s.size), (s.atime, s.mtime))))
    (λ p. record { mode = p.0.0; uid = p.0.1; gid = p.1.0.0; size = p.1.0.1; atime = p.1.1.0; mtime = p.1.1.1 }) (λ _. refl)

abbrev pub Made : Type 0
Made = SetAttributes ⊎ (SetAttributes ⊎ List ℕ)

abbrev pub made_out : CreateMode → Made
made_out (Unchecked set) = inl set
made_out (Guarded set) = inr (inl set)
made_out (Exclusive verifier) = inr (inr verifier)

abbrev pub made_back : Made → CreateMode
made_back (inl set) = Unchecked set
made_back (inr (inl set)) = Guarded set
made_back (inr (inr verifier)) = Exclusive verifier

pub made_again : (m : CreateMode) → made_back (made_out m) ≡ m
made_again (Unchecked set) = refl
made_again (Guarded set) = refl
made_again (Exclusive verifier) = refl

abbrev pub coded_mode : Coded CreateMode
coded_mode = code_by Made (coded⊎ coded_set (coded⊎ coded_set (coded_list coded_ℕ))) made_out made_back made_again

-- a handle and a name
abbrev pub Entry : Type 0
Entry = List ℕ × List ℕ

abbrev pub coded_entry : Coded Entry
coded_entry = coded× (coded_list coded_ℕ) (coded_list coded_ℕ)

abbrev pub Changed : Type 0
Changed =
    (((List ℕ × (SetAttributes × Option Moment)) ⊎ (Entry × CreateMode)) ⊎ (((Entry × SetAttributes) ⊎ Entry) ⊎ (Entry ⊎ (Entry × Entry))))
    ⊎ ((Entry × (SetAttributes × List ℕ)) ⊎ ((Entry × (Kind × SetAttributes)) ⊎ (List ℕ × Entry)))

abbrev pub change_out : Change → Changed
change_out (Sets handle set guard) = inl (inl (inl (handle, (set, guard))))
change_out (Creates directory name mode) = inl (inl (inr ((directory, name), mode)))
change_out (MakesDirectory directory name set) = inl (inr (inl (inl ((directory, name), set))))
change_out (Removes directory name) = inl (inr (inl (inr (directory, name))))
change_out (RemovesDirectory directory name) = inl (inr (inr (inl (directory, name))))
change_out (Renames from from_name to to_name) = inl (inr (inr (inr ((from, from_name), (to, to_name)))))
change_out (MakesSymbolicLink directory name set text) = inr (inl ((directory, name), (set, text)))
change_out (MakesNode directory name kind set) = inr (inr (inl ((directory, name), (kind, set))))
change_out (Links handle directory name) = inr (inr (inr (handle, (directory, name))))

abbrev pub change_back : Changed → Change
change_back (inl (inl (inl p))) = Sets p.0 p.1.0 p.1.1
change_back (inl (inl (inr p))) = Creates p.0.0 p.0.1 p.1
change_back (inl (inr (inl (inl p)))) = MakesDirectory p.0.0 p.0.1 p.1
change_back (inl (inr (inl (inr p)))) = Removes p.0 p.1
change_back (inl (inr (inr (inl p)))) = RemovesDirectory p.0 p.1
change_back (inl (inr (inr (inr p)))) = Renames p.0.0 p.0.1 p.1.0 p.1.1
change_back (inr (inl p)) = MakesSymbolicLink p.0.0 p.0.1 p.1.0 p.1.1
change_back (inr (inr (inl p))) = MakesNode p.0.0 p.0.1 p.1.0 p.1.1
change_back (inr (inr (inr p))) = Links p.0 p.1.0 p.1.1

pub change_again : (c : Change) → change_back (change_out c) ≡ c
change_again (Sets handle set guard) = refl
change_again (Creates directory name mode) = refl
change_again (MakesDirectory directory name set) = refl
change_again (Removes directory name) = refl
change_again (RemovesDirectory directory name) = refl
change_again (Renames from from_name to to_name) = refl
change_again (MakesSymbolicLink directory name set text) = refl
change_again (MakesNode directory name kind set) = refl
change_again (Links handle directory name) = refl

abbrev pub kind_shown : Kind → Bool ⊎ SpecialType
kind_shown Regular = inl false
kind_shown types.DirectoryKind = inl true
kind_shown (SpecialKind special) = inr special

abbrev pub shown_kind : Bool ⊎ SpecialType → Kind
shown_kind (inl false) = Regular
shown_kind (inl true) = types.DirectoryKind
shown_kind (inr special) = SpecialKind special

pub kind_shown_again : (k : Kind) → shown_kind (kind_shown k) ≡ k
kind_shown_again Regular = refl
kind_shown_again types.DirectoryKind = refl
kind_shown_again (SpecialKind special) = refl

abbrev pub coded_kind_shown : Coded Kind
coded_kind_shown = code_by (Bool ⊎ SpecialType) (coded⊎ coded_bool coded_special) kind_shown shown_kind kind_shown_again

abbrev pub coded_change : Coded Change
coded_change =
    code_by Changed
    (coded⊎ (coded⊎ (coded⊎ (coded× (coded_list coded_ℕ) (coded× coded_set (coded_option coded_moment))) (coded× coded_entry coded_mode))
    (coded⊎ (coded⊎ (coded× coded_entry coded_set) coded_entry) (coded⊎ coded_entry (coded× coded_entry coded_entry))))
    (coded⊎ (coded× coded_entry (coded× coded_set (coded_list coded_ℕ)))
    (coded⊎ (coded× coded_entry (coded× coded_kind_shown coded_set)) (coded× (coded_list coded_ℕ) coded_entry))))
    change_out change_back change_again

abbrev pub coded_shown : Coded Shown
coded_shown =
    code_by ((Kind × ((ℕ × ℕ) × (ℕ × ℕ))) × (((ℕ × ℕ) × (ℕ × ℕ)) × (Moment × (Moment × Moment))))
    (coded× (coded× coded_kind_shown (coded× (coded× coded_ℕ coded_ℕ) (coded× coded_ℕ coded_ℕ)))
    (coded× (coded× (coded× coded_ℕ coded_ℕ) (coded× coded_ℕ coded_ℕ)) (coded× coded_moment (coded× coded_moment coded_moment))))
    (λ s. ((s.kind, ((s.mode, s.links), (s.uid, s.gid))), (((s.size, s.used), (s.fsid, s.fileid)), (s.atime, (s.mtime, s.ctime)))))
    (λ p. record {
      kind = p.0.0;
      mode = p.0.1.0.0;
      links = p.0.1.0.1;
      uid = p.0.1.1.0;
      gid = p.0.1.1.1;
      size = p.1.0.0.0;
      used = p.1.0.0.1;
      fsid = p.1.0.1.0;
      fileid = p.1.0.1.1;
      atime = p.1.1.0;
      mtime = p.1.1.1.0;
      ctime = p.1.1.1.1;
    }) (λ _. refl)

abbrev pub coded_wcc : Coded Wcc
coded_wcc = code_by ((ℕ × (Moment × Moment)) × Shown) (coded× (coded× coded_ℕ (coded× coded_moment coded_moment)) coded_shown)
    (λ w. ((w.before.size, (w.before.mtime, w.before.ctime)), w.after))
    (λ p. record { before = record { size = p.0.0; mtime = p.0.1.0; ctime = p.0.1.1 }; after = p.1 }) (λ _. refl)

abbrev pub Results : Type 0
Results = (Wcc ⊎ (Shown × Wcc)) ⊎ (Wcc ⊎ ((Wcc × Wcc) ⊎ (Shown × Wcc)))

abbrev pub told_out : Told → Results
told_out (ToldSet change) = inl (inl change)
told_out (ToldMade object directory) = inl (inr (object, directory))
told_out (ToldGone directory) = inr (inl directory)
told_out (ToldRenamed from to) = inr (inr (inl (from, to)))
told_out (ToldLinked object directory) = inr (inr (inr (object, directory)))

abbrev pub told_back : Results → Told
told_back (inl (inl change)) = ToldSet change
told_back (inl (inr p)) = ToldMade p.0 p.1
told_back (inr (inl directory)) = ToldGone directory
told_back (inr (inr (inl p))) = ToldRenamed p.0 p.1
told_back (inr (inr (inr p))) = ToldLinked p.0 p.1

pub told_again : (t : Told) → told_back (told_out t) ≡ t
told_again (ToldSet change) = refl
told_again (ToldMade object directory) = refl
told_again (ToldGone directory) = refl
told_again (ToldRenamed from to) = refl
told_again (ToldLinked object directory) = refl

abbrev pub coded_told : Coded Told
coded_told =
    code_by Results
    (coded⊎ (coded⊎ coded_wcc (coded× coded_shown coded_wcc))
    (coded⊎ coded_wcc (coded⊎ (coded× coded_wcc coded_wcc) (coded× coded_shown coded_wcc))))
    told_out told_back told_again

abbrev pub coded_memo : Coded Memo
coded_memo = code_by ((Caller × Change) × (Moment × Told)) (coded× (coded× coded_caller coded_change) (coded× coded_moment coded_told))
    (λ m. ((m.caller, m.change), (m.moment, m.told))) (λ p. record { caller = p.0.0; change = p.0.1; moment = p.1.0; told = p.1.1 }) (λ _. refl)

-- ---- what Volume Logical has

abbrev pub coded_logical : Coded LogicalValue
coded_logical =
    code_by (((List ℕ × ℕ) × (ℕ × (ℕ × ℕ)))
    × (InodesValue × ((FinMap nat_cmp DirectoryValue × FinMap nat_cmp (List ℕ)) × (FinSet nat_cmp × (DeadValue × List (Option Memo))))))
    (coded× (coded× (coded× (coded_list coded_ℕ) coded_ℕ) (coded× coded_ℕ (coded× coded_ℕ coded_ℕ)))
    (coded× coded_inodes (coded× (coded× (maps.code coded_ℕ coded_directory) (maps.code coded_ℕ (coded_list coded_ℕ)))
    (coded× (sets.code coded_ℕ) (coded× coded_dead (coded_list (coded_option coded_memo)))))))
    (λ l. (
      ((l.verifier, l.stripes), (l.largest, (l.most_inodes, l.most_steps))),
      (l.inodes, ((l.directories, l.texts), (l.stock, (l.dead, l.memos)))),
    ))
    (λ p. record {
      verifier = p.0.0.0;
      stripes = p.0.0.1;
      largest = p.0.1.0;
      most_inodes = p.0.1.1.0;
      most_steps = p.0.1.1.1;
      inodes = p.1.0;
      directories = p.1.1.0.0;
      texts = p.1.1.0.1;
      stock = p.1.1.1.0;
      dead = p.1.1.1.1.0;
      memos = p.1.1.1.1.1;
    }) (λ _. refl)
