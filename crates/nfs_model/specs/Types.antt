-- What calls ask and what replies tell, as plain data (RFC 1813 sections 2.5 and 2.6, RFC 5531
-- section 9). Bytes stand as lists of numbers.
use Rattle.std.specs.Prelude.{ℕ, Bool, List, Option}

-- nfstime3 (RFC 1813 section 2.6)
pub record Moment : Type 0 where
  pub seconds : ℕ
  pub nanoseconds : ℕ

-- the nanoseconds of a second: those of a moment are fewer (RFC 1813 section 2.6)
abbrev pub nanoseconds_of_a_second : ℕ
nanoseconds_of_a_second = 1000000000

-- whom a call acts for (RFC 5531 appendix A); without one, 65534 for both and no further group (our
-- profile)
pub record Credential : Type 0 where
  pub uid : ℕ
  pub gid : ℕ
  pub gids : List ℕ  -- further groups, at most 16

-- Who makes a call: whom it acts for, and what tells one call of a client from its others (RFC 5531
-- section 9, RFC 1813 section 4.5).
pub record Caller : Type 0 where
  pub credential : Credential
  pub xid : ℕ
  pub peer : ℕ  -- the address and port that it comes from, as one number; 0 where there is none
  pub checked : Bool  -- whether the owner, the groups and the mode of objects are asked (our profile)
  pub reads_only : Bool  -- whether it may change nothing (our profile)

-- ---- what is owned

-- of an object: its mode, its owner and its group (fattr3, RFC 1813 section 2.6)
pub record Ownership : Type 0 where
  pub mode : ℕ
  pub uid : ℕ
  pub gid : ℕ

-- ---- kinds of objects

-- specdata3: the major and minor numbers of a device (RFC 1813 section 2.6)
pub record Device : Type 0 where
  pub major : ℕ
  pub minor : ℕ

-- what is neither a regular file nor a directory, by ftype3: NF3LNK, NF3FIFO, NF3SOCK, and NF3BLK and NF3CHR with their
-- rdev, which is zero of all else (RFC 1813 section 2.6)
pub data SpecialType : Type 0 where
  SymbolicLink : SpecialType
  Fifo : SpecialType
  Socket : SpecialType
  BlockDevice : (device : Device) → SpecialType
  CharacterDevice : (device : Device) → SpecialType

-- ftype3: NF3REG, NF3DIR and the others (RFC 1813 section 2.6)
pub data Kind : Type 0 where
  Regular : Kind
  DirectoryKind : Kind
  SpecialKind : (special : SpecialType) → Kind

-- ---- what is asked

-- time_how, with set_atime or set_mtime (RFC 1813 section 2.6)
pub data SetTime : Type 0 where
  Keep : SetTime
  ServerTime : SetTime
  ClientTime : (moment : Moment) → SetTime

-- sattr3 (RFC 1813 section 2.6)
pub record SetAttributes : Type 0 where
  pub mode : Option ℕ
  pub uid : Option ℕ
  pub gid : Option ℕ
  pub size : Option ℕ
  pub atime : SetTime
  pub mtime : SetTime

-- createhow3 (RFC 1813 section 3.3.8)
pub data CreateMode : Type 0 where
  Unchecked : (set : SetAttributes) → CreateMode
  Guarded : (set : SetAttributes) → CreateMode
  Exclusive : (verifier : List ℕ) → CreateMode

-- What the procedures of MOUNT ask that tell or find something (RFC 1813 appendix I, section 5.2). A
-- path is the bytes that came.
pub data MountCall : Type 0 where
  Mnt : (path : List ℕ) → MountCall
  Dump : MountCall
  Exports : MountCall
  -- UMNT, whose path isn't kept, and UMNTALL: mounts aren't kept, so there is nothing to undo
  Unmount : MountCall

-- One constructor for each procedure, with its arguments (RFC 1813 section 3.3). A handle is the bytes
-- that came, good or bad; so is a name, and the text of a symbolic link. MKNOD has no attributes where it asks
-- for a kind that it doesn't make. How stable a WRITE is to be isn't kept, since every one is stable. CENSUS, GROW and STOP are of the
-- admin program (our profile), and MOUNT is a program of its own. A MNT of a path that leads below the
-- root of a volume has that root's handle beside the path (Serial.Mount).
pub data Call : Type 0 where
  Null : Call
  Getattr : (handle : List ℕ) → Call
  Setattr : (handle : List ℕ) (set : SetAttributes) (guard : Option Moment) → Call
  Lookup : (directory name : List ℕ) → Call
  CheckAccess : (handle : List ℕ) (asked : ℕ) → Call
  Readlink : (handle : List ℕ) → Call
  Read : (handle : List ℕ) (offset count : ℕ) → Call
  Write : (handle : List ℕ) (offset count : ℕ) (written : List ℕ) → Call
  Create : (directory name : List ℕ) (mode : CreateMode) → Call
  Mkdir : (directory name : List ℕ) (set : SetAttributes) → Call
  Symlink : (directory name : List ℕ) (set : SetAttributes) (text : List ℕ) → Call
  Mknod : (directory name : List ℕ) (kind : Kind) (set : SetAttributes) → Call
  Remove : (directory name : List ℕ) → Call
  Rmdir : (directory name : List ℕ) → Call
  Rename : (from from_name to to_name : List ℕ) → Call
  Link : (handle directory name : List ℕ) → Call
  Readdir : (directory : List ℕ) (cookie : ℕ) (verifier : List ℕ) (count : ℕ) → Call
  Readdirplus : (directory : List ℕ) (cookie : ℕ) (verifier : List ℕ) (names_count count : ℕ) → Call
  Fsstat : (handle : List ℕ) → Call
  Fsinfo : (handle : List ℕ) → Call
  Pathconf : (handle : List ℕ) → Call
  Commit : (handle : List ℕ) → Call
  Census : Call
  Grow : (volume ranges : ℕ) → Call
  Stop : Call
  Mount : (call : MountCall) → Call
  MountBelow : (root path : List ℕ) → Call

-- ---- what is answered

-- nfsstat3, but for OK (RFC 1813 section 2.5)
pub data Status : Type 0 where
  NotPermitted : Status
  NoEntry : Status
  Access : Status
  Exists : Status
  CrossVolume : Status
  NotDirectory : Status
  IsDirectory : Status
  Invalid : Status
  TooBig : Status
  NoSpace : Status
  ReadOnly : Status
  TooManyLinks : Status
  NameTooLong : Status
  NotEmpty : Status
  Stale : Status
  BadHandle : Status
  NotSynchronous : Status
  BadCookie : Status
  TooSmall : Status
  BadType : Status

-- its number (RFC 1813 section 2.5)
abbrev pub status_word : Status → ℕ
status_word NotPermitted = 1
status_word NoEntry = 2
status_word Access = 13
status_word Exists = 17
status_word CrossVolume = 18
status_word NotDirectory = 20
status_word IsDirectory = 21
status_word Invalid = 22
status_word TooBig = 27
status_word NoSpace = 28
status_word ReadOnly = 30
status_word TooManyLinks = 31
status_word NameTooLong = 63
status_word NotEmpty = 66
status_word Stale = 70
status_word BadHandle = 10001
status_word NotSynchronous = 10002
status_word BadCookie = 10003
status_word TooSmall = 10005
status_word BadType = 10007

-- fattr3, the attributes that a reply shows (RFC 1813 section 2.6); rdev stands with the kind
pub record Shown : Type 0 where
  pub kind : Kind
  pub mode : ℕ
  pub links : ℕ
  pub uid : ℕ
  pub gid : ℕ
  pub size : ℕ
  pub used : ℕ
  pub fsid : ℕ
  pub fileid : ℕ
  pub atime : Moment
  pub mtime : Moment
  pub ctime : Moment

-- wcc_attr (RFC 1813 section 2.6)
pub record Before : Type 0 where
  pub size : ℕ
  pub mtime : Moment
  pub ctime : Moment

-- wcc_data with both parts, the attributes before and after a call (RFC 1813 section 2.6)
pub record Wcc : Type 0 where
  pub before : Before
  pub after : Shown

-- entry3 (RFC 1813 section 3.3.16)
pub record Listed : Type 0 where
  pub cookie : ℕ
  pub name : List ℕ
  pub fileid : ℕ

-- entryplus3 (RFC 1813 section 3.3.17)
pub record ListedPlus : Type 0 where
  pub entry : Listed
  pub attributes : Option Shown
  pub handle : Option (List ℕ)

-- the numbers of FSSTAT (RFC 1813 section 3.3.18), of which the free and the available are the same
pub record Space : Type 0 where
  pub total_bytes : ℕ
  pub free_bytes : ℕ
  pub inodes : ℕ
  pub free_inodes : ℕ

-- what CENSUS tells of a volume, in blocks (our profile)
pub record VolumeCount : Type 0 where
  pub volume : ℕ
  pub total : ℕ
  pub used : ℕ

-- The results of a call that was decoded (RFC 1813 section 3.3). In an OK arm every optional part
-- is there, but READ and WRITE give no attributes; a failure has a status and some optional parts,
-- all absent: this many zero words (our profile).
pub data Answer : Type 0 where
  NullDone : Answer
  GetattrDone : (attributes : Shown) → Answer
  SetattrDone : (change : Wcc) → Answer
  LookupDone : (handle : List ℕ) (object directory : Shown) → Answer
  AccessDone : (object : Shown) (given : ℕ) → Answer
  ReadlinkDone : (object : Shown) (text : List ℕ) → Answer
  ReadDone : (count : ℕ) (eof : Bool) (bytes : List ℕ) → Answer
  WriteDone : (count : ℕ) (verifier : List ℕ) → Answer
  MadeDone : (handle : List ℕ) (object : Shown) (directory : Wcc) → Answer
  GoneDone : (directory : Wcc) → Answer
  RenameDone : (from to : Wcc) → Answer
  LinkDone : (object : Shown) (directory : Wcc) → Answer
  ReaddirDone : (directory : Shown) (page : List Listed) (eof : Bool) → Answer
  ReaddirplusDone : (directory : Shown) (page : List ListedPlus) (eof : Bool) → Answer
  FsstatDone : (object : Shown) (space : Space) → Answer
  FsinfoDone : (object : Shown) (largest : ℕ) → Answer
  PathconfDone : (object : Shown) (chown_restricted : Bool) → Answer
  CommitDone : (file : Wcc) (verifier : List ℕ) → Answer
  CensusDone : (volumes : List VolumeCount) → Answer
  GrowDone : (total : ℕ) → Answer
  StopDone : Answer
  MountDone : (handle : List ℕ) → Answer
  DumpDone : Answer
  ExportsDone : (paths : List (List ℕ)) → Answer
  Failed : (status : Status) (absent : ℕ) → Answer

-- the reply of RPC (RFC 5531 section 9)
pub data Reply : Type 0 where
  Success : (answer : Answer) → Reply
  ProgramUnavailable : Reply
  ProgramMismatch : (low high : ℕ) → Reply
  ProcedureUnavailable : Reply
  GarbageArguments : Reply
  SystemError : Reply
  RpcMismatch : (low high : ℕ) → Reply
  AuthError : (number : ℕ) → Reply

-- What a record asks: a call, or one that RPC refuses with this reply. One whose decoding found no
-- memory shows no call (our profile).
pub data Asked : Type 0 where
  Ask : (call : Call) (caller : Caller) → Asked
  Refused : (reply : Reply) → Asked
  Undecoded : Asked
