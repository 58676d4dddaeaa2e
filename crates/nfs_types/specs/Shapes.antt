-- The types of NFS version 3 (RFC 1813) as shapes of XDR, and what the model's data is in them.
use Rattle.std.specs.Prelude.{◌-◌, ◌^◌, [], ◌∷◌, Some}
use Rattle.std.proofs.Common.{inl, inr}
use Rattle.xdr.specs.Shape.{Shape, Void, Word, Hyper, Choice, Fixed, Opaque, Pair, Optional, Case, NoCase, Value}
use Rattle.nfs_model.specs.Types as model
use Rattle.nfs_model.specs.Serial.Create.{no_attributes}
use Rattle.nfs_values.specs.Attributes.{kind_word, kind_device}

-- a member of a structure, before the others
infixr 5 ◌&◌
abbrev pub ◌&◌ : Shape → Shape → Shape
first & second = Pair first second

-- nfs_fh3 (section 2.6)
abbrev pub handle_shape : Shape
handle_shape = Opaque 64

-- filename3 and data of any length (sections 2.5 and 3.3.7)
abbrev pub any_bytes : Shape
any_bytes = Opaque (2 ^ 32 - 1)

-- cookieverf3, createverf3 and writeverf3 (section 2.5)
abbrev pub verifier_shape : Shape
verifier_shape = Fixed 8

-- nfstime3 (section 2.6)
abbrev pub moment_shape : Shape
moment_shape = Word & Word

abbrev pub moment_value : model.Moment → Value moment_shape
moment_value m = (m.seconds, m.nanoseconds)

abbrev pub moment_from : Value moment_shape → model.Moment
moment_from v = record { seconds = v.0; nanoseconds = v.1 }

-- ftype3 (section 2.6)
abbrev pub kind_shape : Shape
kind_shape = Choice (1 ∷ 2 ∷ 3 ∷ 4 ∷ 5 ∷ 6 ∷ 7 ∷ [])

-- specdata3 (section 2.6), two words
abbrev pub device_shape : Shape
device_shape = Word & Word

abbrev pub device_value : model.Device → Value device_shape
device_value d = (d.major, d.minor)

abbrev pub device_from : Value device_shape → model.Device
device_from v = record { major = v.0; minor = v.1 }

-- fattr3 (section 2.6)
abbrev pub attributes_shape : Shape
attributes_shape =
    kind_shape & Word & Word & Word & Word & Hyper & Hyper & device_shape & Hyper & Hyper & moment_shape & moment_shape & moment_shape

abbrev pub attributes_value : model.Shown → Value attributes_shape
attributes_value a = (
  kind_word a.kind,
  (
    a.mode,
    (
      a.links,
      (
        a.uid,
        (
          a.gid,
          (
            a.size,
            (
              a.used,
              (
                device_value (kind_device a.kind),
                (
                  a.fsid,
                  (
                    a.fileid,
                    (
                      moment_value a.atime,
                      (moment_value a.mtime, moment_value a.ctime),
                    ),
                  ),
                ),
              ),
            ),
          ),
        ),
      ),
    ),
  ),
)

-- post_op_attr (section 2.6)
abbrev pub after_shape : Shape
after_shape = Optional attributes_shape

-- wcc_attr (section 2.6)
abbrev pub prior_shape : Shape
prior_shape = Hyper & moment_shape & moment_shape

abbrev pub prior_value : model.Before → Value prior_shape
prior_value b = (b.size, (moment_value b.mtime, moment_value b.ctime))

-- pre_op_attr (section 2.6)
abbrev pub before_shape : Shape
before_shape = Optional prior_shape

-- wcc_data (section 2.6)
abbrev pub change_shape : Shape
change_shape = before_shape & after_shape

abbrev pub change_value : model.Wcc → Value change_shape
change_value w = (Some (prior_value w.before), Some (attributes_value w.after))

-- set_atime and set_mtime (section 2.6): DONT_CHANGE, SET_TO_SERVER_TIME and SET_TO_CLIENT_TIME with a time
abbrev pub time_shape : Shape
time_shape = Case 0 Void (Case 1 Void (Case 2 moment_shape NoCase))

abbrev pub time_value : model.SetTime → Value time_shape
time_value model.Keep = inl tt
time_value model.ServerTime = inr (inl tt)
time_value (model.ClientTime moment) = inr (inr (inl (moment_value moment)))

abbrev pub time_from : Value time_shape → model.SetTime
time_from (inl v) = model.Keep
time_from (inr (inl v)) = model.ServerTime
time_from (inr (inr (inl v))) = model.ClientTime (moment_from v)
time_from (inr (inr (inr v))) = absurd v

-- sattr3 (section 2.6): mode, uid, gid and size, each if it is to be set, and the two times
abbrev pub set_shape : Shape
set_shape = Optional Word & Optional Word & Optional Word & Optional Hyper & time_shape & time_shape

abbrev pub set_value : model.SetAttributes → Value set_shape
set_value s = (s.mode, (s.uid, (s.gid, (s.size, (time_value s.atime, time_value s.mtime)))))

abbrev pub set_from : Value set_shape → model.SetAttributes
set_from v = record {
  mode = v.0;
  uid = v.1.0;
  gid = v.1.1.0;
  size = v.1.1.1.0;
  atime = time_from v.1.1.1.1.0;
  mtime = time_from v.1.1.1.1.1;
}

-- sattrguard3 (section 3.3.2)
abbrev pub guard_shape : Shape
guard_shape = Optional moment_shape

-- diropargs3 (section 2.6)
abbrev pub target_shape : Shape
target_shape = handle_shape & any_bytes

-- createhow3 (section 3.3.8): UNCHECKED, GUARDED and EXCLUSIVE
abbrev pub create_shape : Shape
create_shape = Case 0 set_shape (Case 1 set_shape (Case 2 verifier_shape NoCase))

abbrev pub create_value : model.CreateMode → Value create_shape
create_value (model.Unchecked set) = inl (set_value set)
create_value (model.Guarded set) = inr (inl (set_value set))
create_value (model.Exclusive verifier) = inr (inr (inl verifier))

abbrev pub create_from : Value create_shape → model.CreateMode
create_from (inl v) = model.Unchecked (set_from v)
create_from (inr (inl v)) = model.Guarded (set_from v)
create_from (inr (inr (inl v))) = model.Exclusive v
create_from (inr (inr (inr v))) = absurd v

-- symlinkdata3 (section 3.3.10): symlink_attributes and symlink_data, a nfspath3
abbrev pub symlink_shape : Shape
symlink_shape = set_shape & any_bytes

-- devicedata3 (section 3.3.11): dev_attributes and spec
abbrev pub device_data_shape : Shape
device_data_shape = set_shape & device_shape

-- mknoddata3 (section 3.3.11): NF3CHR and NF3BLK with devicedata3, NF3SOCK and NF3FIFO with pipe_attributes, and NF3REG, NF3DIR and NF3LNK
-- with nothing
abbrev pub mknod_shape : Shape
mknod_shape =
    Case 4 device_data_shape (Case 3 device_data_shape (Case 6 set_shape (Case 7 set_shape (Case 1 Void (Case 2 Void (Case 5 Void NoCase))))))

-- what it asks for
abbrev pub mknod_kind : Value mknod_shape → model.Kind
mknod_kind (inl v) = model.SpecialKind (model.CharacterDevice (device_from v.1))
mknod_kind (inr (inl v)) = model.SpecialKind (model.BlockDevice (device_from v.1))
mknod_kind (inr (inr (inl v))) = model.SpecialKind model.Socket
mknod_kind (inr (inr (inr (inl v)))) = model.SpecialKind model.Fifo
mknod_kind (inr (inr (inr (inr (inl v))))) = model.Regular
mknod_kind (inr (inr (inr (inr (inr (inl v)))))) = model.DirectoryKind
mknod_kind (inr (inr (inr (inr (inr (inr (inl v))))))) = model.SpecialKind model.SymbolicLink
mknod_kind (inr (inr (inr (inr (inr (inr (inr v))))))) = absurd v

-- and the attributes that come with it
abbrev pub mknod_set : Value mknod_shape → model.SetAttributes
mknod_set (inl v) = set_from v.0
mknod_set (inr (inl v)) = set_from v.0
mknod_set (inr (inr (inl v))) = set_from v
mknod_set (inr (inr (inr (inl v)))) = set_from v
mknod_set (inr (inr (inr (inr v)))) = no_attributes

-- stable_how (section 3.3.7)
abbrev pub stable_shape : Shape
stable_shape = Choice (0 ∷ 1 ∷ 2 ∷ [])
