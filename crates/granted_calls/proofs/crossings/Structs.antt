-- A struct may cross threads where the rows of its fields may.
use mathlib.Core.List.{List, [], ◌∷◌}
use denote.RattleType.{RattleType}
use denote.Param.Send.{IsSend}
use denote.Param.SendFields.{FieldsHave, as_row_send, declared_send}
use denote.Struct.Field.{Field}
use denote.Struct.Declared as S

abbrev pub RowsHave : (RattleType → Type 0) → List Field → Type 0
RowsHave H [] = Unit {0}
RowsHave H (F ∷ Fs) = H F.row × RowsHave H Fs

fields-send : (Fs : List Field) → RowsHave IsSend Fs → FieldsHave IsSend Fs
fields-send [] s = tt
fields-send (F ∷ Fs) s = (as_row_send F s.0, fields-send Fs s.1)

pub struct-send : (T : S.Declared) → RowsHave IsSend T.parts → IsSend (S.row T)
struct-send T s = declared_send T (fields-send T.parts s)
