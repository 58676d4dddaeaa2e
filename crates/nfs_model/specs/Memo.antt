-- What is remembered of a call, so that one which its client sends again, since no reply came, is told that reply and isn't done
-- twice (RFC 1813 section 4.5).
use Rattle.std.specs.Prelude.{ℕ, List, Option}
use Rattle.nfs_model.specs.Types.{Moment, Caller, SetAttributes, CreateMode, Kind, Shown, Wcc}

-- The calls of which a reply is remembered, with their arguments (RFC 1813 section 3.3): those that change names or attributes. A
-- WRITE that is done again writes the same bytes.
pub data Change : Type 0 where
  Sets : (handle : List ℕ) (set : SetAttributes) (guard : Option Moment) → Change
  Creates : (directory name : List ℕ) (mode : CreateMode) → Change
  MakesDirectory : (directory name : List ℕ) (set : SetAttributes) → Change
  MakesSymbolicLink : (directory name : List ℕ) (set : SetAttributes) (text : List ℕ) → Change
  MakesNode : (directory name : List ℕ) (kind : Kind) (set : SetAttributes) → Change
  Removes : (directory name : List ℕ) → Change
  RemovesDirectory : (directory name : List ℕ) → Change
  Renames : (from from_name to to_name : List ℕ) → Change
  Links : (handle directory name : List ℕ) → Change

-- the results of such a call that succeeded; the handle of what was made follows from its attributes
pub data Told : Type 0 where
  ToldSet : (change : Wcc) → Told
  ToldMade : (object : Shown) (directory : Wcc) → Told
  ToldGone : (directory : Wcc) → Told
  ToldRenamed : (from to : Wcc) → Told
  ToldLinked : (object : Shown) (directory : Wcc) → Told

pub record Memo : Type 0 where
  pub caller : Caller
  pub change : Change
  pub moment : Moment
  pub told : Told
