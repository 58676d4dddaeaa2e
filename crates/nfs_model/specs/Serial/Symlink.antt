-- SYMLINK (RFC 1813 section 3.3.10).
use Rattle.std.specs.Prelude.{ℕ, nat_lt, ◌==◌, List, length, Option, Some, None, if◌then◌else◌}
use Rattle.std.specs.List.{list_any}
use Rattle.nfs_model.specs.Types.{Moment, Caller, SetAttributes, SpecialType, SymbolicLink, SpecialKind}
use Rattle.nfs_model.specs.Types.{Status, NoEntry, Exists, Invalid, NameTooLong}
use Rattle.nfs_model.specs.Server.{Node, Special}
use Rattle.nfs_model.specs.Names.{is_dots}
use Rattle.nfs_model.specs.Locate.{Effect, Fails, unless, Found, Naming, named_child}
use Rattle.nfs_model.specs.Serial.Create.{Maker, maker, new_attributes, made}
use Rattle.nfs_model.specs.Serial.Mkdir.{mkdir_fault}

-- the longest text, in bytes (our profile)
abbrev pub most_text : ℕ
most_text = 1024

-- what is wrong with a text: too long; empty; byte 0 (our profile)
abbrev pub text_fault : List ℕ → Option Status
text_fault text =
    if nat_lt most_text (length text) then Some NameTooLong
    else if length text == 0 then Some NoEntry
    else if list_any (λ b. b == 0) text then Some Invalid
    else None

-- a special node as it is made, of this mode if none is given
abbrev pub new_special : SpecialType → ℕ → SetAttributes → List ℕ → Maker → Moment → Node
new_special special mode set text m moment = Special (record {
  attributes = new_attributes set (SpecialKind special) mode m moment;
  special = special;
  text = text;
  links = 1;
})

-- By whether the name is there; mode 0777 (octal) if none is given.
abbrev pub symlink_at : Naming → SetAttributes → List ℕ → Caller → Option Found → Effect
symlink_at n set text caller (Some found) = Fails Exists
symlink_at n set text caller None =
    unless (text_fault text)
    (unless (mkdir_fault n.volume set) (made n (new_special SymbolicLink 511 set text (maker caller n) n.moment)))

-- on a good name: EXIST for `.` and `..`
abbrev pub symlink : SetAttributes → List ℕ → Caller → Naming → Effect
symlink set text caller n =
    if is_dots n.name then Fails Exists else symlink_at n set text caller (named_child n)
