-- What a place keeps, as the model has it.
use Rattle.std.specs.Prelude.{◌≡◌, ℕ, Bool, false, List, Option, Some, None, take, map}
use Rattle.std.specs.Option.{option_map}
use Rattle.nfs_model.specs.Memo as model
use Rattle.nfs_model.specs.Memo.{Change, Sets, Creates, MakesDirectory, MakesSymbolicLink, MakesNode, Removes, RemovesDirectory, Renames, Links, Memo}
use Rattle.nfs_model.specs.Serial.Same.{same_change}
use Rattle.nfs_values.specs.Attributes.{kind_of, shown_of, change_of}
use Rattle.nfs_values.specs.Caller.{caller_of}
use Rattle.nfs_values.specs.Moment.{moment_of}
use Rattle.nfs_values.specs.Set.{set_of, mode_of}
use Rattle.memos.specs.declared.entry.Entry.{Entry}
use Rattle.memos.specs.declared.text.Text.{Text}
use Rattle.memos.specs.declared.change.Asked.{Asked}
use Rattle.memos.specs.declared.change.Asked.TheVariants.{Nothing, Set, Create, MakeDirectory, MakeSymbolicLink, MakeDevice, Remove}
use Rattle.memos.specs.declared.change.Asked.TheVariants.{RemoveDirectory, Rename, MakeLink}
use Rattle.memos.specs.declared.change.KeptChange.{KeptChange}
use Rattle.memos.specs.declared.results.Results.{Results}
use Rattle.memos.specs.declared.results.Results.TheVariants as results
use Rattle.memos.specs.declared.place.Place.{Place}

-- the name: the first of the bytes that are there
abbrev pub name_kept : Entry → List ℕ
name_kept e = take e.size e.name

-- the text: the first of the bytes that are there
abbrev pub text_kept : Text → List ℕ
text_kept t = take t.size t.bytes

-- what was asked, with a handle and name, or two, and a text
abbrev pub change_with : Asked → (handle name to to_name text : List ℕ) → Option Change
change_with Nothing handle name to to_name text = None
change_with (Set set guard) handle name to to_name text = Some (Sets handle (set_of set) (option_map moment_of guard))
change_with (Create mode) handle name to to_name text = Some (Creates handle name (mode_of mode))
change_with (MakeDirectory set) handle name to to_name text = Some (MakesDirectory handle name (set_of set))
change_with (MakeSymbolicLink set) handle name to to_name text = Some (MakesSymbolicLink handle name (set_of set) text)
change_with (MakeDevice kind set) handle name to to_name text = Some (MakesNode handle name (kind_of kind) (set_of set))
change_with Remove handle name to to_name text = Some (Removes handle name)
change_with RemoveDirectory handle name to to_name text = Some (RemovesDirectory handle name)
change_with Rename handle name to to_name text = Some (Renames handle name to to_name)
change_with MakeLink handle name to to_name text = Some (Links to handle name)

abbrev pub change_kept : KeptChange → Option Change
change_kept k =
    change_with k.asked k.first.handle (name_kept k.first) k.second.handle (name_kept k.second) (text_kept k.text)

-- whether a call, if it is to be remembered, is the one that is kept
abbrev pub asks : Option Change → Option Change → Bool
asks None change = false
asks (Some kept) None = false
asks (Some kept) (Some change) = same_change kept change

abbrev pub told_kept : Results → model.Told
told_kept (results.Set change) = model.ToldSet (change_of change)
told_kept (results.Made object directory) = model.ToldMade (shown_of object) (change_of directory)
told_kept (results.Gone directory) = model.ToldGone (change_of directory)
told_kept (results.Renamed from to) = model.ToldRenamed (change_of from) (change_of to)
told_kept (results.Linked object directory) = model.ToldLinked (shown_of object) (change_of directory)

-- what is told is kept, if anything is told
abbrev pub Keeps : Option model.Told → model.Told → Type 0
Keeps None kept = Unit {0}
Keeps (Some told) kept = kept ≡ told

abbrev pub memo_with : Place → Change → Memo
memo_with p change =
    record { caller = caller_of p.caller; change = change; moment = moment_of p.moment; told = told_kept p.results }

abbrev pub memo_kept : Place → Option Memo
memo_kept p = option_map (memo_with p) (change_kept p.change)

abbrev pub memos_kept : List Place → List (Option Memo)
memos_kept places = map memo_kept places
