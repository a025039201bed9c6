-- Statement: what a dependency wants.
use Rattle.std.specs.Prelude.{◌≡◌, ◌≢◌, ⊤, List, ℕ}
use Rattle.lock_files.specs.Specifiers.{IsSpecifier}
use Rattle.lock_files.specs.declared.lock.Wanted.{Wanted}
use Rattle.lock_files.specs.declared.lock.Wanted.TheVariants as wanted
use Rattle.lock_files.specs.declared.specifier.Specifier.{Specifier}
use Rattle.lock_files.specs.declared.specifier.Specifier.TheVariants.{Folder}

-- its text, or the folder of the workspace
abbrev pub wanted_text : Wanted → List ℕ
wanted_text (wanted.Text t) = t.now
wanted_text (wanted.Override t) = t.now
wanted_text (wanted.Workspace folder) = folder.now

abbrev pub IsOverride : Wanted → Type 0
IsOverride (wanted.Override text) = ⊤
IsOverride _ = ⊥

-- an override changes what is written: it is another text, or stands in place of a workspace
abbrev pub IsOtherThan : (now before : Wanted) → Type 0
IsOtherThan (wanted.Override text) (wanted.Text before) = text.now ≢ before.now
IsOtherThan now before = IsOverride now

abbrev pub IsFolder : List ℕ → Specifier → Type 0
IsFolder folder (Folder path) = path.now ≡ folder
IsFolder folder _ = ⊥

-- what is wanted by a text or by the name of a workspace's folder
abbrev pub IsWantedAs : Wanted → Specifier → Type 0
IsWantedAs (wanted.Text text) s = IsSpecifier text.now s
IsWantedAs (wanted.Override text) s = IsSpecifier text.now s
IsWantedAs (wanted.Workspace folder) s = IsFolder folder.now s
