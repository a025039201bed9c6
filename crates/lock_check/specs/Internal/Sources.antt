-- For private contracts: what an address is that a package comes from.
use Rattle.std.specs.Prelude.{Bool, true, false}
use Rattle.lock_files.specs.declared.specifier.Specifier.{Specifier}
use Rattle.lock_files.specs.declared.specifier.Specifier.TheVariants.{Page}

abbrev pub is_page : Specifier → Bool
is_page (Page url) = true
is_page _ = false
