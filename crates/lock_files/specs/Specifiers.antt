-- Statement: what a text in place of a range is, and what an alias stands for.
use Rattle.std.specs.Prelude.{◌≡◌, ◌≢◌, ◌⊎◌, ◌==◌, ◌&&◌, ◌||◌, ◌≤◌, not, ℕ, Bool, true, false}
use Rattle.std.specs.Prelude.{Option, Some, None, List, [], ◌∷◌, ◌++◌, codes, drop, length, map, slice_index}
use Rattle.std.specs.Prelude.{⊤, if◌then◌else◌, option_map, slice_index_or}
use Rattle.std.specs.Borrow.{Bor}
use Rattle.std.specs.Char.{is_ascii_alphabetic, is_ascii_alphanumeric, to_ascii_lowercase}
use Rattle.std.specs.List.{Any, after_first, after_last, before_first, ends_with, list_all, list_any}
use Rattle.std.specs.List.{starts_with}
use Rattle.std.specs.Str.{chars}
use Rattle.std.specs.Str.Iter.{HasSubslice}
use Rattle.semver_core.specs.Text.Characters.{IsTrim, is_whitespace}
use Rattle.lock_files.specs.Paths.{is_slash, parts, without_front}
use Rattle.lock_files.specs.declared.specifier.Specifier.{Specifier}
use Rattle.lock_files.specs.declared.specifier.Specifier.TheVariants.{Folder, Packed, Page, Range, Repository}
use Rattle.lock_files.specs.declared.specifier.Specifier.TheVariants.{Unsupported}

-- a character stands in the text
abbrev pub has : ℕ → List ℕ → Bool
has c text = list_any (λ b. b == c) text

-- a byte that stands in a URL as it is
abbrev pub is_url_byte : ℕ → Bool
is_url_byte b = is_ascii_alphanumeric b || list_any (λ c. c == b) (codes "-_.!~*'()")

-- a scope or a name behind it: one such byte or more
abbrev pub is_part : List ℕ → Bool
is_part text = not (length text == 0) && list_all is_url_byte text

-- a scope, a slash and a name
abbrev pub IsScopeAndName : List ℕ → Type 0
IsScopeAndName text = (scope : List ℕ) × (name : List ℕ) × (text ≡ scope ++ 47 ∷ name)
    × (is_part scope ≡ true) × (is_part name ≡ true)

-- two texts that differ in the case of letters alone
abbrev pub IsSameWord : List ℕ → List ℕ → Type 0
IsSameWord text word = map to_ascii_lowercase text ≡ map to_ascii_lowercase word

-- a name that no package may have
abbrev pub IsReserved : List ℕ → Type 0
IsReserved text = IsSameWord text (codes "node_modules") ⊎ IsSameWord text (codes "favicon.ico")

-- a name without a scope, which begins with neither a dot nor a `_`
pub record IsBareName (text : List ℕ) : Type 0 where
  pub part : is_part text ≡ true
  pub no_dot : (slice_index text 0 == 46) ≡ false
  pub no_line : (slice_index text 0 == 95) ≡ false
  pub free : ¬ (IsReserved text)

-- the name of a package, without a scope or with one
abbrev pub IsName : List ℕ → Type 0
IsName text = IsBareName text ⊎ ((name : List ℕ) × (text ≡ 64 ∷ name) × IsScopeAndName name)

-- a text ends as the names of packed packages do
abbrev pub is_packed : List ℕ → Bool
is_packed text = ends_with (λ a b. a == b) text (codes ".tgz")
    || ends_with (λ a b. a == b) text (codes ".tar.gz")
    || ends_with (λ a b. a == b) text (codes ".tar")

-- a text is neither a path nor an address
abbrev pub is_plain : List ℕ → Bool
is_plain text = not (has 47 text) && not (has 58 text)

-- a text is asked of a registry
abbrev pub is_of_registry : List ℕ → Bool
is_of_registry text = is_plain text && not (slice_index text 0 == 46) && not (is_packed text)

-- a name that an alias may have; of one with a scope it is what stands behind the `@`
abbrev pub IsAliased : Bool → List ℕ → Type 0
IsAliased true name = IsScopeAndName name
IsAliased false name = IsBareName name × (is_packed name ≡ false)

abbrev pub with_sign : Bool → List ℕ → List ℕ
with_sign true name = 64 ∷ name
with_sign false name = name

-- a text is that with an `@` in front or without one, and begins with one in the first case alone
pub record IsUnsigned (target : List ℕ) (is_scoped : Bool) (text : List ℕ) : Type 0 where
  pub whole : target ≡ with_sign is_scoped text
  pub front : is_scoped ≡ false → (rest : List ℕ) → target ≢ 64 ∷ rest

-- what stands behind `npm:` has this range: it is a name and, behind an `@`, a range that is asked
-- of a registry; or a name alone, or with nothing behind the `@`, which is any version of it; or a
-- text without an `@` that is no name, which is a range itself
pub data IsAliasOf (target range : List ℕ) : Type 0 where
  ranged : (is_scoped : Bool) (name : List ℕ) → IsAliased is_scoped name
      → target ≡ with_sign is_scoped name ++ 64 ∷ range → range ≢ [] → is_of_registry range ≡ true
      → IsAliasOf target range
  any : (is_scoped : Bool) (name : List ℕ) → IsAliased is_scoped name
      → (target ≡ with_sign is_scoped name) ⊎ (target ≡ with_sign is_scoped name ++ 64 ∷ [])
      → range ≡ codes "*" → IsAliasOf target range
  alone : has 64 target ≡ false → ¬ (IsAliased false target) → is_of_registry target ≡ true
      → range ≡ target → IsAliasOf target range

-- npm rejects every other text
abbrev pub IsAlias : List ℕ → Specifier → Type 0
IsAlias target (Range range) = IsAliasOf target range.now
IsAlias target Unsupported = (range : List ℕ) → ¬ (IsAliasOf target range)
IsAlias target _ = ⊥

-- the target stands behind `npm:` in the text, in letters of any case
abbrev pub IsNpm : List ℕ → List ℕ → Type 0
IsNpm text target = (scheme : List ℕ) × (text ≡ scheme ++ 58 ∷ target) × IsSameWord scheme (codes "npm")

abbrev pub IsBehindNpm : List ℕ → Option (List ℕ) → Type 0
IsBehindNpm text (Some target) = IsNpm text target
IsBehindNpm text None = (target : List ℕ) → ¬ (IsNpm text target)

-- a text in place of a range is asked of a registry by this range: as it is, or empty, or as an alias
pub data IsAsked (text range : List ℕ) : Type 0 where
  plain : is_of_registry text ≡ true → text ≢ [] → range ≡ text → IsAsked text range
  empty : text ≡ [] → range ≡ codes "*" → IsAsked text range
  alias : (target : List ℕ) → IsNpm text target → IsAliasOf target range → IsAsked text range

abbrev pub IsElsewhere : List ℕ → Type 0
IsElsewhere text = (range : List ℕ) → ¬ (IsAsked text range)

-- letters, one or more
abbrev pub is_word : List ℕ → Bool
is_word text = not (length text == 0) && list_all is_ascii_alphabetic text

abbrev pub is_git : List ℕ → Bool
is_git text = starts_with (λ a b. a == b) text (codes "git+")

abbrev pub behind_git : List ℕ → List ℕ
behind_git text = if is_git text then drop 4 text else text

abbrev pub is_colon : ℕ → Bool
is_colon b = b == 58

-- an address begins with a scheme, which is letters, and a colon; `git+` may stand before it
abbrev pub scheme_of : List ℕ → List ℕ
scheme_of text = before_first is_colon (behind_git text)

abbrev pub target_of : List ℕ → List ℕ
target_of text = after_first is_colon (behind_git text)

abbrev pub is_address : List ℕ → Bool
is_address text = has 58 (behind_git text) && is_word (scheme_of text)

-- a text begins as paths do
abbrev pub begins_path : List ℕ → Bool
begins_path text = slice_index text 0 == 46
    || (slice_index text 0 == 47 || starts_with (λ a b. a == b) text (codes "~/"))

-- a text is this path by its front: the text itself, which may begin with a drive, or what is behind `file:`
pub data IsPathOf (text path : List ℕ) : Type 0 where
  front : begins_path text ≡ true → path ≡ text → IsPathOf text path
  drive : is_address text ≡ true → is_git text ≡ false → length (scheme_of text) ≡ 1 → path ≡ text
      → IsPathOf text path
  file : is_address text ≡ true → is_git text ≡ false → IsSameWord (scheme_of text) (codes "file")
      → path ≡ target_of text → IsPathOf text path

abbrev pub IsNoPath : List ℕ → Type 0
IsNoPath text = (path : List ℕ) → ¬ (IsPathOf text path)

-- what is at a path
abbrev pub IsAtPath : List ℕ → Specifier → Type 0
IsAtPath path (Folder own) = (own.now ≡ path) × (is_packed path ≡ false)
IsAtPath path (Packed own) = (own.now ≡ path) × (is_packed path ≡ true)
IsAtPath path _ = ⊥

-- one of these words, in letters of any case
abbrev pub IsOneOf : List (List ℕ) → List ℕ → Type 0
IsOneOf words text = Any (IsSameWord text) words

-- the schemes that npm reads behind `git+`, and without that
abbrev pub schemes : Bool → List (List ℕ)
schemes true = codes "file" ∷ codes "ftp" ∷ codes "http" ∷ codes "https" ∷ codes "rsync" ∷ codes "ssh" ∷ []
schemes false = codes "bitbucket" ∷ codes "gist" ∷ codes "git" ∷ codes "github" ∷ codes "gitlab"
    ∷ codes "http" ∷ codes "https" ∷ codes "sourcehut" ∷ codes "ssh" ∷ []

abbrev pub IsReadScheme : Bool → List ℕ → Type 0
IsReadScheme is_git scheme = IsOneOf (schemes is_git) scheme

abbrev pub IsWeb : List ℕ → Type 0
IsWeb scheme = IsSameWord scheme (codes "http") ⊎ IsSameWord scheme (codes "https")

-- behind its scheme and slashes a web address has a host, and behind the next slash a path. An `@` ends a
-- user in front of the host, and `www.` in front of a host means nothing
abbrev pub without_www : List ℕ → List ℕ
without_www host = if starts_with (λ a b. a == b) host (codes "www.") then drop 4 host else host

abbrev pub host_in : List ℕ → List ℕ
host_in authority = without_www (after_last (λ b. b == 64) authority)

abbrev pub host_of : List ℕ → List ℕ
host_of target = host_in (before_first is_slash (without_front target))

abbrev pub path_of : List ℕ → List ℕ
path_of target = after_first is_slash (without_front target)

-- the hosts whose repositories npm knows
abbrev pub hosts : List (List ℕ)
hosts = codes "bitbucket.org" ∷ codes "gist.github.com" ∷ codes "git.sr.ht" ∷ codes "github.com"
    ∷ codes "gitlab.com" ∷ []

-- the third part of a path, or nothing if it has none
abbrev pub third_part : List ℕ → List ℕ
third_part path = slice_index_or (parts path) 2 []

-- there is one, and it does not begin the name of a branch
abbrev pub IsBelowProject : List ℕ → Type 0
IsBelowProject path = (third_part path ≢ []) × (third_part path ≢ codes "tree")

-- a page is that of a file, and of no repository: it is at another host, or on GitHub below a project
abbrev pub IsPage : List ℕ → Type 0
IsPage target = (¬ (IsOneOf hosts (host_of target)))
    ⊎ (IsSameWord (host_of target) (codes "github.com") × IsBelowProject (path_of target))

abbrev pub IsWebPage : Bool → (scheme target : List ℕ) → Type 0
IsWebPage is_git scheme target = (is_git ≡ false) × IsWeb scheme × IsPage target

-- a text is cut where it first has a piece
abbrev pub IsCutAt : (piece text before behind : List ℕ) → Type 0
IsCutAt piece text before behind = (text ≡ before ++ (piece ++ behind))
    × ((other rest : List ℕ) → text ≡ other ++ (piece ++ rest) → length before ≤ length other)

-- the first `#semver:` names the range behind it, unless that has a `%`, which escapes, or a `::`, which ends
-- the range
abbrev pub NamesRange : (text range : List ℕ) → Type 0
NamesRange text range = (before : List ℕ) × IsCutAt (codes "#semver:") text before range
    × (has 37 range ≡ false) × (¬ (HasSubslice range (codes "::")))

abbrev pub IsRangeNamed : List ℕ → Option (List ℕ) → Type 0
IsRangeNamed text (Some range) = NamesRange text range
IsRangeNamed text None = (range : List ℕ) → ¬ (NamesRange text range)

-- what is at an address whose scheme npm reads: a packed package at a page on the web, or a repository
abbrev pub IsAtAddress : List ℕ → Bool → (scheme target : List ℕ) → Specifier → Type 0
IsAtAddress text is_git scheme target (Page url) = (url.now ≡ text) × IsWebPage is_git scheme target
IsAtAddress text is_git scheme target (Repository range) = IsReadScheme is_git scheme
    × (¬ (IsWebPage is_git scheme target)) × IsRangeNamed text (option_map (λ t. t.now) range)
IsAtAddress text is_git scheme target Unsupported = ¬ (IsReadScheme is_git scheme)
IsAtAddress text is_git scheme target _ = ⊥

-- a text without a scheme may be the address of a repository by what stands before its first `#`
abbrev pub before_hash : List ℕ → List ℕ
before_hash text = before_first (λ b. b == 35) text

-- `USER@HOST:PATH`
abbrev pub is_remote : List ℕ → Bool
is_remote text = has 64 text && has 58 text

-- `USER/PROJECT`: two parts, neither of them empty, and no colon, `@` or whitespace
abbrev pub HasTwoParts : List ℕ → Type 0
HasTwoParts text = (user : List ℕ) × (project : List ℕ) × (parts text ≡ user ∷ project ∷ [])
    × (user ≢ []) × (project ≢ [])

abbrev pub is_unmarked : List ℕ → Bool
is_unmarked text = not (has 58 text) && not (has 64 text) && not (list_any is_whitespace (chars text))

abbrev pub IsRepository : List ℕ → Type 0
IsRepository text = (is_remote (before_hash text) ≡ true)
    ⊎ (HasTwoParts (before_hash text) × (is_unmarked (before_hash text) ≡ true))

-- else a text is a path if it has a slash or ends as packed packages do
abbrev pub is_place : List ℕ → Bool
is_place text = has 47 text || is_packed text

abbrev pub IsWithoutScheme : List ℕ → Specifier → Type 0
IsWithoutScheme text (Repository range) =
    IsRepository text × IsRangeNamed text (option_map (λ t. t.now) range)
IsWithoutScheme text (Range range) =
    (¬ (IsRepository text)) × (is_place text ≡ false) × (range.now ≡ text)
IsWithoutScheme text s = (¬ (IsRepository text)) × (is_place text ≡ true) × IsAtPath text s

-- where a text leads that no registry is asked for
pub data IsPlace (text : List ℕ) (s : Specifier) : Type 0 where
  by_path : (path : List ℕ) → IsPathOf text path → IsAtPath path s → IsPlace text s
  by_scheme : IsNoPath text → is_address text ≡ true
      → IsAtAddress text (is_git text) (scheme_of text) (target_of text) s → IsPlace text s
  without : IsNoPath text → is_address text ≡ false → IsWithoutScheme text s → IsPlace text s

-- what a text is: asked of a registry by that range, no alias though it begins so, or a place
pub data IsSpecifier (text : List ℕ) (s : Specifier) : Type 0 where
  asked : (range : Bor (List ℕ)) → IsAsked text range.now → s ≡ Range range → IsSpecifier text s
  no_alias : (target : List ℕ) → IsNpm text target → IsElsewhere text → s ≡ Unsupported → IsSpecifier text s
  place : ((target : List ℕ) → ¬ (IsNpm text target)) → IsElsewhere text → IsPlace text s → IsSpecifier text s

-- a text that is no range is a tag if its bytes, but for whitespace around it, stand in a URL as they are
abbrev pub IsTag : List ℕ → Type 0
IsTag text = (middle : List ℕ) × IsTrim text middle × (list_all is_url_byte middle ≡ true)

-- two things are the same, with the same texts
abbrev pub IsSameAs : Specifier → Specifier → Type 0
IsSameAs (Range a) (Range b) = a.now ≡ b.now
IsSameAs (Folder a) (Folder b) = a.now ≡ b.now
IsSameAs (Packed a) (Packed b) = a.now ≡ b.now
IsSameAs (Page a) (Page b) = a.now ≡ b.now
IsSameAs (Repository a) (Repository b) = option_map (λ t. t.now) a ≡ option_map (λ t. t.now) b
IsSameAs Unsupported Unsupported = ⊤
IsSameAs _ _ = ⊥

abbrev pub is_repository : Specifier → Bool
is_repository (Repository range) = true
is_repository s = false
