-- What an entry of version 1 is converted to.
use Rattle.std.proofs.Common.{◌≡◌, ◌∙◌, ap, BTreeMap, Global, false, List, None, Option, Some, ℕ, refl, subst, sym, true, true≢false}
use Rattle.std.specs.BTreeMap.{get_by}
use Rattle.std.specs.Borrow.{Bor}
use Rattle.std.specs.Cmp.Lexicographic.{slice_cmp}
use Rattle.std.specs.Option.{option_copied}
use Rattle.std.specs.Ordering.{nat_cmp}
use Rattle.std.specs.Prelude.{String, codes, is_some, option_map, string_bytes}
use Rattle.serde_json.proofs.Views.{view-lookup}
use Rattle.serde_json.specs.Data.{Data}
use Rattle.serde_json.specs.Find.{get, get_member}
use Rattle.serde_json.specs.View.{members_view, view}
use Rattle.serde_json.specs.declared.value.Value.{Value}
use Rattle.lock_files.proofs.Exact.{one_specifier}
use Rattle.lock_files.specs.Specifiers.{IsSameAs, is_repository}
use Rattle.lock_files.specs.Nested.{IsSaid, SaysSource, is_range}
use Rattle.lock_files.specs.Nested.SaysSource.{alone, asked, checked, repository}
use Rattle.lock_files.specs.Specifiers.{IsSpecifier}
use Rattle.lock_files.specs.declared.specifier.Specifier.{Specifier}
use Rattle.lock_files.specs.declared.specifier.Specifier.TheVariants.{Folder, Packed, Page, Range, Repository}
use Rattle.lock_files.specs.declared.specifier.Specifier.TheVariants.{Unsupported}

-- whether something was found
pub found-map : {A : Type 0} (view : A → Data) (o : Option A) (d : Option Data) → option_map view o ≡ d
    → is_some d ≡ is_some o
found-map view None d is = ap is_some (sym is)
found-map view (Some x) d is = ap is_some (sym is)

-- whether a map has a key
copied-some : (o : Option (Bor Value)) → is_some (option_map view (option_copied o)) ≡ is_some o
copied-some None = refl
copied-some (Some v) = refl

pub is-there : (key : List ℕ) (m : BTreeMap (String Global) Value) (o : Option (Bor Value))
    → option_copied o ≡ get_by (λ k. slice_cmp nat_cmp key (string_bytes k)) m
    → is_some (get_member key (members_view m.entries)) ≡ is_some o
is-there key m o same =
    ap is_some (sym (view-lookup key m.entries) ∙ ap (option_map view) (sym same)) ∙ copied-some o

-- ---- where a package comes from

-- what is the same as a range is one
same-range : (s t : Specifier) → IsSameAs s t → is_range t ≡ true → is_range s ≡ true
same-range (Range a) t same is = refl
same-range (Folder a) (Folder b) same is = is
same-range (Packed a) (Packed b) same is = is
same-range (Page a) (Page b) same is = is
same-range (Repository a) (Repository b) same is = is
same-range Unsupported Unsupported same is = is
same-range (Folder a) (Range b) same is = absurd same
same-range (Packed a) (Range b) same is = absurd same
same-range (Page a) (Range b) same is = absurd same
same-range (Repository a) (Range b) same is = absurd same
same-range Unsupported (Range b) same is = absurd same
same-range s t same is = is

-- a text is one thing
one-in : (field : List ℕ) (entry : Data) (s t : Specifier) → IsSaid field entry (Some s) → IsSaid field entry (Some t)
    → IsSameAs s t
one-in field entry s t (text, at, is) (also, there, other) =
    let same : also ≡ text = cc in
    one_specifier text s t is (subst (λ t'. IsSpecifier t' t) same other)

-- where nothing else does so, the version says the source only of an entry that was asked for by a range
pub says-range : (entry : Data) (version from : Specifier) → is_some (get (codes "integrity") entry) ≡ false
    → is_repository version ≡ false → IsSaid (codes "from") entry (Some from) → SaysSource entry version
    → is_range from ≡ true
says-range entry version from none plain is (checked at) = absurd (true≢false (sym at ∙ none))
says-range entry version from none plain is (repository some) = absurd (true≢false (sym some ∙ plain))
says-range entry version from none plain is (asked also there range) =
    same-range from also (one-in (codes "from") entry from also is there) range
says-range entry version from none plain (text, at, is) (alone never _) = cc
