-- Common texts of versions: what is read of the bytes is what the text is.
use Rattle.std.proofs.Common.{◌≡◌, ◌<◌, ◌≤◌, ◌==◌, ◌^◌, ◌++◌, ◌∷◌, ◌∙◌, List, [], Some, ap, append-nil, arith, false}
use Rattle.std.proofs.Common.{length, refl, sym, true, ℕ}
use Rattle.std.proofs.Common.{inl, inr, map}
use Rattle.std.proofs.lemmas.List.Splits.{join_with_byte-slice_split}
use Rattle.std.proofs.lemmas.Str.{IsUtf8-append, IsUtf8-from_ascii, IsUtf8-nil}
use Rattle.std.proofs.lemmas.Str.Ascii.{IsAscii-cons, IsAscii-nil}
use Rattle.std.specs.Char.{is_ascii_digit}
use Rattle.std.specs.List.{join_with_byte, list_all}
use Rattle.std.specs.Prelude.{IsUtf8}
use Rattle.std.specs.Str.{IsAscii}
use Rattle.std.specs.Str.Parse.{digits_value}
use Rattle.nodejs_semver.proofs.Common.{and_parts, cases_Bool, nat_tests}
use Rattle.semver_core.proofs.Reading.Boundaries.{byte-is}
use Rattle.semver_core.proofs.Reading.Numbers.{NumberAt, number-found}
use Rattle.semver_core.proofs.Reading.Qualifiers.{build-read, pre-read}
use Rattle.semver_core.proofs.Text.Texts.{bind_some}
use Rattle.semver_core.proofs.Text.Ends.{is_spelled}
use Rattle.semver_core.proofs.Text.Listed.{listed_utf8}
use Rattle.semver_core.specs.Internal.Fronts.{after_byte, build_front, dotted_with, number_front, number_with, pre_release_front, pre_release_with}
use Rattle.semver_core.specs.Printing.Text.{id_text, marked_list}
use Rattle.semver_core.specs.Text.Identifiers.{Id, identifier_of, is_identifier, is_listed, is_u64_text, listed, pieces}
use Rattle.semver_core.specs.Text.Numbers.{IsNumber}
use Rattle.semver_core.specs.Text.VersionText.{IsBuild, IsPreRelease, Reads, bare, dashed, no_build, no_mark, no_pre_release, plus}
use Rattle.semver_core.specs.Text.Parsing.{Parses}
use Rattle.semver_core.specs.Values.Versions.{VersionValue}
use Rattle.semver_core.specs.declared.TheConstants.{MAX_LENGTH, MAX_SAFE_INTEGER}
use Rattle.npm_words.proofs.Grammar.VersionLaw.{digits_printed}
use Rattle.npm_words.specs.Grammar.{has_leading_zero, is_strict_list}
use Rattle.npm_words.specs.Internal.Readings.{is_strict_identifier}
use Rattle.nodejs_semver_c.specs.Internal.Common.{AreLists, IsReleaseAt}
use Rattle.nodejs_semver_c.specs.declared.kept.Version.{Version}
use Rattle.nodejs_semver_c.specs.Kept.{list_text}

-- ---- the lists

pub no_text : {A : Type 0} (xs : List A) → (length xs == 0) ≡ true → xs ≡ []
no_text [] h = refl
no_text (x ∷ xs) h = absurd (grind (arith, nat_tests, h))

pub lists_read : (text pre rest build left : List ℕ) → (pre, rest) ≡ pre_release_with false text → (build, left) ≡ build_front rest
    → (length left == 0) ≡ true → is_listed pre ≡ true → is_listed build ≡ true → AreLists text pre build
unfolding pre_release_with
lists_read text pre rest build left e f none h k =
    let (p, a) = pre-read text in
    let (b, g) = build-read rest in
    let read : pre ≡ (pre_release_front text).0 = ap (λ (x : List ℕ × List ℕ). x.0) e in
    let behind : rest ≡ (pre_release_front text).1 = ap (λ (x : List ℕ × List ℕ). x.1) e in
    let built : build ≡ (build_front rest).0 = ap (λ (x : List ℕ × List ℕ). x.0) f in
    let nothing : (build_front rest).1 ≡ [] = sym (ap (λ (x : List ℕ × List ℕ). x.1) f) ∙ no_text left none in
    let whole : rest ≡ b = g.split ∙ ap (λ (r : List ℕ). b ++ r) nothing ∙ append-nil b in
    let pre_is : IsPreRelease p b (listed pre) = rw (sym read) at (a.is b g.goes g.pre) in
    let build_is : IsBuild b [] (listed build) = rw (sym built) at g.is in
    (p, b, a.split ∙ ap (λ (r : List ℕ). p ++ r) (sym behind ∙ whole), pre_is, build_is, h, k)

-- ---- they are UTF-8

digits_ascii : (ds : List ℕ) → list_all is_ascii_digit ds ≡ true → IsAscii ds
digits_ascii [] h = IsAscii-nil
digits_ascii (d ∷ ds) h =
    let both = and_parts (is_ascii_digit d) (list_all is_ascii_digit ds) h in
    IsAscii-cons d ds (grind (arith, nat_tests, both.0)) (digits_ascii ds both.1)

pub number_utf8 : (limit : ℕ) (ds : List ℕ) (n : ℕ) → IsNumber limit ds n → IsUtf8 ds
number_utf8 limit ds n h = IsUtf8-from_ascii ds (digits_ascii ds h.each)

pub marked_utf8 : (c : ℕ) (text : List ℕ) → c < 128 → IsUtf8 text → IsUtf8 (c ∷ text)
marked_utf8 c text small u =
    IsUtf8-append (c ∷ []) text (IsUtf8-from_ascii (c ∷ []) (IsAscii-cons c [] small IsAscii-nil)) u

pre_utf8 : (p b : List ℕ) (ids : List Id) → IsPreRelease p b ids → IsUtf8 p
pre_utf8 p b ids (dashed x y list is) = marked_utf8 45 x (omega arith) (listed_utf8 x (is_spelled x is.identifiers.runs))
pre_utf8 p b ids (bare x y list is undashed) = listed_utf8 x (is_spelled x is.identifiers.runs)
pre_utf8 p b ids (no_pre_release y none) = IsUtf8-nil

build_utf8 : (b rest : List ℕ) (ids : List Id) → IsBuild b rest ids → IsUtf8 b
build_utf8 b rest ids (plus x y list is) = marked_utf8 43 x (omega arith) (listed_utf8 x (is_spelled x is.identifiers.runs))
build_utf8 b rest ids (no_build y none) = IsUtf8-nil

lists_utf8 : (text pre build : List ℕ) → AreLists text pre build → IsUtf8 text
lists_utf8 text pre build (p, b, split, pre_is, build_is, pre_listed, build_listed) =
    rw split (IsUtf8-append p b (pre_utf8 p b _ pre_is) (build_utf8 b [] _ build_is))

-- ---- the version

-- what is behind a dot
pub first_found : (limit : ℕ) (text : List ℕ) (n : ℕ) (rest : List ℕ) → number_with false limit text ≡ Some (n, rest)
    → NumberAt limit text n rest
unfolding number_with
first_found limit text n rest h =
    let k : number_front limit text ≡ Some (n, rest) = grind arith in number-found limit text n rest k

pub dotted_found : (limit : ℕ) (text : List ℕ) (n : ℕ) (rest : List ℕ) → dotted_with false limit text ≡ Some (n, rest)
    → (x : List ℕ) × (text ≡ 46 ∷ x) × NumberAt limit x n rest
unfolding dotted_with
dotted_found limit text n rest h =
    let (x, dot, number) = bind_some (after_byte 46 text) (λ t. number_with false limit t) (n, rest) h in
    (x, byte-is 46 text x dot, first_found limit x n rest number)

module _ (text r s t pre build : List ℕ) (major minor patch : ℕ) (first : number_with false MAX_SAFE_INTEGER text ≡ Some (major, r))
    (second : dotted_with false MAX_SAFE_INTEGER r ≡ Some (minor, s)) (third : dotted_with false MAX_SAFE_INTEGER s ≡ Some (patch, t))
    (lists : AreLists t pre build) where
  abbrev value : VersionValue
  value = record { major = major; minor = minor; patch = patch; pre_release = listed pre; build = listed build }

  pub common_read : length text ≤ MAX_LENGTH → IsUtf8 text × Parses MAX_SAFE_INTEGER text value × (is_listed pre ≡ true) × (is_listed build ≡ true)
  common_read short =
      let x = first_found MAX_SAFE_INTEGER text major r first in
      let (y', after, y) = dotted_found MAX_SAFE_INTEGER r minor s second in
      let (z', behind, z) = dotted_found MAX_SAFE_INTEGER s patch t third in
      let (p, b, split, pre_is, build_is, pre_listed, build_listed) = lists in
      let whole : text ≡ x.run ++ 46 ∷ (y.run ++ 46 ∷ (z.run ++ (p ++ b))) = cc (x.split, after, y.split, behind, z.split, split) in
      let dotted : (n : List ℕ) (m : List ℕ) → IsUtf8 n → IsUtf8 m → IsUtf8 (n ++ 46 ∷ m) =
      λ n m u w. IsUtf8-append n (46 ∷ m) u (marked_utf8 46 m (omega arith) w) in
      let tail : IsUtf8 (z.run ++ (p ++ b)) =
      IsUtf8-append z.run (p ++ b) (number_utf8 _ z.run _ z.is) (rw split at (lists_utf8 t pre build lists)) in
      let utf8 : IsUtf8 text = rw whole
      (dotted x.run _ (number_utf8 _ x.run _ x.is) (dotted y.run _ (number_utf8 _ y.run _ y.is) tail)) in
      let reads : Reads MAX_SAFE_INTEGER text value = record {
        mark = [];
        blank = [];
        major = x.run;
        minor = y.run;
        patch = z.run;
        pre_release = p;
        build = b;
        rest = [];
        divided = rw (append-nil b) whole;
        mark_is = no_mark;
        blank_is = record { characters = []; each = refl; spelled = refl };
        major_is = x.is;
        minor_is = y.is;
        patch_is = rw (append-nil b) (record { number = z.is; ended = rw split at z.ended });
        pre_release_is = rw (append-nil b) pre_is;
        build_is = build_is;
      } in
      (utf8, record { short = short; reads = reads }, pre_listed, build_listed)

pub common_is : (text rest pre build : List ℕ) (p : Version) → IsReleaseAt text p rest → AreLists rest pre build
    → IsUtf8 text × Parses MAX_SAFE_INTEGER text (record {
      major = p.major;
      minor = p.minor;
      patch = p.patch;
      pre_release = listed pre;
      build = listed build;
    }) × (is_listed pre ≡ true) × (is_listed build ≡ true)
common_is text rest pre build p (short, no_pre, unbuilt, r, s, first, second, third) lists =
    common_read text r s rest pre build p.major p.minor p.patch first second third lists short

-- ---- lists that print as their text

printed : (p : List ℕ) → is_identifier p ≡ true → is_strict_identifier p ≡ true → id_text (identifier_of p) ≡ p
printed p h strict = elim (cases_Bool (is_u64_text p)) [
  | inl fits ↦
      let both = and_parts (list_all is_ascii_digit p) _ fits in
      let some : 0 < length p = grind (arith, nat_tests, h) in
      let first : has_leading_zero p ≡ false = grind (arith, nat_tests, strict, both.0) in
      let small : digits_value 10 p < 2 ^ 64 = grind (arith, nat_tests, both.1) in
      rw fits (digits_printed p both.0 some first small)
  | inr text ↦ rw text refl
]

all_printed : (ps : List (List ℕ)) → list_all is_identifier ps ≡ true → list_all is_strict_identifier ps ≡ true
    → map id_text (map identifier_of ps) ≡ ps
all_printed [] h strict = refl
all_printed (p ∷ ps) h strict =
    let each = and_parts (is_identifier p) (list_all is_identifier ps) h in
    let all = and_parts (is_strict_identifier p) (list_all is_strict_identifier ps) strict in
    rw (printed p each.0 all.0, all_printed ps each.1 all.1) refl

joined : (ids : List Id) → marked_list [] ids ≡ join_with_byte 46 (map id_text ids)
joined [] = refl
joined (x ∷ xs) = refl

pub list_printed : (text : List ℕ) → is_listed text ≡ true → is_strict_list text ≡ true → list_text (listed text) ≡ text
unfolding is_listed listed
list_printed [] h strict = refl
list_printed (c ∷ rest) h strict =
    joined (map identifier_of (pieces (c ∷ rest))) ∙ ap (join_with_byte 46) (all_printed (pieces (c ∷ rest)) h strict)
    ∙ join_with_byte-slice_split 46 (c ∷ rest)

pub nothing_printed : (text : List ℕ) → text ≡ [] → list_text (listed text) ≡ text
unfolding listed
nothing_printed text e = rw e refl
