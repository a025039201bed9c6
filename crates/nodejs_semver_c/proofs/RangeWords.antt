-- Texts of a caret or a tilde and a release: both readings have the same interval of them.
use Rattle.std.proofs.Common.{◌⊎◌, ◌≡◌, ◌-◌, ◌<◌, ◌≤◌, ◌+◌, ◌++◌, ◌∷◌, Bool, List, [], Some, arith, false, inl, inr, length, refl, subst}
use Rattle.std.proofs.Common.{suc, sym, take, true, zero, ℕ}
use Rattle.std.specs.Prelude.{IsUtf8, nat_le}
use Rattle.std.specs.Option.{option_to_list}
use Rattle.nodejs_semver.proofs.Common.{nat_tests}
use Rattle.nodejs_semver.proofs.Everyday.Whole.{common_is_meant}
use Rattle.nodejs_semver.specs.Text.Common.{IsCommonWord, caret_word, one_part, one_word, tilde_word}
use Rattle.nodejs_semver.specs.Text.Meaning.{Means}
use Rattle.nodejs_semver.specs.Text.PartialText.{AreComponents, number, three}
use Rattle.nodejs_semver.specs.Text.PartialText as Port
use Rattle.nodejs_semver.specs.Text.Table.{table}
use Rattle.nodejs_semver.specs.Text.WordText as Word
use Rattle.npm_reading.proofs.Grammar.CommonReads.{common-range, part-of_one, short-three, word-found, word-within, word-zeros}
use Rattle.npm_reading.specs.Internal.Fronts.{AreIn, AreParts, IsSignAt, IsWordAt}
use Rattle.npm_reading.specs.Internal.Fronts as Npm
use Rattle.npm_reading.specs.Ranges.{IsRangeIn}
use Rattle.npm_words.proofs.Grammar.Rows.{from_some, until_common, until_valid}
use Rattle.npm_words.specs.Alternatives.{is_valid}
use Rattle.npm_words.specs.Internal.Meaning.{is_zero}
use Rattle.npm_words.specs.Internal.Parts.{no_build, within}
use Rattle.npm_words.specs.Internal.Words.{limited, places_front}
use Rattle.npm_words.specs.Table as Table
use Rattle.npm_words.specs.Table.{Comparison, Sign, as_written, caret_from, first, next, next_changed, under, unbuilt, whole, written_zeros, zeros}
use Rattle.semver_core.specs.Cuts.{Span, interval, is_interval}
use Rattle.semver_core.specs.Internal.Fronts.{dotted_with, number_with}
use Rattle.semver_core.specs.Printing.Text.{version_text}
use Rattle.semver_core.specs.Text.Comparators.{at_least}
use Rattle.semver_core.specs.Text.Identifiers.{listed}
use Rattle.semver_core.specs.Text.VersionText as Text
use Rattle.semver_core.specs.Values.Order.{precedence}
use Rattle.semver_core.specs.Values.Versions.{IsVersion, VersionValue, lowest, release_value}
use Rattle.semver_core.specs.declared.TheConstants.{MAX_LENGTH, MAX_SAFE_INTEGER}
use Rattle.semver_core.specs.declared.cuts.bound.Bound.TheVariants.{Before}
use Rattle.nodejs_semver_c.proofs.Reading.{dotted_found, first_found, marked_utf8}
use Rattle.nodejs_semver_c.proofs.Releases.{release_read}
use Rattle.nodejs_semver_c.specs.Internal.Common.{IsReleaseAt, IsWordText}
use Rattle.nodejs_semver_c.specs.Kept.{kept_value}
use Rattle.nodejs_semver_c.specs.declared.kept.Version.{Version}

-- from a version on, below another one
abbrev span_to : VersionValue → VersionValue → Span VersionValue
span_to v w = record { lower = Before v; upper = Before w }

-- the end of the range of a caret
abbrev caret_end : ℕ → ℕ → ℕ → ℕ × ℕ × ℕ
caret_end zero zero c = (0, 0, c + 1)
caret_end zero (suc b) c = (0, suc b + 1, 0)
caret_end (suc a) b c = (suc a + 1, 0, 0)

abbrev below_end : VersionValue → ℕ × ℕ × ℕ → Span VersionValue
below_end v n = span_to v (lowest n.0 n.1 n.2)

-- ---- the tables

-- `>=` of a version other than 0.0.0, and `<` of the least pre-release of other numbers
both_in : (include : Bool) (a b c : ℕ) (n : ℕ × ℕ × ℕ) → 0 < a + b + c → within (a, b, c) ≡ true → within n ≡ true
    → nat_le (length (version_text (release_value a b c))) MAX_LENGTH ≡ true
    → AreIn include (unbuilt at_least (release_value a b c) ∷ (under n ∷ [])) (below_end (release_value a b c) n)
both_in include a b c n more w e short =
    let v = release_value a b c in
    let low = unbuilt at_least v in
    let valid : is_valid MAX_SAFE_INTEGER low ≡ true = grind (arith, nat_tests, w, short) in
    let some : is_zero (no_build v) ≡ false = grind (arith, nat_tests, more) in
    let version : IsVersion v = record {
      major = grind (arith, nat_tests, w);
      minor = grind (arith, nat_tests, w);
      patch = grind (arith, nat_tests, w);
      pre_release = grind arith;
      build = grind arith;
    } in
    (until_valid low n valid e, until_common include low (Before v) n e (from_some include false v w refl (inr (inr (version, some)))))

-- with pre-releases included, a caret has another lower bound where the first number is 0
abbrev IsPlain : Bool → ℕ → Type 0
IsPlain include a = (include ≡ false) ⊎ (0 < a)

caret_row : (include : Bool) (z a b c : ℕ) → z ≡ zeros (whole (release_value a b c)) → 0 < a + b + c → IsPlain include a
    → caret_from include z (release_value a b c) ∷ (under (next_changed z (whole (release_value a b c))) ∷ [])
    ≡ unbuilt at_least (release_value a b c) ∷ (under (caret_end a b c) ∷ [])
caret_row include z zero zero c e more plain = grind (arith, nat_tests)
caret_row include z zero (suc b) c e more plain = grind (arith, nat_tests)
caret_row include z (suc a) b c e more plain = grind (arith, nat_tests)

tilde_row : (z a b c : ℕ) → z ≡ zeros (whole (release_value a b c)) → as_written z (whole (release_value a b c)) (unbuilt at_least (release_value a b c))
    ∷ (under (next (whole (release_value a b c))) ∷ []) ≡ unbuilt at_least (release_value a b c) ∷ (under (a, b + 1, 0) ∷ [])
tilde_row z a b c e = grind (arith, nat_tests)

abbrev partial_at : ℕ → ℕ → ℕ → Port.Partial
partial_at a b c = record { major = Some a; minor = Some b; patch = Some c; pre_release = []; build = [] }

port_row : (a b c : ℕ) → table MAX_SAFE_INTEGER (Word.caret (partial_at a b c)) ≡ Some (below_end (release_value a b c) (caret_end a b c))
unfolding table
port_row zero zero c = refl
port_row zero (suc b) c = refl
port_row (suc a) b c = refl

in_order : (a b c : ℕ) → is_interval precedence (below_end (release_value a b c) (caret_end a b c)) ≡ true
in_order zero zero c = grind (arith, nat_tests)
in_order zero (suc b) c = grind (arith, nat_tests)
in_order (suc a) b c = grind (arith, nat_tests)

-- ---- a sign and a release

module _ (rest r s : List ℕ) (a b c : ℕ) (first_is : number_with false MAX_SAFE_INTEGER rest ≡ Some (a, r))
    (second : dotted_with false MAX_SAFE_INTEGER r ≡ Some (b, s)) (third : dotted_with false MAX_SAFE_INTEGER s ≡ Some (c, []))
    (short : length rest ≤ MAX_LENGTH) where
  abbrev v : VersionValue
  v = release_value a b c

  abbrev cut : List ℕ
  cut = take (length rest - length {A = ℕ} []) rest

  read : Some (whole v, []) ≡ limited (places_front false rest)
  read = short-three rest a r (sym first_is) b s (sym second) c [] (sym third) refl

  zeros_are : written_zeros cut ≡ zeros (whole v)
  zeros_are = sym (word-zeros rest (whole v) [] read (zeros (whole v)) refl refl)

  small : within (a, b, c) ≡ true
  small = word-within rest (whole v) [] read

  whole_text : IsUtf8 rest × (nat_le (length (version_text v)) MAX_LENGTH ≡ true)
  unfolding listed
  whole_text =
      let (u, port, npm, printed, pre, build) = release_read rest r s [] a b c first_is second third refl short in
      (u, rw printed (grind (arith, nat_tests)))

  -- npm's strict reading
  in_npm : (include : Bool) (sign : Sign) (signed : List ℕ) (w : VersionValue) → IsUtf8 signed → IsSignAt signed sign rest
      → AreIn include (Table.table include sign (whole v) cut) (span_to v w) → is_interval precedence (span_to v w) ≡ true
      → IsRangeIn false MAX_SAFE_INTEGER include signed (span_to v w ∷ [])
  in_npm include sign signed w u at are ordered =
      let word : IsWordAt include signed (span_to v w) [] = word-found rest (whole v) [] read include signed sign (span_to v w) at are in
      let one : option_to_list (interval precedence (span_to v w)) ≡ span_to v w ∷ [] = rw ordered refl in
      let parts : AreParts include signed (span_to v w ∷ []) = subst (λ (ss : List (Span VersionValue)). AreParts include signed ss) one
      (Npm.one signed (span_to v w) (part-of_one include signed [] (span_to v w) word)) in
      common-range include signed (span_to v w ∷ []) (span_to v w ∷ []) u parts refl

  -- the port's reading
  abbrev partial : Port.Partial
  partial = partial_at a b c

  components : AreComponents MAX_SAFE_INTEGER rest partial
  components =
      let x = first_found MAX_SAFE_INTEGER rest a r first_is in
      let (y', after, y) = dotted_found MAX_SAFE_INTEGER r b s second in
      let (z', behind, z) = dotted_found MAX_SAFE_INTEGER s c [] third in
      let whole_is : rest ≡ x.run ++ 46 ∷ (y.run ++ 46 ∷ (z.run ++ [])) = cc (x.split, after, y.split, behind, z.split) in
      rw whole_is (three x.run y.run z.run [] [] partial (number x.run _ x.is) (number y.run _ y.is) (number z.run _ z.is) (grind arith)
      (Text.no_pre_release [] refl) (Text.no_build [] refl))

  in_port : (signed : List ℕ) (word : Word.Word) (span : Span VersionValue) → IsCommonWord MAX_SAFE_INTEGER signed word
      → table MAX_SAFE_INTEGER word ≡ Some span → Means MAX_SAFE_INTEGER signed (span ∷ [])
  in_port signed word span is row = common_is_meant MAX_SAFE_INTEGER signed (span ∷ []) (one_part signed span (one_word signed word span is row))

  caret_found : (include : Bool) → 0 < a + b + c → IsPlain include a → within (caret_end a b c) ≡ true
      → IsWordText include (94 ∷ rest) (below_end v (caret_end a b c))
  caret_found include more plain fits =
      let u = marked_utf8 94 rest (omega arith) whole_text.0 in
      let end = caret_end a b c in
      let are : AreIn include (Table.table include Table.caret (whole v) cut) (below_end v end) =
      subst (λ (cs : List Comparison). AreIn include cs (below_end v end)) (sym (caret_row include (written_zeros cut) a b c zeros_are more plain))
      (both_in include a b c end more small fits whole_text.1) in (
        u,
        in_port (94 ∷ rest) (Word.caret partial) (below_end v end) (caret_word rest partial components) (port_row a b c),
        in_npm include Table.caret (94 ∷ rest) (lowest end.0 end.1 end.2) u (inl refl) are (in_order a b c),
      )

  tilde_found : (include : Bool) → 0 < a + b + c → b < MAX_SAFE_INTEGER → IsWordText include (126 ∷ rest) (below_end v (a, b + 1, 0))
  unfolding table
  tilde_found include more fits =
      let u = marked_utf8 126 rest (omega arith) whole_text.0 in
      let above : within (a, b + 1, 0) ≡ true = grind (arith, nat_tests, fits, small) in
      let ordered : is_interval precedence (below_end v (a, b + 1, 0)) ≡ true = grind (arith, nat_tests) in
      let are : AreIn include (Table.table include Table.tilde (whole v) cut) (below_end v (a, b + 1, 0)) =
      subst (λ (cs : List Comparison). AreIn include cs (below_end v (a, b + 1, 0))) (sym (tilde_row (written_zeros cut) a b c zeros_are))
      (both_in include a b c (a, b + 1, 0) more small above whole_text.1) in (
        u,
        in_port (126 ∷ rest) (Word.tilde false partial) (below_end v (a, b + 1, 0)) (tilde_word rest partial components) refl,
        in_npm include Table.tilde (126 ∷ rest) (lowest a (b + 1) 0) u (inl refl) are ordered,
      )

-- ---- as the code has them

caret_fits : (a b c : ℕ) → a < MAX_SAFE_INTEGER → b < MAX_SAFE_INTEGER → c < MAX_SAFE_INTEGER → within (caret_end a b c) ≡ true
caret_fits zero zero c h k l = grind (arith, nat_tests)
caret_fits zero (suc b) c h k l = grind (arith, nat_tests)
caret_fits (suc a) b c h k l = grind (arith, nat_tests)

abbrev IsCommonRelease : List ℕ → Version → Type 0
IsCommonRelease text p = IsReleaseAt text p [] × (0 < p.major + p.minor + p.patch)
    × ((p.major < MAX_SAFE_INTEGER) × (p.minor < MAX_SAFE_INTEGER) × (p.patch < MAX_SAFE_INTEGER))

caret_text : (include : Bool) (text : List ℕ) (p : Version) → IsCommonRelease text p → IsPlain include p.major
    → IsWordText include (94 ∷ text) (below_end (kept_value p) (caret_end p.major p.minor p.patch))
unfolding listed
caret_text include text p ((short, no_pre, unbuilt_is, r, s, x, y, z), more, (h, k, l)) plain =
    rw (no_pre, unbuilt_is) (caret_found text r s p.major p.minor p.patch x y z short include more plain (caret_fits p.major p.minor p.patch h k l))

end_major : (a b c : ℕ) → 0 < a → caret_end a b c ≡ (a + 1, 0, 0)
end_major zero b c h = absurd (omega (arith, h))
end_major (suc a) b c h = refl

end_minor : (a b c : ℕ) → a ≡ 0 → 0 < b → caret_end a b c ≡ (0, b + 1, 0)
end_minor a zero c e h = absurd (omega (arith, h))
end_minor a (suc b) c e h = rw e refl

end_patch : (a b c : ℕ) → a ≡ 0 → b ≡ 0 → caret_end a b c ≡ (0, 0, c + 1)
end_patch a b c e f = rw (e, f) refl

ends_at : (include : Bool) (text : List ℕ) (p : Version) (n : ℕ × ℕ × ℕ) → IsCommonRelease text p → IsPlain include p.major
    → caret_end p.major p.minor p.patch ≡ n → IsWordText include (94 ∷ text) (below_end (kept_value p) n)
ends_at include text p n is plain e =
    subst (λ (n : ℕ × ℕ × ℕ). IsWordText include (94 ∷ text) (below_end (kept_value p) n)) e (caret_text include text p is plain)

pub caret_major : (include : Bool) (text : List ℕ) (p : Version) → IsCommonRelease text p → 0 < p.major
    → IsWordText include (94 ∷ text) (span_to (kept_value p) (lowest (p.major + 1) 0 0))
caret_major include text p is h = ends_at include text p (p.major + 1, 0, 0) is (inr h) (end_major p.major p.minor p.patch h)

pub caret_minor : (include : Bool) (text : List ℕ) (p : Version) → IsCommonRelease text p → include ≡ false → p.major ≡ 0 → 0 < p.minor
    → IsWordText include (94 ∷ text) (span_to (kept_value p) (lowest 0 (p.minor + 1) 0))
caret_minor include text p is without e h = ends_at include text p (0, p.minor + 1, 0) is (inl without) (end_minor p.major p.minor p.patch e h)

pub caret_patch : (include : Bool) (text : List ℕ) (p : Version) → IsCommonRelease text p → include ≡ false → p.major ≡ 0 → p.minor ≡ 0
    → IsWordText include (94 ∷ text) (span_to (kept_value p) (lowest 0 0 (p.patch + 1)))
caret_patch include text p is without e f = ends_at include text p (0, 0, p.patch + 1) is (inl without) (end_patch p.major p.minor p.patch e f)

pub tilde_text : (include : Bool) (text : List ℕ) (p : Version) → IsCommonRelease text p
    → IsWordText include (126 ∷ text) (span_to (kept_value p) (lowest p.major (p.minor + 1) 0))
unfolding listed
tilde_text include text p ((short, no_pre, unbuilt_is, r, s, x, y, z), more, (h, k, l)) =
    rw (no_pre, unbuilt_is) (tilde_found text r s p.major p.minor p.patch x y z short include more k)
