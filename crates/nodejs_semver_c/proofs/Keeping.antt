-- What is kept of a version that was read: the identifiers of a text are spelled by their own texts.
use Rattle.std.proofs.Common.{◌≡◌, ◌<◌, ◌≤◌, ◌+◌, ◌-◌, ◌^◌, ◌++◌, ◌∷◌, ◌∙◌, List, [], Bool, Option, Some, None, arith, inl, inr, length}
use Rattle.std.proofs.Common.{false, length-append, map, min, refl, sym, true, ℕ}
use Rattle.std.specs.List.{list_all}
use Rattle.std.specs.Prelude.{IsSomeAnd, IsUtf8}
use Rattle.semver_core.proofs.Normal.{identifiers-normal}
use Rattle.semver_core.proofs.Printing.Returns.{joined_is}
use Rattle.semver_core.proofs.Text.Ends.{is_spelled, nothing_listed, nothing_spelled}
use Rattle.semver_core.specs.Printing.RoundTrip.{is_normal}
use Rattle.semver_core.specs.Printing.Text.{marked_list}
use Rattle.semver_core.specs.Text.Identifiers.{Id, identifier_of, is_identifier, is_listed, listed, pieces}
use Rattle.semver_core.specs.Text.VersionText as port
use Rattle.semver_core.specs.Values.Versions.{VersionValue}
use Rattle.semver_core.specs.declared.TheConstants.{MAX_SAFE_INTEGER}
use Rattle.npm_words.specs.Grammar as npm
use Rattle.npm_words.specs.VersionText.{IsVersionTextIn}
use Rattle.nodejs_semver_c.proofs.Putting.{put_first}
use Rattle.nodejs_semver_c.specs.Internal.Pieces.{Adds}
use Rattle.nodejs_semver_c.specs.Kept.{ComesBack, PutsVersion, kept_texts, kept_value, list_text, parts_of}
use Rattle.nodejs_semver_c.specs.Readings.{Spells}
use Rattle.nodejs_semver_c.specs.declared.kept.Parts.{Parts}
use Rattle.nodejs_semver_c.specs.declared.kept.Version.{Version}
use Rattle.nodejs_semver_c.specs.declared.read.Grammar.{Grammar}
use Rattle.nodejs_semver_c.specs.declared.read.Grammar.TheVariants.{Npm, Port}

-- what a text spells
spelled : (s : List ℕ) → list_all is_identifier (pieces s) ≡ true → listed s ≡ map identifier_of (pieces s)
unfolding listed
spelled [] h = cc
spelled (c ∷ rest) h = refl

pub list_kept : (ids : List Id) → list_all is_normal ids ≡ true
    → (is_listed (marked_list [] ids) ≡ true) × (listed (marked_list [] ids) ≡ ids)
list_kept [] h = (nothing_listed, nothing_spelled)
list_kept (x ∷ xs) h =
    let joined = joined_is x xs h in
    (is_spelled (marked_list [] (x ∷ xs)) joined.runs, spelled (marked_list [] (x ∷ xs)) joined.runs ∙ sym joined.spelled)

-- the identifiers of versions that are read
pre_normal : (text rest : List ℕ) (ids : List Id) → port.IsPreRelease text rest ids → list_all is_normal ids ≡ true
pre_normal text rest ids (port.dashed x y list is) = identifiers-normal x ids is.identifiers
pre_normal text rest ids (port.bare x y list is undashed) = identifiers-normal text ids is.identifiers
pre_normal text rest ids (port.no_pre_release y none) = refl

build_normal : (text rest : List ℕ) (ids : List Id) → port.IsBuild text rest ids → list_all is_normal ids ≡ true
build_normal text rest ids (port.plus x y list is) = identifiers-normal x ids is.identifiers
build_normal text rest ids (port.no_build y none) = refl

npm_pre_normal : (loose wild : Bool) (fits : List ℕ → Bool) (text : List ℕ) (ids : List Id)
    → npm.IsPreRelease loose wild fits text ids → list_all is_normal ids ≡ true
npm_pre_normal loose wild fits text ids npm.no_pre_release = refl
npm_pre_normal loose wild fits text ids (npm.dashed x list is fit) = identifiers-normal x ids is
npm_pre_normal loose wild fits text ids (npm.bare x list is fit undashed) = identifiers-normal text ids is

npm_build_normal : (text : List ℕ) (ids : List Id) → npm.IsStrictBuild text ids → list_all is_normal ids ≡ true
npm_build_normal text ids npm.no_build = refl
npm_build_normal text ids (npm.plus x list is) = identifiers-normal x ids is

npm_normal : (loose : Bool) (text : List ℕ) (v : VersionValue) → IsVersionTextIn loose MAX_SAFE_INTEGER text v
    → (list_all is_normal v.pre_release ≡ true) × (list_all is_normal v.build ≡ true)
npm_normal false text v (short, middle, trimmed, npm.written mark x y z pre build w m a b c p q) =
    (npm_pre_normal _ _ _ pre _ p, npm_build_normal build _ q)
npm_normal true text v (short, middle, trimmed, npm.written mark x y z pre build w m a b c p q) =
    (npm_pre_normal _ _ _ pre _ p, npm_build_normal build _ q)

spelled_normal : (by : Grammar) (text : List ℕ) (v : VersionValue) → Spells by text v
    → (list_all is_normal v.pre_release ≡ true) × (list_all is_normal v.build ≡ true)
spelled_normal Port text v parsed =
    (pre_normal _ _ _ parsed.reads.pre_release_is, build_normal _ _ _ parsed.reads.build_is)
spelled_normal (Npm loose) text v is = npm_normal loose text v is

pub read_back : (by : Option Grammar) (bytes : List ℕ) (v : VersionValue) → IsSomeAnd by (λ g. IsUtf8 bytes × Spells g bytes v)
    → ComesBack v
read_back None bytes v h = absurd h
read_back (Some by) bytes v h =
    let normal = spelled_normal by bytes v h.1 in
    let pre = list_kept v.pre_release normal.0 in
    let build = list_kept v.build normal.1 in
    (pre.0, pre.1, build.0, build.1)

-- what is told where the texts fit into memory: their lengths, and whether the buffer has room
pub fits_memory : (text : List ℕ) (needed : ℕ) → needed ≡ min (length text) (2 ^ 64 - 1) → needed < 2 ^ 63 → length text < 2 ^ 63
fits_memory text needed e small = grind (arith, e, small)

counted_part : (text whole : List ℕ) (n : ℕ) → n ≡ min (length text) (2 ^ 64 - 1) → length text ≤ length whole → length whole < 2 ^ 63
    → n ≡ length text
counted_part text whole n e le small = grind (arith, e, le, small)

counted_whole : (text : List ℕ) (needed : ℕ) → needed ≡ min (length text) (2 ^ 64 - 1) → needed < 2 ^ 63 → length text ≡ needed
counted_whole text needed e small = grind (arith, e, small)

module _ (v : VersionValue) (pre build : List Id) where
  pub parts_counted : (M m p a b : ℕ) → M ≡ v.major → m ≡ v.minor → p ≡ v.patch → pre ≡ v.pre_release → build ≡ v.build
      → a ≡ min (length (list_text pre)) (2 ^ 64 - 1) → b ≡ min (length (list_text build)) (2 ^ 64 - 1)
      → length (kept_texts v) < 2 ^ 63
      → (record { major = M; minor = m; patch = p; pre_release_len = a; build_len = b }) ≡ parts_of v
  parts_counted M m p a b eM em ep epre ebuild ea eb small =
      let joined = length-append (list_text v.pre_release) (list_text v.build) in
      let ea' : a ≡ min (length (list_text v.pre_release)) (2 ^ 64 - 1) = rw epre at ea in
      let eb' : b ≡ min (length (list_text v.build)) (2 ^ 64 - 1) = rw ebuild at eb in
      let first = counted_part (list_text v.pre_release) (kept_texts v) a ea' (omega (arith, joined)) small in
      let second = counted_part (list_text v.build) (kept_texts v) b eb' (omega (arith, joined)) small in
      rw (eM, em, ep, first, second) refl

  pub version_told : (was now : Parts) (old new : List ℕ) (needed end : ℕ) → now ≡ parts_of v → pre ≡ v.pre_release → build ≡ v.build
      → needed ≡ min (length (list_text pre ++ list_text build)) (2 ^ 64 - 1) → needed < 2 ^ 63 → needed ≤ length old
      → Adds (list_text pre ++ list_text build) old new 0 end → PutsVersion v was now old new 0
  version_told was now old new needed end told epre ebuild en small le adds =
      let counted : length (kept_texts v) ≡ needed = counted_whole (kept_texts v) needed (rw (epre, ebuild) at en) small in
      let added : Adds (kept_texts v) old new 0 end = rw (epre, ebuild) at adds in
      let front = (put_first (kept_texts v) old new end added).front (omega (arith, counted, le)) (omega (arith, counted, small)) in
      inl (told, (refl, inl (refl, front)))

  pub version_short : (was now : Parts) (old new : List ℕ) (needed : ℕ) → now ≡ parts_of v → pre ≡ v.pre_release → build ≡ v.build
      → needed ≡ min (length (list_text pre ++ list_text build)) (2 ^ 64 - 1) → needed < 2 ^ 63 → length old < needed
      → new ≡ old → PutsVersion v was now old new 2
  version_short was now old new needed told epre ebuild en small lt kept =
      let counted : length (kept_texts v) ≡ needed = counted_whole (kept_texts v) needed (rw (epre, ebuild) at en) small in
      inl (told, (refl, inr (refl, omega (arith, counted, lt), kept)))

-- what is counted of both texts, one by one
pub both_counted : (x y : List ℕ) (a b n : ℕ) → a ≡ min (length x) (2 ^ 64 - 1) → b ≡ min (length y) (2 ^ 64 - 1)
    → n ≡ min (a + b) (2 ^ 64 - 1) → n ≡ min (length (x ++ y)) (2 ^ 64 - 1)
both_counted x y a b n ea eb e = grind (arith, length-append, ea, eb, e)

-- a version whose lists print as their texts
module _ (p : Version) (pre : list_text (listed p.pre_release.now) ≡ p.pre_release.now)
    (build : list_text (listed p.build.now) ≡ p.build.now) where
  pub printed_told : (was : Parts) (old new : List ℕ) (needed end : ℕ)
      → needed ≡ min (length p.pre_release.now + length p.build.now) (2 ^ 64 - 1) → needed < 2 ^ 63 → needed ≤ length old
      → Adds (p.pre_release.now ++ p.build.now) old new 0 end
      → PutsVersion (kept_value p) was (record {
        major = p.major;
        minor = p.minor;
        patch = p.patch;
        pre_release_len = length p.pre_release.now;
        build_len = length p.build.now;
      }) old new 0
  printed_told was old new needed end en small le adds =
      let whole = length-append p.pre_release.now p.build.now in
      let count : needed ≡ length (p.pre_release.now ++ p.build.now) = grind (arith, en, small, whole) in
      let front = (put_first (p.pre_release.now ++ p.build.now) old new end adds).front (omega (arith, count, le)) (omega (arith, count, small)) in
      rw (pre, build) (inl (refl, (refl, inl (refl, front))))
