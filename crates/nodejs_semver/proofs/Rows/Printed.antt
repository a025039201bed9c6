-- Worked rows, computed: how ranges print, and which of them come back.
use Rattle.nodejs_semver.proofs.Common.{After, AlphaNumeric, Before, Bound, Id, List, Numeric, Span, Unbounded, VersionValue, [], after_spaces, codes}
use Rattle.nodejs_semver.proofs.Common.{component_front, cut_bars, denotes, drop_end_spaces, from_boundary, is_boundary, list_len, lowest}
use Rattle.nodejs_semver.proofs.Common.{partial_front, range_text, refl, release_value, runs_from, space_len, table, word_at, words_within, ℕ, ◌∷◌}
use Rattle.{nodejs_semver.proofs.Common.◌≡◌, semver_core.specs.Internal.Fronts.{build_front, dotted_front, number_of, pre_release_front}}
use Rattle.{semver_core.specs.Text.Identifiers.listed, std.specs.Fmt.digits}

-- M.m.p with these lists
version : ℕ → ℕ → ℕ → List Id → List Id → VersionValue
version major minor patch pre_release build = record { major = major; minor = minor; patch = patch; pre_release = pre_release; build = build }

-- what stands between two bounds
abbrev between : Bound VersionValue → Bound VersionValue → Span VersionValue
between lower upper = record { lower = lower; upper = upper }

rows-prints :
    -- two bounds, and nothing printed for an end that is open
    (range_text (between (Before (version 1 2 3 (Numeric 0 ∷ []) (AlphaNumeric (codes "a") ∷ []))) (Before (release_value 2 0 0)) ∷ []) ≡ codes ">=1.2.3-0+a <2.0.0")
    -- two intervals, of one bound each
    × (range_text (between Unbounded (After (release_value 1 0 0)) ∷ between (After (release_value 2 0 0)) Unbounded ∷ []) ≡ codes "<=1.0.0||>2.0.0")
    -- no bounds
    × (range_text (between Unbounded Unbounded ∷ []) ≡ codes "*")
    -- two bounds that tie print as the lower one, with its build
    × (range_text (between (Before (version 1 2 3 [] (AlphaNumeric (codes "a") ∷ []))) (After (version 1 2 3 [] (AlphaNumeric (codes "b") ∷ []))) ∷ []) ≡ codes "1.2.3+a")
unfolding digits version
rows-prints = (refl, refl, refl, refl)

rows-reads :
    -- and the build of the upper one is lost
    (denotes 9007199254740991 (codes "1.2.3+a") ≡ between (Before (version 1 2 3 [] (AlphaNumeric (codes "a") ∷ []))) (After (version 1 2 3 [] (AlphaNumeric (codes "a") ∷ []))) ∷ [])
    -- `*` does not come back
    × (denotes 9007199254740991 (codes "*") ≡ between (Before (release_value 0 0 0)) Unbounded ∷ [])
    -- nor does a number above the limit
    × (denotes 9007199254740991 (range_text (between (Before (release_value 9007199254740992 0 0)) Unbounded ∷ [])) ≡ [])
    -- an identifier of dashes does
    × (denotes 9007199254740991 (codes ">1.0.0--.x <=1.0.0") ≡ between (After (version 1 0 0 (AlphaNumeric (codes "-") ∷ AlphaNumeric (codes "x") ∷ []) [])) (After (release_value 1 0 0)) ∷ [])
    -- a range with the number after the limit prints two bounds, and the second one is skipped when they are read again
    × (denotes 9007199254740991 (codes "^9007199254740991") ≡ between (Before (release_value 9007199254740991 0 0)) (Before (lowest 9007199254740992 0 0)) ∷ [])
    -- so that it is read wider
    × (denotes 9007199254740991 (codes ">=9007199254740991.0.0 <9007199254740992.0.0-0") ≡ between (Before (release_value 9007199254740991 0 0)) Unbounded ∷ [])
unfolding table is_boundary number_of space_len after_spaces drop_end_spaces cut_bars partial_front component_front dotted_front
    pre_release_front build_front list_len listed word_at words_within from_boundary runs_from version digits
rows-reads = (refl, refl, refl, refl, refl, refl)
