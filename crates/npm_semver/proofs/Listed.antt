-- Texts that are read one after another.
use Rattle.{npm_reading.specs.Ranges.IsRangeIn, npm_semver.specs.{Internal.Readings.{AreRead, IsRead, says}, Listing.{AllSay, AreListed, Entry, IsGiven}}}
use Rattle.npm_semver.specs.{Listing.{Says, accepted, no_range, no_version, range, rejected}, Readings.{HasRange, IsVersionIn}}
use Rattle.{npm_semver.specs.declared.reading.ReadOptions.ReadOptions, semver_core.specs.{Cuts.Span, Failures.NoValue}}
use Rattle.{semver_core.specs.{Values.Versions.VersionValue, declared.TheConstants.MAX_SAFE_INTEGER}, std.proofs.Common.{Bool, IfNone, IfSome, List}}
use Rattle.std.{proofs.Common.{None, Option, Some, [], false, true, ℕ, ◌++◌, ◌∷◌, ◌≡◌}, specs.List.list_all}
use Rattle.npm_reading.proofs.Grammar.Intervals.{range_accepts}
use Rattle.npm_semver.specs.Listing as Listing
use Rattle.npm_semver.specs.Internal.Readings as Readings

one_says : (r : ReadOptions) (v : VersionValue) (text : List ℕ) (read : Option (List (Span VersionValue))) → IsRead r text read
    → Says r v text (says r.include_prerelease v read)
one_says r v text (Some read) is = rw (range_accepts _ _ _ _ _ is v) (range text is.alternatives is.has)
one_says r v text None is = no_range text is

-- all range texts accept a version exactly if all ranges do
pub all_say : (r : ReadOptions) (v : VersionValue) (texts : List (List ℕ)) (ranges : List (Option (List (Span VersionValue))))
    → AreRead r texts ranges → AllSay r v texts (list_all (says r.include_prerelease v) ranges)
all_say r v texts ranges Readings.none = Listing.none
all_say r v texts ranges (Readings.more text rest read others is are) =
    Listing.more text rest _ _ (one_says r v text read is) (all_say r v rest others are)

pub read_more : (r : ReadOptions) (texts : List (List ℕ)) (ranges : List (Option (List (Span VersionValue)))) (text : List ℕ)
    (read : Option (List (Span VersionValue))) → AreRead r texts ranges → IsRead r text read
    → AreRead r (texts ++ text ∷ []) (ranges ++ read ∷ [])
read_more r texts ranges text read Readings.none is = Readings.more text [] read [] is Readings.none
read_more r texts ranges text read (Readings.more t ts u us i are) is = Readings.more t _ u _ i (read_more r ts us text read are is)

module _ (r : ReadOptions) (ranges : List (List ℕ)) where
  -- one more text: no version, a version that some range does not accept, and one that all ranges accept
  pub no_more : (texts : List (List ℕ)) (es : List Entry) (text : List ℕ) → AreListed r ranges texts es → NoValue (IsVersionIn r text)
      → AreListed r ranges (texts ++ text ∷ []) es
  no_more texts es text Listing.none lacks = no_version text [] [] lacks Listing.none
  no_more texts es text (no_version t ts ds n are) lacks = no_version t _ _ n (no_more ts ds text are lacks)
  no_more texts es text (rejected t ts w ds is say are) lacks = rejected t _ w _ is say (no_more ts ds text are lacks)
  no_more texts es text (accepted t m ts w ds is say trim are) lacks = accepted t m _ w _ is say trim (no_more ts ds text are lacks)

  pub dropped_more : (texts : List (List ℕ)) (es : List Entry) (text : List ℕ) (v : VersionValue) (b : Bool) → b ≡ false
      → AreListed r ranges texts es → IsVersionIn r text v → AllSay r v ranges b → AreListed r ranges (texts ++ text ∷ []) es
  dropped_more texts es text v b e Listing.none is say = rejected text [] v [] is (rw e at say) Listing.none
  dropped_more texts es text v b e (no_version t ts ds n are) is say = no_version t _ _ n (dropped_more ts ds text v b e are is say)
  dropped_more texts es text v b e (rejected t ts w ds i s are) is say = rejected t _ w _ i s (dropped_more ts ds text v b e are is say)
  dropped_more texts es text v b e (accepted t m ts w ds i s c are) is say = accepted t m _ w _ i s c (dropped_more ts ds text v b e are is say)

  pub kept_more : (texts : List (List ℕ)) (es : List Entry) (text middle : List ℕ) (v : VersionValue) (b : Bool) → b ≡ true
      → AreListed r ranges texts es → IsVersionIn r text v → AllSay r v ranges b → IsGiven r text middle
      → AreListed r ranges (texts ++ text ∷ []) (es ++ record { version = v; text = middle } ∷ [])
  kept_more texts es text middle v b e Listing.none is say trim = accepted text middle [] v [] is (rw e at say) trim Listing.none
  kept_more texts es text middle v b e (no_version t ts ds n are) is say trim =
      no_version t _ _ n (kept_more ts ds text middle v b e are is say trim)
  kept_more texts es text middle v b e (rejected t ts w ds i s are) is say trim =
      rejected t _ w _ i s (kept_more ts ds text middle v b e are is say trim)
  kept_more texts es text middle v b e (accepted t m ts w ds i s c are) is say trim =
      accepted t m _ w _ i s c (kept_more ts ds text middle v b e are is say trim)

-- what a text is read as
pub is_read : (r : ReadOptions) (text : List ℕ) (read : Option (List (Span VersionValue))) → IfSome read (IsRangeIn r.is_loose MAX_SAFE_INTEGER r.include_prerelease text)
    → IfNone read (NoValue (HasRange r text)) → IsRead r text read
is_read r text (Some read) some_is none_is = some_is
is_read r text None some_is none_is = none_is
