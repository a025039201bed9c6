-- One more text that is read.
use Rattle.npm_reading.specs.Ranges.{IsRangeIn}
use Rattle.npm_semver.proofs.Listed.{dropped_more, kept_more, no_more, read_more}
use Rattle.npm_semver.proofs.ToldOf.{accepted_more, no_range_more, no_version_more, range_more, rejected_more}
use Rattle.npm_semver.specs.Internal.Texts.{AreTexts}
use Rattle.npm_semver.specs.Listing.{AllSay, AreListed, Entry, IsGiven}
use Rattle.npm_semver.specs.Readings.{HasRange, IsVersionIn, part_by}
use Rattle.npm_semver.specs.Reasons.{AreLeftOut, Told, lacking_in}
use Rattle.npm_semver.specs.declared.reading.ReadOptions.{ReadOptions}
use Rattle.npm_semver.specs.declared.why.Kind.TheVariants.{NoRange, NotAccepted}
use Rattle.semver_core.specs.Cuts.{Span}
use Rattle.semver_core.specs.Failures.{NoValue}
use Rattle.semver_core.specs.Lists.{is_empty}
use Rattle.semver_core.specs.Values.Versions.{VersionValue}
use Rattle.semver_core.specs.declared.TheConstants.{MAX_SAFE_INTEGER}
use Rattle.std.proofs.Common.{◌≡◌, ◌++◌, ◌∷◌, [], ℕ, Bool, List, None, Option, Some, ap, false, refl, true, unwrap_or}
use Rattle.npm_semver.specs.Internal.Readings as Readings
use Rattle.npm_semver.specs.Listing as Listing
use Rattle.npm_semver.specs.Reasons as Reasons

filled : (es : List Entry) (e : Entry) → is_empty (es ++ e ∷ []) ≡ false
filled [] e = refl
filled (d ∷ es) e = refl

never_empty : (texts : List (List ℕ)) (text : List ℕ) → texts ++ text ∷ [] ≡ [] → ⊥
never_empty [] text e = cc
never_empty (t ∷ texts) text e = cc

-- without ranges none rejects
none_rejects : (r : ReadOptions) (v : VersionValue) (ranges : List (List ℕ)) (b : Bool) → ranges ≡ [] → AllSay r v ranges b → b ≡ true
none_rejects r v ranges b e Listing.none = refl
none_rejects r v ranges b e (Listing.more text rest c d is are) = cc

none_listed : (r : ReadOptions) (ranges others : List (List ℕ)) (es : List Entry) → AreListed r ranges [] es → AreListed r others [] es
none_listed r ranges others es Listing.none = Listing.none

none_left : (r : ReadOptions) (ranges others : List (List ℕ)) (told : List Told) → AreLeftOut r ranges [] told → AreLeftOut r others [] told
none_left r ranges others told Reasons.none = Reasons.none

pub no_texts : (r : ReadOptions) → AreTexts r [] [] [] [] [] [] false
no_texts r = record {
  ranges_are = Readings.none;
  no_ranges_are = Reasons.AreNoRanges.none;
  listed = Listing.none;
  left = Reasons.AreLeftOut.none;
  found = [];
  found_are = Listing.none;
  some_are = refl;
  all_are = λ none. refl;
}

module _ (r : ReadOptions) (ranges : List (List ℕ)) (read : List (Option (List (Span VersionValue)))) (no : List Told) (es : List Entry) (told : List Told) (has : Bool) where
  pub range_added : (text : List ℕ) (range : List (Span VersionValue)) → AreTexts r ranges [] read no es told has
      → IsRangeIn r.is_loose MAX_SAFE_INTEGER r.include_prerelease text range
      → AreTexts r (ranges ++ text ∷ []) [] (read ++ Some range ∷ []) no es told has
  range_added text range h is = record {
    ranges_are = read_more r ranges read text (Some range) h.ranges_are is;
    no_ranges_are = range_more r ranges no text is.alternatives h.no_ranges_are is.has;
    listed = none_listed r ranges (ranges ++ text ∷ []) es h.listed;
    left = none_left r ranges (ranges ++ text ∷ []) told h.left;
    found = h.found;
    found_are = h.found_are;
    some_are = h.some_are;
    all_are = λ none. absurd (never_empty ranges text none);
  }

  pub no_range_added : (text : List ℕ) → AreTexts r ranges [] read no es told has → NoValue (HasRange r text)
      → AreTexts r (ranges ++ text ∷ []) [] (read ++ None ∷ []) (no ++ record { text = text; kind = NoRange } ∷ []) es told has
  no_range_added text h lacks = record {
    ranges_are = read_more r ranges read text None h.ranges_are lacks;
    no_ranges_are = no_range_more r ranges no text h.no_ranges_are lacks;
    listed = none_listed r ranges (ranges ++ text ∷ []) es h.listed;
    left = none_left r ranges (ranges ++ text ∷ []) told h.left;
    found = h.found;
    found_are = h.found_are;
    some_are = h.some_are;
    all_are = λ none. absurd (never_empty ranges text none);
  }

module _ (r : ReadOptions) (ranges texts : List (List ℕ)) (read : List (Option (List (Span VersionValue)))) (no : List Told) (es : List Entry) (told : List Told) (has : Bool) where
  pub no_version_added : (text : List ℕ) → AreTexts r ranges texts read no es told has → NoValue (IsVersionIn r text)
      → AreTexts r ranges (texts ++ text ∷ []) read no es (told ++ lacking_in r text ∷ []) has
  no_version_added text h lacks = record {
    ranges_are = h.ranges_are;
    no_ranges_are = h.no_ranges_are;
    listed = no_more r ranges texts es text h.listed lacks;
    left = no_version_more r ranges texts told text h.left lacks;
    found = h.found;
    found_are = no_more r [] texts h.found text h.found_are lacks;
    some_are = h.some_are;
    all_are = h.all_are;
  }

  pub rejected_added : (text middle : List ℕ) (v : VersionValue) (b : Bool) → b ≡ false → AreTexts r ranges texts read no es told has
      → IsVersionIn r text v → AllSay r v ranges b → IsGiven r text middle
      → AreTexts r ranges (texts ++ text ∷ []) read no es (told ++ record { text = unwrap_or (part_by r.field text) text; kind = NotAccepted } ∷ []) true
  rejected_added text middle v b e h is say trim = record {
    ranges_are = h.ranges_are;
    no_ranges_are = h.no_ranges_are;
    listed = dropped_more r ranges texts es text v b e h.listed is say;
    left = rejected_more r ranges texts told text v b e h.left is say;
    found = h.found ++ record { version = v; text = middle } ∷ [];
    found_are = kept_more r [] texts h.found text middle v true refl h.found_are is Listing.none trim;
    some_are = filled h.found _;
    all_are = λ none. let accepts = none_rejects r v ranges b none say in absurd (cc);
  }

  pub accepted_added : (text middle : List ℕ) (v : VersionValue) (b : Bool) → b ≡ true → AreTexts r ranges texts read no es told has
      → IsVersionIn r text v → AllSay r v ranges b → IsGiven r text middle
      → AreTexts r ranges (texts ++ text ∷ []) read no (es ++ record { version = v; text = middle } ∷ []) told true
  accepted_added text middle v b e h is say trim = record {
    ranges_are = h.ranges_are;
    no_ranges_are = h.no_ranges_are;
    listed = kept_more r ranges texts es text middle v b e h.listed is say trim;
    left = accepted_more r ranges texts told text v b e h.left is say;
    found = h.found ++ record { version = v; text = middle } ∷ [];
    found_are = kept_more r [] texts h.found text middle v true refl h.found_are is Listing.none trim;
    some_are = filled h.found _;
    all_are = λ none. ap (λ (l : List Entry). l ++ record { version = v; text = middle } ∷ []) (h.all_are none);
  }
