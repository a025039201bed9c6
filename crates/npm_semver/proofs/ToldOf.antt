-- Texts that are told of, one after another.
use Rattle.npm_semver.specs.{Listing.AllSay, Readings.{HasRange, IsVersionIn, part_by}, Reasons.{AreLeftOut, AreNoRanges, Told, lacking_in}}
use Rattle.npm_semver.specs.declared.{reading.ReadOptions.ReadOptions, why.Kind.TheVariants.{NoRange, NotAccepted}}
use Rattle.{npm_words.specs.Table.Comparison, semver_core.specs.{Failures.NoValue, Values.Versions.VersionValue}, std.proofs.Common.{Bool, List, []}}
use Rattle.std.proofs.Common.{false, true, unwrap_or, ℕ, ◌++◌, ◌∷◌, ◌≡◌}
use Rattle.npm_semver.specs.Reasons as Reasons

module _ (r : ReadOptions) where
  pub range_more : (texts : List (List ℕ)) (told : List Told) (text : List ℕ) (alternatives : List (List Comparison)) → AreNoRanges r texts told
      → HasRange r text alternatives → AreNoRanges r (texts ++ text ∷ []) told
  range_more texts told text alternatives Reasons.none is = Reasons.range text [] alternatives [] is Reasons.none
  range_more texts told text alternatives (Reasons.range t ts a us has are) is = Reasons.range t _ a us has (range_more ts us text alternatives are is)
  range_more texts told text alternatives (Reasons.no_range t ts us lacks are) is = Reasons.no_range t _ us lacks (range_more ts us text alternatives are is)

  pub no_range_more : (texts : List (List ℕ)) (told : List Told) (text : List ℕ) → AreNoRanges r texts told → NoValue (HasRange r text)
      → AreNoRanges r (texts ++ text ∷ []) (told ++ record { text = text; kind = NoRange } ∷ [])
  no_range_more texts told text Reasons.none is = Reasons.no_range text [] [] is Reasons.none
  no_range_more texts told text (Reasons.range t ts a us has are) is = Reasons.range t _ a _ has (no_range_more ts us text are is)
  no_range_more texts told text (Reasons.no_range t ts us lacks are) is = Reasons.no_range t _ _ lacks (no_range_more ts us text are is)

module _ (r : ReadOptions) (ranges : List (List ℕ)) where
  pub no_version_more : (texts : List (List ℕ)) (told : List Told) (text : List ℕ) → AreLeftOut r ranges texts told → NoValue (IsVersionIn r text)
      → AreLeftOut r ranges (texts ++ text ∷ []) (told ++ lacking_in r text ∷ [])
  no_version_more texts told text Reasons.none is = Reasons.no_version text [] [] is Reasons.none
  no_version_more texts told text (Reasons.accepted t ts v us i s are) is = Reasons.accepted t _ v _ i s (no_version_more ts us text are is)
  no_version_more texts told text (Reasons.rejected t ts v us i s are) is = Reasons.rejected t _ v _ i s (no_version_more ts us text are is)
  no_version_more texts told text (Reasons.no_version t ts us n are) is = Reasons.no_version t _ _ n (no_version_more ts us text are is)

  pub accepted_more : (texts : List (List ℕ)) (told : List Told) (text : List ℕ) (v : VersionValue) (b : Bool) → b ≡ true
      → AreLeftOut r ranges texts told → IsVersionIn r text v → AllSay r v ranges b → AreLeftOut r ranges (texts ++ text ∷ []) told
  accepted_more texts told text v b e Reasons.none is say = Reasons.accepted text [] v [] is (rw e at say) Reasons.none
  accepted_more texts told text v b e (Reasons.accepted t ts w us i s are) is say = Reasons.accepted t _ w _ i s (accepted_more ts us text v b e are is say)
  accepted_more texts told text v b e (Reasons.rejected t ts w us i s are) is say = Reasons.rejected t _ w _ i s (accepted_more ts us text v b e are is say)
  accepted_more texts told text v b e (Reasons.no_version t ts us n are) is say = Reasons.no_version t _ _ n (accepted_more ts us text v b e are is say)

  pub rejected_more : (texts : List (List ℕ)) (told : List Told) (text : List ℕ) (v : VersionValue) (b : Bool) → b ≡ false
      → AreLeftOut r ranges texts told → IsVersionIn r text v → AllSay r v ranges b
      → AreLeftOut r ranges (texts ++ text ∷ []) (told ++ record { text = unwrap_or (part_by r.field text) text; kind = NotAccepted } ∷ [])
  rejected_more texts told text v b e Reasons.none is say = Reasons.rejected text [] v [] is (rw e at say) Reasons.none
  rejected_more texts told text v b e (Reasons.accepted t ts w us i s are) is say = Reasons.accepted t _ w _ i s (rejected_more ts us text v b e are is say)
  rejected_more texts told text v b e (Reasons.rejected t ts w us i s are) is say = Reasons.rejected t _ w _ i s (rejected_more ts us text v b e are is say)
  rejected_more texts told text v b e (Reasons.no_version t ts us n are) is say = Reasons.no_version t _ _ n (rejected_more ts us text v b e are is say)
