-- The alternatives of a range text, read one after another, and what their intervals accept.
use Rattle.nodejs_semver.proofs.Common.{Bool, Bor, Failure, IfSome, IsCutAtBars, IsRange, IsUtf8, List, MAX_SAFE_INTEGER, MemoryOnlyIf, None, Option}
use Rattle.nodejs_semver.proofs.Common.{Result, Some, Span, VersionValue, [], accepts, and_parts, ap, append-nil, append_assoc, arith, cases_Bool}
use Rattle.nodejs_semver.proofs.Common.{common_steps, cond_both, cond_some, drop_spaces, false, if◌then◌else◌, is_empty, is_interval, is_range_span}
use Rattle.nodejs_semver.proofs.Common.{is_some, later_parts, length, length-append, list_all, list_all-append, nat_tests, not, not-true}
use Rattle.nodejs_semver.proofs.Common.{option_to_list, parts, precedence, refl, same_Some, subst, sym, true, ℕ, ◌&&◌, ◌++◌, ◌+◌, ◌<◌, ◌∙◌, ◌∷◌, ◌≡◌}
use Rattle.nodejs_semver.proofs.Common.{◌≤◌}
use Rattle.npm_reading.proofs.Grammar.{Intervals.{narrowed-interval, range_accepts, ranged-found}, WordLoop.{AreWordsTo, first-none, valid-found}}
use Rattle.npm_reading.{proofs.Grammar.WordLoop.{words-end, words-next, words-none}, specs.Internal.Alternatives.{NarrowedBy, ranged}}
use Rattle.npm_reading.specs.Internal.Reads.{AddsPart, AreFound, IsFound, IsStep, first_valid, valid_alternative, valid_alternatives}
use Rattle.npm_reading.specs.{Internal.Reads.{valid_range, words_of}, Ranges.IsRangeIn, Readings.{OfAccepted, ReadText}}
use Rattle.{npm_reading.specs.declared.alternatives.Alternative.Alternative, npm_words.proofs.Common.{Comparison, Ended, HasAlternativesIn}}
use Rattle.npm_words.proofs.Common.{IsNarrowed, alternative_of, alternatives_of, capped_in, capped_partial, first_word, hyphen_ends, hyphen_of}
use Rattle.npm_words.proofs.Common.{is_free_lower, is_free_upper, is_right, is_short_word, is_valid, kept, lower_of}
use Rattle.npm_words.proofs.{Common.{signed_front_view, signed_word, upper_of, valid_one, words_of_all}, Grammar.AlternativeLaw.alternatives_are}
use Rattle.npm_words.proofs.Grammar.{Hyphens.{both_capped, hyphen-capped}, Printed.{capped-valid, table-invalid, valid-same}}
use Rattle.npm_words.specs.{Table.{Partial, table}, declared.words.Signed.Signed}
use Rattle.semver_core.{proofs.Dividing.BarsDivide.bars_once, specs.{Failures.{NoValue, RefusedOnlyIf}, Internal.Reading.◌>>?◌}}
use Rattle.std.{proofs.lemmas.List.Elements.filter_map-append, specs.{Prelude.is_none}}
use Rattle.npm_words.specs.Internal.Words as Words

-- one interval is kept, since one without bounds is any version
pub ranged_one : (found : List (Span VersionValue)) → length found ≡ 1 → found ≡ ranged found
ranged_one (s ∷ []) h = grind (arith, cases_Bool)
ranged_one [] h = absurd (omega (arith, h))
ranged_one (s ∷ (t ∷ ss)) h = absurd (omega (arith, h))

-- ---- such a list of intervals is that of a range

pub ranged_range : (found : List (Span VersionValue)) → list_all (is_range_span (MAX_SAFE_INTEGER + 1)) found ≡ true → IsRange MAX_SAFE_INTEGER (ranged found)
ranged_range found h = grind (arith, nat_tests, common_steps)

-- ---- an alternative is found exactly where the text has one whose comparators are valid

-- where the text is a hyphen range
pub hyphen-alternative : (loose include : Bool) (text : List ℕ) (e : Ended × Ended) → hyphen_ends loose text ≡ Some e
    → valid_alternative loose include text ≡ (hyphen_of loose include (capped_in e.0, capped_in e.1) >>? valid_one)
unfolding valid_alternative alternative_of
hyphen-alternative loose include text e h = rw h (sym (hyphen-capped loose include e.0 e.1))

-- the ends as the code has them
pub ends-as : (o : Option (Ended × Ended)) (x : Ended × Ended) → Some x ≡ both_capped o
    → (e : Ended × Ended) × (o ≡ Some e) × (x ≡ (capped_in e.0, capped_in e.1))
ends-as None x h = cc h
ends-as (Some e) x h = (e, refl, same_Some _ _ h)

-- ---- what is found between two ends

module _ (loose include : Bool) (a b : Ended) where
  abbrev Between : Option Alternative → Type 0
  Between r = IsFound include (hyphen_of loose include (a, b) >>? valid_one) r

  module _ (low : is_right loose is_free_lower a ≡ true) (up : is_right loose (is_free_upper include) b ≡ true) where
    pub lower-none : list_all (is_valid MAX_SAFE_INTEGER) (lower_of include a) ≡ false → Between None
    lower-none h = rw (low, up, list_all-append (is_valid MAX_SAFE_INTEGER) (lower_of include a) (upper_of include b), h) tt

    pub upper-found : (all f : Alternative) (g : Option Alternative) → IsNarrowed include [] all.interval
        → NarrowedBy include all.interval (lower_of include a) (Some f) → NarrowedBy include f.interval (upper_of include b) g
        → IfSome g (λ g. g.is_lost ≡ false) → Between g
    upper-found all f None first n m lost = grind (arith, nat_tests, list_all-append)
    upper-found all f (Some g) first n m lost =
        rw (low, up, list_all-append (is_valid MAX_SAFE_INTEGER) (lower_of include a) (upper_of include b), n.0, m.0) (m.1 (lower_of include a) (n.1 [] first), lost)

-- ---- one word more

module _ (loose include : Bool) (text : List ℕ) (all : Alternative) where
  module _ (w : Words.Signed × List ℕ) (e : signed_word loose text ≡ Some w) where
    abbrev Row : Partial → List Comparison
    Row p = table include w.0.0 p w.0.2

    pub step-invalid : NarrowedBy include all.interval (Row (capped_partial w.0.1)) None → IsStep include all (first_valid loose include text) None
    unfolding first_word
    step-invalid k = grind (arith, capped-valid Row (λ p. table-invalid include w.0.0 p w.0.2) w.0.1)

    pub step-read : (a : Alternative) (next : Bor (List ℕ)) → is_short_word loose w.0.2 ≡ true
        → NarrowedBy include all.interval (Row (capped_partial w.0.1)) (Some a) → a.is_bare ≡ (all.is_bare && is_empty (Row (capped_partial w.0.1)))
        → next.now ≡ drop_spaces w.1 → IsStep include all (first_valid loose include text) (Some (a, false, next))
    unfolding first_word
    step-read a next n k b f =
        let same = valid-same Row (λ p. table-invalid include w.0.0 p w.0.2) w.0.1 k.0 in
        let valid = rw same at k in
        rw (e, n, valid.0) (valid, rw same at b, refl, f)

-- ---- words, one after another

step-found : (include : Bool) (all : Alternative) (o : Option (Option (List Comparison) × List ℕ)) (s : Alternative × Bool × Bor (List ℕ))
    → IsStep include all o (Some s) → (w : Option (List Comparison) × List ℕ) × (o ≡ Some w) × IsStep include all (Some w) (Some s)
step-found include all None s h = absurd h
step-found include all (Some w) s h = (w, refl, h)

abbrev pub found_of : Bool → Bool → List ℕ → Option (Bool × List Comparison)
found_of loose include text = words_of loose include text >>? λ all. Some (words_of_all all)

module _ (loose include : Bool) (text rest : List ℕ) (all : Alternative) (is_last : Bool)
    (h : AreWordsTo loose include text all.interval all.is_bare is_last rest) where
  pub word-none : 0 < length rest → IsStep include all (first_valid loose include rest) None
      → IsFound include (found_of loose include text) None
  word-none some k =
      let none : first_valid loose include rest ≡ None = grind (arith, k) in
      rw (words-none loose include text rest all.interval all.is_bare is_last h some none) tt

  pub word-next : (s : Alternative × Bool × Bor (List ℕ)) → 0 < length rest → IsStep include all (first_valid loose include rest) (Some s)
      → AreWordsTo loose include text s.0.interval s.0.is_bare s.1 s.2.now × (length s.2.now < length rest)
  word-next s some k =
      let w = step-found include all (first_valid loose include rest) s k in
      let f = valid-found loose include rest w.0 h.utf8 some w.1 in
      let next = words-next loose include text rest all.interval all.is_bare is_last h w.0 s.0 some w.1 w.2.0 w.2.1 in
      (simp (w.2.2, w.2.3) next, rw w.2.3 f.shorter)

  pub words-all : (a : Alternative) (lost : Bool) → IsUtf8 text → is_empty rest ≡ true → a.interval ≡ all.interval → a.is_lost ≡ (all.is_bare && lost)
      → (is_last ≡ false → lost ≡ false) → (is_last ≡ true → lost ≡ is_none (signed_word loose text))
      → IsFound include (found_of loose include text) (Some a)
  words-all a lost u e f g not_last if_last =
      let read = words-end loose include text rest all.interval all.is_bare is_last h e in
      rw (read, f) (h.narrowed, grind (arith, h.bare, h.last, g, not_last, if_last, first-none loose include text h.read u read))

pub view-none : (o : Option (Signed × Bor (List ℕ))) (b : Bool) → is_some o ≡ not b → b ≡ is_none (signed_front_view o)
view-none o b e = grind arith

pub found-some : (include : Bool) (o : Option (Bool × List Comparison)) (a : Alternative) → IsFound include o (Some a)
    → (c : Bool × List Comparison) × (o ≡ Some c) × IsFound include (Some c) (Some a)
found-some include None a h = absurd h
found-some include (Some c) a h = (c, refl, h)

-- ---- one alternative more

-- one alternative, and the alternatives of two lists
pub found-one : (include : Bool) (cs : List Comparison) (o : Option (Span VersionValue)) → IsNarrowed include cs o
    → AreFound include (cs ∷ []) (option_to_list o)
found-one include cs o h = record {
  are = grind (arith, narrowed-interval include cs o h);
  spans = rw h.is (cond_both (is_interval precedence h.span) (Some h.span) None (λ m. list_all (is_range_span (MAX_SAFE_INTEGER + 1)) (option_to_list m) ≡ true)
      (λ i. rw (i, h.has.lower, h.has.upper) refl) (λ _. refl));
}

pub found-both : (include : Bool) (ls ms : List (List Comparison)) (ss ts : List (Span VersionValue)) → AreFound include ls ss
    → AreFound include ms ts → AreFound include (ls ++ ms) (ss ++ ts)
found-both include ls ms ss ts h k = record {
  are = grind (arith, h.are, k.are, filter_map-append);
  spans = grind (arith, h.spans, k.spans, list_all-append);
}

pub part-added : (include : Bool) (o : Option (Bool × List Comparison)) (a : Alternative) (was : Bool) (before after : List (Span VersionValue))
    → IsFound include o (Some a) → a.is_lost ≡ false → after ≡ before ++ option_to_list a.interval → AddsPart include o was true before after
part-added include (Some (false, cs)) a was before after h l e =
    (refl, λ ls k. rw e (found-both include ls (cs ∷ []) before (option_to_list a.interval) k (found-one include cs a.interval h.0)))
part-added include o a was before after h l e = grind arith

pub ruleset parts_added = (part-added, append-nil)

-- ---- the alternatives, up to a rest of the text

-- what was read of a text, and what is left
pub record AreReadTo (loose include : Bool) (text : List ℕ) (is_some : Bool) (found : List (Span VersionValue)) (rest : Option (List ℕ)) : Type 0 where
  pub read : List (List Comparison)
  pub are : AreFound include read found
  pub same : valid_alternatives loose include (parts text) ≡ (valid_alternatives loose include (later_parts rest) >>? λ more. Some (read ++ more))
  pub count : length read + length (later_parts rest) ≤ length (parts text)
  pub some : is_some ≡ not (is_empty read)

-- the same of the text that is left
rest-step : (loose include : Bool) (rest part : List ℕ) (behind : Option (List ℕ)) (o : Option (Bool × List Comparison))
    → part ∷ later_parts behind ≡ parts rest → valid_alternative loose include part ≡ o → valid_alternatives loose include (parts rest)
    ≡ (o >>? λ a. valid_alternatives loose include (later_parts behind) >>? λ ls. Some (kept a ls))
unfolding valid_alternatives
rest-step loose include rest part behind o e d = grind (arith, nat_tests, common_steps)

part-same : (read : List (List Comparison)) (a : Bool × List Comparison) (later : Option (List (List Comparison)))
    → ((later >>? λ ls. Some (kept a ls)) >>? λ more. Some (read ++ more)) ≡ (later >>? λ more. Some ((read ++ kept a []) ++ more))
part-same read a later = grind (arith, append_assoc, append-nil)

-- one part more
pub read-part : (loose include : Bool) (text : List ℕ) (was is : Bool) (found after : List (Span VersionValue)) (rest : List ℕ) (part : List ℕ)
    (behind : Option (List ℕ)) → AreReadTo loose include text was found (Some rest) → part ∷ later_parts behind ≡ parts rest
    → AddsPart include (valid_alternative loose include part) was is found after → AreReadTo loose include text is after behind
read-part loose include text was is found after rest part behind h e a = go _ refl a
  where
    go : (o : Option (Bool × List Comparison)) → valid_alternative loose include part ≡ o → AddsPart include o was is found after
        → AreReadTo loose include text is after behind
    go None d k = absurd k
    go (Some (true, cs)) d k = record {
      read = h.read;
      are = rw k.1 h.are;
      same = h.same ∙ rw (rest-step _ _ _ _ _ _ e d) (part-same h.read (true, cs) _ ∙ rw (append-nil h.read) refl);
      count = omega (arith, h.count, ap length e);
      some = k.0 ∙ h.some;
    }
    go (Some (false, cs)) d k = record {
      read = h.read ++ cs ∷ [];
      are = k.1 h.read h.are;
      same = h.same ∙ rw (rest-step _ _ _ _ _ _ e d) (part-same h.read (false, cs) _);
      count = omega (arith, h.count, ap length e, length-append h.read (cs ∷ []));
      some = k.0 ∙ grind (arith, nat_tests, common_steps);
    }

pub all-read : (loose include is_some : Bool) (text : List ℕ) (found : List (Span VersionValue)) (h : AreReadTo loose include text is_some found None)
    → valid_range loose include text ≡ (if is_some then Some h.read else None)
unfolding valid_alternatives
all-read loose include is_some text found h = rw (h.same, append-nil h.read, h.some) refl

-- ---- the range of a text

-- an alternative that is lost has no comparators
lost-valid : (loose include : Bool) (text : List ℕ) (cs : List Comparison) → alternative_of loose include text ≡ Some (true, cs)
    → list_all (is_valid MAX_SAFE_INTEGER) cs ≡ true
unfolding alternative_of
lost-valid loose include text cs h = grind (arith, and_parts)

-- those of which each comparator is valid
abbrev valid_lists : List (List Comparison) → Option (List (List Comparison))
valid_lists ls = if list_all (list_all (is_valid MAX_SAFE_INTEGER)) ls then Some ls else None

all-valid : (loose include : Bool) (texts : List (List ℕ)) → valid_alternatives loose include texts ≡ (alternatives_of loose include texts >>? valid_lists)
unfolding valid_alternatives valid_alternative alternatives_of
all-valid loose include [] = refl
all-valid loose include (text ∷ texts) = grind (arith, nat_tests, all-valid loose include texts, lost-valid loose include text)

pub none-read : (loose include : Bool) (text : List ℕ) → IsUtf8 text → valid_range loose include text ≡ None
    → NoValue (HasAlternativesIn loose MAX_SAFE_INTEGER include text)
none-read loose include text u h ls has =
    let k = (alternatives_are loose MAX_SAFE_INTEGER include text ls u).0 has in
    grind (arith, nat_tests, common_steps, all-valid)

-- the same of a call that rejects a part
refused-weaker : {A E : Type 0} {P Q : Type 0} (r : Result A (Failure E)) → (P → Q) → RefusedOnlyIf r P → RefusedOnlyIf r Q
refused-weaker r f k = grind (arith, f)

pub read-refused : (loose : Bool) {A E : Type 0} (r : Result A (Failure E)) (include : Bool) (text : List ℕ) (was : Bool)
    (found : List (Span VersionValue)) (rest part : List ℕ) (behind : Option (List ℕ)) → IsUtf8 text
    → AreReadTo loose include text was found (Some rest) → part ∷ later_parts behind ≡ parts rest
    → RefusedOnlyIf r (valid_alternative loose include part ≡ None)
    → RefusedOnlyIf r (NoValue (HasAlternativesIn loose MAX_SAFE_INTEGER include text))
read-refused loose r include text was found rest part behind u h e =
    refused-weaker r (λ k. none-read loose include text u (rw (h.same, rest-step loose include rest part behind None e k) refl))

has-read : (loose include : Bool) (text : List ℕ) (all : List (List Comparison)) → IsUtf8 text
    → valid_range loose include text ≡ Some all → HasAlternativesIn loose MAX_SAFE_INTEGER include text all
has-read loose include text all u h = grind (arith, nat_tests, common_steps, cond_some, not, all-valid, not-true, alternatives_are)

pub range-read : (loose include : Bool) (text : List ℕ) (found range : List (Span VersionValue)) → IsUtf8 text
    → AreReadTo loose include text true found None → range ≡ ranged found → IsRangeIn loose MAX_SAFE_INTEGER include text range
range-read loose include text found range u h a = record {
  alternatives = h.read;
  has = has-read loose include text h.read u (all-read loose include true text found h);
  is = a ∙ ranged-found include h.read found h.are;
}

pub memory-pieces : {A E : Type 0} (r : Result A (Failure E)) (text : List ℕ) → MemoryOnlyIf r (1 < length (parts text))
    → MemoryOnlyIf r ((pieces : List (List ℕ)) → IsCutAtBars text pieces → 1 < length pieces)
memory-pieces r text k = grind (arith, nat_tests, common_steps, bars_once)

pub of_accepted : {Holds : (VersionValue → Bool) → Type 0} (r : ReadText) (range : List (Span VersionValue))
    → IsRangeIn r.reading.loose MAX_SAFE_INTEGER r.reading.include_prerelease r.text range
    → Holds (λ v. accepts range v r.reading.include_prerelease) → OfAccepted MAX_SAFE_INTEGER r Holds
of_accepted {Holds} r range h k = record { alternatives = h.alternatives; has = h.has; holds = subst Holds (λ i v. range_accepts _ _ _ _ _ h v i) k }
