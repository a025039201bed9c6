-- The words of an alternative whose comparators are valid, one after another.
use Rattle.nodejs_semver.proofs.Common.{Bool, IsUtf8, List, MAX_SAFE_INTEGER, None, Option, Some, Span, VersionValue, [], ap, append-nil}
use Rattle.nodejs_semver.proofs.Common.{append_assoc, arith, bind_some, common_steps, false, is_empty, length, list_all-append, nat_lt, nat_tests}
use Rattle.nodejs_semver.proofs.Common.{prefix_len, refl, same_Some, sym, true, ℕ, ◌&&◌, ◌++◌, ◌<◌, ◌∙◌, ◌∷◌, ◌≡◌}
use Rattle.npm_reading.specs.Internal.{Alternatives.NarrowedBy, Reads.{first_valid, valid_all, valid_first, words_of}}
use Rattle.{npm_reading.specs.declared.alternatives.Alternative.Alternative, npm_words.proofs.Common.{Comparison, IsNarrowed, comparators_of}}
use Rattle.npm_words.proofs.{Common.{first_word, is_valid, signed_word, words_within}, Grammar.Words.{FirstAt, first-found}}
use Rattle.{npm_words.proofs.Grammar.Words.words-enough, semver_core.{proofs.FlatMaps.empty_is, specs.Internal.Reading.◌>>?◌}, std.proofs.lemmas.Grind.flat_map-append}
use Rattle.std.{proofs.lemmas.List.reverse-append, specs.{List.suffix_len, Option.unwrap_or, Prelude.{is_none, reverse}}}

first-then : (w : Option (List Comparison) × List ℕ) (f : List ℕ → Option (List (Option (List Comparison))))
    → (valid_first w >>? λ w. (f w.1 >>? valid_all) >>? λ ds. Some (w.0 ∷ ds)) ≡ ((f w.1 >>? λ ds. Some (w.0 ∷ ds)) >>? valid_all)
first-then w f = grind (arith, list_all-append (is_valid MAX_SAFE_INTEGER))

pub valid-found : (loose include : Bool) (text : List ℕ) (w : Option (List Comparison) × List ℕ) → IsUtf8 text → 0 < length text
    → first_valid loose include text ≡ Some w → FirstAt loose include text w.0 w.1
valid-found loose include text w u some h = first-found loose include text w.0 w.1 u some (grind arith)

-- one word after another
words-on : (loose include : Bool) (text : List ℕ) → IsUtf8 text → 0 < length text
    → words_of loose include text ≡ (first_valid loose include text >>? λ w. words_of loose include w.1 >>? λ ds. Some (w.0 ∷ ds))
unfolding words_within
words-on loose include [] u some = absurd (omega (arith, some))
words-on loose include (b ∷ text) u some = go (first_word loose include (b ∷ text)) refl
  where
    go : (o : Option (Option (List Comparison) × List ℕ)) → first_word loose include (b ∷ text) ≡ o
        → ((o >>? λ w. words_within loose include (length text) w.1 >>? λ ds. Some (w.0 ∷ ds)) >>? valid_all)
        ≡ ((o >>? valid_first) >>? λ w. words_of loose include w.1 >>? λ ds. Some (w.0 ∷ ds))
    go None e = refl
    go (Some w) e =
        let f = first-found loose include (b ∷ text) w.0 w.1 u some e in
        rw (words-enough loose include (length text) (length w.1) w.1 f.utf8 (omega (arith, f.shorter)) (omega arith))
        (sym (first-then w (λ t. words_within loose include (length t) t)))

-- ---- the loop over words

-- what was read of a text, and what is left
pub record AreWordsTo (loose include : Bool) (text : List ℕ) (all : Option (Span VersionValue)) (is_bare is_last : Bool) (rest : List ℕ)
    : Type 0 where
  pub read : List (Option (List Comparison))
  pub bare : is_bare ≡ is_empty (comparators_of read)
  pub last : is_last ≡ nat_lt 0 (suffix_len is_none read)
  pub narrowed : IsNarrowed include (comparators_of read) all
  pub same : words_of loose include text ≡ (words_of loose include rest >>? λ ds. Some (read ++ ds))
  pub utf8 : IsUtf8 rest

pub words-begin : (loose include : Bool) (text : List ℕ) (all : Option (Span VersionValue)) (is_bare : Bool) → IsUtf8 text
    → IsNarrowed include [] all → is_bare ≡ true → AreWordsTo loose include text all is_bare false text
words-begin loose include text all is_bare u h b =
    record { read = []; bare = b; last = refl; narrowed = h; same = grind arith; utf8 = u }

empty-append : (cs ds : List Comparison) → is_empty (cs ++ ds) ≡ (is_empty cs && is_empty ds)
empty-append cs ds = grind (arith, nat_tests, common_steps)

one-more : (read : List (Option (List Comparison))) (w : Option (List Comparison)) → comparators_of (read ++ w ∷ []) ≡ comparators_of read ++ unwrap_or w []
one-more read w = flat_map-append (λ cs. unwrap_or cs []) read (w ∷ []) ∙ ap (λ (l : List Comparison). comparators_of read ++ l) (append-nil (unwrap_or w []))

first-kept : (w : Option (List Comparison)) (l : List (Option (List Comparison))) → nat_lt 0 (prefix_len is_none ((w ∷ []) ++ l)) ≡ is_none w
first-kept w l = grind (arith, nat_tests)

last-more : (read : List (Option (List Comparison))) (w : Option (List Comparison)) → nat_lt 0 (suffix_len is_none (read ++ w ∷ [])) ≡ is_none w
last-more read w = ap (λ l. nat_lt 0 (prefix_len is_none l)) (reverse-append read (w ∷ [])) ∙ first-kept w (reverse read)

module _ (loose include : Bool) (text rest : List ℕ) (all : Option (Span VersionValue)) (is_bare is_last : Bool)
    (h : AreWordsTo loose include text all is_bare is_last rest) where
  -- one word more
  pub words-next : (w : Option (List Comparison) × List ℕ) (a : Alternative) → 0 < length rest → first_valid loose include rest ≡ Some w
      → NarrowedBy include all (unwrap_or w.0 []) (Some a) → a.is_bare ≡ (is_bare && is_empty (unwrap_or w.0 []))
      → AreWordsTo loose include text a.interval a.is_bare (is_none w.0) w.1
  words-next w a some e n b = record {
    read = h.read ++ w.0 ∷ [];
    bare = b ∙ rw h.bare (sym (ap is_empty (one-more h.read w.0) ∙ empty-append (comparators_of h.read) (unwrap_or w.0 [])));
    last = sym (last-more h.read w.0);
    narrowed = rw (one-more h.read w.0) (n.1 (comparators_of h.read) h.narrowed);
    same = grind (arith, h.same, words-on loose include rest h.utf8 some, append_assoc);
    utf8 = (valid-found loose include rest w h.utf8 some e).utf8;
  }

  -- no word where one is to be, or one that is not valid
  pub words-none : 0 < length rest → first_valid loose include rest ≡ None → words_of loose include text ≡ None
  words-none some e = h.same ∙ rw (words-on loose include rest h.utf8 some, e) refl

  -- nothing left
  pub words-end : is_empty rest ≡ true → words_of loose include text ≡ Some h.read
  unfolding words_within
  words-end e = grind (arith, empty_is, append-nil)

-- the first word is ignored where none is found
pub first-none : (loose include : Bool) (text : List ℕ) (all : List (Option (List Comparison))) → IsUtf8 text → words_of loose include text ≡ Some all
    → nat_lt 0 (suffix_len is_none all) ≡ true → is_none (signed_word loose text) ≡ nat_lt 0 (prefix_len is_none all)
unfolding words_within first_word
first-none loose include [] all u h some = grind (arith, same_Some)
first-none loose include (b ∷ text) all u h some = grind (arith, bind_some, words-on, first-kept, same_Some)
