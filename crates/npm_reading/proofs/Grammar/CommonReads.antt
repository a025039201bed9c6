-- Common texts: what the reader of these finds are alternatives of the text, and what their comparators have in common.
use Rattle.nodejs_semver.proofs.Common.{AllByRecursion, Bool, Front, IfSome, IsBlank, IsRange, IsTrim, IsUtf8, List, MAX_SAFE_INTEGER, None, Option}
use Rattle.nodejs_semver.proofs.Common.{Some, Span, Unbounded, VersionValue, [], all_weaker, ap, append-nil, append_assoc, arith, begins, bind_some}
use Rattle.nodejs_semver.proofs.Common.{common_steps, cut_bars, drop, encode_utf8, false, inl, inr, interval, is_empty, length, length-append}
use Rattle.nodejs_semver.proofs.Common.{list_all, list_all-append, nat_tests, option_to_list, precedence, refl, release_value, subst}
use Rattle.nodejs_semver.proofs.{Common.{sym, take, trim, trim_is_middle, true, ℕ, ◌++◌, ◌-◌, ◌<◌, ◌∙◌, ◌∷◌, ◌≡◌, ◌≤◌, ◌⊎◌}, Everyday.Parts.HasBars}
use Rattle.nodejs_semver.proofs.Everyday.{Parts.{bars-sound, behind-bars}, Texts.{compact-trim, cut-first, cut-last}, Words.{Compact, compact-spaced}}
use Rattle.{nodejs_semver.{proofs.Everyday.Words.is_part_byte, specs.Text.Common.IsGap}, npm_reading.proofs.Grammar.Intervals.ranged-found}
use Rattle.npm_reading.{proofs.Grammar.RangeReads.{found-both, found-one, ranged_range}, specs.Internal.{Alternatives.ranged, Fronts.{AreIn, AreJoined}}}
use Rattle.npm_reading.specs.Internal.{Fronts.{AreParts, IsLeft, IsPartAt, IsSignAt, IsTried, IsWordAt, is_word_byte}, Reads.AreFound}
use Rattle.{npm_reading.specs.Ranges.IsRangeIn, npm_words.proofs.Common.{AreAlternatives, AreRead, AreWords, BeginsWord, Comparison, IsPlaces}}
use Rattle.npm_words.proofs.Common.{IsSignText, IsWord, are_normal, capped_partial, comparators_of, dotted_patch, dotted_place, first_as}
use Rattle.npm_words.proofs.{Common.{is_lost, is_valid, limited, no_sign, patch_place, place_front, spelling, within}, Grammar.Characters.is_part}
use Rattle.npm_words.proofs.Grammar.{Characters.partial-part, Hyphens.{front-is, front-normal, hyphen_none-strict, normal-capped, places-normal}}
use Rattle.npm_words.proofs.Grammar.{Ignored.no-blank, PartialLaw.{front-as, front-text, number-read, over_qualified, places-found, wildcard_read}}
use Rattle.npm_words.proofs.Grammar.{Printed.{capped-same, table-invalid, valid-within}, Rows.{both_common, narrowed}, Signs.blank-nil, VersionLaw.At}
use Rattle.npm_words.{proofs.Grammar.{Words.{places-some, strict-kept}, Zeros.{strict-unpadded, strict-zeros}}, specs.Internal.Parts.AreZeros}
use Rattle.npm_words.specs.{Internal.{Parts.{is_padded}, Words.{is_over, places_front}}, Table.{Partial, Sign, first, major, minor}}
use Rattle.{npm_words.specs.Table.{table, whole, wildcard, written_zeros, zeros}, semver_core.proofs.Dividing.BarsDivide.{bars_divide, pieces-utf8}}
use Rattle.semver_core.proofs.{Gate.both, Reading.{Boundaries.{blank-len, trim-utf8}, Bytes.{all-end, all-join, solid-dark}}}
use Rattle.semver_core.specs.Internal.{Fronts.{after_byte, begins_wildcard, dotted_with, number_with}, Parts.after_bars}
use Rattle.{semver_core.specs.Text.{Characters.BeginsBlank, Identifiers.listed}, semver_pieces.specs.Internal.Views.bounds_view}
use Rattle.{semver_pieces.specs.declared.bounds.Bounds.Bounds, std.specs.Prelude.nat_le}
use Rattle.npm_reading.specs.Internal.Fronts as Fronts
use Rattle.npm_words.specs.RangeText as Npm

-- ---- a part

begins-all : (x : List ℕ) → 0 < length x → list_all is_word_byte x ≡ true → begins is_word_byte x ≡ true
begins-all x h k = grind (arith, nat_tests)

word-compact : (x : List ℕ) → 0 < length x → list_all is_word_byte x ≡ true → Compact x
word-compact x h k = grind (arith, all_weaker, begins-all, all-end)

-- a word that is the last one, and one with a space behind it
last-word : (include : Bool) (x partial : List ℕ) (cs : List Comparison) → IsWord false include x partial cs → AreWords false include x (Some cs ∷ [])
last-word include x partial cs h =
    let w : BeginsWord false include x partial [] cs = (x, sym (append-nil x), h, inl refl) in
    Npm.more x [] (Some cs) [] (Npm.formed partial [] cs w refl ([], refl, blank-nil, no-blank)) Npm.none

spaced-word : (include : Bool) (x partial y : List ℕ) (cs : List Comparison) (read : List (Option (List Comparison))) → IsWord false include x partial cs
    → 0 < length y → list_all is_word_byte y ≡ true → AreWords false include y read → AreWords false include (x ++ 32 ∷ y) (Some cs ∷ read)
unfolding encode_utf8
spaced-word include x partial y cs read h some bytes k =
    let white : BeginsBlank (32 ∷ y) = record { character = 32; rest = y; passes = refl; spelled = refl } in
    let w : BeginsWord false include (x ++ 32 ∷ y) partial (32 ∷ y) cs = (x, refl, h, inr white) in
    let dark : BeginsBlank y → ⊥ = λ b. omega (arith, blank-len y b, solid-dark y (begins-all y some bytes)) in
    let one : IsBlank (32 ∷ []) = record { characters = 32 ∷ []; each = refl; spelled = refl } in
    Npm.more (x ++ 32 ∷ y) y (Some cs) read (Npm.formed partial (32 ∷ y) cs w refl (32 ∷ [], refl, one, dark)) k

part-of : (include : Bool) (text rest part : List ℕ) (read : List (Option (List Comparison))) (s : Span VersionValue) → text ≡ part ++ rest
    → AreWords false include part read → Compact part → AreIn include (comparators_of read) s → IsPartAt include text s rest
part-of include text rest part read s split is c are = grind arith

pub part-of_one : (include : Bool) (text rest : List ℕ) (s : Span VersionValue) → IsWordAt include text s rest → IsPartAt include text s rest
part-of_one include text rest s w = grind (arith, part-of, last-word, word-compact, append-nil)

-- what comparators have in common of which the first have no upper bound and the others no lower one
half-open : (include : Bool) (cs ds : List Comparison) (s t : Span VersionValue) → AreIn include cs s → AreIn include ds t
    → s.upper ≡ Unbounded → t.lower ≡ Unbounded → AreIn include (cs ++ ds) (record { lower = s.lower; upper = t.upper })
half-open include cs ds s t h k e f =
    let whole : both s t ≡ record { lower = s.lower; upper = t.upper } = grind arith in
    (list_all-append (is_valid MAX_SAFE_INTEGER) cs ds ∙ rw (h.0, k.0) refl, rw whole at (both_common include cs ds s t h.1 k.1))

part-of_two : (include : Bool) (text rest behind last : List ℕ) (s t : Span VersionValue) → IsWordAt include text s rest
    → rest ≡ 32 ∷ behind → IsWordAt include behind t last → s.upper ≡ Unbounded → t.lower ≡ Unbounded
    → IsPartAt include text (record { lower = s.lower; upper = t.upper }) last
part-of_two include text rest behind last s t v e w open_above open_below =
    let split : text ≡ (v.word ++ 32 ∷ w.word) ++ last = rw append_assoc (cc (v.split, e, w.split)) in
    part-of include text last (v.word ++ 32 ∷ w.word) (Some v.comparators ∷ (Some w.comparators ∷ [])) _ split
    (spaced-word include v.word v.partial w.word v.comparators (Some w.comparators ∷ []) v.is w.some w.bytes
    (last-word include w.word w.partial w.comparators w.is))
    (compact-spaced v.word w.word (word-compact v.word v.some v.bytes) (word-compact w.word w.some w.bytes))
    (rw append-nil (half-open include v.comparators w.comparators s t v.are w.are open_above open_below))

-- ---- a word

-- the sign at the front is written, and is no more than its characters
sign-at : (text rest : List ℕ) (s : Sign) → IsSignAt text s rest
    → (signs : List ℕ) × (text ≡ signs ++ rest) × IsSignText signs s × (list_all is_word_byte signs ≡ true)
sign-at text rest s (inl e) = (spelling s, e, rw append-nil at (Npm.sign s [] blank-nil), grind (arith, nat_tests))
sign-at text rest s (inr e) = ([], e.0, rw e.1 no_sign, refl)

limited-is : (o : Front Partial) (x : Partial × List ℕ) → Some x ≡ limited o → (o ≡ Some x) × (within (first x.0) ≡ true)
limited-is o x h = grind arith

module _ (text : List ℕ) (p : Partial) (rest : List ℕ) (h : Some (p, rest) ≡ limited (places_front false text)) where
  -- the partial that is read at the front, and its text, as it is cut out
  piece-at : At (IsPlaces false) text p rest
  piece-at = places-found false text p rest (limited-is (places_front false text) (p, rest) h).0

  abbrev cut : List ℕ
  cut = take (length text - length rest) text

  piece-cut : cut ≡ piece-at.piece
  piece-cut = ap (λ (t : List ℕ). take (length t - length rest) t) piece-at.split ∙ front-text piece-at.piece rest

  pub word-found : (include : Bool) (signed : List ℕ) (s : Sign) (span : Span VersionValue) → IsSignAt signed s text
      → AreIn include (table include s p cut) span → IsWordAt include signed span rest
  word-found include signed s span sign are =
      let f = piece-at in
      let g = sign-at signed text s sign in
      record {
        word = g.0 ++ f.piece;
        comparators = table include s p f.piece;
        split = g.1 ∙ ap (λ (t : List ℕ). g.0 ++ t) f.split ∙ sym (append_assoc g.0 f.piece rest);
        partial = f.piece;
        is = Npm.word g.0 [] f.piece s p g.2 (grind (arith, nat_tests, common_steps)) (grind arith) f.is;
        some = omega (arith, length-append g.0 f.piece, places-some false f.piece p f.is);
        bytes = all-join is_word_byte g.0 f.piece g.3
            (all_weaker is_part is_word_byte (λ b k. grind (arith, nat_tests)) f.piece (partial-part false f.piece p f.is));
        are = rw piece-cut at are;
      }

  pub word-read : (include : Bool) (signed : List ℕ) (s : Sign) (o : Option Bounds) → IsSignAt signed s text
      → AreRead include (table include s p cut) o → IfSome o (λ b. IsPartAt include signed (bounds_view b) rest)
  word-read include signed s None sign read = tt
  word-read include signed s (Some b) sign read = part-of_one include signed rest (bounds_view b) (word-found include signed s (bounds_view b) sign read)

  pub word-shorter : length rest ≤ length text
  word-shorter = omega (arith, ap length piece-at.split, length-append piece-at.piece rest)

  pub word-normal : are_normal p ≡ true
  word-normal = places-normal false piece-at.piece p piece-at.is

  pub word-within : within (first p) ≡ true
  word-within = (limited-is (places_front false text) (p, rest) h).1

  -- so many numbers are written `0` as are 0
  pub word-zeros : (z : ℕ) → z ≡ zeros p → AreZeros p z cut
  word-zeros z e = rw (piece-cut, e) (strict-zeros piece-at.piece p piece-at.is)

  pub word-unpadded : false ≡ is_padded (written_zeros cut) p
  word-unpadded = rw piece-cut (strict-unpadded piece-at.piece p piece-at.is)

pub ruleset words_found = (word-normal, word-shorter, word-within)

pub joined-read : (include : Bool) (text rest behind last : List ℕ) (s t : Span VersionValue) (o : Option Bounds) → IsWordAt include text s rest
    → rest ≡ 32 ∷ behind → IsWordAt include behind t last → IfSome o (λ b. AreJoined s t (bounds_view b))
    → IfSome o (λ b. IsPartAt include text (bounds_view b) last)
joined-read include text rest behind last s t None v e w are = tt
joined-read include text rest behind last s t (Some b) v e w (open_above, open_below, same) =
    rw same (part-of_two include text rest behind last s t v e w open_above open_below)

pub ruleset parts_found = (part-of_one)

-- ---- a short partial

no_place : (text : List ℕ) → is_over text ≡ true → (dotted_place false text ≡ None) × (dotted_patch false text ≡ None)
unfolding dotted_place dotted_patch
no_place text h = grind arith

wild_place : (b : ℕ) (rest : List ℕ) → begins_wildcard (b ∷ rest) ≡ true
    → (dotted_place false (46 ∷ (b ∷ rest)) ≡ Some (None, rest)) × (dotted_patch false (46 ∷ (b ∷ rest)) ≡ Some (None, rest))
unfolding dotted_place dotted_patch patch_place
wild_place b rest h = (wildcard_read false (b ∷ rest) h, wildcard_read false (b ∷ rest) h)

number_place : (text : List ℕ) (n : ℕ) (rest : List ℕ) → Some (n, rest) ≡ dotted_with false MAX_SAFE_INTEGER text
    → (dotted_place false text ≡ Some (Some n, rest)) × (dotted_patch false text ≡ Some (Some n, rest)) × (nat_le n MAX_SAFE_INTEGER ≡ true)
unfolding dotted_with dotted_place dotted_patch patch_place
number_place text n rest h =
    let b = bind_some (after_byte 46 text) (λ t. number_with false MAX_SAFE_INTEGER t) (n, rest) (sym h) in
    let v = number-read false b.0 n rest b.2 in (rw b.1 v.0, rw b.1 v.0, v.1)

module _ (text : List ℕ) where
  abbrev Reads : Partial → List ℕ → Type 0
  Reads p end = Some (p, end) ≡ limited (places_front false text)

  pub short-any : (end : List ℕ) → begins_wildcard text ≡ true → end ≡ drop 1 text → is_over end ≡ true → Reads wildcard end
  unfolding places_front
  short-any end h e over = grind (arith, wildcard_read false text h, no_place end over)

  module _ (a : ℕ) (one : List ℕ) (h : Some (a, one) ≡ number_with false MAX_SAFE_INTEGER text) where
    read-one : (place_front false text ≡ Some (Some a, one)) × (nat_le a MAX_SAFE_INTEGER ≡ true)
    read-one = number-read false text a one (sym h)

    pub short-one : (end : List ℕ) → IsLeft one end → Reads (major a) end
    unfolding places_front
    short-one end left = grind (arith, read-one, no_place end left.0, wild_place)

    module _ (b : ℕ) (two : List ℕ) (k : Some (b, two) ≡ dotted_with false MAX_SAFE_INTEGER one) where
      pub short-two : (end : List ℕ) → IsLeft two end → Reads (minor a b) end
      unfolding places_front
      short-two end (over, inl e) = grind (arith, read-one, number_place one b two k, no_place end over)
      short-two end (over, inr (c, e, w)) =
          grind (arith, read-one, number_place one b two k, wild_place c end w, over_qualified false (Some a) (Some b) None end over)

      pub short-three : (c : ℕ) (end : List ℕ) → Some (c, end) ≡ dotted_with false MAX_SAFE_INTEGER two → is_over end ≡ true
          → Reads (whole (release_value a b c)) end
      unfolding places_front listed
      short-three c end l over =
          grind (arith, read-one, number_place one b two k, number_place two c end l, over_qualified false (Some a) (Some b) (Some c) end over)

-- ---- a word of any partial, which the code has with the limit + 1 in the place of greater numbers

module _ (text : List ℕ) (include : Bool) (signed : List ℕ) (s : Sign) (sign : IsSignAt signed s text) (b : Bounds) (z : ℕ) where
  abbrev Read : Partial × List ℕ → Type 0
  Read x = let cut = take (length text - length x.1) text in
      z ≡ zeros x.0 → (AreZeros x.0 z cut → AreRead include (table include s x.0 cut) (Some b)) → IsWordAt include signed (bounds_view b) x.1

  past-read : (p : Partial) (rest : List ℕ) → places_front false text ≡ Some (p, rest) → Read (capped_partial p, rest)
  past-read p rest h e read =
      let f = places-found false text p rest h in
      let cut = take (length text - length rest) text in
      let cut_is : cut ≡ f.piece = front-is text f.piece rest f.split in
      let good = read (λ w. grind (arith, nat_tests, cut_is, strict-zeros f.piece p f.is)) in
      let small = valid-within (λ p. table include s p cut) (λ p. table-invalid include s p cut) p good.0 in
      word-found text p rest (rw (h, small) refl) include signed s (bounds_view b) sign (rw (capped-same p small) at good)

  pub word-capped : (p : Partial) (rest : List ℕ) → Some (p, rest) ≡ first_as capped_partial (places_front false text) → Read (p, rest)
  word-capped p rest h =
      let v = front-as capped_partial (places_front false text) (p, rest) h in subst Read (sym v.2) (past-read v.0.0 v.0.1 v.1)

pub capped-normal : (text : List ℕ) (p : Partial) (rest : List ℕ) → Some (p, rest) ≡ first_as capped_partial (places_front false text) → are_normal p ≡ true
capped-normal text p rest h = grind (arith, normal-capped, front-normal)

pub ruleset short_fronts = (short-one, short-two, short-three)

-- ---- the loop

-- what was found, and what is read in the rest, is what is read in the text
pub record Reaches (include : Bool) (text : List ℕ) (found : List (Span VersionValue)) (rest : List ℕ) : Type 0 where
  pub read : (ss : List (Span VersionValue)) → AreParts include rest ss → AreParts include text (found ++ ss)
  pub some : (found ≡ []) ⊎ HasBars text
  pub within : HasBars rest → HasBars text

pub loop-ends : (include : Bool) (text : List ℕ) (found new : List (Span VersionValue)) (rest behind : List ℕ)
    → Reaches include text found rest → IsTried include rest (Some behind) found new → length behind ≡ 0 → AreParts include text new
loop-ends include text found new rest behind r (s, p, e) none =
    let no-text : behind ≡ [] = grind (arith, common_steps) in
    rw e (r.read (option_to_list (interval precedence s)) (Fronts.one rest s (rw no-text at p)))

-- the part and the bars behind it hold bars
bars-there : (include : Bool) (rest behind next : List ℕ) (s : Span VersionValue) → IsPartAt include rest s behind → after_bars behind ≡ Some next
    → HasBars rest × (length next < length rest)
bars-there include rest behind next s p e =
    let b = bars-sound behind next e in
    let split : rest ≡ p.part ++ (b.before ++ (124 ∷ (124 ∷ (b.after ++ next)))) = cc (p.split, b.divided) in
    (rw split (behind-bars p.part _ (behind-bars b.before _ refl)), omega (arith, simp length-append at (ap length split)))

pub loop-goes : (include : Bool) (text : List ℕ) (found new : List (Span VersionValue)) (rest behind next : List ℕ)
    → Reaches include text found rest → IsTried include rest (Some behind) found new → after_bars behind ≡ Some next
    → Reaches include text new next × HasBars text × (length next < length rest)
loop-goes include text found new rest behind next r (s, p, e) bars =
    let there = bars-there include rest behind next s p bars in
    let here = r.within there.0 in
    let o = option_to_list (interval precedence s) in
    let read : (ss : List (Span VersionValue)) → AreParts include next ss → AreParts include text (new ++ ss) = λ ss h.
    (rw (e, append_assoc found o ss) (r.read (o ++ ss) (Fronts.more rest behind next s ss p bars h))) in
    (record { read = read; some = inr here; within = λ h. here }, here, there.1)

-- ---- the whole text

-- the alternatives of pieces, with the intervals of their comparators
record AllAt (include : Bool) (pieces : List (List ℕ)) (ss : List (Span VersionValue)) : Type 0 where
  alternatives : List (List Comparison)
  each : AreAlternatives false include pieces alternatives
  valid : list_all (list_all (is_valid MAX_SAFE_INTEGER)) alternatives ≡ true
  found : AreFound include alternatives ss

abbrev SomeAt : Bool → List (List ℕ) → List (Span VersionValue) → Type 0
SomeAt include pieces ss = (a : AllAt include pieces ss) × (is_empty a.alternatives ≡ false)

compact-of : (include : Bool) (text rest : List ℕ) (s : Span VersionValue) (p : IsPartAt include text s rest) → Compact p.part
compact-of include text rest s p = record { front = p.front; each = p.each; end = p.end }

gap-bytes : (gap : List ℕ) → IsGap gap → list_all is_part_byte gap ≡ true
gap-bytes gap g = grind arith

-- one part among others
joined : (include : Bool) (text rest : List ℕ) (s : Span VersionValue) (p : IsPartAt include text s rest) (pieces others : List (List ℕ))
    (piece : List ℕ) (ss : List (Span VersionValue)) → pieces ≡ piece ∷ others → trim piece ≡ p.part → AllByRecursion IsUtf8 pieces
    → (AllByRecursion IsUtf8 others → AllAt include others ss) → SomeAt include pieces (option_to_list (interval precedence s) ++ ss)
joined include text rest s p pieces others piece ss e t u f =
    let v : AllByRecursion IsUtf8 (piece ∷ others) = subst (AllByRecursion IsUtf8) e u in
    let is_trim : IsTrim piece p.part = subst (λ (t : List ℕ). IsTrim piece t) t (trim_is_middle piece v.0) in
    let cs = comparators_of p.read in
    let k = f v.1 in
    let found = found-both include (cs ∷ []) k.alternatives (option_to_list (interval precedence s)) ss
    (found-one include cs (interval precedence s) (narrowed include cs s p.are.1)) k.found in
    let each = rw (strict-kept include p.part p.read p.is) at (Npm.next piece p.part others (is_lost p.read) cs k.alternatives
    (Npm.words p.part p.read (hyphen_none-strict include p.part p.read (trim-utf8 piece p.part v.0 is_trim) p.is) p.is) is_trim k.each) in
    rw e (record { alternatives = cs ∷ k.alternatives; each = each; valid = rw (p.are.0, k.valid) refl; found = found }, refl)

all-at : (include : Bool) (text gap : List ℕ) (ss : List (Span VersionValue)) → IsGap gap → AreParts include text ss
    → AllByRecursion IsUtf8 (cut_bars false (gap ++ text)) → SomeAt include (cut_bars false (gap ++ text)) ss
all-at include text gap ss g (Fronts.one t s p) u =
    let c = compact-of include t [] s p in
    let cut = ap (λ (x : List ℕ). cut_bars false (gap ++ x)) (p.split ∙ append-nil p.part)
    ∙ cut-last (gap ++ p.part) (all-join is_part_byte gap p.part (gap-bytes gap g) c.each) in
    rw (append-nil (option_to_list (interval precedence s))) at (joined include t [] s p _ [] (gap ++ p.part) [] cut
    (rw append-nil at (compact-trim gap p.part [] g (inl refl) c)) u
    (λ _. record { alternatives = []; each = Npm.none; valid = refl; found = record { are = refl; spans = refl } }))
all-at include text gap ss g (Fronts.more t behind next s more p bars h) u =
    let c = compact-of include t behind s p in
    let b = bars-sound behind next bars in
    let piece = gap ++ (p.part ++ b.before) in
    let left = 124 ∷ (124 ∷ (b.after ++ next)) in
    let split : t ≡ p.part ++ (b.before ++ left) = p.split ∙ ap (λ (x : List ℕ). p.part ++ x) b.divided in
    let whole : gap ++ t ≡ piece ++ left = ap (λ (x : List ℕ). gap ++ x) split ∙ simp append_assoc in
    let bytes : list_all is_part_byte piece ≡ true = all-join is_part_byte gap (p.part ++ b.before) (gap-bytes gap g)
    (all-join is_part_byte p.part b.before c.each (gap-bytes b.before b.is_before)) in
    joined include t behind s p _ (cut_bars false (b.after ++ next)) piece more
    (ap (λ (x : List ℕ). cut_bars false x) whole ∙ cut-first piece (b.after ++ next) bytes)
    (compact-trim gap p.part b.before g b.is_before c) u (λ v. (all-at include next b.after more b.is_after h v).0)

text-at : (include : Bool) (text : List ℕ) (ss : List (Span VersionValue)) → IsUtf8 text → AreParts include text ss → SomeAt include (cut_bars false text) ss
text-at include text ss u h = all-at include text [] ss (inl refl) h (pieces-utf8 text (cut_bars false text) (bars_divide text) u)

-- the range of a common text
pub common-range : (include : Bool) (text : List ℕ) (found range : List (Span VersionValue)) → IsUtf8 text → AreParts include text found
    → range ≡ ranged found → IsRangeIn false MAX_SAFE_INTEGER include text range
common-range include text found range u h a =
    let k = text-at include text found u h in
    record {
      alternatives = k.0.alternatives;
      has = record { parts = cut_bars false text; divided = bars_divide text; each = k.0.each; some = k.1; valid = k.0.valid };
      is = a ∙ ranged-found include k.0.alternatives found k.0.found;
    }

pub common-spans : (include : Bool) (text : List ℕ) (found range : List (Span VersionValue)) → IsUtf8 text → AreParts include text found
    → range ≡ ranged found → IsRange MAX_SAFE_INTEGER range
common-spans include text found range u h e =
    let k = (text-at include text found u h).0 in
    rw e (ranged_range found k.found.spans)
