-- Lines that ask no question.
use Rattle.std.proofs.Common.{rules, ◌≡◌, ◌≢◌, ◌<◌, ◌∙◌, ℕ, List, [], ◌∷◌, ◌++◌, false, codes, length, arith, sym, ap, append_assoc, not, true}
use Rattle.std.proofs.lemmas.List.Splits.{join_with_byte-slice_split}
use Rattle.std.specs.List.{All, join_with_byte, list_all}
use Rattle.semver_answers.specs.Commands.{Asks, Question, Version, Versions, Range, Ranges, Match, Best}
use Rattle.semver_answers.specs.Internal.CommandWords.{IsUnknown, command_word}
use Rattle.semver_answers.specs.Internal.KindWords.{IsTwo, best_word, match_word, range_word, ranges_word, versions_word}
use Rattle.memchr.specs.Find.{is_byte2}
use Rattle.semver_answers.specs.Internal.Ahead.{HasFeed, behind_line, fields_ahead, first_line}
use Rattle.semver_answers.specs.Lines.{fields}
use Rattle.semver_answers.specs.declared.command.Command.{Command}
use Rattle.semver_answers.specs.declared.command.Command.TheVariants as command
use Rattle.semver_answers.specs.declared.question.AboutBest.{AboutBest}
use Rattle.semver_answers.specs.declared.question.AboutBest.TheVariants.{Max, Min}
use Rattle.semver_answers.specs.declared.question.AboutMatch.{AboutMatch}
use Rattle.semver_answers.specs.declared.question.AboutMatch.TheVariants.{Sat, Pre, Out}
use Rattle.semver_answers.specs.declared.question.AboutRange.{AboutRange}
use Rattle.semver_answers.specs.declared.question.AboutRange.TheVariants.{Print, Least}
use Rattle.semver_answers.specs.declared.question.AboutRanges.{AboutRanges}
use Rattle.semver_answers.specs.declared.question.AboutRanges.TheVariants.{And, Minus, Beyond}
use Rattle.semver_answers.specs.declared.question.AboutVersion.TheVariants.{Ver}
use Rattle.semver_answers.specs.declared.question.AboutVersions.{AboutVersions}
use Rattle.semver_answers.specs.declared.question.AboutVersions.TheVariants.{Cmp, Diff}
use Rattle.semver_answers.proofs.Firsts.{all_fail, divided, some_field}

-- a text that begins with no command asks nothing, since a question has a text behind its command
asked_by : (t a : List ℕ) (rest : List (List ℕ)) → HasFeed t → IsUnknown t → (c : Command) → fields_ahead t ≡ command_word c ∷ a ∷ rest → ⊥
asked_by t a rest feed none c e =
    let line : first_line t ≡ command_word c ++ 59 ∷ join_with_byte 59 (a ∷ rest) =
    sym (join_with_byte-slice_split 59 (first_line t)) ∙ ap (join_with_byte 59) e in
    none c (join_with_byte 59 (a ∷ rest) ++ 10 ∷ behind_line t)
    ((divided t feed).0 ∙ ap (λ l. l ++ 10 ∷ behind_line t) line ∙ append_assoc (command_word c) (59 ∷ join_with_byte 59 (a ∷ rest)) (10 ∷ behind_line t))

pub unknown : (text : List ℕ) → HasFeed text → IsUnknown text → (question : Question) → Asks (fields_ahead text) question → ⊥
unknown text feed none (Version v Ver) asks = asked_by text _ _ feed none command.Ver asks.0
unknown text feed none (Version v next) asks = asked_by text _ _ feed none command.Inc asks.0
unknown text feed none (Versions texts Cmp) asks = asked_by text _ _ feed none command.Cmp asks.0
unknown text feed none (Versions texts Diff) asks = asked_by text _ _ feed none command.Diff asks.0
unknown text feed none (Range r Print) asks = asked_by text _ _ feed none command.Range asks.0
unknown text feed none (Range r Least) asks = asked_by text _ _ feed none command.Least asks.0
unknown text feed none (Ranges texts And) asks = asked_by text _ _ feed none command.And asks.0
unknown text feed none (Ranges texts Minus) asks = asked_by text _ _ feed none command.Minus asks.0
unknown text feed none (Ranges texts Beyond) asks = asked_by text _ _ feed none command.Beyond asks.0
unknown text feed none (Match texts Sat) asks = asked_by text _ _ feed none command.Sat asks.0
unknown text feed none (Match texts Pre) asks = asked_by text _ _ feed none command.Pre asks.0
unknown text feed none (Match texts (Out side)) asks = asked_by text _ _ feed none command.Out asks.0
unknown text feed none (Best texts Max) asks = asked_by text _ _ feed none command.Max asks.0
unknown text feed none (Best texts Min) asks = asked_by text _ _ feed none command.Min asks.0

-- the question about the fields behind a command, where there are as many as it wants, and that there is none else
pub versions_asked : (asked : AboutVersions) {v w : List ℕ} {texts : List (List ℕ)} → texts ≡ v ∷ w ∷ []
    → Asks (versions_word asked ∷ texts) (Versions (v, w) asked)
versions_asked asked e = search rules

pub range_asked : (asked : AboutRange) {r : List ℕ} {texts : List (List ℕ)} → texts ≡ r ∷ []
    → Asks (range_word asked ∷ texts) (Range r asked)
range_asked asked e = search rules

pub ranges_asked : (asked : AboutRanges) {r s : List ℕ} {texts : List (List ℕ)} → texts ≡ r ∷ s ∷ []
    → Asks (ranges_word asked ∷ texts) (Ranges (r, s) asked)
ranges_asked asked e = search rules

pub best_asked : (asked : AboutBest) {r : List ℕ} (vs : List ℕ) {texts : List (List ℕ)} → texts ≡ r ∷ fields vs
    → Asks (best_word asked ∷ texts) (Best (r, vs) asked)
best_asked asked vs e = search rules

pub match_asked : (asked : AboutMatch) → IsTwo asked → {r v : List ℕ} {texts : List (List ℕ)} → texts ≡ r ∷ v ∷ []
    → Asks (match_word asked ∷ texts) (Match (r, v) asked)
match_asked asked two e = search rules

pub ver_asked : {v : List ℕ} {texts : List (List ℕ)} → texts ≡ v ∷ [] → Asks (codes "ver" ∷ texts) (Version v Ver)
ver_asked e = (ap (λ l. codes "ver" ∷ l) e, tt)

pub versions_none : (asked : AboutVersions) {texts : List (List ℕ)} → length texts ≢ 2 → (question : Question)
    → Asks (versions_word asked ∷ texts) question → ⊥
versions_none asked none = search rules

pub range_none : (asked : AboutRange) {texts : List (List ℕ)} → 1 < length texts → (question : Question)
    → Asks (range_word asked ∷ texts) question → ⊥
range_none asked more = search rules

pub ranges_none : (asked : AboutRanges) {texts : List (List ℕ)} → length texts ≢ 2 → (question : Question)
    → Asks (ranges_word asked ∷ texts) question → ⊥
ranges_none asked none = search rules

pub match_none : (asked : AboutMatch) → IsTwo asked → {texts : List (List ℕ)} → length texts ≢ 2 → (question : Question)
    → Asks (match_word asked ∷ texts) question → ⊥
match_none asked two none = search rules

pub best_none : (asked : AboutBest) (text : List ℕ) (question : Question) → Asks (best_word asked ∷ text ∷ []) question → ⊥
best_none asked text (Best (r, vs) other) asks = grind (arith, some_field vs)
best_none asked text question asks = search rules

pub ver_none : {texts : List (List ℕ)} → 1 < length texts → (question : Question) → Asks (codes "ver" ∷ texts) question → ⊥
ver_none more = search rules

pub inc_none : {texts : List (List ℕ)} → length texts ≡ 1 → (question : Question) → Asks (codes "inc" ∷ texts) question → ⊥
inc_none one = search rules

pub inc_more : (v : List ℕ) {texts : List (List ℕ)} → 3 < length texts → (question : Question)
    → Asks (codes "inc" ∷ v ∷ texts) question → ⊥
inc_more v more = search rules

pub out_none : {texts : List (List ℕ)} → length texts < 3 → (question : Question) → Asks (codes "out" ∷ texts) question → ⊥
out_none few = search rules

pub out_more : (r v : List ℕ) {texts : List (List ℕ)} → 1 < length texts → (question : Question)
    → Asks (codes "out" ∷ r ∷ v ∷ texts) question → ⊥
out_more r v more = search rules

-- a text that begins with a command
word_plain : (c : Command) → list_all (λ b. not (is_byte2 59 10 b)) (command_word c) ≡ true
word_plain c = search rules

pub word_has_no_mark : (c : Command) → All (λ b. is_byte2 59 10 b ≡ false) (command_word c)
word_has_no_mark c = all_fail (is_byte2 59 10) (command_word c) (word_plain c)
