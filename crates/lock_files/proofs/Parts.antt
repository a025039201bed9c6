-- The parts of a text that std's clauses name.
use Rattle.std.proofs.Common.{◌≡◌, ◌≢◌, ◌==◌, ◌⊎◌, ◌∷◌, ◌++◌, ◌∙◌, [], ap, ap₂, refl, subst, sym}
use Rattle.std.proofs.Common.{Bool, List, None, ℕ, arith, codes, drop, encode_utf8, false, inl, inr, length, not, suc, take}
use Rattle.std.proofs.Common.{true}
use Rattle.std.proofs.lemmas.Bool.{and_parts, eq-eqb, eqb-true, ne_eqb, or_from, or_parts, or_right}
use Rattle.std.proofs.lemmas.List.{append-nil, nil_from_length, take-append-drop}
use Rattle.std.proofs.lemmas.List.Folds.{list_any-append, list_any_at}
use Rattle.std.proofs.lemmas.Str.{encode_ascii}
use Rattle.std.proofs.lemmas.Str.Pattern.{NoCharPasses-char, contains_char}
use Rattle.std.specs.Bool.{MatchBool}
use Rattle.std.specs.List.{list_all}
use Rattle.std.specs.Prelude.{◌<◌, slice_index}
use Rattle.std.specs.Str.{NoCharPasses}
use Rattle.std.specs.Str.Pattern.{FindsChar, HasCharAt, HasMatch, SplitsAroundMatch}
use Rattle.semver_core.proofs.Text.Trims.{middle_is_trim}
use Rattle.semver_core.specs.Text.Characters.{IsTrim}
use Rattle.lock_files.specs.Specifiers.{IsAliasOf, IsAliased, IsBareName, IsUnsigned, has, is_of_registry}
use Rattle.lock_files.specs.Specifiers.{is_part, is_url_byte, with_sign}
use Rattle.lock_files.specs.Specifiers.IsAliasOf.{alone, any, ranged}

-- the text behind a character in front
pub behind_char : (c : ℕ) (text behind : List ℕ) (n : ℕ) → c < 128 → HasCharAt c text 0 n → behind ≡ drop n text
    → text ≡ c ∷ behind
behind_char c text behind n small at same =
    at.split ∙ ap (λ t. t ++ drop n text) (encode_ascii c small) ∙ ap (λ t. c ∷ t) (sym same)

-- no place of the text has the character
pub lacks : (c : ℕ) (text : List ℕ) → ((i : ℕ) → i < length text → slice_index text i ≢ c) → has c text ≡ false
lacks c [] never = refl
lacks c (b ∷ bs) never =
    or_from (b == c) (has c bs) (ne_eqb b c (never 0 (omega arith))) (lacks c bs (λ i k. never (suc i) (omega (arith, k))))

-- a test whether it has
pub has-from_contains : (c : ℕ) (text : List ℕ) (r : Bool) → c < 128
    → MatchBool r (HasMatch (FindsChar c) text) (FindsChar c text None) → r ≡ has c text
has-from_contains c text true small m =
    let at = (contains_char c text true m small).0 refl in
    sym (list_any_at (λ b. b == c) text at.0 0 at.1 (eq-eqb (slice_index text at.0) c at.2))
has-from_contains c text false small m =
    sym (lacks c text (λ i k e. let holds = (contains_char c text false m small).1 i k e in absurd (cc)))

-- a text that is cut at the first such character
pub cut_at : (c : ℕ) (text front back : List ℕ) → c < 128 → SplitsAroundMatch (FindsChar c) text front back
    → (text ≡ front ++ c ∷ back) × (has c front ≡ false)
cut_at c text front back small s = (
  sym (take-append-drop s.0 text)
      ∙ ap (λ t. take s.0 text ++ t) (s.2.1.split ∙ ap (λ t. t ++ drop s.1 text) (encode_ascii c small))
      ∙ ap₂ (λ a b. a ++ c ∷ b) (sym s.3) (sym s.4),
  lacks c front (λ i k.
      NoCharPasses-char c front i (subst (λ t. NoCharPasses (λ d. d == c) t) (sym s.3) s.2.0) small k),
)

-- a text in which the character is not found
pub uncut : (c : ℕ) (text : List ℕ) → c < 128 → NoCharPasses (λ d. d == c) text → has c text ≡ false
uncut c text small never = lacks c text (λ i k. NoCharPasses-char c text i never small k)

-- a text is cut at the first such character in one way alone
pub one_cut : (c : ℕ) (a b x y : List ℕ) → has c a ≡ false → has c x ≡ false → a ++ c ∷ b ≡ x ++ c ∷ y
    → (a ≡ x) × (b ≡ y)
one_cut c [] b [] y never none e = (refl, ap (drop 1) e)
one_cut c [] b (x ∷ xs) y never none e =
    let first : c ≡ x = ap (λ t. slice_index t 0) e in
    let holds = eq-eqb x c (sym first) in
    let not = (or_parts (x == c) (has c xs) none).0 in
    absurd (cc)
one_cut c (a ∷ more) b [] y never none e =
    let first : a ≡ c = ap (λ t. slice_index t 0) e in
    let holds = eq-eqb a c first in
    let not = (or_parts (a == c) (has c more) never).0 in
    absurd (cc)
one_cut c (a ∷ more) b (x ∷ xs) y never none e =
    let rest = one_cut c more b xs y (or_parts (a == c) (has c more) never).1 (or_parts (x == c) (has c xs) none).1
    (ap (drop 1) e) in
    (ap₂ (λ h t. h ∷ t) (ap (λ t. slice_index t 0) e) rest.0, rest.1)

-- a text that is cut at a character has it
pub has-middle : (c : ℕ) (text front back : List ℕ) → text ≡ front ++ c ∷ back → has c text ≡ true
has-middle c text front back e =
    ap (has c) e ∙ list_any-append (λ b. b == c) front (c ∷ back)
    ∙ or_right (has c front) (has c (c ∷ back)) (let same = eq-eqb c c refl in rw same)

-- a scope or a name has no character that has no place in a URL
pub part-lacks : (c : ℕ) (text : List ℕ) → is_url_byte c ≡ false → list_all is_url_byte text ≡ true
    → has c text ≡ false
part-lacks c [] odd each = refl
part-lacks c (b ∷ bs) odd each =
    let parts = and_parts (is_url_byte b) (list_all is_url_byte bs) each in
    or_from (b == c) (has c bs)
    (ne_eqb b c (λ e. let odd' : is_url_byte b ≡ false = rw e odd in let even = parts.0 in absurd (cc)))
    (part-lacks c bs odd parts.1)

pub part-bytes : (text : List ℕ) → is_part text ≡ true → list_all is_url_byte text ≡ true
part-bytes text is = (and_parts (not (length text == 0)) (list_all is_url_byte text) is).1

-- neither does a name that an alias may have hold an `@`
pub aliased-lacks : (is_scoped : Bool) (name : List ℕ) → IsAliased is_scoped name → has 64 name ≡ false
aliased-lacks false name is = part-lacks 64 name refl (part-bytes name is.0.part)
aliased-lacks true name is =
    ap (has 64) is.2 ∙ list_any-append (λ b. b == 64) is.0 (47 ∷ is.1)
    ∙ or_from (has 64 is.0) (has 64 (47 ∷ is.1)) (part-lacks 64 is.0 refl (part-bytes is.0 is.3))
    (part-lacks 64 is.1 refl (part-bytes is.1 is.4))

-- a name without a scope begins with no `@`
pub bare-no-sign : (name rest behind : List ℕ) → IsBareName name → name ++ behind ≢ 64 ∷ rest
bare-no-sign [] rest behind is e = let none = is.part in absurd (cc)
bare-no-sign (b ∷ bs) rest behind is e =
    let first : b ≡ 64 = ap (λ t. slice_index t 0) e in
    let unsigned = (or_parts (b == 64) (has 64 bs) (part-lacks 64 (b ∷ bs) refl (part-bytes (b ∷ bs) is.part))).0 in
    let holds = eq-eqb b 64 first in
    absurd (cc)

pub unsigned-by : (target text : List ℕ) → target ≡ 64 ∷ text → IsUnsigned target true text
unsigned-by target text e = record { whole = e; front = λ plain. absurd (cc) }

pub unsigned-plain : (target : List ℕ) → ((rest : List ℕ) → target ≢ encode_utf8 64 ++ rest)
    → IsUnsigned target false target
unsigned-plain target none = record {
  whole = refl;
  front = λ plain rest e. none rest (e ∙ ap (λ t. t ++ rest) (sym (encode_ascii 64 (omega arith))));
}

-- a text of a length other than 0
pub filled : (text : List ℕ) → (length text == 0) ≡ false → text ≢ []
filled text some e = let none : (length text == 0) ≡ true = rw e refl in absurd (cc)

pub signed : (b : Bool) (x y : List ℕ) → with_sign b (x ++ y) ≡ with_sign b x ++ y
signed true x y = refl
signed false x y = refl

-- the name in front of a text has an `@` in front just if the text has
pub one_front : (target text name behind : List ℕ) (is_scoped other : Bool) → IsUnsigned target is_scoped text
    → IsAliased other name → target ≡ with_sign other name ++ behind → (is_scoped ≡ other) × (text ≡ name ++ behind)
one_front target text name behind true true u is e = (refl, ap (drop 1) (sym u.whole ∙ e))
one_front target text name behind false false u is e = (refl, sym u.whole ∙ e)
one_front target text name behind true false u is e =
    absurd (bare-no-sign name text behind is.0 (sym e ∙ u.whole))
one_front target text name behind false true u is e = absurd (u.front refl (name ++ behind) e)

-- what has an `@` behind the name is no alias if the name is none, or the range is neither absent nor asked of a
-- registry
pub no_alias-cut : (target text name range : List ℕ) (is_scoped : Bool) → IsUnsigned target is_scoped text
    → text ≡ name ++ 64 ∷ range → has 64 name ≡ false
    → (¬ (IsAliased is_scoped name)) ⊎ ((range ≢ []) × (is_of_registry range ≡ false))
    → (other : List ℕ) → ¬ (IsAliasOf target other)
no_alias-cut target text name range is_scoped u cut unsigned bad other (ranged scoped n is e filled asked) =
    let same = one_front target text n (64 ∷ other) is_scoped scoped u is e in
    let one = one_cut 64 name range n other unsigned (aliased-lacks scoped n is) (sym cut ∙ same.1) in
    elim bad [
      | inl never ↦ never (subst (λ t. IsAliased is_scoped t) (sym one.0)
          (subst (λ b. IsAliased b n) (sym same.0) is))
      | inr never ↦ let holds : is_of_registry range ≡ true = rw one.1 asked in let off = never.1 in absurd (cc)
    ]
no_alias-cut target text name range is_scoped u cut unsigned bad other (any scoped n is (inl e) star) =
    let same = one_front target text n [] is_scoped scoped u is (e ∙ sym (append-nil (with_sign scoped n))) in
    let hmore = has-middle 64 text name range cut in
    let not = aliased-lacks scoped n is in
    let whole : text ≡ n = same.1 ∙ append-nil n in
    let off : has 64 text ≡ false = rw whole not in
    absurd (cc)
no_alias-cut target text name range is_scoped u cut unsigned bad other (any scoped n is (inr e) star) =
    let same = one_front target text n (64 ∷ []) is_scoped scoped u is e in
    let one = one_cut 64 name range n [] unsigned (aliased-lacks scoped n is) (sym cut ∙ same.1) in
    elim bad [
      | inl never ↦ never (subst (λ t. IsAliased is_scoped t) (sym one.0)
          (subst (λ b. IsAliased b n) (sym same.0) is))
      | inr never ↦ never.0 one.1
    ]
no_alias-cut target text name range is_scoped u cut unsigned bad other (alone none unnamed asked same) =
    let hmore = has-middle 64 target (with_sign is_scoped name) range
    (u.whole ∙ ap (with_sign is_scoped) cut ∙ signed is_scoped name (64 ∷ range)) in
    absurd (cc)

-- what has no `@` behind its front is no alias if it is neither a name nor, without one in front, asked of a
-- registry
pub no_alias-whole : (target text : List ℕ) (is_scoped : Bool) → IsUnsigned target is_scoped text
    → has 64 text ≡ false → ¬ (IsAliased is_scoped text)
    → (is_scoped ≡ true) ⊎ (is_of_registry text ≡ false) → (other : List ℕ) → ¬ (IsAliasOf target other)
no_alias-whole target text is_scoped u unsigned unnamed bad other (ranged scoped n is e filled asked) =
    let same = one_front target text n (64 ∷ other) is_scoped scoped u is e in
    let holds = has-middle 64 text n other same.1 in
    absurd (cc)
no_alias-whole target text is_scoped u unsigned unnamed bad other (any scoped n is (inl e) star) =
    let same = one_front target text n [] is_scoped scoped u is (e ∙ sym (append-nil (with_sign scoped n))) in
    unnamed (subst (λ t. IsAliased is_scoped t) (sym (same.1 ∙ append-nil n))
    (subst (λ b. IsAliased b n) (sym same.0) is))
no_alias-whole target text is_scoped u unsigned unnamed bad other (any scoped n is (inr e) star) =
    let same = one_front target text n (64 ∷ []) is_scoped scoped u is e in
    let holds = has-middle 64 text n [] same.1 in
    absurd (cc)
no_alias-whole target text true u unsigned unnamed bad other (alone none nameless asked same) =
    let holds = has-middle 64 target [] text u.whole in
    absurd (cc)
no_alias-whole target text false u unsigned unnamed bad other (alone none nameless asked same) =
    elim bad [
      | inl never ↦ absurd (cc)
      | inr never ↦ let holds : is_of_registry text ≡ true = rw (sym u.whole) asked in absurd (cc)
    ]

-- a name and nothing or a range behind an `@`
pub alias-whole : (target text name range : List ℕ) (is_scoped : Bool) → IsUnsigned target is_scoped text
    → text ≡ name ++ 64 ∷ range → target ≡ with_sign is_scoped name ++ 64 ∷ range
alias-whole target text name range is_scoped u cut =
    u.whole ∙ ap (with_sign is_scoped) cut ∙ signed is_scoped name (64 ∷ range)

pub alias-any : (target text name range : List ℕ) (is_scoped : Bool) → IsUnsigned target is_scoped text
    → text ≡ name ++ 64 ∷ range → IsAliased is_scoped name → (length range == 0) ≡ true
    → IsAliasOf target (codes "*")
alias-any target text name range is_scoped u cut is empty =
    any is_scoped name is (inr (alias-whole target text name range is_scoped u cut
    ∙ ap (λ t. with_sign is_scoped name ++ 64 ∷ t) (nil_from_length range (eqb-true (length range) 0 empty)))) refl

-- a range alone
pub alias-alone : (target text : List ℕ) (is_scoped : Bool) → IsUnsigned target is_scoped text → is_scoped ≡ false
    → has 64 text ≡ false → ¬ (IsAliased is_scoped text) → is_of_registry text ≡ true → IsAliasOf target text
alias-alone target text false u plain lack unnamed asked =
    alone (rw u.whole lack) (subst (λ t. ¬ (IsAliased false t)) (sym u.whole) unnamed) (rw u.whole asked)
    (sym u.whole)
alias-alone target text true u plain lack unnamed asked = absurd (cc)

-- what is left without whitespace at both ends is one text alone
pub one_trim : (text middle other : List ℕ) → IsTrim text middle → IsTrim text other → middle ≡ other
one_trim text middle other t u = middle_is_trim text middle t ∙ sym (middle_is_trim text other u)
