-- The identifiers of a pre-release inside a malformed word: the longest list at the front of a text.
use Rattle.npm_words.proofs.Common.{Bool, List, [], all_weaker, and_parts, ap, append_assoc, arith, begins, begins_byte, begins_identifier}
use Rattle.npm_words.proofs.Common.{cases_Bool, common_steps, drop, empty_is, false, has_leading_zero, if◌then◌else◌, inl, inr, is_ascii_digit}
use Rattle.npm_words.proofs.Common.{is_empty, join_with_byte, length, length-append, length-drop, list_all, nat_tests, not, pieces, prefix_len, refl}
use Rattle.npm_words.proofs.Common.{suc, sym, take, take-append-drop, take_rest, true, zero, ℕ, ◌&&◌, ◌++◌, ◌+◌, ◌<◌, ◌==◌, ◌||◌, ◌∙◌, ◌∷◌, ◌≡◌, ◌≤◌}
use Rattle.npm_words.proofs.Grammar.{Runs.{run-exact, run-many, steps-go, steps-stop, while-on}, VersionLaw.At}
use Rattle.{npm_words.specs.Internal.Inside.{begins_dotted_id, behind_id, behind_ids}, semver_core.proofs.Printing.Returns.pieces_joined}
use Rattle.semver_core.proofs.{Reading.{Bytes.begins-some, Qualifiers.byte-begins}, Text.Runs.{not_dot, prefix_each}}
use Rattle.semver_core.specs.Text.{Characters.is_identifier_char, Identifiers.{goes_on, is_identifier}}
use Rattle.std.proofs.lemmas.List.Splits.{join_with_byte-slice_split, length-slice_split}

pub drop-le : (n : ℕ) (x rest : List ℕ) → length x ≤ n → length (drop n (x ++ rest)) ≤ length rest
drop-le n x rest h = omega (arith, h, length-drop n (x ++ rest), length-append x rest)

-- ---- one identifier

-- an identifier: a number, strictly without a leading zero, or a text that does not begin with a digit
abbrev pub is_good : Bool → List ℕ → Bool
is_good strict id = is_identifier id && ((list_all is_ascii_digit id || not (begins is_ascii_digit id))
    && not (strict && (list_all is_ascii_digit id && has_leading_zero id)))

-- the characters of an identifier that begins with this one
abbrev class : ℕ → ℕ → Bool
class c = if is_ascii_digit c then is_ascii_digit else is_identifier_char

-- a digit is a character of identifiers
digit-char : (c : ℕ) → is_ascii_digit c ≡ true → is_identifier_char c ≡ true
digit-char c h = grind (arith, nat_tests, common_steps)

-- an identifier goes on with its characters, and strictly one `0` alone begins with it
good-is : (strict : Bool) (c : ℕ) (id : List ℕ) → is_good strict (c ∷ id) ≡ (list_all (class c) (c ∷ id) && (not (strict && (c == 48)) || is_empty id))
good-is strict c id =
    let each = all_weaker is_ascii_digit is_identifier_char digit-char id in grind (arith, nat_tests, common_steps, digit-char c)

behind-is : (strict : Bool) (c : ℕ) (text : List ℕ)
    → behind_id strict (c ∷ text) ≡ (if strict && (c == 48) then text else drop (prefix_len (class c) (c ∷ text)) (c ∷ text))
unfolding behind_id
behind-is strict c text = grind (arith, nat_tests)

-- what is left behind something: no more than stood behind it, and exactly that where nothing goes on there
pub record Behind (goes : List ℕ → Bool) (rest left : List ℕ) : Type 0 where
  pub le : length left ≤ length rest
  pub exact : goes rest ≡ false → left ≡ rest

good-behind : (strict : Bool) (id rest : List ℕ) → is_good strict id ≡ true → Behind (begins is_identifier_char) rest (behind_id strict (id ++ rest))
good-behind strict [] rest h = cc h
good-behind strict (c ∷ id) rest h =
    let p = and_parts (list_all (class c) (c ∷ id)) (not (strict && (c == 48)) || is_empty id) (sym (good-is strict c id) ∙ h) in
    rw (behind-is strict c (id ++ rest)) (elim (cases_Bool (strict && (c == 48))) [
      | inl null ↦ rw (null, empty_is id (rw null at p.1)) (record { le = omega arith; exact = λ q. refl })
      | inr plain ↦ rw plain (record {
        le = drop-le _ (c ∷ id) rest (omega (arith, run-many (class c) (c ∷ id) rest p.0));
        exact = λ q. run-exact (class c) (c ∷ id) rest p.0 (quiet rest q);
      })
    ])
  where
    quiet : (rest : List ℕ) → begins is_identifier_char rest ≡ false → begins (class c) rest ≡ false
    quiet rest q = grind (arith, digit-char)

pub id-le : (strict : Bool) (text : List ℕ) → length (behind_id strict text) ≤ length text
unfolding behind_id
id-le strict text = grind (arith, length-drop, nat_tests)

-- ---- lists

pub ids-le : (n : ℕ) (strict : Bool) (text : List ℕ) → length (behind_ids n strict text) ≤ length text
unfolding behind_ids
ids-le zero strict text = omega arith
ids-le (suc n) strict text = grind (arith, id-le strict text, length-drop, ids-le n strict (drop 1 (behind_id strict text)))

-- what stands behind a dot is shorter
pub dot-less : (strict : Bool) (text : List ℕ) → begins_dotted_id (behind_id strict text) ≡ true → length (drop 1 (behind_id strict text)) < length text
dot-less strict text h = grind (arith, id-le strict text)

-- ---- the loop

ids-none : (strict : Bool) → behind_ids 0 strict [] ≡ behind_id strict []
unfolding behind_ids behind_id
ids-none strict = refl

ids-step : (strict : Bool) (n : ℕ) (text : List ℕ) → behind_ids (suc n) strict text
    ≡ (if begins_dotted_id (behind_id strict text) then behind_ids n strict (drop 1 (behind_id strict text)) else behind_id strict text)
unfolding behind_ids
ids-step strict n text = refl

pub ids-stop : (strict : Bool) (text : List ℕ) → begins_dotted_id (behind_id strict text) ≡ false → behind_ids (length text) strict text ≡ behind_id strict text
ids-stop strict = steps-stop (λ n. behind_ids n strict) _ _ _ (ids-none strict) (ids-step strict) (dot-less strict)

pub ids-go : (strict : Bool) (text : List ℕ) → begins_dotted_id (behind_id strict text) ≡ true
    → behind_ids (length text) strict text ≡ (let next = drop 1 (behind_id strict text) in behind_ids (length next) strict next)
ids-go strict = steps-go (λ n. behind_ids n strict) _ _ _ (ids-none strict) (ids-step strict) (dot-less strict)

pub ruleset ids_steps = (ids-stop, ids-go, dot-less, take_rest, nat_tests)

-- ---- what is read is a list, and it is the longest

-- texts of identifiers joined by dots, each good
abbrev pub are_good : Bool → List ℕ → Bool
are_good strict text = list_all (is_good strict) (pieces text)

-- the pieces of a text that an identifier begins
pieces-next : (id rest : List ℕ) → list_all is_identifier_char id ≡ true → pieces (id ++ 46 ∷ rest) ≡ id ∷ pieces rest
pieces-next [] rest h = refl
pieces-next (c ∷ id) rest h = grind (arith, common_steps, not_dot c, pieces-next id rest)

id-found : (strict : Bool) (text : List ℕ) → begins_identifier text ≡ true → At (λ id s. is_good s id ≡ true) text strict (behind_id strict text)
id-found strict [] h = cc h
id-found strict (c ∷ text) h = rw (behind-is strict c text) (elim (cases_Bool (strict && (c == 48))) [
  | inl null ↦ rw null (record { piece = c ∷ []; split = refl; is = good-is strict c [] ∙ grind arith })
  | inr plain ↦
      let n = prefix_len (class c) (c ∷ text) in
      let first = while-on (class c) c text (grind arith) in
      rw plain (record {
        piece = take n (c ∷ text);
        split = sym (take-append-drop n (c ∷ text));
        is = rw first (good-is strict c _ ∙ rw (rw first at (prefix_each (class c) (c ∷ text)), plain) refl);
      })
])

pub ids-found : (n : ℕ) (strict : Bool) (text : List ℕ) → begins_identifier text ≡ true → length text ≤ n
    → At (λ ids s. are_good s ids ≡ true) text strict (behind_ids n strict text)
unfolding behind_ids
ids-found zero strict text h k = absurd (omega (arith, k, begins-some is_identifier_char text h))
ids-found (suc n) strict text h k =
    let one = id-found strict text h in
    let rest = behind_id strict text in
    let each : list_all is_identifier_char one.piece ≡ true = grind (arith, one.is) in
    elim (cases_Bool (begins_dotted_id rest)) [
      | inr stop ↦ rw stop (record { piece = one.piece; split = one.split; is = rw (pieces_joined one.piece [] (grind (arith, one.is)), one.is) refl })
      | inl on ↦
          let p = and_parts (begins_byte 46 rest) (begins_identifier (drop 1 rest)) on in
          let r = ids-found n strict (drop 1 rest) p.1 (omega (arith, dot-less strict text on, k)) in
          rw on (record {
            piece = one.piece ++ 46 ∷ r.piece;
            split = one.split ∙ ap (λ (t : List ℕ). one.piece ++ t) (byte-begins 46 rest p.0 ∙ ap (λ (t : List ℕ). 46 ∷ t) r.split)
                ∙ sym (append_assoc one.piece (46 ∷ r.piece) (behind_ids n strict (drop 1 rest)));
            is = rw (pieces-next one.piece r.piece each, one.is) r.is;
          })
    ]

begins-good : (strict : Bool) (ps : List (List ℕ)) (rest : List ℕ) → list_all (is_good strict) ps ≡ true → 0 < length ps
    → begins_identifier (join_with_byte 46 ps ++ rest) ≡ true
begins-good strict [] rest h some = absurd (omega (arith, some))
begins-good strict ([] ∷ ps) rest h some = cc h
begins-good strict ((c ∷ id) ∷ []) rest h some = grind arith
begins-good strict ((c ∷ id) ∷ p ∷ ps) rest h some = grind arith

-- no less is read than a list that stands there, and no more where it does not go on
behind-each : (n : ℕ) (strict : Bool) (ps : List (List ℕ)) (rest : List ℕ) → list_all (is_good strict) ps ≡ true → 0 < length ps
    → length (join_with_byte 46 ps ++ rest) ≤ n → Behind goes_on rest (behind_ids n strict (join_with_byte 46 ps ++ rest))
behind-each n strict [] rest h some k = absurd (omega (arith, some))
behind-each zero strict ps rest h some k =
    absurd (omega (arith, k, begins-some is_identifier_char (join_with_byte 46 ps ++ rest) (begins-good strict ps rest h some)))
behind-each (suc n) strict (id ∷ []) rest h some k =
    let g = good-behind strict id rest (and_parts (is_good strict id) true h).0 in
    let quiet : goes_on rest ≡ false → (begins is_identifier_char rest ≡ false) × (begins_dotted_id rest ≡ false) = λ q. (grind arith, grind arith) in
    record {
      le = grind (arith, ids-step strict n (id ++ rest), length-drop, ids-le n strict (drop 1 (behind_id strict (id ++ rest))), g.le);
      exact = λ q. ids-step strict n (id ++ rest) ∙ rw (g.exact (quiet q).0, (quiet q).1) refl;
    }
behind-each (suc n) strict (id ∷ p ∷ ps) rest h some k =
    let others = join_with_byte 46 (p ∷ ps) in
    let each = and_parts (is_good strict id) (list_all (is_good strict) (p ∷ ps)) h in
    let whole : (id ++ 46 ∷ others) ++ rest ≡ id ++ 46 ∷ (others ++ rest) = append_assoc id (46 ∷ others) rest in
    let first : behind_id strict (id ++ 46 ∷ (others ++ rest)) ≡ 46 ∷ (others ++ rest) =
    (good-behind strict id (46 ∷ (others ++ rest)) each.0).exact refl in
    let on : behind_ids (suc n) strict ((id ++ 46 ∷ others) ++ rest) ≡ behind_ids n strict (others ++ rest) =
    rw whole (ids-step strict n (id ++ 46 ∷ (others ++ rest)) ∙ rw (first, begins-good strict (p ∷ ps) rest each.1 (omega arith)) refl) in
    rw on (behind-each n strict (p ∷ ps) rest each.1 (omega arith) (omega (arith, k, ap length whole, length-append id (46 ∷ (others ++ rest)))))

module _ (strict : Bool) (ids rest : List ℕ) (h : are_good strict ids ≡ true) where
  some : 0 < length (pieces ids)
  some = omega (arith, length-slice_split (λ b. b == 46) ids)

  pub ids-ends : Behind goes_on rest (behind_ids (length (ids ++ rest)) strict (ids ++ rest))
  ids-ends = rw join_with_byte-slice_split at (behind-each (length (join_with_byte 46 (pieces ids) ++ rest)) strict (pieces ids) rest h some (omega arith))

  pub ids-begin : begins_identifier (ids ++ rest) ≡ true
  ids-begin = rw join_with_byte-slice_split at (begins-good strict (pieces ids) rest h some)
