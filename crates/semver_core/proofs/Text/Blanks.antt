-- Whitespace, character by character.
use Rattle.semver_core.proofs.Common.{BeginsBlank, IsAfterBlank, IsBlank, is_whitespace, List, [], ap, append-nil, arith, drop}
use Rattle.semver_core.proofs.Common.{false, length, refl, sym, take, true, ℕ, ◌++◌, ◌+◌, ◌-◌, ◌∙◌, ◌∷◌, ◌≡◌, ◌≤◌, drop-drop}
use Rattle.semver_core.proofs.Common.{length-drop, len_utf8, encode_utf8, list_all, IsCharBoundary, IsUtf8, encode_utf8_all}
use Rattle.semver_core.proofs.Common.{slice_range, take-add, drop_at, take_at, list_all-append, IsUtf8-drop, encode_same}
use Rattle.semver_core.proofs.Common.{encodes-append, len_utf8_bounds, length-encode, take_all}
use Rattle.std.proofs.{Common.length-append, lemmas.Str.{IsCharBoundary-past_char, utf8_valid_len-IsUtf8}}
use Rattle.std.specs.Str.Lossy.{utf8_valid_len}
use mathlib.Core.Bool.{true≢false}

-- how far whitespace has been passed
pub record Passed (text : List ℕ) (at end : ℕ) (rest passed : List ℕ) : Type 0 where
  pub after : at ≤ end
  pub boundary : IsCharBoundary text end
  pub rest_is : rest ≡ drop end text
  pub blank : take (end - at) (drop at text) ≡ encode_utf8_all passed
  pub each : list_all is_whitespace passed ≡ true

pub passed_none : (text : List ℕ) (at : ℕ) (rest : List ℕ) → IsCharBoundary text at → rest ≡ drop at text → Passed text at at rest []
passed_none text at rest b e =
    record { after = omega arith; boundary = b; rest_is = e; blank = grind arith; each = refl }

pub passed_room : (text : List ℕ) (at end : ℕ) (rest passed next : List ℕ) (c n : ℕ) → Passed text at end rest passed → rest ≡ encode_utf8 c ++ next → n ≡ len_utf8 c
    → end + n ≤ length text
passed_room text at end rest passed next c n p e is =
    omega (arith, p.boundary.0, ap length (sym p.rest_is ∙ e), length-append (encode_utf8 c) next, length-encode c, length-drop end text)

pub passed_more : (text : List ℕ) (at end : ℕ) (rest passed next : List ℕ) (c n : ℕ) → IsUtf8 text → Passed text at end rest passed → rest ≡ encode_utf8 c ++ next
    → is_whitespace c ≡ true → n ≡ len_utf8 c → Passed text at (end + n) next (passed ++ c ∷ [])
passed_more text at end rest passed next c n u p e white is =
    let front : drop end text ≡ encode_utf8 c ++ next = sym p.rest_is ∙ e in
    let size : length (encode_utf8 c) ≡ n = length-encode c ∙ sym is in
    let count : end + n - at ≡ end - at + n = omega (arith, p.after) in
    let place : at + (end - at) ≡ end = omega (arith, p.after) in
    let taken : take n (drop (end - at) (drop at text)) ≡ encode_utf8 c ++ [] =
    rw (drop-drop (end - at) at text, place, front, take_at (encode_utf8 c) next n size) (sym (append-nil (encode_utf8 c))) in
    record {
      after = omega (arith, p.after);
      boundary = rw is (IsCharBoundary-past_char text next end c p.boundary.0 (IsUtf8-drop text end u p.boundary) front);
      rest_is = rw (← drop-drop n end text, front) (sym (drop_at (encode_utf8 c) next n size));
      blank = rw (count, take-add (end - at) n (drop at text), p.blank, taken) (sym (encodes-append passed (c ∷ [])));
      each = rw (list_all-append, p.each, white) refl;
    }

after_passed : (text : List ℕ) (at end : ℕ) (rest passed : List ℕ) → Passed text at end rest passed
    → (BeginsBlank (drop end text) → ⊥) → IsAfterBlank text at end
after_passed text at end rest passed p never =
    let blank : IsBlank (slice_range text at end) = record { characters = passed; each = p.each; spelled = p.blank } in
    record { after = p.after; boundary = p.boundary; blank = blank; ended = never }

pub passed_stop : (text : List ℕ) (at end : ℕ) (rest passed next : List ℕ) (c : ℕ) → Passed text at end rest passed → rest ≡ encode_utf8 c ++ next
    → is_whitespace c ≡ false → IsAfterBlank text at end
passed_stop text at end rest passed next c p e dark = after_passed text at end rest passed p (λ b.
    let same = encode_same c b.character next b.rest (sym (sym p.rest_is ∙ e) ∙ b.spelled) in
    true≢false (sym b.passes ∙ ap is_whitespace (sym same.0) ∙ dark))

pub passed_end : (text : List ℕ) (at end : ℕ) (rest passed : List ℕ) → Passed text at end rest passed → length rest ≡ 0 → IsAfterBlank text at end
passed_end text at end rest passed p none = after_passed text at end rest passed p (λ b.
    let size = length-append (encode_utf8 b.character) b.rest in
    let some = (len_utf8_bounds b.character).0 in
    absurd (omega (arith, none, ap length (p.rest_is ∙ b.spelled), size, length-encode b.character, some)))

pub ruleset passing = (passed_none, passed_more, passed_room, passed_stop, passed_end)

-- ---- The longest front of some bytes that is a text.

pub no_front : (bytes : List ℕ) → length bytes ≡ 0 → [] ≡ take (utf8_valid_len bytes) bytes
unfolding utf8_valid_len
no_front bytes e = grind arith

pub front_is : (bytes valid invalid rest : List ℕ) → bytes ≡ valid ++ (invalid ++ rest) → length valid ≡ utf8_valid_len bytes
    → valid ≡ take (utf8_valid_len bytes) bytes
front_is bytes valid invalid rest parts size =
    sym (ap (take (utf8_valid_len bytes)) parts ∙ take_at valid (invalid ++ rest) (utf8_valid_len bytes) size)

pub front_is_all : (bytes front : List ℕ) → front ≡ take (utf8_valid_len bytes) bytes → IsUtf8 bytes → front ≡ bytes
front_is_all bytes front e u = grind (arith, utf8_valid_len-IsUtf8, take_all)

pub ruleset text_fronts = (no_front, front_is, front_is_all)
