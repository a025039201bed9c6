-- The text of which a key is read: the bytes of the key below 255, without the end.
use Rattle.semver_core.proofs.Common.{ℕ, ◌≡◌, ◌<◌, ◌≤◌, ◌-◌, ◌++◌, ◌∷◌, Bool, List, [], IsUtf8, arith, length, refl}
use Rattle.semver_core.proofs.Common.{take, true, IsScalar, list_all, take-append_seam, nat_tests}
use Rattle.semver_core.proofs.Common.{take_all, list_all-append}
use Rattle.std.specs.Prelude.{nat_lt}
use Rattle.std.specs.List.{filter}
use Rattle.std.proofs.Math.Logic.{⊎_elim}
use Rattle.std.proofs.Math.Utf8.{encode, encodes, scalar_cases, scalars}
use Rattle.std.proofs.lemmas.Grind.{common_steps}
use Rattle.semver_core.specs.Internal.KeyReading.{IsTextKey}
use Rattle.semver_core.specs.Keys.{text_key}

abbrev pub is_low : ℕ → Bool
is_low byte = nat_lt byte 255

-- no byte of a text in UTF-8 is 255
low_bytes : (c : ℕ) → IsScalar c → list_all is_low (encode c) ≡ true
unfolding lib.Utf8.encode
low_bytes c s =
    let small : c < 1114112 = ⊎_elim (λ h. omega (arith, h)) (λ h. h.1) (scalar_cases c s) in
    grind (arith, nat_tests)

all_low : (cs : List ℕ) → scalars cs ≡ true → list_all is_low (encodes cs) ≡ true
all_low [] h = refl
all_low (c ∷ cs) h = grind (arith, list_all-append, low_bytes c, all_low cs)

kept : (text : List ℕ) → list_all is_low text ≡ true → filter is_low (text_key text) ≡ text ++ 0 ∷ []
kept [] h = refl
kept (c ∷ text) h = grind (arith, nat_tests, kept text)

pub text_back : (key out last : List ℕ) (len at : ℕ) → IsTextKey key → out ≡ filter is_low (take at key) → length key ≤ at
    → last ≡ take (len - 1) out → len ≡ length out → IsUtf8 last × (text_key last ≡ key)
text_back key out last len at (text, utf8, e) f all g count =
    let whole : out ≡ text ++ 0 ∷ [] = rw (f, take_all at key, e) (kept text (rw utf8.1.1 at (all_low utf8.0 utf8.1.0))) in
    let same : last ≡ text = grind (arith, common_steps, take-append_seam) in
    rw same (utf8, cc)
