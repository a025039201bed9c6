use Rattle.std.proofs.Common.{append_assoc, arith, zero, suc, List, ℕ, ◌≡◌, ◌∷◌, ◌+◌, ◌==◌, drop, get_or, refl}
use Rattle.std.proofs.lemmas.Bool.Decides.{nat_tests}
use Rattle.std.proofs.lemmas.List.{drop_more}
use Rattle.std.specs.Prelude.{if◌then◌else◌}
use Rattle.semver_core.specs.Keys.{text_key}
use Rattle.semver_core.proofs.keys.write.write_text.Goals.{then-byte-eq0, else-byte-eq0}
use Rattle.semver_core.proofs.keys.write.write_text.Goals as goal

-- the key of a text, by its first byte
key_next : (c : ℕ) (rest : List ℕ) → text_key (c ∷ rest) ≡ (if c == 0 then 0 ∷ 255 ∷ text_key rest else c ∷ text_key rest)
key_next zero rest = refl
key_next (suc c) rest = grind (arith, nat_tests)

pub loop-byte-preserved : goal.loop-byte-preserved
loop-byte-preserved c =
    let bytes : List ℕ = c.as_bytes-byte-items.result.now in
    let i : ℕ = c.loop-byte.byte-index in
    let left = drop_more bytes i 0 c.loop-byte-test.true in
    let next = key_next (get_or bytes i 0) (drop (i + 1) bytes) in
    elim c.if-byte-eq0.branch [
      | then-byte-eq0 w ↦ rw w.bytes-is (grind (arith, nat_tests, append_assoc))
      | else-byte-eq0 w ↦ rw w.bytes-is (grind (arith, nat_tests, append_assoc))
    ]
