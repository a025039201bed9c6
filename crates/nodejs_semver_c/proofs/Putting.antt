-- A text that is put to the front of a buffer piece by piece.
use Rattle.std.proofs.Common.{◌≡◌, ◌<◌, ◌≤◌, ◌+◌, ◌-◌, ◌^◌, ◌++◌, ℕ, List, [], append-nil, append_assoc, arith, inl, length}
use Rattle.std.proofs.Common.{inr, length-append, min, refl, replicate, sym, take}
use Rattle.std.proofs.lemmas.List.{length-replicate, length-take-le, take-append-drop}
use Rattle.std.specs.Prelude.{nat_le}
use Rattle.nodejs_semver.proofs.Common.{cases_Bool, nat_tests}
use Rattle.nodejs_semver_c.specs.Answers.{Prints}
use Rattle.nodejs_semver_c.specs.Internal.Pieces.{Adds, Holds}

pub adds_then : {a b o1 o2 o3 : List ℕ} {l1 l2 l3 : ℕ} → Adds a o1 o2 l1 l2 → Adds b o2 o3 l2 l3 → Adds (a ++ b) o1 o3 l1 l3
adds_then {a} {b} f g =
    record { at = λ old text h. rw (append_assoc text a b) at (g.at old (text ++ a) (f.at old text h)) }

pub adds_same : {a b o1 o2 : List ℕ} {l1 l2 : ℕ} → a ≡ b → Adds a o1 o2 l1 l2 → Adds b o1 o2 l1 l2
adds_same e f = rw e at f

pub adds_nothing : (out : List ℕ) (len : ℕ) → Adds [] out out len len
adds_nothing out len = record { at = λ old text h. rw (append-nil text) h }

nothing_held : (out : List ℕ) → Holds out [] out 0
nothing_held out = record { counted = refl; room = refl; front = λ fits small. refl }

-- what stands in a buffer, and is counted, after a text is put to its front
module _ (text old new : List ℕ) (end : ℕ) (adds : Adds text old new 0 end) where
  pub put_first : Holds old text new end
  put_first = adds.at old [] (nothing_held old)

  pub printed : (len needed : ℕ) → needed ≡ min (length text) (2 ^ 64 - 1) → needed < 2 ^ 63 → needed ≤ length old
      → Prints text old new len needed 0
  printed len needed e small fits =
      let counted : needed ≡ length text = grind (arith, e, small) in
      inl (counted, inl (refl, put_first.front (rw counted at fits) (rw counted at small)))

-- how far the length grows: what stands at the front of a buffer is the text that was put before, or any where it has no room
adds_grows : (text old new : List ℕ) (start end : ℕ) → Adds text old new start end → start < 2 ^ 64
    → end ≡ min (start + length text) (2 ^ 64 - 1)
adds_grows text old new start end adds small = elim (cases_Bool (nat_le start (length old))) [
  | inl within ↦
      let le : start ≤ length old = grind (arith, nat_tests, within) in
      let front = take start old in
      let count : length front ≡ start = length-take-le start old le in
      let held : Holds old front old start = record {
        counted = grind (arith, count, small);
        room = refl;
        front = λ fits short. rw count (sym (take-append-drop start old));
      } in
      grind (arith, length-append, count, (adds.at old front held).counted)
  | inr beyond ↦
      let front = replicate start 0 in
      let count : length front ≡ start = length-replicate start 0 in
      let held : Holds old front old start = record {
        counted = grind (arith, count, small);
        room = refl;
        front = λ fits short. absurd (grind (arith, nat_tests, beyond, count, fits));
      } in
      grind (arith, length-append, count, (adds.at old front held).counted)
]

-- so the lengths of the texts are counted
pub adds_after : (text old new : List ℕ) (start end : ℕ) → Adds text old new start end → start < 2 ^ 64
    → (start ≤ end) × (end < 2 ^ 64)
adds_after text old new start end adds small =
    let grows = adds_grows text old new start end adds small in (omega (arith, grows, small), omega (arith, grows))

pub adds_length : (text old new : List ℕ) (start end : ℕ) → Adds text old new start end → start < 2 ^ 64 → end < 2 ^ 64 - 1
    → end - start ≡ length text
adds_length text old new start end adds small more =
    let grows = adds_grows text old new start end adds small in omega (arith, grows, small, more)
