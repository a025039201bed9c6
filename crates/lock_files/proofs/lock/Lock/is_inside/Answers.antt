use Rattle.std.proofs.Common.{arith, length, length-append, ◌∙◌, ◌≡◌, ◌++◌, ◌∷◌, ◌<◌, ap, drop, false, inr, subst, sym, take, take-append-drop, ℕ, List, IsUtf8}
use Rattle.std.proofs.lemmas.Str.{IsCharBoundary-before_ascii, IsUtf8-take}
use Rattle.std.proofs.lemmas.Str.Pattern.{drop_at_char}
use Rattle.lock_files.proofs.Around.{all-around, around-above, longer-above}
use Rattle.lock_files.proofs.Parts.{has-from_contains}
use Rattle.lock_files.specs.Lookups.{LocksIn}
use Rattle.lock_files.specs.Specifiers.{has}
use Rattle.lock_files.proofs.lock.Lock.is_inside.Goals as goal

pub loop-place-preserved : goal.loop-place-preserved
loop-place-preserved c =
    let e = c.in-Some.ensures.cases in
    let P : List ℕ → Type 0 = λ p. ¬ (LocksIn c.args.self p c.args.folder.now) in
    let place : List ℕ = c.loop-place.place.now in
    let behind : List ℕ = drop e.1 place in
    let cut : place ≡ c.in-Some.above.now ++ 47 ∷ behind
    = sym (take-append-drop e.0 place) ∙ ap (λ t. take e.0 place ++ t) (drop_at_char 47 place e.0 e.1 e.2.1 (omega arith))
    ∙ ap (λ t. t ++ 47 ∷ behind) (sym e.3) in
    let last : has 47 behind ≡ false = sym (has-from_contains 47 behind false (omega arith) e.2.0) in (
      subst IsUtf8 (sym e.3) (IsUtf8-take place e.0 c.loop-place.invariant.0 (IsCharBoundary-before_ascii place e.0
          (omega (arith, ap length cut, length-append c.in-Some.above.now (47 ∷ behind), e.6)) (subst (λ b. b < 128) (sym (e.2.1.byte (omega arith))) (omega arith)))),
      (
        around-above P c.args.folder.now place c.in-Some.above.now behind c.loop-place.invariant.1.0 cut,
        longer-above P c.args.folder.now place c.in-Some.above.now behind c.loop-place.invariant.1.0 cut last
            (λ has. let on = c.locks_in.ensures.1 has in let off = c.if-locks_in.false in absurd (cc)) c.loop-place.invariant.1.1,
      ),
    )

pub returns-in-None : goal.returns-in-None
returns-in-None c =
    let P : List ℕ → Type 0 = λ p. ¬ (LocksIn c.args.self p c.args.folder.now) in
    let last : has 47 c.loop-place.place.now ≡ false = sym (has-from_contains 47 c.loop-place.place.now false (omega arith) c.in-None.ensures.cases) in
    let none = all-around P c.args.folder.now c.loop-place.place.now c.loop-place.invariant.1.0 last
    (λ has. let on = c.locks_in.ensures.1 has in let off = c.if-locks_in.false in absurd (cc)) c.loop-place.invariant.1.1 in (
      λ on. absurd (cc),
      λ has. absurd (none has.0 (inr (_, has.1.0.1)) has.1),
    )
