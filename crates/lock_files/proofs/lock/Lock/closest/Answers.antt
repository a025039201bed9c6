use Rattle.std.proofs.Common.{None, arith, length, length-append, ◌∙◌, ◌≡◌, ◌++◌, ◌∷◌, ◌<◌, ap, drop, rules, false, subst, sym, take, take-append-drop, ℕ, List, IsUtf8}
use Rattle.std.proofs.lemmas.Str.{IsCharBoundary-before_ascii, IsUtf8-take}
use Rattle.std.proofs.lemmas.Str.Pattern.{drop_at_char}
use Rattle.lock_files.proofs.Around.{all-around, around-above, longer-above}
use Rattle.lock_files.proofs.Parts.{has-from_contains}
use Rattle.lock_files.specs.Lookups.{IsAt, installed}
use Rattle.lock_files.specs.Specifiers.{has}
use Rattle.lock_files.proofs.lock.Lock.closest.Goals as goal

pub loop-found-preserved : goal.loop-found-preserved
loop-found-preserved c =
    let e = c.in-Some-rsplit_once.ensures.cases in
    let P : List ℕ → Type 0 = λ p. IsAt c.args.self (installed p c.args.name.now) None in
    let place : List ℕ = c.loop-found.place.now in
    let behind : List ℕ = drop e.1 place in
    let cut : place ≡ c.in-Some-rsplit_once.above.now ++ 47 ∷ behind
    = sym (take-append-drop e.0 place) ∙ ap (λ t. take e.0 place ++ t) (drop_at_char 47 place e.0 e.1 e.2.1 (omega arith))
    ∙ ap (λ t. t ++ 47 ∷ behind) (sym e.3) in
    let last : has 47 behind ≡ false = sym (has-from_contains 47 behind false (omega arith) e.2.0) in (
      subst IsUtf8 (sym e.3) (IsUtf8-take place e.0 c.loop-found.invariant.0 (IsCharBoundary-before_ascii place e.0
          (omega (arith, ap length cut, length-append c.in-Some-rsplit_once.above.now (47 ∷ behind), e.6)) (subst (λ b. b < 128) (sym (e.2.1.byte (omega arith))) (omega arith)))),
      (
        around-above P c.args.folder.now place c.in-Some-rsplit_once.above.now behind c.loop-found.invariant.1.0 cut,
        longer-above P c.args.folder.now place c.in-Some-rsplit_once.above.now behind c.loop-found.invariant.1.0 cut last (search rules) c.loop-found.invariant.1.1,
      ),
    )

pub returns-in-None : goal.returns-in-None
returns-in-None c =
    let last : has 47 c.loop-found.place.now ≡ false = sym (has-from_contains 47 c.loop-found.place.now false (omega arith) c.in-None.ensures.cases) in
    all-around (λ p. IsAt c.args.self (installed p c.args.name.now) None) c.args.folder.now c.loop-found.place.now c.loop-found.invariant.1.0 last (search rules) c.loop-found.invariant.1.1
