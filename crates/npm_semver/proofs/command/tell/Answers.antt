use Rattle.std.proofs.Common.{Bool, List, Result, Ok, Err, OnOk, [], append_assoc, ap, arith, codes, if◌then◌else◌, is_ok, is_some, string_bytes, sym, true, ℕ, ◌++◌, ◌∙◌, ◌∷◌, ◌≡◌}
use Rattle.std.proofs.lemmas.List.{append-nil}
use Rattle.npm_semver.specs.Outcomes.{IsTold}
use Rattle.npm_semver.specs.Outcomes.IsTold.{line, nothing}
use Rattle.npm_semver.proofs.command.tell.Goals as goal

-- a line is appended in three parts
told : {U E : Type 0} (pushed : Result U E) (is : Bool) (old before after words end : List ℕ) → is ≡ true → end ≡ 10 ∷ []
    → before ≡ (old ++ codes "semver: ") ++ words → after ≡ (if is_ok pushed then before ++ end else before)
    → OnOk pushed ((x : List ℕ) × IsTold is x × (after ≡ old ++ x))
told (Ok u) is old before after words end some ten are e = (
  codes "semver: " ++ (words ++ 10 ∷ []),
  rw some (line words),
  e ∙ rw (ten, are) (append_assoc (old ++ codes "semver: ") words (10 ∷ []) ∙ append_assoc old (codes "semver: ") (words ++ 10 ∷ [])),
)
told (Err e) is old before after words end some ten are is_before = tt

pub returns-in_default : goal.returns-in_default
returns-in_default g c = ([], rw c.in_default.is nothing, sym (append-nil _))

pub returns : goal.returns
returns g c = told c.push.result _ (string_bytes c.args.errors.now) (string_bytes c.push_str-2.new.self) (string_bytes c.push.new.self)
    c.deref.result.now _ (ap is_some c.in-Some.is) (c.push.ensures.ascii (omega arith))
    (c.in_ok-push_str-2.ensures.bytes ∙ ap (λ (text : List ℕ). text ++ c.deref.result.now) c.in_ok-push_str.ensures.bytes) c.push.ensures.bytes
