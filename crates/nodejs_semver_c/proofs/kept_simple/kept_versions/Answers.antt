use Rattle.std.proofs.Common.{◌≡◌, ◌<◌, arith, inl, inr, length, sym, true≢false}
use Rattle.std.proofs.lemmas.Result.{err_from_is_err_and}
use Rattle.nodejs_semver_c.proofs.kept_simple.kept_versions.Goals as goal

pub returns-in_default-clause-refused : goal.returns-in_default-clause-refused
returns-in_default-clause-refused c =
    let none : length c.args.versions.now ≡ 0 → ⊥ = λ e. true≢false (sym (c.in_default.ensures.succeeds e)) in
    let some : 0 < length c.args.versions.now = omega (arith, none) in
    elim c.fault_without_memory.ensures [ inl first ↦ inl first | inr missing ↦ inr (missing.0, missing.1, (some, missing.2)) ]

pub returns-in_err-fill-clause-refused : goal.returns-in_err-fill-clause-refused
returns-in_err-fill-clause-refused c =
    let p = err_from_is_err_and c.from_residual.result c.from_residual.ensures.1 in
    rw (p.1, p.2) (inl c.in_err-fill.ensures.refused)
