use Rattle.std.proofs.Common.{◌∙◌, arith, inl, inr, refl, sym}
use Rattle.std.proofs.lemmas.Bool.{iff_false}
use Rattle.lock_files.specs.Specifiers.IsAliasOf.{any, ranged}
use Rattle.lock_files.proofs.Parts.{alias-alone, alias-any, alias-whole, cut_at, filled, no_alias-cut}
use Rattle.lock_files.proofs.Parts.{no_alias-whole, uncut}
use Rattle.lock_files.proofs.specifier.alias.Goals.{in_default-via-in-None-2+else-not-is_scoped}
use Rattle.lock_files.proofs.specifier.alias.Goals.{in_default-via-in-None-2+then-not-is_scoped+else-is_of_registry-2}
use Rattle.lock_files.proofs.specifier.alias.Goals.{in_default-via-in-Some-3+else-is_of_registry}
use Rattle.lock_files.proofs.specifier.alias.Goals as goal

pub returns-in-Some : goal.returns-in-Some
returns-in-Some c =
    let text = c.unsigned-is_scoped.result in
    let name = c.in-Some.name.now in
    let range = c.in-Some.field-0-1.now in
    let cut = cut_at 64 text.0.now name range (omega arith) c.in-Some.ensures.cases in
    no_alias-cut c.args.target.now text.0.now name range text.1 c.unsigned-is_scoped.ensures cut.0 cut.1
    (inl (iff_false c.is_aliased.ensures c.if-not-is_aliased.true))

pub returns-in-Some-2 : goal.returns-in-Some-2
returns-in-Some-2 c =
    let text = c.unsigned-is_scoped.result in
    let name = c.in-Some.name.now in
    let range = c.in-Some.field-0-1.now in
    let cut = cut_at 64 text.0.now name range (omega arith) c.in-Some.ensures.cases in
    alias-any c.args.target.now text.0.now name range text.1 c.unsigned-is_scoped.ensures cut.0
    (c.is_aliased.ensures.0 c.if-not-is_aliased.false) (sym c.is_empty.ensures ∙ c.if-is_empty.true)

pub returns-in-Some-3 : goal.returns-in-Some-3
returns-in-Some-3 c =
    let text = c.unsigned-is_scoped.result in
    let name = c.in-Some.name.now in
    let range = c.in-Some.field-0-1.now in
    let cut = cut_at 64 text.0.now name range (omega arith) c.in-Some.ensures.cases in
    ranged text.1 name (c.is_aliased.ensures.0 c.if-not-is_aliased.false)
    (alias-whole c.args.target.now text.0.now name range text.1 c.unsigned-is_scoped.ensures cut.0)
    (filled range (sym c.is_empty.ensures ∙ c.if-is_empty.false))
    (sym c.is_of_registry.ensures ∙ c.if-is_of_registry.true)

pub returns-in-None : goal.returns-in-None
returns-in-None c =
    let text = c.unsigned-is_scoped.result in
    any text.1 text.0.now (c.if-is_aliased.ensures.0 refl) (inl c.unsigned-is_scoped.ensures.whole) refl

pub returns-in-None-2 : goal.returns-in-None-2
returns-in-None-2 c =
    let text = c.unsigned-is_scoped.result in
    alias-alone c.args.target.now text.0.now text.1 c.unsigned-is_scoped.ensures c.if-not-is_scoped.true
    (uncut 64 text.0.now (omega arith) c.in-None.ensures.cases)
    (λ is. let named = c.if-is_aliased.ensures.1 is in absurd (cc))
    (sym c.is_of_registry-then-not-is_scoped.ensures ∙ c.if-is_of_registry-2.true)

pub returns-in_default : goal.returns-in_default
returns-in_default c =
    let target = c.args.target.now in
    let text = c.unsigned-is_scoped.result in
    elim c.in_default.branch [
      | in_default-via-in-Some-3+else-is_of_registry w ↦
          let name = w.in-Some.name.now in
          let range = w.in-Some.field-0-1.now in
          let cut = cut_at 64 text.0.now name range (omega arith) w.in-Some.ensures.cases in
          no_alias-cut target text.0.now name range text.1 c.unsigned-is_scoped.ensures cut.0 cut.1
          (inr (
            filled range (sym w.is_empty.ensures ∙ w.if-is_empty.false),
            sym w.is_of_registry.ensures ∙ w.if-is_of_registry.false,
          ))
      | in_default-via-in-None-2+then-not-is_scoped+else-is_of_registry-2 w ↦
          no_alias-whole target text.0.now text.1 c.unsigned-is_scoped.ensures
          (uncut 64 text.0.now (omega arith) w.in-None.ensures.cases)
          (λ is. let named = w.if-is_aliased.ensures.1 is in absurd (cc))
          (inr (sym w.is_of_registry-then-not-is_scoped.ensures ∙ w.if-is_of_registry-2.false))
      | in_default-via-in-None-2+else-not-is_scoped w ↦
          no_alias-whole target text.0.now text.1 c.unsigned-is_scoped.ensures
          (uncut 64 text.0.now (omega arith) w.in-None.ensures.cases)
          (λ is. let named = w.if-is_aliased.ensures.1 is in absurd (cc)) (inl w.if-not-is_scoped.false)
    ]
