use Rattle.std.proofs.Common.{None, Some, option_map, subst, sym}
use Rattle.std.proofs.lemmas.Slice.Eq.{bytes_eq-Decides}
use Rattle.serde_json.specs.View.{view}
use Rattle.lock_check.specs.Overrides.IsPutBy.{put}
use Rattle.lock_check.proofs.Putting.{HasReplacement, IsReferenced, put-kept, put-lost, put-none, put-nothing, put-referred, put-text, text-of}
use Rattle.lock_check.specs.Internal.Overriding.{IsRuleAt}
use Rattle.lock_check.proofs.overrides.Overrides.wanted.Goals.{in_default-via-in-Some+else-eq, in_default-via-in_default}
use Rattle.lock_check.proofs.overrides.Overrides.wanted.Goals as goal

pub returns-in-Nothing : goal.returns-in-Nothing
returns-in-Nothing c = λ root place same at.
    let d = c.args.dependency in
    let r = c.in-Some.rule.now in
    put-nothing (view root.fields.now) place d (subst (HasReplacement place d.name.now) c.in-Nothing.is
    (text-of r d.name.now at c.in-Some.ensures ((bytes_eq-Decides r.name.now d.name.now).0 (sym c.if-eq.ensures))))

pub returns-in-Text : goal.returns-in-Text
returns-in-Text c = λ root place same at.
    let d = c.args.dependency in
    let r = c.in-Some.rule.now in
    put c.in-Text.text (put-text (view root.fields.now) place d c.in-Text.text (subst (HasReplacement place d.name.now) c.in-Text.is
    (text-of r d.name.now at c.in-Some.ensures ((bytes_eq-Decides r.name.now d.name.now).0 (sym c.if-eq.ensures)))))

pub returns-in-Some-referenced : goal.returns-in-Some-referenced
returns-in-Some-referenced c = λ root place same at.
    let d = c.args.dependency in
    let r = c.in-Some.rule.now in
    put c.in-Some-referenced.text (put-referred root place d c.in-Reference.name c.in-Some-referenced.text.now
    (subst (HasReplacement place d.name.now) c.in-Reference.is
    (text-of r d.name.now at c.in-Some.ensures ((bytes_eq-Decides r.name.now d.name.now).0 (sym c.if-eq.ensures))))
    (subst (λ o. IsReferenced o c.in-Reference.name.now (Some c.in-Some-referenced.text.now)) same c.in-Some-referenced.ensures))

pub returns-in-None : goal.returns-in-None
returns-in-None c = λ root place same at.
    let d = c.args.dependency in
    let r = c.in-Some.rule.now in
    put-lost root place d c.in-Reference.name (subst (HasReplacement place d.name.now) c.in-Reference.is
    (text-of r d.name.now at c.in-Some.ensures ((bytes_eq-Decides r.name.now d.name.now).0 (sym c.if-eq.ensures))))
    (subst (λ o. IsReferenced o c.in-Reference.name.now None) same c.in-None.ensures)

pub returns-in_default : goal.returns-in_default
returns-in_default c = λ root place same at.
    let d = c.args.dependency in
    elim c.in_default.branch [
      | in_default-via-in-Some+else-eq w ↦
          let r = w.in-Some.rule.now in
          put-kept (view root.fields.now) place d r at w.in-Some.ensures (λ name.
          let on = (bytes_eq-Decides r.name.now d.name.now).1 name in
          let off = w.if-eq.false in let how = w.eq.ensures in absurd (cc))
      | in_default-via-in_default w ↦ put-none (view root.fields.now) place d at
          (subst (λ r. IsRuleAt c.args.self.now.rules.items c.args.scope (option_map (λ x. x.now) r)) w.in_default.is c.rule.ensures)
    ]
