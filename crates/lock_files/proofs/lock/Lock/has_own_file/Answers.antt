use Rattle.std.proofs.Common.{codes, subst, sym, true, unwrap_or, ◌∙◌, ◌≡◌, ap}
use Rattle.serde_json.specs.View.{view}
use Rattle.lock_files.specs.Fields.{is_set}
use Rattle.lock_files.proofs.lock.Lock.has_own_file.Goals as goal

pub returns-in-Some : goal.returns-in-Some
returns-in-Some c =
    let fields = view c.in-Some.package.fields.now in (
      λ on. (c.in-Some.package, c.in-Some.ensures, sym c.is.ensures ∙ on),
      λ has. c.is.ensures ∙ subst (λ f. is_set (codes "hasShrinkwrap") f ≡ true)
          (ap (λ o. unwrap_or o fields) (sym has.1.1 ∙ c.in-Some.ensures.1)) has.2,
    )
