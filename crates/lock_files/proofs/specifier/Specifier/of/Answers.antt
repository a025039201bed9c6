use Rattle.std.proofs.Common.{◌∙◌, refl, sym}
use Rattle.lock_files.specs.Specifiers.IsAsked.{empty, plain}
use Rattle.lock_files.specs.Specifiers.IsSpecifier.{asked}
use Rattle.lock_files.proofs.Npm.{nil, specifier-alias, specifier-other}
use Rattle.lock_files.proofs.Parts.{filled}
use Rattle.lock_files.proofs.specifier.Specifier.of.Goals as goal

pub returns-then-is_empty : goal.returns-then-is_empty
returns-then-is_empty c = asked _ (empty (nil c.args.text.now (sym c.is_empty.ensures ∙ c.if-is_empty.true)) refl) refl

pub returns-then-is_of_registry : goal.returns-then-is_of_registry
returns-then-is_of_registry c = asked c.args.text (plain (sym c.is_of_registry.ensures ∙ c.if-is_of_registry.true)
    (filled c.args.text.now (sym c.is_empty.ensures ∙ c.if-is_empty.false)) refl) refl

pub returns-in-Some : goal.returns-in-Some
returns-in-Some c =
    specifier-alias c.args.text.now c.in-Some.target.now c.alias.result c.in-Some.ensures
    (sym c.is_of_registry.ensures ∙ c.if-is_of_registry.false) c.alias.ensures

pub returns-in-None : goal.returns-in-None
returns-in-None c =
    specifier-other c.args.text.now c.elsewhere.result
    (filled c.args.text.now (sym c.is_empty.ensures ∙ c.if-is_empty.false))
    (sym c.is_of_registry.ensures ∙ c.if-is_of_registry.false) c.in-None.ensures c.elsewhere.ensures
