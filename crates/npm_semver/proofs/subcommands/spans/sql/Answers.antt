use Rattle.std.proofs.Common.{◌≡◌, ◌-◌, Err, Some, arith, drop, false, length, map, refl, rules, string_bytes, subst, sym, take, true}
use Rattle.std.proofs.lemmas.Grind.{common_steps}
use Rattle.std.specs.Prelude.{⊤}
use Rattle.npm_semver.proofs.Keyed.{ok_then, refused_by}
use Rattle.npm_semver.proofs.Spans.{no_sql_column, no_sql_dialect, no_sql_range, sql_said, two_more}
use Rattle.npm_semver.specs.Internal.Said.{said}
use Rattle.npm_semver.specs.Spans.{condition}
use Rattle.npm_semver.specs.Subcommands.{reply}
use Rattle.npm_semver.proofs.subcommands.spans.sql.Goals as goal

pub returns-in_err-dialect-clause-refused : goal.returns-in_err-dialect-clause-refused
returns-in_err-dialect-clause-refused c =
    let words = two_more c.args.words.now string_bytes c.text-item.result c.column-item.result c.in-len2-up.len_at_least c.text-item.is c.column-item.is in
    let e = c.from_residual.ensures in
    let h = refused_by {A = ⊤} (Err c.in_err-dialect.field-0.0) _ _ (no_sql_dialect (string_bytes c.text-item.result) (string_bytes c.column-item.result)
    (map string_bytes (take (length c.args.words.now - 2) (drop 2 c.args.words.now)))) c.in_err-dialect.ensures.refused in
    rw words (search rules)

pub returns-in-Err-clause-refused : goal.returns-in-Err-clause-refused
returns-in-Err-clause-refused c =
    let words = two_more c.args.words.now string_bytes c.text-item.result c.column-item.result c.in-len2-up.len_at_least c.text-item.is c.column-item.is in
    rw (words, sym c.deref-2.ensures) (refused_by {A = ⊤} (Err c.in-Err.failure) _ _ (no_sql_range c.deref-2.result.now (string_bytes c.column-item.result)
    (map string_bytes (take (length c.args.words.now - 2) (drop 2 c.args.words.now)))) c.in-Err.ensures.refused)

pub returns-then-not-is_column-clause-refused : goal.returns-then-not-is_column-clause-refused
returns-then-not-is_column-clause-refused c =
    let words = two_more c.args.words.now string_bytes c.text-item.result c.column-item.result c.in-len2-up.len_at_least c.text-item.is c.column-item.is in
    rw words (no_sql_column (string_bytes c.text-item.result) (string_bytes c.column-item.result)
    (map string_bytes (take (length c.args.words.now - 2) (drop 2 c.args.words.now))) false (grind (arith, common_steps)) refl)

pub returns-in-Ok-clause-ok : goal.returns-in-Ok-clause-ok
returns-in-Ok-clause-ok c =
    let words = two_more c.args.words.now string_bytes c.text-item.result c.column-item.result c.in-len2-up.len_at_least c.text-item.is c.column-item.is in
    let column = string_bytes c.column-item.result in
    rw words (ok_then c.printed.result _ _ (λ answer says. sql_said (string_bytes c.text-item.result) column (map string_bytes (take (length c.args.words.now - 2) (drop 2 c.args.words.now)))
    c.in_ok-dialect.dialect c.in-Ok.spans.items true _
    (rw c.deref-2.ensures at c.in-Ok.ensures.ok) (grind (arith, common_steps)) refl c.in_ok-dialect.ensures.ok
    (subst (λ l. said answer ≡ reply true (Some (condition c.in_ok-dialect.dialect column l))) c.deref-in-Ok-2.ensures.value
    (subst (λ n. said answer ≡ reply true (Some (condition c.in_ok-dialect.dialect n c.deref-in-Ok-2.result.now))) c.deref-in-Ok.ensures says)))
    c.printed.ensures.ok)

pub returns-in-Ok-clause-refused : goal.returns-in-Ok-clause-refused
returns-in-Ok-clause-refused c = refused_by c.printed.result _ _ (λ never. absurd never) c.printed.ensures.refused
