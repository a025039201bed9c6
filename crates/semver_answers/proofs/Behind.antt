-- What stands behind the first fields of a line.
use Rattle.std.proofs.Common.{◌≡◌, ◌≢◌, ◌<◌, ◌∙◌, ℕ, List, [], ◌∷◌, length, ap, arith, sym}
use Rattle.std.specs.Borrow.{Bor}
use Rattle.semver_answers.specs.Internal.Ahead.{Cuts, IsNext, fields_ahead}
use Rattle.semver_answers.specs.declared.fields.Behind.{Behind}
use Rattle.semver_answers.specs.declared.fields.Behind.TheVariants.{Fields, Lines}
use Rattle.semver_answers.proofs.Firsts.{some_field_ahead}

-- the line ends there, or goes on with more fields
pub single : {texts field : List ℕ} {behind : Behind} {next : Bor (List ℕ)} → Cuts texts field behind → behind ≡ Lines next
    → fields_ahead texts ≡ field ∷ []
single c e = rw e at c.first

pub onward : {texts field : List ℕ} {behind : Behind} {rest : Bor (List ℕ)} → Cuts texts field behind → behind ≡ Fields rest
    → fields_ahead texts ≡ field ∷ fields_ahead rest.now
onward c e = rw e at c.first

pub several : {texts field : List ℕ} {behind : Behind} {rest : Bor (List ℕ)} → Cuts texts field behind → behind ≡ Fields rest
    → 1 < length (fields_ahead texts)
several {rest} c e = omega (arith, ap length (onward c e), some_field_ahead rest.now)

-- the text behind the line
pub next_line : {texts field : List ℕ} {behind : Behind} {next : Bor (List ℕ)} → Cuts texts field behind → behind ≡ Lines next → IsNext texts next
next_line c e = (sym (rw e at c.next), rw e at c.goes_on)

-- two fields, and what stands behind them
pub pair : {texts field other : List ℕ} {behind last : Behind} {rest next : Bor (List ℕ)} → Cuts texts field behind → behind ≡ Fields rest
    → Cuts rest.now other last → last ≡ Lines next → fields_ahead texts ≡ field ∷ other ∷ []
pair {field} c e d f = onward c e ∙ ap (λ l. field ∷ l) (single d f)

pub three : {texts field other : List ℕ} {behind last : Behind} {rest next : Bor (List ℕ)} → Cuts texts field behind → behind ≡ Fields rest
    → Cuts rest.now other last → last ≡ Fields next → fields_ahead texts ≡ field ∷ other ∷ fields_ahead next.now
three {field} c e d f = onward c e ∙ ap (λ l. field ∷ l) (onward d f)

pub one_is_not_two : {texts field : List ℕ} {behind : Behind} {next : Bor (List ℕ)} → Cuts texts field behind → behind ≡ Lines next
    → length (fields_ahead texts) ≢ 2
one_is_not_two c e = λ two. omega (arith, ap length (single c e), two)

pub three_are_not_two : {texts field other : List ℕ} {behind last : Behind} {rest next : Bor (List ℕ)} → Cuts texts field behind
    → behind ≡ Fields rest → Cuts rest.now other last → last ≡ Fields next → length (fields_ahead texts) ≢ 2
three_are_not_two {next} c e d f = λ two. omega (arith, ap length (three c e d f), some_field_ahead next.now, two)
