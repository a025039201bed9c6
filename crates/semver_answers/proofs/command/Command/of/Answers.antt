use Rattle.std.proofs.Common.{drop, arith, sym, ◌∙◌}
use Rattle.semver_answers.specs.Internal.CommandWords.{command_word}
use Rattle.semver_answers.proofs.Asked.{word_has_no_mark}
use Rattle.semver_answers.proofs.Firsts.{behind_mark, field_ends}
use Rattle.semver_answers.proofs.command.Command.of.Goals as goal

pub range_from-requires : goal.range_from-requires
range_from-requires c =
    λ _. behind_mark c.args.text.now (command_word c.in_ok-command.command) _ 59 c.in_ok-command.end c.utf8.text
    (rw c.as_bytes.ensures.value at c.in_ok-command.ensures.some) (omega arith) c.in_ok-command.ensures.end

pub returns : goal.returns
returns c =
    let command = c.in_ok-command.command in
    let split = rw c.as_bytes.ensures.value at c.in_ok-command.ensures.some in
    let f = field_ends c.args.text.now (command_word command) (drop c.in_ok-command.end c.args.text.now) split (word_has_no_mark command) in
    rw c.range_from.ensures.value (record { some = f.0; next = f.1; feed = sym f.2 ∙ c.requires; none = tt })
