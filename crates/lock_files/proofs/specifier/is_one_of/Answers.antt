use Rattle.std.proofs.Common.{rules}
use Rattle.std.specs.List.{Any}
use Rattle.std.specs.Prelude.{◌↔◌, IsTrue}
use Rattle.lock_files.specs.Specifiers.{IsSameWord}
use Rattle.lock_files.proofs.Addresses.{any-now, now-any}
use Rattle.lock_files.proofs.specifier.is_one_of.Goals as goal

pub returns : goal.returns
returns c =
    let words = c.args.words.now in
    let text = c.args.text.now in
    let is : IsTrue c.any.result ↔ Any (λ word. IsSameWord text word.now) words = search rules in
    (λ some. any-now (IsSameWord text) words (is.0 some), λ some. is.1 (now-any (IsSameWord text) words some))
