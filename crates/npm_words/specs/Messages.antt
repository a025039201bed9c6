-- Statement: how the flaws of version texts and of range texts print.
use Rattle.std.specs.Prelude.{ℕ, List, ◌++◌, codes}
use Rattle.std.specs.Fmt.{decimal}
use Rattle.npm_words.specs.declared.flaws.Flaw.{Flaw}
use Rattle.npm_words.specs.declared.flaws.Flaw.TheVariants.{At, TooLong}
use Rattle.npm_words.specs.declared.flaws.Wrong.{Wrong}
use Rattle.npm_words.specs.declared.flaws.Wrong.TheVariants.{Behind, Digit, Dot, Identifier, LeadingZero}
use Rattle.npm_words.specs.declared.flaws.Wrong.TheVariants.{Mark, MissingHyphen, NumberTooGreat}

abbrev pub wrong_text : Wrong → List ℕ
wrong_text Mark = codes "a mark other than one v at byte "
wrong_text LeadingZero = codes "a leading zero before byte "
wrong_text NumberTooGreat = codes "a number above 9007199254740991 at byte "
wrong_text MissingHyphen = codes "expected a hyphen before the pre-release at byte "
wrong_text Digit = codes "expected a digit at byte "
wrong_text Dot = codes "expected a dot at byte "
wrong_text Identifier = codes "expected an identifier at byte "
wrong_text Behind = codes "text behind the version at byte "

abbrev pub flaw_text : Flaw → List ℕ
flaw_text TooLong = codes "longer than 256 characters"
flaw_text (At wrong at) = wrong_text wrong ++ decimal at
