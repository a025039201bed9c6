-- Statement. How the flaws that npm's reading finds are told.
use Rattle.std.specs.Prelude.{ℕ}
use Rattle.npm_reading.specs.declared.range_flaws.RangeFlaw.{RangeFlaw}
use Rattle.npm_words.specs.declared.flaws.Flaw.{Flaw}
use Rattle.npm_words.specs.declared.flaws.Flaw.TheVariants.{At, TooLong}
use Rattle.npm_words.specs.declared.flaws.Wrong.TheVariants.{Behind, Digit, Dot, Identifier, LeadingZero}
use Rattle.npm_words.specs.declared.flaws.Wrong.TheVariants.{Mark, MissingHyphen, NumberTooGreat}
use Rattle.semver_core.specs.declared.TheConstants.{MAX_LENGTH}
use Rattle.nodejs_semver_c.specs.declared.flaws.Alternative.{Alternative}
use Rattle.nodejs_semver_c.specs.declared.TheConstants.{WRONG_BEHIND, WRONG_DIGIT, WRONG_DOT}
use Rattle.nodejs_semver_c.specs.declared.TheConstants.{WRONG_IDENTIFIER, WRONG_LEADING_ZERO, WRONG_MARK}
use Rattle.nodejs_semver_c.specs.declared.TheConstants.{WRONG_MISSING_HYPHEN, WRONG_NUMBER, WRONG_TOO_LONG}

abbrev pub wrong_number : Flaw → ℕ
wrong_number TooLong = WRONG_TOO_LONG
wrong_number (At Mark at) = WRONG_MARK
wrong_number (At LeadingZero at) = WRONG_LEADING_ZERO
wrong_number (At NumberTooGreat at) = WRONG_NUMBER
wrong_number (At MissingHyphen at) = WRONG_MISSING_HYPHEN
wrong_number (At Digit at) = WRONG_DIGIT
wrong_number (At Dot at) = WRONG_DOT
wrong_number (At Identifier at) = WRONG_IDENTIFIER
wrong_number (At Behind at) = WRONG_BEHIND

-- the byte, which for a text that is too long is the limit
abbrev pub wrong_place : Flaw → ℕ
wrong_place TooLong = MAX_LENGTH
wrong_place (At wrong at) = at

abbrev pub told_flaw : RangeFlaw → Alternative
told_flaw f = record { start = f.start; end = f.end; word_start = f.word_start; word_end = f.word_end }
