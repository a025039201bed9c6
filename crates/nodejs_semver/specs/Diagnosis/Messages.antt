-- Statement: how flaws and ignored words print.
use Rattle.std.specs.Prelude.{ℕ, List, ◌++◌, codes}
use Rattle.std.specs.Fmt.{decimal}
use Rattle.nodejs_semver.specs.declared.diagnosis.ranges.IgnoredKind.{IgnoredKind}
use Rattle.nodejs_semver.specs.declared.diagnosis.ranges.IgnoredKind.TheVariants.{Malformed, WithoutBounds}
use Rattle.nodejs_semver.specs.declared.diagnosis.ranges.IgnoredWord.{IgnoredWord}
use Rattle.nodejs_semver.specs.declared.diagnosis.versions.Expected.TheVariants.{Digit, Dot}
use Rattle.nodejs_semver.specs.declared.diagnosis.versions.VersionFlaw.{VersionFlaw}
use Rattle.nodejs_semver.specs.declared.diagnosis.versions.VersionFlaw.TheVariants as Flaw

abbrev pub flaw_text : VersionFlaw → List ℕ
flaw_text Flaw.TooLong = codes "longer than 256 bytes"
flaw_text (Flaw.NumberTooGreat at) = codes "a number above 9007199254740991 at byte " ++ decimal at
flaw_text (Flaw.Expected Digit at) = codes "expected a digit at byte " ++ decimal at
flaw_text (Flaw.Expected Dot at) = codes "expected a dot at byte " ++ decimal at
flaw_text (Flaw.Ignored at) = codes "ignored from byte " ++ decimal at

abbrev pub kind_text : IgnoredKind → List ℕ
kind_text Malformed = codes "ignored: malformed word at bytes "
kind_text WithoutBounds = codes "ignored: word without bounds at bytes "

abbrev pub word_text : IgnoredWord → List ℕ
word_text word = kind_text word.kind ++ decimal word.start ++ codes " to " ++ decimal word.end
