-- Statement. What a status says, and the version of the library.
use Rattle.std.specs.Prelude.{◌==◌, if◌then◌else◌, ℕ, List, Option, Some, None, codes}
use Rattle.nodejs_semver_c.specs.declared.TheConstants.{BAD_ARGUMENT, BAD_IDENTIFIER, BAD_RANGE, BAD_VERSION}
use Rattle.nodejs_semver_c.specs.declared.TheConstants.{NO_MEMORY, NOT_A_PRERELEASE, NOT_UTF8}
use Rattle.nodejs_semver_c.specs.declared.TheConstants.{NOTHING, OK, OVERFLOW}
use Rattle.nodejs_semver_c.specs.declared.TheConstants.{TOO_LONG, TOO_SMALL}

abbrev pub message_of : ℕ → Option (List ℕ)
message_of n =
    if n == OK then Some (codes "answered") else if n == NOTHING then Some (codes "nothing")
    else if n == TOO_SMALL then Some (codes "buffer too small")
    else if n == NOT_UTF8 then Some (codes "not UTF-8")
    else if n == BAD_VERSION then Some (codes "bad version")
    else if n == BAD_RANGE then Some (codes "bad range")
    else if n == BAD_ARGUMENT then Some (codes "bad argument")
    else if n == BAD_IDENTIFIER then Some (codes "bad identifier")
    else if n == NOT_A_PRERELEASE then Some (codes "not a prerelease")
    else if n == OVERFLOW then Some (codes "overflow")
    else if n == NO_MEMORY then Some (codes "no memory")
    else if n == TOO_LONG then Some (codes "too long") else None

abbrev pub library_version : List ℕ
library_version = codes "1.0.0"
