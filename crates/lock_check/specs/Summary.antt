-- Statement: what is told of the counts.
use Rattle.std.specs.Prelude.{ℕ, Bool, true, false, nat_lt, List, [], ◌∷◌, ◌++◌, codes, filter}
use Rattle.std.specs.Fmt.{decimal}
use Rattle.std.specs.List.{join_by}
use Rattle.serde_json.specs.Data.{Data, member, no_members, number, object, string, unsigned}
use Rattle.serde_json.specs.Written.{compact_text}
use Rattle.lock_check.specs.Reports.{json_line}
use Rattle.lock_check.specs.declared.finding.Counts.{Counts}
use Rattle.lock_check.specs.declared.finding.Skip.{Skip}
use Rattle.lock_check.specs.declared.finding.Skip.TheVariants.{Address, Link, OwnPeer, Unlocked, Unsure}
use Rattle.lock_check.specs.declared.finding.Skips.{Skips}

-- what is told of a reason
abbrev pub skip_words : Skip → List ℕ
skip_words Unsure = codes "a range text that npm may read otherwise"
skip_words Address = codes "an address"
skip_words Link = codes "a link that may be a workspace"
skip_words Unlocked = codes "a link whose version is not in the lock file"
skip_words OwnPeer = codes "a peer in its own folder"

-- each reason with its count
abbrev pub named_skips : Skips → List (Skip × ℕ)
named_skips s = (Unsure, s.unsure) ∷ (Address, s.address) ∷ (Link, s.link) ∷ (Unlocked, s.unlocked)
    ∷ (OwnPeer, s.own_peer) ∷ []

abbrev pub is_counted : Skip × ℕ → Bool
is_counted reason = nat_lt 0 reason.1

abbrev pub reason_text : Skip × ℕ → List ℕ
reason_text reason = skip_words reason.0 ++ (codes ": " ++ decimal reason.1)

-- what stands before a reason: a bracket before the first one, and else a comma
abbrev pub separator : Bool → List ℕ
separator true = codes " ("
separator false = codes ", "

-- the reasons in brackets, with commas between them; nothing, if there are none
abbrev pub in_brackets : List (Skip × ℕ) → List ℕ
in_brackets [] = []
in_brackets (r ∷ rs) = separator true ++ join_by reason_text (separator false) (r ∷ rs) ++ codes ")"

-- the reasons for which some are skipped
abbrev pub reasons_text : Skips → List ℕ
reasons_text s = in_brackets (filter is_counted (named_skips s))

unfoldable pub sizes_text : Counts → List ℕ
sizes_text c =
    decimal c.packages ++ (codes " packages, " ++ (decimal c.dependencies ++ codes " dependencies: "))

unfoldable pub found_text : Counts → List ℕ
found_text c = decimal c.satisfied ++ (codes " satisfied, " ++ (decimal c.rejected ++ codes " rejected, "))

abbrev pub checked_text : Counts → List ℕ
checked_text c = sizes_text c ++ found_text c

unfoldable pub unlocked_text : Counts → List ℕ
unlocked_text c = decimal c.missing ++ (codes " missing, " ++ (decimal c.absent ++ (codes " absent, "
    ++ (decimal c.skipped ++ codes " skipped"))))

abbrev pub skipped_text : Counts → List ℕ
skipped_text c = reasons_text c.skips
    ++ (codes ", " ++ (decimal c.malformed ++ (codes " malformed" ++ 10 ∷ [])))

abbrev pub unchecked_text : Counts → List ℕ
unchecked_text c = unlocked_text c ++ skipped_text c

-- the line of the counts
abbrev pub counts_text : Counts → List ℕ
counts_text c = checked_text c ++ unchecked_text c

-- the reasons as members of an object, in the order of their words
unfoldable pub skips_data : Skips → Data
skips_data s = object
    (member (skip_words Link) (number (unsigned s.link))
    (member (skip_words Unlocked) (number (unsigned s.unlocked))
    (member (skip_words OwnPeer) (number (unsigned s.own_peer))
    (member (skip_words Unsure) (number (unsigned s.unsure))
    (member (skip_words Address) (number (unsigned s.address)) no_members)))))

-- the object of the counts, with its members in the order of their names
unfoldable pub counts_data : Counts → Data
counts_data c = object
    (member (codes "absent") (number (unsigned c.absent))
    (member (codes "dependencies") (number (unsigned c.dependencies))
    (member (codes "kind") (string (codes "summary"))
    (member (codes "malformed") (number (unsigned c.malformed))
    (member (codes "missing") (number (unsigned c.missing))
    (member (codes "packages") (number (unsigned c.packages))
    (member (codes "rejected") (number (unsigned c.rejected))
    (member (codes "satisfied") (number (unsigned c.satisfied))
    (member (codes "skipped") (number (unsigned c.skipped))
    (member (codes "skipped_for") (skips_data c.skips) no_members))))))))))

-- the line with the counts, as an object of JSON or as text
abbrev pub summary : Bool → Counts → List ℕ
summary true c = json_line (compact_text (counts_data c))
summary false c = counts_text c
