-- Statement: what is asked of the database, in SQL.
use Rattle.std.specs.Prelude.{ℕ, ◌++◌, List, codes}

-- all versions in a span
abbrev pub all_query : List ℕ
all_query = codes "SELECT key, version, rest FROM release WHERE package = ?1 AND key >= ?2 AND key < ?3"
    ++ codes " AND (?4 = 0 OR substr(key, -1) = x'03')"

-- the greatest of them
abbrev pub best_query : List ℕ
best_query = all_query ++ codes " ORDER BY key DESC, version DESC LIMIT 1"

-- how many versions are newer
abbrev pub newer_query : List ℕ
newer_query = codes "SELECT count(*) FROM release WHERE package = ?1 AND key > ?2"

-- the newest version
abbrev pub newest_query : List ℕ
newest_query = codes "SELECT key, version, rest FROM release WHERE package = ?1"
    ++ codes " ORDER BY key DESC, version DESC LIMIT 1"
