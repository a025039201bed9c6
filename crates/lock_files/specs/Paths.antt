-- Statement: where a path leads.
use Rattle.std.specs.Prelude.{◌==◌, ◌&&◌, ◌||◌, not, ℕ, Bool, if◌then◌else◌}
use Rattle.std.specs.Prelude.{List, [], ◌∷◌, ◌++◌, bytes_eq, codes, drop, reverse, slice_index}
use Rattle.std.specs.List.{fold, join_with_byte, list_any, prefix_len, slice_split}

abbrev pub is_slash : ℕ → Bool
is_slash b = b == 47

-- what stands between the slashes of a text
abbrev pub parts : List ℕ → List (List ℕ)
parts text = slice_split is_slash text

-- a text without the slashes in front of it
abbrev pub without_front : List ℕ → List ℕ
without_front text = drop (prefix_len is_slash text) text

-- a place is the parts of a folder, the last one first. One `..` leads up from it: out of its last part, or
-- further out if it is outside already
abbrev pub place_above : List (List ℕ) → List (List ℕ)
place_above [] = codes ".." ∷ []
place_above (part ∷ outer) = if bytes_eq part (codes "..") then codes ".." ∷ part ∷ outer else outer

-- an empty part and `.` stay where they are, `..` leads up, and every other part leads down
abbrev pub next_place : List (List ℕ) → List ℕ → List (List ℕ)
next_place place part = if bytes_eq part [] || bytes_eq part (codes ".") then place
    else (if bytes_eq part (codes "..") then place_above place else part ∷ place)

-- the folder to which a path leads from another folder: along the parts of both, one after the other
abbrev pub joined : (folder path : List ℕ) → List ℕ
joined folder path = join_with_byte 47 (reverse (fold next_place [] (parts folder ++ parts path)))

-- a character that means something in a URL
abbrev pub is_url_sign : ℕ → Bool
is_url_sign b = list_any (λ c. c == b) (codes ":%?#\\")

-- a path leads from a folder, not from the root of the disk or a home, and a URL gives none of its characters
-- another meaning
abbrev pub is_relative : List ℕ → Bool
is_relative path = not (slice_index path 0 == 47) && not (slice_index path 0 == 126)
    && not (list_any is_url_sign path)
