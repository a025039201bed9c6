-- A part has one division into runs, and it is the one that is made from the left.
use Rattle.nodejs_semver.proofs.{Bounds.TableRows.table-interval, Common.{AllByRecursion, Bool, IsTotalOrder, List, None, Option, Ordering, Run}}
use Rattle.nodejs_semver.proofs.Common.{Some, Span, VersionValue, [], and_parts, ap, append-nil, append_assoc, arith, cases_Bool, common_steps, false}
use Rattle.nodejs_semver.proofs.Common.{filter_map, fits, flat_map, inl, inr, is_interval, joined, joined_from, length, length-append, list_all}
use Rattle.nodejs_semver.proofs.Common.{longer, meet, nat_tests, next_at, part_bounds, part_intervals, precedence, precedence_total, refl, run_items}
use Rattle.nodejs_semver.proofs.Common.{runs_from, runs_of, space_len, table, true, words, words_within, ℕ, ◌++◌, ◌<◌, ◌∙◌, ◌∷◌, ◌≡◌}
use Rattle.nodejs_semver.proofs.Dividing.RunLemmas.{fits-shrinks, joined-goes, joined-stops, runs-goes, runs-joined, runs-stops}
use Rattle.nodejs_semver.{proofs.Reading.PartialLaw.{word-shorter, words-step}, specs.Text.Runs.{AreLongest, AreRuns}}
use Rattle.{semver_core.proofs.Reading.{Boundaries.{spaces-gone, spaces-le}, Steps.option-cases}, std.specs.List.cons_option}

abbrev pub single : {V : Type 0} → Span V → Run V
single s = record { first = s; others = [] }

module _ {V : Type 0} (R : V → V → Ordering) where
  -- the runs that begin with the run under way
  record Divides (r : Run V) (bounds : List (Span V)) (runs : List (Run V)) : Type 0 where
    pub whole : flat_map run_items runs ≡ run_items r ++ bounds
    pub each : AllByRecursion (λ r. fits R r ≡ true) runs
    pub longest : AreLongest R runs
    pub behind : (q : Run V) → fits R (longer q r.first) ≡ false → AreLongest R (q ∷ runs)

  from-here : (r : Run V) (bounds : List (Span V)) → fits R r ≡ true → list_all (is_interval R) bounds ≡ true
      → Divides r bounds (runs_from R r bounds)
  unfolding runs_from
  from-here r [] one all = record { whole = refl; each = (one, tt); longest = tt; behind = λ q h. (h, tt) }
  from-here r (s ∷ rest) one all =
      let (first, others) = and_parts (is_interval R s) (list_all (is_interval R) rest) all in
      elim (cases_Bool (fits R (longer r s))) [
        | inl goes ↦
            grind (arith, runs-goes R r s rest, append_assoc, from-here (longer r s) rest goes others)
        | inr stops ↦
            let more = from-here (single s) rest first others in
            grind (arith, runs-stops R r s rest, more, more.behind r stops)
      ]

  pub runs-divide : (bounds : List (Span V)) → list_all (is_interval R) bounds ≡ true → AreRuns R bounds (runs_of R bounds)
  runs-divide [] all = (refl, tt, tt)
  runs-divide (s ∷ rest) all =
      let (first, others) = and_parts (is_interval R s) (list_all (is_interval R) rest) all in
      let d = from-here (single s) rest first others in
      (d.whole, d.each, d.longest)

pub all-cons : {B : Type 0} (p : B → Bool) (o : Option B) (ys : List B) → ((b : B) → o ≡ Some b → p b ≡ true)
    → list_all p ys ≡ true → list_all p (cons_option o ys) ≡ true
all-cons p o ys one rest = grind arith

pub filtered-each : {A B : Type 0} (p : B → Bool) (f : A → Option B) → ((a : A) (b : B) → f a ≡ Some b → p b ≡ true) → (xs : List A) → list_all p (filter_map f xs) ≡ true
filtered-each p f each [] = refl
filtered-each p f each (x ∷ xs) = grind (arith, each x, filtered-each p f each xs)

pub part-intervals : (limit : ℕ) (part : List ℕ) → list_all (is_interval precedence) (part_bounds limit part) ≡ true
part-intervals limit part = filtered-each (is_interval precedence) (table limit) (table-interval limit) (words limit part)

pub part_divides : (limit : ℕ) (part : List ℕ) → AreRuns precedence (part_bounds limit part) (runs_of precedence (part_bounds limit part))
part_divides limit part = runs-divide precedence (part_bounds limit part) (part-intervals limit part)

-- ---- a part has one division into runs, and it is the one that is made from the left

abbrev extended : {V : Type 0} → Run V → List (Span V) → Run V
extended r xs = record { first = r.first; others = r.others ++ xs }

module _ {V : Type 0} {R : V → V → Ordering} (o : IsTotalOrder R) where
  -- a run that fits with more words fits without them
  shrinks-all : (r : Run V) (xs : List (Span V)) → fits R (extended r xs) ≡ true → fits R r ≡ true
  shrinks-all r [] h = grind (arith, append-nil)
  shrinks-all r (x ∷ xs) h = grind (arith, nat_tests, common_steps, fits-shrinks, append_assoc, shrinks-all (longer r x) xs)

  -- the runs that begin with the run under way, whose other words are xs, where those that follow are what is made of them
  from-run : (r : Run V) (xs : List (Span V)) (rest : List (Run V))
      → ((r : Run V) → AreLongest R (r ∷ rest) → runs_from R r (flat_map run_items rest) ≡ r ∷ rest)
      → fits R (extended r xs) ≡ true → AreLongest R (extended r xs ∷ rest)
      → runs_from R r (xs ++ flat_map run_items rest) ≡ extended r xs ∷ rest
  unfolding runs_from
  from-run r [] rest last fit longest = grind (arith, append-nil)
  from-run r (x ∷ xs) rest last fit longest =
      grind (arith, nat_tests, shrinks-all (longer r x) xs, append_assoc r.others (x ∷ []) xs, from-run (longer r x) xs rest last)

  from-last : (r : Run V) (rest : List (Run V)) → AllByRecursion (λ r. fits R r ≡ true) rest → AreLongest R (r ∷ rest)
      → runs_from R r (flat_map run_items rest) ≡ r ∷ rest
  unfolding runs_from
  from-last r [] each longest = refl
  from-last r (s ∷ rest) each longest =
      rw (longest.0, runs_from) (ap (λ (rs : List (Run V)). r ∷ rs)
      (from-run (single s.first) s.others rest (λ q h. from-last q rest each.1 h) each.0 longest.1))

  pub runs-unique : (bounds : List (Span V)) (runs : List (Run V)) → AreRuns R bounds runs → runs ≡ runs_of R bounds
  runs-unique bounds runs h = of_whole runs h.1 h.2 ∙ ap (λ (l : List (Span V)). runs_of R l) h.0
    where
      of_whole : (runs : List (Run V)) → AllByRecursion (λ r. fits R r ≡ true) runs → AreLongest R runs
          → runs ≡ runs_of R (flat_map run_items runs)
      of_whole [] each longest = refl
      of_whole (r ∷ rest) each longest = grind (arith, from-run, from-last)

pub runs_are : (bounds : List (Span VersionValue)) (runs : List (Run VersionValue)) → AreRuns precedence bounds runs → runs ≡ runs_of precedence bounds
runs_are bounds runs h = runs-unique precedence_total bounds runs h

-- ---- one word of a part after another

-- the running interval and one word more
pub join_goes : (running next common : Span VersionValue) (done rest : List (Span VersionValue))
    → meet precedence running next ≡ Some common → done ++ joined_from precedence common rest ≡ done ++ joined_from precedence running (next ∷ rest)
join_goes running next common done rest m = grind (arith, joined-goes)

pub join_stops : (running next : Span VersionValue) (done rest : List (Span VersionValue))
    → meet precedence running next ≡ None → (done ++ running ∷ []) ++ joined_from precedence next rest ≡ done ++ joined_from precedence running (next ∷ rest)
join_stops running next done rest m = grind (arith, append_assoc, joined-stops)

-- what is left behind a word that was read
pub read-shorter : (limit : ℕ) (text after : List ℕ) (o : Option (Span VersionValue)) → 0 < length text → space_len text ≡ 0
    → (o, after) ≡ next_at limit text → length after < length text
read-shorter limit [] after o some h e = absurd (omega arith)
read-shorter limit (b ∷ rest) after o some h e = grind (arith, spaces-le, word-shorter)

pub read-starts : (limit : ℕ) (text after : List ℕ) (o : Option (Span VersionValue)) → (o, after) ≡ next_at limit text → space_len after ≡ 0
read-starts limit text after o e = grind (arith, spaces-gone)

-- the bounds of the word at the front, before those of what follows
pub bounds-step : (limit : ℕ) (text after : List ℕ) (o : Option (Span VersionValue)) → 0 < length text → space_len text ≡ 0
    → (o, after) ≡ next_at limit text → part_bounds limit text ≡ cons_option o (part_bounds limit after)
bounds-step limit text after o some h e = grind (arith, words-step)

pub words-none : (limit : ℕ) (text : List ℕ) → length text ≡ 0 → words limit text ≡ []
unfolding words_within
words-none limit text h = grind arith

-- the end of the part
pub words-last : (limit : ℕ) (rest : List ℕ) (last : Span VersionValue) → length rest ≡ 0 → joined_from precedence last (part_bounds limit rest) ≡ last ∷ []
unfolding joined_from
words-last limit rest last none = grind (arith, words-none)

-- the intervals of a part, before any word is read
pub part-begins : (limit : ℕ) (part : List ℕ) → joined precedence None (part_bounds limit part) ≡ part_intervals limit part
part-begins limit part = runs-joined precedence_total (part_bounds limit part)

-- a word before which none had an interval, and what follows it
pub part-step : (limit : ℕ) (text after : List ℕ) (o : Option (Span VersionValue)) → 0 < length text → space_len text ≡ 0
    → (o, after) ≡ next_at limit text
    → joined precedence None (part_bounds limit text) ≡ joined precedence None (cons_option o (part_bounds limit after))
part-step limit text after o some h e = grind (arith, nat_tests, common_steps, bounds-step)

-- no word is left
pub part-last : (limit : ℕ) (rest : List ℕ) → length rest ≡ 0 → joined precedence None (part_bounds limit rest) ≡ []
part-last limit rest none = rw (words-none limit rest none) refl

-- ---- lists that are to have two intervals or more

-- a running interval is never lost
joined-some : (rest : List (Span VersionValue)) (running : Span VersionValue) → 0 < length (joined_from precedence running rest)
unfolding joined_from
joined-some [] running = omega arith
joined-some (next ∷ rest) running = elim (option-cases (meet precedence running next)) [
  | inl none ↦ rw (joined-stops precedence running next rest none) (omega arith)
  | inr m ↦ rw (joined-goes precedence running next m.0 rest m.1) (joined-some rest m.0)
]

pub longer_joined : (found : List (Span VersionValue)) (running : Span VersionValue) (rest : List (Span VersionValue))
    → 0 < length found → 1 < length (found ++ joined_from precedence running rest)
longer_joined found running rest some = grind (arith, nat_tests, common_steps, length-append, joined-some)
