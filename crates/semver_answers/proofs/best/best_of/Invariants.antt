use Rattle.std.proofs.Common.{◌≡◌, ◌++◌, List, ℕ, length}
use Rattle.std.specs.Prelude.{IsUtf8}
use Rattle.semver_answers.specs.Internal.Ahead.{HasFeed, behind_line, fields_ahead}
use Rattle.semver_answers.specs.Internal.Results.{FindsBest}
use Rattle.semver_answers.proofs.best.best_of.Given as goal

-- the best so far is that of the fields so far
abbrev pub invariant-fields : goal.invariant-fields
invariant-fields l = record {
  utf8 : IsUtf8 l.rest;
  feed : HasFeed l.rest;
  next : behind_line l.rest ≡ behind_line l.initial.rest;
  found : (d : List (List ℕ)) × (fields_ahead l.initial.rest ≡ d ++ fields_ahead l.rest) × FindsBest l.asked l.range d l.best;
}

abbrev pub decreases-fields : goal.decreases-fields
decreases-fields l = length (fields_ahead l.rest)
