-- For proofs. What a question asks, as the statement has it.
use Rattle.std.specs.Prelude.{ℕ, List, Option, Some, None, map, option_map}
use Rattle.std.specs.Borrow.{Bor}
use Rattle.npm_semver.specs.Arguments.{Asked}
use Rattle.npm_semver.specs.declared.question.Question.{Question}
use Rattle.npm_semver.specs.declared.question.Request.{Request}
use Rattle.npm_semver.specs.declared.question.Request.TheVariants.{Help, Versions}

abbrev pub texts : List (Bor (List ℕ)) → List (List ℕ)
texts = map (λ t. t.now)

abbrev pub asked_of : Question → Asked
asked_of q = record {
  versions = texts q.versions.items;
  ranges = texts q.ranges.items;
  level = option_map (λ t. t.now) q.level;
  identifier = option_map (λ t. t.now) q.identifier;
  base = q.base;
  is_reversed = q.is_reversed;
  reading = q.reading;
  pick = q.pick;
  keeps_order = q.keeps_order;
  as_written = q.as_written;
  is_json = q.is_json;
  is_strict = q.is_strict;
  is_why = q.is_why;
  unknown = option_map (λ t. t.now) q.unknown;
  reads_input = q.reads_input;
  ends_in_nul = q.ends_in_nul;
}

abbrev pub request_of : Request → Option Asked
request_of Help = None
request_of (Versions q) = Some (asked_of q)
