-- For proofs. What a response writes, as the statement has it.
use Rattle.std.specs.Prelude.{ℕ, List, Option, Some, None, option_map, string_bytes}
use Rattle.semver_core.specs.Increments.View.{fault_of}
use Rattle.npm_semver.specs.Responses as Spec
use Rattle.npm_semver.specs.Responses.{Written}
use Rattle.npm_semver.specs.declared.refusal.Refusal.{Refusal}
use Rattle.npm_semver.specs.declared.refusal.Refusal.TheVariants as Variant
use Rattle.npm_semver.specs.declared.run.Response.{Response}

abbrev pub told_as : Refusal → Spec.Refusal
told_as Variant.NotOneVersion = Spec.NotOneVersion
told_as Variant.NoFieldNumber = Spec.NoFieldNumber
told_as (Variant.UnknownOption word) = Spec.UnknownOption
told_as (Variant.UnreadRange marked) = Spec.UnreadRange
told_as Variant.UnreadLoosely = Spec.UnreadRange
told_as (Variant.NoVersion marked) = Spec.NoVersion
told_as Variant.UnshownText = Spec.UnshownText
told_as Variant.UnshownLine = Spec.UnshownText
told_as (Variant.NotIncremented error) = Spec.NotIncremented (fault_of error)

-- the text that an error names
abbrev pub name_in : Refusal → Option (List ℕ)
name_in (Variant.UnknownOption word) = Some word.now
name_in (Variant.UnreadRange marked) = Some marked.text.now
name_in (Variant.NoVersion marked) = Some marked.text.now
name_in refusal = None

abbrev pub written : Response → Written
written r = record {
  output = string_bytes r.output;
  refusal = option_map told_as r.refusal;
  is_success = r.is_success;
}
