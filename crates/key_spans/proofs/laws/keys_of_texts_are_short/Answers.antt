use Rattle.key_spans.proofs.Lengths.{printed_twice, text_512}
use Rattle.key_spans.proofs.laws.keys_of_texts_are_short.Goals as goal

pub returns-clause-read : goal.returns-clause-read
returns-clause-read c = text_512

pub returns-clause-printed : goal.returns-clause-printed
returns-clause-printed c = printed_twice
