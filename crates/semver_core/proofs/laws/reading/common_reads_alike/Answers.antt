use Rattle.semver_core.proofs.laws.reading.common_reads_alike.Goals as goal

pub returns : goal.returns
returns c = λ limit v w f l. c.one_reading.ensures limit v w f.0 l
