use Rattle.npm_reading.proofs.Alike as law
use Rattle.npm_reading.proofs.laws.alike.npm_reads_alike.Goals as goal

pub returns : goal.returns
returns c = record { same = law.same-accepted }
