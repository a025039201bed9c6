use Rattle.std.proofs.Common.{arith, inl, inr}
use Rattle.std.proofs.lemmas.Grind.{common_steps}
use Rattle.npm_semver.proofs.subcommands.spans.Dialect.write_released.Goals as goal

pub returns-in_ok-write_between-in-Postgres : goal.returns-in_ok-write_between-in-Postgres
returns-in_ok-write_between-in-Postgres c = rw c.in-Postgres.is (grind (arith, common_steps))

pub returns-in-Duckdb : goal.returns-in-Duckdb
returns-in-Duckdb c = rw c.in-Duckdb.is c.write_between-in-Duckdb.ensures

pub returns-in-Sqlite : goal.returns-in-Sqlite
returns-in-Sqlite c =
    elim c.in-Sqlite.is [ inl e ↦ rw e c.write_between-in-Sqlite.ensures | inr e ↦ rw e c.write_between-in-Sqlite.ensures ]
