-- Each case is computed. Assumes nothing.
use Rattle.definitions.proofs.Cases.{bench_cases, bench_rows}
use Rattle.definitions.proofs.bench_claim.Goals as goal

pub returns : goal.returns
returns c = (bench_cases, bench_rows)
