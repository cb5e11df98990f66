use Rattle.portfolio.proofs.RunLaws.{no_runs, one_run, run_parts, run_turns, runs_most}
use Rattle.portfolio.proofs.theorems.runs.Goals as goal

pub returns-clause-none : goal.returns-clause-none
returns-clause-none c = no_runs

pub returns-clause-one : goal.returns-clause-one
returns-clause-one c = one_run

pub returns-clause-parted : goal.returns-clause-parted
returns-clause-parted c = run_parts

pub returns-clause-turned : goal.returns-clause-turned
returns-clause-turned c = run_turns

pub returns-clause-most : goal.returns-clause-most
returns-clause-most c = runs_most
