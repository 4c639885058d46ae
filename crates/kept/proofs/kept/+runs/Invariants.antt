-- `kept::kept::runs` calls itself, and the measure is the number of blocks. Assumes nothing.
use Rattle.kept.proofs.kept.+runs.Given as goal

abbrev pub decreases-runs : goal.decreases-runs
decreases-runs l = l.n
