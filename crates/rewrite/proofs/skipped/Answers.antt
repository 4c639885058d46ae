-- `rewrite::skipped` meets its contract.
-- Assumes nothing.
use mathlib.Core.Path.{refl}
use native.Mathlib.Omega.{arith}
use Rattle.rules.proofs.ListLaws.{clash}
use Rattle.rewrite.proofs.skipped.Goals as goal

pub returns-then-rewritten : goal.returns-then-rewritten
returns-then-rewritten c = (λ e. refl, λ e. absurd (clash e c.if-rewritten.true), omega arith)

pub returns : goal.returns
returns c = (λ e. absurd (clash c.if-rewritten.false e), λ e. refl, omega arith)
