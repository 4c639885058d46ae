use mathlib.Core.Path.{◌≡◌}
use lib.Bits.{bit_xor}
use Rattle.std.specs.List.{fold}
use Rattle.crc32c_tables.specs.Register.{turns}
use Rattle.crc32c_tables.proofs.RegisterLaws.{none-fed, pair-more, both-fed, all-pairs}
use borrow.Author.Rules.{rules}
use Rattle.crc32c_tables.proofs.feed.Goals as goal

pub loop-pair-init : goal.loop-pair-init
loop-pair-init c = none-fed c.as_chunks.result.0.now _

pub loop-pair-preserved : goal.loop-pair-preserved
loop-pair-preserved c = pair-more _ _ _ _ _ c.loop-pair.invariant c.pair_step-c.ensures c.loop-pair-test.true

pub returns : goal.returns
returns c =
    let e : c.fold.result ≡ fold (λ r b. turns 8 (bit_xor r b)) c.loop-pair.c c.as_chunks.result.1.now = search rules in
    both-fed _ _ _ _ _ _ _ c.as_chunks.ensures.front c.as_chunks.ensures.back (all-pairs _ _ _ _ c.loop-pair.invariant c.loop-pair-test.false) e
