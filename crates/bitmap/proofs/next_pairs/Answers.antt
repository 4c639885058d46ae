use Rattle.std.proofs.Common.{arith, ◌≡◌, ◌+◌, ◌*◌}
use Rattle.bitmap.proofs.MapLaws.{word-found, word-passed}
use Rattle.bitmap.proofs.next_pairs.Goals as goal

pub returns-then-w-none : goal.returns-then-w-none
returns-then-w-none c = word-found _ _ _ _ _ _ _ _ c.loop-k.invariant c.le64-w.ensures c.le64-w.type_inv c.word_of-none.ensures c.if-w-none.true c.first.ensures (λ k. (c.type_inv.m k).fits) (omega arith) (omega arith)

pub returns-then-x-none : goal.returns-then-x-none
returns-then-x-none c =
    word-found _ _ _ _ _ _ _ _ (word-passed _ _ _ _ _ _ c.loop-k.invariant c.le64-w.ensures c.word_of-none.ensures c.if-w-none.false (λ k. (c.type_inv.m k).fits) (omega arith)) c.le64-x.ensures c.le64-x.type_inv c.word_of-none.ensures c.if-x-none.true c.first-then-x-none.ensures (λ k. (c.type_inv.m k).fits) (omega arith) (omega arith)

pub loop-k-preserved : goal.loop-k-preserved
loop-k-preserved c =
    let e : c.args.a + 128 * (c.loop-k.k + 1) ≡ c.args.a + 128 * c.loop-k.k + 64 + 64 = omega arith in
    rw e (word-passed _ _ _ _ _ _ (word-passed _ _ _ _ _ _ c.loop-k.invariant c.le64-w.ensures c.word_of-none.ensures c.if-w-none.false (λ k. (c.type_inv.m k).fits) (omega arith)) c.le64-x.ensures c.word_of-none.ensures c.if-x-none.false (λ k. (c.type_inv.m k).fits) (omega arith))
