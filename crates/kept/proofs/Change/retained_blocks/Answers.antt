-- `kept::Change::retained_blocks` meets its contract. Assumes nothing.
use mathlib.Core.Path.{◌∙◌}
use Rattle.kept.proofs.ChangeLaws.{blocks-are}
use Rattle.kept.proofs.RetainedLaws.{choosing-front, from-none, from-limited, retained-none, retained-some}
use Rattle.kept.proofs.Change.retained_blocks.Goals as goal

pub returns-then-not-verified : goal.returns-then-not-verified
returns-then-not-verified c =
    let n = c.unit_blocks-count.ensures in
    let z = c.fill.ensures.after (λ y h. h) in
    record {
      from_old = from-none _ _ _ _ n.1 z;
      retained = λ ch is. retained-none ch _ _ _ _ is _ _ _ _ _ _ c.if-not-verified.true n.1 (n.0 ∙ blocks-are ch _ _ _ _ is _) _ z c.requires.len.1;
    }

pub returns : goal.returns
returns c =
    let n = c.unit_blocks-count.ensures in
    let f = choosing-front _ _ _ _ _ _ c.args.kept.now _ n.1 c.requires.len.1 c.candidates.ensures in
    record {
      from_old = from-limited _ _ _ _ _ _ _ _ _ n.1 f.1 c.within_limit.ensures;
      retained = λ ch is. retained-some ch _ _ _ _ is _ _ _ _ _ _ c.if-not-verified.false n.1 _ f.0 _ c.settled_length-settled.ensures.0 (n.0 ∙ blocks-are ch _ _ _ _ is _) f.1 c.within_limit.ensures;
    }
