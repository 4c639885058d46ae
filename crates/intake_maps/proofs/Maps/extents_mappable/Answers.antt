use Rattle.std.proofs.Common.{◌≡◌, refl, ℕ, Bool, true, false, rules}
use borrow.Author.Tests.{tests}
use Rattle.std.proofs.lemmas.Iterator.{serves_from_Range, cases_from_all, YieldsList-from_range}
use Rattle.rules.specs.Extent.{extent_bytes, decode_extent}
use Rattle.book.specs.Places.{record_at}
use Rattle.intake_maps.specs.MapTests.{extent_mappable}
use Rattle.intake_maps.proofs.MapLaws.{book-at, book-tested}
use Rattle.intake_maps.proofs.Maps.extents_mappable.Goals as goal

pub all-requires-clause-callable : goal.all-requires-clause-callable
all-requires-clause-callable c =
    serves_from_Range (λ x q k. search rules) (λ x l m. let p = book-at _ _ _ _ _ _ c.requires.extents_value m in search rules)

pub returns : goal.returns
returns c =
    let m = c.args.self.now in
    let test : ℕ → Bool = λ i. extent_mappable m.reserved m.used.now m.retired.now (record_at decode_extent extent_bytes c.args.extents.now i) in
    book-tested (extent_mappable _ _ _) _ _ _ _ _
    (cases_from_all _ _ _ (λ i. test i ≡ true) (λ i. test i ≡ false) c.all.ensures.ran (YieldsList-from_range _ _ _ refl refl) (λ x q k. search (rules, tests)) (λ x q k. search (rules, tests)))
