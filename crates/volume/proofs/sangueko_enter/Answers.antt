-- `volume::sangueko_enter` meets its contract.
-- Assumes nothing.
use native.Mathlib.Omega.{arith}
use mathlib.Core.Path.{refl}
use borrow.Author.Rules.{rules}
use Rattle.std.proofs.lemmas.Result.{err_from_is_err_and}
use Rattle.format.specs.Refusals.{number_in, count_in}
use Rattle.format.proofs.RefusalLaws.{refusal-positive}
use Rattle.intake.proofs.JoinLaws.{not_stopped}
use Rattle.volume.proofs.CallLaws.{enter-stopped, head-width, cards-counted, enter-refused', enter-ready', enter-done'}
use Rattle.volume.proofs.sangueko_enter.Goals as goal

pub returns-in_err-refused : goal.returns-in_err-refused
unfolding number_in count_in
returns-in_err-refused c =
    let e = err_from_is_err_and c.from_residual.result c.from_residual.ensures.1 in
    rw (e.1, e.2) (enter-stopped _ _ _ _ c.in_err-refused.ensures)

pub card_count-n-requires : goal.card_count-n-requires
card_count-n-requires c = head-width _ (not_stopped _ _ c.in_ok-refused.ensures)

pub enter_refused-requires : goal.enter_refused-requires
enter_refused-requires c = cards-counted _ (not_stopped _ _ c.in_ok-refused.ensures) _ c.card_count-n.ensures

pub returns-in_err-enter_refused : goal.returns-in_err-enter_refused
unfolding number_in count_in
returns-in_err-enter_refused c =
    let e = err_from_is_err_and c.from_residual-in_err-enter_refused.result c.from_residual-in_err-enter_refused.ensures.1 in
    rw (e.1, e.2) (enter-refused' _ _ _ (not_stopped _ _ c.in_ok-refused.ensures) _ c.card_count-n.ensures _ c.in_err-enter_refused.ensures (λ z. absurd (omega (arith, z, refusal-positive c.in_err-enter_refused.field-0.0))))

pub enter_card-requires : goal.enter_card-requires
unfolding number_in
enter_card-requires c = enter-ready' _ _ _ (not_stopped _ _ c.in_ok-refused.ensures) _ c.card_count-n.ensures _ c.in_ok-enter_refused.ensures refl (record { image = search rules; head = search rules; cards = search rules; extents = search rules; groups = search rules; used = search rules; retired = search rules })

pub returns : goal.returns
unfolding number_in count_in
returns c = enter-done' _ _ _ (not_stopped _ _ c.in_ok-refused.ensures) _ c.card_count-n.ensures _ c.in_ok-enter_refused.ensures refl (record { image = search rules; head = search rules; cards = search rules; extents = search rules; groups = search rules; used = search rules; retired = search rules }) _ _ c.enter_card.ensures.0 c.enter_card.ensures.1
