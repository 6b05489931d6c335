-- `numbers_to_message::from_numbers` meets its contract: the tests are those of the definition, and the message is that of the rows of the head code.
-- Assumes nothing.
use mathlib.Core.Path.{◌≡◌, sym, ap, ◌∙◌}
use Prim.Native.Nat.{ℕ}
use borrow.Author.Rules.{rules}
use borrow.Author.Tests.{lt-ltb, le-ltb}
use lib.ListN.{get_or}
use Rattle.std.specs.Option.{option_map}
use Rattle.std.specs.Result.{result_ok}
use Rattle.std.specs.declared.option.Option.TheVariants.{None, Some}
use Rattle.numbers_to_message.specs.declared.fit.NumberType.TheVariants.{Device}
use Rattle.numbers_to_message.specs.Values.{value}
use Rattle.numbers_to_message.specs.Table.{rows_of, message_of_numbers}
use Rattle.numbers_to_message.specs.Fits.{option_of, answer}
use Rattle.numbers_to_message.proofs.Laws.{whole_none, whole_some}
use Rattle.numbers_to_message.proofs.Options.{of_none, of_some}
use Rattle.numbers_to_message.proofs.from_numbers.Goals as goal

pub returns-then-v-lt2 : goal.returns-then-v-lt2
unfolding message_of_numbers
returns-then-v-lt2 c = rw (lt-ltb _ _ c.if-v-lt2.true)

pub returns-in_err-device : goal.returns-in_err-device
unfolding message_of_numbers
returns-in_err-device c =
    let v = c.args.v.now in
    let d = c.device_of.ensures ∙ ap (λ (x : ℕ). option_of (value Device x)) c.number_at.ensures in
    let n : c.device_of.result ≡ None = search rules in
    let r : c.from_residual.result ≡ None = search rules in
    rw (le-ltb _ _ c.if-v-lt2.false) (r ∙ sym (whole_none v (get_or v 0 0) (of_none _ (sym d ∙ n))))

pub returns-in_err-m : goal.returns-in_err-m
unfolding message_of_numbers
returns-in_err-m c =
    let v = c.args.v.now in
    let d = c.device_of.ensures ∙ ap (λ (x : ℕ). option_of (value Device x)) c.number_at.ensures in
    let m = c.answer.ensures ∙ ap (λ (x : ℕ). answer (rows_of x) v) c.number_at-2.ensures in
    let s : c.device_of.result ≡ Some c.in_ok-device.device = search rules in
    let n : c.ok.result ≡ None = search rules in
    let r : c.from_residual-in_err-m.result ≡ None = search rules in
    rw (le-ltb _ _ c.if-v-lt2.false)
    (r ∙ sym (whole_some v (get_or v 0 0) c.in_ok-device.device (of_some _ _ (sym d ∙ s)) ∙ ap (option_map (λ x. (c.in_ok-device.device, x))) (sym (ap result_ok m) ∙ sym c.ok.ensures.value ∙ n)))

pub returns : goal.returns
unfolding message_of_numbers
returns c =
    let v = c.args.v.now in
    let d = c.device_of.ensures ∙ ap (λ (x : ℕ). option_of (value Device x)) c.number_at.ensures in
    let m = c.answer.ensures ∙ ap (λ (x : ℕ). answer (rows_of x) v) c.number_at-2.ensures in
    let s : c.device_of.result ≡ Some c.in_ok-device.device = search rules in
    let n : c.ok.result ≡ Some c.in_ok-m.m = search rules in
    rw (le-ltb _ _ c.if-v-lt2.false)
    (sym (whole_some v (get_or v 0 0) c.in_ok-device.device (of_some _ _ (sym d ∙ s)) ∙ ap (option_map (λ x. (c.in_ok-device.device, x))) (sym (ap result_ok m) ∙ sym c.ok.ensures.value ∙ n)))
