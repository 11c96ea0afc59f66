-- The names of variables, and that they rise.
use Rattle.std.proofs.Common.{◌≡◌, ℕ, zero, suc, ◌+◌, true, [], length, refl, ap, arith}
use Rattle.std.specs.Ordering.{is_lt}
use Rattle.std.proofs.lemmas.Bool.{and_from}
use Rattle.std.proofs.lemmas.List.FromFn.{length-map-range_with_len}
use Rattle.text_rules.specs.Names.{names_rise}
use Rattle.nnf_ask.specs.Asking.{five_digits, variable_names}
use Rattle.nnf_ask.proofs.FiveDigits.{five_digits-rise}

pub variable_names-rise : (first count : ℕ) → names_rise (variable_names first count) ≡ true
variable_names-rise first zero = refl
variable_names-rise first (suc zero) = refl
variable_names-rise first (suc (suc count)) =
    and_from _ _ (ap is_lt (five_digits-rise first (first + 1) [] [] (omega arith))) (variable_names-rise (first + 1) (suc count))

pub length-variable_names : (first count : ℕ) → length (variable_names first count) ≡ count
length-variable_names first count = length-map-range_with_len five_digits first count
