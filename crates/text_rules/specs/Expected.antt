-- The answer of a call that may run out of memory at any time.
use Rattle.std.specs.Prelude.{◌≡◌, Option, Some, None, Result, Ok, Err}

-- Whether a fault, if there is one, is the expected answer. Lack of memory is no fault, and promises nothing.
abbrev pub IsExpectedFault : {B F : Type 0} → Option F → Result B F → Type 0
IsExpectedFault None expected = Unit {0}
IsExpectedFault (Some fault) expected = expected ≡ Err fault

-- `view` of an `Ok` is the expected value, and the fault of an error is the expected fault.
abbrev pub Fulfils : {A B E F : Type 0} → (A → B) → (E → Option F) → Result B F → Result A E → Type 0
Fulfils view told expected (Ok answer) = expected ≡ Ok (view answer)
Fulfils view told expected (Err error) = IsExpectedFault (told error) expected
