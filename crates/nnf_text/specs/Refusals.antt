-- The refusal in an error.
use Rattle.std.specs.Prelude.{Option, Some, None}
use Rattle.nnf_text.specs.GraphTexts as refusals
use Rattle.nnf_text.specs.GraphTexts.{Refusal}
use Rattle.nnf_text.specs.declared.error.NnfError.{NnfError}
use Rattle.nnf_text.specs.declared.error.NnfError.TheVariants.{Header, Line, Child, Variable, Counts, TooLarge, Shared, Memory}

-- lack of memory is none
abbrev pub told : NnfError → Option Refusal
told Header = Some refusals.NoHeader
told (Line line) = Some (refusals.AtLine line refusals.WrongLine)
told (Child line) = Some (refusals.AtLine line refusals.WrongChild)
told (Variable line) = Some (refusals.AtLine line refusals.WrongVariable)
told (Counts said found) = Some (refusals.Counts said found)
told (TooLarge bits) = Some (refusals.TooLarge bits)
told (Shared node var) = Some (refusals.Shared node var)
told Memory = None
