-- Designs in `.dev` text: the design of a text, or its fault and the line of the fault.
use Rattle.std.specs.Prelude.{ℕ, ◌+◌, List, [], ◌∷◌, Result, Ok, Err}
use Rattle.std.specs.Result.{result_flatten, result_map_both}
use Rattle.text_rules.specs.TextLines.{all_lines}
use Rattle.component_lang.specs.declared.fault.LangFault.{LangFault}
use Rattle.component_lang.specs.declared.fault.LangFault.TheVariants.{NoTop}
use Rattle.component_lang.specs.Designs.{Design}
use Rattle.component_lang.specs.Kinds.{Section, Outside, AfterTop, Reader}
use Rattle.component_lang.specs.DesignLines.{after_line}

pub record Fault : Type 0 where
  pub line : ℕ
  pub what : LangFault

-- the fault of a text without a top is in line 0
abbrev pub ended : Reader → Section → Result Design Fault
ended reader (AfterTop top) = Ok (record { types = reader.types; blocks = reader.blocks; top = top })
ended reader section = Err (record { line = 0; what = NoTop })

-- what the lines make of what is read above, up to the first fault
abbrev pub design_from : ℕ → List (List ℕ) → Reader → Result Design Fault
design_from line [] reader = ended reader reader.section
design_from line (l ∷ lines) reader =
    result_flatten (result_map_both (design_from (line + 1) lines) (λ what. record { line = line; what = what }) (after_line reader l))

-- the design of a text, or its first fault; lines are numbered from 1
abbrev pub design : List ℕ → Result Design Fault
design text = design_from 1 (all_lines text) (record { types = []; blocks = []; section = Outside })
