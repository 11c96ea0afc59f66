-- The graph that an `.nnf` text writes, or the output that refuses a text that writes none.
use Rattle.std.specs.Prelude.{ℕ, List, [], ◌∷◌, Result, codes}
use Rattle.std.specs.Fmt.{decimal}
use Rattle.text_rules.specs.Tokens.{spaced}
use Rattle.state_rules.specs.Graphs.{Graph}
use Rattle.diag_edge.specs.ErrorLines.{fault_line}
use Rattle.nnf_text.specs.declared.checking.TheConstants.{BITS_LIMIT}
use Rattle.nnf_text.specs.GraphTexts.{Refusal, NoHeader, AtLine, WrongLine, WrongChild, WrongVariable, Counts, TooLarge, Shared, read_graph}
use Rattle.device_files.specs.Output.{Output}
use Rattle.device_files.specs.Describing.{or_line}

-- the line that says why a text gives no decomposable graph
abbrev pub graph_fault_line : Refusal → List ℕ
graph_fault_line NoHeader = codes "error: fault 1 header\n"
graph_fault_line (AtLine line WrongLine) = fault_line line 2 (codes "line")
graph_fault_line (AtLine line WrongChild) = fault_line line 3 (codes "child")
graph_fault_line (AtLine line WrongVariable) = fault_line line 4 (codes "variable")
graph_fault_line (Counts said found) = spaced (codes "error: fault 5 counts" ∷ decimal said ∷ decimal found ∷ [])
graph_fault_line (TooLarge bits) = spaced (codes "error: fault 6 bits" ∷ decimal bits ∷ codes "above" ∷ decimal BITS_LIMIT ∷ [])
graph_fault_line (Shared node variable) = spaced (codes "error: fault 7 shared node" ∷ decimal node ∷ codes "variable" ∷ decimal variable ∷ [])

-- the graph of a file, or the output that refuses it
abbrev pub graph_in : List ℕ → Result Graph Output
graph_in file = or_line graph_fault_line (read_graph file)
