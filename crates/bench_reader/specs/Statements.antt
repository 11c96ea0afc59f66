-- The statement of one line of a netlist, or its fault.
use Rattle.std.specs.Prelude.{ℕ, Bool, true, not, ◌&&◌, List, [], ◌∷◌, map, length, Option, Some, None, option_map, Result, Ok, Err, codes, if◌then◌else◌}
use Rattle.std.specs.Char.{to_ascii_uppercase}
use Rattle.std.specs.List.{list_any, list_all}
use Rattle.std.specs.Map.{lookup}
use Rattle.std.specs.Option.{option_map_or}
use Rattle.text_rules.specs.Names.{Name, same_name, is_short_name, is_mark}
use Rattle.text_rules.specs.TextLines.{uncommented}
use Rattle.text_rules.specs.Tokens.{tokens}
use Rattle.device_model.specs.declared.gates.Kind.{Kind}
use Rattle.device_model.specs.declared.gates.Kind.TheVariants.{Buff}
use Rattle.device_model.specs.Gates.{rule, takes_inputs, gate_named}
use Rattle.bench_reader.specs.declared.kinds.FlipFlops.{FlipFlops}
use Rattle.bench_reader.specs.declared.kinds.FlipFlops.TheVariants.{Refused}
use Rattle.bench_reader.specs.declared.kinds.NamedKind.{NamedKind}
use Rattle.bench_reader.specs.declared.kinds.NamedKind.TheVariants.{Combinational, Sequential, Unknown}
use Rattle.bench_reader.specs.declared.fault.BenchFault.{BenchFault}
use Rattle.bench_reader.specs.declared.fault.BenchFault.TheVariants.{Line as NoForm, Name as NoName, Kind as NoKind, Inputs as WrongInputs, Sequential as KeepsItsValue}

-- ---- words

abbrev pub has_no_mark : List ℕ → Bool
has_no_mark token = not (list_any is_mark token)

abbrev pub capitals : List ℕ → List ℕ
capitals word = map to_ascii_uppercase word

-- What a word names, in letters of any case: the gate of that word; `BUF`, a second word for a buffer; `DFF`, a flip-flop, which keeps its
-- value for a time; or nothing.
abbrev pub kind_named : Name → NamedKind
kind_named word =
    option_map_or Combinational (gate_named (capitals word))
    (if same_name (capitals word) (codes "BUF") then Combinational Buff
    else if same_name (capitals word) (codes "DFF") then Sequential else Unknown)

-- ---- statements

-- a signal from outside, one that must be driven, or a gate with its output, its kind and its inputs
pub data Statement : Type 0 where
  Input : (signal : Name) → Statement
  Output : (signal : Name) → Statement
  Gate : (output : Name) (kind : NamedKind) (inputs : List Name) → Statement

-- the words, if the tokens are words with commas between them and a closing bracket
abbrev pub listed_from : List (List ℕ) → Option (List Name)
listed_from (x ∷ mark ∷ []) = if has_no_mark x && same_name mark (codes ")") then Some (x ∷ []) else None
listed_from (x ∷ mark ∷ y ∷ rest) =
    if has_no_mark x && same_name mark (codes ",") then option_map (λ names. x ∷ names) (listed_from (y ∷ rest)) else None
listed_from tokens = None

-- the inputs, if the tokens are what follows an opening bracket
abbrev pub inputs_in : List (List ℕ) → Option (List Name)
inputs_in (mark ∷ []) = if same_name mark (codes ")") then Some [] else None
inputs_in tokens = listed_from tokens

-- `WORD ( signal )` or `output = KIND ( inputs )`
abbrev pub statement_of : List (List ℕ) → Option Statement
statement_of (a ∷ b ∷ c ∷ d ∷ []) =
    if (same_name b (codes "(") && has_no_mark c) && same_name d (codes ")")
    then lookup (same_name (capitals a)) ((codes "INPUT", Input c) ∷ (codes "OUTPUT", Output c) ∷ []) else None
statement_of (a ∷ b ∷ c ∷ d ∷ e ∷ rest) =
    if (has_no_mark a && same_name b (codes "=")) && (has_no_mark c && same_name d (codes "("))
    then option_map (Gate a (kind_named c)) (inputs_in (e ∷ rest))
    else None
statement_of tokens = None

-- ---- faults

-- the gate of a part: a flip-flop is a buffer
abbrev pub part_gate : NamedKind → Option Kind
part_gate (Combinational gate) = Some gate
part_gate Sequential = Some Buff
part_gate Unknown = None

-- the fault of a kind with this number of inputs: a refused flip-flop, whatever its inputs; else an unknown kind; else a number of inputs
-- that the kind does not take. A flip-flop that is taken has one input, as a buffer
abbrev pub kind_fault : FlipFlops → ℕ → NamedKind → Option BenchFault
kind_fault Refused inputs Sequential = Some KeepsItsValue
kind_fault flip_flops inputs kind =
    option_map_or (λ gate. if takes_inputs (rule gate) inputs then None else Some WrongInputs) (part_gate kind) (Some NoKind)

-- the fault of a statement: first a signal that is no name, then the fault of the kind
abbrev pub statement_fault : FlipFlops → Statement → Option BenchFault
statement_fault flip_flops (Input signal) = if is_short_name signal then None else Some NoName
statement_fault flip_flops (Output signal) = if is_short_name signal then None else Some NoName
statement_fault flip_flops (Gate output kind inputs) =
    if list_all is_short_name (output ∷ inputs) then kind_fault flip_flops (length inputs) kind else Some NoName

-- ---- lines

abbrev pub reading_of : FlipFlops → List (List ℕ) → Result (Option Statement) BenchFault
reading_of flip_flops [] = Ok None
reading_of flip_flops (t ∷ ts) =
    option_map_or (λ s. option_map_or Err (statement_fault flip_flops s) (Ok (Some s))) (statement_of (t ∷ ts)) (Err NoForm)

-- the statement of a line, nothing for a line without tokens, or its fault
abbrev pub reading : FlipFlops → List ℕ → Result (Option Statement) BenchFault
reading flip_flops line = reading_of flip_flops (tokens true (uncommented line))
