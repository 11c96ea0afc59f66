-- Worked rows: netlists whose device or fault a reader can say beforehand. The check computes both sides.
use Rattle.std.proofs.Common.{◌≡◌, ℕ, zero, suc, List, [], ◌∷◌, ◌++◌, codes, refl}
use Rattle.text_rules.specs.Names.{Name}
use Rattle.device_model.specs.declared.gates.Kind.{Kind}
use Rattle.device_model.specs.declared.gates.Kind.TheVariants.{And, Nand, Not, Buff}
use Rattle.device_model.specs.declared.component.Component.{Component}
use Rattle.device_model.specs.Devices.{Device}
use Rattle.std.specs.Prelude.{Result, Ok, Err}
use Rattle.bench_reader.specs.Faults.{Fault, fault_row}
use Rattle.bench_reader.specs.declared.kinds.FlipFlops.TheVariants.{Taken}
use Rattle.bench_reader.specs.Netlists.{netlist, netlist_with}

-- lines, each with its line feed
abbrev text : List (List ℕ) → List ℕ
text [] = []
text (line ∷ lines) = line ++ 10 ∷ text lines

-- the line and the number of a fault
abbrev shown : Result Device Fault → List ℕ
shown (Ok device) = []
shown (Err fault) = fault.line ∷ (fault_row fault.what).0 ∷ []

abbrev fault_of : List (List ℕ) → List ℕ
fault_of lines = shown (netlist (text lines))

-- the same netlists with flip-flops taken
abbrev with_flip_flops : List (List ℕ) → Result Device Fault
with_flip_flops lines = netlist_with Taken (text lines)

abbrev more_of_a : ℕ → List ℕ
more_of_a zero = codes ")"
more_of_a (suc n) = codes ",a" ++ more_of_a n

-- y is a gate whose inputs are the signal a, `more` + 1 times
abbrev gate_of_a : List ℕ → ℕ → List ℕ
gate_of_a kind more = codes "y = " ++ kind ++ codes "(a" ++ more_of_a more

abbrev part : List ℕ → Kind → List ℕ → Component
part name gate ports = record { name = name; kind = gate; ports = ports }

abbrev device : List Component → List Name → Device
device parts wires = record { parts = parts; wires = wires; tables = [] }

-- ---- devices

c17 : netlist (text (codes "# c17" ∷ codes "INPUT(1)" ∷ codes "INPUT(2)" ∷ codes "INPUT(3)" ∷ codes "INPUT(6)" ∷ codes "INPUT(7)" ∷ codes "OUTPUT(22)" ∷ codes "OUTPUT(23)" ∷ []
    ∷ codes "10 = NAND(1, 3)" ∷ codes "11 = NAND(3, 6)" ∷ codes "16 = NAND(2, 11)" ∷ codes "19 = NAND(11, 7)" ∷ codes "22 = NAND(10, 16)" ∷ codes "23 = NAND(16, 19)" ∷ []))
    ≡ Ok (device (part (codes "10") Nand (0 ∷ 8 ∷ 1 ∷ []) ∷ part (codes "11") Nand (8 ∷ 9 ∷ 2 ∷ []) ∷ part (codes "16") Nand (5 ∷ 2 ∷ 3 ∷ [])
    ∷ part (codes "19") Nand (2 ∷ 10 ∷ 4 ∷ []) ∷ part (codes "22") Nand (1 ∷ 3 ∷ 6 ∷ []) ∷ part (codes "23") Nand (3 ∷ 4 ∷ 7 ∷ []) ∷ [])
    (codes "1" ∷ codes "10" ∷ codes "11" ∷ codes "16" ∷ codes "19" ∷ codes "2" ∷ codes "22" ∷ codes "23" ∷ codes "3" ∷ codes "6" ∷ codes "7" ∷ []))
c17 = refl

-- capital and small letters, blanks, a comment, a carriage return, lines in any order, and lines that may repeat
loosely : netlist (text (codes "  c=buf ( b )#kept" ∷ (codes "oUtPuT( c )" ++ 13 ∷ []) ∷ codes "b = Not(a)" ∷ codes "input(a)" ∷ codes "INPUT (a)" ∷ codes "OUTPUT(c)" ∷ []))
    ≡ Ok (device (part (codes "b") Not (0 ∷ 1 ∷ []) ∷ part (codes "c") Buff (1 ∷ 2 ∷ []) ∷ []) (codes "a" ∷ codes "b" ∷ codes "c" ∷ []))
loosely = refl

-- a signal with the name of a keyword
keyword_as_signal : netlist (codes "INPUT(INPUT)")
    ≡ Ok (device [] (codes "INPUT" ∷ []))
keyword_as_signal = refl

-- a gate that reads itself
reads_itself : netlist (codes "y = AND(y, y)") ≡ Ok (device (part (codes "y") And (0 ∷ 0 ∷ 0 ∷ []) ∷ []) (codes "y" ∷ []))
reads_itself = refl

comments_only : netlist (text (codes "# a" ∷ codes "  # b" ∷ [] ∷ [])) ≡ Ok (device [] [])
comments_only = refl

most_inputs : fault_of (codes "INPUT(a)" ∷ gate_of_a (codes "NOR") 63 ∷ []) ≡ []
most_inputs = refl

most_inputs_of_xor : fault_of (codes "INPUT(a)" ∷ gate_of_a (codes "XOR") 63 ∷ []) ≡ []
most_inputs_of_xor = refl

-- ---- faults

one_input_of_xor_too_many : fault_of (codes "INPUT(a)" ∷ gate_of_a (codes "XOR") 64 ∷ []) ≡ 2 ∷ 4 ∷ []
one_input_of_xor_too_many = refl

-- the inputs of a flip-flop are not counted
no_inputs_of_a_flip_flop : fault_of (codes "q = DFF()" ∷ []) ≡ 1 ∷ 5 ∷ []
no_inputs_of_a_flip_flop = refl

-- ---- flip-flops taken

no_inputs_of_a_taken_flip_flop : shown (with_flip_flops (codes "q = DFF()" ∷ [])) ≡ 1 ∷ 4 ∷ []
no_inputs_of_a_taken_flip_flop = refl

flip_flop_drives_again : shown (with_flip_flops (codes "INPUT(q)" ∷ codes "q = DFF(q)" ∷ [])) ≡ 2 ∷ 6 ∷ []
flip_flop_drives_again = refl
