-- Worked rows: small texts and their designs or faults.
use Rattle.std.proofs.Common.{◌≡◌, ℕ, zero, suc, List, [], ◌∷◌, ◌++◌, Result, Ok, Err, refl}
use Rattle.std.specs.Prelude.{codes, replicate}
use Rattle.text_rules.specs.Names.{Name}
use Rattle.device_model.specs.declared.gates.Kind.TheVariants.{Xnor, Not}
use Rattle.component_lang.specs.declared.design.UsedKind.TheVariants.{Gate, Shape as OfShape, Block as OfBlock}
use Rattle.component_lang.specs.declared.design.Shape.{Shape}
use Rattle.component_lang.specs.declared.design.Block.{Block}
use Rattle.component_lang.specs.declared.fault.LangFault.{LangFault}
use Rattle.component_lang.specs.declared.fault.LangFault.TheVariants.{Line as NotHere, Twice, Row, Cost}
use Rattle.component_lang.specs.Designs.{Design}
use Rattle.component_lang.specs.Reading.{Fault, design}

-- lines, each with its line feed
abbrev text_of : List Name → List ℕ
text_of [] = []
text_of (line ∷ lines) = line ++ 10 ∷ text_of lines

abbrev bad : ℕ → LangFault → Result Design Fault
bad line what = Err (record { line = line; what = what })

abbrev made : List Shape → List Block → ℕ → Result Design Fault
made types blocks top = Ok (record { types = types; blocks = blocks; top = top })

abbrev arguments_a : ℕ → List ℕ
arguments_a zero = []
arguments_a (suc n) = codes " a" ++ arguments_a n

-- a part u of this kind, with all of its `ports` ports at the wire a
abbrev part_of_a : List ℕ → ℕ → List ℕ
part_of_a kind ports = codes "part u " ++ kind ++ arguments_a ports

-- ---- refused for the first fault of the first line with one

row_of_a_letter : design (text_of (codes "type U p" ∷ codes "bad x" ∷ codes "end" ∷ [])) ≡ bad 2 Row
row_of_a_letter = refl

name_of_a_type : design (text_of (codes "type T a" ∷ codes "end" ∷ codes "block T a" ∷ codes "end" ∷ [])) ≡ bad 3 Twice
name_of_a_type = refl

wire_without_names : design (text_of (codes "block M a" ∷ codes "wire" ∷ [])) ≡ bad 2 NotHere
wire_without_names = refl

cost_of_1001 : design (text_of (codes "type C a" ∷ codes "cost 1001" ∷ codes "end" ∷ [])) ≡ bad 2 Cost
cost_of_1001 = refl

cost_with_a_leading_zero : design (text_of (codes "type C a" ∷ codes "cost 01" ∷ codes "end" ∷ [])) ≡ bad 2 Cost
cost_with_a_leading_zero = refl

-- a second cost is reported before one that is no number
twice_before_cost : design (text_of (codes "type C a" ∷ codes "cost 2" ∷ codes "cost x" ∷ codes "end" ∷ [])) ≡ bad 3 Twice
twice_before_cost = refl

cost_without_a_number : design (text_of (codes "type C a" ∷ codes "cost" ∷ codes "end" ∷ [])) ≡ bad 2 NotHere
cost_without_a_number = refl

cost_of_two_numbers : design (text_of (codes "type C a" ∷ codes "cost 1 2" ∷ codes "end" ∷ [])) ≡ bad 2 NotHere
cost_of_two_numbers = refl

cost_in_a_block : design (text_of (codes "block M a" ∷ codes "cost 2" ∷ codes "end" ∷ [])) ≡ bad 2 NotHere
cost_in_a_block = refl

cost_outside : design (text_of (codes "cost 2" ∷ [])) ≡ bad 1 NotHere
cost_outside = refl

-- ---- read

-- An ok T allows the rows 00 and 11, a faulty one 01 (its first port is 0, its second 1). N has an instance of M.
two_blocks : design (text_of (codes "# a design" ∷ codes "type T p q" ∷ codes "ok 00" ∷ codes "ok 11 # equal" ∷ codes "bad 01" ∷ codes "end" ∷ []
    ++ codes "block M a b" ∷ codes "wire c" ∷ codes "part u NOT a c" ∷ codes "part v T c b" ∷ codes "end" ∷ []
    ++ codes "block N x" ∷ codes "part m M x x" ∷ codes "end" ∷ codes "top N" ∷ codes "  # the end" ∷ []))
    ≡ made
    (record { name = codes "T"; table = record { ports = 2; ok = 9; bad = 4; cost = 1 } } ∷ [])
    (record {
      name = codes "M";
      ports = 2;
      wires = codes "a" ∷ codes "b" ∷ codes "c" ∷ [];
      parts = record { name = codes "u"; kind = Gate Not; args = 0 ∷ 2 ∷ [] } ∷ record { name = codes "v"; kind = OfShape 0; args = 2 ∷ 1 ∷ [] } ∷ [];
    } ∷ record { name = codes "N"; ports = 1; wires = codes "x" ∷ []; parts = record { name = codes "m"; kind = OfBlock 0; args = 0 ∷ 0 ∷ [] } ∷ [] } ∷ []) 1
two_blocks = refl

-- 64 inputs and an output
most_inputs : design (text_of (codes "block M a" ∷ part_of_a (codes "XNOR") 65 ∷ codes "end" ∷ codes "top M" ∷ []))
    ≡ made [] (record { name = codes "M"; ports = 1; wires = codes "a" ∷ []; parts = record { name = codes "u"; kind = Gate Xnor; args = replicate 65 0 } ∷ [] } ∷ []) 0
most_inputs = refl
