-- The kinds of parts. One table has the gates.
use Rattle.std.specs.Prelude.{ℕ, Bool, true, false, ◌&&◌, nat_le, min, List, [], ◌∷◌, map, codes, Option}
use Rattle.std.specs.Map.{lookup}
use Rattle.std.specs.List.{list_all, list_any}
use Rattle.text_rules.specs.Names.{Name, same_name}
use Rattle.state_rules.specs.Bits.{same_bit, has_odd_ones}
use Rattle.device_model.specs.declared.gates.Kind.{Kind}
use Rattle.device_model.specs.declared.gates.Kind.TheVariants.{And, Or, Nand, Nor, Xor, Xnor, Not, Buff, Table}
use Rattle.device_model.specs.declared.gates.Gate.{Gate}
use Rattle.device_model.specs.declared.gates.Rule.{Rule}
use Rattle.device_model.specs.declared.gates.Rule.TheVariants.{Gate as OfGate, Table as OfTable}
use Rattle.device_model.specs.declared.gates.Reduction.{Reduction}
use Rattle.device_model.specs.declared.gates.Reduction.TheVariants.{AllOnes, AnyOne, OddOnes}
use Rattle.device_model.specs.declared.limits.TheConstants.{INPUT_LIMIT}

abbrev pub gate_rule : Reduction → Bool → ℕ → Rule
gate_rule reduction positive most_inputs = OfGate (record { reduction = reduction; positive = positive; most_inputs = most_inputs })

-- The word of a gate, the question about its inputs, whether the output is the answer or its opposite, and the most inputs. A
-- part of a type has no word.
abbrev pub kind_row : Kind → Name × Rule
kind_row And = (codes "AND", gate_rule AllOnes true INPUT_LIMIT)
kind_row Or = (codes "OR", gate_rule AnyOne true INPUT_LIMIT)
kind_row Nand = (codes "NAND", gate_rule AllOnes false INPUT_LIMIT)
kind_row Nor = (codes "NOR", gate_rule AnyOne false INPUT_LIMIT)
kind_row Xor = (codes "XOR", gate_rule OddOnes true INPUT_LIMIT)
kind_row Xnor = (codes "XNOR", gate_rule OddOnes false INPUT_LIMIT)
kind_row Not = (codes "NOT", gate_rule AllOnes false 1)
kind_row Buff = (codes "BUFF", gate_rule AllOnes true 1)
kind_row (Table t) = ([], OfTable t)

abbrev pub gates : List Kind
gates = And ∷ Or ∷ Nand ∷ Nor ∷ Xor ∷ Xnor ∷ Not ∷ Buff ∷ []

abbrev pub word : Kind → Name
word kind = (kind_row kind).0

-- the rule of a part of a kind
abbrev pub rule : Kind → Rule
rule kind = (kind_row kind).1

-- whether a gate takes `inputs` inputs
abbrev pub takes : Gate → ℕ → Bool
takes gate inputs = nat_le 1 inputs && nat_le inputs (min gate.most_inputs INPUT_LIMIT)

-- whether a part is a gate that takes `inputs` inputs
abbrev pub takes_inputs : Rule → ℕ → Bool
takes_inputs (OfGate gate) inputs = takes gate inputs
takes_inputs (OfTable t) inputs = false

-- whether all bits, one or more bits, or an odd number of bits are 1
abbrev pub reduced : Reduction → List Bool → Bool
reduced AllOnes bits = list_all (λ b. b) bits
reduced AnyOne bits = list_any (λ b. b) bits
reduced OddOnes bits = has_odd_ones bits

-- the output of a gate for these inputs
abbrev pub gate_value : Gate → List Bool → Bool
gate_value gate inputs = same_bit gate.positive (reduced gate.reduction inputs)

-- the word of each gate, with the gate
abbrev pub gate_words : List (Name × Kind)
gate_words = map (λ gate. (word gate, gate)) gates

-- the gate that a word names, in exactly these letters
abbrev pub gate_named : Name → Option Kind
gate_named word = lookup (same_name word) gate_words
