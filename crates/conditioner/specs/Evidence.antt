-- Evidence: what is known of each variable, one word for each; and states, one word for each part.
use Rattle.std.specs.Prelude.{ℕ, zero, suc, ◌==◌, Bool, true, false, List, map, Option, Some, None, if◌then◌else◌}
use Rattle.state_rules.specs.Bits.{same_bit}
use Rattle.conditioner.specs.declared.leaves.Leaf.{Leaf}
use Rattle.conditioner.specs.declared.leaves.Leaf.TheVariants.{True, False, Open}

-- what a word says of a variable: 0 nothing, 1 true, 2 false
abbrev pub known_of : ℕ → Option Bool
known_of zero = None
known_of (suc zero) = Some true
known_of (suc (suc n)) = Some false

-- the word for a bit
abbrev pub word_of : Bool → ℕ
word_of true = 1
word_of false = 2

-- the word for what is known of a variable
abbrev pub word_of_known : Option Bool → ℕ
word_of_known None = 0
word_of_known (Some bit) = word_of bit

-- what the evidence says of each variable
abbrev pub known : List ℕ → List (Option Bool)
known evidence = map known_of evidence

-- a literal under what is known of its variable
abbrev pub leaf_of : Bool → Option Bool → Leaf
leaf_of positive None = Open
leaf_of positive (Some bit) = if same_bit positive bit then True else False

-- a state, from words that are 0 if a part is ok
abbrev pub bits_of : List ℕ → List Bool
bits_of state = map (λ s. s == 0) state
