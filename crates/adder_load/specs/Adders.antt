-- The ripple adder that a load is made of, as a netlist.
use Rattle.std.specs.Prelude.{ℕ, ◌+◌, ◌/◌, ◌%◌, List, ◌∷◌, ◌++◌, codes}
use Rattle.std.specs.List.{flat_map, range_with_len}
use Rattle.text_rules.specs.Names.{Name}

-- the signal of a letter at a place below 10,000: four digits and the letter
abbrev pub signal : ℕ → List ℕ → Name
signal place letter = (48 + place / 1000) ∷ (48 + place / 100 % 10) ∷ (48 + place / 10 % 10) ∷ (48 + place % 10) ∷ letter

abbrev pub input_line : Name → List ℕ
input_line input = codes "INPUT(" ++ (input ++ codes ")\n")

-- `output = KIND(first, second)`
abbrev pub gate_line : Name → List ℕ → Name → Name → List ℕ
gate_line output kind first second =
    output ++ (codes " = " ++ (kind ++ (codes "(" ++ (first ++ (codes ", " ++ (second ++ codes ")\n"))))))

-- A place adds the bits a and b and the carry c: s is the sum, and the carry into the next place is 1 if g or p is.
abbrev pub place_lines : ℕ → List ℕ
place_lines place =
    let a = signal place (codes "a") in
    let b = signal place (codes "b") in
    let c = signal place (codes "c") in
    let x = signal place (codes "x") in
    let s = signal place (codes "s") in
    let g = signal place (codes "g") in
    let p = signal place (codes "p") in
    input_line a ++ (input_line b
    ++ (gate_line x (codes "XOR") a b ++ (gate_line s (codes "XOR") x c
    ++ (gate_line g (codes "AND") a b ++ (gate_line p (codes "AND") x c
    ++ gate_line (signal (place + 1) (codes "c")) (codes "OR") g p)))))

-- the carry into the first place, and `places` places
abbrev pub adder_text : ℕ → List ℕ
adder_text places = input_line (signal 0 (codes "c")) ++ flat_map place_lines (range_with_len 0 places)
