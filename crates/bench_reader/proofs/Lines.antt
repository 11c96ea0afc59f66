-- The readings of lines, line by line.
use Rattle.std.proofs.Common.{◌≡◌, ℕ, ◌+◌, true, List, [], ◌∷◌, ◌++◌, map, drop, get_or, length, Option, Some, None, Ok, append_assoc, refl, ◌<◌, drop-drop, arith}
use Rattle.std.specs.Prelude.{Result}
use Rattle.std.specs.List.{list_all, filter_map, enumerate_from, flat_map}
use Rattle.std.proofs.lemmas.Bool.{and_from}
use Rattle.std.proofs.lemmas.List.{drop_more, map-append}
use Rattle.bench_reader.specs.declared.fault.BenchFault.{BenchFault}
use Rattle.bench_reader.specs.declared.kinds.FlipFlops.{FlipFlops}
use Rattle.bench_reader.specs.Statements.{Statement, statement_fault, reading}
use Rattle.bench_reader.specs.Netlists.{fault_in, statement_in}
use Rattle.bench_reader.specs.inner.Steps.{is_faultless}

-- the readings of lines, if the first has this number
abbrev pub readings_from : FlipFlops → ℕ → List (List ℕ) → List (ℕ × Result (Option Statement) BenchFault)
readings_from flip_flops number lines = enumerate_from number (map (reading flip_flops) lines)

-- the faults of all lines are those of the lines left, and the statements are `done` and those of the lines left
pub record IsReadTo (flip_flops : FlipFlops) (number : ℕ) (lines left : List (List ℕ)) (done : List (ℕ × Statement)) : Type 0 where
  pub no_fault : filter_map fault_in (readings_from flip_flops 1 lines) ≡ filter_map fault_in (readings_from flip_flops number left)
  pub so_far : filter_map statement_in (readings_from flip_flops 1 lines) ≡ done ++ filter_map statement_in (readings_from flip_flops number left)

-- ---- statements without a fault

-- a statement without a fault has none either if flip-flops are taken
taken_too : (flip_flops : FlipFlops) (s : Statement) → statement_fault flip_flops s ≡ None → is_faultless s ≡ true
taken_too flip_flops s h = grind arith

-- a statement that a line makes has no fault
read_is_faultless : (flip_flops : FlipFlops) (line : List ℕ) (s : Statement) → reading flip_flops line ≡ Ok (Some s) → is_faultless s ≡ true
read_is_faultless flip_flops line s e = grind (arith, taken_too)

abbrev pub said : ℕ × Statement → Statement
said s = s.1

-- nor has any statement of the lines
pub read_are_faultless : (flip_flops : FlipFlops) (n : ℕ) (lines : List (List ℕ)) → list_all is_faultless (map said (filter_map statement_in (readings_from flip_flops n lines))) ≡ true
read_are_faultless flip_flops n [] = refl
read_are_faultless flip_flops n (line ∷ lines) = grind (arith, and_from, read_is_faultless, read_are_faultless flip_flops (n + 1) lines)

-- ---- statements one after the other

pub faultless_rest : {S : Type 0} (means : S → Statement) (statements : List S) (i : ℕ) → list_all is_faultless (map means (drop i statements)) ≡ true
    → list_all is_faultless (map means (drop (i + 1) statements)) ≡ true
faultless_rest means statements i h =
    let e : drop 1 (drop i statements) ≡ drop (i + 1) statements = simp drop-drop refl in grind arith

-- the next statement adds its items
pub items-more : {S A B : Type 0} (items : Statement → List A) (shown : A → B) (means : S → Statement) (statements : List S) (i : ℕ) (default : S) (whole done found : List B)
    → i < length statements → whole ≡ done ++ map shown (flat_map items (map means (drop i statements))) → found ≡ map shown (items (means (get_or statements i default)))
    → whole ≡ (done ++ found) ++ map shown (flat_map items (map means (drop (i + 1) statements)))
items-more items shown means statements i default whole done found l h e = grind (arith, drop_more, map-append, append_assoc)
