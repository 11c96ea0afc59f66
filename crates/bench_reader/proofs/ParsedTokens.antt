-- Statements from tokens.
use Rattle.std.proofs.Common.{◌≡◌, ℕ, ◌<◌, ◌≤◌, true, List, [], ◌∷◌, length, get_or, Option, Some, None, codes, is_some, ap, arith}
use Rattle.std.specs.Prelude.{option_map}
use Rattle.std.specs.List.{filter}
use Rattle.std.proofs.lemmas.List.Sums.{length-filter, count_by-le-length}
use Rattle.text_rules.specs.Names.{Name, is_short_name}
use Rattle.text_rules.proofs.NameLemmas.{same_name-Decides}
use Rattle.text_rules.proofs.TokenLemmas.{length-tokens}
use Rattle.bench_reader.specs.declared.kinds.FlipFlops.{FlipFlops}
use Rattle.bench_reader.specs.declared.kinds.NamedKind.{NamedKind}
use Rattle.bench_reader.specs.declared.statement.Inputs.{Inputs}
use Rattle.bench_reader.specs.Statements.{Gate, has_no_mark, listed_from, inputs_in, statement_of, kind_named, kind_fault, statement_fault}
use Rattle.bench_reader.specs.inner.Lines.{input_names, count_names}

-- ---- lists of inputs

pub one_byte : (m : List ℕ) (k : ℕ) → 1 ≤ length m → length m < 2 → get_or m 0 0 ≡ k → m ≡ k ∷ []
one_byte [] k h l e = absurd (omega arith)
one_byte (b ∷ []) k h l e = ap (λ x. x ∷ []) e
one_byte (b ∷ d ∷ m) k h l e = absurd (omega arith)

some_with_first : (x : Name) (o : Option (List Name)) → is_some (option_map (λ (names : List Name). x ∷ names) o) ≡ is_some o
some_with_first x o = grind arith

-- A list goes on after a word, a comma and the next word.
pub listed_behind_comma : (x m y : Name) (left behind ts : List (List ℕ)) → has_no_mark x ≡ true → left ≡ m ∷ behind → m ≡ codes "," → behind ≡ y ∷ ts
    → is_some (listed_from (x ∷ left)) ≡ is_some (listed_from (y ∷ ts))
listed_behind_comma x m y left behind ts w l c b = rw (l, b, c, w) (some_with_first x (listed_from (y ∷ ts)))

-- the listed names are the words among the tokens
abbrev IsEvidence : List (List ℕ) → Option (List Name) → Type 0
IsEvidence ts None = Unit {0}
IsEvidence ts (Some names) = filter has_no_mark ts ≡ names

with_more : (x mark : Name) (ts : List (List ℕ)) (o : Option (List Name)) → has_no_mark x ≡ true → mark ≡ codes "," → IsEvidence ts o → IsEvidence (x ∷ mark ∷ ts) (option_map (λ (names : List Name). x ∷ names) o)
with_more x mark ts o w m h = grind arith

listed_words : (ts : List (List ℕ)) → IsEvidence ts (listed_from ts)
listed_words [] = tt
listed_words (x ∷ []) = tt
listed_words (x ∷ m ∷ []) = grind (arith, same_name-Decides)
listed_words (x ∷ m ∷ y ∷ ts) = grind (arith, same_name-Decides, with_more, listed_words (y ∷ ts))

input_words : (ts : List (List ℕ)) → IsEvidence ts (inputs_in ts)
input_words [] = tt
input_words (m ∷ []) = grind (arith, same_name-Decides)
input_words (x ∷ y ∷ ts) = listed_words (x ∷ y ∷ ts)

-- ---- gates

gate_behind : (output kind : Name) (ts : List (List ℕ)) → has_no_mark output ≡ true → has_no_mark kind ≡ true → is_some (inputs_in ts) ≡ true
    → statement_of (output ∷ codes "=" ∷ kind ∷ codes "(" ∷ ts) ≡ Some (Gate output (kind_named kind) (filter has_no_mark ts))
gate_behind output kind ts o k h = grind (arith, input_words)

-- A gate is a word, an equals sign, a word, an opening bracket and a list.
pub statement_of_gate : (output kind bracket : Name) (line left behind ts : List (List ℕ)) → line ≡ output ∷ codes "=" ∷ left → left ≡ kind ∷ behind → behind ≡ bracket ∷ ts
    → bracket ≡ codes "(" → has_no_mark output ≡ true → has_no_mark kind ≡ true → is_some (inputs_in ts) ≡ true
    → Some (Gate output (kind_named kind) (filter has_no_mark ts)) ≡ statement_of line
statement_of_gate output kind bracket line left behind ts e f g b o k h = grind (arith, gate_behind)

-- If the output and the inputs of a gate are names, its fault is that of its kind.
pub fault_of_gate : (flip_flops : FlipFlops) (output : Name) (kind : NamedKind) (names : List Name) (count : ℕ) → Some count ≡ count_names names → is_short_name output ≡ true
    → statement_fault flip_flops (Gate output kind names) ≡ kind_fault flip_flops count kind
fault_of_gate flip_flops output kind names count c o = grind arith

-- ---- the number of inputs

-- A line has no more inputs than bytes.
pub inputs_fit : (inputs : Inputs) → length (input_names inputs) ≤ length inputs.text.now
inputs_fit inputs = grind (arith, length-filter, count_by-le-length, length-tokens)

pub word_behind : (token : List ℕ) (left behind : List (List ℕ)) → left ≡ token ∷ behind → has_no_mark token ≡ true → 1 ≤ length (filter has_no_mark left)
word_behind token left behind e w = rw (e, w) (omega arith)
