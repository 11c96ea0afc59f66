-- What is asked has names that are names, and a count in its range.
use Rattle.std.proofs.Common.{◌≡◌, ℕ, Bool, true, false, cond, ◌&&◌, List, [], ◌∷◌, length, get_or, Option, Some, None, refl, inl, inr}
use Rattle.std.specs.Prelude.{◌==◌, nat_le, nat_lt, if◌then◌else◌}
use Rattle.std.specs.List.{list_all}
use Rattle.std.proofs.lemmas.Bool.{and_parts, and_from, cases_Bool}
use Rattle.std.specs.Map.{lookup}
use Rattle.std.specs.Option.{option_map_or}
use Rattle.text_rules.specs.Names.{Name, same_name, is_short_name}
use Rattle.text_rules.specs.Tokens.{words}
use Rattle.text_rules.specs.Numbers.{number_in, value_behind, are_digits, has_leading_zero}
use Rattle.script_lang.specs.declared.limits.TheConstants.{COUNT_LIMIT, LINE_LIMIT}
use Rattle.script_lang.proofs.Asked.{is_well_named, is_well_asked}
use Rattle.script_lang.specs.declared.refusal.LineRefusal.TheVariants.{UnknownCommand, BadValue, TooLong}
use Rattle.script_lang.specs.Script.{Request, After, Line, Blank, Refused, Ask, is_script_name, on_session, on_name, on_value, on_pair, on_count, on_names, at_equals, read_as, commands, line_of_words, line_of}

choice : (test : Bool) (one other : Line) → (test ≡ true → is_well_asked one ≡ true) → is_well_asked other ≡ true → is_well_asked (if test then one else other) ≡ true
choice true one other first second = first refl
choice false one other first second = second

well-on_session : (request : Request) → is_well_named request ≡ true → (ws : List (List ℕ)) → is_well_asked (on_session request ws) ≡ true
well-on_session request well [] = refl
well-on_session request well (s ∷ []) = choice (is_short_name s) _ _ (λ named. and_from _ _ named well) refl
well-on_session request well (s ∷ t ∷ ws) = refl

well-on_name : (request : Name → Request) → ((name : Name) → is_script_name name ≡ true → is_well_named (request name) ≡ true) → (ws : List (List ℕ)) → is_well_asked (on_name request ws) ≡ true
well-on_name request well [] = refl
well-on_name request well (s ∷ []) = refl
well-on_name request well (s ∷ name ∷ []) =
    choice (is_short_name s && is_script_name name) _ _
    (λ named. let parts = and_parts (is_short_name s) (is_script_name name) named in and_from _ _ parts.0 (well name parts.1))
    refl
well-on_name request well (s ∷ name ∷ t ∷ ws) = refl

well-value : (s : Name) (request : Bool → Request) → is_short_name s ≡ true → ((value : Bool) → is_well_named (request value) ≡ true) → (value : Option Bool) → is_well_asked (option_map_or (λ value. Ask s (request value)) value (Refused BadValue)) ≡ true
well-value s request named well None = refl
well-value s request named well (Some value) = and_from _ _ named (well value)

well-on_pair : (one other : List ℕ) (request : Name → Bool → Request) → ((name : Name) (value : Bool) → is_script_name name ≡ true → is_well_named (request name value) ≡ true) → (s : Name) (pair : Option (List ℕ × List ℕ)) → is_well_asked (on_pair one other request s pair) ≡ true
well-on_pair one other request well s None = refl
well-on_pair one other request well s (Some pair) =
    choice (is_short_name s && is_script_name pair.0) _ _
    (λ named. let parts = and_parts (is_short_name s) (is_script_name pair.0) named in
    well-value s (request pair.0) parts.0 (λ value. well pair.0 value parts.1) (lookup (same_name pair.1) ((one, true) ∷ (other, false) ∷ [])))
    refl

well-on_value : (one other : List ℕ) (request : Name → Bool → Request) → ((name : Name) (value : Bool) → is_script_name name ≡ true → is_well_named (request name value) ≡ true) → (ws : List (List ℕ)) → is_well_asked (on_value one other request ws) ≡ true
well-on_value one other request well [] = refl
well-on_value one other request well (s ∷ []) = refl
well-on_value one other request well (s ∷ pair ∷ []) = well-on_pair one other request well s (at_equals pair)
well-on_value one other request well (s ∷ pair ∷ t ∷ ws) = refl

-- a number that is read lies in its range
abbrev IsCounted : (ℕ → Request) → Type 0
IsCounted request = (n : ℕ) → (nat_le 1 n && nat_le n COUNT_LIMIT) ≡ true → is_well_named (request n) ≡ true

chosen : (request : ℕ → Request) (test : Bool) (n : ℕ) (s : Name) → is_short_name s ≡ true → (test ≡ true → is_well_named (request n) ≡ true) → is_well_asked (option_map_or (λ n. Ask s (request n)) (if test then Some n else None) (Refused BadValue)) ≡ true
chosen request true n s named well = and_from _ _ named (well refl)
chosen request false n s named well = refl

in_range : (request : ℕ → Request) → IsCounted request → (word : List ℕ) (s : Name) → is_short_name s ≡ true → is_well_asked (option_map_or (λ n. Ask s (request n)) (number_in 7 1 COUNT_LIMIT word) (Refused BadValue)) ≡ true
in_range request well word s named = elim (cases_Bool (are_digits 7 word)) [
  | inl digits ↦ rw (digits, number_in) (chosen request (nat_le 1 (value_behind 0 word) && nat_le (value_behind 0 word) COUNT_LIMIT) (value_behind 0 word) s named (well (value_behind 0 word)))
  | inr other ↦ rw (other, number_in)
]

well-count : (request : ℕ → Request) → IsCounted request → (zero_first : Bool) (word : List ℕ) (s : Name) → is_short_name s ≡ true → is_well_asked (option_map_or (λ n. Ask s (request n)) (if zero_first then None else number_in 7 1 COUNT_LIMIT word) (Refused BadValue)) ≡ true
well-count request well true word s named = refl
well-count request well false word s named = in_range request well word s named

well-on_count : (request : ℕ → Request) → IsCounted request → (ws : List (List ℕ)) → is_well_asked (on_count request ws) ≡ true
well-on_count request well [] = refl
well-on_count request well (s ∷ []) = refl
well-on_count request well (s ∷ count ∷ []) = choice (is_short_name s) _ _ (λ named. well-count request well (has_leading_zero count) count s named) refl
well-on_count request well (s ∷ count ∷ t ∷ ws) = refl

well-on_names : (ws : List (List ℕ)) → is_well_asked (on_names After ws) ≡ true
well-on_names [] = refl
well-on_names (s ∷ names) = choice (is_short_name s && list_all is_script_name names) _ _ (λ named. named) refl

-- each command reads well
abbrev AllRead : List (List ℕ) → List (List ℕ × (List (List ℕ) → Line)) → Type 0
AllRead ws [] = Unit {0}
AllRead ws (command ∷ rest) = (is_well_asked (command.1 ws) ≡ true) × AllRead ws rest

well-read_as : (word : List ℕ) (ws : List (List ℕ)) (known : List (List ℕ × (List (List ℕ) → Line))) → AllRead ws known
    → is_well_asked (read_as known word ws) ≡ true
well-read_as word ws [] all = refl
well-read_as word ws (command ∷ rest) all = by (same_name word command.0) (well-read_as word ws rest all.1)
  where
    by : (b : Bool) → is_well_asked (read_as rest word ws) ≡ true
        → is_well_asked (option_map_or (λ reading. reading ws) (cond b (Some command.1) (lookup (same_name word) rest)) (Refused UnknownCommand)) ≡ true
    by true later = all.0
    by false later = later

each_command : (ws : List (List ℕ)) → AllRead ws commands
each_command ws = search (well-on_session, well-on_name, well-on_value, well-on_count, well-on_names)

well-line_of_words : (ws : List (List ℕ)) → is_well_asked (line_of_words ws) ≡ true
well-line_of_words [] = refl
well-line_of_words (word ∷ ws) = choice (get_or word 0 0 == 35) Blank (read_as commands word ws) (λ _. refl) (well-read_as word ws commands (each_command ws))

-- what a line asks has names that are names, and a count from 1 to a million
pub well_asked : (line : List ℕ) → is_well_asked (line_of line) ≡ true
well_asked line = choice (nat_lt LINE_LIMIT (length line)) (Refused TooLong) (line_of_words (words line)) (λ _. refl) (well-line_of_words (words line))
