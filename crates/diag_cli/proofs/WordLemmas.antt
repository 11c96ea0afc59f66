-- Lemmas about what the words ask for.
use Rattle.std.proofs.Common.{◌≡◌, ℕ, ◌<◌, ◌≤◌, ◌-◌, Bool, List, [], ◌∷◌, length, map, take, drop, get_or, take_all, Option, None, IfSome, refl, sym, codes, unwrap_or, arith, if◌then◌else◌}
use Rattle.std.specs.Prelude.{option_and_then}
use Rattle.std.specs.Bool.{then_some}
use Rattle.std.specs.Option.{option_map}
use Rattle.std.proofs.lemmas.Bool.Decides.{nat_tests}
use Rattle.text_rules.specs.Names.{same_name}
use Rattle.text_rules.specs.Numbers.{plain_number_in}
use Rattle.adder_load.specs.declared.adders.TheConstants.{PLACE_LIMIT}
use Rattle.device_model.specs.declared.limits.TheConstants.{PART_LIMIT}
use Rattle.branch_states.specs.declared.measuring.TheConstants.{BUDGET_LIMIT}
use Rattle.frame_unroller.specs.declared.unrolling.TheConstants.{FRAME_LIMIT}
use Rattle.level_lister.specs.declared.levels.TheConstants.{TOP_LIMIT}
use Rattle.session_core.specs.declared.limits.TheConstants.{SESSION_LIMIT}
use Rattle.diag_cli.specs.declared.words.TheConstants.{DEFAULT_BUDGET, DEFAULT_SESSIONS}
use Rattle.diag_cli.specs.declared.words.Takes.TheVariants.{Nothing, Number}
use Rattle.diag_cli.specs.declared.words.ServeOptions.{ServeOptions}
use Rattle.diag_cli.specs.declared.words.Command.TheVariants.{Compile}
use Rattle.diag_cli.specs.declared.words.Form.{Form as FormRead}
use Rattle.diag_cli.specs.Words.{Form, Over, words_after, is_given, option_set, are_options, first_number, number_given, serve_options, form_serve, form_by, form_ask, form_load, form_by_words, form_of}
use Rattle.device_files.specs.Paths.{is_device_path}
use Rattle.diag_cli.specs.inner.Forms.{meant, AreWithinLimits, IsWithinLimits}

-- ---- words of the code and words of the definition

-- the words after the first two
pub form_after : {S : Type 0} (f : S → List ℕ) (words : List S) (command next : S) → 2 ≤ length words
    → command ≡ get_or words 0 command → next ≡ get_or words 1 next
    → form_of (map f words) ≡ form_by_words (f command) (f next) (map f (take (length words - 2) (drop 2 words)))
form_after f [] command next long c p = absurd (omega (arith, long))
form_after f (x ∷ []) command next long c p = absurd (omega (arith, long))
form_after f (x ∷ y ∷ words) command next long c p = rw (take_all (length (x ∷ y ∷ words) - 2) words (omega arith)) (sym (λ k. form_by_words (f (c k)) (f (p k)) (map f words)))

pub few_words : {S : Type 0} (f : S → List ℕ) (words : List S) → length words < 2 → None ≡ form_of (map f words)
few_words f [] short = refl
few_words f (x ∷ []) short = refl
few_words f (x ∷ y ∷ words) short = absurd (omega (arith, short))

-- ---- the numbers of a form are within their limits

abbrev IsWithin : (low high n : ℕ) → Type 0
IsWithin low high n = (low ≤ n) × (n ≤ high)

plain_number_in-range : (most low high : ℕ) (word : List ℕ) → IfSome (plain_number_in most low high word) (IsWithin low high)
plain_number_in-range most low high word = grind (arith, nat_tests)

number_within : (digits least most : ℕ) (found : Option (List (List ℕ))) → IfSome (option_and_then (first_number (Number digits least most)) found) (IsWithin least most)
number_within digits least most found = grind (arith, plain_number_in-range digits least most)

-- a form, if there is one, is within its limits
record GivesWithin (form : Option Form) : Type 0 where
  given : IfSome form IsWithinLimits

only_within : (taken : Bool) (form : Form) → IsWithinLimits form → IfSome (then_some taken form) IsWithinLimits
only_within taken form is = grind arith

serve_within : (path : List ℕ) (options : ServeOptions) (frames : Option ℕ) → AreWithinLimits options → IfSome frames (IsWithin 1 FRAME_LIMIT) → IfSome (form_serve path options frames) IsWithinLimits
serve_within path options frames are times = grind (arith, only_within)

of_command : (is_command : Bool) (form other : Option Form) → IfSome form IsWithinLimits → GivesWithin other → GivesWithin (if is_command then form else other)
of_command is_command form other is others = grind arith

-- the number of sessions, or its default, is within its limits
sessions_within : (words : List (List ℕ)) → IsWithin 1 SESSION_LIMIT (unwrap_or (number_given (codes "serve") (codes "--sessions") words) DEFAULT_SESSIONS)
sessions_within words = grind (arith, number_within 4 1 SESSION_LIMIT (words_after (codes "--sessions") words))

budget_within : (words : List (List ℕ)) → IsWithin 1 BUDGET_LIMIT (unwrap_or (number_given (codes "serve") (codes "--budget") words) DEFAULT_BUDGET)
budget_within words = grind (arith, number_within 7 1 BUDGET_LIMIT (words_after (codes "--budget") words))

form_by_within : (command path : List ℕ) (words : List (List ℕ)) → GivesWithin (form_by command path words)
form_by_within command path words =
    let frames = number_given (codes "serve") (codes "--frames") words in
    let served : AreWithinLimits (serve_options words) = grind (arith, budget_within words, sessions_within words, number_within 7 0 TOP_LIMIT (words_after (codes "--levels") words)) in
    of_command (same_name command (codes "serve")) (form_serve path (serve_options words) frames) _
    (serve_within path (serve_options words) frames served (number_within 2 1 FRAME_LIMIT (words_after (codes "--frames") words)))
    (of_command (same_name command (codes "compile")) _ _
    (only_within (is_device_path path) (Over path (Compile (unwrap_or (number_given (codes "compile") (codes "--budget") words) DEFAULT_BUDGET) (is_given (codes "--narrow") words))) (budget_within words).1)
    (record { given = grind arith }))

form_load_within : (places : List ℕ) (words : List (List ℕ)) → IfSome (form_load places words) IsWithinLimits
form_load_within places words = grind (arith, plain_number_in-range 3 1 PLACE_LIMIT places)

form_ask_within : (path : List ℕ) (words : List (List ℕ)) → IfSome (form_ask path words) IsWithinLimits
form_ask_within path [] = tt
form_ask_within path (health ∷ words) = grind (arith, only_within, sessions_within words, plain_number_in-range 4 0 PART_LIMIT health)

form_of_within : (words : List (List ℕ)) → IfSome (form_of words) IsWithinLimits
form_of_within [] = tt
form_of_within (command ∷ []) = tt
form_of_within (command ∷ next ∷ words) =
    (of_command (same_name command (codes "load")) (form_load next words) _ (form_load_within next words)
    (of_command (same_name command (codes "ask")) (form_ask next words) _ (form_ask_within next words)
    (of_command (are_options (option_set command words) Nothing words) (form_by command next words) None (form_by_within command next words).given (record { given = tt })))).given

pub meant_within : (form : Option FormRead) (words : List (List ℕ)) → option_map meant form ≡ form_of words → IfSome form (λ f. IsWithinLimits (meant f))
meant_within form words is = grind (arith, form_of_within words)
