-- Worked rows: the moves of lines. Their check computes both sides.
use Rattle.std.proofs.Common.{◌≡◌, ℕ, Bool, true, false, List, [], ◌∷◌, Option, Some, None, map, refl}
use Rattle.std.specs.Prelude.{codes}
use Rattle.std.specs.Fmt.{digits}
use Rattle.state_rules.specs.Cases.{empty_case}
use Rattle.state_rules.specs.Systems.{System, no_extras, open_texts, with_extras}
use Rattle.session_rules.specs.Items.{line, LeastText}
use Rattle.session_rules.specs.Sessions.{Table, Step, left_by}
use Rattle.session_rules.specs.Moves.{line_moves, script_moves}

-- one of two parts is faulty, or both are
abbrev either : System
either = record {
  parts = codes "b" ∷ codes "c" ∷ [];
  wires = codes "a" ∷ [];
  costs = 1 ∷ 1 ∷ [];
  consistent = λ known. (false ∷ false ∷ []) ∷ (false ∷ true ∷ []) ∷ (true ∷ false ∷ []) ∷ [];
  extras = no_extras;
  graphs = true;
  texts = open_texts;
}

-- no state agrees
abbrev neither : System
neither = record either { consistent = λ known. [] }

-- one session, which knows nothing and is at this point
abbrev at_point : Option (List Bool) → Table
at_point point = (codes "S", record { known = empty_case 1 2; point = point }) ∷ []

-- the session after `b`, and after `c`
abbrev after_b : Table
after_b = at_point (Some (false ∷ true ∷ []))

abbrev after_c : Table
after_c = at_point (Some (true ∷ false ∷ []))

abbrev says : Table → List ℕ → Step
says table words = record { table = table; items = line (words ∷ []) ∷ [] }

three_of_a_list : line_moves either 16 (at_point None) (codes "list S 3")
    ≡ says after_b (codes "S diag b") ∷ says after_c (codes "S diag c") ∷ says after_c (codes "S end") ∷ []
three_of_a_list = refl

-- a list ends with its count, and goes on from the point
one_of_a_list : line_moves either 16 (at_point None) (codes "list S 1") ≡ says after_b (codes "S diag b") ∷ []
one_of_a_list = refl

two_after_a_point : line_moves either 16 after_b (codes "list S 9") ≡ says after_c (codes "S diag c") ∷ says after_c (codes "S end") ∷ []
two_after_a_point = refl

-- if no state agrees, the point stays
none_of_a_list : line_moves neither 16 after_b (codes "list S 3") ≡ says after_b (codes "S inconsistent") ∷ []
none_of_a_list = refl

-- ---- by rising cost

-- both faults are listed too, up to a cost of two
abbrev up_to_two : System
up_to_two = with_extras (record { levels = Some 2; least = true }) either

abbrev after_both : Table
after_both = at_point (Some (false ∷ false ∷ []))

three_levels : line_moves up_to_two 16 (at_point None) (codes "levels S 9")
    ≡ says after_b (codes "S level 1 b") ∷ says after_c (codes "S level 1 c") ∷ says after_both (codes "S level 2 b c") ∷ says after_both (codes "S end") ∷ []
unfolding digits
three_levels = refl

-- a listing goes on from the point
after_a_point : line_moves up_to_two 16 after_c (codes "level S") ≡ says after_both (codes "S level 2 b c") ∷ []
unfolding digits
after_a_point = refl

-- without extras, first the session and then the option is missed
no_levels : line_moves either 16 after_b (codes "levels S 9") ≡ says after_b (codes "S error 11 no levels") ∷ []
unfolding digits
no_levels = refl

no_levels_of_no_session : line_moves either 16 after_b (codes "level T") ≡ says after_b (codes "T error 6 no session") ∷ []
unfolding digits
no_levels_of_no_session = refl

no_least : line_moves either 16 after_b (codes "leastnnf S") ≡ says after_b (codes "S error 12 no least") ∷ []
unfolding digits
no_least = refl

the_least : line_moves up_to_two 16 after_b (codes "leastnnf S")
    ≡ record { table = after_b; items = line (codes "S leastnnf" ∷ []) ∷ LeastText 2 ((false ∷ true ∷ []) ∷ (true ∷ false ∷ []) ∷ []) ∷ [] } ∷ []
the_least = refl

-- ---- lines of one move

-- a refusal is one move, and so is an answer of several lines; a blank line is none
no_session : line_moves either 16 after_b (codes "list T 3") ≡ says after_b (codes "T error 6 no session") ∷ []
unfolding digits
no_session = refl

no_reply : line_moves either 16 after_b [] ≡ []
no_reply = refl

all_of_blame : line_moves either 16 after_b (codes "blame S")
    ≡ record { table = after_b; items = map (λ (words : List ℕ). line (words ∷ [])) (map codes ("S blame b sometimes" ∷ "S blame c sometimes" ∷ "S end" ∷ [])) } ∷ []
all_of_blame = refl

-- each line goes on where the one before it stopped
a_script : script_moves (line_moves either 16) [] (map codes ("open S" ∷ "list S 2" ∷ "next S" ∷ "close S" ∷ []))
    ≡ says (at_point None) (codes "S open") ∷ says after_b (codes "S diag b") ∷ says after_c (codes "S diag c") ∷ says after_c (codes "S end") ∷ says [] (codes "S closed") ∷ []
a_script = refl

its_table : left_by [] (script_moves (line_moves either 16) [] (map codes ("open S" ∷ "list S 2" ∷ []))) ≡ after_c
its_table = refl
