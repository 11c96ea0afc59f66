-- A way down a forest, as the bits of the active clauses show it. Only private contracts cite it.
use Rattle.std.specs.Prelude.{ℕ, ◌+◌, ◌-◌, ◌*◌, ◌==◌, Bool, true, false, not, ◌&&◌, ◌||◌, List, [], ◌∷◌, ◌++◌, map, length, nat_lt, slice_set, slice_index_or, drop, option_map, is_some, Option, Some, None, option_to_list, if◌then◌else◌}
use Rattle.std.specs.List.{filter, flat_map, list_any, list_all, position_or_len, prefix_len, take_while, range_with_len}
use Rattle.indexmap.specs.IndexSet.{insert_key}
use Rattle.state_rules.specs.Bits.{bit_in, row_number}
use Rattle.clause_encoder.specs.Clauses.{Clause, var_of}
use Rattle.elimination_forests.specs.Branches.{has_true, different}
use Rattle.forest_states.specs.declared.places.Fork.{Fork}
use Rattle.forest_states.specs.declared.places.Spot.{Spot}
use Rattle.forest_states.specs.declared.places.Leads.{Leads}
use Rattle.elimination_forests.specs.declared.steps.Step.{Step}
use Rattle.elimination_forests.specs.declared.steps.Weight.{Weight}
use Rattle.elimination_forests.specs.declared.forks.Forks.{Forks}
use Rattle.elimination_forests.specs.Forests.{weigh}
use Rattle.forest_states.specs.inner.TransitionTables.{true_at, plain, in_both}
use Rattle.forest_states.specs.declared.transition_tables.ClauseTransition.{ClauseTransition}
use Rattle.forest_states.specs.inner.BitLists.{is_same, first_bit, other_bits}

-- ---- one state: a bit for each active clause, in their order

abbrev pub with_bit : Bool → Option (List Bool) → Option (List Bool)
with_bit b None = None
with_bit b (Some bits) = Some (b ∷ bits)

-- the bits with that of a clause before them, unless it ends; none if it ends and is left
abbrev pub ended : Bool → Bool → Option (List Bool) → Option (List Bool)
ended true true rest = None
ended true false rest = rest
ended false b rest = with_bit b rest

-- the successor of a state by a bit, or none if it is dead
abbrev pub successor : Bool → List ClauseTransition → List Bool → Option (List Bool)
successor bit [] state = Some []
successor bit (e ∷ table) state =
    ended e.ends ((e.fresh || first_bit state) && not (true_at e bit)) (successor bit table (if e.fresh then state else other_bits state))

-- the flagged bits
abbrev pub picked : List Bool → List Bool → List Bool
picked [] state = []
picked (f ∷ flags) state = if f then first_bit state ∷ picked flags (other_bits state) else picked flags (other_bits state)

-- what is left of the kept clauses, or none if a clause that ends is left
abbrev pub left_by : List Bool → List Bool → List Bool → Option (List Bool)
left_by kept ends left = if row_number (in_both left ends) == 0 then Some (picked kept left) else None

-- ---- the states of a place

-- states, with one more if it is new
abbrev pub joined : List (List Bool) → Option (List Bool) → List (List Bool)
joined states None = states
joined states (Some s) = insert_key is_same states s

-- the place of a state among states, if there is a state
abbrev pub lead : List (List Bool) → Option (List Bool) → Option ℕ
lead states None = None
lead states (Some s) = Some (position_or_len (is_same s) states)

-- the states after either bit
abbrev pub decided_states : List ClauseTransition → List (List Bool) → List (List Bool)
decided_states table states = different (flat_map (λ s. option_to_list (successor false table s) ++ option_to_list (successor true table s)) states)

abbrev pub decided_forks : List ClauseTransition → List (List Bool) → List Fork
decided_forks table states =
    map (λ s. record {
      zero = lead (decided_states table states) (successor false table s);
      one = lead (decided_states table states) (successor true table s);
    }) states

-- the parts of states
abbrev pub parts_by : (List Bool → List Bool) → List (List Bool) → List (List Bool)
parts_by part states = different (map part states)

-- the place of each state's part among the parts
abbrev pub column_by : (List Bool → List Bool) → List (List Bool) → List ℕ
column_by part states = map (λ s. position_or_len (is_same (part s)) (parts_by part states)) states

-- by the flagged bits
abbrev pub part_states : List Bool → List (List Bool) → List (List Bool)
part_states flags states = parts_by (picked flags) states

abbrev pub column : List Bool → List (List Bool) → List ℕ
column flags states = column_by (picked flags) states

-- whether a state leads on
abbrev pub any_leads : List Fork → Bool
any_leads leads = list_any (λ f. is_some f.zero || is_some f.one) leads

-- ---- where states lead in each of the trees below

-- a row of columns
abbrev pub row_at : List (List ℕ) → ℕ → List ℕ
row_at columns n = map (λ c. slice_index_or c n n) columns

-- without columns, the base is the place of the only tree on it
abbrev pub row_of : Option (List (List ℕ)) → ℕ → List ℕ
row_of None n = n ∷ []
row_of (Some columns) n = row_at columns n

abbrev pub ways_found : (ℕ → List ℕ) → List (Option ℕ) → List (Option (List ℕ))
ways_found row leads = map (option_map row) leads

abbrev pub forks_found : ℕ → (ℕ → List ℕ) → List Fork → Forks
forks_found trees row leads =
    record {
      zero = record { trees = trees; ways = ways_found row (map (λ f. f.zero) leads) };
      one = record { trees = trees; ways = ways_found row (map (λ f. f.one) leads) };
    }

abbrev pub row_in : Leads → ℕ → List ℕ
row_in l = row_of (option_map (λ cs. map (λ v. v.items) cs.items) l.columns)

abbrev pub forks_of : Leads → Forks
forks_of l = forks_found l.trees (row_in l) l.leads.items

-- ---- variables below

-- how many of `trees` trees have begun at a step, if `left` are left, inside trees and beside them
abbrev pub begun_at : ℕ → ℕ → ℕ → ℕ
begun_at trees begun left = if left + begun == trees then begun + 1 else begun

-- `numbers`, with the number of its tree at each variable of the trees that begin with these steps
abbrev pub numbered : ℕ → ℕ → ℕ → List Step → List ℕ → List ℕ
numbered trees begun left [] numbers = numbers
numbered trees begun left (s ∷ steps) numbers =
    if left == 0 then numbers else numbered trees (begun_at trees begun left) (left - 1 + s.trees) steps (slice_set numbers s.var (begun_at trees begun left - 1))

-- One tree alone needs no numbers.
abbrev pub numbers_at : ℕ → List Step → List ℕ → List ℕ
numbers_at trees steps numbers = if trees == 1 then numbers else numbered trees 0 trees steps numbers

-- ---- marked variables

abbrev pub clause_at : List Clause → ℕ → Clause
clause_at clauses n = slice_index_or clauses n []

-- whether a clause has the variable
abbrev pub has_var : ℕ → Clause → Bool
has_var v clause = list_any (λ l. v == var_of l) clause

abbrev pub meets_marked : List Bool → Clause → Bool
meets_marked marks clause = list_any (λ l. bit_in marks (var_of l)) clause

-- whether all variables of a clause except `v` are marked
abbrev pub within_marked : ℕ → List Bool → Clause → Bool
within_marked v marks clause = list_all (λ l. (v == var_of l) || bit_in marks (var_of l)) clause

-- whether a variable is not marked, and is in the tree
abbrev pub is_in_tree : List Bool → List ℕ → ℕ → ℕ → Bool
is_in_tree marks numbers tree v = not (bit_in marks v) && (slice_index_or numbers v 0 == tree)

-- whether an active clause goes to this tree of `trees`
abbrev pub goes_to : List Clause → ℕ → List Bool → List ℕ → ℕ → ℕ → Bool
goes_to clauses trees marks numbers tree n = (trees == 1) || list_any (λ l. is_in_tree marks numbers tree (var_of l)) (clause_at clauses n)

-- what a bit of a variable does to a clause
abbrev pub transition_of : List Bool → ℕ → Clause → ClauseTransition
transition_of seen v clause =
    record {
      fresh = not (meets_marked seen clause);
      true_at_0 = has_true v false clause;
      true_at_1 = has_true v true clause;
      ends = within_marked v seen clause;
    }

abbrev pub transition_at : List Clause → List Bool → ℕ → ℕ → ClauseTransition
transition_at clauses seen v n = transition_of seen v (clause_at clauses n)

-- a clause by its number, and what a bit does to it
pub record Met : Type 0 where
  pub number : ℕ
  pub transition : ClauseTransition

abbrev pub as_before : ℕ → Met
as_before n = record { number = n; transition = plain }

-- the active clauses after that of a transition; it is not among them if none of its variables was assigned
abbrev pub after : ClauseTransition → List ℕ → List ℕ
after e active = if e.fresh then active else drop 1 active

-- the clauses with the variable and the active ones, by rising numbers; those without it stay as they are
abbrev pub met : (ℕ → ClauseTransition) → List ℕ → List ℕ → List Met
met transition [] active = map as_before active
met transition (n ∷ numbers) active =
    map as_before (take_while (λ o. nat_lt o n) active)
    ++ ((record { number = n; transition = transition n }) ∷ met transition numbers (after (transition n) (drop (prefix_len (λ o. nat_lt o n) active) active)))

abbrev pub transitions_of : List Met → List ClauseTransition
transitions_of ms = map (λ m. m.transition) ms

-- the numbers of the clauses that do not end
abbrev pub kept_of : List Met → List ℕ
kept_of ms = map (λ m. m.number) (filter (λ m. not m.transition.ends) ms)

-- ---- a place: its active clauses, and its states

pub record Stand : Type 0 where
  pub active : List ℕ
  pub states : List (List Bool)

abbrev pub stand_of : Spot → Stand
stand_of spot = record { active = spot.active.items; states = spot.states.lists }

-- what a bit of a variable does to the active clauses of a place and to those that begin with it, and the transition table
abbrev pub met_at : List Clause → List (List ℕ) → List Bool → ℕ → List ℕ → List Met
met_at clauses of seen v active = met (transition_at clauses seen v) (slice_index_or of v []) active

abbrev pub table_at : List Clause → List (List ℕ) → List Bool → ℕ → List ℕ → List ClauseTransition
table_at clauses of seen v active = transitions_of (met_at clauses of seen v active)

-- the base after a bit at a place, and the places of the trees below
abbrev pub stand_decided : List Clause → List (List ℕ) → List Bool → ℕ → Stand → Stand
stand_decided clauses of seen v s =
    record {
      active = kept_of (met_at clauses of seen v s.active);
      states = decided_states (table_at clauses of seen v s.active) s.states;
    }

abbrev pub stand_part : List Clause → ℕ → List Bool → List ℕ → ℕ → Stand → Stand
stand_part clauses trees seen numbers tree s =
    record {
      active = filter (goes_to clauses trees seen numbers tree) s.active;
      states = part_states (map (goes_to clauses trees seen numbers tree) s.active) s.states;
    }

abbrev pub column_at : List Clause → ℕ → List Bool → List ℕ → ℕ → Stand → List ℕ
column_at clauses trees seen numbers tree s = column (map (goes_to clauses trees seen numbers tree) s.active) s.states

abbrev pub stands_below : List Clause → List (List ℕ) → List Bool → List ℕ → Step → List Step → Stand → List Stand
stands_below clauses of seen numbers step rest s =
    map (λ j. stand_part clauses step.trees (slice_set seen step.var true) (numbers_at step.trees rest numbers) j (stand_decided clauses of seen step.var s)) (range_with_len 0 step.trees)

abbrev pub columns_below : List Clause → List (List ℕ) → List Bool → List ℕ → Step → List Step → Stand → List (List ℕ)
columns_below clauses of seen numbers step rest s =
    map (λ j. column_at clauses step.trees (slice_set seen step.var true) (numbers_at step.trees rest numbers) j (stand_decided clauses of seen step.var s)) (range_with_len 0 step.trees)

abbrev pub forks_below : List Clause → List (List ℕ) → List Bool → List ℕ → Step → List Step → Stand → Forks
forks_below clauses of seen numbers step rest s =
    forks_found step.trees (row_at (columns_below clauses of seen numbers step rest s)) (decided_forks (table_at clauses of seen step.var s.active) s.states)

abbrev pub step_at : List Step → ℕ → Step
step_at steps i = slice_index_or steps i (record { var = 0; trees = 0 })

-- the place of a tree on the root
abbrev pub first_stand : Stand
first_stand = record { active = []; states = [] ∷ [] }

-- the pending places, or one on the root if there is none
abbrev pub or_first : List Stand → List Stand
or_first [] = first_stand ∷ []
or_first (s ∷ stands) = s ∷ stands

abbrev pub weight_of : Weight → Stand → ℕ
weight_of weight s = length s.states * weigh weight (length s.active)
