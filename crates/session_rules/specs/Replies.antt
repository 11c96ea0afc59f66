-- The lines of replies, each as its words.
use Rattle.std.specs.Prelude.{ℕ, zero, suc, ◌+◌, Bool, true, false, not, List, [], ◌∷◌, ◌++◌, map, length, Option, Some, None, set, slice_index_or, codes, is_some, if◌then◌else◌}
use Rattle.std.specs.Fmt.{decimal}
use Rattle.std.specs.List.{list_any, list_all}
use Rattle.std.specs.Option.{option_map_or}
use Rattle.text_rules.specs.Names.{Name}
use Rattle.state_rules.specs.Bits.{bit_in, same_bit}
use Rattle.state_rules.specs.Cases.{Case}
use Rattle.state_rules.specs.Ranking.{cost, rest}
use Rattle.state_rules.specs.Levels.{levels, levels_rest}
use Rattle.state_rules.specs.Systems.{System, least_cost, all_diagnoses}
use Rattle.device_model.specs.Devices.{place_of}
use Rattle.script_lang.specs.Script.{Question, Min, Probe, Probes, Blame}
use Rattle.session_rules.specs.declared.refusal.Refusal.TheVariants.{NoWire}
use Rattle.session_rules.specs.Refusals.{refusal_row, error_words}
use Rattle.session_rules.specs.Items.{Item, Plain, Projected, LeastText, line}

-- the names of the faulty parts
abbrev pub faulty_names : List Name → List Bool → List Name
faulty_names (name ∷ names) (true ∷ state) = faulty_names names state
faulty_names (name ∷ names) (false ∷ state) = name ∷ faulty_names names state
faulty_names names state = []

abbrev pub inconsistent : Name → List (List ℕ)
inconsistent session = session ∷ codes "inconsistent" ∷ []

abbrev pub end_line : Name → List (List ℕ)
end_line session = session ∷ codes "end" ∷ []

abbrev pub count_text : Option ℕ → List ℕ
count_text count = option_map_or decimal count (codes "-")

-- what is written next, the point after it, and whether it is a state
pub record Found : Type 0 where
  pub item : Item
  pub point : Option (List Bool)
  pub more : Bool

-- the first later state; `end` if no state is later; `inconsistent` if there is no state
abbrev pub found : Name → (List Bool → Item) → Option (List Bool) → List (List Bool) → List (List Bool) → Found
found session shown point [] later = record { item = line (inconsistent session); point = point; more = false }
found session shown point (d ∷ ds) [] = record { item = line (end_line session); point = point; more = false }
found session shown point (d ∷ ds) (state ∷ later) = record { item = shown state; point = Some state; more = true }

-- the next diagnosis
abbrev pub next_of : System → Name → Case → Option (List Bool) → Found
next_of system session known point =
    let ds = all_diagnoses system known in
    found session (λ state. line (session ∷ codes "diag" ∷ faulty_names system.parts state)) point ds (rest ds point)

-- the next state by rising cost, up to cost `top`
abbrev pub level_of : System → Name → ℕ → Case → Option (List Bool) → Found
level_of system session top known point =
    let states = system.consistent known in
    found session (λ state. line (session ∷ codes "level" ∷ decimal (cost system.costs state) ∷ faulty_names system.parts state))
    point states (levels_rest system.costs (levels system.costs top states) point)

-- what at most `count` steps find; a step that finds no state is the last, and counts
abbrev pub listing : (Option (List Bool) → Found) → ℕ → Option (List Bool) → List Found
listing next zero point = []
listing next (suc n) point = let f = next point in f ∷ (if f.more then listing next n f.point else [])

-- the least cost, and the faulty parts of the first diagnosis
abbrev pub min_line : System → Name → Option ℕ → List (List Bool) → List (List ℕ)
min_line system session fewest [] = inconsistent session
min_line system session fewest (state ∷ states) = session ∷ codes "min" ∷ count_text fewest ∷ faulty_names system.parts state

-- the least cost if the wire is seen with this bit too; none if it is seen with the other
abbrev pub least_at : System → Case → ℕ → Bool → Option Bool → Option ℕ
least_at system known wire bit None = least_cost system (record known { seen = set known.seen wire (Some bit) })
least_at system known wire bit (Some seen) = if same_bit bit seen then least_cost system known else None

abbrev pub seen_at : Case → ℕ → Option Bool
seen_at known wire = slice_index_or known.seen wire None

abbrev pub probe_line : System → Name → Case → Name → ℕ → List (List ℕ)
probe_line system session known name wire =
    session ∷ codes "probe" ∷ name ∷ count_text (least_at system known wire false (seen_at known wire))
    ∷ count_text (least_at system known wire true (seen_at known wire)) ∷ []

-- a line for each wire from this place on that is not seen
abbrev pub probe_lines : System → Name → Case → ℕ → List Name → List (List (List ℕ))
probe_lines system session known wire [] = []
probe_lines system session known wire (name ∷ names) =
    let later = probe_lines system session known (wire + 1) names in
    if is_some (seen_at known wire) then later else probe_line system session known name wire ∷ later

-- the word for all diagnoses, some but not all, or none
abbrev pub blame_word : List Bool → List ℕ
blame_word faulty =
    if list_all (λ b. b) faulty then codes "always" else if list_any (λ b. b) faulty then codes "sometimes" else codes "never"

-- a line for each part from this place on
abbrev pub blame_lines : Name → List (List Bool) → ℕ → List Name → List (List (List ℕ))
blame_lines session ds part [] = []
blame_lines session ds part (name ∷ names) =
    (session ∷ codes "blame" ∷ name ∷ blame_word (map (λ state. not (bit_in state part)) ds) ∷ [])
    ∷ blame_lines session ds (part + 1) names

-- these lines, or the one line for no state
abbrev pub if_any : Name → List (List Bool) → List (List (List ℕ)) → List (List (List ℕ))
if_any session [] lines = inconsistent session ∷ []
if_any session (state ∷ states) lines = lines

-- the lines that answer a question
abbrev pub told : System → Name → Case → Question → List (List (List ℕ))
told system session known Min = min_line system session (least_cost system known) (all_diagnoses system known) ∷ []
told system session known (Probe name) =
    option_map_or (λ wire. if_any session (system.consistent known) (probe_line system session known name wire ∷ []))
    (place_of name system.wires) ((session ∷ error_words (refusal_row NoWire)) ∷ [])
told system session known Probes =
    if_any session (system.consistent known) (probe_lines system session known 0 system.wires ++ end_line session ∷ [])
told system session known Blame =
    let ds = all_diagnoses system known in if_any session ds (blame_lines session ds 0 system.parts ++ end_line session ∷ [])

-- the graph of the states that agree with a case, and that of its diagnoses: a text for the case, or left open
abbrev pub dnnf_item : System → Case → Item
dnnf_item system known =
    option_map_or (λ text. Plain (text known)) system.texts.dnnf (Projected (length system.parts) (system.consistent known))

abbrev pub least_item : System → Case → Item
least_item system known =
    option_map_or (λ text. Plain (text known)) system.texts.least (LeastText (length system.parts) (all_diagnoses system known))
