-- What is on a desk.
use Rattle.std.specs.Prelude.{◌≡◌, ℕ, ◌*◌, ◌<◌, Bool, not, List, map, length, All, Option}
use Rattle.text_rules.specs.Names.{Name, is_among}
use Rattle.state_rules.specs.Cases.{Case}
use Rattle.state_rules.specs.Systems.{System, least_cost, all_diagnoses}
use Rattle.script_lang.specs.declared.line.Noted.{Noted}
use Rattle.script_lang.specs.declared.line.Noted.TheVariants.{Wire, Part}
use Rattle.engines.specs.Answers.{About, blame_of, least_seen as least_of_seen}
use Rattle.state_rules.specs.declared.blame.Blame.{Blame}

-- the system, the case in question, and what was found last: a state, a verdict for each part, and two numbers for each wire
pub record OnDesk : Type 0 where
  pub system : System
  pub known : Case
  pub state : List ℕ
  pub verdicts : List Blame
  pub numbers : List ℕ

-- the same over what an engine shows
pub record DeskOf (E : Type 0) : Type 0 where
  pub engine : E
  pub state : List ℕ
  pub verdicts : List Blame
  pub numbers : List ℕ

abbrev pub on_desk : {E : Type 0} → (E → About) → DeskOf E → OnDesk
on_desk about desk = record {
  system = (about desk.engine).system;
  known = (about desk.engine).known;
  state = desk.state;
  verdicts = desk.verdicts;
  numbers = desk.numbers;
}

-- what was found fits the parts and wires
pub record FitsTogether (desk : OnDesk) : Type 0 where
  pub one_a_part : length desk.state ≡ length desk.system.parts
  pub bits : All (λ s. s < 2) desk.state
  pub verdict_a_part : length desk.verdicts ≡ length desk.system.parts
  pub two_a_wire : length desk.numbers ≡ 2 * length desk.system.wires

-- the names of wires, or of parts
abbrev pub names_of : System → Noted → List Name
names_of system Wire = system.wires
names_of system Part = system.parts

-- what the engine is asked about
abbrev pub about_of : OnDesk → About
about_of desk = record { system = desk.system; known = desk.known }

-- the case in question, the states that agree with it, their least cost, and the states of this cost
abbrev pub asked_case : OnDesk → Case
asked_case desk = desk.known

abbrev pub agreeing : OnDesk → List (List Bool)
agreeing desk = desk.system.consistent desk.known

abbrev pub least_asked : OnDesk → Option ℕ
least_asked desk = least_cost desk.system desk.known

abbrev pub diagnoses_asked : OnDesk → List (List Bool)
diagnoses_asked desk = all_diagnoses desk.system desk.known

-- the state whose faulty parts are the named ones
abbrev pub state_of : List Name → List Name → List Bool
state_of named parts = map (λ part. not (is_among named part)) parts

-- the least cost if a wire is seen with this bit too, unless it is seen with the other
abbrev pub least_seen : OnDesk → ℕ → Bool → Option ℕ
least_seen desk wire bit = least_of_seen (about_of desk) wire bit

-- whether a part is faulty in all diagnoses, in some, or in none
abbrev pub blame_asked : OnDesk → ℕ → Blame
blame_asked desk part = blame_of (about_of desk) part
