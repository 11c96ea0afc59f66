-- What the words of the command line ask for.
use Rattle.std.specs.Prelude.{ℕ, Bool, true, false, not, ◌&&◌, is_some, List, [], ◌∷◌, Option, Some, None, find, unwrap_or, option_and_then, if◌then◌else◌, codes}
use Rattle.std.specs.Bool.{then_some}
use Rattle.std.specs.Option.{option_map, option_map_or}
use Rattle.text_rules.specs.Names.{same_name, is_among}
use Rattle.text_rules.specs.Numbers.{plain_number_in}
use Rattle.adder_load.specs.declared.adders.TheConstants.{PLACE_LIMIT}
use Rattle.device_model.specs.declared.limits.TheConstants.{PART_LIMIT}
use Rattle.branch_states.specs.declared.measuring.TheConstants.{BUDGET_LIMIT}
use Rattle.frame_unroller.specs.declared.unrolling.TheConstants.{FRAME_LIMIT}
use Rattle.diag_edge.specs.Edge.{Holding, known_bytes}
use Rattle.device_files.specs.Paths.{ends_in, is_device_path}
use Rattle.device_files.specs.Inspecting.{inspection_named}
use Rattle.diag_cli.specs.declared.words.Command.{Command}
use Rattle.diag_cli.specs.declared.words.Command.TheVariants.{Serve, ServeFrames, Ask, Inspect, Compile}
use Rattle.diag_cli.specs.declared.words.Takes.{Takes}
use Rattle.diag_cli.specs.declared.words.Takes.TheVariants.{Nothing, Number}
use Rattle.diag_cli.specs.declared.words.ServeOptions.{ServeOptions}
use Rattle.level_lister.specs.declared.levels.TheConstants.{TOP_LIMIT}
use Rattle.session_core.specs.declared.limits.TheConstants.{SESSION_LIMIT}
use Rattle.diag_cli.specs.declared.words.TheConstants.{DEFAULT_BUDGET, DEFAULT_SESSIONS}

-- ---- forms

-- the forms of the command line: `load` makes an adder, and each other command works over a file
pub data Form : Type 0 where
  Load : (places : ℕ) → Form
  Over : (path : List ℕ) (command : Command) → Form

-- the file that the words name, if their form names one
abbrev pub named_file : Option Form → Option (List ℕ)
named_file (Some (Over path command)) = Some path
named_file form = None

-- what the shelf shows of a file by its name, or no bytes if none is named
abbrev pub known_file : (List ℕ → Holding) → Option (List ℕ) → Option (List ℕ)
known_file held name = option_map_or (λ path. known_bytes (held path)) name (Some [])

-- ---- options

-- an option: its word, what it takes, and the commands that take it
pub record Row : Type 0 where
  pub word : List ℕ
  pub takes : Takes
  pub commands : List (List ℕ)

-- the table of the options
abbrev pub rows : List Row
rows =
    record { word = codes "--budget"; takes = Number 7 1 BUDGET_LIMIT; commands = codes "serve" ∷ codes "compile" ∷ [] }
    ∷ record { word = codes "--sessions"; takes = Number 4 1 SESSION_LIMIT; commands = codes "serve" ∷ codes "serve --search" ∷ codes "ask" ∷ [] }
    ∷ record { word = codes "--frames"; takes = Number 2 1 FRAME_LIMIT; commands = codes "serve" ∷ codes "serve --search" ∷ [] }
    ∷ record { word = codes "--levels"; takes = Number 7 0 TOP_LIMIT; commands = codes "serve" ∷ codes "serve --search" ∷ [] }
    ∷ record { word = codes "--narrow"; takes = Nothing; commands = codes "serve" ∷ codes "compile" ∷ codes "plan" ∷ [] }
    ∷ record { word = codes "--least"; takes = Nothing; commands = codes "serve" ∷ [] }
    ∷ record { word = codes "--search"; takes = Nothing; commands = codes "serve --search" ∷ [] } ∷ []

-- what an option of a command takes
abbrev pub option_of : (command word : List ℕ) → Option Takes
option_of command word = option_and_then (λ row. then_some (is_among row.commands command) row.takes) (find (λ row. same_name word row.word) rows)

-- the words after an option, if it is given
abbrev pub words_after : List ℕ → List (List ℕ) → Option (List (List ℕ))
words_after option [] = None
words_after option (word ∷ words) = if same_name word option then Some words else words_after option words

abbrev pub is_given : List ℕ → List (List ℕ) → Bool
is_given option words = is_some (words_after option words)

-- the name of the options that are allowed: those of the command, or the few that go with a search
abbrev pub option_set : List ℕ → List (List ℕ) → List ℕ
option_set command words = if same_name command (codes "serve") && is_given (codes "--search") words then codes "serve --search" else command

-- Whether words are options of a command: each is one, its number follows if it takes one, and none is given twice. If an option waits for
-- its number, the first word must spell it.
abbrev pub are_options : List ℕ → Takes → List (List ℕ) → Bool
are_options command Nothing [] = true
are_options command (Number digits least most) [] = false
are_options command Nothing (word ∷ words) = option_map_or (λ takes. not (is_given word words) && are_options command takes words) (option_of command word) false
are_options command (Number digits least most) (word ∷ words) = is_some (plain_number_in digits least most word) && are_options command Nothing words

-- the number that the first word spells for an option that takes one
abbrev pub first_number : Takes → List (List ℕ) → Option ℕ
first_number (Number digits least most) (word ∷ words) = plain_number_in digits least most word
first_number takes words = None

-- the number given for an option of a command
abbrev pub number_given : (command option : List ℕ) → List (List ℕ) → Option ℕ
number_given command option words = option_and_then (λ takes. option_and_then (first_number takes) (words_after option words)) (option_of command option)

-- ---- words

-- how `serve` answers a script, by its options
abbrev pub serve_options : List (List ℕ) → ServeOptions
serve_options words = record {
  budget = unwrap_or (number_given (codes "serve") (codes "--budget") words) DEFAULT_BUDGET;
  sessions = unwrap_or (number_given (codes "serve") (codes "--sessions") words) DEFAULT_SESSIONS;
  narrow = is_given (codes "--narrow") words;
  search = is_given (codes "--search") words;
  extras = record { levels = number_given (codes "serve") (codes "--levels") words; least = is_given (codes "--least") words };
}

-- the form of `serve`, over a netlist if there are frames
abbrev pub form_serve : List ℕ → ServeOptions → Option ℕ → Option Form
form_serve path options None = then_some (is_device_path path) (Over path (Serve options))
form_serve path options (Some frames) = then_some (ends_in (codes ".bench") path) (Over path (ServeFrames frames options))

-- the form of a command over a file, with options
abbrev pub form_by : (command path : List ℕ) → List (List ℕ) → Option Form
form_by command path words =
    if same_name command (codes "serve") then form_serve path (serve_options words) (number_given (codes "serve") (codes "--frames") words)
    else if same_name command (codes "compile")
    then then_some (is_device_path path) (Over path (Compile (unwrap_or (number_given (codes "compile") (codes "--budget") words) DEFAULT_BUDGET) (is_given (codes "--narrow") words)))
    else option_map (λ inspection. Over path (Inspect inspection)) (inspection_named command path (is_given (codes "--narrow") words))

-- the form of `ask` over a graph, with the number of parts and options
abbrev pub form_ask : List ℕ → List (List ℕ) → Option Form
form_ask path [] = None
form_ask path (health ∷ words) = option_and_then (λ parts. then_some (are_options (codes "ask") Nothing words && ends_in (codes ".nnf") path)
    (Over path (Ask parts (unwrap_or (number_given (codes "ask") (codes "--sessions") words) DEFAULT_SESSIONS)))) (plain_number_in 4 0 PART_LIMIT health)

-- the form of `load`, with no further word
abbrev pub form_load : List ℕ → List (List ℕ) → Option Form
form_load places [] = option_map Load (plain_number_in 3 1 PLACE_LIMIT places)
form_load places (word ∷ words) = None

-- the form by the words: a number after `load`; a file, a number and options after `ask`; else a file and options
abbrev pub form_by_words : List ℕ → List ℕ → List (List ℕ) → Option Form
form_by_words command next words =
    if same_name command (codes "load") then form_load next words
    else if same_name command (codes "ask") then form_ask next words
    else if are_options (option_set command words) Nothing words then form_by command next words else None

-- the form of the words, if they have one
abbrev pub form_of : List (List ℕ) → Option Form
form_of (command ∷ next ∷ words) = form_by_words command next words
form_of words = None
