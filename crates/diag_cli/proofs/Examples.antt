-- Worked rows: what words ask for, and how a script ends. The check computes both sides. Other rows are tests.
use Rattle.std.proofs.Common.{◌≡◌, ℕ, List, [], ◌∷◌, map, true, false, Some, None, codes, refl}
use Rattle.std.specs.Fmt.{digits}
use Rattle.state_rules.specs.Systems.{no_extras}
use Rattle.session_rules.specs.Items.{Item, Plain}
use Rattle.device_files.specs.declared.status.Status.TheVariants.{Done, ReadFailed, CutShort}
use Rattle.device_files.specs.Output.{too_long_line}
use Rattle.text_rules.specs.declared.text_lines.TheConstants.{TEXT_LIMIT}
use Rattle.diag_cli.specs.declared.serving.TheConstants.{SCRIPT_LIMIT}
use Rattle.diag_cli.specs.declared.words.ServeOptions.{ServeOptions}
use Rattle.diag_cli.specs.declared.words.Command.TheVariants.{Serve, ServeFrames, Ask, Compile}
use Rattle.diag_cli.specs.Words.{Load, Over, form_of}
use Rattle.diag_cli.specs.inner.Bits.{levels_bits, least_bits, bits_line}
use Rattle.diag_cli.specs.Behaviours.{Ended, Failed, Cut, read_error, served}

-- ---- words with a form

-- how `serve` answers without options
abbrev usual : ServeOptions
usual = record { budget = 2097152; sessions = 16; narrow = false; search = false; extras = no_extras }

serve_a_netlist : form_of (codes "serve" ∷ codes "c17.bench" ∷ []) ≡ Some (Over (codes "c17.bench") (Serve usual))
serve_a_netlist = refl

serve_within_a_budget : form_of (codes "serve" ∷ codes "d/adder.dev" ∷ codes "--budget" ∷ codes "8388608" ∷ []) ≡ Some (Over (codes "d/adder.dev") (Serve (record usual { budget = 8388608 })))
serve_within_a_budget = refl

another_order_before_others : form_of (codes "compile" ∷ codes "c.bench" ∷ codes "--narrow" ∷ codes "--budget" ∷ codes "7" ∷ []) ≡ Some (Over (codes "c.bench") (Compile 7 true))
another_order_before_others = refl

ask_without_parts : form_of (codes "ask" ∷ codes "g.nnf" ∷ codes "0" ∷ codes "--sessions" ∷ codes "3" ∷ []) ≡ Some (Over (codes "g.nnf") (Ask 0 3))
ask_without_parts = refl

ask_the_most_parts : form_of (codes "ask" ∷ codes "g.nnf" ∷ codes "4096" ∷ []) ≡ Some (Over (codes "g.nnf") (Ask 4096 16))
ask_the_most_parts = refl

load_the_largest : form_of (codes "load" ∷ codes "800" ∷ []) ≡ Some (Load 800)
load_the_largest = refl

all_states_and_the_graph : form_of (codes "serve" ∷ codes "c.dev" ∷ codes "--least" ∷ codes "--levels" ∷ codes "4096000" ∷ [])
    ≡ Some (Over (codes "c.dev") (Serve (record usual { extras = record { levels = Some 4096000; least = true } })))
all_states_and_the_graph = refl

all_options : form_of (codes "serve" ∷ codes "c.bench" ∷ codes "--least" ∷ codes "--frames" ∷ codes "3" ∷ codes "--narrow" ∷ codes "--levels" ∷ codes "2" ∷ codes "--sessions" ∷ codes "1" ∷ codes "--budget" ∷ codes "7" ∷ [])
    ≡ Some (Over (codes "c.bench") (ServeFrames 3 (record { budget = 7; sessions = 1; narrow = true; search = false; extras = record { levels = Some 2; least = true } })))
all_options = refl

by_a_search : form_of (codes "serve" ∷ codes "c.dev" ∷ codes "--levels" ∷ codes "2" ∷ codes "--search" ∷ [])
    ≡ Some (Over (codes "c.dev") (Serve (record usual { search = true; extras = record { levels = Some 2; least = false } })))
by_a_search = refl

by_a_search_over_times : form_of (codes "serve" ∷ codes "c.bench" ∷ codes "--search" ∷ codes "--frames" ∷ codes "64" ∷ [])
    ≡ Some (Over (codes "c.bench") (ServeFrames 64 (record usual { search = true })))
by_a_search_over_times = refl

-- ---- words without one

a_search_within_a_budget : form_of (codes "serve" ∷ codes "c.bench" ∷ codes "--search" ∷ codes "--budget" ∷ codes "5" ∷ []) ≡ None
a_search_within_a_budget = refl

a_search_with_a_graph : form_of (codes "serve" ∷ codes "c.bench" ∷ codes "--search" ∷ codes "--least" ∷ []) ≡ None
a_search_with_a_graph = refl

options_are_no_command : form_of (codes "serve --search" ∷ codes "c.bench" ∷ codes "--search" ∷ []) ≡ None
options_are_no_command = refl

compile_by_a_search : form_of (codes "compile" ∷ codes "c.bench" ∷ codes "--search" ∷ []) ≡ None
compile_by_a_search = refl

least_as_a_value : form_of (codes "serve" ∷ codes "c.bench" ∷ codes "--budget" ∷ codes "--least" ∷ codes "5" ∷ []) ≡ None
least_as_a_value = refl

check_by_cost : form_of (codes "check" ∷ codes "g.nnf" ∷ codes "--levels" ∷ codes "2" ∷ []) ≡ None
check_by_cost = refl

load_the_least : form_of (codes "load" ∷ codes "1" ∷ codes "--least" ∷ []) ≡ None
load_the_least = refl

another_order_as_a_value : form_of (codes "serve" ∷ codes "c.bench" ∷ codes "--budget" ∷ codes "--narrow" ∷ []) ≡ None
another_order_as_a_value = refl

another_option : form_of (codes "serve" ∷ codes "c.bench" ∷ codes "--help" ∷ codes "1" ∷ []) ≡ None
another_option = refl

an_option_before_the_file : form_of (codes "serve" ∷ codes "--budget" ∷ codes "5" ∷ codes "c.bench" ∷ []) ≡ None
an_option_before_the_file = refl

-- ---- scripts

-- a script of one and a half lines, each answered by itself
abbrev half : List ℕ
half = codes "open S\nmin"

abbrev itself : List (List ℕ) → List Item
itself lines = map Plain lines

-- at the end of the input the last line is answered too
ended : served itself half Ended ≡ record { items = Plain (codes "open S") ∷ Plain (codes "min") ∷ []; status = Done }
ended = refl

-- if a read fails, or at the limit, only lines with a line feed are
failed : served itself half Failed ≡ record { items = Plain (codes "open S") ∷ Plain read_error ∷ []; status = ReadFailed }
failed = refl

cut : served itself half Cut ≡ record { items = Plain (codes "open S") ∷ Plain (too_long_line (codes "script") SCRIPT_LIMIT) ∷ []; status = CutShort }
cut = refl

-- ---- lines that print a limit

a_long_script : too_long_line (codes "script") SCRIPT_LIMIT ≡ codes "error: script above 1099511627776 bytes\n"
unfolding digits
a_long_script = refl

a_long_file : too_long_line (codes "file") TEXT_LIMIT ≡ codes "error: file above 16777216 bytes\n"
unfolding digits
a_long_file = refl

-- ---- extras

-- for a field of 4095 gates, and for a chain of 1000 buffers
bits_of_levels : levels_bits 159704 20476 4095 (Some 32) ≡ 2162954494
bits_of_levels = refl

bits_of_a_drawing : least_bits 159704 20476 4095 true ≡ 2163474560
bits_of_a_drawing = refl

bits_of_a_small_drawing : least_bits 5002 2001 1000 true ≡ 20682880
bits_of_a_small_drawing = refl

too_many_bits : bits_line 2162954494 ≡ codes "error: bits 2162954494 above 2147483648\n"
unfolding digits
too_many_bits = refl
