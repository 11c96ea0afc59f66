-- Worked rows: what the definitions give for lines that a reader can judge beforehand. The check computes both sides.
use Rattle.std.proofs.Common.{◌≡◌, ◌+◌, ℕ, true, false, List, [], ◌∷◌, ◌++◌, length, codes, replicate, refl, arith, Some, None}
use Rattle.script_lang.proofs.LineLemmas.{line_of-too_long}
use Rattle.script_lang.specs.Script.{Blank, Refused, Ask, Start, Stop, Note, Tell, Next, Several, After, Min, Probe, Probes, Blame, Dnnf, Level, Levels, LeastNnf, line_of}
use Rattle.script_lang.specs.Refusals.{refusal_row}
use Rattle.script_lang.specs.declared.line.Noted.TheVariants.{Wire, Part}
use Rattle.script_lang.specs.declared.limits.TheConstants.{LINE_LIMIT}
use Rattle.script_lang.specs.declared.refusal.LineRefusal.TheVariants.{UnknownCommand, BadWords, BadName, BadValue, TooLong}

-- ---- each command

open_a_session : line_of (codes "open S") ≡ Ask (codes "S") Start
open_a_session = refl

close_a_session : line_of (codes "close S") ≡ Ask (codes "S") Stop
close_a_session = refl

see_a_one : line_of (codes "see S a=1") ≡ Ask (codes "S") (Note Wire (codes "a") (Some true))
see_a_one = refl

see_a_zero : line_of (codes "see S a=0") ≡ Ask (codes "S") (Note Wire (codes "a") (Some false))
see_a_zero = refl

unsee_a_wire : line_of (codes "unsee S a") ≡ Ask (codes "S") (Note Wire (codes "a") None)
unsee_a_wire = refl

hold_sound : line_of (codes "hold S b=ok") ≡ Ask (codes "S") (Note Part (codes "b") (Some true))
hold_sound = refl

hold_faulty : line_of (codes "hold S b=bad") ≡ Ask (codes "S") (Note Part (codes "b") (Some false))
hold_faulty = refl

unhold_a_part : line_of (codes "unhold S b") ≡ Ask (codes "S") (Note Part (codes "b") None)
unhold_a_part = refl

least_diagnosis : line_of (codes "min T") ≡ Ask (codes "T") (Tell Min)
least_diagnosis = refl

next_diagnosis : line_of (codes "next T") ≡ Ask (codes "T") Next
next_diagnosis = refl

list_a_million : line_of (codes "list S 1000000") ≡ Ask (codes "S") (Several 1000000)
list_a_million = refl

list_one : line_of (codes "list S 1") ≡ Ask (codes "S") (Several 1)
list_one = refl

after_no_part : line_of (codes "after S") ≡ Ask (codes "S") (After [])
after_no_part = refl

after_two_parts : line_of (codes "after S b c") ≡ Ask (codes "S") (After (codes "b" ∷ codes "c" ∷ []))
after_two_parts = refl

probe_a_wire : line_of (codes "probe S a") ≡ Ask (codes "S") (Tell (Probe (codes "a")))
probe_a_wire = refl

probe_all : line_of (codes "probes S") ≡ Ask (codes "S") (Tell Probes)
probe_all = refl

blame_all : line_of (codes "blame S") ≡ Ask (codes "S") (Tell Blame)
blame_all = refl

write_a_formula : line_of (codes "dnnf S") ≡ Ask (codes "S") Dnnf
write_a_formula = refl

next_state : line_of (codes "level S") ≡ Ask (codes "S") Level
next_state = refl

nine_states : line_of (codes "levels S 9") ≡ Ask (codes "S") (Levels 9)
nine_states = refl

write_the_least : line_of (codes "leastnnf S") ≡ Ask (codes "S") LeastNnf
write_the_least = refl

-- a tab separates words, and a carriage return at the end is a blank
blanks_of_each_kind : line_of (codes "open" ++ 9 ∷ codes "S" ++ 13 ∷ []) ≡ Ask (codes "S") Start
blanks_of_each_kind = refl

-- ---- nothing

comment : line_of (codes "# note") ≡ Blank
comment = refl

comment_without_a_blank : line_of (codes "  #open S") ≡ Blank
comment_without_a_blank = refl

no_byte : line_of [] ≡ Blank
no_byte = refl

only_blanks : line_of (32 ∷ 9 ∷ 13 ∷ 32 ∷ []) ≡ Blank
only_blanks = refl

-- ---- unknown commands

no_command : line_of (codes "frob S") ≡ Refused UnknownCommand
no_command = refl

command_in_capitals : line_of (codes "OPEN S") ≡ Refused UnknownCommand
command_in_capitals = refl

-- ---- bad words

no_session : line_of (codes "open") ≡ Refused BadWords
no_session = refl

no_count : line_of (codes "levels S") ≡ Refused BadWords
no_count = refl

count_behind_level : line_of (codes "level S 9") ≡ Refused BadWords
count_behind_level = refl

word_too_many : line_of (codes "open S T") ≡ Refused BadWords
word_too_many = refl

no_session_behind_after : line_of (codes "after") ≡ Refused BadWords
no_session_behind_after = refl

no_equals_sign : line_of (codes "see S a") ≡ Refused BadWords
no_equals_sign = refl

-- a number sign within a line does not begin a comment
number_sign_behind_a_command : line_of (codes "open S # note") ≡ Refused BadWords
number_sign_behind_a_command = refl

-- words are tried before names
bad_words_and_a_bad_name : line_of (codes "see S( a") ≡ Refused BadWords
bad_words_and_a_bad_name = refl

-- ---- bad names

bracket_in_a_name : line_of (codes "open a(b") ≡ Refused BadName
bracket_in_a_name = refl

empty_name : line_of (codes "see S =0") ≡ Refused BadName
empty_name = refl

equals_sign_in_a_name : line_of (codes "unsee S a=1") ≡ Refused BadName
equals_sign_in_a_name = refl

session_of_64_bytes : line_of (codes "min " ++ replicate 64 97) ≡ Ask (replicate 64 97) (Tell Min)
session_of_64_bytes = refl

session_of_65_bytes : line_of (codes "min " ++ replicate 65 97) ≡ Refused BadName
session_of_65_bytes = refl

bad_name_among_parts : line_of (codes "after S b c,d") ≡ Refused BadName
bad_name_among_parts = refl

-- names are tried before values
bad_name_and_a_bad_value : line_of (codes "list S( 0") ≡ Refused BadName
bad_name_and_a_bad_value = refl

-- ---- bad values

neither_zero_nor_one : line_of (codes "see S a=2") ≡ Refused BadValue
neither_zero_nor_one = refl

neither_sound_nor_faulty : line_of (codes "hold S b=no") ≡ Refused BadValue
neither_sound_nor_faulty = refl

second_equals_sign : line_of (codes "see S a=0=1") ≡ Refused BadValue
second_equals_sign = refl

no_value : line_of (codes "see S a=") ≡ Refused BadValue
no_value = refl

count_of_zero : line_of (codes "list S 0") ≡ Refused BadValue
count_of_zero = refl

count_with_a_leading_zero : line_of (codes "list S 01") ≡ Refused BadValue
count_with_a_leading_zero = refl

count_above_a_million : line_of (codes "list S 1000001") ≡ Refused BadValue
count_above_a_million = refl

states_above_a_million : line_of (codes "levels S 1000001") ≡ Refused BadValue
states_above_a_million = refl

-- ---- lines that are too long

line_of_a_byte_too_many : (line : List ℕ) → length line ≡ LINE_LIMIT + 1 → line_of line ≡ Refused TooLong
line_of_a_byte_too_many line long = line_of-too_long line (omega arith)

-- ---- the number and text of a refusal

unknown_command_says : refusal_row UnknownCommand ≡ (1, codes "unknown command")
unknown_command_says = refl

bad_words_say : refusal_row BadWords ≡ (2, codes "bad words")
bad_words_say = refl

bad_name_says : refusal_row BadName ≡ (3, codes "bad name")
bad_name_says = refl

bad_value_says : refusal_row BadValue ≡ (4, codes "bad value")
bad_value_says = refl

too_long_says : refusal_row TooLong ≡ (5, codes "line too long")
too_long_says = refl
