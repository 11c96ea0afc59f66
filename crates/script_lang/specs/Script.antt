-- The lines of a script, and what each asks.
use Rattle.std.specs.Prelude.{ℕ, Bool, true, false, ◌&&◌, List, [], ◌∷◌, length, Option, Some, None, codes, ◌==◌, nat_lt, slice_index_or, if◌then◌else◌, ◌≤◌}
use Rattle.std.specs.List.{list_all}
use Rattle.std.specs.Map.{lookup}
use Rattle.std.specs.Option.{option_map, option_map_or}
use Rattle.text_rules.specs.Names.{Name, same_name, is_name, is_short_name}
use Rattle.text_rules.specs.Tokens.{words}
use Rattle.text_rules.specs.Numbers.{plain_number_in}
use Rattle.device_model.specs.declared.limits.TheConstants.{NAME_LIMIT}
use Rattle.script_lang.specs.declared.line.Line.{Line as LineRead}
use Rattle.script_lang.specs.declared.line.Line.TheVariants as line
use Rattle.script_lang.specs.declared.line.AskedLine.{AskedLine as AskedRead}
use Rattle.script_lang.specs.declared.line.AskedLine.TheVariants as of
use Rattle.script_lang.specs.declared.line.Question.{Question as QuestionRead}
use Rattle.script_lang.specs.declared.line.Question.TheVariants as question
use Rattle.script_lang.specs.declared.line.Request.{Request as RequestRead}
use Rattle.script_lang.specs.declared.line.Request.TheVariants as request
use Rattle.script_lang.specs.declared.line.Noted.{Noted}
use Rattle.script_lang.specs.declared.line.Noted.TheVariants.{Wire, Part}
use Rattle.script_lang.specs.declared.refusal.LineRefusal.{LineRefusal}
use Rattle.script_lang.specs.declared.refusal.LineRefusal.TheVariants.{UnknownCommand, BadWords, BadName, BadValue, TooLong}
use Rattle.script_lang.specs.Refusals.{refusal_of}
use Rattle.script_lang.specs.declared.limits.TheConstants.{COUNT_LIMIT, LINE_LIMIT}

-- a question about a session's case, which stays as it is
pub data Question : Type 0 where
  Min : Question
  Probe : (wire : Name) → Question
  Probes : Question
  Blame : Question

-- what a line asks of a session; a note says what is known of a wire (seen) or of a part (held)
pub data Request : Type 0 where
  Start : Request
  Stop : Request
  Note : (what : Noted) (name : Name) (known : Option Bool) → Request
  Tell : (question : Question) → Request
  Next : Request
  Several : (count : ℕ) → Request
  After : (parts : List Name) → Request
  Dnnf : Request
  Level : Request
  Levels : (count : ℕ) → Request
  LeastNnf : Request

-- nothing, a refusal, or a request to a session
pub data Line : Type 0 where
  Blank : Line
  Refused : (refusal : LineRefusal) → Line
  Ask : (session : Name) (request : Request) → Line

-- a name of a wire or a part
abbrev pub is_script_name : List ℕ → Bool
is_script_name word = is_name NAME_LIMIT word

-- a session only
abbrev pub on_session : Request → List (List ℕ) → Line
on_session request (s ∷ []) = if is_short_name s then Ask s request else Refused BadName
on_session request ws = Refused BadWords

-- a session and a name
abbrev pub on_name : (Name → Request) → List (List ℕ) → Line
on_name request (s ∷ name ∷ []) = if is_short_name s && is_script_name name then Ask s (request name) else Refused BadName
on_name request ws = Refused BadWords

-- the text before the first equals sign, and that after it
abbrev pub at_equals : List ℕ → Option (List ℕ × List ℕ)
at_equals [] = None
at_equals (b ∷ bytes) = if b == 61 then Some ([], bytes) else option_map (λ (pair : List ℕ × List ℕ). (b ∷ pair.0, pair.1)) (at_equals bytes)

abbrev pub on_pair : List ℕ → List ℕ → (Name → Bool → Request) → Name → Option (List ℕ × List ℕ) → Line
on_pair one other request s None = Refused BadWords
on_pair one other request s (Some pair) =
    if is_short_name s && is_script_name pair.0
    then option_map_or (λ value. Ask s (request pair.0 value)) (lookup (same_name pair.1) ((one, true) ∷ (other, false) ∷ []))
    (Refused BadValue) else Refused BadName

-- a session, and a name with one of two words: `one` for true, `other` for false
abbrev pub on_value : List ℕ → List ℕ → (Name → Bool → Request) → List (List ℕ) → Line
on_value one other request (s ∷ pair ∷ []) = on_pair one other request s (at_equals pair)
on_value one other request ws = Refused BadWords

-- a session and a count from 1 to a million
abbrev pub on_count : (ℕ → Request) → List (List ℕ) → Line
on_count request (s ∷ count ∷ []) =
    if is_short_name s
    then option_map_or (λ n. Ask s (request n)) (plain_number_in 7 1 COUNT_LIMIT count) (Refused BadValue) else Refused BadName
on_count request ws = Refused BadWords

-- a session and any number of names
abbrev pub on_names : (List Name → Request) → List (List ℕ) → Line
on_names request [] = Refused BadWords
on_names request (s ∷ names) = if is_short_name s && list_all is_script_name names then Ask s (request names) else Refused BadName

-- the command words, and how to read the words after each
abbrev pub commands : List (List ℕ × (List (List ℕ) → Line))
commands = (codes "open", on_session Start)
    ∷ (codes "close", on_session Stop)
    ∷ (codes "see", on_value (codes "1") (codes "0") (λ wire bit. Note Wire wire (Some bit)))
    ∷ (codes "unsee", on_name (λ wire. Note Wire wire None))
    ∷ (codes "hold", on_value (codes "ok") (codes "bad") (λ part ok. Note Part part (Some ok)))
    ∷ (codes "unhold", on_name (λ part. Note Part part None))
    ∷ (codes "min", on_session (Tell Min))
    ∷ (codes "next", on_session Next)
    ∷ (codes "list", on_count Several)
    ∷ (codes "after", on_names After)
    ∷ (codes "probe", on_name (λ wire. Tell (Probe wire)))
    ∷ (codes "probes", on_session (Tell Probes))
    ∷ (codes "blame", on_session (Tell Blame))
    ∷ (codes "dnnf", on_session Dnnf)
    ∷ (codes "level", on_session Level)
    ∷ (codes "levels", on_count Levels)
    ∷ (codes "leastnnf", on_session LeastNnf)
    ∷ []

-- the words after a command, read by such a table; a first word that is no command is refused
abbrev pub read_as : List (List ℕ × (List (List ℕ) → Line)) → List ℕ → List (List ℕ) → Line
read_as table word ws = option_map_or (λ reading. reading ws) (lookup (same_name word) table) (Refused UnknownCommand)

-- a word that begins with a number sign begins a comment
abbrev pub line_of_words : List (List ℕ) → Line
line_of_words [] = Blank
line_of_words (word ∷ ws) = if slice_index_or word 0 0 == 35 then Blank else read_as commands word ws

-- A line that is too long is refused, even a comment.
abbrev pub line_of : List ℕ → Line
line_of bytes = if nat_lt LINE_LIMIT (length bytes) then Refused TooLong else line_of_words (words bytes)

-- ---- the meaning of the code's values

-- the code's questions
abbrev pub question_of : QuestionRead → Question
question_of question.Min = Min
question_of (question.Probe wire) = Probe wire.now
question_of question.Probes = Probes
question_of question.Blame = Blame

-- the code's requests
abbrev pub asked : RequestRead → Request
asked request.Start = Start
asked request.Stop = Stop
asked (request.Note what name known) = Note what name.now known
asked (request.Tell question) = Tell (question_of question)
asked request.Next = Next
asked (request.List count) = Several count
asked (request.After names) = After (words names.now)
asked request.Dnnf = Dnnf
asked request.Level = Level
asked (request.Levels count) = Levels count
asked request.LeastNnf = LeastNnf

-- the code's requests with their sessions
abbrev pub asked_line : AskedRead → Line
asked_line of.Nothing = Blank
asked_line (of.Refused refusal) = Refused refusal
asked_line (of.Of session request) = Ask session.now (asked request)

-- the code's lines
abbrev pub meaning : LineRead → Line
meaning line.Blank = Blank
meaning (line.Start session) = Ask session.now Start
meaning (line.Stop session) = Ask session.now Stop
meaning (line.See session name bit) = Ask session.now (Note Wire name.now (Some bit))
meaning (line.Unsee session name) = Ask session.now (Note Wire name.now None)
meaning (line.Hold session name ok) = Ask session.now (Note Part name.now (Some ok))
meaning (line.Unhold session name) = Ask session.now (Note Part name.now None)
meaning (line.Min session) = Ask session.now (Tell Min)
meaning (line.Next session) = Ask session.now Next
meaning (line.List session count) = Ask session.now (Several count)
meaning (line.After session names) = Ask session.now (After (words names.now))
meaning (line.Probe session name) = Ask session.now (Tell (Probe name.now))
meaning (line.Probes session) = Ask session.now (Tell Probes)
meaning (line.Blame session) = Ask session.now (Tell Blame)
meaning (line.Dnnf session) = Ask session.now Dnnf
meaning (line.Level session) = Ask session.now Level
meaning (line.Levels session count) = Ask session.now (Levels count)
meaning (line.LeastNnf session) = Ask session.now LeastNnf
meaning (line.Refused number) = Refused (refusal_of number)

-- the number of a refusal is one of the five
abbrev pub IsNumbered : LineRead → Type 0
IsNumbered (line.Refused number) = (1 ≤ number) × (number ≤ 5)
IsNumbered read = Unit {0}
