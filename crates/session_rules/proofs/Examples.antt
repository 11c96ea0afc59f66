-- Worked rows: the replies to whole scripts. Their check computes both sides.
use Rattle.std.proofs.Common.{◌≡◌, ℕ, false, Some, List, [], ◌∷◌, ◌++◌, refl, map}
use Rattle.std.specs.Prelude.{codes}
use Rattle.std.specs.Fmt.{digits}
use Rattle.state_rules.specs.Systems.{with_extras}
use Rattle.device_model.specs.declared.component.Component.{Component}
use Rattle.device_model.specs.declared.gates.Kind.{Kind}
use Rattle.device_model.specs.declared.gates.Kind.TheVariants.{Nand, Buff, Table}
use Rattle.device_model.specs.Devices.{Device}
use Rattle.device_model.specs.Diagnosis.{device_system}
use Rattle.session_rules.specs.Items.{Item, Plain, Projected, LeastText, Whole, line}
use Rattle.session_rules.specs.Sessions.{replies}

-- the texts of the items, if all are plain
abbrev pub text_of : List Item → List ℕ
text_of [] = []
text_of (Plain bytes ∷ items) = bytes ++ text_of items
text_of (Projected parts states ∷ items) = text_of items
text_of (LeastText parts states ∷ items) = text_of items
text_of (Whole device vars most ∷ items) = text_of items

-- lines, each with its line feed
abbrev pub text : List (List ℕ) → List ℕ
text [] = []
text (l ∷ ls) = l ++ (10 ∷ text ls)

-- the replies to a script over a device, if at most `limit` sessions may be open
abbrev pub replied : ℕ → Device → List (List ℕ) → List ℕ
replied limit device lines = text_of (replies (device_system device) limit [] lines)

abbrev part : List ℕ → Kind → List ℕ → Component
part name kind ports = record { name = name; kind = kind; ports = ports }

-- ---- two buffers: b = BUFF(a), c = BUFF(b)

abbrev pub chain : Device
chain = record {
  parts = part (codes "b") Buff (0 ∷ 1 ∷ []) ∷ part (codes "c") Buff (1 ∷ 2 ∷ []) ∷ [];
  wires = codes "a" ∷ codes "b" ∷ codes "c" ∷ [];
  tables = [];
}

points : replied 16 chain (map codes ("open S" ∷ "see S a=0" ∷ "see S c=1" ∷ "after S b" ∷ "next S" ∷ "after S c" ∷ "next S" ∷ "after S b c" ∷ "next S" ∷ "after S" ∷ "next S" ∷ "next S" ∷ "see S c=1" ∷ "next S" ∷ []))
    ≡ text (map codes ("S open" ∷ "S ok" ∷ "S ok" ∷ "S ok" ∷ "S diag c" ∷ "S ok" ∷ "S end" ∷ "S ok" ∷ "S diag b" ∷ "S ok" ∷ "S end" ∷ "S end" ∷ "S ok" ∷ "S diag b" ∷ []))
points = refl

-- by rising cost, up to a cost
abbrev levelled : ℕ → Device → List (List ℕ) → List ℕ
levelled top device lines = text_of (replies (with_extras (record { levels = Some top; least = false }) (device_system device)) 16 [] lines)

states_by_cost : levelled 2 chain (map codes ("open S" ∷ "see S a=0" ∷ "see S c=1" ∷ "levels S 9" ∷ "after S c" ∷ "level S" ∷ "after S" ∷ "level S" ∷ []))
    ≡ text (map codes ("S open" ∷ "S ok" ∷ "S ok" ∷ "S level 1 b" ∷ "S level 1 c" ∷ "S level 2 b c" ∷ "S end" ∷ "S ok" ∷ "S level 2 b c" ∷ "S ok" ∷ "S level 1 b" ∷ []))
unfolding digits
states_by_cost = refl

states_up_to_one : levelled 1 chain (map codes ("open S" ∷ "see S a=0" ∷ "see S c=1" ∷ "levels S 9" ∷ []))
    ≡ text (map codes ("S open" ∷ "S ok" ∷ "S ok" ∷ "S level 1 b" ∷ "S level 1 c" ∷ "S end" ∷ []))
unfolding digits
states_up_to_one = refl

nothing_besides : replied 16 chain (map codes ("open S" ∷ "level S" ∷ "leastnnf S" ∷ []))
    ≡ text (map codes ("S open" ∷ "S error 11 no levels" ∷ "S error 12 no least" ∷ []))
unfolding digits
nothing_besides = refl

refusals : replied 16 chain (map codes ("frob S" ∷ "open a(b" ∷ "open S" ∷ "open" ∷ "see S a" ∷ "see S a=2" ∷ "see S zz=0" ∷ "hold S zz=ok" ∷ "hold S b=no" ∷ "list S 0" ∷ "min T" ∷ "# note" ∷ "min S" ∷ []))
    ≡ text (map codes ("error 1 unknown command" ∷ "error 3 bad name" ∷ "S open" ∷ "error 2 bad words" ∷ "error 2 bad words" ∷ "error 4 bad value" ∷ "S error 9 no wire" ∷ "S error 10 no part" ∷ "error 4 bad value" ∷ "error 4 bad value" ∷ "T error 6 no session" ∷ "S min 0" ∷ []))
unfolding digits
refusals = refl

full : replied 1 chain (map codes ("open A" ∷ "open B" ∷ "open A" ∷ "close A" ∷ "open B" ∷ "min A" ∷ []))
    ≡ text (map codes ("A open" ∷ "B error 8 full" ∷ "A error 7 open already" ∷ "A closed" ∷ "B open" ∷ "A error 6 no session" ∷ []))
unfolding digits
full = refl

two_sessions : replied 16 chain (map codes ("open A" ∷ "open B" ∷ "see A a=0" ∷ "see B a=0" ∷ "see A c=1" ∷ "see B c=0" ∷ "min A" ∷ "min B" ∷ "next A" ∷ "next B" ∷ "next A" ∷ "next B" ∷ []))
    ≡ text (map codes ("A open" ∷ "B open" ∷ "A ok" ∷ "B ok" ∷ "A ok" ∷ "B ok" ∷ "A min 1 b" ∷ "B min 0" ∷ "A diag b" ∷ "B diag" ∷ "A diag c" ∷ "B end" ∷ []))
unfolding digits
two_sessions = refl

changes_of_what_is_known : replied 16 chain (map codes ("open S" ∷ "see S a=0" ∷ "see S c=1" ∷ "list S 1" ∷ "unsee S c" ∷ "list S 1" ∷ "hold S b=bad" ∷ "min S" ∷ "unhold S b" ∷ "min S" ∷ "close S" ∷ "close S" ∷ []))
    ≡ text (map codes ("S open" ∷ "S ok" ∷ "S ok" ∷ "S diag b" ∷ "S ok" ∷ "S diag" ∷ "S ok" ∷ "S min 1 b" ∷ "S ok" ∷ "S min 0" ∷ "S closed" ∷ "S error 6 no session" ∷ []))
unfolding digits
changes_of_what_is_known = refl

probes_and_blame : replied 16 chain (map codes ("open S" ∷ "see S a=0" ∷ "see S c=1" ∷ "hold S b=ok" ∷ "blame S" ∷ "probe S b" ∷ "probes S" ∷ []))
    ≡ text (map codes ("S open" ∷ "S ok" ∷ "S ok" ∷ "S ok" ∷ "S blame b never" ∷ "S blame c always" ∷ "S end" ∷ "S probe b 1 -" ∷ "S probe b 1 -" ∷ "S end" ∷ []))
unfolding digits
probes_and_blame = refl

-- ---- the benchmark C17, its wires in byte order

abbrev c17 : Device
c17 = record {
  parts = part (codes "10") Nand (0 ∷ 8 ∷ 1 ∷ [])
      ∷ part (codes "11") Nand (8 ∷ 9 ∷ 2 ∷ [])
      ∷ part (codes "16") Nand (5 ∷ 2 ∷ 3 ∷ [])
      ∷ part (codes "19") Nand (2 ∷ 10 ∷ 4 ∷ [])
      ∷ part (codes "22") Nand (1 ∷ 3 ∷ 6 ∷ [])
      ∷ part (codes "23") Nand (3 ∷ 4 ∷ 7 ∷ []) ∷ [];
  wires = map codes ("1" ∷ "10" ∷ "11" ∷ "16" ∷ "19" ∷ "2" ∷ "22" ∷ "23" ∷ "3" ∷ "6" ∷ "7" ∷ []);
  tables = [];
}

-- the inputs are seen as 0, and the outputs as these bits
abbrev c17_seen : List ℕ → List ℕ → List (List ℕ)
c17_seen first second = map codes ("open S" ∷ "see S 1=0" ∷ "see S 2=0" ∷ "see S 3=0" ∷ "see S 6=0" ∷ "see S 7=0" ∷ []) ++ (codes "see S 22=" ++ first) ∷ (codes "see S 23=" ++ second) ∷ []

-- what a script is answered after that
abbrev c17_told : List ℕ → List ℕ → List (List ℕ) → List (List ℕ) → Type 0
c17_told first second lines told =
    replied 16 c17 (c17_seen first second ++ lines) ≡ text (map codes ("S open" ∷ "S ok" ∷ "S ok" ∷ "S ok" ∷ "S ok" ∷ "S ok" ∷ "S ok" ∷ "S ok" ∷ []) ++ told)

nothing_wrong : c17_told (codes "0") (codes "0") (map codes ("min S" ∷ "next S" ∷ "next S" ∷ [])) (map codes ("S min 0" ∷ "S diag" ∷ "S end" ∷ []))
unfolding digits
nothing_wrong = refl

a_tie : c17_told (codes "1") (codes "0") (map codes ("list S 5" ∷ [])) (map codes ("S diag 10" ∷ "S diag 22" ∷ "S end" ∷ []))
a_tie = refl

two_of_a_tie : c17_told (codes "1") (codes "0") (map codes ("list S 2" ∷ [])) (map codes ("S diag 10" ∷ "S diag 22" ∷ []))
two_of_a_tie = refl

a_shared_gate : c17_told (codes "1") (codes "1") (map codes ("list S 5" ∷ [])) (map codes ("S diag 16" ∷ "S end" ∷ []))
a_shared_gate = refl

two_faults : c17_told (codes "1") (codes "0") (map codes ("hold S 10=ok" ∷ "hold S 22=ok" ∷ "min S" ∷ "list S 5" ∷ [])) (map codes ("S ok" ∷ "S ok" ∷ "S min 2 16 23" ∷ "S diag 16 23" ∷ "S end" ∷ []))
unfolding digits
two_faults = refl

reports_of_wires : c17_told (codes "1") (codes "0") (map codes ("probe S 10" ∷ "probe S 16" ∷ "probe S 22" ∷ "probes S" ∷ []))
    (map codes ("S probe 10 1 1" ∷ "S probe 16 2 1" ∷ "S probe 22 - 1" ∷ "S probe 10 1 1" ∷ "S probe 11 2 1" ∷ "S probe 16 2 1" ∷ "S probe 19 3 1" ∷ "S end" ∷ []))
unfolding digits
reports_of_wires = refl

reports_of_parts : c17_told (codes "1") (codes "0") (map codes ("blame S" ∷ []))
    (map codes ("S blame 10 sometimes" ∷ "S blame 11 never" ∷ "S blame 16 never" ∷ "S blame 19 never" ∷ "S blame 22 sometimes" ∷ "S blame 23 never" ∷ "S end" ∷ []))
reports_of_parts = refl

-- ---- no part

abbrev bare_wire : Device
bare_wire = record { parts = []; wires = codes "a" ∷ []; tables = [] }

no_part : replied 16 bare_wire (map codes ("open S" ∷ "min S" ∷ "next S" ∷ "next S" ∷ []))
    ≡ text (map codes ("S open" ∷ "S min 0" ∷ "S diag" ∷ "S end" ∷ []))
unfolding digits
no_part = refl

-- ---- one part with a table: ok allows 00 and 11, bad allows 00 and 10

abbrev tabled : Device
tabled = record { parts = part (codes "u") (Table 0) (0 ∷ 1 ∷ []) ∷ []; wires = codes "a" ∷ codes "y" ∷ []; tables = record { ports = 2; ok = 9; bad = 3; cost = 1 } ∷ [] }

-- a row that neither allows leaves no state
projected_none : replies (device_system tabled) 16 [] (map codes ("open S" ∷ "see S a=0" ∷ "see S y=1" ∷ "dnnf S" ∷ []))
    ≡ line (codes "S open" ∷ []) ∷ line (codes "S ok" ∷ []) ∷ line (codes "S ok" ∷ []) ∷ line (codes "S dnnf" ∷ []) ∷ Projected 1 [] ∷ []
projected_none = refl

none_is_inconsistent : replied 16 tabled (map codes ("open S" ∷ "see S a=0" ∷ "see S y=1" ∷ "min S" ∷ "next S" ∷ "list S 3" ∷ "probe S y" ∷ "probes S" ∷ "blame S" ∷ "unsee S y" ∷ "min S" ∷ []))
    ≡ text (map codes ("S open" ∷ "S ok" ∷ "S ok" ∷ "S inconsistent" ∷ "S inconsistent" ∷ "S inconsistent" ∷ "S inconsistent" ∷ "S inconsistent" ∷ "S inconsistent" ∷ "S ok" ∷ "S min 0" ∷ []))
unfolding digits
none_is_inconsistent = refl

-- ---- one part that allows every bit, and a wire of no part

abbrev free : Device
free = record { parts = part (codes "u") (Table 0) (0 ∷ []) ∷ []; wires = codes "a" ∷ codes "d" ∷ []; tables = record { ports = 1; ok = 3; bad = 3; cost = 1 } ∷ [] }

nothing_is_against_it : replied 16 free (map codes ("open S" ∷ "see S d=1" ∷ "hold S u=bad" ∷ "min S" ∷ "next S" ∷ "next S" ∷ "hold S u=ok" ∷ "min S" ∷ []))
    ≡ text (map codes ("S open" ∷ "S ok" ∷ "S ok" ∷ "S min 1 u" ∷ "S diag u" ∷ "S end" ∷ "S ok" ∷ "S min 0" ∷ []))
unfolding digits
nothing_is_against_it = refl

-- a free part is faulty in some state
levels_of_a_free_part : levelled 1 free (map codes ("open S" ∷ "levels S 3" ∷ []))
    ≡ text (map codes ("S open" ∷ "S level 0" ∷ "S level 1 u" ∷ "S end" ∷ []))
unfolding digits
levels_of_a_free_part = refl

-- a part held faulty leaves one state
projected_one : replies (device_system free) 16 [] (map codes ("open S" ∷ "hold S u=bad" ∷ "dnnf S" ∷ []))
    ≡ line (codes "S open" ∷ []) ∷ line (codes "S ok" ∷ []) ∷ line (codes "S dnnf" ∷ []) ∷ Projected 1 ((false ∷ []) ∷ []) ∷ []
projected_one = refl

-- ---- one wire at two ports: y = NAND(a, a)

abbrev inverter : Device
inverter = record { parts = part (codes "y") Nand (0 ∷ 0 ∷ 1 ∷ []) ∷ []; wires = codes "a" ∷ codes "y" ∷ []; tables = [] }

one_wire_at_two_ports : replied 16 inverter (map codes ("open S" ∷ "see S a=0" ∷ "see S y=0" ∷ "min S" ∷ []))
    ≡ text (map codes ("S open" ∷ "S ok" ∷ "S ok" ∷ "S min 1 y" ∷ []))
unfolding digits
one_wire_at_two_ports = refl
