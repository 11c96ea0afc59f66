-- A netlist over several times as clauses: those of a device with a copy of each part for each time.
use Rattle.std.specs.Prelude.{◌≡◌, ℕ, ◌≤◌, true, ◌+◌, ◌-◌, ◌*◌, List, [], ◌∷◌, ◌++◌, map, length, Option, Some, None, Result, Ok, Err, slice_index_or, nat_lt, if◌then◌else◌}
use Rattle.std.specs.List.{flat_map, enumerate_from, range_with_len}
use Rattle.text_rules.specs.Names.{Name, names_rise}
use Rattle.device_model.specs.declared.component.Component.{Component}
use Rattle.device_model.specs.declared.limits.TheConstants.{PART_LIMIT, WIRE_LIMIT}
use Rattle.device_model.specs.Devices.{Device, part_names}
use Rattle.device_model.specs.Building.{NamedPart, joined}
use Rattle.bench_reader.specs.declared.sequential.Sequential.{Sequential}
use Rattle.clause_encoder.specs.declared.encoding.EncodeError.{EncodeError}
use Rattle.clause_encoder.specs.declared.encoding.EncodeError.TheVariants.{TooManyClauses as OverLimit, Memory as NoMemory}
use Rattle.clause_encoder.specs.Clauses.{ClauseList}
use Rattle.clause_encoder.specs.Encoding.{most_variables, encoded}
use Rattle.clause_encoder.specs.Replacing.{replaced}
use Rattle.frame_unroller.specs.declared.unrolling.Unrolled.{Unrolled}
use Rattle.frame_unroller.specs.declared.unrolling.UnrollError.{UnrollError}
use Rattle.frame_unroller.specs.declared.unrolling.UnrollError.TheVariants.{TooManyParts, TooManyWires, TooManyClauses, Memory}
use Rattle.frame_unroller.specs.Times.{times, wire_at, copy_at}
use Rattle.frame_unroller.specs.Frames.{is_delayed, inputs, output}
use Rattle.frame_unroller.specs.Diagnosis.{frame_wires}

-- ---- copies

-- the copy of the part at `place` for time `now`; its inputs are of time `before`
pub record Copy : Type 0 where
  pub place : ℕ
  pub part : Component
  pub before : ℕ
  pub now : ℕ

-- The copies of a part for a time. The inputs of a delayed part are of the time before, so it has no copy for the first time.
abbrev pub copies_of : Sequential → ℕ → ℕ × Component → List Copy
copies_of seq t p =
    let before = if is_delayed seq p.0 then t - 1 else t in
    if nat_lt 0 before then record { place = p.0; part = p.1; before = before; now = t } ∷ [] else []

-- all copies for a time, in the order of the parts
abbrev pub copies_for : Sequential → ℕ → List Copy
copies_for seq t = flat_map (copies_of seq t) (enumerate_from 0 seq.device.parts)

-- all copies, by time, which is the order of their names
abbrev pub copies : Sequential → ℕ → List Copy
copies seq frames = flat_map (copies_for seq) (times frames)

-- the wires of these ports at a time
abbrev pub wires_at : List Name → ℕ → List ℕ → List Name
wires_at wires t ports = map (λ port. wire_at t (slice_index_or wires port [])) ports

abbrev pub named_copy : List Name → Copy → NamedPart
named_copy wires copy = record {
  name = copy_at copy.now copy.part.name;
  kind = copy.part.kind;
  wires = wires_at wires copy.before (inputs copy.part) ++ wires_at wires copy.now (output copy.part);
}

-- the device of all copies, over the wires at all times
abbrev pub frame_device : Sequential → ℕ → Device
frame_device seq frames =
    let wires = frame_wires seq frames in record {
      parts = map (λ copy. joined wires (named_copy seq.device.wires copy)) (copies seq frames);
      wires = wires;
      tables = seq.device.tables;
    }

-- ---- clauses

-- the place of the part of each copy
abbrev pub owners : Sequential → ℕ → List ℕ
owners seq frames = map (λ (copy : Copy). copy.place) (copies seq frames)

-- The health of each copy becomes that of its part; all other variables follow those of the `parts` parts.
abbrev pub shared_variables : ℕ → List ℕ → ℕ → List ℕ
shared_variables parts places vars = map (λ place. place + 1) places ++ range_with_len (parts + 1) (vars - length places)

-- the clauses of copies, over the health of their parts
abbrev pub shared : ℕ → List ℕ → ClauseList → ClauseList
shared parts places list = replaced (shared_variables parts places list.vars) (parts + (list.vars - length places)) list

abbrev pub unrolled_by : Sequential → ℕ → Result ClauseList EncodeError → Result Unrolled UnrollError
unrolled_by seq frames (Ok list) =
    Ok (record { parts = part_names seq.device.parts; wires = frame_wires seq frames; cnf = shared (length seq.device.parts) (owners seq frames) list })
unrolled_by seq frames (Err (OverLimit count)) = Err (TooManyClauses count)
unrolled_by seq frames (Err NoMemory) = Err Memory

-- ---- refusals

-- the reason of an error; lack of memory is none
abbrev pub reason : UnrollError → Option UnrollError
reason Memory = None
reason error = Some error

-- The names and clauses, or the first of these reasons: too many copies, too many wires, too many clauses of the copies.
abbrev pub unrolled : Sequential → ℕ → Result Unrolled UnrollError
unrolled seq frames =
    if nat_lt PART_LIMIT (length (copies seq frames)) then Err (TooManyParts (length (copies seq frames)))
    else if nat_lt WIRE_LIMIT (frames * length seq.device.wires) then Err (TooManyWires (frames * length seq.device.wires))
    else unrolled_by seq frames (encoded (frame_device seq frames))

-- what is true of every unrolled netlist: the names rise, and there are few variables
pub record IsUnrolled (made : Unrolled) : Type 0 where
  pub parts_rise : names_rise made.parts ≡ true
  pub wires_rise : names_rise made.wires ≡ true
  pub few_parts : length made.parts ≤ PART_LIMIT
  pub few_wires : length made.wires ≤ WIRE_LIMIT
  pub room : length made.parts + length made.wires ≤ made.cnf.vars
  pub few_vars : made.cnf.vars ≤ most_variables
