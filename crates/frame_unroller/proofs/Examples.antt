-- Worked rows: netlists over several times.
use Rattle.std.proofs.Common.{◌≡◌, ℕ, List, [], ◌∷◌, ◌++◌, Option, Some, None, Ok, Err, refl}
use Rattle.std.specs.Prelude.{Result, codes}
use Rattle.std.specs.List.{flat_map}
use Rattle.text_rules.specs.Names.{Name}
use Rattle.device_model.specs.Devices.{part_names}
use Rattle.bench_reader.specs.declared.sequential.Sequential.{Sequential}
use Rattle.bench_reader.specs.Faults.{Fault}
use Rattle.bench_reader.specs.SequentialNetlists.{sequential_netlist}
use Rattle.frame_unroller.specs.Times.{four_digits, wire_at, copy_at}
use Rattle.frame_unroller.specs.Diagnosis.{frame_wires}
use Rattle.frame_unroller.specs.Unrolling.{frame_device, owners}

text : List Name → List ℕ
text lines = flat_map (λ l. l ++ 10 ∷ []) lines

digits : four_digits 64 ≡ codes "0064"
digits = refl

a_wire_at_a_time : wire_at 7 (codes "clk") ≡ codes "clk@0007"
a_wire_at_a_time = refl

a_copy_at_a_time : copy_at 12 (codes "q") ≡ codes "0012@q"
a_copy_at_a_time = refl

abbrev over : {A : Type 0} → Result Sequential Fault → (Sequential → A) → Option A
over (Ok seq) f = Some (f seq)
over (Err fault) f = None

-- ---- whole names are sorted

digits_before_the_sign : over (sequential_netlist (text (codes "INPUT(a)" ∷ codes "INPUT(a1)" ∷ []))) (λ seq. frame_wires seq 1) ≡ Some (codes "a1@0001" ∷ codes "a@0001" ∷ [])
unfolding text
digits_before_the_sign = refl

-- ---- copies of a loop that changes its value each time

toggle : List ℕ
toggle = text (codes "q = DFF(n)" ∷ codes "n = NOT(q)" ∷ [])

copies_by_time : over {A = List Name × List ℕ} (sequential_netlist toggle) (λ seq. (part_names (frame_device seq 3).parts, owners seq 3))
    ≡ Some (codes "0001@n" ∷ codes "0002@n" ∷ codes "0002@q" ∷ codes "0003@n" ∷ codes "0003@q" ∷ [], 0 ∷ 0 ∷ 1 ∷ 0 ∷ 1 ∷ [])
unfolding toggle text
copies_by_time = refl
