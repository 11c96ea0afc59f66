-- What is unrolled, and what is not.
use Rattle.std.proofs.Common.{◌≡◌, ℕ, Ok, arith}
use Rattle.bench_reader.specs.declared.sequential.Sequential.{Sequential}
use Rattle.device_model.specs.Devices.{part_names}
use Rattle.frame_unroller.specs.declared.unrolling.Unrolled.{Unrolled}
use Rattle.frame_unroller.specs.Diagnosis.{frame_wires}
use Rattle.frame_unroller.specs.Unrolling.{unrolled}

-- an unrolled netlist has the names of the parts, and of the wires at all times
pub unrolled-names : (seq : Sequential) (frames : ℕ) (made : Unrolled) → unrolled seq frames ≡ Ok made → (made.parts ≡ part_names seq.device.parts) × (made.wires ≡ frame_wires seq frames)
unrolled-names seq frames made h = grind arith
