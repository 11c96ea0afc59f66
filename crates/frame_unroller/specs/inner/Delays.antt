-- The delayed parts, as the code keeps them.
use Rattle.std.specs.Prelude.{◌≡◌, ℕ, ◌<◌, Bool, false, List, length, slice_index_or}
use Rattle.bench_reader.specs.declared.sequential.Sequential.{Sequential}
use Rattle.frame_unroller.specs.Frames.{is_delayed}

-- for each part whether it is delayed
pub record AreDelays (seq : Sequential) (delays : List Bool) : Type 0 where
  pub many : length delays ≡ length seq.device.parts
  pub say : (place : ℕ) → place < length seq.device.parts → slice_index_or delays place false ≡ is_delayed seq place
