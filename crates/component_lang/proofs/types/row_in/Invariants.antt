use Rattle.std.proofs.Common.{◌≡◌, take, true}
use Rattle.std.specs.List.{list_all}
use Rattle.std.specs.Prelude.{◌==◌, ◌||◌}
use Rattle.component_lang.specs.TypeRows.{row_in}
use Rattle.component_lang.proofs.types.row_in.Given as goal

abbrev pub invariant-loop-place : goal.invariant-loop-place
invariant-loop-place l = record {
  number : l.row ≡ row_in (take l.place l.word);
  bits : list_all (λ b. (b == 48) || (b == 49)) (take l.place l.word) ≡ true;
}
