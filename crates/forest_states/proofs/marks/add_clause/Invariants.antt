use Rattle.std.proofs.Common.{◌≡◌, ◌<◌, ◌++◌, ℕ, [], ◌∷◌, map, length, take, get_or}
use Rattle.std.specs.Prelude.{if◌then◌else◌}
use Rattle.forest_states.specs.inner.Descents.{has_var}
use Rattle.forest_states.proofs.marks.add_clause.Given as goal

abbrev pub invariant-loop-literal : goal.invariant-loop-literal
invariant-loop-literal l = record {
  long : length l.of.items ≡ length l.initial.of.items;
  of : (v : ℕ) → v < length l.of.items → get_or (map (λ u. u.items) l.of.items) v []
      ≡ get_or (map (λ u. u.items) l.initial.of.items) v [] ++ (if has_var v (take l.literal-index l.clause) then l.number ∷ [] else []);
}
