-- What is kept of a graph, as a drawing has it: sets of parts, and nodes below which nothing is missing.
use Rattle.std.proofs.Common.{◌≡◌, ℕ, ◌+◌, ◌*◌, ◌<◌, ◌≤◌, Bool, true, false, ◌&&◌, List, [], map, length, get_or, Option, Some, None, ap, ◌∙◌, subst, arith}
use Rattle.std.proofs.lemmas.Bool.Decides.{nat_tests}
use Rattle.std.specs.Prelude.{nat_le, IfSome, MatchOption}
use Rattle.std.specs.List.{range_with_len}
use Rattle.std.proofs.lemmas.Bool.{cases_lt, lt-ltb, le-ltb, le-leb, lt-leb}
use Rattle.std.proofs.lemmas.List.{get_or-take, get_or-drop}
use Rattle.state_rules.proofs.Members.{filter_same}
use Rattle.state_rules.specs.Graphs.{mentions}
use Rattle.state_rules.specs.Bits.{has_bit}
use Rattle.state_rules.proofs.Lists.{filter-never}
use Rattle.part_sets.specs.Numbers.{part_words, set_at}
use Rattle.part_sets.specs.PartSets.{ArePartsOf, AreLacking}
use Rattle.smooth_nnf.specs.Layouts.{filler, fillers}
use Rattle.smooth_nnf.specs.inner.Sets.{part_at}
use Rattle.smooth_nnf.specs.inner.Drawings.{Drawing, IsDrawing, IsUnder, is_over, missing_in}
use Rattle.smooth_nnf.proofs.Fillers.{in_range}
use Rattle.smooth_nnf.proofs.LineLemmas.{child-wider}

-- a set of parts, bit by bit
pub set-bit : (parts : ℕ) (some : ℕ → Bool) (sets : List ℕ) (k word b : ℕ) → ArePartsOf parts some (set_at sets k (part_words parts)) → word < part_words parts → b < 32
    → has_bit (get_or sets (k * part_words parts + word) 0) b ≡ (nat_le (part_at word b) parts && some (part_at word b))
set-bit parts some sets k word b are w s = grind (arith, nat_tests, get_or-take, get_or-drop, are, lt-ltb, le-leb, le-ltb, lt-leb, cases_lt)

-- nothing is missing if the word at its place says so
pub none-under : (d : Drawing) (lacking : List ℕ) → AreLacking d.graph d.parts lacking → (over : Option ℕ) (place : ℕ) → MatchOption over (place ≡ length d.graph.nodes) (λ node. place ≡ node) → get_or lacking place 0 ≡ 0
    → (node part : ℕ) → IsUnder d over node → 1 ≤ part → part ≤ d.parts → missing_in d over node part ≡ false
none-under d lacking is None place at given node part under low high = grind (arith, nat_tests, is.all)
none-under d lacking is (Some o) place at given node part under low high = grind (arith, nat_tests, is.nodes)

pub is-lacking : (d : Drawing) → IsDrawing d → (lacking : List ℕ) → d.lacking ≡ Some lacking → AreLacking d.graph d.parts lacking
is-lacking d is lacking e = subst (λ o. IfSome o (AreLacking d.graph d.parts)) e is.lacks

-- if so, no part is filled in
pub no-fillers : (d : Drawing) (over : Option ℕ) (node : ℕ) → ((part : ℕ) → 1 ≤ part → part ≤ d.parts → missing_in d over node part ≡ false) → fillers d.evidence d.parts (missing_in d over node) ≡ []
no-fillers d over node none =
    ap (map (filler d.evidence)) (filter_same (missing_in d over node) (λ p. false) (range_with_len 1 d.parts) (λ p m. let r = in_range 1 d.parts p m in none p r.0 (omega (arith, r.1))) ∙ filter-never (range_with_len 1 d.parts))

-- the parts below such a node are among those that its line is filled in to
pub under-wider : (d : Drawing) → IsDrawing d → (over : Option ℕ) (node : ℕ) → IsUnder d over node → (part : ℕ) → mentions d.graph.nodes part node ≡ true → is_over d.graph.nodes over part ≡ true
under-wider d is over node under part m = grind (arith, nat_tests, child-wider)
