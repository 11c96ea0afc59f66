-- What contracts see of a region.
use Rattle.std.specs.Prelude.{◌≡◌, ℕ, ◌+◌, ◌-◌, ◌≤◌, List, [], ◌∷◌, ◌++◌, sum_by, length}
use Rattle.scratch_pool.specs.Words.{words_at, written, zeroed}
use Rattle.scratch_pool.specs.declared.region.Span.{Span}

-- the words, and the runs that are carved and not released, in order
pub record Carved : Type 0 where
  pub words : List ℕ
  pub runs : List Span

-- the number of words in runs
abbrev pub words_used : List Span → ℕ
words_used runs = sum_by (λ (run : Span). run.len) runs

-- the number of words in no run
abbrev pub free_words : Carved → ℕ
free_words region = length region.words - words_used region.runs

-- the words of a run
abbrev pub run_words : Carved → Span → List ℕ
run_words region run = words_at region.words run.start run.len

-- the region with these words in a run
abbrev pub with_run : Carved → Span → List ℕ → Carved
with_run region run new = record region { words = written region.words run.start new }

-- the region after a run was carved
abbrev pub carved : Carved → Span → Carved
carved region run = record {
  words = zeroed region.words run.start run.len;
  runs = region.runs ++ run ∷ [];
}

-- whether this run was carved last
abbrev pub IsLast : List Span → Span → Type 0
IsLast runs run = (front : List Span) × (runs ≡ front ++ run ∷ [])

-- each run has a word, and begins where the one before it ends
abbrev pub AreStacked : ℕ → List Span → Type 0
AreStacked start [] = Unit {0}
AreStacked start (run ∷ runs) = (run.start ≡ start) × (1 ≤ run.len) × AreStacked (start + run.len) runs

-- the runs are stacked within the words
abbrev pub IsSound : Carved → Type 0
IsSound region = AreStacked 0 region.runs × (words_used region.runs ≤ length region.words)
