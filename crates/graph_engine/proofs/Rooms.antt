-- Room that is carved whole and released.
use Rattle.std.proofs.Common.{◌≡◌, ◌∙◌, ◌∷◌, ◌++◌, [], ℕ, List, Option, Some, length, replicate, ap, sym, subst, arith, length-append}
use Rattle.std.specs.Prelude.{Contains, IfSome}
use Rattle.std.proofs.lemmas.List.{nil_from_length, length-replicate}
use Rattle.scratch_pool.specs.declared.region.Span.{Span}
use Rattle.scratch_pool.specs.Words.{written}
use Rattle.scratch_pool.specs.Regions.{Carved, carved, words_used, run_words}
use Rattle.scratch_pool.proofs.LentWords.{carved-held}
use Rattle.scratch_pool.proofs.Written.{length-written}

-- what is known of a found run
pub carved_so : (old new : Carved) (n : ℕ) (found : Option Span) (run : Span) → found ≡ Some run
    → IfSome found (λ (run : Span). (run ≡ record { start = words_used old.runs; len = n }) × (new ≡ carved old run))
    → (run ≡ record { start = words_used old.runs; len = n }) × (new ≡ carved old run)
carved_so old new n found run is = grind arith

-- it has as many words as asked for
pub run_long : (new : Carved) (n : ℕ) (found : Option Span) (run : Span) → found ≡ Some run
    → IfSome found (λ (run : Span). run_words new run ≡ replicate n 0) → length (run_words new run) ≡ n
run_long new n found run is zeros = grind (arith, length-replicate)

module _ (old new : Carved) (run : Span) (empty : old.runs ≡ []) (is : new ≡ carved old run) where
  one_run : new.runs ≡ run ∷ []
  one_run = ap (λ (r : Carved). r.runs) is ∙ ap (λ (rs : List Span). rs ++ run ∷ []) empty

  pub is_held : Contains new.runs run
  is_held = subst (λ (r : Carved). Contains r.runs run) (sym is) (carved-held old run)

  carved_long : length new.words ≡ length old.words
  carved_long = ap (λ (r : Carved). length r.words) is ∙ length-written old.words run.start (replicate run.len 0)

  -- after the release nothing is in use, and all words are there
  pub released_runs : (after : Carved) → new.runs ≡ after.runs ++ run ∷ [] → after.runs ≡ []
  released_runs after e =
      let all = length-append after.runs (run ∷ []) in
      let one = ap length (sym one_run ∙ e) in
      nil_from_length after.runs (omega (arith, all, one))

  pub released_words : (after : Carved) (lent : List ℕ) → after.words ≡ written new.words run.start lent → length after.words ≡ length old.words
  released_words after lent e = ap length e ∙ (length-written new.words run.start lent ∙ carved_long)
