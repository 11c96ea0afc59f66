-- The states by rising cost, and what comes after a point.
use Rattle.std.proofs.Common.{◌≡◌, ℕ, zero, suc, ◌+◌, ◌<◌, ◌≤◌, Bool, true, false, List, [], ◌∷◌, length, get_or, take, max, Option, Some, None, refl, sym, ap, ◌∙◌, subst, arith, inl, inr, ⊎_elim}
use Rattle.std.specs.Prelude.{◌⊎◌}
use Rattle.std.specs.List.{filter}
use Rattle.std.proofs.lemmas.Bool.{cases_order}
use Rattle.std.proofs.lemmas.Bool.Decides.{nat_tests}
use Rattle.state_rules.specs.Assignments.{assignment}
use Rattle.state_rules.specs.Ranking.{cost, least, is_before}
use Rattle.state_rules.specs.Levels.{levels, is_level_before, levels_rest}
use Rattle.state_rules.proofs.Members.{In, In-filter, In-filtered, empty-none}
use Rattle.conditioner.specs.Models.{total_cost}
use Rattle.minimiser.specs.declared.pass.TheConstants.{TOTAL_LIMIT}
use Rattle.state_rules.proofs.Diagnoses.{least-none}
use Rattle.diagnosis_lister.specs.inner.Fixing.{IsFirst, Has}
use Rattle.level_lister.specs.Listing.{level_step}
use Rattle.level_lister.specs.declared.levels.LevelStep.TheVariants.{Found, End, Inconsistent}
use Rattle.level_lister.specs.inner.Searching.{IsFirstLevel, is_later}
use Rattle.level_lister.proofs.FirstByCost.{cheaper-before, same-before, before-cases}
use Rattle.level_lister.proofs.RisingCosts.{Rising, Rising-filter, Rising-levels, first-rising, some_levels-in, some_levels-has}
use Rattle.clause_answers.specs.Questions.{Question, models, least_under, later_levels}
use Rattle.clause_answers.specs.inner.Asking.{Fits, cost_of, LeastFrom}
use Rattle.clause_answers.specs.inner.Listed.{Meets, Shows, is_after, FindsNext}
use Rattle.clause_answers.specs.inner.Levels.{NextCost, FindsLevel, FindsSame, Later}
use Rattle.clause_answers.proofs.Lists.{shows-in, in-shows, shows-low, shows-high, least-low, least-shown, Sorted-models}

-- ---- the next cost

-- another range that has the state's cost
pub shows-other : (q : Question) (low high from top : ℕ) (h : List Bool) → (s : Shows q low high h) → from ≤ cost q.costs h → cost q.costs h ≤ top → Shows q from top h
shows-other q low high from top h s le ge = record {
  bits = s.bits;
  meets = record { fits = s.meets.fits; low_is = subst (λ k. from ≤ cost q.costs k) (sym s.begins) le; high_is = subst (λ k. cost q.costs k ≤ top) (sym s.begins) ge };
  begins = s.begins;
}

module _ (q : Question) (within : length q.costs ≤ q.cnf.vars) where
  pub cost-least : (from top : ℕ) → from ≤ top → Some from ≡ least_under q → NextCost q from top (Some from)
  cost-least from top le e = record { low = omega arith; high = le; some = least-shown q within from (sym e); bound = λ h s. shows-low q within from top h s }

  pub cost-found : (from top : ℕ) (bits : List Bool) (r : Option ℕ) → LeastFrom q [] from top bits r → NextCost q from top r
  cost-found from top bits None none = λ h s. absurd (let no : true ≡ false = none s.bits s.meets.fits s.meets.low_is s.meets.high_is in cc)
  cost-found from top bits (Some c) l = record {
    low = l.low;
    high = l.high;
    some = record { state = take (length q.costs) bits; is = record { bits = bits; meets = record { fits = l.fits; low_is = omega (arith, l.costs); high_is = omega (arith, l.costs) }; begins = refl } };
    bound = λ h s. subst (λ k. c ≤ cost q.costs k) s.begins (l.bound s.bits s.meets.fits refl s.meets.low_is);
  }

  -- ---- after a point

  module _ (n : ℕ) (e : least_under q ≡ Some n) (top : ℕ) where
    -- no listed state has the point's cost
    pub same-out : (point old : List Bool) → (cost q.costs point < n) ⊎ (top < cost q.costs point) → FindsSame q top point false old old
    same-out point old out = (
      refl,
      λ h l. ⊎_elim
          (λ lt. lt)
          (λ b. ⊎_elim
          (λ lt. absurd (omega (arith, lt, b.0, least-low q within n e h (shows-in q within 0 top h l.0))))
          (λ gt. absurd (omega (arith, gt, b.0, shows-high q within 0 top h l.0)))
          out)
          (before-cases q.costs point h l.1),
    )

    level-alike : (P Q : List Bool → Type 0) (r : Option ℕ) (old new : List Bool) → ((h : List Bool) → P h → Q h) → ((h : List Bool) → Q h → P h) → FindsLevel q.costs P r old new → FindsLevel q.costs Q r old new
    level-alike P Q None old new to from f = (f.0, λ h x. f.1 h (from h x))
    level-alike P Q (Some c) old new to from f = (record { meets = to new f.0.meets; before = λ k x. f.0.before k (from k x) }, f.1)

    pub level-first : (r : Option ℕ) (old new : List Bool) → FindsLevel q.costs (λ h. Shows q n top h) r old new → FindsLevel q.costs (Later q top None) r old new
    level-first r old new f = level-alike (λ h. Shows q n top h) (Later q top None) r old new
        (λ h s. (shows-other q n top 0 top h s (omega arith) (shows-high q within n top h s), refl))
        (λ h l. shows-other q 0 top n top h l.0 (least-low q within n e h (shows-in q within 0 top h l.0)) (shows-high q within 0 top h l.0)) f

    pub level-later : (point : List Bool) (from : ℕ) (r : Option ℕ) (old middle new : List Bool) → from ≡ max n (cost q.costs point + 1) → FindsSame q top point false old middle
        → FindsLevel q.costs (λ h. Shows q from top h) r middle new → FindsLevel q.costs (Later q top (Some point)) r old new
    level-later point from r old middle new is same f = level-alike (λ h. Shows q from top h) (Later q top (Some point)) r old new
        (λ h s. (shows-other q from top 0 top h s (omega arith) (shows-high q within from top h s), cheaper-before q.costs point h (omega (arith, is, shows-low q within from top h s))))
        (λ h l. shows-other q 0 top from top h l.0 (omega (arith, is, same.1 h l, least-low q within n e h (shows-in q within 0 top h l.0))) (shows-high q within 0 top h l.0))
        (subst (λ k. FindsLevel q.costs (λ h. Shows q from top h) r k new) same.0 f)

  -- ---- the answers

  module _ (top : ℕ) (point : Option (List Bool)) where
    listed-in : (h : List Bool) → Shows q 0 top h → In h (levels q.costs top (models q))
    listed-in h s = some_levels-has q.costs (models q) 0 (top + 1) h (shows-in q within 0 top h s) (omega arith) (omega (arith, shows-high q within 0 top h s))

    in-listed : (h : List Bool) → In h (levels q.costs top (models q)) → Shows q 0 top h
    in-listed h m = let r = some_levels-in q.costs (models q) 0 (top + 1) h m in in-shows q within 0 top h r.0 (omega arith) (omega (arith, r.1.1))

    later-in : (h : List Bool) → Later q top point h → In h (later_levels q top point)
    later-in h l = by_point point l where
      by_point : (o : Option (List Bool)) → Later q top o h → In h (later_levels q top o)
      by_point None l = listed-in h l.0
      by_point (Some p) l = In-filtered (is_level_before q.costs p) h (levels q.costs top (models q)) (listed-in h l.0) l.1

    in-later : (h : List Bool) → In h (later_levels q top point) → Later q top point h
    in-later h m = by_point point m where
      by_point : (o : Option (List Bool)) → In h (later_levels q top o) → Later q top o h
      by_point None m = (in-listed h m, refl)
      by_point (Some p) m = let r = In-filter (is_level_before q.costs p) h (levels q.costs top (models q)) m in (in-listed h r.0, r.1)

    rising : Rising q.costs (later_levels q top point)
    rising = by_point point where
      all : Rising q.costs (levels q.costs top (models q))
      all = Rising-levels q.costs (models q) 0 (top + 1) (Sorted-models q within)

      by_point : (o : Option (List Bool)) → Rising q.costs (later_levels q top o)
      by_point None = all
      by_point (Some p) = Rising-filter q.costs (is_level_before q.costs p) (levels q.costs top (models q)) all

    none-later : (old new : List Bool) → FindsLevel q.costs (Later q top point) None old new → later_levels q top point ≡ []
    none-later old new f = empty-none (later_levels q top point) (λ h m. f.1 h (in-later h m))

    pub next-level : (r : Option ℕ) (old new : List Bool) → FindsLevel q.costs (Later q top point) r old new → new ≡ get_or (later_levels q top point) 0 old
    next-level None old new f = f.0 ∙ sym (ap (λ hs. get_or hs 0 old) (none-later old new f))
    next-level (Some c) old new f = sym (first-rising q.costs (later_levels q top point) new old rising (later-in new f.0.meets) (λ k m. f.0.before k (in-later k m)))

    end-step : (n : ℕ) (ms : List (List Bool)) → least q.costs ms ≡ Some n → End ≡ level_step q.costs ms []
    end-step n ms e = grind arith

    found-step : (ms later : List (List Bool)) (h : List Bool) → In h ms → In h later → Found (cost q.costs (get_or later 0 h)) ≡ level_step q.costs ms later
    found-step ms later h m k = grind arith

    pub step-end : (n : ℕ) (old new : List Bool) → least_under q ≡ Some n → FindsLevel q.costs (Later q top point) None old new → End ≡ level_step q.costs (models q) (later_levels q top point)
    step-end n old new e f = end-step n (models q) e ∙ ap (level_step q.costs (models q)) (sym (none-later old new f))

    pub step-found : (c : ℕ) (old new : List Bool) → FindsLevel q.costs (Later q top point) (Some c) old new → Found c ≡ level_step q.costs (models q) (later_levels q top point)
    step-found c old new f =
        ap Found (sym f.1 ∙ ap (cost q.costs) (next-level (Some c) new new f)) ∙ found-step (models q) (later_levels q top point) new (shows-in q within 0 top new f.0.meets.0) (later-in new f.0.meets)

-- ---- no state

no-levels : (q : Question) (top : ℕ) → least_under q ≡ None → levels q.costs top (models q) ≡ []
no-levels q top e = empty-none (levels q.costs top (models q)) (λ h m. subst (λ hs. In h hs) (least-none q.costs (models q) e) (some_levels-in q.costs (models q) 0 (top + 1) h m).0)

pub none-level : (q : Question) (top : ℕ) (point : Option (List Bool)) (d : List Bool) → least_under q ≡ None → d ≡ get_or (later_levels q top point) 0 d
none-level q top None d e = sym (ap (λ hs. get_or hs 0 d) (no-levels q top e))
none-level q top (Some p) d e = sym (ap (λ hs. get_or (filter (is_level_before q.costs p) hs) 0 d) (no-levels q top e))

pub step-none : (q : Question) (later : List (List Bool)) → least_under q ≡ None → Inconsistent ≡ level_step q.costs (models q) later
step-none q later e = simp (least-none q.costs (models q) e)
