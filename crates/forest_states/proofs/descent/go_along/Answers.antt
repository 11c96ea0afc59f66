use Rattle.std.proofs.Common.{◌≡◌, ◌+◌, ◌++◌, [], ◌∷◌, true, false, map, length, drop, reverse, replicate, refl, Ok, ap, sym, ◌∙◌, arith}
use Rattle.std.proofs.lemmas.Bool.{false≢true}
use Rattle.std.proofs.lemmas.List.{length-map, length-set, length-replicate}
use Rattle.forest_states.specs.inner.Descents.{stand_of, step_at, forks_below, stands_below}
use Rattle.forest_states.proofs.Numbers.{IsIndex}
use Rattle.forest_states.proofs.ClausesByVariable.{index-is}
use Rattle.elimination_forests.specs.Forests.{has_way, leads_on}
use Rattle.forest_states.proofs.Mapped.{leads-push, if-some}
use Rattle.forest_states.proofs.WayDown.{next-is, way-next, way-past, way-last, way-begun}
use Rattle.forest_states.proofs.descent.go_along.Goals as goal
use Rattle.forest_states.proofs.descent.go_along.Goals.{then-keep+in_ok-add_forks, else-keep}

pub loop-at-init : goal.loop-at-init
loop-at-init c =
    let size : c.len.result ≡ length c.in_ok-of.of.items = omega (arith, c.len.ensures, c.in_ok-of.of.ok.0) in
    record {
      within = omega (arith, c.in_ok-frontier.ensures.sum, c.if-top-eq0.false);
      size = ap length c.in_ok-frontier.ensures.seen ∙ length-replicate c.len.result false ∙ size;
      same = c.in_ok-frontier.ensures.numbers ∙ size;
      way = λ forest e is. (
        [],
        (λ _. c.new-forks.ensures.items),
        refl,
        way-begun c.args.weight c.args.cnf.now c.in_ok-of.ensures.valid forest is (length c.in_ok-of.of.items) c.args.steps.now c.in_ok-frontier.frontier.seen.items c.in_ok-frontier.frontier.sum _ e
            (c.in_ok-frontier.ensures.seen ∙ ap (λ n. replicate n false) size) c.in_ok-frontier.ensures.sum (ap (λ ps. reverse (map stand_of ps)) c.in_ok-frontier.ensures.pending),
      );
    }

pub loop-at-preserved : goal.loop-at-preserved
loop-at-preserved c =
    let steps = c.args.steps.now in
    let clauses = c.args.cnf.now.clauses in
    let of = map (λ v. v.items) c.in_ok-of.of.items in
    let seen = c.loop-at.frontier.seen.items in
    let numbers = c.loop-at.frontier.numbers.items in
    let known : IsIndex c.args.cnf.now.clauses (map (λ v. v.items) c.in_ok-of.of.items) (length c.loop-at.frontier.seen.items) =
    index-is c.args.cnf.now c.in_ok-of.ensures.valid of (length seen) (length-map c.in_ok-of.of.items (λ v. v.items) ∙ c.in_ok-of.ensures.long) (c.loop-at.invariant.size ∙ c.in_ok-of.ensures.long) c.in_ok-of.ensures.of in
    let of_is = ap (map (λ v. v.items)) c.as_slice.ensures.value in
    let sizes = c.loop-at.invariant.same ∙ sym c.loop-at.invariant.size in
    record {
      within = if-some _ _ _ c.in-Some.is c.in_ok-found.ensures.within;
      size = ap length (if-some _ _ _ c.in-Some.is c.in_ok-found.ensures.seen) ∙ length-set seen (step_at steps c.loop-at.at).var true ∙ c.loop-at.invariant.size;
      same = if-some _ _ _ c.in-Some.is c.in_ok-found.ensures.numbers ∙ c.loop-at.invariant.same;
      way = λ forest e is.
          let before = c.loop-at.invariant.way forest e is in
          let p = next-is (reverse (map stand_of c.loop-at.frontier.pending.items)) in
          let f = forks_below clauses of seen numbers (step_at steps c.loop-at.at) (drop (c.loop-at.at + 1) steps) p.0 in
          let f_is = ap (λ o. forks_below clauses o seen numbers (step_at steps c.loop-at.at) (drop (c.loop-at.at + 1) steps) p.0) of_is in (
            before.0 ++ f ∷ [],
            (λ keep. elim c.if-keep.branch [
              | then-keep+in_ok-add_forks w ↦ ap (λ fs. fs.items) w.forks-is ∙ w.in_ok-add_forks.ensures ∙ (λ j. before.1 keep j ++ (if-some _ _ _ c.in-Some.is c.in_ok-found.ensures.forks p.0 p.1 p.2 keep ∙ f_is) j ∷ [])
              | else-keep w ↦ absurd (false≢true (sym w.if-keep.false ∙ keep))
            ]),
            (if-some _ _ _ c.in-Some.is c.in_ok-found.ensures.way p.0 p.1 p.2 ∙ ap has_way f_is ∙ sym (leads-push before.0 f)),
            (way-next c.args.weight steps clauses of seen known numbers sizes forest c.loop-at.at before.0 c.loop-at.frontier.sum _ c.loop-at-test.true before.3 _ _ _ (if-some _ _ _ c.in-Some.is c.in_ok-found.ensures.seen)
                (if-some _ _ _ c.in-Some.is c.in_ok-found.ensures.sum)
                (λ s stands h. if-some _ _ _ c.in-Some.is c.in_ok-found.ensures.pending s stands h ∙ (λ j. stands_below clauses (of_is j) seen numbers (step_at steps c.loop-at.at) (drop (c.loop-at.at + 1) steps) s ++ stands))),
          );
    }

pub returns-in_default-clause-above : goal.returns-in_default-clause-above
returns-in_default-clause-above c _ forest e is =
    let steps = c.args.steps.now in
    let clauses = c.args.cnf.now.clauses in
    let of = map (λ v. v.items) c.in_ok-of.of.items in
    let seen = c.loop-at.frontier.seen.items in
    let numbers = c.loop-at.frontier.numbers.items in
    let known : IsIndex c.args.cnf.now.clauses (map (λ v. v.items) c.in_ok-of.of.items) (length c.loop-at.frontier.seen.items) =
    index-is c.args.cnf.now c.in_ok-of.ensures.valid of (length seen) (length-map c.in_ok-of.of.items (λ v. v.items) ∙ c.in_ok-of.ensures.long) (c.loop-at.invariant.size ∙ c.in_ok-of.ensures.long) c.in_ok-of.ensures.of in
    let sizes = c.loop-at.invariant.same ∙ sym c.loop-at.invariant.size in
    let before = c.loop-at.invariant.way forest e is in
    way-past c.args.weight steps clauses of seen known numbers sizes forest c.loop-at.at before.0 c.loop-at.frontier.sum _ c.loop-at-test.true before.3 c.args.top
    (λ s stands h. c.in_ok-found.ensures.above (ap (λ o. Ok o) c.in_default.is) s stands h)

pub returns-clause-forks : goal.returns-clause-forks
returns-clause-forks c forest e is keep =
    let way = c.loop-at.invariant.way forest e is in
    way.1 keep ∙ (way-last c.args.weight c.args.steps.now c.args.cnf.now.clauses forest c.loop-at.at c.loop-at.frontier.seen.items way.0 c.loop-at.frontier.sum _ way.3 c.loop-at-test.false).0

pub returns-clause-sum : goal.returns-clause-sum
returns-clause-sum c forest e is =
    let way = c.loop-at.invariant.way forest e is in
    (way-last c.args.weight c.args.steps.now c.args.cnf.now.clauses forest c.loop-at.at c.loop-at.frontier.seen.items way.0 c.loop-at.frontier.sum _ way.3 c.loop-at-test.false).1

pub returns-clause-leads_on : goal.returns-clause-leads_on
returns-clause-leads_on c forest e is =
    let way = c.loop-at.invariant.way forest e is in
    way.2 ∙ ap leads_on (way-last c.args.weight c.args.steps.now c.args.cnf.now.clauses forest c.loop-at.at c.loop-at.frontier.seen.items way.0 c.loop-at.frontier.sum _ way.3 c.loop-at-test.false).0
