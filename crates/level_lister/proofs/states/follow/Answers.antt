use Rattle.std.proofs.Common.{◌≡◌, ◌+◌, ◌<◌, Bool, true, false, not, length, get_or, All, List, ℕ, refl, sym, ◌∙◌, ap, subst, arith}
use Rattle.std.specs.Prelude.{◌==◌}
use Rattle.std.proofs.lemmas.Bool.{eqb-true}
use Rattle.std.proofs.lemmas.List.Elements.{All-set}
use Rattle.state_rules.specs.Bits.{bit_in}
use Rattle.conditioner.specs.Evidence.{word_of, bits_of}
use Rattle.conditioner.proofs.FittingEvidence.{word_of-small}
use Rattle.conditioner.proofs.StateBits.{bit_in-bits}
use Rattle.diagnosis_lister.proofs.OpenMarks.{length-bits}
use Rattle.diagnosis_lister.proofs.Points.{FollowsTo, FollowsTo-set, FollowsTo-stay, Follows-all}
use Rattle.level_lister.proofs.states.follow.Goals as goal
use Rattle.level_lister.proofs.states.follow.Goals.{then-is_open, else-is_open+else-evidence-part}

own_bit : (state : List ℕ) (i : ℕ) → i < length state → (faulty : Bool) → faulty ≡ not (get_or state i 0 == 0) → not faulty ≡ bit_in (bits_of state) i
own_bit state i h faulty e = ap not e ∙ twice (get_or state i 0 == 0) ∙ sym (bit_in-bits state i h) where
  twice : (b : Bool) → not (not b) ≡ b
  twice true = refl
  twice false = refl

pub loop-part-preserved : goal.loop-part-preserved
loop-part-preserved c =
    let point = bits_of c.args.state.now in
    let i = c.loop-part.part in
    let word : c.word_of_known-word.result ≡ word_of (bit_in point i) = c.word_of_known-word.ensures ∙ ap word_of (own_bit c.args.state.now i c.loop-part-test.true c.is_faulty.result c.is_faulty.ensures) in
    let few : c.word_of_known-word.result < 3 = subst (λ (w : ℕ). w < 3) (sym word) (word_of-small (bit_in point i)) in
    elim c.if-is_open.branch [
      | then-is_open w ↦ record {
        small = subst (λ (ws : List ℕ). All (λ w. w < 3) ws) (sym w.evidence-is) (All-set (λ w. w < 3) c.loop-part.evidence i c.word_of_known-word.result few c.loop-part.invariant.small);
        follows = FollowsTo-set c.args.evidence.now point c.loop-part.evidence c.if-is_open.evidence i c.word_of_known-word.result (omega arith) c.loop-part.invariant.follows word
            (sym (c.loop-part.invariant.follows.behind i (omega arith)) ∙ eqb-true _ 0 (sym c.is_open.ensures ∙ w.if-is_open.true)) w.evidence-is;
      }
      | else-is_open+else-evidence-part w ↦ record {
        small = subst (λ (ws : List ℕ). All (λ w. w < 3) ws) (sym w.evidence-is) c.loop-part.invariant.small;
        follows = subst (λ (ws : List ℕ). FollowsTo c.args.evidence.now point ws (i + 1)) (sym w.evidence-is) (FollowsTo-stay c.args.evidence.now point c.loop-part.evidence i c.loop-part.invariant.follows (w.if-evidence-part.false ∙ word));
      }
    ]

pub returns-clause-follows : goal.returns-clause-follows
returns-clause-follows c =
    let all : c.loop-part.part ≡ length c.args.state.now = omega arith in
    Follows-all c.args.evidence.now (bits_of c.args.state.now) c.loop-part.evidence (length c.args.state.now) (sym (length-bits c.args.state.now))
    (rw all at c.loop-part.invariant.follows)
