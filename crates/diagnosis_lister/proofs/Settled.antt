-- The first of the states of least cost, as one open part after the other is fixed.
use Rattle.std.proofs.Common.{◌≡◌, ◌≢◌, ℕ, ◌+◌, ◌<◌, ◌≤◌, IsSome, All, List, length, get_or, set, arith}
use Rattle.state_rules.specs.Graphs.{Graph}
use Rattle.conditioner.specs.Models.{least_under}
use Rattle.minimiser.specs.LeastStates.{ModelWithin, LeastState, Suspect, OkBelow}
use Rattle.minimiser.proofs.Models.{LeastIs, least-passes, passes-least}
use Rattle.minimiser.proofs.SpreadMarks.{some-least}
use Rattle.diagnosis_lister.specs.inner.Fixing.{IsFirst, fixed_bits}
use Rattle.diagnosis_lister.proofs.Allowing.{allows-within}
use Rattle.diagnosis_lister.proofs.FixedParts.{FixesOk, Settles, Settles-start, settles-ok, settles-found, settles-end}
use Rattle.diagnosis_lister.proofs.FirstAndNext.{has-least, least-has, first-least}

-- the parts before one are fixed, and the least cost is as it was
pub record Settled (graph : Graph) (costs start evidence : List ℕ) (from : ℕ) : Type 0 where
  pub most : ℕ
  pub at_start : LeastIs graph costs start most
  pub now : LeastIs graph costs evidence most
  pub settles : Settles (λ ws h. ModelWithin graph ws costs most h) (length costs) start evidence from

module _ (graph : Graph) (costs start : List ℕ) (parts : length costs ≤ graph.vars) (long : length start ≡ graph.vars) where
  pub settled-start : (from : ℕ) → IsSome (least_under graph start costs) → ((k : ℕ) → k < from → get_or start k 0 ≢ 0) → Settled graph costs start start from
  settled-start from some front =
      let s = some-least (least_under graph start costs) some in
      record { most = s.0; at_start = s.1; now = s.1; settles = Settles-start _ _ start from front (has-least graph costs parts start s.0 s.1) }

  module _ (old : List ℕ) (from : ℕ) (s : Settled graph costs start old from) (new : List ℕ) (to : ℕ) (fixes : FixesOk old new from to) where
    pub settled-found : Suspect graph old costs to → OkBelow graph old costs to → Settled graph costs start (set new to 2) (to + 1)
    settled-found u ok =
        let t = settles-found (allows-within graph costs s.most parts) start long old from s.settles new to u.within fixes
        (λ k l lt free h p. ok k lt free h (passes-least graph old costs s.most h s.now p)) u.open_ u.state (least-passes graph old costs s.most u.state s.now u.is_least) u.faulty in
        record { most = s.most; at_start = s.at_start; now = least-has graph costs parts start (set new to 2) s.most long t.refines s.at_start t.some; settles = t }

    pub settled-end : to ≡ length costs → OkBelow graph old costs to → All (λ w. w < 3) new → IsFirst (LeastState graph start costs) (fixed_bits (length costs) new)
    settled-end all ok small =
        let allows = allows-within graph costs s.most parts in
        first-least graph start costs s.most _ s.at_start (settles-end allows start long new to
        (settles-ok allows start long old from s.settles new to (omega arith) fixes (λ k l lt free h p. ok k lt free h (passes-least graph old costs s.most h s.now p))) all (λ k h. small k 0 h))
