use Rattle.std.proofs.Common.{ℕ, Option, sym, subst}
use Rattle.diag_edge.specs.Edge.{Puts}
use Rattle.text_rules.specs.Tokens.{spaced}
use Rattle.conditioner.specs.Evidence.{bits_of}
use Rattle.session_core.specs.inner.Texts.{min_text}
use Rattle.session_core.proofs.replies.put_min.Goals as goal

pub returns-in-None-clause-text : goal.returns-in-None-clause-text
returns-in-None-clause-text g c =
    subst (λ (fewest : Option ℕ). Puts (g.O.Sink.got c.args.out.now) (g.O.Sink.got c.put_line.new.out) c.put_line.result (spaced (min_text c.args.session.now c.args.parts.now fewest (bits_of c.args.state.now)))) (sym c.in-None.is) c.put_line.ensures.bytes
