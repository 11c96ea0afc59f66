use Rattle.std.proofs.Common.{sym, subst}
use Rattle.diag_edge.specs.Edge.{Puts}
use Rattle.text_rules.specs.Tokens.{spaced}
use Rattle.conditioner.specs.Evidence.{bits_of}
use Rattle.engines.specs.declared.listed.NextState.{NextState}
use Rattle.session_core.specs.inner.Texts.{next_text}
use Rattle.session_core.proofs.replies.put_next.Goals as goal

pub returns-in-Inconsistent-clause-text : goal.returns-in-Inconsistent-clause-text
returns-in-Inconsistent-clause-text g c =
    subst (λ (next : NextState). Puts (g.O.Sink.got c.args.out.now) (g.O.Sink.got c.put_line.new.out) c.put_line.result (spaced (next_text c.args.session.now c.args.parts.now next (bits_of c.args.state.now)))) (sym c.in-Inconsistent.is) c.put_line.ensures.bytes
