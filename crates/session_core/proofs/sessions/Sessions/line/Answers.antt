use Rattle.session_core.specs.Services.{shown_by}
use Rattle.std.proofs.Common.{◌∙◌, ap, subst, refl}
use Rattle.std.proofs.lemmas.Bool.{and_parts}
use Rattle.text_rules.specs.Names.{is_short_name}
use Rattle.script_lang.proofs.Asked.{is_well_named, is_well_asked}
use Rattle.script_lang.proofs.AskedLemmas.{well_asked}
use Rattle.script_lang.specs.Script.{asked, Line}
use Rattle.session_core.specs.Services.{exact_moves}
use Rattle.session_rules.specs.Carrying.{CarriesOut}
use Rattle.session_rules.proofs.Broken.{carries_one}
use Rattle.session_rules.proofs.Spellings.{replies_one}
use Rattle.session_core.proofs.sessions.Sessions.line.Goals as goal

pub ask-requires : goal.ask-requires
ask-requires g c =
    (and_parts (is_short_name c.in-Of.session.now) (is_well_named (asked c.in-Of.request))
    (ap is_well_asked (c.in-Of.ensures ∙ c.parse_line.ensures.means) ∙ well_asked c.args.line.now)).0

pub returns-in-Refused-clause-carried : goal.returns-in-Refused-clause-carried
returns-in-Refused-clause-carried g c =
    let old = (shown_by g.E.Engine.about c.args.self.now) in
    subst (λ (l : Line). CarriesOut old.table old.table (exact_moves old old.table l) (g.O.Sink.got c.args.out.now) (g.O.Sink.got c.put_line_refusal.new.out) c.put_line_refusal.result) (c.in-Refused.ensures ∙ c.parse_line.ensures.means)
    (carries_one _ _ _ _ _ _ (replies_one _ _ _ _ _ refl c.put_line_refusal.ensures.text) refl)
