use Rattle.std.proofs.Common.{ap, ◌∙◌, refl}
use Rattle.node_store.specs.Stores.{Stored}
use Rattle.dnnf_compiler.proofs.Bare.{first_bare}
use Rattle.dnnf_compiler.proofs.MadeNodes.{new_maker}
use Rattle.dnnf_compiler.proofs.maker.Maker.new.Goals as goal

pub returns-clause-maker : goal.returns-clause-maker
returns-clause-maker c = new_maker _ _ _ _ _ c.in_ok-yes.ensures.made c.in_ok-yes.ensures.means c.in_ok-no.ensures.made c.in_ok-no.ensures.means c.in_ok-no.ensures.valid
    (first_bare c.args.vars _ _ _ _ _ (ap (λ (s : Stored). s.nodes) (c.reserve.ensures ∙ c.in_ok-store.ensures.literals)) c.in_ok-yes.ensures.made.nodes refl c.in_ok-no.ensures.made.nodes refl)
