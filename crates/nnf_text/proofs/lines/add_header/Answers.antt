use Rattle.std.proofs.Common.{◌∷◌, [], codes, refl}
use Rattle.nnf_text.proofs.Extended.{extends_on}
use Rattle.nnf_text.proofs.LineTexts.{listed-spaced}
use Rattle.nnf_text.proofs.lines.add_header.Goals as goal

pub returns : goal.returns
returns g c = rw (← c.from.ensures, ← c.from-2.ensures, ← listed-spaced (codes "nnf") (c.from.result ∷ c.args.edges ∷ c.from-2.result ∷ [])) (extends_on _ _ _ _ _ _ _ _ _ c.add.ensures c.add_listed.ensures refl)
