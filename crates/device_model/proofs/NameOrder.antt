-- The order of names.
use Rattle.std.proofs.Common.{◌≡◌, true, false, sym, ap, subst, ◌∙◌, arith}
use Rattle.std.specs.Ordering.{nat_cmp, is_lt, is_eq, ordering_reverse}
use Rattle.std.specs.declared.cmp.Ordering.TheVariants.{Less, Equal, Greater}
use Rattle.std.specs.Cmp.Lexicographic.{slice_cmp}
use Rattle.std.proofs.lemmas.Bool.{false_from_ne_true}
use Rattle.std.proofs.lemmas.Cmp.{nat_list_cmp_total, tied_itself}
use Rattle.std.proofs.lemmas.Map.Text.{is_eq-slice_cmp}
use Rattle.std.proofs.lemmas.Slice.Eq.{bytes_eq-Decides}
use Rattle.text_rules.specs.Names.{Name, name_below, same_name}
use Rattle.text_rules.proofs.NameLemmas.{equal_if_same}

-- a name is before another
abbrev pub Below : Name → Name → Type 0
Below a b = slice_cmp nat_cmp a b ≡ Less

pub Below-trans : (a b c : Name) → Below a b → Below b c → Below a c
Below-trans a b c = nat_list_cmp_total.trans a b c

pub Below-irreflexive : (a : Name) → Below a a → ⊥
Below-irreflexive a h = let e = tied_itself nat_list_cmp_total a in cc

pub Below-asymmetric : (a b : Name) → Below a b → Below b a → ⊥
Below-asymmetric a b h g = Below-irreflexive a (Below-trans a b a h g)

-- the order of two names
pub data Compared (a b : Name) : Type 0 where
  same : a ≡ b → Compared a b
  below : Below a b → Compared a b
  above : Below b a → Compared a b

pub same_if_tied : (a b : Name) → slice_cmp nat_cmp a b ≡ Equal → a ≡ b
same_if_tied a b e = (bytes_eq-Decides a b).0 (sym (is_eq-slice_cmp a b) ∙ ap is_eq e)

pub above_if_greater : (a b : Name) → slice_cmp nat_cmp a b ≡ Greater → Below b a
above_if_greater a b e = nat_list_cmp_total.antisymm b a ∙ ap ordering_reverse e

pub compared : (a b : Name) → Compared a b
compared a b = grind (arith, same_if_tied, above_if_greater)

pub name_below-Below : (a b : Name) → Below a b → name_below a b ≡ true
name_below-Below a b h = ap is_lt h

pub name_below-above : (a b : Name) → Below b a → name_below a b ≡ false
name_below-above a b h = ap is_lt (nat_list_cmp_total.antisymm a b ∙ ap ordering_reverse h)

pub same_name-other : (a b : Name) → (a ≡ b → ⊥) → same_name a b ≡ false
same_name-other a b h = false_from_ne_true (same_name a b) (λ e. h (equal_if_same a b e))

pub same_name-below : (a b : Name) → Below a b → same_name a b ≡ false
same_name-below a b h = same_name-other a b (λ e. Below-irreflexive b (let P : Name → Type 0 = λ n. Below n b in subst P e h))

pub same_name-above : (a b : Name) → Below b a → same_name a b ≡ false
same_name-above a b h = same_name-other a b (λ e. Below-irreflexive b (let P : Name → Type 0 = λ n. Below b n in subst P e h))
