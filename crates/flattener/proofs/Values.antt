-- Values of blocks, each from the values of the blocks before.
use Rattle.std.proofs.Common.{◌≡◌, ℕ, zero, suc, ◌<◌, true, List, [], ◌∷◌, ◌++◌, length, get_or, take, refl, sym, ap, ◌∙◌, arith}
use Rattle.std.proofs.lemmas.Bool.{and_parts}
use Rattle.std.proofs.lemmas.List.{append_assoc, append-nil, length_push}
use Rattle.state_rules.specs.Values.{values_after, values}
use Rattle.component_lang.specs.declared.design.Shape.{Shape}
use Rattle.component_lang.specs.declared.design.Block.{Block}
use Rattle.component_lang.specs.Designs.{is_block, are_blocks}

-- a property that each value has if those before have it, all have
module _ {A : Type 0} (types : List Shape) (f : Block → List A → A) (d : A) (P : A → Type 0) (start : P d)
    (step : (above : List Block) (block : Block) (es : List A) → is_block types above block ≡ true → ((j : ℕ) → P (get_or es j d)) → P (f block es)) where
  pushed : (es : List A) (x : A) → ((j : ℕ) → P (get_or es j d)) → P x → (j : ℕ) → P (get_or (es ++ x ∷ []) j d)
  pushed [] x h g zero = g
  pushed [] x h g (suc j) = start
  pushed (e ∷ es) x h g zero = h 0
  pushed (e ∷ es) x h g (suc j) = pushed es x (λ i. h (suc i)) g j

  holds_after : (above blocks : List Block) (es : List A) → are_blocks types above blocks ≡ true → ((j : ℕ) → P (get_or es j d)) → (j : ℕ) → P (get_or (values_after f es blocks) j d)
  holds_after above [] es a h j = h j
  holds_after above (b ∷ bs) es a h j = grind (arith, pushed, holds_after (above ++ b ∷ []) bs (es ++ f b es ∷ []))

  pub values-hold : (blocks : List Block) → are_blocks types [] blocks ≡ true → (j : ℕ) → P (get_or (values f blocks) j d)
  values-hold blocks a j = holds_after [] blocks [] a (λ i. start) j

-- the same for two lists of values
module _ {A B : Type 0} (types : List Shape) (f : Block → List A → A) (g : Block → List B → B) (d : A) (e : B) (R : A → B → Type 0) (start : R d e)
    (step : (above : List Block) (block : Block) (vs : List A) (bs : List B) → is_block types above block ≡ true → ((j : ℕ) → R (get_or vs j d) (get_or bs j e)) → R (f block vs) (g block bs)) where
  pushed_both : (vs : List A) (bs : List B) (x : A) (y : B) → length vs ≡ length bs → ((j : ℕ) → R (get_or vs j d) (get_or bs j e)) → R x y
      → (j : ℕ) → R (get_or (vs ++ x ∷ []) j d) (get_or (bs ++ y ∷ []) j e)
  pushed_both [] [] x y l h r j = grind arith
  pushed_both [] (b ∷ bs) x y l h r j = absurd (omega arith)
  pushed_both (a ∷ vs) [] x y l h r j = absurd (omega arith)
  pushed_both (a ∷ vs) (b ∷ bs) x y l h r zero = h 0
  pushed_both (a ∷ vs) (b ∷ bs) x y l h r (suc j) = pushed_both vs bs x y (omega arith) (λ i. h (suc i)) r j

  both_after : (above blocks : List Block) (vs : List A) (bs : List B) → length vs ≡ length bs → are_blocks types above blocks ≡ true
      → ((j : ℕ) → R (get_or vs j d) (get_or bs j e)) → (j : ℕ) → R (get_or (values_after f vs blocks) j d) (get_or (values_after g bs blocks) j e)
  both_after above [] vs bs l a h j = h j
  both_after above (n ∷ ns) vs bs l a h j = grind (arith, length_push, pushed_both, both_after (above ++ n ∷ []) ns (vs ++ f n vs ∷ []) (bs ++ g n bs ∷ []))

  pub values-both : (blocks : List Block) → are_blocks types [] blocks ≡ true → (j : ℕ) → R (get_or (values f blocks) j d) (get_or (values g blocks) j e)
  values-both blocks a j = both_after [] blocks [] [] refl a (λ i. start) j

-- each block fits those before it
pub block_among : (types : List Shape) (above blocks : List Block) (k : ℕ) (d : Block) → are_blocks types above blocks ≡ true → k < length blocks
    → is_block types (above ++ take k blocks) (get_or blocks k d) ≡ true
block_among types above [] k d a l = absurd (omega arith)
block_among types above (b ∷ bs) zero d a l = grind (arith, append-nil)
block_among types above (b ∷ bs) (suc k) d a l =
    ap (λ (cs : List Block). is_block types cs (get_or bs k d)) (sym (append_assoc above (b ∷ []) (take k bs)))
    ∙ block_among types (above ++ b ∷ []) bs k d (and_parts (is_block types above b) (are_blocks types (above ++ b ∷ []) bs) a).1 (omega arith)

-- and so do the first `k` blocks
pub front_fits : (types : List Shape) (above blocks : List Block) (k : ℕ) → are_blocks types above blocks ≡ true → are_blocks types above (take k blocks) ≡ true
front_fits types above blocks zero a = grind arith
front_fits types above [] (suc k) a = refl
front_fits types above (b ∷ bs) (suc k) a = grind (arith, front_fits types (above ++ b ∷ []) bs k)
