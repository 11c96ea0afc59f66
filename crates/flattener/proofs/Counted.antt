-- The counts of a block are those of each of its instances.
use Rattle.std.proofs.Common.{◌≡◌, ℕ, ◌+◌, ◌≤◌, true, List, [], ◌∷◌, ◌++◌, length, get_or, take, drop, fold, refl, sym, ap, subst, ◌∙◌, arith}
use Rattle.std.specs.Prelude.{max}
use Rattle.std.specs.List.{flat_map, list_all}
use Rattle.std.proofs.lemmas.List.{append_assoc, append-nil, take-append-drop, length-append, length-map}
use Rattle.text_rules.specs.Names.{Name}
use Rattle.state_rules.specs.Values.{values}
use Rattle.component_lang.specs.declared.design.UsedKind.{UsedKind}
use Rattle.component_lang.specs.declared.design.UsedKind.TheVariants.{Gate, Shape as OfShape, Block as OfBlock}
use Rattle.component_lang.specs.declared.design.Used.{Used}
use Rattle.component_lang.specs.declared.design.Shape.{Shape}
use Rattle.component_lang.specs.declared.design.Block.{Block}
use Rattle.component_lang.specs.Designs.{is_used, is_block, are_blocks}
use Rattle.flattener.specs.declared.counting.Counts.{Counts}
use Rattle.flattener.specs.Flat.{below, saturated}
use Rattle.flattener.specs.inner.Counting.{no_counts, longest_of, counts_of_wires, added, counts_of_part, below_name, counts_of_instance, counts_of_kind, counts_of_used, counts_of_block}
use Rattle.flattener.proofs.PathNames.{Plain, AllSome, AllSome-append, AllSome-below, AllSome-right, AllSome-plain, lift, longest-append, longest-below}
use Rattle.flattener.proofs.Relative.{Which, Parts, Wires, Instances, Inner, no_names, wires_only, own_names, part_named, instance_named, kind_names, names_used, names_in, GoodUsed-from_test, GoodBlock-from_test}
use Rattle.flattener.proofs.Values.{values-both}
use Rattle.std.proofs.lemmas.Bool.Decides.{nat_tests}

abbrev pub longest_in : Inner → ℕ
longest_in inner = max (longest_of (inner Parts)) (max (longest_of (inner Wires)) (longest_of (inner Instances)))

abbrev pub joined : Inner → Inner → Inner
joined a b which = a which ++ b which

pub record Counted (counts : Counts) (inner : Inner) : Type 0 where
  pub parts : counts.parts ≡ saturated (length (inner Parts))
  pub wires : counts.wires ≡ saturated (length (inner Wires))
  pub instances : counts.instances ≡ saturated (length (inner Instances))
  pub longest : counts.longest ≡ saturated (longest_in inner)
  pub some : (which : Which) → AllSome (inner which)

pub Counted-none : Counted no_counts no_names
Counted-none = record { parts = refl; wires = refl; instances = refl; longest = refl; some = λ which. tt }

pub Counted-wires : (wires : List Name) → AllSome wires → Counted (counts_of_wires wires) (wires_only wires)
Counted-wires wires h = grind arith

sum_saturated : (a b c : ℕ) → c ≡ a + b → saturated (saturated a + saturated b) ≡ saturated c
sum_saturated a b c e = omega arith

pub Counted-added : (a b : Counts) (r s : Inner) → Counted a r → Counted b s → Counted (added a b) (joined r s)
Counted-added a b r s h g = grind (arith, longest-append, AllSome-append, sum_saturated, length-append)

Counted-part : (name : Name) → Plain name → Counted (counts_of_part name) (part_named name)
Counted-part name p = grind arith

below_saturated : (n c l : ℕ) → n ≤ 64 → c ≡ saturated l → below_name n c ≡ saturated (max n (lift n l))
below_saturated n c l h e = grind arith

Counted-instance : (name : Name) (c : Counts) (inner : Inner) → Plain name → Counted c inner → Counted (counts_of_instance name c) (instance_named name inner)
Counted-instance name c inner p h = record {
  parts = h.parts ∙ ap saturated (sym (length-map (inner Parts) (below name)));
  wires = h.wires ∙ ap saturated (sym (length-map (inner Wires) (below name)));
  instances = (let e = length-map (inner Instances) (below name) in let f = h.instances in omega arith);
  longest = below_saturated (length name) c.longest (longest_in inner) p.few h.longest ∙ ap saturated over;
  some = some_of;
}
  where
    over : max (length name) (lift (length name) (longest_in inner)) ≡ longest_in (instance_named name inner)
    over = grind (arith, longest-below)

    some_of : (which : Which) → AllSome (instance_named name inner which)
    some_of Parts = AllSome-below name (inner Parts) p.some
    some_of Wires = AllSome-below name (inner Wires) p.some
    some_of Instances = (p.some, AllSome-below name (inner Instances) p.some)

module _ (counts : List Counts) (inners : List Inner) (h : (j : ℕ) → Counted (get_or counts j no_counts) (get_or inners j no_names)) where
  Counted-kind : (name : Name) (kind : UsedKind) → Plain name → Counted (counts_of_kind counts name kind) (kind_names inners name kind)
  Counted-kind name (Gate g) p = Counted-part name p
  Counted-kind name (OfShape t) p = Counted-part name p
  Counted-kind name (OfBlock b) p = Counted-instance name (get_or counts b no_counts) (get_or inners b no_names) p (h b)

  Counted-all : (types : List Shape) (above : List Block) (wires : ℕ) (us : List Used) (c : Counts) (r : Inner) → list_all (is_used types above wires) us ≡ true → Counted c r
      → Counted (fold (λ counts_so_far used. added counts_so_far (counts_of_used counts used)) c us) (λ which. r which ++ flat_map (λ used. names_used inners used which) us)
  Counted-all types above wires [] c r good g = grind (arith, append-nil)
  Counted-all types above wires (u ∷ us) c r good g = grind (arith, nat_tests, Counted-kind, GoodUsed-from_test, Counted-added, append_assoc, Counted-all types above wires us (added c (counts_of_used counts u)) (joined r (names_used inners u)))

  Counted-block : (types : List Shape) (above : List Block) (block : Block) → is_block types above block ≡ true → Counted (counts_of_block block counts) (names_in block inners)
  Counted-block types above block good =
      let b = GoodBlock-from_test types above block good in
      let own = drop block.ports block.wires in
      let some = AllSome-right (take block.ports block.wires) own (subst AllSome (sym (take-append-drop block.ports block.wires)) (AllSome-plain block.wires b.plain)) in
      Counted-all types above (length block.wires) block.parts (counts_of_wires own) (own_names block) b.used (Counted-wires own some)

pub blocks-counted : (types : List Shape) (blocks : List Block) → are_blocks types [] blocks ≡ true
    → (j : ℕ) → Counted (get_or (values counts_of_block blocks) j no_counts) (get_or (values names_in blocks) j no_names)
blocks-counted types blocks good j =
    values-both types counts_of_block names_in no_counts no_names Counted Counted-none (λ above block cs inners g h. Counted-block cs inners h types above block g) blocks good j
