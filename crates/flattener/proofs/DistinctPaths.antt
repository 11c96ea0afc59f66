-- No two parts and no two wires of an instance have the same path.
use Rattle.std.proofs.Common.{◌≡◌, ℕ, inl, inr, true, List, [], ◌∷◌, ◌++◌, length, get_or, take, drop, refl, sym, ap, subst, ◌∙◌, arith}
use Rattle.std.specs.Prelude.{◌==◌}
use Rattle.std.specs.List.{flat_map, list_any}
use Rattle.std.proofs.lemmas.List.{append_assoc, take-append-drop}
use Rattle.text_rules.specs.Names.{Name}
use Rattle.state_rules.specs.Values.{values}
use Rattle.state_rules.proofs.Members.{In, In-append, from_map}
use Rattle.device_model.proofs.SortedDevices.{list_all-among}
use Rattle.device_model.proofs.Apart.{Different, Different-append, Different-right}
use Rattle.component_lang.specs.declared.design.UsedKind.{UsedKind}
use Rattle.component_lang.specs.declared.design.UsedKind.TheVariants.{Gate, Shape as OfShape, Block as OfBlock}
use Rattle.component_lang.specs.declared.design.Used.{Used}
use Rattle.component_lang.specs.declared.design.Shape.{Shape}
use Rattle.component_lang.specs.declared.design.Block.{Block}
use Rattle.component_lang.specs.Designs.{is_used, are_blocks}
use Rattle.flattener.proofs.PathNames.{Plain, head_of, head_of-dotless, head_of-below, dot-below, Different-from_test, Different-below, Different-headed}
use Rattle.flattener.proofs.Relative.{Which, Parts, Wires, Inner, no_names, kind_names, names_used, names_in, GoodUsed-from_test, GoodBlock, GoodBlock-from_test}
use Rattle.flattener.proofs.Values.{values-hold}

pub record Differ (inner : Inner) : Type 0 where
  pub parts : Different (inner Parts)
  pub wires : Different (inner Wires)

module _ (inners : List Inner) (h : (j : ℕ) → Differ (get_or inners j no_names)) where
  -- the paths in a part of a block begin with its name
  headed : (which : Which) (name : Name) (kind : UsedKind) → Plain name → (n : Name) → In n (kind_names inners name kind which) → head_of n ≡ name
  headed which name kind p n m = grind (arith, head_of-dotless, from_map, head_of-below)

  parts-differ : (name : Name) (kind : UsedKind) → Different (kind_names inners name kind Parts)
  parts-differ name (Gate g) = ((λ m. m), tt)
  parts-differ name (OfShape t) = ((λ m. m), tt)
  parts-differ name (OfBlock b) = Different-below name (get_or inners b no_names Parts) (h b).parts

  wires-differ : (name : Name) (kind : UsedKind) → Different (kind_names inners name kind Wires)
  wires-differ name (Gate g) = tt
  wires-differ name (OfShape t) = tt
  wires-differ name (OfBlock b) = Different-below name (get_or inners b no_names Wires) (h b).wires

  dotted : (name : Name) (kind : UsedKind) → Plain name → (n : Name) → In n (kind_names inners name kind Wires) → list_any (λ b. b == 46) n ≡ true
  dotted name kind p n a = grind (arith, from_map, dot-below)

  all-dotted : (us : List Used) → ((u : Used) → In u us → Plain u.name) → (n : Name) → In n (flat_map (λ u. names_used inners u Wires) us) → list_any (λ b. b == 46) n ≡ true
  all-dotted [] p n a = absurd a
  all-dotted (u ∷ us) p n a = elim (In-append n (names_used inners u Wires) (flat_map (λ u. names_used inners u Wires) us) a) [
    | inl m ↦ dotted u.name u.kind (p u (inl refl)) n m
    | inr m ↦ all-dotted us (λ v k. p v (inr k)) n m
  ]

  module _ (types : List Shape) (above : List Block) (block : Block) (good : GoodBlock types above block) where
    plain : (u : Used) → In u block.parts → Plain u.name
    plain u m = (GoodUsed-from_test types above (length block.wires) u (list_all-among (is_used types above (length block.wires)) block.parts good.used u m)).plain

    inside-parts : Different (flat_map (λ u. names_used inners u Parts) block.parts)
    inside-parts = grind (arith, Different-headed, headed, plain, parts-differ, Different-from_test)

    -- all wires of a block, those passed to it included
    pub all-wires : Different (block.wires ++ flat_map (λ u. names_used inners u Wires) block.parts)
    all-wires = grind (arith, Different-append, Different-from_test, all-dotted, list_all-among, Different-headed, headed, plain, wires-differ)

    Differ-block : Differ (names_in block inners)
    Differ-block = record {
      parts = inside-parts;
      wires =
          let rest = flat_map (λ u. names_used inners u Wires) block.parts in
          let split = ap (λ ns. ns ++ rest) (sym (take-append-drop block.ports block.wires)) ∙ append_assoc (take block.ports block.wires) (drop block.ports block.wires) rest in
          Different-right (take block.ports block.wires) (drop block.ports block.wires ++ rest) (subst Different split all-wires);
    }

pub instances-differ : (types : List Shape) (blocks : List Block) → are_blocks types [] blocks ≡ true → (j : ℕ) → Differ (get_or (values names_in blocks) j no_names)
instances-differ types blocks good j =
    values-hold types names_in no_names Differ (record { parts = tt; wires = tt })
    (λ above block inners g h. Differ-block inners h types above block (GoodBlock-from_test types above block g)) blocks good j
