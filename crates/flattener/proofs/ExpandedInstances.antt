-- How parts and wires grow while an instance is expanded.
use Rattle.std.proofs.Common.{◌≡◌, ℕ, zero, suc, ◌+◌, ◌<◌, ◌≤◌, Bool, true, List, [], ◌∷◌, ◌++◌, map, length, get_or, take, drop, false, refl, sym, ap, subst, ◌∙◌, arith}
use Rattle.std.specs.Prelude.{◌==◌, slice_index, nat_lt, nat_le, Some, slice_get}
use Rattle.std.specs.List.{flat_map}
use Rattle.std.specs.Option.{option_map_or}
use Rattle.std.proofs.lemmas.Bool.{and_parts, ltb-true, leb-true, cases_lt}
use Rattle.std.proofs.lemmas.List.{append_assoc, append-nil, map-append, length-append, length-map, length-drop, take-append-drop, drop_more, take_more, take_all, get_or_default, get_or_append_left, get_or-append_right, get_or-map, get_or-take, length-take-le}
use Rattle.std.proofs.lemmas.List.Concat.{flat_map-append}
use Rattle.std.proofs.lemmas.Option.{slice_get_past}
use Rattle.std.proofs.lemmas.Simd.{map-map}
use Rattle.text_rules.specs.Names.{Name}
use Rattle.state_rules.specs.Values.{values}
use Rattle.state_rules.proofs.Values.{values-at, values-before}
use Rattle.state_rules.proofs.Lists.{list_all-at, list_all-both}
use Rattle.device_model.specs.declared.gates.Kind.{Kind}
use Rattle.device_model.specs.declared.gates.Kind.TheVariants.{Table}
use Rattle.device_model.specs.declared.component.Component.{Component}
use Rattle.device_model.specs.declared.limits.TheConstants.{WIRE_LIMIT, NAME_LIMIT}
use Rattle.device_model.specs.Building.{NamedPart}
use Rattle.component_lang.specs.declared.design.UsedKind.{UsedKind}
use Rattle.component_lang.specs.declared.design.UsedKind.TheVariants.{Gate, Shape as OfShape, Block as OfBlock}
use Rattle.component_lang.specs.declared.design.Used.{Used}
use Rattle.component_lang.specs.declared.design.Shape.{Shape}
use Rattle.component_lang.specs.declared.design.Block.{Block}
use Rattle.component_lang.specs.Designs.{Design, is_plain_name, is_design, are_blocks, is_used, takes_args}
use Rattle.flattener.specs.Flat.{Content, Instance, nothing, below, one_part, kind_content, used_content, instance}
use Rattle.flattener.specs.inner.Expanding.{CanExpand, Grows, wire_at, shown, are_joined, are_within, position_of, instance_at, are_short, paths_of, prefix_of, behind}
use Rattle.flattener.proofs.Lists.{all_parts, map_same}
use Rattle.flattener.proofs.PathNames.{map-behind}
use Rattle.flattener.proofs.Values.{block_among}
use Rattle.flattener.proofs.Relative.{Which, Parts, Wires, Instances, own_names, names_of, names-instance, GoodUsed, GoodUsed-from_test, GoodBlock, GoodBlock-from_test}

abbrev pub no_block : Block
no_block = record { name = []; ports = 0; wires = []; parts = [] }

-- ---- wires are only added

within_more : (m n : ℕ) (ps : List ℕ) → m ≤ n → are_within m ps ≡ true → are_within n ps ≡ true
within_more m n [] l h = refl
within_more m n (p ∷ ps) l h = grind (arith, within_more m n ps l)

shown_stay : (wires more : List Name) (parts : List Component) → are_joined wires parts ≡ true → map (shown (wires ++ more)) parts ≡ map (shown wires) parts
shown_stay wires more parts h = grind (arith, map_same, more, get_or_append_left, ltb-true)

joined_stay : (wires more : List Name) (parts : List Component) → are_joined wires parts ≡ true → are_joined (wires ++ more) parts ≡ true
joined_stay wires more [] h = refl
joined_stay wires more (p ∷ ps) h = grind (arith, within_more, length-append, joined_stay wires more ps)

-- two additions in a row
pub Grows-more : (parts : List Component) (wires : List Name) (c : Content) (parts1 : List Component) (wires1 : List Name) (d : Content) (parts2 : List Component) (wires2 : List Name) (e : Content)
    → Grows parts wires c parts1 wires1 → Grows parts1 wires1 d parts2 wires2 → e.wires ≡ c.wires ++ d.wires → e.parts ≡ c.parts ++ d.parts → Grows parts wires e parts2 wires2
Grows-more parts wires c parts1 wires1 d parts2 wires2 e h g ws ps = grind (arith, append_assoc)

-- one more part
pub Grows-part : (parts : List Component) (wires : List Name) (name : Name) (kind : Kind) (ports : List ℕ) → are_joined wires parts ≡ true → are_within (length wires) ports ≡ true
    → Grows parts wires (one_part name kind (map (wire_at wires) ports)) (parts ++ record { name = name; kind = kind; ports = ports } ∷ []) wires
Grows-part parts wires name kind ports h g = grind (arith, append-nil, map-append, list_all-both)

-- ---- positions

module _ (old own more : List Name) (passed : List ℕ) (within : are_within (length old) passed ≡ true) where
  pub record Named (wire : ℕ) : Type 0 where
    pub inside : position_of passed (length old) wire < length (old ++ (own ++ more))
    pub named : wire_at (old ++ (own ++ more)) (position_of passed (length old) wire) ≡ wire_at (map (wire_at old) passed ++ own) wire

  Named-first : (wire : ℕ) → wire < length passed → Named wire
  Named-first wire l = grind (arith, list_all-at, get_or_append_left, get_or-map, length-map, length-append, more)

  Named-own : (wire : ℕ) → length passed ≤ wire → wire < length passed + length own → Named wire
  Named-own wire l m = grind (arith, get_or_append_left, get_or-append_right, length-map, length-append, more)

  pub positions-named : (args : List ℕ) → are_within (length passed + length own) args ≡ true
      → map (wire_at (old ++ (own ++ more))) (map (position_of passed (length old)) args) ≡ map (wire_at (map (wire_at old) passed ++ own)) args
  positions-named args h = grind (arith, map-map, map_same, cases_lt, Named-first, Named-own)

  pub positions-within : (args : List ℕ) → are_within (length passed + length own) args ≡ true → are_within (length (old ++ (own ++ more))) (map (position_of passed (length old)) args) ≡ true
  positions-within [] h = refl
  positions-within (a ∷ args) h = grind (arith, positions-within args, cases_lt, Named-first, Named-own)

-- ---- short paths

abbrev pub is_short : Name → Bool
is_short name = nat_le (length name) NAME_LIMIT

pub short_each : (c : Content) → are_short (paths_of c) ≡ true → (which : Which) → are_short (names_of which c) ≡ true
short_each c h which = grind (arith, all_parts)

pub short_all : (c : Content) → ((which : Which) → are_short (names_of which c) ≡ true) → are_short (paths_of c) ≡ true
short_all c h = list_all-both is_short (names_of Parts c) (c.wires ++ c.instances) (h Parts) (list_all-both is_short c.wires c.instances (h Wires) (h Instances))

-- the path of a part is short if all names in it are
name_short : (above : List Instance) (kind : UsedKind) (path : Name) (passed : List Name) → ((which : Which) → are_short (names_of which (kind_content above kind path passed)) ≡ true) → length path ≤ NAME_LIMIT
name_short above kind path passed h = grind (arith, leb-true, h Parts, h Instances)

short_inside : (above : List Instance) (inner : ℕ) (path : Name) (passed : List Name) → ((which : Which) → are_short (names_of which (kind_content above (OfBlock inner) path passed)) ≡ true)
    → are_short (paths_of (get_or above inner nothing path passed)) ≡ true
short_inside above inner path passed h = grind (arith, short_all, h Parts, h Wires, h Instances)

-- ---- a block and the blocks before it

pub got : (blocks : List Block) (k : ℕ) → k < length blocks → slice_get blocks k ≡ Some (get_or blocks k no_block)
got [] k l = absurd (omega arith)
got (b ∷ bs) zero l = refl
got (b ∷ bs) (suc k) l = got bs k (omega arith)

pub ports_there : (blocks : List Block) (place : ℕ) → place < length blocks → slice_index (map (λ (b : Block). b.ports) blocks) place ≡ (get_or blocks place no_block).ports
ports_there blocks place l = get_or-map (λ (b : Block). b.ports) blocks place no_block 0 l

-- the block at `inner` comes before `place` and has `ports` ports
pub record IsBefore (blocks : List Block) (place inner ports : ℕ) : Type 0 where
  pub before : inner < place
  pub takes : ports ≡ (get_or blocks inner no_block).ports

module _ (types : List Shape) (blocks : List Block) (good : are_blocks types [] blocks ≡ true) (place : ℕ) (within : place < length blocks) where
  pub good_block : GoodBlock types (take place blocks) (get_or blocks place no_block)
  good_block = GoodBlock-from_test types (take place blocks) (get_or blocks place no_block) (block_among types [] blocks place no_block good within)

  pub before : (inner args : ℕ) → option_map_or (λ (b : Block). b.ports == args) (slice_get (take place blocks) inner) false ≡ true → IsBefore blocks place inner args
  before inner args h = grind (arith, length-take-le, got, get_or-take, slice_get_past)

  used-fixed : (path : Name) (wires : List Name) (used : Used) → is_used types (take place blocks) (length (get_or blocks place no_block).wires) used ≡ true
      → used_content (values instance (take place blocks)) path wires used ≡ used_content (values instance blocks) path wires used
  used-fixed path wires used h =
      by used.kind (and_parts _ _ (and_parts (is_plain_name used.name) _ h).1).0 (below path used.name) (map (λ wire. get_or wires wire []) used.args)
    where
      by : (kind : UsedKind) → takes_args types (take place blocks) kind (length used.args) ≡ true → (path : Name) (passed : List Name)
          → kind_content (values instance (take place blocks)) kind path passed ≡ kind_content (values instance blocks) kind path passed
      by (Gate gate) takes path passed = refl
      by (OfShape type) takes path passed = refl
      by (OfBlock inner) takes path passed =
          let b = before inner (length used.args) takes in
          ap (λ (made : Instance). let c = made path passed in record c { instances = path ∷ c.instances }) (values-before instance blocks place no_block within inner nothing b.before)

  pub fixed : (path : Name) (passed : List Name) → get_or (values instance blocks) place nothing path passed ≡ instance (get_or blocks place no_block) (values instance blocks) path passed
  fixed path passed =
      let block = get_or blocks place no_block in
      let own = map (below path) (drop block.ports block.wires) in
      let wires = passed ++ own in
      let at = values-at instance blocks place no_block within nothing in
      let same = map_same (is_used types (take place blocks) (length block.wires))
      (used_content (values instance (take place blocks)) path wires) (used_content (values instance blocks) path wires) (λ used h. used-fixed path wires used h) block.parts good_block.used in
      grind arith

-- ---- an instance that is being expanded

pub good_blocks : (design : Design) → is_design design ≡ true → are_blocks design.types [] design.blocks ≡ true
good_blocks design h = (and_parts (are_blocks design.types [] design.blocks) (nat_lt design.top (length design.blocks)) h).0

pub top_within : (design : Design) → is_design design ≡ true → design.top < length design.blocks
top_within design h = ltb-true design.top (length design.blocks) (and_parts (are_blocks design.types [] design.blocks) (nat_lt design.top (length design.blocks)) h).1

abbrev pub block_at : Design → ℕ → Block
block_at design place = get_or design.blocks place no_block

-- the content of an instance up to its first `count` parts
abbrev pub so_far : Design → ℕ → ℕ → Instance
so_far design place count =
    let block = block_at design place in instance (record block { parts = take count block.parts }) (values instance design.blocks)

-- `used` is part `i` of the block at `place`
pub record IsPart (design : Design) (place i : ℕ) (used : Used) : Type 0 where
  pub inside : i < length (block_at design place).parts
  pub is : used ≡ get_or (block_at design place).parts i used

module _ {design : Design} {place : ℕ} {path : Name} {passed : List ℕ} {old : List Name} (can : CanExpand design place path passed old) where
  good : are_blocks design.types [] design.blocks ≡ true
  good = good_blocks design can.valid

  good_here : GoodBlock design.types (take place design.blocks) (block_at design place)
  good_here = good_block design.types design.blocks good place can.there

  abbrev names : List Name
  names = map (wire_at old) passed

  abbrev own : List Name
  own = map (below path) (drop (block_at design place).ports (block_at design place).wires)

  abbrev content : Used → Content
  content = used_content (values instance design.blocks) path (names ++ own)

  abbrev whole : Content
  whole = instance (block_at design place) (values instance design.blocks) path names

  whole_is : instance_at design place path names ≡ whole
  whole_is = fixed design.types design.blocks good place can.there path names

  ports_first : length passed ≡ (block_at design place).ports
  ports_first = can.ports ∙ ports_there design.blocks place can.there

  short_whole : are_short (paths_of whole) ≡ true
  short_whole = ap (λ (c : Content). are_short (paths_of c)) (sym whole_is) ∙ can.short

  own_many : length passed + length own ≡ length (block_at design place).wires
  own_many = grind (arith, length-map, length-drop, good_here, ports_first)

  own_few : length own ≤ WIRE_LIMIT
  own_few = grind (arith, length-append, whole_is)

  -- ---- what the code reads

  pub block_read : {blocks : List Block} {block : Block} → blocks ≡ design.blocks → block ≡ get_or blocks place block → block ≡ block_at design place
  block_read {blocks = blocks} {block = block} e h = grind (arith, get_or_default)

  pub part_read : {block : Block} {items : List Used} {i : ℕ} {used : Used} → block ≡ block_at design place → items ≡ block.parts → i < length items → used ≡ get_or items i used
      → IsPart design place i used
  part_read {block = block} {items = items} {i = i} {used = used} b e l h = grind arith

  -- ---- before the parts

  pub own_short : are_short own ≡ true
  own_short = (all_parts is_short own (flat_map (λ (c : Content). c.wires) (map content (block_at design place).parts)) (short_each whole short_whole Wires)).0

  pub start_grows : (parts : List Component) (wires added : List Name) → are_joined old parts ≡ true → wires ≡ old ++ added → added ≡ own → Grows parts old (so_far design place 0 path names) parts wires
  start_grows parts wires added h g f = grind (arith, append-nil, shown_stay, joined_stay)

  -- ---- after all of them

  pub all_grow : (old_parts parts : List Component) (wires : List Name) (i : ℕ) → length (block_at design place).parts ≤ i
      → Grows old_parts old (so_far design place i path names) parts wires → Grows old_parts old (instance_at design place path names) parts wires
  all_grow old_parts parts wires i l h = grind (arith, take_all, whole_is)

  -- ---- what a part adds to the parts before it

  module _ {i : ℕ} {used : Used} (part : IsPart design place i used) where
    abbrev done : List Used
    done = take i (block_at design place).parts

    abbrev left : List Used
    left = drop (i + 1) (block_at design place).parts

    one_more : take (i + 1) (block_at design place).parts ≡ done ++ used ∷ []
    one_more = take_more (block_at design place).parts i used part.inside ∙ ap (λ (u : Used). done ++ u ∷ []) (sym part.is)

    cut : (block_at design place).parts ≡ done ++ (used ∷ left)
    cut = sym (take-append-drop i (block_at design place).parts) ∙ ap (λ us. done ++ us) (drop_more (block_at design place).parts i used part.inside ∙ ap (λ (u : Used). u ∷ left) (sym part.is))

    more : {A : Type 0} (f : Content → List A) → flat_map f (map content (take (i + 1) (block_at design place).parts)) ≡ flat_map f (map content done) ++ f (content used)
    more f = grind (arith, one_more, map-append, flat_map-append, append-nil)

    pub parts-more : (so_far design place (i + 1) path names).parts ≡ (so_far design place i path names).parts ++ (content used).parts
    parts-more = more (λ (c : Content). c.parts)

    pub wires-more : (so_far design place (i + 1) path names).wires ≡ (so_far design place i path names).wires ++ (content used).wires
    wires-more = ap (λ ns. own ++ ns) (more (λ (c : Content). c.wires)) ∙ sym (append_assoc own (flat_map (λ (c : Content). c.wires) (map content done)) (content used).wires)

    -- the parts up to this one have at most all the wires
    pub few-wires : length (so_far design place i path names).wires + length (content used).wires ≤ length whole.wires
    few-wires = grind (arith, length-append, cut, map-append, flat_map-append, append_assoc)

    -- its paths are short if all are
    pub short-used : (which : Which) → are_short (names_of which whole) ≡ true → are_short (names_of which (content used)) ≡ true
    short-used which h =
        let g = λ (u : Used). names_of which (content u) in
        let block = block_at design place in
        let split = names-instance which block (values instance design.blocks) path names in
        let outer = map (below path) (own_names block which) in
        let all = ap are_short (sym split) ∙ h in
        let inner = (all_parts is_short outer (flat_map g block.parts) all).1 in
        let pieces = ap (flat_map g) cut ∙ flat_map-append g done (used ∷ left) in
        let two = (all_parts is_short (flat_map g done) (flat_map g (used ∷ left)) (ap are_short (sym pieces) ∙ inner)).1 in
        (all_parts is_short (g used) (flat_map g left) two).0

    good_used : GoodUsed design.types (take place design.blocks) (length (block_at design place).wires) used
    good_used = GoodUsed-from_test design.types (take place design.blocks) (length (block_at design place).wires) used
        (ap (is_used design.types (take place design.blocks) (length (block_at design place).wires)) part.is
        ∙ list_all-at (is_used design.types (take place design.blocks) (length (block_at design place).wires)) (block_at design place).parts i used good_here.used part.inside)

    args_good : are_within (length passed + length own) used.args ≡ true
    args_good = ap (λ n. are_within n used.args) own_many ∙ good_used.within

    pub args_few : are_within (length passed + WIRE_LIMIT) used.args ≡ true
    args_few = within_more (length passed + length own) (length passed + WIRE_LIMIT) used.args (let e = own_few in omega arith) args_good

    pub path_short : length (below path used.name) ≤ NAME_LIMIT
    path_short = name_short (values instance design.blocks) used.kind (below path used.name) (map (wire_at (names ++ own)) used.args)
        (λ which. short-used which (short_each whole short_whole which))

    module _ {old_parts parts : List Component} {wires : List Name} (grown : Grows old_parts old (so_far design place i path names) parts wires) where
      pub ports_named : map (wire_at wires) (map (position_of passed (length old)) used.args) ≡ map (wire_at (names ++ own)) used.args
      ports_named = grind (arith, positions-named, args_good)

      pub ports_within : are_within (length wires) (map (position_of passed (length old)) used.args) ≡ true
      ports_within = grind (arith, positions-within, args_good)

      pub few_used : length wires + length (content used).wires ≤ WIRE_LIMIT
      few_used = grind (arith, length-append, few-wires, whole_is)

      -- after a gate or a part of a type
      part_grows : (kind : Kind) (more_parts : List Component) → content used ≡ one_part (below path used.name) kind (map (wire_at (names ++ own)) used.args)
          → more_parts ≡ parts ++ record { name = below path used.name; kind = kind; ports = map (position_of passed (length old)) used.args } ∷ []
          → Grows old_parts old (so_far design place (i + 1) path names) more_parts wires
      part_grows kind more_parts e is =
          let ports_now = map (position_of passed (length old)) used.args in
          let c = one_part (below path used.name) kind (map (wire_at wires) ports_now) in
          let same : content used ≡ c = e ∙ ap (one_part (below path used.name) kind) (sym ports_named) in
          let last = Grows-part parts wires (below path used.name) kind ports_now grown.joined ports_within in
          let P : List Component → Type 0 = λ ps. Grows old_parts old (so_far design place (i + 1) path names) ps wires in
          subst P (sym is) (Grows-more old_parts old (so_far design place i path names) parts wires c _ wires (so_far design place (i + 1) path names) grown last
          (wires-more ∙ ap (λ (d : Content). (so_far design place i path names).wires ++ d.wires) same)
          (parts-more ∙ ap (λ (d : Content). (so_far design place i path names).parts ++ d.parts) same))

      as_kind : (kind : UsedKind) → used.kind ≡ kind → content used ≡ kind_content (values instance design.blocks) kind (below path used.name) (map (wire_at (names ++ own)) used.args)
      as_kind kind e = ap (λ (k : UsedKind). kind_content (values instance design.blocks) k (below path used.name) (map (wire_at (names ++ own)) used.args)) e

      pub gate_grows : (gate : Kind) (more_parts : List Component) → used.kind ≡ Gate gate
          → more_parts ≡ parts ++ record { name = below path used.name; kind = gate; ports = map (position_of passed (length old)) used.args } ∷ []
          → Grows old_parts old (so_far design place (i + 1) path names) more_parts wires
      gate_grows gate more_parts e is = part_grows gate more_parts (as_kind (Gate gate) e) is

      pub type_grows : (shape : ℕ) (more_parts : List Component) → used.kind ≡ OfShape shape
          → more_parts ≡ parts ++ record { name = below path used.name; kind = Table shape; ports = map (position_of passed (length old)) used.args } ∷ []
          → Grows old_parts old (so_far design place (i + 1) path names) more_parts wires
      type_grows shape more_parts e is = part_grows (Table shape) more_parts (as_kind (OfShape shape) e) is

      -- after an instance of a block
      module _ {inner : ℕ} (kind_is : used.kind ≡ OfBlock inner) {path_now : Name} (path_is : path_now ≡ below path used.name)
          {ports_now : List ℕ} (ports_are : ports_now ≡ map (position_of passed (length old)) used.args) where
        inner_before : IsBefore design.blocks place inner (length used.args)
        inner_before = before design.types design.blocks good place can.there inner (length used.args)
            (ap (λ (k : UsedKind). takes_args design.types (take place design.blocks) k (length used.args)) (sym kind_is) ∙ good_used.takes)

        inner_there : inner < length design.blocks
        inner_there = let b = inner_before.before in let c = can.there in omega arith

        -- its content does not depend on its wires' positions
        inner_is : instance_at design inner path_now (map (wire_at wires) ports_now) ≡ instance_at design inner (below path used.name) (map (wire_at (names ++ own)) used.args)
        inner_is = λ k. instance_at design inner (path_is k) ((ap (map (wire_at wires)) ports_are ∙ ports_named) k)

        as_content : content used ≡ kind_content (values instance design.blocks) (OfBlock inner) (below path used.name) (map (wire_at (names ++ own)) used.args)
        as_content = as_kind (OfBlock inner) kind_is

        pub before_here : inner < place
        before_here = inner_before.before

        -- so it can be expanded too
        pub CanExpand-inner : CanExpand design inner path_now ports_now wires
        CanExpand-inner = record {
          valid = can.valid;
          there = inner_there;
          ports = ap length ports_are ∙ length-map used.args (position_of passed (length old)) ∙ inner_before.takes ∙ sym (ports_there design.blocks inner inner_there);
          within = ap (are_within (length wires)) ports_are ∙ ports_within;
          few =
              let e = ap (λ (c : Content). length c.wires) inner_is in
              let f = ap (λ (c : Content). length c.wires) as_content in
              let g = few_used in
              omega arith;
          short =
              ap (λ (c : Content). are_short (paths_of c)) inner_is
              ∙ short_inside (values instance design.blocks) inner (below path used.name) (map (wire_at (names ++ own)) used.args)
              (λ which. ap (λ (c : Content). are_short (names_of which c)) (sym as_content) ∙ short-used which (short_each whole short_whole which));
        }

        pub instance_grows : {more_parts : List Component} {more_wires : List Name}
            → Grows parts wires (instance_at design inner path_now (map (wire_at wires) ports_now)) more_parts more_wires
            → Grows old_parts old (so_far design place (i + 1) path names) more_parts more_wires
        instance_grows {more_parts = more_parts} {more_wires = more_wires} h =
            let c = instance_at design inner path_now (map (wire_at wires) ports_now) in
            Grows-more old_parts old (so_far design place i path names) parts wires c more_parts more_wires (so_far design place (i + 1) path names) grown h
            (wires-more ∙ ap (λ (ns : List Name). (so_far design place i path names).wires ++ ns) (ap (λ (d : Content). d.wires) as_content ∙ ap (λ (d : Content). d.wires) (sym inner_is)))
            (parts-more ∙ ap (λ (ns : List NamedPart). (so_far design place i path names).parts ++ ns) (ap (λ (d : Content). d.parts) as_content ∙ ap (λ (d : Content). d.parts) (sym inner_is)))

-- the paths of an instance's own wires, as the code writes them
pub own_behind : (block there : Block) (path prefix : Name) (ns : List Name) → block ≡ there → prefix ≡ prefix_of path → ns ≡ drop block.ports block.wires
    → map (behind prefix) ns ≡ map (below path) (drop there.ports there.wires)
own_behind block there path prefix ns b e h = grind (arith, map-behind)
