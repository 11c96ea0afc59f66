-- What a run gave, if all of it was written or a write failed.
use Rattle.std.proofs.Common.{◌≡◌, ◌≢◌, ◌≤◌, ◌-◌, ℕ, List, [], ◌∷◌, ◌++◌, map, length, take, drop, get_or, take_all, Option, Result, Ok, Err, IsErr, refl, sym, ap, ◌∙◌, subst, arith}
use Rattle.std.specs.Prelude.{MatchResult}
use Rattle.std.specs.Io.KnownBytes.{Appends}
use Rattle.diag_edge.specs.Edge.{AppendsPrefix, Puts}
use Rattle.session_rules.specs.Items.{Item, Plain}
use Rattle.session_rules.specs.Spelling.{Writes, WritesPart, Replies}
use Rattle.session_rules.proofs.Spellings.{replies_one, spells_one, writes_more}
use Rattle.session_rules.proofs.Begun.{HaveSpellings, part_more, part_after}
use Rattle.device_files.specs.declared.inspecting.Count.{Count}
use Rattle.device_files.specs.declared.refusal.Refusal.{Refusal}
use Rattle.device_files.specs.declared.refusal.Refusal.TheVariants.{Fault, Header, Counts, Bits, Shared, Above, Sum, Memory}
use Rattle.device_files.specs.declared.status.Status.{Status}
use Rattle.device_files.specs.declared.status.Status.TheVariants.{WriteFailed}
use Rattle.device_files.specs.Output.{Output, FulfilsOutput, says}
use Rattle.device_files.specs.Inspecting.{count_line}
use Rattle.device_files.specs.Refusals.{refusal_line, refusal_status, refusal_output, or_memory}

-- the items were written
pub gives_all : (output : Output) (s : Status) (a b : Option (List ℕ)) → output.status ≢ WriteFailed → s ≡ output.status → Writes a b output.items → FulfilsOutput output s a b
gives_all output s a b other is written = record { whole = λ _. (is, written); broken = λ five. absurd (other (sym is ∙ five)) }

-- a write failed
pub gives_part : (output : Output) (s : Status) (a b : Option (List ℕ)) → s ≡ WriteFailed → WritesPart a b output.items → FulfilsOutput output s a b
gives_part output s a b five begun = record { whole = λ other. absurd (other five); broken = λ _. begun }

-- ---- one line

pub line_given : (text : List ℕ) (status s : Status) (a b : Option (List ℕ)) → status ≢ WriteFailed → s ≡ status → Appends a b text → FulfilsOutput (says text status) s a b
line_given text status s a b other is grown = gives_all (says text status) s a b other is (record { text = text; spelled = spells_one (Plain text) text refl; grown = grown })

pub line_begun : (text : List ℕ) (status s : Status) (a b : Option (List ℕ)) → s ≡ WriteFailed → AppendsPrefix a b text → FulfilsOutput (says text status) s a b
line_begun text status s a b five (part, rest, all, grown) =
    gives_part (says text status) s a b five (record { text = part; rest = rest; begun = spells_one (Plain text) (part ++ rest) (sym all); grown = grown })

pub ruleset gives_line = (line_given, line_begun)

-- a line after other items
pub gives_after : (items : List Item) (text : List ℕ) (status s : Status) (a b c : Option (List ℕ)) → Writes a b items → FulfilsOutput (says text status) s b c
    → FulfilsOutput (record { items = items ++ Plain text ∷ []; status = status }) s a c
gives_after items text status s a b c first said = record {
  whole = λ other. let last = said.whole other in (last.0, writes_more a b c items (Plain text ∷ []) first last.1);
  broken = λ five. part_after a b c items (Plain text ∷ []) first (said.broken five);
}

-- ---- a refusal

tells_line : (refusal : Refusal) → or_memory (refusal_output refusal) ≡ says (refusal_line refusal) (refusal_status refusal)
tells_line (Fault line number name) = refl
tells_line Header = refl
tells_line (Counts said found) = refl
tells_line (Bits bits) = refl
tells_line (Shared node variable) = refl
tells_line (Above what count limit) = refl
tells_line (Sum budget) = refl
tells_line Memory = refl

pub refusal_given : (refusal : Refusal) (s : Status) (a b : Option (List ℕ)) → s ≡ refusal_status refusal → s ≢ WriteFailed → Appends a b (refusal_line refusal) → FulfilsOutput (or_memory (refusal_output refusal)) s a b
refusal_given refusal s a b is other grown =
    subst (λ (output : Output). FulfilsOutput output s a b) (sym (tells_line refusal))
    (line_given (refusal_line refusal) (refusal_status refusal) s a b (λ five. absurd (other (is ∙ five))) is grown)

pub refusal_begun : (refusal : Refusal) (s : Status) (a b : Option (List ℕ)) → s ≡ WriteFailed → AppendsPrefix a b (refusal_line refusal) → FulfilsOutput (or_memory (refusal_output refusal)) s a b
refusal_begun refusal s a b five part =
    subst (λ (output : Output). FulfilsOutput output s a b) (sym (tells_line refusal)) (line_begun (refusal_line refusal) (refusal_status refusal) s a b five part)

pub ruleset gives_refusal = (refusal_given, refusal_begun)

-- ---- lines in turn

pub line_replies : {T E : Type 0} (text : List ℕ) (a b : Option (List ℕ)) (r : Result T E) → Puts a b r text → Replies a b r (Plain text ∷ [])
line_replies text a b r put = replies_one a b r (Plain text) text refl put

-- some items were written, and then the others were or not
pub replies_then : {T E : Type 0} (xs ys : List Item) (a b c : Option (List ℕ)) (r : Result T E) → Writes a b xs → Replies b c r ys → Replies a c r (xs ++ ys)
replies_then xs ys a b c (Ok v) first rest = writes_more a b c xs ys first rest
replies_then xs ys a b c (Err e) first rest = part_after a b c xs ys first rest

-- a write failed during the first ones
pub replies_cut : {T E : Type 0} (xs ys : List Item) (a b : Option (List ℕ)) (r : Result T E) → IsErr r → HaveSpellings ys → WritesPart a b xs → Replies a b r (xs ++ ys)
replies_cut xs ys a b (Ok v) is have first = absurd (let no : ⊥ = cc in no)
replies_cut xs ys a b (Err e) is have first = part_more a b xs ys first have

-- ---- a line for each count

abbrev line_of : Count → Item
line_of count = count_line count.what.now count.number

counts-have : (counts : List Count) → HaveSpellings (map line_of counts)
counts-have [] = tt
counts-have (count ∷ counts) = ((_, refl), counts-have counts)

-- the first item, and the others
first_and_rest : {A B : Type 0} (f : A → B) (xs : List A) (x : A) → 1 ≤ length xs → f (get_or xs 0 x) ∷ map f (take (length xs - 1) (drop 1 xs)) ≡ map f xs
first_and_rest f [] x some = absurd (omega (arith, some))
first_and_rest f (y ∷ xs) x some = ap (λ ys. f y ∷ map f ys) (take_all (length (y ∷ xs) - 1) xs (omega arith))

module _ (counts : List Count) (none : Count) (some : 1 ≤ length counts) where
  abbrev first : List Item
  first = line_of (get_or counts 0 none) ∷ []

  abbrev rest : List Item
  rest = map line_of (take (length counts - 1) (drop 1 counts))

  pub counts_then : {T E : Type 0} (a b c : Option (List ℕ)) (r : Result T E) → Writes a b first → Replies b c r rest → Replies a c r (map line_of counts)
  counts_then a b c r written more = subst (Replies a c r) (first_and_rest line_of counts none some) (replies_then first rest a b c r written more)

  pub counts_cut : {T E : Type 0} (a b : Option (List ℕ)) (r : Result T E) → IsErr r → WritesPart a b first → Replies a b r (map line_of counts)
  counts_cut a b r is begun = subst (Replies a b r) (first_and_rest line_of counts none some) (replies_cut first rest a b r is (counts-have (take (length counts - 1) (drop 1 counts))) begun)

pub ruleset gives_items = (gives_all, gives_part)

-- items were written, or a write failed
pub replies_give : {T E : Type 0} (output : Output) (s : Status) (a b : Option (List ℕ)) (r : Result T E) → output.status ≢ WriteFailed → Replies a b r output.items
    → MatchResult r (λ _. s ≡ output.status) (λ _. s ≡ WriteFailed) → FulfilsOutput output s a b
replies_give output s a b (Ok v) other written is = gives_all output s a b other is written
replies_give output s a b (Err e) other begun five = gives_part output s a b five begun
