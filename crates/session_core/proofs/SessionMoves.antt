-- A session that moves on, once and `count` times.
use Rattle.std.proofs.Common.{◌≡◌, ◌∙◌, ◌∷◌, ◌++◌, ◌+◌, ◌-◌, ◌<◌, ◌≤◌, arith, [], ℕ, suc, Bool, true, false, List, map, Option, Result, Ok, Err, IsErr, Ordering, refl, ap, sym, subst, append_assoc, append-nil}
use Rattle.std.specs.Prelude.{IfOk, if◌then◌else◌}
use Rattle.std.proofs.lemmas.List.{map-append}
use Rattle.std.specs.Ordering.{nat_cmp}
use Rattle.std.specs.Cmp.Lexicographic.{slice_cmp}
use Rattle.std.specs.FinMap.Entries.{by_order, put}
use Rattle.std.proofs.lemmas.Cmp.{nat_list_cmp_total}
use Rattle.text_rules.specs.Names.{Name}
use Rattle.session_rules.specs.Items.{Item, line}
use Rattle.session_rules.specs.Replies.{Found as Reply, listing}
use Rattle.session_rules.specs.Sessions.{Table, Entry, Becomes, Step, lists, with_entry}
use Rattle.session_rules.specs.Spelling.{WritesPart, Replies}
use Rattle.session_rules.specs.Carrying.{Makes, BreaksOff, CarriesOut}
use Rattle.session_rules.proofs.Spellings.{writes_none}
use Rattle.session_rules.proofs.Broken.{makes_none, makes_more, breaks_after}
use Rattle.session_table.specs.Tables.{StandsAt}
use Rattle.session_core.specs.Services.{Shown, ChangesTable}
use Rattle.engines.specs.declared.listed.Listed.{Listed}
use Rattle.engines.specs.declared.listed.NextState.{NextState}
use Rattle.engines.specs.Answers.{is_listed, is_found}
use Rattle.session_core.specs.inner.Texts.{next_text}
use Rattle.session_core.specs.inner.Obeying.{Obeys, goes_on, list_request, the_found, found_by, found_moves, PointMoves, MovesOn}
use Rattle.session_rules.proofs.KeptCases.{step_from}

-- ---- a reply that failed

pub replies_part : {T E : Type 0} (before after : Option (List ℕ)) (result : Result T E) (items : List Item) → IsErr result → WritesPart before after items → Replies before after result items
replies_part before after result items failed part = grind arith

pub if_failed : {T E : Type 0} (P : T → Type 0) (result : Result T E) → IsErr result → IfOk result P
if_failed P result failed = grind arith

-- ---- an entry put twice

twice_by : {X : Type 0} (name : Name) (v w : X) (e : Name × X) (es : List (Name × X)) (o : Ordering) → slice_cmp nat_cmp name e.0 ≡ o
    → put (slice_cmp nat_cmp) name w (put (slice_cmp nat_cmp) name v es) ≡ put (slice_cmp nat_cmp) name w es
    → put (slice_cmp nat_cmp) name w (by_order o ((name, v) ∷ e ∷ es) ((e.0, v) ∷ es) (e ∷ put (slice_cmp nat_cmp) name v es)) ≡ by_order o ((name, w) ∷ e ∷ es) ((e.0, w) ∷ es) (e ∷ put (slice_cmp nat_cmp) name w es)
twice_by name v w e es o is later = grind (arith, nat_list_cmp_total)

put_twice : {X : Type 0} (name : Name) (v w : X) (es : List (Name × X)) → put (slice_cmp nat_cmp) name w (put (slice_cmp nat_cmp) name v es) ≡ put (slice_cmp nat_cmp) name w es
put_twice name v w [] = grind (arith, nat_list_cmp_total)
put_twice name v w (e ∷ es) = twice_by name v w e es (slice_cmp nat_cmp name e.0) refl (put_twice name v w es)

-- ---- once

pub moves_on : {E : Type 0} (old new : Shown) (listed : Listed) (place : ℕ) (session : Name) (entry : Entry) (next : NextState) (state : List Bool) (before after : Option (List ℕ)) (result : Result Bool E)
    → PointMoves old.system listed old.table new.table place session entry next state → ChangesTable old new
    → Replies before after result (line (next_text session old.system.parts next state) ∷ []) → IfOk result (λ more. more ≡ is_found next)
    → MovesOn old new listed place session entry before after result
moves_on old new listed place session entry next state before after result m stays reply more = grind arith

-- ---- several times

-- Some of a listing were shown, and `left` more are left.
pub record Lists (old now : Shown) (listed : Listed) (place : ℕ) (session : Name) (entry : Entry) (count left : ℕ) (before after : Option (List ℕ)) : Type 0 where
  pub point : Option (List Bool)
  pub done : List Reply
  pub both : done ++ listing (found_by old.system listed session entry) left point ≡ listing (found_by old.system listed session entry) count entry.point
  pub made : Makes old.table now.table (map (goes_on old.table session entry) done) before after
  pub moved : now ≡ record old { table = with_entry session (record entry { point = point }) old.table }
  pub stands : StandsAt now.table place session (record entry { point = point })

-- none is shown yet
pub lists_none : (old : Shown) (listed : Listed) (place : ℕ) (session : Name) (entry : Entry) (count : ℕ) (before : Option (List ℕ)) → StandsAt old.table place session entry → Lists old old listed place session entry count (count - 0) before before
lists_none old listed place session entry count before stands = record {
  point = entry.point;
  done = [];
  both = grind arith;
  made = makes_none old.table before;
  moved = ap (λ (t : Table). record old { table = t }) (sym stands.kept);
  stands = stands;
}

module _ (old : Shown) (listed : Listed) (place : ℕ) (session : Name) (entry : Entry) (count : ℕ) where
  abbrev next : Option (List Bool) → Reply
  next = found_by old.system listed session entry

  abbrev move : Reply → Step
  move = goes_on old.table session entry

  abbrev at_point : Option (List Bool) → Entry
  at_point point = record entry { point = point }

  -- what comes after the next one
  abbrev later_of : ℕ → Option (List Bool) → List Reply
  later_of left point = if (next point).more then listing next left (next point).point else []

  -- the move was made, or broke off
  module _ (now new : Shown) (counter : ℕ) (less : counter < count) (a b c : Option (List ℕ)) (lists : Lists old now listed place session entry count (count - counter) a b) where
    abbrev left : ℕ
    left = count - (counter + 1)

    split : lists.done ++ listing next (suc left) lists.point ≡ listing next count entry.point
    split = ap (λ (n : ℕ). lists.done ++ listing next n lists.point) (let e : suc (count - (counter + 1)) ≡ count - counter = omega arith in e) ∙ lists.both

    module _ {E : Type 0} (result : Result Bool E) (m : MovesOn now new listed place session (at_point lists.point) b c result) where
      same_next : the_found now.system listed session (at_point lists.point) ≡ next lists.point
      same_next = ap (λ (v : Shown). the_found v.system listed session (at_point lists.point)) lists.moved

      new_table : new.table ≡ with_entry session (at_point (next lists.point).point) old.table
      new_table = grind (arith, put_twice)

      moved_again : new ≡ record old { table = with_entry session (at_point (next lists.point).point) old.table }
      moved_again = grind (arith, new_table)

      says_next : Replies b c result ((next lists.point).item ∷ [])
      says_next = subst (λ (f : Reply). Replies b c result (f.item ∷ [])) same_next m.reply

    -- the same for each result
    module _ {E : Type 0} (v : Bool) (m : MovesOn {E = E} now new listed place session (at_point lists.point) b c (Ok v)) where
      made_one : Makes old.table new.table (map move (lists.done ++ next lists.point ∷ [])) a c
      made_one =
          subst (λ (ms : List Step). Makes old.table new.table ms a c) (sym (map-append move lists.done (next lists.point ∷ [])))
          (makes_more lists.made (record { written = says_next (Ok v) m; table = new_table (Ok v) m }))

      -- one more was shown
      pub lists_more : v ≡ true → Lists old new listed place session entry count left a c
      lists_more on = grind (arith, append_assoc lists.done (next lists.point ∷ []) (listing next left (next lists.point).point), split, made_one, moved_again (Ok v) m)

      -- nothing more was found
      pub lists_end : v ≡ false → Makes old.table new.table (map move (listing next count entry.point)) a c
      lists_end off = grind (arith, made_one)

    -- a write failed
    pub lists_broken : {E : Type 0} (e : E) → MovesOn now new listed place session (at_point lists.point) b c (Err e) → BreaksOff new.table (map move (listing next count entry.point)) a c
    lists_broken e m =
        subst (λ (fs : List Reply). BreaksOff new.table (map move fs) a c) split
        (subst (λ (ms : List Step). BreaksOff new.table ms a c) (sym (map-append move lists.done (next lists.point ∷ (later_of left lists.point))))
        (breaks_after lists.made (record {
          made = [];
          move = move (next lists.point);
          others = map move (later_of left lists.point);
          split = refl;
          middle = b;
          written = writes_none b;
          begun = says_next (Err e) m;
          table = new_table (Err e) m;
        })))

  -- all were shown
  pub lists_all : (now : Shown) (counter : ℕ) → count ≤ counter → (a b : Option (List ℕ)) → Lists old now listed place session entry count (count - counter) a b
      → Makes old.table now.table (map move (listing next count entry.point)) a b
  lists_all now counter over a b lists = grind (arith, append-nil)

pub carries_broken : {T E : Type 0} (old new : Table) (ms : List Step) (before after : Option (List ℕ)) (result : Result T E) → IsErr result → BreaksOff new ms before after → CarriesOut old new ms before after result
carries_broken old new ms before after result failed broke = grind arith

-- ---- the request for several

stepped : (table : Table) (session : Name) (entry : Entry) (found : List Reply)
    → map (goes_on table session entry) found ≡ map (step_from table session) (map (λ (f : Reply). record { change = Becomes (record entry { point = f.point }); items = f.item ∷ [] }) found)
stepped table session entry [] = refl
stepped table session entry (f ∷ found) = ap (λ (ms : List Step). goes_on table session entry f ∷ ms) (stepped table session entry found)

-- the request was obeyed
pub obeys_list : {T E : Type 0} (old new : Shown) (listed : Listed) (place : ℕ) (session : Name) (entry : Entry) (count : ℕ) (before after : Option (List ℕ)) (result : Result T E)
    → is_listed old.system listed ≡ true → StandsAt old.table place session entry
    → CarriesOut old.table new.table (found_moves old listed session entry count) before after result → ChangesTable old new → Obeys old new session (list_request listed count) before after result
obeys_list old new listed place session entry count before after result is stands given stays = grind (arith, stepped)
