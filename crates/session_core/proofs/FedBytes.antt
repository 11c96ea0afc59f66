-- Bytes of a script that are taken piece by piece.
use Rattle.std.proofs.Common.{◌≡◌, ◌≢◌, ◌<◌, ◌≤◌, ◌+◌, get_or, length, drop, Result, Ok, Err, OnErr, arith, ℕ, List, [], ◌∷◌, ◌++◌, take, Option, None, Some, refl, sym, ◌∙◌, ap, ap₂, subst, append-nil, false, ◌==◌}
use Rattle.std.specs.Prelude.{⊤}
use Rattle.std.proofs.lemmas.Grind.{common_steps}
use Rattle.std.proofs.lemmas.List.{take_more}
use Rattle.std.specs.Io.KnownBytes.{Consumes, Keeps}
use Rattle.text_rules.specs.TextLines.{cut, last_line, whole_lines, all_lines}
use Rattle.session_rules.specs.Sessions.{Table, Step, left_by}
use Rattle.session_rules.specs.Moves.{script_moves}
use Rattle.session_rules.specs.Carrying.{Makes, BreaksOff, CarriesOut}
use Rattle.session_core.specs.declared.serving.TheConstants.{READ_LIMIT}
use Rattle.session_core.specs.Serving.{FailsBehind, FailsAtOnce}
use Rattle.session_core.specs.inner.Gathering.{ended_from, rest_from, kept, IsCut, Fed}
use Rattle.session_core.proofs.Lines.{kept-kept, kept-none, kept-append, kept-some, ended_from-start, rest_from-start}
use Rattle.session_rules.proofs.Broken.{makes_none, makes_more, breaks_before, breaks_after, script_moves-append}

ended_from-append : (l xs ys : List ℕ) → ended_from l (xs ++ ys) ≡ ended_from l xs ++ ended_from (rest_from l xs) ys
ended_from-append l [] ys = refl
ended_from-append l (b ∷ xs) ys = grind (arith, ended_from-append [] xs ys, ended_from-append (l ++ b ∷ []) xs ys)

rest_from-append : (l xs ys : List ℕ) → rest_from l (xs ++ ys) ≡ rest_from (rest_from l xs) ys
rest_from-append l [] ys = refl
rest_from-append l (b ∷ xs) ys = grind (arith, rest_from-append [] xs ys, rest_from-append (l ++ b ∷ []) xs ys)

-- what is kept past the limit of the line before the bytes does not matter
rest-take : (line bytes : List ℕ) → kept (rest_from (kept line) bytes) ≡ kept (rest_from line bytes)
rest-take line [] = kept-kept line
rest-take line (b ∷ bs) = grind (arith, rest-take (kept line ++ b ∷ []) bs, kept-append line (b ∷ []), rest-take (line ++ b ∷ []) bs)

alike_rest : (l k bytes : List ℕ) → kept l ≡ kept k → kept (rest_from l bytes) ≡ kept (rest_from k bytes)
alike_rest l k bytes e = sym (rest-take l bytes) ∙ ap (λ j. kept (rest_from j bytes)) e ∙ rest-take k bytes

-- the same lines, except that of the first only what counts is the same
abbrev FirstAlike : List (List ℕ) → List (List ℕ) → Type 0
FirstAlike [] [] = ⊤
FirstAlike [] (k ∷ ks) = ⊥
FirstAlike (l ∷ ls) [] = ⊥
FirstAlike (l ∷ ls) (k ∷ ks) = (kept l ≡ kept k) × (ls ≡ ks)

ended_alike : (l k bytes : List ℕ) → kept l ≡ kept k → FirstAlike (ended_from l bytes) (ended_from k bytes)
ended_alike l k [] e = tt
ended_alike l k (b ∷ bs) e = grind (arith, ended_alike (l ++ b ∷ []) (k ++ b ∷ []) bs, kept-append l (b ∷ []), kept-append k (b ∷ []))

last_line_alike : (l k : List ℕ) → kept l ≡ kept k → FirstAlike (last_line l) (last_line k)
last_line_alike [] [] e = tt
last_line_alike [] (b ∷ k) e = absurd (kept-some b k (sym e ∙ kept-none))
last_line_alike (b ∷ l) [] e = absurd (kept-some b l (e ∙ kept-none))
last_line_alike (b ∷ l) (c ∷ k) e = (e, refl)

-- lines of which the same is kept have the same moves
module _ (one : Table → List ℕ → List Step) (h : IsCut one) where
  alike_moves : (t : Table) (l k : List ℕ) → kept l ≡ kept k → one t l ≡ one t k
  alike_moves t l k e = sym (h.same t l) ∙ ap (one t) e ∙ h.same t k

  script_moves-alike : (t : Table) (ls ks : List (List ℕ)) → FirstAlike ls ks → script_moves one t ls ≡ script_moves one t ks
  script_moves-alike t [] [] alike = refl
  script_moves-alike t [] (k ∷ ks) alike = absurd alike
  script_moves-alike t (l ∷ ls) [] alike = absurd alike
  script_moves-alike t (l ∷ ls) (k ∷ ks) (same, rest) =
      ap₂ (λ first lines. first ++ script_moves one (left_by t first) lines) (alike_moves t l k same) rest

  -- so do they after other lines
  moves_behind : (s t : Table) (ls ks ms : List (List ℕ)) → t ≡ left_by s (script_moves one s ls) → FirstAlike ks ms → script_moves one s ls ++ script_moves one t ks ≡ script_moves one s (ls ++ ms)
  moves_behind s t ls ks ms is alike =
      ap (λ moves. script_moves one s ls ++ moves) (script_moves-alike t ks ms alike ∙ ap (λ u. script_moves one u ms) is)
      ∙ sym (script_moves-append one s ls ms)

  -- the moves of two pieces in a row
  moves_to_both : (s t : Table) (l k xs ys : List ℕ) → t ≡ left_by s (script_moves one s (ended_from l xs)) → kept k ≡ kept (rest_from l xs)
      → script_moves one s (ended_from l xs) ++ script_moves one t (ended_from k ys) ≡ script_moves one s (ended_from l (xs ++ ys))
  moves_to_both s t l k xs ys is alike =
      moves_behind s t (ended_from l xs) (ended_from k ys) (ended_from (rest_from l xs) ys) is (ended_alike k (rest_from l xs) ys alike)
      ∙ ap (script_moves one s) (sym (ended_from-append l xs ys))

  -- the moves of the last line after a text
  moves_to_all : (s t : Table) (l bytes : List ℕ) → t ≡ left_by s (script_moves one s (ended_from [] bytes)) → kept l ≡ kept (rest_from [] bytes)
      → script_moves one s (ended_from [] bytes) ++ script_moves one t (last_line l) ≡ script_moves one s (all_lines bytes)
  moves_to_all s t l bytes is alike =
      moves_behind s t (ended_from [] bytes) (last_line l) (last_line (rest_from [] bytes)) is (last_line_alike l (rest_from [] bytes) alike)
      ∙ (λ i. script_moves one s (ended_from-start bytes i ++ last_line (rest_from-start bytes i)))

-- ---- bytes that were taken

pub fed_more : {one : Table → List ℕ → List Step} {s t u : Table} {l k j xs ys : List ℕ} {a b c : Option (List ℕ)} → IsCut one → Fed one s t l k xs a b → Fed one t u k j ys b c → Fed one s u l j (xs ++ ys) a c
fed_more {one} {s} {t} {u} {l} {k} {j} {xs} {ys} {a} {b} {c} h first second = record {
  made = subst (λ ms. Makes s u ms a c) (moves_to_both one h s t l k xs ys first.made.table first.begun) (makes_more first.made second.made);
  begun = second.begun ∙ alike_rest k (rest_from l xs) ys first.begun ∙ ap kept (sym (rest_from-append l xs ys));
}

-- a byte other than a line feed continues the line
pub fed_other : (one : Table → List ℕ → List Step) (s : Table) (l k : List ℕ) (b : ℕ) (a : Option (List ℕ)) → b ≢ 10 → k ≡ kept (l ++ b ∷ []) → Fed one s s l k (b ∷ []) a a
fed_other one s l k b a other is =
    let no : (b == 10) ≡ false = grind arith in
    record {
      made = rw no (makes_none s a);
      begun = rw (no, is) (kept-kept (l ++ b ∷ []));
    }

-- the one line that a line feed ends has its moves
moves_of_feed : (one : Table → List ℕ → List Step) (s : Table) (l k : List ℕ) (b : ℕ) → k ≡ l → b ≡ 10 → one s k ≡ script_moves one s (ended_from l (b ∷ []))
moves_of_feed one s l k b is feed = ap (one s) is ∙ sym (append-nil (one s l)) ∙ ap (λ x. script_moves one s (ended_from l (x ∷ []))) (sym feed)

-- a line feed ends the line, which is answered
pub fed_feed : (one : Table → List ℕ → List Step) (s t : Table) (l k rest : List ℕ) (b : ℕ) (a c : Option (List ℕ)) → k ≡ l → b ≡ 10 → rest ≡ [] → Makes s t (one s k) a c → Fed one s t l rest (b ∷ []) a c
fed_feed one s t l k rest b a c is feed none made = record {
  made = subst (λ ms. Makes s t ms a c) (moves_of_feed one s l k b is feed) made;
  begun = ap kept (none ∙ ap (λ x. rest_from l (x ∷ [])) (sym feed));
}

-- one more byte of a piece was taken
pub fed_step : {one : Table → List ℕ → List Step} {s t u : Table} {l k j : List ℕ} {a b c : Option (List ℕ)} (piece : List ℕ) (i : ℕ) → IsCut one → i < length piece → Fed one s t l k (take i piece) a b → Fed one t u k j (get_or piece i 0 ∷ []) b c → Fed one s u l j (take (i + 1) piece) a c
fed_step {one} {s} {t} {u} {l} {k} {j} {a} {b} {c} piece i h less first second =
    subst (λ xs. Fed one s u l j xs a c) (sym (take_more piece i 0 less)) (fed_more h first second)

-- the moves of the whole lines were made
pub makes_whole : {one : Table → List ℕ → List Step} {s t : Table} {l bytes : List ℕ} {a b : Option (List ℕ)} → Fed one s t [] l bytes a b → Makes s t (script_moves one s (whole_lines bytes)) a b
makes_whole {one} {s} {t} {l} {bytes} {a} {b} fed = subst (λ ls. Makes s t (script_moves one s ls) a b) (ended_from-start bytes) fed.made

-- so were those of the last line
pub makes_all : {one : Table → List ℕ → List Step} {s t u : Table} {l bytes : List ℕ} {a b : Option (List ℕ)} (c : Option (List ℕ)) → IsCut one → Fed one s t [] l bytes a b → Makes t u (script_moves one t (last_line l)) b c → Makes s u (script_moves one s (all_lines bytes)) a c
makes_all {one} {s} {t} {u} {l} {bytes} {a} {b} c h fed last =
    subst (λ ms. Makes s u ms a c) (moves_to_all one h s t l bytes fed.made.table fed.begun) (makes_more fed.made last)

-- known bytes were taken, then none
pub consumes_kept : (a b c : Option (List ℕ)) (xs : List ℕ) → Consumes a b xs → Keeps b c → Consumes a c xs
consumes_kept None b c xs h k = tt
consumes_kept (Some olds) None c xs h k = absurd h
consumes_kept (Some olds) (Some bs) None xs h k = absurd k
consumes_kept (Some olds) (Some bs) (Some cs) xs h k = h ∙ ap (λ zs. xs ++ zs) (sym k)

-- ---- a write that failed

on_err : {T E P : Type 0} (r : Result T E) → P → OnErr r P
on_err (Ok v) p = tt
on_err (Err e) p = p

-- a piece was taken, and a line that the next one ends broke off
pub breaks_fed : {one : Table → List ℕ → List Step} {s t u : Table} {l k xs : List ℕ} {a b c : Option (List ℕ)} (ys : List ℕ) → IsCut one → Fed one s t l k xs a b → BreaksOff u (script_moves one t (ended_from k ys)) b c → BreaksOff u (script_moves one s (ended_from l (xs ++ ys))) a c
breaks_fed {one} {s} {t} {u} {l} {k} {xs} {a} {b} {c} ys h first broke =
    subst (λ ms. BreaksOff u ms a c) (moves_to_both one h s t l k xs ys first.made.table first.begun) (breaks_after first.made broke)

-- the line that a line feed ended broke off
pub breaks_feed : {T E : Type 0} (one : Table → List ℕ → List Step) (s t : Table) (l k : List ℕ) (b : ℕ) (a c : Option (List ℕ)) (r : Result T E) → k ≡ l → b ≡ 10 → BreaksOff t (one s k) a c → OnErr r (BreaksOff t (script_moves one s (ended_from l (b ∷ []))) a c)
breaks_feed {T} {E} one s t l k b a c r is feed broke = on_err r (subst (λ ms. BreaksOff t ms a c) (moves_of_feed one s l k b is feed) broke)

-- a line broke off at one byte of a piece
pub breaks_step : {T E : Type 0} {one : Table → List ℕ → List Step} {s t u : Table} {l k : List ℕ} {a b c : Option (List ℕ)} (r : Result T E) (piece : List ℕ) (i : ℕ) → IsCut one → i < length piece → Fed one s t l k (take i piece) a b → BreaksOff u (script_moves one t (ended_from k (get_or piece i 0 ∷ []))) b c → OnErr r (BreaksOff u (script_moves one s (ended_from l piece)) a c)
breaks_step {T} {E} {one} {s} {t} {u} {l} {k} {a} {b} {c} r piece i h less first second =
    let front = take i piece ++ get_or piece i 0 ∷ [] in
    let behind = drop (i + 1) piece in
    let all : front ++ behind ≡ piece = grind (arith, common_steps, take_more piece i 0 less) in
    let here : BreaksOff u (script_moves one s (ended_from l front)) a c = breaks_fed (get_or piece i 0 ∷ []) h first second in
    let later = script_moves one (left_by s (script_moves one s (ended_from l front))) (ended_from (rest_from l front) behind) in
    on_err r (subst (λ ms. BreaksOff u ms a c)
    (sym (script_moves-append one s (ended_from l front) (ended_from (rest_from l front) behind))
    ∙ ap (script_moves one s) (sym (ended_from-append l front behind) ∙ ap (ended_from l) all))
    (breaks_before later here))

-- a line that the last piece ends broke off
pub fails_at_once : {one : Table → List ℕ → List Step} {s t u : Table} {l fed : List ℕ} {a b c : Option (List ℕ)} (piece : List ℕ) → IsCut one → length piece ≤ READ_LIMIT
    → Fed one s t [] l fed a b → BreaksOff u (script_moves one t (ended_from l piece)) b c → FailsAtOnce one s u (fed ++ piece) a c
fails_at_once {one} {s} {t} {u} {l} {fed} {a} {b} {c} piece h few first broke =
    let begun = rest_from [] fed in
    record {
      fed = fed;
      piece = piece;
      parts = refl;
      one_read = few;
      lines = ended_from begun piece;
      ended = sym (ended_from-start (fed ++ piece)) ∙ ended_from-append [] fed piece ∙ ap (λ ls. ls ++ ended_from begun piece) (ended_from-start fed);
      failed = record {
        table = t;
        middle = b;
        made = makes_whole first;
        broke = subst (λ ms. BreaksOff u ms b c) (script_moves-alike one h t (ended_from l piece) (ended_from begun piece) (ended_alike l begun piece first.begun)) broke;
      };
    }

-- the last line broke off
pub fails_at_end : {one : Table → List ℕ → List Step} {s t u : Table} {l bytes : List ℕ} {a b c : Option (List ℕ)} → IsCut one → Fed one s t [] l bytes a b → BreaksOff u (script_moves one t (last_line l)) b c
    → FailsBehind one s u (whole_lines bytes) (last_line (cut bytes).unfinished) a c
fails_at_end {one} {s} {t} {u} {l} {bytes} {a} {b} {c} h first broke =
    let last = (cut bytes).unfinished in
    record {
      table = t;
      middle = b;
      made = makes_whole first;
      broke = subst (λ ms. BreaksOff u ms b c) (script_moves-alike one h t (last_line l) (last_line last) (last_line_alike l last (first.begun ∙ ap kept (rest_from-start bytes)))) broke;
    }

-- a last line that is not empty was carried out
pub carries_last : {T E : Type 0} (one : Table → List ℕ → List Step) (s t : Table) (a c : Option (List ℕ)) (l k : List ℕ) (r : Result T E) → k ≡ l → (length l == 0) ≡ false → CarriesOut s t (one s k) a c r → CarriesOut s t (script_moves one s (last_line l)) a c r
carries_last one s t a c [] k r is some carried = absurd (let never : ⊥ = cc in never)
carries_last one s t a c (b ∷ l) k r is some carried = subst (λ ms. CarriesOut s t ms a c r) (ap (one s) is ∙ sym (append-nil (one s (b ∷ l)))) carried
