-- Worked rows: the answers to one session's lines among those of others. Their check computes both sides.
use Rattle.std.proofs.Common.{◌≡◌, ℕ, List, [], ◌∷◌, map, refl}
use Rattle.std.specs.Prelude.{codes}
use Rattle.std.specs.Fmt.{digits}
use Rattle.std.specs.List.{flat_map}
use Rattle.device_model.specs.Diagnosis.{device_system}
use Rattle.session_rules.specs.Alone.{Answer, lines_of, dialogue, own_answers}
use Rattle.session_rules.proofs.Examples.{text_of, text, replied, chain}

-- a session's answers over two buffers, from the first of these lines on
abbrev own : List ℕ → List (List ℕ) → List Answer
own session lines = own_answers session (dialogue (device_system chain) 16 [] lines)

abbrev told : List ℕ → List (List ℕ) → List ℕ
told session lines = text_of (flat_map (λ (answer : Answer). answer.items) (own session lines))

abbrev two : List (List ℕ)
two = map codes ("open A" ∷ "open B" ∷ "see A a=0" ∷ "see B a=0" ∷ "see A c=1" ∷ "see B c=0" ∷ "min A" ∷ "min B" ∷ "next A" ∷ "next B" ∷ "next A" ∷ "next B" ∷ [])

first_among_two : told (codes "A") two ≡ text (map codes ("A open" ∷ "A ok" ∷ "A ok" ∷ "A min 1 b" ∷ "A diag b" ∷ "A diag c" ∷ []))
unfolding digits
first_among_two = refl

second_among_two : told (codes "B") two ≡ text (map codes ("B open" ∷ "B ok" ∷ "B ok" ∷ "B min 0" ∷ "B diag" ∷ "B end" ∷ []))
unfolding digits
second_among_two = refl

first_alone : replied 1 chain (map codes ("open A" ∷ "see A a=0" ∷ "see A c=1" ∷ "min A" ∷ "next A" ∷ "next A" ∷ []))
    ≡ text (map codes ("A open" ∷ "A ok" ∷ "A ok" ∷ "A min 1 b" ∷ "A diag b" ∷ "A diag c" ∷ []))
unfolding digits
first_alone = refl

-- a session ends where it is closed; a line refused for its spelling names none
abbrev opened_again : List (List ℕ)
opened_again = map codes ("open A" ∷ "frob A" ∷ "see A" ∷ "open A" ∷ "see A zz=0" ∷ "open B" ∷ "close A" ∷ "open A" ∷ "min A" ∷ [])

lines_to_its_end : lines_of (own (codes "A") opened_again) ≡ map codes ("open A" ∷ "open A" ∷ "see A zz=0" ∷ "close A" ∷ [])
unfolding digits
lines_to_its_end = refl

answers_to_its_end : told (codes "A") opened_again ≡ text (map codes ("A open" ∷ "A error 7 open already" ∷ "A error 9 no wire" ∷ "A closed" ∷ []))
unfolding digits
answers_to_its_end = refl
