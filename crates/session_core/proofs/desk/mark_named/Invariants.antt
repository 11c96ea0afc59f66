use Rattle.std.proofs.Common.{◌≡◌, ◌<◌, All}
use Rattle.std.specs.List.{list_all}
use Rattle.text_rules.specs.Names.{is_among}
use Rattle.text_rules.specs.Tokens.{words, tokens_left}
use Rattle.session_core.proofs.NamedParts.{AreMarked}
use Rattle.session_core.proofs.desk.mark_named.Given as goal

-- the words of the names so far are marked
abbrev pub invariant-loop-name : goal.invariant-loop-name
invariant-loop-name l = record {
  can_next : goal.iterator-loop-name.can_next l.name-iterator;
  is_finite : goal.iterator-loop-name.is_finite l.name-iterator;
  named : list_all (is_among l.parts) (words l.names) ≡ list_all (is_among l.parts) (tokens_left l.name-iterator);
  marked : AreMarked l.parts (words l.names) l.state (tokens_left l.name-iterator);
  bits : All (λ s. s < 2) l.state;
}
